use Rattle.std.proofs.Common.{sym, ◌∙◌}
use Rattle.tee.proofs.Outputs.{sits_same}
use Rattle.tee.proofs.Routes.{passed_over, passed_whole}
use Rattle.tee.proofs.output.TeeSlave.pass.Goals as goal

pub write-requires : goal.write-requires
write-requires g c =
    let r = c.requires.ready in
    let f = passed_whole r.0 r.2 c.args.self.now.choice c.args.p.now c.requires.number r.4.sits.placed r.4.taken (sym c.passes.ensures ∙ c.if-passes.true) in
    record { ready = (r.0, r.1, r.2, r.3, r.4.sits, f.fits, r.5) }

pub returns-then-passes : goal.returns-then-passes
returns-then-passes g c = λ infos given seat history a.
    let f = passed_whole infos seat c.args.self.now.choice c.args.p.now c.requires.number a.sits.placed a.taken (sym c.passes.ensures ∙ c.if-passes.true) in
    c.write.ensures infos given seat history c.args.p.now a.sits f.is_choice f.fits

pub returns-else-passes : goal.returns-else-passes
returns-else-passes g c = λ infos given seat history a.
    sits_same g.S.Shelf.state infos given seat history c.args.p.now c.args.self.now a.sits
    (passed_over infos seat c.args.self.now.choice c.args.p.now c.requires.number a.sits.placed (sym c.passes.ensures ∙ c.if-passes.false) a.unfiltered)
