use Rattle.std.proofs.Common.{sym, refl, arith}
use Rattle.tee.specs.Seat.{chosen}
use Rattle.tee.proofs.Outputs.{few_chosen, one_more, sits_more}
use Rattle.tee.proofs.output.TeeSlave.write.Goals as goal

pub write_direct-requires-clause-few : goal.write_direct-requires-clause-few
write_direct-requires-clause-few g c =
    let r = c.requires.ready in
    omega (arith, few_chosen r.2 r.1, r.4.count, r.6)

pub overflow_add-self : goal.overflow_add-self
overflow_add-self g c =
    let r = c.requires.ready in
    one_more c.args.self.now.count (omega (arith, few_chosen r.2 r.1, r.4.count, r.6))

pub returns : goal.returns
returns g c = λ infos given seat history q s e fits.
    sits_more g.S.Shelf.state infos given seat history q c.args.p.now c.args.self.now _ s e refl refl
    (c.write_direct.ensures seat.origin seat.slave.fifo (chosen seat given) s.keeps (sym s.count) fits)
