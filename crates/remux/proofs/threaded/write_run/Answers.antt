use Rattle.std.proofs.Common.{◌≡◌, ℕ, List, [], length, ap, ◌∙◌, sym, refl, arith, Bool}
use Rattle.std.proofs.lemmas.List.{length-map}
use Rattle.rmx_media.specs.declared.packet.Packet.{Packet}
use Rattle.interleaver.specs.Queues.{Pending}
use Rattle.options.specs.Slave.{view}
use Rattle.slave.specs.declared.job.SlaveEnd.{SlaveEnd}
use Rattle.tee.specs.RunEnds.{EndsAllRun}
use Rattle.tee.specs.RunKeeps.{KeepsRun, dead_in, infos_of, inlined, spare_of, theres_of}
use Rattle.remux.specs.Asked.{clamped}
use Rattle.remux.specs.KeptRun.{AreKeptRun}
use Rattle.remux.specs.Lineup.{Lineup}
use Rattle.remux.specs.Threads.{inlines}
use Rattle.remux.proofs.Endings.{clamped_small}
use Rattle.remux.proofs.Inlining.{inlines_seen}
use Rattle.remux.proofs.KeepingRun.{all_kept_run, as_many_ends_run}
use Rattle.remux.proofs.Running.{ready_by, kept_of, wrote_ends}
use Rattle.remux.proofs.threaded.write_run.Goals as goal

pub carry-end-requires-clause-ready : goal.carry-end-requires-clause-ready
carry-end-requires-clause-ready g c =
    let m = c.requires.made in
    let kept = c.take_spare-spare.ensures.keeps m.1 [] m.3.keeps in
    let lineup : Lineup = record { seats = m.1; threads = theres_of c.args.outputs } in
    let r = ready_by (clamped c.args.plan.now.max_bytes) c.args.plan.now.delta_us c.args.found m.0 _ _ _ _ c.args.line (infos_of c.take_spare-spare.new.self) (λ (given : List Packet). KeepsRun g.S.Shelf.state c.take_spare-spare.new.self m.1 given × (theres_of c.take_spare-spare.new.self ≡ theres_of c.args.outputs) × (0 ≡ length given)) m.2 (clamped_small c.args.plan.now.max_bytes) (c.take_spare-spare.ensures.infos ∙ m.3.infos) m.3.line_is (kept, c.take_spare-spare.ensures.threads, refl) in
    (m.2.streams, m.2.bytes, lineup, r.0, r.1)

pub finish-ends-requires : goal.finish-ends-requires
finish-ends-requires g c =
    let m = c.requires.made in
    let kept = c.take_spare-spare.ensures.keeps m.1 [] m.3.keeps in
    let lineup : Lineup = record { seats = m.1; threads = theres_of c.args.outputs } in
    let r = ready_by (clamped c.args.plan.now.max_bytes) c.args.plan.now.delta_us c.args.found m.0 _ _ _ _ c.args.line (infos_of c.take_spare-spare.new.self) (λ (given : List Packet). KeepsRun g.S.Shelf.state c.take_spare-spare.new.self m.1 given × (theres_of c.take_spare-spare.new.self ≡ theres_of c.args.outputs) × (0 ≡ length given)) m.2 (clamped_small c.args.plan.now.max_bytes) (c.take_spare-spare.ensures.infos ∙ m.3.infos) m.3.line_is (kept, c.take_spare-spare.ensures.threads, refl) in
    let k = kept_of c.carry-end.result _ _ _ _ _ _ _ _ _ (c.carry-end.ensures.carries m.2.streams m.2.bytes lineup r.0) in
    record { kept = (m.1, k.0, k.1.0) }

pub outcome_of-requires-clause-same : goal.outcome_of-requires-clause-same
outcome_of-requires-clause-same g c =
    let m = c.requires.made in
    let kept = c.take_spare-spare.ensures.keeps m.1 [] m.3.keeps in
    let lineup : Lineup = record { seats = m.1; threads = theres_of c.args.outputs } in
    let r = ready_by (clamped c.args.plan.now.max_bytes) c.args.plan.now.delta_us c.args.found m.0 _ _ _ _ c.args.line (infos_of c.take_spare-spare.new.self) (λ (given : List Packet). KeepsRun g.S.Shelf.state c.take_spare-spare.new.self m.1 given × (theres_of c.take_spare-spare.new.self ≡ theres_of c.args.outputs) × (0 ≡ length given)) m.2 (clamped_small c.args.plan.now.max_bytes) (c.take_spare-spare.ensures.infos ∙ m.3.infos) m.3.line_is (kept, c.take_spare-spare.ensures.threads, refl) in
    let k = kept_of c.carry-end.result _ _ _ _ _ _ _ _ _ (c.carry-end.ensures.carries m.2.streams m.2.bytes lineup r.0) in
    let e = c.finish-ends.ensures.ends m.1 k.0 k.1.0 in
    as_many_ends_run g.S.Shelf.state m.1 k.0 (dead_in c.carry-end.new.outputs.run) c.finish-ends.result.ends.items c.args.plan.now.slaves.items e m.3.aborts_are

pub outcome_of-requires-clause-few : goal.outcome_of-requires-clause-few
outcome_of-requires-clause-few g c =
    let m = c.requires.made in
    let kept = c.take_spare-spare.ensures.keeps m.1 [] m.3.keeps in
    let lineup : Lineup = record { seats = m.1; threads = theres_of c.args.outputs } in
    let r = ready_by (clamped c.args.plan.now.max_bytes) c.args.plan.now.delta_us c.args.found m.0 _ _ _ _ c.args.line (infos_of c.take_spare-spare.new.self) (λ (given : List Packet). KeepsRun g.S.Shelf.state c.take_spare-spare.new.self m.1 given × (theres_of c.take_spare-spare.new.self ≡ theres_of c.args.outputs) × (0 ≡ length given)) m.2 (clamped_small c.args.plan.now.max_bytes) (c.take_spare-spare.ensures.infos ∙ m.3.infos) m.3.line_is (kept, c.take_spare-spare.ensures.threads, refl) in
    let k = kept_of c.carry-end.result _ _ _ _ _ _ _ _ _ (c.carry-end.ensures.carries m.2.streams m.2.bytes lineup r.0) in
    let e = c.finish-ends.ensures.ends m.1 k.0 k.1.0 in
    let n = as_many_ends_run g.S.Shelf.state m.1 k.0 (dead_in c.carry-end.new.outputs.run) c.finish-ends.result.ends.items c.args.plan.now.slaves.items e m.3.aborts_are in
    omega (arith, c.requires.valid.few, n, length-map c.args.plan.now.slaves.items view)

pub returns-clause-inline : goal.returns-clause-inline
returns-clause-inline g c = λ start seats w m.
    let kept = c.take_spare-spare.ensures.keeps seats [] m.keeps in
    let lineup : Lineup = record { seats = seats; threads = theres_of c.args.outputs } in
    let r = ready_by (clamped c.args.plan.now.max_bytes) c.args.plan.now.delta_us c.args.found start _ _ _ _ c.args.line (infos_of c.take_spare-spare.new.self) (λ (given : List Packet). KeepsRun g.S.Shelf.state c.take_spare-spare.new.self seats given × (theres_of c.take_spare-spare.new.self ≡ theres_of c.args.outputs) × (0 ≡ length given)) w (clamped_small c.args.plan.now.max_bytes) (c.take_spare-spare.ensures.infos ∙ m.infos) m.line_is (kept, c.take_spare-spare.ensures.threads, refl) in
    let k = kept_of c.carry-end.result _ _ _ _ _ _ _ _ _ (c.carry-end.ensures.carries w.streams w.bytes lineup r.0) in
    ap (λ (ends : List (SlaveEnd _)). inlines ends) c.outcome_of.ensures.ends_are ∙ inlines_seen g.S.Shelf.state c.finish-ends.result.ends.items
    ∙ c.finish-ends.ensures.inline seats k.0 k.1.0 ∙ ap (λ (threads : List Bool). inlined seats threads) k.1.1

pub returns-clause-written : goal.returns-clause-written
returns-clause-written g c = λ name old start shelves seats op le w m seated first.
    let kept = c.take_spare-spare.ensures.keeps seats [] m.keeps in
    let lineup : Lineup = record { seats = seats; threads = theres_of c.args.outputs } in
    let r = ready_by (clamped c.args.plan.now.max_bytes) c.args.plan.now.delta_us c.args.found start _ _ _ _ c.args.line (infos_of c.take_spare-spare.new.self) (λ (given : List Packet). KeepsRun g.S.Shelf.state c.take_spare-spare.new.self seats given × (theres_of c.take_spare-spare.new.self ≡ theres_of c.args.outputs) × (0 ≡ length given)) w (clamped_small c.args.plan.now.max_bytes) (c.take_spare-spare.ensures.infos ∙ m.infos) m.line_is (kept, c.take_spare-spare.ensures.threads, refl) in
    wrote_ends EndsAllRun AreKeptRun g.S.Shelf.state c.args.plan.now name c.args.found old start (g.I.Inputs.state c.args.inputs.now) (g.I.Inputs.state c.carry-end.new.inputs) _ _ _ c.carry-end.new.demux c.carry-end.result c.carry-end.new.line shelves seats
    (λ (given : List Packet). KeepsRun g.S.Shelf.state c.carry-end.new.outputs.run seats given × (theres_of c.carry-end.new.outputs.run ≡ theres_of c.args.outputs) × (c.carry-end.new.outputs.given ≡ length given)) (λ (u : ℕ). dead_in c.carry-end.new.outputs.run u) c.carry-end.new.outputs.given (spare_of c.args.outputs) c.take_spare-spare.result.items c.finish-ends.result.ends.items _
    op le w c.carry-end.ensures.still (c.carry-end.ensures.same.0 ∙ r.0.count) (c.carry-end.ensures.same.1 ∙ ap (λ (v : Pending). v.delta) m.line_is)
    (sym c.take_spare-spare.ensures.spare) m.aborts_are
    (λ given x. all_kept_run c.no_fault_no_loss.ensures c.ends_meet_accounts.ensures seats given x.tracks _ x.each)
    (λ given k. (k.2, c.finish-ends.ensures.ends seats given k.0, λ u d. c.finish-ends.ensures.failed u d seats given k.0))
    c.outcome_of.ensures
    seated first (c.carry-end.ensures.carries w.streams w.bytes lineup r.0)
