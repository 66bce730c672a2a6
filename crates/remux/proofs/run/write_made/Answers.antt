use Rattle.std.proofs.Common.{◌≡◌, ℕ, List, [], length, ap, ◌∙◌, sym, refl, arith}
use Rattle.std.proofs.lemmas.List.{length-map}
use Rattle.rmx_media.specs.declared.packet.Packet.{Packet}
use Rattle.interleaver.specs.Queues.{Pending}
use Rattle.options.specs.Slave.{view}
use Rattle.tee.specs.Ends.{EndsAll}
use Rattle.tee.specs.Keeps.{Keeps, infos_of, dead_in, spare_of}
use Rattle.remux.specs.Kept.{AreKept}
use Rattle.remux.specs.Asked.{clamped}
use Rattle.remux.proofs.Endings.{all_kept, as_many_ends, clamped_small}
use Rattle.remux.proofs.Running.{ready_by, kept_of, wrote_ends}
use Rattle.remux.proofs.run.write_made.Goals as goal

pub carry-end-requires-clause-ready : goal.carry-end-requires-clause-ready
carry-end-requires-clause-ready g c =
    let m = c.requires.made in
    let kept = c.take_spare-spare.ensures.keeps m.1 [] m.3.keeps in
    let r = ready_by (clamped c.args.plan.now.max_bytes) c.args.plan.now.delta_us c.args.found m.0 _ _ _ _ c.args.line (infos_of c.take_spare-spare.new.self) (λ (given : List Packet). Keeps g.S.Shelf.state c.take_spare-spare.new.self m.1 given × (0 ≡ length given)) m.2 (clamped_small c.args.plan.now.max_bytes) (c.take_spare-spare.ensures.infos ∙ m.3.infos) m.3.line_is (kept, refl) in
    (m.2.streams, m.2.bytes, record { seats = m.1; threads = [] }, r.0, r.1)

pub finish-ends-requires : goal.finish-ends-requires
finish-ends-requires g c =
    let m = c.requires.made in
    let kept = c.take_spare-spare.ensures.keeps m.1 [] m.3.keeps in
    let r = ready_by (clamped c.args.plan.now.max_bytes) c.args.plan.now.delta_us c.args.found m.0 _ _ _ _ c.args.line (infos_of c.take_spare-spare.new.self) (λ (given : List Packet). Keeps g.S.Shelf.state c.take_spare-spare.new.self m.1 given × (0 ≡ length given)) m.2 (clamped_small c.args.plan.now.max_bytes) (c.take_spare-spare.ensures.infos ∙ m.3.infos) m.3.line_is (kept, refl) in
    let k = kept_of c.carry-end.result _ _ _ _ _ _ _ _ _ (c.carry-end.ensures.carries m.2.streams m.2.bytes (record { seats = m.1; threads = [] }) r.0) in
    record { kept = (m.1, k.0, k.1.0) }

pub outcome_of-requires-clause-same : goal.outcome_of-requires-clause-same
outcome_of-requires-clause-same g c =
    let m = c.requires.made in
    let kept = c.take_spare-spare.ensures.keeps m.1 [] m.3.keeps in
    let r = ready_by (clamped c.args.plan.now.max_bytes) c.args.plan.now.delta_us c.args.found m.0 _ _ _ _ c.args.line (infos_of c.take_spare-spare.new.self) (λ (given : List Packet). Keeps g.S.Shelf.state c.take_spare-spare.new.self m.1 given × (0 ≡ length given)) m.2 (clamped_small c.args.plan.now.max_bytes) (c.take_spare-spare.ensures.infos ∙ m.3.infos) m.3.line_is (kept, refl) in
    let k = kept_of c.carry-end.result _ _ _ _ _ _ _ _ _ (c.carry-end.ensures.carries m.2.streams m.2.bytes (record { seats = m.1; threads = [] }) r.0) in
    let e = c.finish-ends.ensures.ends m.1 k.0 k.1.0 in
    as_many_ends g.S.Shelf.state m.1 k.0 (dead_in c.carry-end.new.outputs.tee) c.finish-ends.result.ends.items c.args.plan.now.slaves.items e m.3.aborts_are

pub outcome_of-requires-clause-few : goal.outcome_of-requires-clause-few
outcome_of-requires-clause-few g c =
    let m = c.requires.made in
    let kept = c.take_spare-spare.ensures.keeps m.1 [] m.3.keeps in
    let r = ready_by (clamped c.args.plan.now.max_bytes) c.args.plan.now.delta_us c.args.found m.0 _ _ _ _ c.args.line (infos_of c.take_spare-spare.new.self) (λ (given : List Packet). Keeps g.S.Shelf.state c.take_spare-spare.new.self m.1 given × (0 ≡ length given)) m.2 (clamped_small c.args.plan.now.max_bytes) (c.take_spare-spare.ensures.infos ∙ m.3.infos) m.3.line_is (kept, refl) in
    let k = kept_of c.carry-end.result _ _ _ _ _ _ _ _ _ (c.carry-end.ensures.carries m.2.streams m.2.bytes (record { seats = m.1; threads = [] }) r.0) in
    let e = c.finish-ends.ensures.ends m.1 k.0 k.1.0 in
    let n = as_many_ends g.S.Shelf.state m.1 k.0 (dead_in c.carry-end.new.outputs.tee) c.finish-ends.result.ends.items c.args.plan.now.slaves.items e m.3.aborts_are in
    omega (arith, c.requires.valid.few, n, length-map c.args.plan.now.slaves.items view)

pub returns-clause-written : goal.returns-clause-written
returns-clause-written g c = λ name old start shelves seats op le w m seated first.
    let kept = c.take_spare-spare.ensures.keeps seats [] m.keeps in
    let r = ready_by (clamped c.args.plan.now.max_bytes) c.args.plan.now.delta_us c.args.found start _ _ _ _ c.args.line (infos_of c.take_spare-spare.new.self) (λ (given : List Packet). Keeps g.S.Shelf.state c.take_spare-spare.new.self seats given × (0 ≡ length given)) w (clamped_small c.args.plan.now.max_bytes) (c.take_spare-spare.ensures.infos ∙ m.infos) m.line_is (kept, refl) in
    wrote_ends EndsAll AreKept g.S.Shelf.state c.args.plan.now name c.args.found old start (g.I.Inputs.state c.args.inputs.now) (g.I.Inputs.state c.carry-end.new.inputs) _ _ _ c.carry-end.new.demux c.carry-end.result c.carry-end.new.line shelves seats
    (λ (given : List Packet). Keeps g.S.Shelf.state c.carry-end.new.outputs.tee seats given × (c.carry-end.new.outputs.given ≡ length given)) (λ (u : ℕ). dead_in c.carry-end.new.outputs.tee u) c.carry-end.new.outputs.given (spare_of c.args.tee) c.take_spare-spare.result.items c.finish-ends.result.ends.items _
    op le w c.carry-end.ensures.still (c.carry-end.ensures.same.0 ∙ r.0.count) (c.carry-end.ensures.same.1 ∙ ap (λ (v : Pending). v.delta) m.line_is)
    (sym c.take_spare-spare.ensures.spare) m.aborts_are
    (λ given x. all_kept c.no_fault_no_loss.ensures c.ends_meet_accounts.ensures seats given x.histories _ x.each)
    (λ given k. (k.1, c.finish-ends.ensures.ends seats given k.0, λ u d. c.finish-ends.ensures.failed u d seats given k.0))
    c.outcome_of.ensures
    seated first (c.carry-end.ensures.carries w.streams w.bytes (record { seats = seats; threads = [] }) r.0)
