use Rattle.std.proofs.Common.{◌≤◌, [], ◌∷◌, ◌++◌, None, refl, arith}
use Rattle.std.specs.Prelude.{string_bytes}
use Rattle.rmx_edge.specs.Counted.{with_count}
use Rattle.slave.specs.Given.{Sent, Swept, end_from}
use Rattle.slave.specs.Origin.{Origin}
use Rattle.slave.specs.Table.{Takes}
use Rattle.slave.proofs.Direct.{keeps_all}
use Rattle.slave.proofs.Rows.{end_push}
use Rattle.slave.proofs.Samples.{takes_sample}
use Rattle.slave.proofs.tests.given.Goals as goal
use Rattle.slave.proofs.tests.given.Goals.{in-Packet, in-Flush}

pub loop-turn-init : goal.loop-turn-init
loop-turn-init g c =
    let out : Origin = record { shelf = with_count (g.S.Shelf.state c.args.shelf) 0 0; name = string_bytes c.in_ok-name.name; format = c.format.result; seg = None; streams = c.in_ok-streams.streams } in
    (out, _, [], keeps_all (c.start.ensures out _ c.in-Ok.ensures.fresh), refl, c.format.ensures.format, c.in_ok-streams.ensures.1)

pub loop-turn-preserved : goal.loop-turn-preserved
loop-turn-preserved g c =
    let k = c.loop-turn.invariant in
    let p = c.in_ok-p.p in
    let i = c.index_of-index.result in
    let takes : Takes k.0 p = takes_sample c.args.kind k.0 p k.5 (c.in_ok-p.ensures k.0.streams k.6) in
    let later : end_from 0 k.2 ≤ c.index_of-index.result = omega (arith, k.4) in
    elim c.match-turn.branch [
      | in-Packet w ↦ (k.0, k.1, k.2 ++ Sent i p ∷ [], rw w.job-is (w.write_at.ensures k.0 k.1 k.2 k.3 later takes).keeps, end_push 0 k.2 (Sent i p), k.5, k.6)
      | in-Flush w ↦ (k.0, k.1, k.2 ++ Swept i w.in-Flush.number ∷ [], rw w.job-is (w.flush_at.ensures k.0 k.1 k.2 k.3 later).keeps, end_push 0 k.2 (Swept i w.in-Flush.number), k.5, k.6)
    ]

pub write_at-requires-clause-ready : goal.write_at-requires-clause-ready
write_at-requires-clause-ready g c =
    let k = c.loop-turn.invariant in
    let later : end_from 0 k.2 ≤ c.index_of-index.result = omega (arith, k.4) in
    (k.0, k.1, k.2, k.3, later, takes_sample c.args.kind k.0 c.in_ok-p.p k.5 (c.in_ok-p.ensures k.0.streams k.6))
