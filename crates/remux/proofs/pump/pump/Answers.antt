use Rattle.std.proofs.Common.{◌<◌, arith, sym, ◌∙◌, refl}
use Rattle.remux.proofs.Counting.{ready_for}
use Rattle.remux.proofs.Pumping.{few_streams, in_order, flowing_more, stopped_by, all_given, flowing_later, cut_at, cut_between}
use Rattle.remux.proofs.pump.pump.Goals as goal

pub hand_over-requires-clause-stream : goal.hand_over-requires-clause-stream
hand_over-requires-clause-stream g c =
    let w = c.packets.invariant.some in
    let st = (rw c.in-Ok-Packet.field-0-is at c.in-Ok-Packet.ensures.step) w.0 w.1 w.3.tags w.3.streams w.3.some w.3.dealt in
    let gv = st.1 in
    rw w.3.count gv.stream

pub hand_over-requires-clause-two : goal.hand_over-requires-clause-two
hand_over-requires-clause-two g c =
    let w = c.packets.invariant.some in rw w.3.count (few_streams w.0)

pub hand_over-requires-clause-order : goal.hand_over-requires-clause-order
hand_over-requires-clause-order g c =
    let w = c.packets.invariant.some in
    let st = (rw c.in-Ok-Packet.field-0-is at c.in-Ok-Packet.ensures.step) w.0 w.1 w.3.tags w.3.streams w.3.some w.3.dealt in
    let gv = st.1 in
    let low : c.in-Ok-Packet.p.stream < 2 = omega (arith, gv.stream, few_streams w.0) in
    in_order _ _ c.packets.line c.in-Ok-Packet.p low w.3.flow gv.order

pub unreachable-requires : goal.unreachable-requires
unreachable-requires g c =
    let w = c.packets.invariant.some in
    (rw c.in-Err-NoStreams.field-0-is at c.in-Err-NoStreams.ensures.step) w.0 w.1 w.3.tags w.3.streams w.3.some w.3.dealt

pub hand_over-requires-clause-ready : goal.hand_over-requires-clause-ready
hand_over-requires-clause-ready g c =
    let w = c.packets.invariant.some in
    let st = (rw c.in-Ok-Packet.field-0-is at c.in-Ok-Packet.ensures.step) w.0 w.1 w.3.tags w.3.streams w.3.some w.3.dealt in
    let gv = st.1 in
    (w.2, w.3.given, w.3.kept, ready_for w.0 w.1 w.3.given c.packets.line c.in-Ok-Packet.p w.3.tags _ w.4 w.3.flow gv)

pub hand_over-requires-clause-taken : goal.hand_over-requires-clause-taken
hand_over-requires-clause-taken g c =
    let w = c.packets.invariant.some in
    let st = (rw c.in-Ok-Packet.field-0-is at c.in-Ok-Packet.ensures.step) w.0 w.1 w.3.tags w.3.streams w.3.some w.3.dealt in
    let gv = st.1 in
    w.3.accepts c.in-Ok-Packet.p gv.fit

pub returns-in-Ok-Stop-clause-pumps : goal.returns-in-Ok-Stop-clause-pumps
returns-in-Ok-Stop-clause-pumps g c = λ s b start f0.
    let fm = c.packets.invariant.all s b start f0 in
    let f = fm.0 in
    let st = (rw c.in-Ok-Packet.field-0-is at c.in-Ok-Packet.ensures.step) s b f.tags f.streams f.some f.dealt in
    let gv = st.1 in
    stopped_by s b _ _ _ c.packets.line _ _ _ _ _ _ c.in-Ok-Packet.p _ f fm.1 gv c.hand_over.ensures.same.0 c.hand_over.ensures.same.1
    ((rw c.in-Ok-Stop.field-0-is at c.in-Ok-Stop.ensures.handed) _ f.given start f.flow f.kept)

pub returns-in-Err-clause-pumps : goal.returns-in-Err-clause-pumps
returns-in-Err-clause-pumps g c = λ s b start f0.
    let fm = c.packets.invariant.all s b start f0 in
    let f = fm.0 in
    let st = (rw c.in-Ok-Packet.field-0-is at c.in-Ok-Packet.ensures.step) s b f.tags f.streams f.some f.dealt in
    let gv = st.1 in
    cut_at s b _ _ _ c.packets.line c.hand_over.new.line _ _ _ _ _ c.in-Ok-Packet.p f gv c.hand_over.ensures.same.0 c.hand_over.ensures.same.1
    (c.in-Err.ensures.some _ f.given start f.flow f.kept)

pub returns-in-Ok-NeedMore-clause-pumps : goal.returns-in-Ok-NeedMore-clause-pumps
returns-in-Ok-NeedMore-clause-pumps g c = λ s b start f0.
    let fm = c.packets.invariant.all s b start f0 in
    let f = fm.0 in
    let n = (rw c.in-Ok-NeedMore.field-0-is at c.in-Ok-NeedMore.ensures.step) s b f.tags f.streams f.some f.dealt in
    (sym c.packets.invariant.ended ∙ n.1, all_given s b _ _ _ _ _ _ _ _ f n.0 n.2)

pub returns-in-Ok-End-clause-pumps : goal.returns-in-Ok-End-clause-pumps
returns-in-Ok-End-clause-pumps g c = λ s b start f0.
    let fm = c.packets.invariant.all s b start f0 in
    let f = fm.0 in
    let n = (rw c.in-Ok-End.field-0-is at c.in-Ok-End.ensures.step) s b f.tags f.streams f.some f.dealt in
    (sym c.packets.invariant.ended ∙ n.1, n.2, all_given s b _ _ _ _ _ _ _ _ f n.0 n.3)

pub returns-in-Err-Tag-clause-pumps : goal.returns-in-Err-Tag-clause-pumps
returns-in-Err-Tag-clause-pumps g c = λ s b start f0.
    let fm = c.packets.invariant.all s b start f0 in
    let f = fm.0 in
    let n = (rw c.in-Err-Tag.field-0-is at c.in-Err-Tag.ensures.step) s b f.tags f.streams f.some f.dealt in
    (sym c.packets.invariant.ended ∙ n.1, n.2, n.3, all_given s b _ _ _ _ _ _ _ _ f n.0 n.4)

pub returns-in-Err-NoMemory-clause-pumps : goal.returns-in-Err-NoMemory-clause-pumps
returns-in-Err-NoMemory-clause-pumps g c = λ s b start f0.
    let fm = c.packets.invariant.all s b start f0 in
    let f = fm.0 in
    let n = (rw c.in-Err-NoMemory.field-0-is at c.in-Err-NoMemory.ensures.step) s b f.tags f.streams f.some f.dealt in
    cut_between s b b _ _ _ c.packets.line _ _ _ n.tags f f.begin n.begin b n.dealt

pub packets-preserved : goal.packets-preserved
packets-preserved g c = record {
  some =
      let w = c.packets.invariant.some in
      let st = (rw c.in-Ok-Packet.field-0-is at c.in-Ok-Packet.ensures.step) w.0 w.1 w.3.tags w.3.streams w.3.some w.3.dealt in
      let gv = st.1 in (
        w.0,
        w.1,
        w.2,
        flowing_more w.0 w.1 _ _ _ _ c.packets.line _ _ _ _ _ _ _ c.in-Ok-Packet.p w.3 st.0 gv c.hand_over.ensures.same.0
            ((rw c.in-Ok-More.field-0-is at c.in-Ok-More.ensures.handed) _ w.3.given w.2 w.3.flow w.3.kept) c.hand_over.ensures.pending c.hand_over.ensures.takes,
        w.4,
      );
  all = λ s b start f0.
      let fm = c.packets.invariant.all s b start f0 in
      let f = fm.0 in
      let st = (rw c.in-Ok-Packet.field-0-is at c.in-Ok-Packet.ensures.step) s b f.tags f.streams f.some f.dealt in
      let gv = st.1 in
      flowing_later s b _ _ _ _ c.packets.line _ _ _ _ _ _ _ c.in-Ok-Packet.p _ f fm.1 st.0 gv c.hand_over.ensures.same.0
      ((rw c.in-Ok-More.field-0-is at c.in-Ok-More.ensures.handed) _ f.given start f.flow f.kept) c.hand_over.ensures.pending c.hand_over.ensures.takes;
  same = (c.hand_over.ensures.same.0 ∙ c.packets.invariant.same.0, c.hand_over.ensures.same.1 ∙ c.packets.invariant.same.1);
  ended = c.next_packet.ensures.ended ∙ c.packets.invariant.ended;
}

pub packets-init : goal.packets-init
packets-init g c = record {
  some = c.requires.flows;
  all = λ s b start f0. (f0, omega arith);
  same = (refl, refl);
  ended = refl;
}
