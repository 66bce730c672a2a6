use Rattle.std.proofs.Common.{◌≡◌, ◌∙◌, ◌++◌, ◌∷◌, [], List, arith, ap, sym}
use Rattle.std.proofs.lemmas.Int.{ints}
use Rattle.rmx_media.specs.declared.packet.Packet.{Packet}
use Rattle.interleaver.specs.Queues.{Pending}
use Rattle.interleaver.proofs.Lines.{queue_got, at_first, at_second, pushed_first, pushed_second}
use Rattle.interleaver.proofs.Steps.{carried_push}
use Rattle.interleaver.proofs.Interleaver.push.Goals as goal

pub invariant_of-self-then-p-eq0 : goal.invariant_of-self-then-p-eq0
invariant_of-self-then-p-eq0 c = record {
  some_stream = c.self.invariant.some_stream;
  most = c.self.invariant.most;
  first = queue_got 0 c.self.inside.first_last _ c.args.p _ _ c.if-p-eq0.true
      (at_first c.args.self.now _ _ c.args.p.stream (sym (ap (λ (v : Pending). v.first_last) c.self.view_is)) c.if-p-eq0.true c.requires.order)
      c.self.invariant.first (omega (arith, ints)) (c.push_back_reserved.ensures.items ∙ ap (λ (l : List Packet). l ++ c.args.p ∷ []) c.has_room.ensures.items);
  second = c.self.invariant.second;
}

pub returns-then-p-eq0-clause-ok : goal.returns-then-p-eq0-clause-ok
returns-then-p-eq0-clause-ok c =
    rw (← c.self.view_is) (pushed_first _ _ c.self.inside.first_last _ _ _ c.args.p c.self.inside.first.items _ _ c.if-p-eq0.true
    (at_first c.args.self.now _ _ c.args.p.stream (sym (ap (λ (v : Pending). v.first_last) c.self.view_is)) c.if-p-eq0.true c.requires.order)
    c.self.invariant.first c.self.invariant.second (omega (arith, ints)) (c.push_back_reserved.ensures.items ∙ ap (λ (l : List Packet). l ++ c.args.p ∷ []) c.has_room.ensures.items))

pub returns-then-p-eq0-clause-carries : goal.returns-then-p-eq0-clause-carries
returns-then-p-eq0-clause-carries c = λ pushed out k. carried_push c.args.p c.args.self.now _ pushed out c.requires.stream c.requires.unfinished c.requires.stuck (returns-then-p-eq0-clause-ok c) k

pub invariant_of-self-2 : goal.invariant_of-self-2
invariant_of-self-2 c =
    let few : c.args.self.now.streams ≡ c.self.inside.streams = sym (ap (λ (v : Pending). v.streams) c.self.view_is) in
    let one : c.args.p.stream ≡ 1 = omega (arith, few, c.self.invariant.most, c.requires.stream, c.if-p-eq0.false) in
    record {
      some_stream = c.self.invariant.some_stream;
      most = c.self.invariant.most;
      first = c.self.invariant.first;
      second = queue_got 1 c.self.inside.second_last _ c.args.p _ _ one
          (at_second c.args.self.now _ _ c.args.p.stream (sym (ap (λ (v : Pending). v.second_last) c.self.view_is)) one c.requires.order)
          c.self.invariant.second (omega (arith, ints)) (c.push_back_reserved-2.ensures.items ∙ ap (λ (l : List Packet). l ++ c.args.p ∷ []) c.has_room-2.ensures.items);
    }

pub returns-clause-carries : goal.returns-clause-carries
returns-clause-carries c = λ pushed out k.
    let few : c.args.self.now.streams ≡ c.self.inside.streams = sym (ap (λ (v : Pending). v.streams) c.self.view_is) in
    let one : c.args.p.stream ≡ 1 = omega (arith, few, c.self.invariant.most, c.requires.stream, c.if-p-eq0.false) in
    carried_push c.args.p c.args.self.now _ pushed out c.requires.stream c.requires.unfinished c.requires.stuck
    (rw (← c.self.view_is) (pushed_second _ _ c.self.inside.first_last _ _ _ c.args.p c.self.inside.first.items _ _ one (omega (arith, ints)) (c.push_back_reserved-2.ensures.items ∙ ap (λ (l : List Packet). l ++ c.args.p ∷ []) c.has_room-2.ensures.items))) k
