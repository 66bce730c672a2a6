-- How runs of calls join.
use Rattle.std.proofs.Common.{◌≡◌, ℕ, ◌+◌, ◌≤◌, inl, inr, Bool, List, [], ◌∷◌, ◌++◌, length, arith, ap, ◌∙◌, sym, refl, append_assoc, length-append, add_assoc, Result, Ok, Err, Option, Some, None, subst}
use Rattle.std.specs.Prelude.{option_map}
use Rattle.rmx_edge.specs.declared.shelf.ShelfFault.{ShelfFault}
use Rattle.rmx_edge.specs.Count.{raised, Rose}
use Rattle.rmx_edge.specs.Shelf.{ShelfTake, ShelfCall, ShelfState, Accepted, after, after_call, stays_open, size_of, total, with_call, accepted_by, IsLeftBy, TakesAfter, Makes}
use Rattle.rmx_edge.specs.Run.{writing_after, bytes_of, AreLeftBy, Stopped, Completed, CompletedOrStopped, Runs}

pub after-append : (xs ys : List ShelfCall) (takes : List ShelfTake) → after (xs ++ ys) takes ≡ after ys (after xs takes)
after-append [] ys takes = refl
after-append (x ∷ xs) ys takes = after-append xs ys (after_call x takes)

pub writing_after-append : (xs ys : List ShelfCall) (w : Bool) → writing_after (xs ++ ys) w ≡ writing_after ys (writing_after xs w)
writing_after-append [] ys w = refl
writing_after-append (x ∷ xs) ys w = writing_after-append xs ys (stays_open x)

pub accepted_by-append : (xs ys : List ShelfCall) (a : Accepted) → accepted_by (xs ++ ys) a ≡ accepted_by ys (accepted_by xs a)
accepted_by-append [] ys a = refl
accepted_by-append (x ∷ xs) ys a = accepted_by-append xs ys (with_call (size_of x) a)

pub rose_later : (a b c : ℕ) → a ≤ b → Rose b c → Rose a c
rose_later a b c h (inl lt) = inl (omega arith)
rose_later a b c h (inr e) = inr e

pub raised-raised : (n j k : ℕ) → raised (raised n j) k ≡ raised n (j + k)
raised-raised n j k = omega arith

pub total-accepted : (calls : List ShelfCall) (a : Accepted) → total (accepted_by calls a) ≡ raised (total a) (bytes_of calls)
total-accepted [] a = omega arith
total-accepted (call ∷ calls) a = total-accepted calls (with_call (size_of call) a) ∙ raised-raised (total a) (size_of call) (bytes_of calls)

takes_one_ok : {T : Type 0} (call : ShelfCall) (x : T) (old new : Option (List ShelfTake)) → TakesAfter call (Ok x) old new → new ≡ option_map (after (call ∷ [])) old
takes_one_ok call x None new h = h
takes_one_ok call x (Some old) new h = h

takes_one_err : (T : Type 0) (call : ShelfCall) (e : ShelfFault) (old new : Option (List ShelfTake)) → TakesAfter {T = T} call (Err e) old new → AreLeftBy [] call old new
takes_one_err T call e None new h = h
takes_one_err T call e (Some old) None h = h
takes_one_err T call e (Some old) (Some new) h = h

made_one : {T : Type 0} (call : ShelfCall) (r : Result T ShelfFault) (old new : ShelfState) → Makes call r old new → CompletedOrStopped (call ∷ []) r old new
made_one call (Ok x) old new h = record { takes = takes_one_ok call x old.takes new.takes h.takes; count = h.calls; accepted = h.accepted }
made_one {T} call (Err e) old new h = record {
  made = [];
  refused = call;
  rest = [];
  split = refl;
  enough = omega arith;
  takes = takes_one_err T call e old.takes new.takes h.takes;
  count = h.calls;
  accepted = h.accepted;
}

-- one call is a run
pub runs_one : {T : Type 0} {call : ShelfCall} {r : Result T ShelfFault} {old new : ShelfState} → Makes call r old new → Runs (call ∷ []) r old new
runs_one {T} {call} {r} {old} {new} h = record {
  calls_made = made_one call r old new h;
  writing = h.writing;
  faults = h.faults;
  failed = h.failed;
  wants = h.wants;
  no_memory = h.no_memory;
  counted = λ _. h.counted;
  sound = h.sound;
}

takes_then_ok : (xs ys : List ShelfCall) (a b c : Option (List ShelfTake)) → b ≡ option_map (after xs) a → c ≡ option_map (after ys) b → c ≡ option_map (after (xs ++ ys)) a
takes_then_ok xs ys None b c p q = q ∙ ap (option_map (after ys)) p
takes_then_ok xs ys (Some t) b c p q = q ∙ ap (option_map (after ys)) p ∙ ap Some (sym (after-append xs ys t))

count_then : (a b c : Option ℕ) (j k : ℕ) → b ≡ option_map (λ n. raised n j) a → c ≡ option_map (λ n. raised n k) b → c ≡ option_map (λ n. raised n (j + k)) a
count_then None b c j k p q = q ∙ ap (option_map (λ n. raised n k)) p
count_then (Some n) b c j k p q = q ∙ ap (option_map (λ n. raised n k)) p ∙ ap Some (raised-raised n j k)

accepted_then : (xs : List ShelfCall) (f : Accepted → Accepted) (a b c : Option Accepted) → b ≡ option_map (accepted_by xs) a → c ≡ option_map f b → c ≡ option_map (λ x. f (accepted_by xs x)) a
accepted_then xs f None b c p q = q ∙ ap (option_map f) p
accepted_then xs f (Some t) b c p q = q ∙ ap (option_map f) p

accepted_more : (xs ys : List ShelfCall) (f : Accepted → Accepted) (a c : Option Accepted) → c ≡ option_map (λ x. f (accepted_by ys (accepted_by xs x))) a → c ≡ option_map (λ x. f (accepted_by (xs ++ ys) x)) a
accepted_more xs ys f None c p = p
accepted_more xs ys f (Some t) c p = p ∙ ap (λ (x : Accepted). Some (f x)) (sym (accepted_by-append xs ys t))

takes_then_err : (xs made : List ShelfCall) (refused : ShelfCall) (a b c : Option (List ShelfTake)) → b ≡ option_map (after xs) a → AreLeftBy made refused b c → AreLeftBy (xs ++ made) refused a c
takes_then_err xs made refused None b c p h = subst (λ b. AreLeftBy made refused b c) p h
takes_then_err xs made refused (Some t) b None p h = subst (λ b. AreLeftBy made refused b None) p h
takes_then_err xs made refused (Some t) b (Some u) p h =
    let k : IsLeftBy refused (after made (after xs t)) u = subst (λ b. AreLeftBy made refused b (Some u)) p h in
    subst (λ ts. IsLeftBy refused ts u) (sym (after-append xs made t)) k

made_then : {T : Type 0} (xs ys : List ShelfCall) (r : Result T ShelfFault) (a b c : ShelfState) → Completed xs a b → CompletedOrStopped ys r b c → CompletedOrStopped (xs ++ ys) r a c
made_then xs ys (Ok x) a b c p q = record {
  takes = takes_then_ok xs ys a.takes b.takes c.takes p.takes q.takes;
  count = rw length-append (count_then a.calls b.calls c.calls (length xs) (length ys) p.count q.count);
  accepted = accepted_more xs ys (λ (x : Accepted). x) a.accepted c.accepted (accepted_then xs (accepted_by ys) a.accepted b.accepted c.accepted p.accepted q.accepted);
}
made_then xs ys (Err e) a b c p q = record {
  made = xs ++ q.made;
  refused = q.refused;
  rest = q.rest;
  split = ap (λ zs. xs ++ zs) q.split ∙ sym (append_assoc xs q.made (q.refused ∷ q.rest));
  enough = omega arith;
  takes = takes_then_err xs q.made q.refused a.takes b.takes c.takes p.takes q.takes;
  count = rw (length-append xs q.made, add_assoc) (count_then a.calls b.calls c.calls (length xs) (length q.made + 1) p.count q.count);
  accepted = accepted_more xs q.made (with_call 0) a.accepted c.accepted
      (accepted_then xs (λ (x : Accepted). with_call 0 (accepted_by q.made x)) a.accepted b.accepted c.accepted p.accepted q.accepted);
}

-- a run that was completed, and then another
pub runs_then : {T : Type 0} {xs ys : List ShelfCall} {x : T} {r : Result T ShelfFault} {a b c : ShelfState} → Runs xs (Ok x) a b → Runs ys r b c → Runs (xs ++ ys) r a c
runs_then {T} {xs} {ys} {x} {r} {a} {b} {c} p q = record {
  calls_made = made_then xs ys r a b c p.calls_made q.calls_made;
  writing = rw writing_after-append (rw p.writing at q.writing);
  faults = omega arith;
  failed = λ e. rose_later a.faults b.faults c.faults p.faults (q.failed e);
  wants = omega arith;
  no_memory = λ e. rose_later a.wants b.wants c.wants p.wants (q.no_memory e);
  counted = λ k. q.counted (p.counted k);
  sound = λ s. let m = p.sound s in let n = q.sound m.sound in record { ok = n.ok; faults = n.faults ∙ m.faults; sound = n.sound };
}

-- a run that was stopped is one of every longer list of calls
pub runs_stopped : {T : Type 0} {xs : List ShelfCall} (ys : List ShelfCall) {e : ShelfFault} {a b : ShelfState} → Runs {T = T} xs (Err e) a b → Runs {T = T} (xs ++ ys) (Err e) a b
runs_stopped {T} {xs} ys {e} {a} {b} p = record {
  calls_made = record {
    made = p.calls_made.made;
    refused = p.calls_made.refused;
    rest = p.calls_made.rest ++ ys;
    split = ap (λ zs. zs ++ ys) p.calls_made.split ∙ append_assoc p.calls_made.made (p.calls_made.refused ∷ p.calls_made.rest) ys;
    enough = p.calls_made.enough;
    takes = p.calls_made.takes;
    count = p.calls_made.count;
    accepted = p.calls_made.accepted;
  };
  writing = p.writing;
  faults = p.faults;
  failed = p.failed;
  wants = p.wants;
  no_memory = p.no_memory;
  counted = p.counted;
  sound = p.sound;
}

none_taken : (o : Option (List ShelfTake)) → o ≡ option_map (after []) o
none_taken None = refl
none_taken (Some t) = refl

none_counted : (o : Option ℕ) → o ≡ option_map (λ n. raised n 0) o
none_counted None = refl
none_counted (Some n) = let e : n ≡ raised n 0 = omega arith in ap Some e

none_accepted : (o : Option Accepted) → o ≡ option_map (accepted_by []) o
none_accepted None = refl
none_accepted (Some a) = refl

-- no call is a run too
pub runs_none : {T : Type 0} {x : T} (s : ShelfState) → Runs [] (Ok x) s s
runs_none {T} {x} s = record {
  calls_made = record { takes = none_taken s.takes; count = none_counted s.calls; accepted = none_accepted s.accepted };
  writing = refl;
  faults = omega arith;
  failed = λ e. cc;
  wants = omega arith;
  no_memory = λ e. cc;
  counted = λ k. k;
  sound = λ h. record { ok = λ e. cc; faults = refl; sound = h };
}

pub stopped_then : (xs ys : List ShelfCall) (n : ℕ) (a b c : ShelfState) → Completed xs a b → Stopped ys n b c → Stopped (xs ++ ys) (length xs + n) a c
stopped_then xs ys n a b c p q = record {
  made = xs ++ q.made;
  refused = q.refused;
  rest = q.rest;
  split = ap (λ zs. xs ++ zs) q.split ∙ sym (append_assoc xs q.made (q.refused ∷ q.rest));
  enough = let h : n ≤ length q.made = q.enough in omega (arith, length-append xs q.made);
  takes = takes_then_err xs q.made q.refused a.takes b.takes c.takes p.takes q.takes;
  count = rw (length-append xs q.made, add_assoc) (count_then a.calls b.calls c.calls (length xs) (length q.made + 1) p.count q.count);
  accepted = accepted_more xs q.made (with_call 0) a.accepted c.accepted
      (accepted_then xs (λ (x : Accepted). with_call 0 (accepted_by q.made x)) a.accepted b.accepted c.accepted p.accepted q.accepted);
}

-- a run that was completed, and then one that was stopped: all calls of the first were made
pub stopped_past : {T : Type 0} {xs ys : List ShelfCall} {x : T} {e : ShelfFault} {a b c : ShelfState} → Runs xs (Ok x) a b → Runs {T = T} ys (Err e) b c → Stopped (xs ++ ys) (length xs) a c
stopped_past {T} {xs} {ys} {x} {e} {a} {b} {c} p q = let same : length xs + 0 ≡ length xs = omega arith in subst (λ n. Stopped (xs ++ ys) n a c) same (stopped_then xs ys 0 a b c p.calls_made q.calls_made)

-- fewer calls were made too
pub stopped_least : {calls : List ShelfCall} {m n : ℕ} {a b : ShelfState} → m ≤ n → Stopped calls n a b → Stopped calls m a b
stopped_least h p = record {
  made = p.made;
  refused = p.refused;
  rest = p.rest;
  split = p.split;
  enough = let e = p.enough in omega arith;
  takes = p.takes;
  count = p.count;
  accepted = p.accepted;
}
