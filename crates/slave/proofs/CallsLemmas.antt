-- Runs of calls, one after another.
use Rattle.std.proofs.Common.{◌≡◌, ℕ, ◌≤◌, false, ◌+◌, List, [], ◌∷◌, ◌++◌, length, Option, Some, None, Result, Ok, Err, refl, ap, sym, ◌∙◌, subst, arith, length-append, append_assoc, add_assoc, inl, inr}
use Rattle.std.specs.Prelude.{option_map, is_ok, IsErrOf}
use Rattle.std.proofs.lemmas.List.{append-nil}
use Rattle.std.proofs.Math.Bool.{and-false}
use Rattle.playlist.specs.declared.seg_options.SegOptions.{SegOptions}
use Rattle.rmx_edge.specs.declared.shelf.ShelfFault.{ShelfFault}
use Rattle.rmx_edge.specs.declared.shelf.ShelfFault.TheVariants.{NoMemory}
use Rattle.rmx_edge.specs.Count.{raised}
use Rattle.rmx_edge.specs.Pieces.{EndsInWrite}
use Rattle.rmx_edge.specs.Run.{AreLeftBy, Completed, Stopped, Runs}
use Rattle.rmx_edge.specs.Shelf.{ShelfState, ShelfCall, ShelfTake, Write, Close, Flushes, Accepted, after, accepted_by, with_call, IsLeftBy}
use Rattle.rmx_edge.proofs.Flush.{flushes_stop_writes}
use Rattle.rmx_edge.proofs.Run.{rose_later, writing_after-append, after-append, accepted_by-append, raised-raised, stopped_then, stopped_least}
use Rattle.rmx_media.specs.declared.packet.Packet.{Packet}
use Rattle.slave.specs.Origin.{Origin}
use Rattle.segmenter.proofs.NumberLemmas.{creates-append}
use Rattle.segmenter.specs.Numbers.{creates, called}
use Rattle.slave.specs.Calls.{begin_calls, put_calls, puts, RunsOrWants}
use Rattle.slave.specs.Segments.{number_after}
use Rattle.slave.specs.Job.{SoundStays}

-- a file that was ended is no longer being written
pub ended_idle : (calls : List ShelfCall) (r : Result (Unit {0}) ShelfFault) (a b : ShelfState) → Runs (calls ++ Close ∷ []) r a b → b.writing ≡ false
ended_idle calls r a b run = run.writing ∙ rw (writing_after-append calls (Close ∷ []) a.writing) (and-false (is_ok r))

-- a flush that is refused after a packet was written is a refusal of its last write
pub flush_stops : (calls : List ShelfCall) (e : ShelfFault) (a b c : ShelfState) → EndsInWrite calls → Completed calls a b → Flushes {T = Unit {0}} (Err e) b c → Stopped calls 0 a c
flush_stops calls e a b c k run flush =
    let run' : Completed (k.front ++ Write k.piece ∷ []) a b = rw k.split at run in
    let s = flushes_stop_writes k.front k.piece e a b c run' flush in
    rw k.split (record { made = s.made; refused = s.refused; rest = s.rest; split = s.split; enough = omega arith; takes = s.takes; count = s.count; accepted = s.accepted })

-- a stop behind all but the last of the calls
all_called : (xs : List ShelfCall) (x : ShelfCall) (made : List ShelfCall) (refused : ShelfCall) (rest : List ShelfCall)
    → xs ++ x ∷ [] ≡ made ++ refused ∷ rest → length xs ≤ length made → made ++ refused ∷ [] ≡ xs ++ x ∷ []
all_called [] x [] refused rest e l = let same : x ≡ refused = cc in ap (λ (c : ShelfCall). c ∷ []) (sym same)
all_called [] x (m ∷ made) refused rest e l = absurd (none made refused rest (let t : [] ≡ made ++ refused ∷ rest = cc in t))
  where
    none : (made : List ShelfCall) (refused : ShelfCall) (rest : List ShelfCall) → [] ≡ made ++ refused ∷ rest → ⊥
    none [] refused rest e = cc e
    none (m ∷ made) refused rest e = cc e
all_called (y ∷ xs) x [] refused rest e l = absurd (omega arith)
all_called (y ∷ xs) x (m ∷ made) refused rest e l =
    let first : y ≡ m = cc in
    let others : xs ++ x ∷ [] ≡ made ++ refused ∷ rest = cc in
    rw first (ap (λ (cs : List ShelfCall). m ∷ cs) (all_called xs x made refused rest others (omega arith)))

-- and it took the numbers of all of them
flush_numbers : (seg : Option SegOptions) (n m : ℕ) (calls : List ShelfCall) (e : ShelfFault) (a b c : ShelfState) → EndsInWrite calls → Completed calls a b
    → Flushes {T = Unit {0}} (Err e) b c → m ≡ number_after seg n calls → (s : Stopped calls 0 a c) × (m ≡ number_after seg n (called s))
flush_numbers seg n m calls e a b c k run flush next =
    let run' : Completed (k.front ++ Write k.piece ∷ []) a b = rw k.split at run in
    let s = flushes_stop_writes k.front k.piece e a b c run' flush in
    let stop : Stopped calls 0 a c = record {
      made = s.made;
      refused = s.refused;
      rest = s.rest;
      split = k.split ∙ s.split;
      enough = omega arith;
      takes = s.takes;
      count = s.count;
      accepted = s.accepted;
    } in
    (stop, next ∙ ap (number_after seg n) (k.split ∙ sym (all_called k.front (Write k.piece) s.made s.refused s.rest s.split s.enough)))

-- a packet that was written, and then the flush
pub flushed : (calls : List ShelfCall) (r : Result (Unit {0}) ShelfFault) (a b c : ShelfState) → EndsInWrite calls → Runs {T = Unit {0}} calls (Ok tt) a b → Flushes r b c → Runs calls r a c
flushed calls (Ok u) a b c k run flush =
    let same : c ≡ b = flush.done refl in
    subst (λ (x : ShelfState). Runs {T = Unit {0}} calls (Ok tt) a x) (sym same) run
flushed calls (Err e) a b c k run flush = record {
  calls_made = flush_stops calls e a b c k run.calls_made flush;
  writing = flush.writing;
  faults = omega (arith, run.faults, flush.faults);
  failed = λ x. rose_later a.faults b.faults c.faults run.faults (flush.failed x);
  wants = omega (arith, run.wants, flush.wants);
  no_memory = λ x. rose_later a.wants b.wants c.wants run.wants (flush.no_memory x);
  counted = λ x. flush.counted refl;
  sound = λ x. (let m = run.sound x in let n = flush.sound m.sound in record { ok = n.ok; faults = n.faults ∙ m.faults; sound = n.sound });
}

-- the same with the numbers that were taken
pub flushed_numbers : (seg : Option SegOptions) (calls : List ShelfCall) (r : Result (Unit {0}) ShelfFault) (n m : ℕ) (a b c : ShelfState) → EndsInWrite calls
    → RunsOrWants {T = Unit {0}} seg calls (Ok tt) n m a b → Flushes r b c → RunsOrWants seg calls r n m a c
flushed_numbers seg calls (Ok u) n m a b c k (inl p) flush = inl (record { run = flushed calls (Ok u) a b c k p.run flush; numbers = p.numbers })
flushed_numbers seg calls (Err e) n m a b c k (inl p) flush =
    inl (record { run = flushed calls (Err e) a b c k p.run flush; numbers = flush_numbers seg n m calls e a b c k p.run.calls_made flush p.numbers })
flushed_numbers seg calls r n m a b c k (inr w) flush = let answer : IsErrOf {T = Unit {0}} {E = ShelfFault} (Ok tt) NoMemory = w.answer in cc

takes_then : (xs ys : List ShelfCall) (a b c : Option (List ShelfTake)) → b ≡ option_map (after xs) a → c ≡ option_map (after ys) b → c ≡ option_map (after (xs ++ ys)) a
takes_then xs ys None b c p q = q ∙ ap (option_map (after ys)) p
takes_then xs ys (Some t) b c p q = q ∙ ap (option_map (after ys)) p ∙ ap Some (sym (after-append xs ys t))

count_then : (a b c : Option ℕ) (j k : ℕ) → b ≡ option_map (λ n. raised n j) a → c ≡ option_map (λ n. raised n k) b → c ≡ option_map (λ n. raised n (j + k)) a
count_then None b c j k p q = q ∙ ap (option_map (λ n. raised n k)) p
count_then (Some n) b c j k p q = q ∙ ap (option_map (λ n. raised n k)) p ∙ ap Some (raised-raised n j k)

accepted_then : (xs ys : List ShelfCall) (a b c : Option Accepted) → b ≡ option_map (accepted_by xs) a → c ≡ option_map (accepted_by ys) b → c ≡ option_map (accepted_by (xs ++ ys)) a
accepted_then xs ys None b c p q = q ∙ ap (option_map (accepted_by ys)) p
accepted_then xs ys (Some x) b c p q = q ∙ ap (option_map (accepted_by ys)) p ∙ ap Some (sym (accepted_by-append xs ys x))

-- two runs of calls that were all made are one
pub done_joined : (xs ys : List ShelfCall) (a b c : ShelfState) → Completed xs a b → Completed ys b c → Completed (xs ++ ys) a c
done_joined xs ys a b c p q = record {
  takes = takes_then xs ys a.takes b.takes c.takes p.takes q.takes;
  count = rw (length-append xs ys) (count_then a.calls b.calls c.calls (length xs) (length ys) p.count q.count);
  accepted = accepted_then xs ys a.accepted b.accepted c.accepted p.accepted q.accepted;
}

-- all calls of the first were made
pub stopped_after : (xs ys : List ShelfCall) (a b c : ShelfState) → Completed xs a b → Stopped ys 0 b c → Stopped (xs ++ ys) (length xs) a c
stopped_after xs ys a b c p q = stopped_least (omega arith) (stopped_then xs ys 0 a b c p q)

-- numbers that calls took, one after another
pub number_then : (seg : Option SegOptions) (n : ℕ) (xs ys : List ShelfCall) → number_after seg n (xs ++ ys) ≡ number_after seg (number_after seg n xs) ys
number_then None n xs ys = refl
number_then (Some options) n xs ys = ap (raised n) (creates-append xs ys) ∙ sym (raised-raised n (creates xs) (creates ys))

left_then : (xs made : List ShelfCall) (refused : ShelfCall) (a b c : Option (List ShelfTake)) → b ≡ option_map (after xs) a → AreLeftBy made refused b c → AreLeftBy (xs ++ made) refused a c
left_then xs made refused None b c p h = subst (λ (x : Option (List ShelfTake)). AreLeftBy made refused x c) p h
left_then xs made refused (Some t) b None p h = subst (λ (x : Option (List ShelfTake)). AreLeftBy made refused x None) p h
left_then xs made refused (Some t) b (Some u) p h =
    let k : IsLeftBy refused (after made (after xs t)) u = subst (λ (x : Option (List ShelfTake)). AreLeftBy made refused x (Some u)) p h in
    subst (λ (ts : List ShelfTake). IsLeftBy refused ts u) (sym (after-append xs made t)) k

refused_then : (xs made : List ShelfCall) (a b c : Option Accepted) → b ≡ option_map (accepted_by xs) a → c ≡ option_map (λ x. with_call 0 (accepted_by made x)) b
    → c ≡ option_map (λ x. with_call 0 (accepted_by (xs ++ made) x)) a
refused_then xs made None b c p q = q ∙ ap (option_map (λ (x : Accepted). with_call 0 (accepted_by made x))) p
refused_then xs made (Some t) b c p q =
    q ∙ ap (option_map (λ (x : Accepted). with_call 0 (accepted_by made x))) p ∙ ap (λ (x : Accepted). Some (with_call 0 x)) (sym (accepted_by-append xs made t))

-- the same with the numbers that the calls took
pub numbers_after : (seg : Option SegOptions) (n m k : ℕ) (xs ys : List ShelfCall) (a b c : ShelfState) → Completed xs a b → m ≡ number_after seg n xs
    → (q : Stopped ys 0 b c) → k ≡ number_after seg m (called q) → (s : Stopped (xs ++ ys) (length xs) a c) × (k ≡ number_after seg n (called s))
numbers_after seg n m k xs ys a b c p e q d = (
  record {
    made = xs ++ q.made;
    refused = q.refused;
    rest = q.rest;
    split = ap (λ (zs : List ShelfCall). xs ++ zs) q.split ∙ sym (append_assoc xs q.made (q.refused ∷ q.rest));
    enough = omega (arith, length-append xs q.made);
    takes = left_then xs q.made q.refused a.takes b.takes c.takes p.takes q.takes;
    count = rw (length-append xs q.made, add_assoc) (count_then a.calls b.calls c.calls (length xs) (length q.made + 1) p.count q.count);
    accepted = refused_then xs q.made a.accepted b.accepted c.accepted p.accepted q.accepted;
  },
  d ∙ ap (λ (x : ℕ). number_after seg x (called q)) e ∙ sym (number_then seg n xs (called q))
      ∙ ap (number_after seg n) (sym (append_assoc xs q.made (q.refused ∷ []))),
)

-- a session's calls with its first packet, and without one
pub first_puts : (out : Origin) (first s : ℕ) (p : Packet) → begin_calls out first s ++ puts out first (p ∷ []) ≡ begin_calls out first s ++ put_calls out first [] p
first_puts out first s p = ap (λ (cs : List ShelfCall). begin_calls out first s ++ cs) (append-nil (put_calls out first [] p))

pub no_puts : (out : Origin) (first s : ℕ) → begin_calls out first s ++ puts out first [] ≡ begin_calls out first s
no_puts out first s = append-nil (begin_calls out first s)

pub sound_then : (a b c : ShelfState) → SoundStays a b → SoundStays b c → SoundStays a c
sound_then a b c p q e = let x = p e in let y = q x.0 in (y.0, y.1 ∙ x.1)
