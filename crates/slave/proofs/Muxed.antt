-- What a muxer's calls did, by its format.
use Rattle.std.proofs.Common.{◌≡◌, ℕ, ◌≤◌, Bool, true, false, ◌&&◌, arith, inl, inr, List, Option, Some, None, Result, Ok, Err, refl, ◌∙◌, sym}
use Rattle.std.specs.Prelude.{is_some, IsErrOf}
use Rattle.playlist.specs.declared.seg_options.SegOptions.{SegOptions}
use Rattle.playlist.specs.Template.{TemplateParts, template}
use Rattle.rmx_edge.specs.declared.shelf.ShelfFault.{ShelfFault}
use Rattle.rmx_edge.specs.declared.shelf.ShelfFault.TheVariants.{Failed, NoMemory}
use Rattle.rmx_edge.specs.Run.{Runs}
use Rattle.rmx_edge.specs.Shelf.{ShelfState, ShelfCall}
use Rattle.rmx_media.specs.declared.packet.Format.TheVariants.{Segment}
use Rattle.rmx_media.specs.declared.packet.Packet.{Packet}
use Rattle.segmenter.specs.Calls.{begin_calls as seg_begin_calls, put_calls as seg_put_calls, end_calls as seg_end_calls}
use Rattle.segmenter.specs.Numbers.{RunsOrWants as SegRunsOrWants}
use Rattle.segmenter.specs.Session.{Session, cuts_in}
use Rattle.slave.specs.Calls.{MuxRuns, RunsOrWants, begin_of, session_of, put_calls, end_calls}
use Rattle.slave.specs.Origin.{Origin}
use Rattle.slave.specs.Job.{SoundStays}

-- a file that is no segment takes no number
pub plain : {T : Type 0} (seg : Option SegOptions) (calls : List ShelfCall) (r : Result T ShelfFault) (a b : ShelfState) → seg ≡ None → Runs calls r a b
    → RunsOrWants seg calls r 0 0 a b
plain None calls (Ok x) a b e run = inl (record { run = run; numbers = refl })
plain None calls (Err x) a b e run = inl (record { run = run; numbers = (run.calls_made, refl) })
plain (Some options) calls r a b e run = absurd (cc e)

-- segments take one for each create
pub segmented : {T : Type 0} (options : SegOptions) (seg : Option SegOptions) (calls : List ShelfCall) (asked : Bool) (r : Result T ShelfFault) (n m : ℕ) (a b : ShelfState)
    → seg ≡ Some options → (asked ≡ true → is_some options.list ≡ true) → SegRunsOrWants calls asked r n m a b → RunsOrWants seg calls r n m a b
segmented options seg calls asked (Ok x) n m a b e only (inl p) = rw e (inl (record { run = p.run; numbers = p.numbers }))
segmented options seg calls asked (Err x) n m a b e only (inl p) = rw e (inl (record { run = p.run; numbers = (p.numbers.0, p.numbers.1) }))
segmented options seg calls asked r n m a b e only (inr w) =
    rw e (inr (record { asked_for = only w.asked_for; answer = w.answer; number_kept = w.number_kept; shelf_kept = w.shelf_kept }))

pub both_asked : (b c : Bool) → (b && c) ≡ true → b ≡ true
both_asked true c e = refl
both_asked false c e = absurd (cc e)

pub same_options : (seg : Option SegOptions) (a b : SegOptions) → seg ≡ Some a → seg ≡ Some b → a ≡ b
same_options seg a b e f = let both : Some a ≡ Some b = sym e ∙ f in cc

abbrev session_with : Origin → SegOptions → TemplateParts → ℕ → Session
session_with out options parts first = record { plan = record { options = options; streams = out.streams }; template = parts; first = first }

-- what the calls of a session of segments are
pub seg_begin : {T : Type 0} (out : Origin) (options : SegOptions) (parts : TemplateParts) (n m : ℕ) (r : Result T ShelfFault) (a b : ShelfState) (name : List ℕ)
    → out.format ≡ Segment → out.seg ≡ Some options → template out.name ≡ Some parts
    → SegRunsOrWants (seg_begin_calls (session_with out options parts n)) (is_some options.list) r n m a b
    → RunsOrWants out.seg (begin_of out.format out.streams (session_of out n) name) r n m a b
seg_begin out options parts n m r a b name f e t run = rw (f, e, t) (segmented options (Some options) _ _ r n m a b refl (λ x. x) run)

pub seg_put : {T : Type 0} (out : Origin) (options : SegOptions) (parts : TemplateParts) (first : ℕ) (before : List Packet) (p : Packet) (n m : ℕ) (r : Result T ShelfFault) (a b : ShelfState)
    → out.format ≡ Segment → out.seg ≡ Some options → template out.name ≡ Some parts
    → SegRunsOrWants (seg_put_calls (session_with out options parts first) before p) (is_some options.list && cuts_in (record { options = options; streams = out.streams }) before p) r n m a b
    → RunsOrWants out.seg (put_calls out first before p) r n m a b
seg_put out options parts first before p n m r a b f e t run =
    rw (f, e, t) (segmented options (Some options) _ _ r n m a b refl (both_asked (is_some options.list) (cuts_in (record { options = options; streams = out.streams }) before p)) run)

pub seg_end : {T : Type 0} (out : Origin) (options : SegOptions) (parts : TemplateParts) (first : ℕ) (before : List Packet) (r : Result T ShelfFault) (a b : ShelfState)
    → out.format ≡ Segment → out.seg ≡ Some options → template out.name ≡ Some parts
    → Runs (seg_end_calls (session_with out options parts first) before) r a b → Runs (end_calls out first before) r a b
seg_end out options parts first before r a b f e t run = rw (f, e, t) run

-- an answer other than a want of memory came from the shelf
pub done_runs : {T : Type 0} {seg : Option SegOptions} {calls : List ShelfCall} {x : T} {n m : ℕ} {a b : ShelfState} → RunsOrWants seg calls (Ok x) n m a b → MuxRuns seg calls (Ok x) n m a b
done_runs (inl p) = p
done_runs {T = T} {x = x} (inr w) = let answer : IsErrOf {T = T} {E = ShelfFault} (Ok x) NoMemory = w.answer in cc

pub failed_runs : {T : Type 0} {seg : Option SegOptions} {calls : List ShelfCall} {n m : ℕ} {a b : ShelfState}
    → RunsOrWants {T = T} seg calls (Err Failed) n m a b → MuxRuns {T = T} seg calls (Err Failed) n m a b
failed_runs (inl p) = p
failed_runs {T = T} (inr w) = let answer : IsErrOf {T = T} {E = ShelfFault} (Err Failed) NoMemory = w.answer in cc

-- counts don't fall, and a sound shelf stays so
pub record Still (a b : ShelfState) : Type 0 where
  pub counts : a.faults ≤ b.faults
  pub want_counts : a.wants ≤ b.wants
  pub sound : SoundStays a b

pub still_after : {T : Type 0} {calls : List ShelfCall} {r : Result T ShelfFault} {a b : ShelfState} → Runs calls r a b → Still a b
still_after run = record { counts = run.faults; want_counts = run.wants; sound = λ e. (let s = run.sound e in (s.sound, s.faults)) }

pub still : {T : Type 0} {seg : Option SegOptions} {calls : List ShelfCall} {r : Result T ShelfFault} {n m : ℕ} {a b : ShelfState} → RunsOrWants seg calls r n m a b → Still a b
still (inl p) = still_after p.run
still {a = a} (inr w) = rw w.shelf_kept (record { counts = omega arith; want_counts = omega arith; sound = λ e. (e, refl) })
