-- How many outputs the reader wrote in place of their threads.
use Rattle.std.proofs.Common.{◌≡◌, ℕ, ◌+◌, inl, inr, Bool, true, false, List, [], ◌∷◌, map, ap, ◌∙◌, sym, refl, subst, arith}
use Rattle.lane.specs.Ring.{one_if}
use Rattle.std.specs.Prelude.{cond}
use Rattle.std.proofs.lemmas.List.Recursion.{is_count_by}
use Rattle.fifo_core.specs.History.{History}
use Rattle.options.specs.declared.words.Source.{Source}
use Rattle.options.specs.declared.words.Source.TheVariants.{Named, Generated}
use Rattle.rmx_edge.specs.Inputs.{InputState}
use Rattle.rmx_edge.specs.Shelf.{ShelfState}
use Rattle.rmx_media.specs.declared.packet.Packet.{Packet}
use Rattle.slave.specs.End.{EndView, end_view}
use Rattle.slave.specs.declared.job.SlaveEnd.{SlaveEnd}
use Rattle.tee.specs.Ends.{AllEnded}
use Rattle.tee.specs.RunEnds.{inline_ends}
use Rattle.tee.specs.RunKeeps.{IsCounted}
use Rattle.tee.specs.Seat.{Seat}
use Rattle.remux.specs.Asked.{Asked}
use Rattle.remux.specs.Outcome.{ComesFrom, ComesTo, IsNothing, with_status}
use Rattle.remux.specs.Threads.{inlines, InlinesWithin}
use Rattle.remux.specs.declared.run.Outcome.{Outcome}
use Rattle.remux.specs.declared.status.Status.{Status}

one_more : (b : Bool) (n : ℕ) → one_if b + n ≡ cond b (1 + n) n
one_more true n = refl
one_more false n = omega arith

-- they are those that are marked so
pub inlines_seen : {S : Type 0} (state : S → ShelfState) (ends : List (SlaveEnd S)) → inlines ends ≡ inline_ends (map (end_view state) ends)
inlines_seen {S} state ends =
    sym (is_count_by (λ (es : List (SlaveEnd S)). inline_ends (map (end_view state) es)) (λ (e : SlaveEnd S). e.inline) refl (λ e es. one_more e.inline (inline_ends (map (end_view state) es))) ends)

-- as many as starts were refused
pub counted_within : {S : Type 0} (n old new : ℕ) (ends : List (SlaveEnd S)) → inlines ends ≡ n → IsCounted n old new → InlinesWithin old new ends
counted_within n old new ends e (inl h) = inl (omega (arith, e, h))
counted_within n old new ends e (inr h) = inr h

-- none
pub none_within : {S : Type 0} (old new : ℕ) (ends : List (SlaveEnd S)) → inlines ends ≡ 0 → InlinesWithin old new ends
none_within old new ends e = inl (omega (arith, e))

pub nothing_within : {S : Type 0} (old new : ℕ) (s : Status) (shelves : List S) (o : Outcome S) → IsNothing s shelves o → InlinesWithin old new o.ends.items
nothing_within {S} old new s shelves o n = none_within old new o.ends.items (ap (λ (ends : List (SlaveEnd S)). inlines ends) n.ends)

none_ended : (seats : List Seat) (given : List Packet) (hs : List History) (es : List EndView) → AllEnded seats given hs es → inline_ends es ≡ 0
none_ended [] given [] [] a = refl
none_ended [] given [] (e ∷ es) a = absurd a
none_ended [] given (h ∷ hs) es a = absurd a
none_ended (s ∷ ss) given [] es a = absurd a
none_ended (s ∷ ss) given (h ∷ hs) [] a = absurd a
none_ended (s ∷ ss) given (h ∷ hs) (e ∷ es) a = omega (arith, ap one_if a.0.0.inline, none_ended ss given hs es a.1)

comes_within : {S : Type 0} (state : S → ShelfState) (asked : Asked) (in_old in_new : InputState) (shelves : List S) (o : Outcome S) (old new : ℕ) → ComesTo state asked in_old in_new shelves o → InlinesWithin old new o.ends.items
comes_within state asked in_old in_new shelves o old new (inl c) = nothing_within old new o.status shelves o c.0
comes_within state asked in_old in_new shelves o old new (inr w) =
    none_within old new o.ends.items (inlines_seen state o.ends.items ∙ none_ended w.seats w.given w.ends.histories (map (end_view state) o.ends.items) w.ends.each)

-- a plan without threads has none
pub plan_within : {S : Type 0} (state : S → ShelfState) (source : Source) (asked : Asked) (in_old in_new : InputState) (shelves : List S) (o : Outcome S) (old new : ℕ) → ComesFrom state source asked in_old in_new shelves o → InlinesWithin old new o.ends.items
plan_within state (Named name) asked in_old in_new shelves o old new c = comes_within state asked in_old in_new shelves o old new c
plan_within state (Generated count) asked in_old in_new shelves o old new c = comes_within state _ _ c.after shelves o old new c.comes

-- the report leaves the ends
pub reported_within : {S : Type 0} (old new : ℕ) (s : Status) (o p : Outcome S) → with_status s p ≡ o → InlinesWithin old new o.ends.items → InlinesWithin old new p.ends.items
reported_within {S} old new s o p same h = subst (λ (x : Outcome S). InlinesWithin old new x.ends.items) (sym same) h
