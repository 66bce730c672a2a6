-- A packet that no output filters.
use Rattle.std.proofs.Common.{◌≡◌, List, [], ◌∷◌, false}
use Rattle.std.specs.List.{list_any}
use Rattle.std.proofs.lemmas.Bool.{or_parts}
use Rattle.fifo_core.specs.History.{History}
use Rattle.rmx_edge.specs.Shelf.{ShelfState}
use Rattle.rmx_edge.specs.declared.shelf.Shelf.{Ghosts}
use Rattle.rmx_media.specs.declared.packet.Packet.{Packet}
use Rattle.rmx_media.specs.declared.streams.StreamInfo.{StreamInfo}
use Rattle.tee.specs.Each.{Each3}
use Rattle.tee.specs.Route.{filters_in}
use Rattle.tee.specs.Seat.{Seat, IsInput}
use Rattle.tee.specs.Sits.{AllSit, AllSitOn, Passes, SitsOn}
use Rattle.tee.specs.declared.output.TeeSlave.{TeeSlave}

module _ {S : Type 0} {ghosts : Ghosts S} (state : S → ShelfState) (infos : List StreamInfo) (given : List Packet) where
  -- each output may get it as it is, or not at all
  pub all_pass : (p : Packet) (ss : List Seat) (hs : List History) (ts : List (TeeSlave S ghosts)) → IsInput infos p → list_any (λ t. filters_in t.choice p.stream) ts ≡ false
      → AllSit state infos given ss hs ts → Each3 (Passes state infos given p) ss hs ts
  all_pass p [] [] [] i e a = tt
  all_pass p [] [] (t ∷ ts) i e a = absurd a
  all_pass p [] (h ∷ hs) ts i e a = absurd a
  all_pass p (s ∷ ss) [] ts i e a = absurd a
  all_pass p (s ∷ ss) (h ∷ hs) [] i e a = absurd a
  all_pass p (s ∷ ss) (h ∷ hs) (t ∷ ts) i e a =
      let none = or_parts (filters_in t.choice p.stream) (list_any (λ t. filters_in t.choice p.stream) ts) e in
      (record { sits = a.0; unfiltered = none.0; taken = i }, all_pass p ss hs ts i none.1 a.1)

  pub all_passed : (ss : List Seat) (hs : List History) (ts : List (TeeSlave S ghosts)) → Each3 (SitsOn state infos given) ss hs ts → AllSitOn state infos given ss hs ts
  all_passed [] [] [] a = tt
  all_passed [] [] (t ∷ ts) a = absurd a
  all_passed [] (h ∷ hs) ts a = absurd a
  all_passed (s ∷ ss) [] ts a = absurd a
  all_passed (s ∷ ss) (h ∷ hs) [] a = absurd a
  all_passed (s ∷ ss) (h ∷ hs) (t ∷ ts) a = (a.0, all_passed ss hs ts a.1)
