-- The outputs of a tee, each at its seat.
use Rattle.std.specs.Prelude.{◌≡◌, true, false, Bool, List, [], ◌∷◌, ◌++◌, length}
use Rattle.fifo_core.specs.History.{History, mode_of, mode_is_dead}
use Rattle.rmx_edge.specs.Shelf.{ShelfState}
use Rattle.rmx_edge.specs.declared.shelf.Shelf.{Ghosts}
use Rattle.rmx_media.specs.declared.packet.Packet.{Packet}
use Rattle.rmx_media.specs.declared.streams.StreamInfo.{StreamInfo}
use Rattle.slave.specs.Job.{view_of}
use Rattle.slave.specs.Table.{Keeps}
use Rattle.slave.specs.End.{EndedBy, IsUnclosed, end_view}
use Rattle.slave.specs.declared.job.SlaveEnd.{SlaveEnd}
use Rattle.tee.specs.Route.{IsPlaced, filters_in}
use Rattle.tee.specs.Seat.{Seat, IsInput, chosen}
use Rattle.tee.specs.declared.output.TeeSlave.{TeeSlave}

-- the output at that seat got what it takes of these packets, with that history
pub record Sits {S : Type 0} {ghosts : Ghosts S} (state : S → ShelfState) (infos : List StreamInfo) (given : List Packet)
    (seat : Seat) (history : History) (slave : TeeSlave S ghosts) : Type 0 where
  pub placed : IsPlaced infos seat slave.choice
  pub keeps : Keeps seat.origin seat.slave.fifo (chosen seat given) (view_of state slave.job)
  pub history_is : keeps.history ≡ history
  pub count : slave.count ≡ length (chosen seat given)

abbrev pub AllSit : {S : Type 0} {ghosts : Ghosts S} → (S → ShelfState) → List StreamInfo → List Packet → List Seat → List History → List (TeeSlave S ghosts) → Type 0
AllSit state infos given [] [] [] = Unit {0}
AllSit state infos given (s ∷ ss) (h ∷ hs) (t ∷ ts) = Sits state infos given s h t × AllSit state infos given ss hs ts
AllSit state infos given [] [] (t ∷ ts) = ⊥
AllSit state infos given [] (h ∷ hs) ts = ⊥
AllSit state infos given (s ∷ ss) [] ts = ⊥
AllSit state infos given (s ∷ ss) (h ∷ hs) [] = ⊥

-- whether an output with that history was given up
abbrev pub is_dead : Seat → History → Bool
is_dead seat history = mode_is_dead (mode_of seat.slave.fifo history)

-- which outputs were given up
abbrev pub deads : List Seat → List History → List Bool
deads [] hs = []
deads (s ∷ ss) [] = []
deads (s ∷ ss) (h ∷ hs) = is_dead s h ∷ deads ss hs

-- an output got one packet more, or not, as it takes it; given up it stays so
pub record SitsOn {S : Type 0} {ghosts : Ghosts S} (state : S → ShelfState) (infos : List StreamInfo) (given : List Packet)
    (seat : Seat) (before : History) (slave : TeeSlave S ghosts) : Type 0 where
  pub history : History
  pub sits : Sits state infos given seat history slave
  pub later : History
  pub goes_on : history ≡ later ++ before
  pub stays_dead : is_dead seat before ≡ true → is_dead seat history ≡ true

-- an output may get a packet of the input as it is, or not at all
pub record Passes {S : Type 0} {ghosts : Ghosts S} (state : S → ShelfState) (infos : List StreamInfo) (given : List Packet) (p : Packet)
    (seat : Seat) (history : History) (slave : TeeSlave S ghosts) : Type 0 where
  pub sits : Sits state infos given seat history slave
  pub unfiltered : filters_in slave.choice p.stream ≡ false
  pub taken : IsInput infos p

-- each of the outputs
abbrev pub AllSitOn : {S : Type 0} {ghosts : Ghosts S} → (S → ShelfState) → List StreamInfo → List Packet → List Seat → List History → List (TeeSlave S ghosts) → Type 0
AllSitOn state infos given [] [] [] = Unit {0}
AllSitOn state infos given (s ∷ ss) (h ∷ hs) (t ∷ ts) = SitsOn state infos given s h t × AllSitOn state infos given ss hs ts
AllSitOn state infos given [] [] (t ∷ ts) = ⊥
AllSitOn state infos given [] (h ∷ hs) ts = ⊥
AllSitOn state infos given (s ∷ ss) [] ts = ⊥
AllSitOn state infos given (s ∷ ss) (h ∷ hs) [] = ⊥

-- the output at a seat ended with that history; given up it isn't closed
pub record EndsAt {S : Type 0} (state : S → ShelfState) (given : List Packet) (seat : Seat) (history : History) (e : SlaveEnd S) : Type 0 where
  pub ended : EndedBy seat.origin seat.slave.fifo (chosen seat given) history (end_view state e)
  pub given_up : is_dead seat history ≡ true → IsUnclosed e.state

abbrev pub AllEndAt : {S : Type 0} → (S → ShelfState) → List Packet → List Seat → List History → List (SlaveEnd S) → Type 0
AllEndAt state given [] [] [] = Unit {0}
AllEndAt state given (s ∷ ss) (h ∷ hs) (e ∷ es) = EndsAt state given s h e × AllEndAt state given ss hs es
AllEndAt state given [] [] (e ∷ es) = ⊥
AllEndAt state given [] (h ∷ hs) es = ⊥
AllEndAt state given (s ∷ ss) [] es = ⊥
AllEndAt state given (s ∷ ss) (h ∷ hs) [] = ⊥
