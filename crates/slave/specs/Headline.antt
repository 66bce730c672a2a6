-- An output whose shelf had no fault and no want holds its file over all packets.
use Rattle.std.specs.Prelude.{◌≡◌, List, [], ◌∷◌, length, map, option_map, true}
use Rattle.fifo_core.specs.declared.types.FifoOptions.{FifoOptions}
use Rattle.fifo_core.specs.declared.types.EndState.TheVariants as ends
use Rattle.fifo_core.specs.Laws.{all_written}
use Rattle.rmx_edge.specs.Count.{raised, Rose}
use Rattle.rmx_edge.specs.Run.{bytes_of}
use Rattle.rmx_edge.specs.FileCalls.{file_calls}
use Rattle.rmx_edge.specs.Shelf.{ShelfCall, after}
use Rattle.rmx_media.specs.declared.packet.Packet.{Packet}
use Rattle.slave.specs.Origin.{Origin, facts_of}
use Rattle.slave.specs.Calls.{begin_calls, put_calls, end_calls}
use Rattle.slave.specs.Runs.{expand}
use Rattle.slave.specs.Segments.{start_of, asks_list}
use Rattle.slave.specs.End.{EndView, Ended}

-- the calls of the whole file, or of all segments and their list
abbrev pub whole_file : Origin → List Packet → List ShelfCall
whole_file g L = file_calls (begin_calls g (start_of g.seg) 0) (put_calls g (start_of g.seg)) (end_calls g (start_of g.seg)) L

pub record HoldsAll (g : Origin) (L : List Packet) (e : EndView) : Type 0 where
  pub fates : expand e.fates ≡ all_written 0 (map (facts_of g) L)
  pub closed : e.state ≡ ends.Closed
  pub sessions : e.sessions ≡ record { number = 0; begun = true; closed = true } ∷ []
  pub faults : e.faults ≡ []
  pub takes : e.shelf.takes ≡ option_map (after (whole_file g L)) g.shelf.takes
  pub calls : e.shelf.calls ≡ option_map (λ n. raised n (length (whole_file g L))) g.shelf.calls
  pub bytes : e.bytes ≡ raised 0 (bytes_of (whole_file g L))

-- it ended for want of memory though it asks for a list of its segments, which takes memory for its entries
abbrev pub WantsForList : Origin → EndView → Type 0
WantsForList g e = (asks_list g.seg ≡ true) × (e.state ≡ ends.NoMemory)

-- There is no premise on memory where no list of segments is asked for: what memory the job itself needs for this it has from the start.
abbrev pub NoFaultNoLoss : Type 0
NoFaultNoLoss = (g : Origin) (o : FifoOptions) (L : List Packet) (e : EndView) → Ended g o L e
    → (Rose g.shelf.faults e.shelf.faults → ⊥) → (Rose g.shelf.wants e.shelf.wants → ⊥) → (WantsForList g e → ⊥) → HoldsAll g L e
