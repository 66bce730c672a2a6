-- What a worker is given, and what it answers.
use Rattle.std.specs.Prelude.{◌≡◌, false, []}
use Rattle.std.specs.Arc.{arc_value}
use Rattle.fifo_core.specs.declared.types.FifoOptions.{FifoOptions}
use Rattle.rmx_edge.specs.Shelf.{ShelfState}
use Rattle.rmx_edge.specs.declared.shelf.Shelf.{Ghosts}
use Rattle.lane.specs.Told.{TakerNow}
use Rattle.slave.specs.Origin.{Origin}
use Rattle.slave.specs.Fresh.{IsFresh}
use Rattle.slave.specs.Job.{JobView, view_of}
use Rattle.slave.specs.Purpose.{IsFor}
use Rattle.slave.specs.declared.errand.Errand.{Errand}

-- what clauses see of a worker that was started: its job and its taker as they were
pub record Task : Type 0 where
  pub job : JobView
  pub taker : TakerNow

module _ {S G : Type 0} {ghosts : Ghosts S} where
  abbrev pub task_of : (S → ShelfState) → Errand S G ghosts → Task
  task_of state e = record { job = view_of state e.job; taker = e.taker }

  -- the worker may begin: the taker is that of a new lane for the output, and the output wasn't started
  abbrev pub IsReady : (S → ShelfState) → Errand S G ghosts → Type 0
  IsReady state e =
      (e.taker.ring ≡ (arc_value e.lane).ring) × (e.taker.got ≡ []) × (e.taker.numbers ≡ []) × (e.taker.failed ≡ false) × (e.taker.past ≡ [])
      × ((g : Origin) × (o : FifoOptions) × IsFresh g o (view_of state e.job) × IsFor g e.taker.about)
