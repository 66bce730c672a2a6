-- What a worker's thread answers, and what a started worker keeps.
use Rattle.std.specs.Prelude.{◌≡◌}
use Rattle.rmx_edge.specs.Shelf.{ShelfState}
use Rattle.rmx_edge.specs.declared.shelf.Shelf.{Ghosts}
use Rattle.slave.specs.declared.errand.Errand.{Errand}
use Rattle.slave.specs.declared.task.Begun.{Begun}
use Rattle.slave.specs.declared.task.Begun.TheVariants as begun
use Rattle.slave.specs.declared.task.Pledge.{Pledge}
use Rattle.slave.specs.declared.task.Body.{Body}
use Rattle.slave.specs.declared.task.Body.TheVariants as body
use Rattle.slave.specs.Job.{view_of}
use Rattle.slave.specs.Task.{IsReady}
use Rattle.slave.specs.Worked.{Worked}

module _ {S G : Type 0} {ghosts : Ghosts S} where
  -- it worked, or gives back what it was given
  abbrev pub IsBegun : (S → ShelfState) → Errand S G ghosts → Begun S G ghosts → Type 0
  IsBegun state e (begun.Worked w) = Worked state (view_of state e.job) e.taker w
  IsBegun state e (begun.Back b) = b ≡ e

  abbrev pub Stands : (S → ShelfState) → Pledge S G ghosts → Body S G ghosts → Type 0
  Stands state p (body.Thread h) = (h.promise.0.value ≡ p.0.value) × IsReady state p.0.value
  Stands state p (body.Ended w) = Worked state (view_of state p.0.value.job) p.0.value.taker w
