-- A job before its start.
use Rattle.std.specs.Prelude.{◌≡◌, ◌≤◌, false, [], None}
use Rattle.fifo_core.specs.declared.types.FifoOptions.{FifoOptions}
use Rattle.fifo_core.specs.State.{Shows, next_of}
use Rattle.slave.specs.Origin.{Origin}
use Rattle.slave.specs.Segments.{start_of}
use Rattle.slave.specs.Job.{JobView, KitOf, number_of}

pub record IsFresh (g : Origin) (o : FifoOptions) (v : JobView) : Type 0 where
  pub shelf : v.shelf ≡ g.shelf
  pub kit : KitOf g v.kit
  pub number : number_of v ≡ start_of g.seg
  pub idle : v.shelf.writing ≡ false
  pub shows : Shows o [] None v.fifo
  pub next : next_of v.fifo ≡ 0
  pub runs : v.runs ≡ []
  pub sessions : v.sessions ≡ []
  pub faults : v.faults ≡ []
  pub run_places : 2 ≤ v.run_places
  pub session_places : 1 ≤ v.session_places
  pub fault_places : 1 ≤ v.fault_places
