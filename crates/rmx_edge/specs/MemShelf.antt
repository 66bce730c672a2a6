-- What clauses see of a shelf in memory.
use Rattle.std.specs.Prelude.{◌≡◌, ℕ, Bool, not, ◌&&◌, ◌||◌, ◌⊎◌, Some, None, Result, Ok, Err, length, take, ◌==◌, List, if◌then◌else◌}
use Rattle.std.specs.List.{list_any}
use Rattle.rmx_edge.specs.declared.fail_at.FailAt.{FailAt}
use Rattle.rmx_edge.specs.declared.mem_shelf.MemShelf.{MemShelf}
use Rattle.rmx_edge.specs.declared.shelf.ShelfFault.{ShelfFault}
use Rattle.rmx_edge.specs.declared.shelf.ShelfFault.TheVariants.{Failed, NoMemory}
use Rattle.rmx_edge.specs.Count.{raised}
use Rattle.rmx_edge.specs.FailAt.{keep_of}
use Rattle.rmx_edge.specs.MemTake.{takes_of}
use Rattle.rmx_edge.specs.Shelf.{ShelfState, ShelfTake, Write, after_call}

abbrev pub state_of : MemShelf → ShelfState
state_of s = record {
  takes = Some (takes_of s.takes.items);
  calls = Some s.calls;
  accepted = None;
  writing = s.writing;
  faults = s.faults;
  wants = s.wants;
  sound = not s.dead && (length s.fails.items == 0);
}

-- its takes
abbrev pub shown : MemShelf → List ShelfTake
shown s = takes_of s.takes.items

-- the calls that are to fail
abbrev pub listed : MemShelf → List FailAt
listed s = s.fails.items

-- whether every call is to fail
abbrev pub is_dead : MemShelf → Bool
is_dead s = s.dead

-- whether the next call is to fail
abbrev pub fails_next : MemShelf → Bool
fails_next s = s.dead || list_any (λ f. f.call == s.calls) s.fails.items

-- the count of faults after the next call: one more where it is to fail, and else the same
abbrev pub faults_next : MemShelf → ℕ
faults_next s = if fails_next s then raised s.faults 1 else s.faults

-- a count of wants after a call: one more where the call wanted memory, and else the same
abbrev pub wants_after : {T : Type 0} → Result T ShelfFault → ℕ → ℕ
wants_after (Ok _) wants = wants
wants_after (Err Failed) wants = wants
wants_after (Err NoMemory) wants = raised wants 1

-- how much the next write keeps, if it is to fail
abbrev pub keep_next : MemShelf → ℕ
keep_next s = keep_of s.fails.items s.calls

-- a write that failed kept so much of its piece, or nothing where memory was refused
abbrev pub KeepsFirst : ℕ → List ℕ → List ShelfTake → List ShelfTake → Type 0
KeepsFirst count piece old new = (new ≡ after_call (Write (take count piece)) old) ⊎ (new ≡ old)

-- which calls are to fail stays
pub record FailsAsBefore (old new : MemShelf) : Type 0 where
  pub listed : listed new ≡ listed old
  pub dead : is_dead new ≡ is_dead old
