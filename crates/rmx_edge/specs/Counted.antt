-- What clauses see of a shelf that counts the bytes that it accepts.
use Rattle.std.specs.Prelude.{ℕ, Some}
use Rattle.rmx_edge.specs.declared.counted.Counted.{Counted}
use Rattle.rmx_edge.specs.declared.shelf.Shelf.{Ghosts}
use Rattle.rmx_edge.specs.Count.{raised}
use Rattle.rmx_edge.specs.Shelf.{ShelfState}

-- a shelf's state, with these bytes accepted before the last call and in it
abbrev pub with_count : ShelfState → ℕ → ℕ → ShelfState
with_count s before last = record {
  takes = s.takes;
  calls = s.calls;
  accepted = Some record { before = before; last = last };
  writing = s.writing;
  faults = s.faults;
  wants = s.wants;
  sound = s.sound;
}

-- the shelf inside
abbrev pub inner : {S : Type 0} {G : Ghosts S} → Counted S G → S
inner c = c.shelf

-- all bytes that were accepted
abbrev pub bytes_of : {S : Type 0} {G : Ghosts S} → Counted S G → ℕ
bytes_of c = raised c.before c.last
