-- What clauses see of a shelf whose flushes are watched.
use Rattle.std.specs.Prelude.{Bool}
use Rattle.slave.specs.declared.watched.Watched.{Watched}

-- the shelf inside
abbrev pub inner : {S : Type 0} → Watched S → S
inner w = w.shelf

-- whether the last call was a flush that was done
abbrev pub is_flushed : {S : Type 0} → Watched S → Bool
is_flushed w = w.flushed
