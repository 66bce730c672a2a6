-- What clauses see of a timeline.
use Rattle.std.specs.Prelude.{◌≡◌, ℕ, ℤ, pos, ◌-ℤ◌, List, [], ◌∷◌, Option, None, Some}
use Rattle.playlist.specs.declared.list.ListEntry.{ListEntry}
use Rattle.rmx_edge.specs.Count.{raised}
use Rattle.rmx_media.specs.declared.packet.Packet.{Packet}
use Rattle.segmenter.specs.declared.timeline.Timeline.{Timeline}
use Rattle.segmenter.specs.Entries.{entry, zero_of, greatest_pts}
use Rattle.segmenter.specs.Session.{Session}

-- the entries of files that ended: each ends where the next begins, with one of these packets
abbrev pub closed_from : ℤ → ℕ → ℤ → List Packet → List ListEntry
closed_from zero number start [] = []
closed_from zero number start (p ∷ ps) = entry number start (p.pts -ℤ zero) ∷ closed_from zero (raised number 1) (p.pts -ℤ zero) ps

-- the start of the last file
abbrev pub start_from : ℤ → ℤ → List Packet → ℤ
start_from zero start [] = start
start_from zero start (p ∷ ps) = start_from zero (p.pts -ℤ zero) ps

abbrev pub first_pts : List Packet → Option ℤ
first_pts [] = None
first_pts (p ∷ ps) = Some p.pts

-- the timeline has these packets of a session, of which `cutters` cut
pub record Shows (t : Timeline) (s : Session) (cutters before : List Packet) : Type 0 where
  pub entries : t.entries.items ≡ closed_from (zero_of before) s.first (pos 0) cutters
  pub start : t.start ≡ start_from (zero_of before) (pos 0) cutters
  pub zero : t.zero ≡ first_pts before
  pub top : t.top ≡ greatest_pts before

-- all but the entries and the room for them is as it was
pub record KeepsTimes (old new : Timeline) : Type 0 where
  pub zero : new.zero ≡ old.zero
  pub top : new.top ≡ old.top
  pub start : new.start ≡ old.start
