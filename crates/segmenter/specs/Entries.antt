-- The entries of a session's list: its files with their times, in ms after the first packet's pts.
use Rattle.std.specs.Prelude.{ℕ, ℤ, pos, ◌-ℤ◌, List, [], ◌∷◌, fold}
use Rattle.std.specs.Int.{int_max}
use Rattle.playlist.specs.declared.list.ListEntry.{ListEntry}
use Rattle.rmx_edge.specs.Count.{raised}
use Rattle.rmx_media.specs.declared.packet.Packet.{Packet}
use Rattle.segmenter.specs.Session.{Session, cutting}

-- the pts from which times are counted, that of the first packet
abbrev pub zero_of : List Packet → ℤ
zero_of [] = pos 0
zero_of (p ∷ ps) = p.pts

-- the greatest pts
unfoldable pub greatest_pts : List Packet → ℤ
greatest_pts packets = fold (λ top (p : Packet). int_max top p.pts) (zero_of packets) packets

abbrev pub entry : ℕ → ℤ → ℤ → ListEntry
entry number start end = record { number = number; start_ms = start; end_ms = end }

-- A file of this number and start, and those that begin with these packets. Each ends where the next one starts, the last
-- one at `end`.
abbrev pub entries_from : ℤ → ℤ → ℕ → ℤ → List Packet → List ListEntry
entries_from zero end number start [] = entry number start end ∷ []
entries_from zero end number start (p ∷ ps) = entry number start (p.pts -ℤ zero) ∷ entries_from zero end (raised number 1) (p.pts -ℤ zero) ps

-- the entries of a session with these packets: the first file starts at 0, and the last one ends at the greatest pts
unfoldable pub entries : Session → List Packet → List ListEntry
entries s packets = entries_from (zero_of packets) (greatest_pts packets -ℤ zero_of packets) s.first (pos 0) (cutting s.plan packets)
