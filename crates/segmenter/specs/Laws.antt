-- What holds of every session of segments.
use Rattle.std.specs.Prelude.{◌≡◌, ℕ, List, [], ◌∷◌, map}
use Rattle.playlist.specs.declared.list.ListEntry.{ListEntry}
use Rattle.rmx_edge.specs.Count.{raised}
use Rattle.rmx_edge.specs.FileCalls.{file_calls}
use Rattle.rmx_media.specs.declared.packet.Packet.{Packet}
use Rattle.segmenter.specs.Calls.{begin_calls, put_calls, end_calls, seg_calls}
use Rattle.segmenter.specs.Entries.{entries}
use Rattle.segmenter.specs.Session.{Session, stretches}

-- the calls that begin a session, those of its packets and those that end it are whole files one after another, each of one
-- stretch of the packets, and the list
abbrev pub SegmentsAreFiles : Type 0
SegmentsAreFiles = (s : Session) (packets : List Packet) → file_calls (begin_calls s) (put_calls s) (end_calls s) packets ≡ seg_calls s packets

-- the numbers of these files, from the first on
abbrev pub numbers_from : ℕ → List (List Packet) → List ℕ
numbers_from number [] = []
numbers_from number (x ∷ xs) = number ∷ numbers_from (raised number 1) xs

-- a list names each file of its session once, in their order
abbrev pub ListsNameFiles : Type 0
ListsNameFiles = (s : Session) (packets : List Packet) → map (λ (e : ListEntry). e.number) (entries s packets) ≡ numbers_from s.first (stretches s.plan packets)
