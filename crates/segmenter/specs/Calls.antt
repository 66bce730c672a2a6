-- The shelf calls of a session of segments.
use Rattle.std.specs.Prelude.{ℕ, ◌+◌, if◌then◌else◌, List, [], ◌∷◌, ◌++◌, length, Option, None, Some}
use Rattle.playlist.specs.List.{list_calls}
use Rattle.playlist.specs.Template.{name_of}
use Rattle.rmx_edge.specs.Count.{raised}
use Rattle.rmx_edge.specs.FileCalls.{file_calls}
use Rattle.rmx_edge.specs.Shelf.{ShelfCall}
use Rattle.rmx_media.specs.declared.packet.Packet.{Packet}
use Rattle.segmenter.specs.Entries.{entries}
use Rattle.segmenter.specs.FileMux.{begin_of, put_of, end_of}
use Rattle.segmenter.specs.Session.{Session, cuts_in, cutting, last_stretch, stretches}
use Rattle.segmenter.specs.Times.{lowered_by, base_of, lowered}

-- the calls that begin the file of this number
abbrev pub begin_file : Session → ℕ → List ShelfCall
begin_file s number = begin_of s.plan.options.inner s.plan.streams (name_of s.template number)

-- the calls of a packet behind these in its file
abbrev pub put_in_file : Session → List Packet → Packet → List ShelfCall
put_in_file s stretch p =
    put_of s.plan.options.inner s.plan.streams (lowered s.plan.options.reset stretch) (lowered_by (base_of s.plan.options.reset (stretch ++ p ∷ [])) p)

-- the calls that end a file of these packets
abbrev pub end_file : Session → List Packet → List ShelfCall
end_file s stretch = end_of s.plan.options.inner s.plan.streams (lowered s.plan.options.reset stretch)

-- the calls that write the list, where one is asked for
abbrev pub list_by : Session → Option (List ℕ) → List Packet → List ShelfCall
list_by s None packets = []
list_by s (Some name) packets = list_calls s.plan.options.list_kind name s.template (entries s packets)

-- the calls that begin a session
abbrev pub begin_calls : Session → List ShelfCall
begin_calls s = begin_file s s.first

-- The calls of a packet behind those before it in the session. One that cuts ends the file and begins the next. Numbers stand
-- still at 2 ^ 64 - 1.
unfoldable pub put_calls : Session → List Packet → Packet → List ShelfCall
put_calls s before p =
    if cuts_in s.plan before p
    then end_file s (last_stretch s.plan before) ++ (begin_file s (raised s.first (length (cutting s.plan before) + 1)) ++ put_in_file s [] p)
    else put_in_file s (last_stretch s.plan before) p

-- the calls that end a session of these packets: the last file's end, and then the list
unfoldable pub end_calls : Session → List Packet → List ShelfCall
end_calls s packets = end_file s (last_stretch s.plan packets) ++ list_by s s.plan.options.list packets

-- the calls of the whole file of this number that has these packets
abbrev pub whole_file : Session → ℕ → List Packet → List ShelfCall
whole_file s number stretch =
    file_calls (begin_file s number) (put_of s.plan.options.inner s.plan.streams) (end_of s.plan.options.inner s.plan.streams) (lowered s.plan.options.reset stretch)

abbrev pub whole_files : Session → ℕ → List (List Packet) → List ShelfCall
whole_files s number [] = []
whole_files s number (x ∷ xs) = whole_file s number x ++ whole_files s (raised number 1) xs

-- the calls of a whole session of these packets: each stretch in a file of its own, and then the list
abbrev pub seg_calls : Session → List Packet → List ShelfCall
seg_calls s packets = whole_files s s.first (stretches s.plan packets) ++ list_by s s.plan.options.list packets
