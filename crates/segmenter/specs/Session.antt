-- A session of a muxer of segments: which of its packets cut, and what stretches they make.
use Rattle.std.specs.Prelude.{ℕ, ◌==◌, Bool, false, if◌then◌else◌, List, [], ◌∷◌, ◌++◌, map, reverse}
use Rattle.playlist.specs.declared.seg_options.SegOptions.{SegOptions}
use Rattle.playlist.specs.Template.{TemplateParts}
use Rattle.rmx_media.specs.declared.packet.Packet.{Packet}
use Rattle.rmx_media.specs.declared.streams.MuxStream.{MuxStream}
use Rattle.rmx_media.specs.declared.streams.MuxStreams.{MuxStreams}
use Rattle.rmx_media.specs.Packet.{is_restart}
use Rattle.ts_mux.specs.File.{video_of}
use Rattle.segmenter.specs.Cuts.{CutRule, Mark, cuts}

-- what a muxer of segments was made of
pub record Plan : Type 0 where
  pub options : SegOptions
  pub streams : MuxStreams

-- the names of a session's files, and the number of the first
pub record Session : Type 0 where
  pub plan : Plan
  pub template : TemplateParts
  pub first : ℕ

abbrev pub rule_of : Plan → CutRule
rule_of plan = record { time_us = plan.options.time_us; any_packet = plan.options.any_packet }

-- cuts are made at the video stream, which is the first where there is one, or else at the audio stream
abbrev pub is_reference : List MuxStream → ℕ → Bool
is_reference [] number = false
is_reference (s ∷ ss) number = number == s.stream

abbrev pub mark_of : Plan → Packet → Mark
mark_of plan p = record {
  pts = p.pts;
  reference = is_reference plan.streams.streams.items p.stream;
  restart = is_restart p (video_of plan.streams.streams.items);
}

-- whether a packet cuts behind those earlier ones, of which the newest is listed first
abbrev pub cuts_behind : Plan → List Packet → Packet → Bool
cuts_behind plan earlier p = cuts (rule_of plan) (map (mark_of plan) earlier) (mark_of plan p)

-- whether a packet cuts behind those before it
unfoldable pub cuts_in : Plan → List Packet → Packet → Bool
cuts_in plan before p = cuts_behind plan (reverse before) p

abbrev pub cutting_behind : Plan → List Packet → List Packet
cutting_behind plan [] = []
cutting_behind plan (p ∷ earlier) = (if cuts_behind plan earlier p then p ∷ [] else []) ++ cutting_behind plan earlier

-- the packets that cut: each begins a file, and the first file is begun without one
unfoldable pub cutting : Plan → List Packet → List Packet
cutting plan packets = reverse (cutting_behind plan (reverse packets))

-- the last stretch, the newest packet first
abbrev pub last_behind : Plan → List Packet → List Packet
last_behind plan [] = []
last_behind plan (p ∷ earlier) = p ∷ (if cuts_behind plan earlier p then [] else last_behind plan earlier)

-- the packets from the last one that cut on, or all where none did: those of the file that is being written
unfoldable pub last_stretch : Plan → List Packet → List Packet
last_stretch plan packets = reverse (last_behind plan (reverse packets))

-- The packets `rest` split before each that cuts. They stand behind `before`, of which the last stretch is `open`.
abbrev pub stretches_from : Plan → List Packet → List Packet → List Packet → List (List Packet)
stretches_from plan before open_ones [] = open_ones ∷ []
stretches_from plan before open_ones (p ∷ rest) =
    if cuts_in plan before p then open_ones ∷ stretches_from plan (before ++ p ∷ []) (p ∷ []) rest
    else stretches_from plan (before ++ p ∷ []) (open_ones ++ p ∷ []) rest

-- the packets of a session split before each that cuts: at least one stretch, each of them one file
abbrev pub stretches : Plan → List Packet → List (List Packet)
stretches plan packets = stretches_from plan [] [] packets
