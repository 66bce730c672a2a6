-- What an output was made of.
use Rattle.std.specs.Prelude.{ℕ, ◌==◌, if◌then◌else◌, List, [], ◌∷◌, ◌++◌, Option, Some, None}
use Rattle.std.specs.Fmt.{decimal}
use Rattle.fifo_core.specs.declared.types.PacketFacts.{PacketFacts}
use Rattle.playlist.specs.declared.seg_options.SegOptions.{SegOptions}
use Rattle.rmx_edge.specs.Shelf.{ShelfState}
use Rattle.rmx_media.specs.declared.packet.Format.{Format}
use Rattle.rmx_media.specs.declared.packet.Packet.{Packet}
use Rattle.rmx_media.specs.declared.streams.Kind.{Kind}
use Rattle.rmx_media.specs.declared.streams.Kind.TheVariants.{Video, Audio}
use Rattle.rmx_media.specs.declared.streams.MuxStream.{MuxStream}
use Rattle.rmx_media.specs.declared.streams.MuxStreams.{MuxStreams}
use Rattle.rmx_media.specs.Packet.{is_restart}

pub record Origin : Type 0 where
  -- its shelf as it was handed in, with no bytes counted
  pub shelf : ShelfState
  pub name : List ℕ
  pub format : Format
  -- how it is cut into segments, where that is its format; its name is a template then
  pub seg : Option SegOptions
  pub streams : MuxStreams

-- the name of a session: that of the output, and from session 1 on a tilde and the number behind it
abbrev pub session_name : List ℕ → ℕ → List ℕ
session_name name s = if s == 0 then name else name ++ 126 ∷ decimal s

abbrev pub number_if_video : Kind → ℕ → Option ℕ
number_if_video Video number = Some number
number_if_video Audio number = None

-- the number of the video stream, which comes first where there is one
abbrev pub video_of : List MuxStream → Option ℕ
video_of [] = None
video_of (s ∷ ss) = number_if_video s.info.kind s.stream

-- what the fate machine is told of a packet
abbrev pub facts_of : Origin → Packet → PacketFacts
facts_of g p = record { dts = p.dts; restart = is_restart p (video_of g.streams.streams.items) }
