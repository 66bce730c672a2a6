-- Files of FLV (Adobe Flash Video File Format Specification 10.1, annex E): which calls of a shelf write one.
use Rattle.std.specs.Prelude.{ℕ, ◌+◌, ◌==◌, Bool, true, false, not, List, [], ◌∷◌, ◌++◌, length, filter, flat_map, Option, None, Some, ℤ, pos, ◌-ℤ◌, unsigned_abs, if◌then◌else◌}
use Rattle.std.specs.List.{list_any}
use Rattle.std.specs.Int.{w32, int_wrap}
use Rattle.rmx_media.specs.declared.config.Config.{Config}
use Rattle.rmx_media.specs.declared.config.Config.TheVariants.{Avc, Aac}
use Rattle.rmx_media.specs.declared.packet.Packet.{Packet}
use Rattle.rmx_media.specs.declared.streams.Kind.{Kind}
use Rattle.rmx_media.specs.declared.streams.Kind.TheVariants.{Video, Audio}
use Rattle.rmx_media.specs.declared.streams.MuxStream.{MuxStream}
use Rattle.rmx_media.specs.declared.streams.MuxStreams.{MuxStreams}
use Rattle.rmx_media.specs.Bits.{bytes_of}
use Rattle.rmx_media.specs.Config.{kind_of}
use Rattle.flv_tags.specs.Written.{tag_head_bytes, file_head_bytes}
use Rattle.rmx_edge.specs.Shelf.{ShelfCall, Create, Close}
use Rattle.rmx_edge.specs.Pieces.{writes}
use Rattle.rmx_edge.specs.FileCalls.{file_calls}

-- the pieces of a tag whose body begins with `lead`: the head with the lead, the content, and the size field behind the
-- tag. The stamp is the time modulo 2^32.
abbrev pub tag_pieces : ℕ → ℤ → List ℕ → List ℕ → List (List ℕ)
tag_pieces kind time lead content =
    (tag_head_bytes kind (length lead + length content) (int_wrap w32 time) ++ lead) ∷ content ∷ bytes_of 4 (11 + (length lead + length content)) ∷ []

abbrev pub is_video : Kind → Bool
is_video Video = true
is_video Audio = false

abbrev pub has_video : List MuxStream → Bool
has_video streams = list_any (λ s. is_video s.info.kind) streams

abbrev pub has_audio : List MuxStream → Bool
has_audio streams = list_any (λ s. not (is_video s.info.kind)) streams

-- in the flags of a file 4 says that there is audio, and 1 that there is video (annex E.2)
abbrev pub flags_of : List MuxStream → ℕ
flags_of streams = (if has_audio streams then 4 else 0) + (if has_video streams then 1 else 0)

-- the tag that says a configuration (annex E.4.2.1, E.4.3.1)
abbrev pub config_pieces : ℤ → Config → List (List ℕ)
config_pieces time (Avc config) = tag_pieces 9 time (23 ∷ 0 ∷ 0 ∷ 0 ∷ 0 ∷ []) config.raw
config_pieces time (Aac config) = tag_pieces 8 time (175 ∷ 0 ∷ []) config.raw

-- the size of that tag's body
abbrev pub config_size : Config → ℕ
config_size (Avc config) = 5 + length config.raw
config_size (Aac config) = 2 + length config.raw

abbrev pub stream_pieces : MuxStream → List (List ℕ)
stream_pieces s = config_pieces (pos 0) s.info.config

abbrev pub script_pieces : Option (List ℕ) → List (List ℕ)
script_pieces None = []
script_pieces (Some script) = tag_pieces 18 (pos 0) [] script

-- the head of a file: the flags, the script, the streams' configurations
abbrev pub head_pieces : MuxStreams → List (List ℕ)
head_pieces m = file_head_bytes (flags_of m.streams.items) ∷ script_pieces m.script ++ flat_map stream_pieces m.streams.items

-- a video tag says whether its packet is key, and how long after its decoding it is shown
abbrev pub media_lead : Packet → Config → List ℕ
media_lead p (Avc config) = (if p.key then 23 else 39) ∷ 1 ∷ bytes_of 3 (unsigned_abs (p.pts -ℤ p.dts))
media_lead p (Aac config) = 175 ∷ 1 ∷ []

abbrev pub tag_kind : Config → ℕ
tag_kind (Avc config) = 9
tag_kind (Aac config) = 8

abbrev pub media_pieces : Packet → List (List ℕ)
media_pieces p = tag_pieces (tag_kind p.config) p.dts (media_lead p p.config) p.payload

-- the version of the last of these packets, 0 if there is none
abbrev pub last_version : List Packet → ℕ
last_version [] = 0
last_version (p ∷ []) = p.version
last_version (p ∷ q ∷ ps) = last_version (q ∷ ps)

-- the version that is in force for a stream after these packets
abbrev pub version_in : ℕ → List Packet → ℕ
version_in stream before = last_version (filter (λ p. p.stream == stream) before)

-- the pieces of a packet behind those before it: its configuration goes in front where it changed
abbrev pub packet_pieces : List Packet → Packet → List (List ℕ)
packet_pieces before p = if p.version == version_in p.stream before then media_pieces p else config_pieces p.dts p.config ++ media_pieces p

-- the time of the last of these packets, 0 if there is none
abbrev pub last_time : List Packet → ℤ
last_time [] = pos 0
last_time (p ∷ []) = p.dts
last_time (p ∷ q ∷ ps) = last_time (q ∷ ps)

-- the time of the last video packet
abbrev pub video_time : List Packet → ℤ
video_time packets = last_time (filter (λ p. is_video (kind_of p.config)) packets)

-- the end of a sequence, one piece with its size field (annex E.4.3.1)
abbrev pub sequence_end : ℤ → List ℕ
sequence_end time = tag_head_bytes 9 5 (int_wrap w32 time) ++ 23 ∷ 2 ∷ 0 ∷ 0 ∷ 0 ∷ bytes_of 4 16

-- the tail of a file, which has an end of the sequence where it has video
abbrev pub tail_pieces_at : MuxStreams → ℤ → List (List ℕ)
tail_pieces_at m time = if has_video m.streams.items then sequence_end time ∷ [] else []

abbrev pub tail_pieces : MuxStreams → List Packet → List (List ℕ)
tail_pieces m packets = tail_pieces_at m (video_time packets)

-- the calls that begin a file, those of a packet behind the packets before it, and those that end a file
abbrev pub begin_calls : MuxStreams → List ℕ → List ShelfCall
begin_calls m name = Create name ∷ writes (head_pieces m)

abbrev pub put_calls : List Packet → Packet → List ShelfCall
put_calls before p = writes (packet_pieces before p)

abbrev pub end_calls : MuxStreams → List Packet → List ShelfCall
end_calls m packets = writes (tail_pieces m packets) ++ Close ∷ []

-- the calls of a whole file of these packets
abbrev pub flv_calls : MuxStreams → List ℕ → List Packet → List ShelfCall
flv_calls m name packets = file_calls (begin_calls m name) put_calls (end_calls m) packets
