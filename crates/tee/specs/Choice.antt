-- Which streams and packets an output takes.
use Rattle.std.specs.Prelude.{ℕ, ◌+◌, Bool, true, false, ◌&&◌, List, [], ◌∷◌, filter_map, Option}
use Rattle.std.specs.List.{list_any, filter}
use Rattle.std.specs.Option.{option_and_then}
use Rattle.rmx_media.specs.declared.packet.Format.{Format}
use Rattle.rmx_media.specs.declared.packet.Format.TheVariants.{Flv, Adts, Mpegts, Segment}
use Rattle.rmx_media.specs.declared.packet.Packet.{Packet}
use Rattle.rmx_media.specs.declared.streams.Kind.{Kind}
use Rattle.rmx_media.specs.declared.streams.StreamInfo.{StreamInfo}
use Rattle.rmx_media.specs.declared.streams.MuxStream.{MuxStream}
use Rattle.rmx_media.specs.Streams.{kind_in}
use Rattle.bsf_chain.specs.declared.filter.Filter.{Filter}
use Rattle.bsf_chain.specs.Apply.{result_of}
use Rattle.options.specs.declared.select.Spec.{Spec}
use Rattle.options.specs.Slave.{Slave}
pub use Rattle.options.specs.Filters.{is_audio, is_video, selects, filters_for}
pub use Rattle.slave.specs.Segments.{file_format}

-- whether files of that format take streams of that kind
abbrev pub takes_kind : Format → Kind → Bool
takes_kind Flv kind = true
takes_kind Adts kind = is_audio kind
takes_kind Mpegts kind = true
takes_kind Segment kind = false

-- the streams of an input, numbered by their places from that one on
abbrev pub numbered_from : ℕ → List StreamInfo → List MuxStream
numbered_from n [] = []
numbered_from n (info ∷ infos) = record { stream = n; info = info } ∷ numbered_from (n + 1) infos

abbrev pub all_streams : List StreamInfo → List MuxStream
all_streams infos = numbered_from 0 infos

-- an output takes a stream that one of its specifiers selects and that its files take
abbrev pub is_taken : Slave → ℕ → Kind → Bool
is_taken s number kind = list_any (λ c. selects c number kind) s.select && takes_kind (file_format s.format s.seg) kind

abbrev pub is_chosen : Slave → MuxStream → Bool
is_chosen s m = is_taken s m.stream m.info.kind

-- the streams that an output takes
abbrev pub chosen_streams : Slave → List StreamInfo → List MuxStream
chosen_streams s infos = filter (is_chosen s) (all_streams infos)

-- what an output with these streams and chains gets of a packet: nothing of another stream, and else what the filters leave
abbrev pub choice : List MuxStream → List (Spec × List Filter) → Packet → Option Packet
choice streams chains p = option_and_then (λ kind. result_of (filters_for chains p.stream kind) p) (kind_in streams p.stream)

-- the packets that an output gets of these
abbrev pub chosen : List MuxStream → List (Spec × List Filter) → List Packet → List Packet
chosen streams chains packets = filter_map (choice streams chains) packets
