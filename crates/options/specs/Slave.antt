-- What one output's text says.
use Rattle.std.specs.Prelude.{ℕ, List, [], ◌∷◌, Bool, true, false, Option, Some, None, unwrap_or, is_none, Result, Ok, Err, ◌&&◌, ◌||◌, not, if◌then◌else◌, encode_utf8_all}
use Rattle.rmx_media.specs.declared.packet.Format.{Format}
use Rattle.rmx_media.specs.declared.packet.Format.TheVariants.{Flv, Adts, Mpegts, Segment}
use Rattle.fifo_core.specs.declared.types.FifoOptions.{FifoOptions}
use Rattle.playlist.specs.declared.seg_options.SegOptions.{SegOptions}
use Rattle.playlist.specs.Template.{template}
use Rattle.options.specs.declared.fault.WordKind.{WordKind}
use Rattle.options.specs.declared.fault.WordKind.TheVariants.{UnknownFormat, UnknownOption, BadTemplate, BadFilter}
use Rattle.options.specs.declared.fifo.FifoDraft.{FifoDraft}
use Rattle.options.specs.declared.segment.SegDraft.{SegDraft}
use Rattle.options.specs.declared.select.Spec.{Spec}
use Rattle.options.specs.declared.select.Spec.TheVariants.{All}
use Rattle.options.specs.declared.slave.SlavePlan.{SlavePlan}
use Rattle.bsf_chain.specs.declared.filter.Filter.{Filter}
use Rattle.options.specs.Filters.{are_native, are_short}
use Rattle.options.specs.Read.{◌>>=◌}
use Rattle.options.specs.Name.{checked_name}
use Rattle.options.specs.Fifo.{no_fifo, options_of}
use Rattle.options.specs.Segment.{has_any, seg_options}
use Rattle.options.specs.Draft.{Kept}
use Rattle.options.specs.Options.{block}

-- an output's plan without where its lists lie in memory
pub record Slave : Type 0 where
  pub name : List ℕ
  pub format : Format
  pub seg : Option SegOptions
  pub select : List Spec
  pub abort : Bool
  pub fifo : FifoOptions
  pub chains : List (Spec × List Filter)

abbrev pub view : SlavePlan → Slave
view s = record { name = s.name; format = s.format; seg = s.seg; select = s.select.items; abort = s.abort; fifo = s.fifo; chains = s.chains.items }

abbrev pub is_segment : Format → Bool
is_segment Segment = true
is_segment Flv = false
is_segment Adts = false
is_segment Mpegts = false

abbrev pub is_flv : Format → Bool
is_flv Flv = true
is_flv Adts = false
is_flv Mpegts = false
is_flv Segment = false

abbrev pub segments_of : Format → SegDraft → Option SegOptions
segments_of Segment d = Some (seg_options d)
segments_of Flv d = None
segments_of Adts d = None
segments_of Mpegts d = None

abbrev pub fifo_of : Option FifoDraft → Option Bool → FifoOptions
fifo_of draft use_fifo = options_of (unwrap_or use_fifo false) (unwrap_or draft no_fifo)

-- what the options say of an output of that format and name, with their defaults where they aren't set
abbrev pub slave_of : Format → Kept → List ℕ → Slave
slave_of format d name = record {
  name = name;
  format = format;
  seg = segments_of format d.segment;
  select = unwrap_or d.select (All ∷ []);
  abort = unwrap_or d.abort true;
  fifo = fifo_of d.fifo d.use_fifo;
  chains = d.chains;
}

-- whether FLV is written, which takes native packets alone
abbrev pub writes_flv : Format → SegDraft → Bool
writes_flv Flv d = true
writes_flv Adts d = false
writes_flv Mpegts d = false
writes_flv Segment d = is_flv (unwrap_or d.inner Mpegts)

-- the chains have to keep packets native for FLV, and to be short
abbrev pub with_chains : Format → Kept → List ℕ → Result Slave WordKind
with_chains format d name =
    if (writes_flv format d.segment && not (are_native d.chains)) || not (are_short d.chains) then Err BadFilter
    else Ok (slave_of format d name)

-- what is checked behind the block, in this order
abbrev pub checked : Format → Kept → List ℕ → Result Slave WordKind
checked format d name =
    if not (is_segment format) && has_any d.segment then Err UnknownOption
    else checked_name name >>= λ n.
    if is_segment format && is_none (template n) then Err BadTemplate
    else with_chains format d n

abbrev pub with_format : Option Format → Kept → List ℕ → Result Slave WordKind
with_format None d name = Err UnknownFormat
with_format (Some format) d name = checked format d name

unfoldable pub finished : Kept → List ℕ → Result Slave WordKind
finished d name = with_format d.format d name

-- the options, and then the name's bytes
unfoldable pub plan_slave : List ℕ → Result Slave WordKind
plan_slave text = block text >>= λ b. finished b.0 (encode_utf8_all b.1)
