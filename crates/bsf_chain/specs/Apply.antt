-- What a chain makes of a packet.
use Rattle.std.specs.Prelude.{◌≡◌, ◌≤◌, ℕ, Bool, true, false, ◌||◌, ◌==◌, if◌then◌else◌, List, [], ◌∷◌, length, Option, None, Some}
use Rattle.std.specs.Option.{option_map, option_and_then}
use Rattle.std.specs.List.{list_any}
use Rattle.bsf_chain.specs.declared.filter.Filter.{Filter}
use Rattle.bsf_chain.specs.declared.filter.Filter.TheVariants.{ToAnnexB, FilterUnits, DumpExtra, Null, AacAdts}
use Rattle.rmx_media.specs.declared.avc.AvcConfig.{AvcConfig}
use Rattle.rmx_media.specs.declared.config.Config.{Config}
use Rattle.rmx_media.specs.declared.config.Config.TheVariants.{Avc, Aac}
use Rattle.rmx_media.specs.declared.packet.Form.{Form}
use Rattle.rmx_media.specs.declared.packet.Form.TheVariants.{Native, AnnexB, Adts}
use Rattle.rmx_media.specs.declared.packet.Packet.{Packet}
use Rattle.rmx_media.specs.Adts.{adts_frame}
use Rattle.rmx_media.specs.Avc.{sets_of}
use Rattle.rmx_media.specs.Units.{units_of, native, annexb}
use Rattle.avc_units.specs.UnitList.{kept, with_sets, in_front}

-- the units of a video packet between two filters, and whether they will stand behind start codes
pub record Laid : Type 0 where
  pub units : List (List ℕ)
  pub started : Bool

abbrev pub laid : List (List ℕ) → Bool → Laid
laid units started = record { units = units; started = started }

-- whether a filter does something with native video; what was changed before stays changed
abbrev pub acts_on_video : Filter → Bool
acts_on_video ToAnnexB = true
acts_on_video (FilterUnits keep) = true
acts_on_video (DumpExtra all) = true
acts_on_video Null = false
acts_on_video AacAdts = false

-- whether a filter does something with native audio
abbrev pub acts_on_audio : Filter → Bool
acts_on_audio ToAnnexB = false
acts_on_audio (FilterUnits keep) = false
acts_on_audio (DumpExtra all) = false
acts_on_audio Null = false
acts_on_audio AacAdts = true

-- the sets go in before the first IDR unit as units leave their length fields
abbrev pub to_annexb : List (List ℕ) → Laid → Laid
to_annexb sets l = laid (if l.started then l.units else with_sets sets l.units) true

-- nothing, where no unit is left
abbrev pub where_some : Laid → Option Laid
where_some l = if length l.units == 0 then None else Some l

-- what a filter leaves of the units, by the sets and whether the packet is key
abbrev pub filtered : List (List ℕ) → Bool → Filter → Laid → Option Laid
filtered sets key ToAnnexB l = Some (to_annexb sets l)
filtered sets key (FilterUnits keep) l = where_some (laid (kept keep l.units) l.started)
filtered sets key (DumpExtra all) l = Some (laid (if key || all then in_front sets l.units else l.units) true)
filtered sets key Null l = Some l
filtered sets key AacAdts l = Some l

-- the same for all filters, one after another
abbrev pub passed : List (List ℕ) → Bool → List Filter → Laid → Option Laid
passed sets key [] l = Some l
passed sets key (filter ∷ filters) l = option_and_then (passed sets key filters) (filtered sets key filter l)

abbrev pub form_of : Bool → Form
form_of started = if started then AnnexB else Native

abbrev pub printed : ℕ → Laid → List ℕ
printed width l = if l.started then annexb l.units else native width l.units

-- the packet in another form; all else stays
abbrev pub in_form : Packet → Form → List ℕ → Packet
in_form p form payload = record p { form = form; payload = payload }

abbrev pub packet_of : Packet → AvcConfig → Laid → Packet
packet_of p config l = in_form p (form_of l.started) (printed config.length_size l)

abbrev pub laid_of : Packet → AvcConfig → Laid
laid_of p config = laid (units_of config.length_size p.payload) false

unfoldable pub video_result : List Filter → Packet → AvcConfig → Option Packet
video_result filters p config = option_map (packet_of p config) (passed (sets_of config) p.key filters (laid_of p config))

abbrev pub result_by : List Filter → Packet → Config → Option Packet
result_by filters p (Avc config) = if list_any acts_on_video filters then video_result filters p config else Some p
result_by filters p (Aac config) = if list_any acts_on_audio filters then Some (in_form p Adts (adts_frame config p.payload)) else Some p

-- what the filters leave of a native packet: itself, another one, or nothing
unfoldable pub result_of : List Filter → Packet → Option Packet
result_of filters p = result_by filters p p.config

-- nothing is left, or a native packet that is no longer
abbrev pub IsKept : Packet → Option Packet → Type 0
IsKept p None = Unit {0}
IsKept p (Some q) = (q.form ≡ Native) × (length q.payload ≤ length p.payload)
