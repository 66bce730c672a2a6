-- Plans that keep all limits.
use Rattle.std.specs.Prelude.{◌≡◌, ℕ, ◌<◌, ◌≤◌, List, Bool, true, false, Option, Some, None, is_some, length, All}
use Rattle.playlist.specs.declared.seg_options.SegOptions.{SegOptions}
use Rattle.playlist.specs.Template.{template}
use Rattle.options.specs.Name.{name_fault}
use Rattle.rmx_media.specs.declared.packet.Format.{Format}
use Rattle.rmx_media.specs.declared.packet.Format.TheVariants.{Flv, Adts, Mpegts, Segment}
use Rattle.options.specs.Filters.{are_native, are_short}
use Rattle.options.specs.Slave.{Slave, is_segment, is_flv}
use Rattle.options.specs.Tee.{list_of}
use Rattle.options.specs.Words.{Planned}

-- a name, where there is one, has 1 to 200 bytes, none of them a control character
abbrev pub IsNameIfAny : Option (List ℕ) → Type 0
IsNameIfAny None = Unit {0}
IsNameIfAny (Some name) = name_fault name ≡ None

-- the first segment's number, where there are segments, is below 2^32
abbrev pub StartFits : Option SegOptions → Type 0
StartFits None = Unit {0}
StartFits (Some options) = options.start ≤ 4294967295

-- segments are of a format that is one file
abbrev pub AreFiles : Option SegOptions → Type 0
AreFiles None = Unit {0}
AreFiles (Some options) = is_segment options.inner ≡ false

-- whether FLV is written
abbrev pub writes : Format → Option SegOptions → Bool
writes Segment None = false
writes Segment (Some options) = is_flv options.inner
writes Flv seg = true
writes Adts seg = false
writes Mpegts seg = false

pub record IsValid (s : Slave) : Type 0 where
  pub name : name_fault s.name ≡ None
  pub list : IsNameIfAny (list_of s.seg)
  pub start : StartFits s.seg
  pub files : AreFiles s.seg
  pub queue_some : 1 ≤ s.fifo.queue_size
  pub queue_few : s.fifo.queue_size ≤ 256
  -- it has options of segments exactly where it is cut into segments, and its name is a template then
  pub segments : is_some s.seg ≡ is_segment s.format
  pub template : is_segment s.format ≡ true → is_some (template s.name) ≡ true
  -- its chains never have more than sixteen filters for one stream, and keep packets native where FLV is written
  pub short : are_short s.chains ≡ true
  pub native : writes s.format s.seg ≡ true → are_native s.chains ≡ true

pub record IsValidPlan (p : Planned) : Type 0 where
  pub some : 0 < length p.slaves
  pub few : length p.slaves ≤ 16
  pub each : All IsValid p.slaves
