-- A lane before its thread is started.
use Rattle.std.specs.Prelude.{◌≡◌, Bool, true, false, List, [], Option, Some, None}
use Rattle.std.specs.Arc.{arc_value}
use Rattle.lane.specs.Told.{GiverNow, TakerNow}
use Rattle.options.specs.Slave.{Slave}
use Rattle.rmx_media.specs.declared.streams.StreamInfo.{StreamInfo}
use Rattle.tee.specs.Choice.{chosen_streams, file_format}
use Rattle.tee.specs.declared.lanes.LaneKit.{LaneKit}

-- nothing was offered or asked
pub record IsUnused (g : GiverNow) : Type 0 where
  pub given : g.given ≡ []
  pub refusals : g.refusals ≡ []
  pub closed : g.closed ≡ false
  pub asked : g.asked ≡ 0
  pub told : g.told ≡ None
  pub past : g.past ≡ []

-- nothing was taken
pub record IsUntaken (t : TakerNow) : Type 0 where
  pub got : t.got ≡ []
  pub numbers : t.numbers ≡ []
  pub failed : t.failed ≡ false
  pub past : t.past ≡ []

-- it was made for the output of that plan
pub record IsLaneKit {G : Type 0} (infos : List StreamInfo) (s : Slave) (kit : LaneKit G) : Type 0 where
  pub same : arc_value kit.theirs ≡ arc_value kit.lane
  pub giver_ring : kit.giver.ring ≡ (arc_value kit.lane).ring
  pub taker_ring : kit.taker.ring ≡ (arc_value kit.lane).ring
  pub cap : (arc_value kit.lane).cap ≡ s.fifo.queue_size
  pub about : kit.taker.about ≡ kit.giver.about
  pub format : kit.giver.about.format ≡ file_format s.format s.seg
  pub streams : kit.giver.about.streams.value.streams.items ≡ chosen_streams s infos
  pub limit : kit.giver.about.limit ≡ s.fifo.queue_bytes
  pub drops : kit.giver.about.drops ≡ s.fifo.dropping
  pub kit_cap : kit.cap ≡ s.fifo.queue_size
  pub kit_drops : kit.drops ≡ s.fifo.dropping
  pub receipts : kit.receipts.items ≡ []
  pub unused : IsUnused kit.giver
  pub untaken : IsUntaken kit.taker

abbrev pub IsAsked : {G : Type 0} → List StreamInfo → Slave → Bool → Option (LaneKit G) → Type 0
IsAsked infos s true None = ⊥
IsAsked infos s true (Some kit) = IsLaneKit infos s kit
IsAsked infos s false None = Unit {0}
IsAsked infos s false (Some kit) = ⊥

-- there is one exactly where the output is to have a thread
abbrev pub IsKitOf : {G : Type 0} → List StreamInfo → Slave → Option (LaneKit G) → Type 0
IsKitOf infos s kit = IsAsked infos s s.fifo.use_fifo kit
