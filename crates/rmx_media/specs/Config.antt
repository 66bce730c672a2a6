-- Configurations of either kind.
use Rattle.std.specs.Prelude.{◌≡◌, ◌≤◌, List, ℕ, length, Ok}
use Rattle.rmx_media.specs.declared.aac.AacConfig.{AacConfig}
use Rattle.rmx_media.specs.declared.avc.AvcConfig.{AvcConfig}
use Rattle.rmx_media.specs.declared.config.Config.{Config}
use Rattle.rmx_media.specs.declared.config.Config.TheVariants.{Avc, Aac}
use Rattle.rmx_media.specs.declared.streams.Kind.{Kind}
use Rattle.rmx_media.specs.declared.streams.Kind.TheVariants.{Video, Audio}
use Rattle.rmx_media.specs.Aac.{aac_config}
use Rattle.rmx_media.specs.Avc.{avc_config}

abbrev pub kind_of : Config → Kind
kind_of (Avc config) = Video
kind_of (Aac config) = Audio

abbrev pub raw_of : Config → List ℕ
raw_of (Avc config) = config.raw
raw_of (Aac config) = config.raw

-- an AVC configuration is as its reader answers it, and small enough for the body of an FLV tag
pub record IsReadAvc (config : AvcConfig) : Type 0 where
  pub read : avc_config config.raw ≡ Ok config
  pub size : length config.raw ≤ 16777210

-- an AAC configuration is as its reader answers it, and small enough for the body of an FLV tag
pub record IsReadAac (config : AacConfig) : Type 0 where
  pub read : aac_config config.raw ≡ Ok config
  pub size : length config.raw ≤ 16777213

abbrev pub IsAsRead : Config → Type 0
IsAsRead (Avc config) = IsReadAvc config
IsAsRead (Aac config) = IsReadAac config

-- of one kind, and read from the same bytes
pub record IsSame (a b : Config) : Type 0 where
  pub kind : kind_of a ≡ kind_of b
  pub raw : raw_of a ≡ raw_of b
