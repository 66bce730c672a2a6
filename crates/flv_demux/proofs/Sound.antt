-- What holds of the packets of tags as they come from a text.
use Rattle.std.proofs.Common.{◌≡◌, ℕ, ◌≤◌, Bool, true, List, length, refl, arith}
use Rattle.std.specs.Prelude.{ℤ, pos, negsuc, ◌≤ℤ◌, ◌+ℤ◌}
use Rattle.rmx_media.specs.Config.{kind_of}
use Rattle.rmx_media.specs.Fits.{IsPayload}
use Rattle.rmx_media.specs.declared.config.Config.{Config}
use Rattle.rmx_media.specs.declared.config.Config.TheVariants.{Avc, Aac}
use Rattle.rmx_media.specs.declared.packet.Form.TheVariants.{Native}
use Rattle.rmx_media.specs.declared.streams.Kind.{Kind}
use Rattle.rmx_media.specs.declared.streams.Kind.TheVariants.{Video, Audio}
use Rattle.flv_demux.specs.declared.deal.Meaning.TheVariants.{Media}
use Rattle.flv_demux.specs.Meaning.{IsSound}
use Rattle.flv_demux.specs.Probe.{IsOfKind}
use Rattle.flv_demux.specs.Deal.{is_valid, IsSmallTop, IsSoundPacket}

payload_of : (kind : Kind) (config : Config) (key : Bool) (composition : ℤ) (payload : List ℕ) → kind_of config ≡ kind → IsSound (Media kind key composition payload) → is_valid config payload ≡ true → IsPayload config Native payload
payload_of Video (Avc config) key composition payload e s v = v
payload_of Video (Aac config) key composition payload e s v = cc
payload_of Audio (Avc config) key composition payload e s v = cc
payload_of Audio (Aac config) key composition payload e s v = s.1

size_of : (kind : Kind) (key : Bool) (composition : ℤ) (payload : List ℕ) → IsSound (Media kind key composition payload) → length payload ≤ 16777210
size_of Video key composition payload s = s.1
size_of Audio key composition payload s = let h : length payload ≤ 8184 = s.1 in omega arith

pub sound_packet : (kind : Kind) (stream : ℕ) (dts pts dts' pts' composition : ℤ) (key : Bool) (payload : List ℕ) (config config' : Config) (version : ℕ) →
    IsOfKind kind config → config' ≡ config → IsSound (Media kind key composition payload) → is_valid config payload ≡ true →
    dts' ≡ dts → pts' ≡ pts → negsuc 2147483647 ≤ℤ dts → IsSmallTop dts → dts' ≤ℤ pts → pts ≤ℤ (dts' +ℤ pos 8388607) →
    IsSoundPacket kind record { stream = stream; dts = dts'; pts = pts'; key = key; form = Native; payload = payload; config = config'; version = version }
sound_packet kind stream dts pts dts' pts' composition key payload config config' version k c s v ed ep low high early late = record {
  config = rw c k;
  native = refl;
  payload = rw c (payload_of kind config key composition payload k.same s v);
  size = size_of kind key composition payload s;
  low = rw ed low;
  high = rw ed high;
  early = rw ep early;
  late = rw ep late;
}
