-- What an output leaves of a packet fits its files.
use Rattle.std.proofs.Common.{◌≡◌, ◌<◌, ◌≤◌, ℕ, zero, suc, List, [], length, get_or, Bool, true, false, cond, Option, Some, None, Result, Ok, Err, refl, sym, ◌∙◌, ap, subst, arith}
use Rattle.std.specs.Prelude.{IfOk}
use Rattle.std.specs.List.{list_any}
use Rattle.std.specs.Option.{option_map, option_and_then}
use Rattle.bsf_chain.specs.Apply.{result_of, result_by, video_result, packet_of, passed, laid_of, Laid, IsKept, acts_on_video, acts_on_audio}
use Rattle.bsf_chain.specs.declared.filter.Filter.{Filter}
use Rattle.options.specs.Filters.{filters_for, is_audio}
use Rattle.options.specs.Slave.{is_flv}
use Rattle.options.specs.Valid.{writes}
use Rattle.options.specs.declared.select.Spec.{Spec}
use Rattle.playlist.specs.declared.seg_options.SegOptions.{SegOptions}
use Rattle.rmx_media.specs.declared.avc.AvcConfig.{AvcConfig}
use Rattle.rmx_media.specs.declared.config.Config.{Config}
use Rattle.rmx_media.specs.declared.config.Config.TheVariants.{Avc, Aac}
use Rattle.rmx_media.specs.declared.packet.Format.{Format}
use Rattle.rmx_media.specs.declared.packet.Format.TheVariants.{Flv, Adts, Mpegts, Segment}
use Rattle.rmx_media.specs.declared.packet.Packet.{Packet}
use Rattle.rmx_media.specs.declared.streams.Kind.{Kind}
use Rattle.rmx_media.specs.declared.streams.Kind.TheVariants.{Video, Audio}
use Rattle.rmx_media.specs.declared.streams.MuxStream.{MuxStream}
use Rattle.rmx_media.specs.declared.streams.MuxStreams.{MuxStreams}
use Rattle.rmx_media.specs.declared.streams.StreamInfo.{StreamInfo}
use Rattle.rmx_media.specs.Config.{kind_of}
use Rattle.rmx_media.specs.Fits.{Fits, Suits}
use Rattle.rmx_media.specs.Streams.{AreInfos, IsSound, kind_in}
use Rattle.slave.specs.Table.{Takes}
use Rattle.tee.specs.Choice.{all_streams, choice, takes_kind, file_format}
use Rattle.tee.specs.Route.{IsRoute, IsLeft, IsPlaced, IsFiltered, filters_in, is_through, is_whole, passes_in, route_in}
use Rattle.tee.specs.Seat.{Seat, IsInput}
use Rattle.tee.specs.declared.choice.Choice.{Choice}
use Rattle.tee.specs.declared.choice.Route.{Route}
use Rattle.tee.specs.declared.choice.Route.TheVariants.{Skip, Whole, Through}
use Rattle.tee.proofs.Choices.{is_one_of, keepers_for, some_at, sound_at, taken_from}

unfiltered_by : (p : Packet) (c : Config) → result_by [] p c ≡ Some p
unfiltered_by p (Avc config) = refl
unfiltered_by p (Aac config) = refl

unfiltered : (p : Packet) → result_of [] p ≡ Some p
unfolding result_of
unfiltered p = unfiltered_by p p.config

fits_without : (all : MuxStreams) (p : Packet) → Fits Flv all p → Fits Mpegts all p
fits_without all p f = record {
  all = record { stream = f.all.stream; config = f.all.config; payload = f.all.payload; size = f.all.size; early = f.all.early; late = f.all.late; suits = tt };
  low = f.low;
  high = f.high;
}

-- what no filter acts on is left as it is
pub whole_left : (streams : List MuxStream) (chains : List (Spec × List Filter)) (all : MuxStreams) (p : Packet) (route : Route) → route ≡ Whole
    → IsRoute streams chains p.stream route → Fits Flv all p → IsLeft streams chains all p (Some p)
whole_left streams chains all p route e r f =
    let is : IsRoute streams chains p.stream Whole = subst (λ (x : Route). IsRoute streams chains p.stream x) e r in
    record {
      is_choice = rw (is.1, is.2, unfiltered p) refl;
      fits = fits_without all p f;
      native = λ kind k n. (f.all.suits.0, omega arith);
    }

-- the stream and the configuration of a packet stay
pub record Stays (p q : Packet) : Type 0 where
  pub stream : q.stream ≡ p.stream
  pub config : q.config ≡ p.config

laid_stays : (p q : Packet) (config : AvcConfig) (l : Option Laid) → Some q ≡ option_map (packet_of p config) l → Stays p q
laid_stays p q config None e = absurd cc
laid_stays p q config (Some l) e =
    let is : q ≡ packet_of p config l = cc in
    record { stream = ap (λ (x : Packet). x.stream) is; config = ap (λ (x : Packet). x.config) is }

video_stays : (filters : List Filter) (p q : Packet) (config : AvcConfig) → Some q ≡ video_result filters p config → Stays p q
unfolding video_result
video_stays filters p q config e = laid_stays p q config (passed (Rattle.rmx_media.specs.Avc.sets_of config) p.key filters (laid_of p config)) e

same_stays : (p q : Packet) → Some q ≡ Some p → Stays p q
same_stays p q e =
    let is : q ≡ p = cc in
    record { stream = ap (λ (x : Packet). x.stream) is; config = ap (λ (x : Packet). x.config) is }

formed_stays : (p q r : Packet) → Some q ≡ Some r → r.stream ≡ p.stream → r.config ≡ p.config → Stays p q
formed_stays p q r e s c =
    let is : q ≡ r = cc in
    record { stream = ap (λ (x : Packet). x.stream) is ∙ s; config = ap (λ (x : Packet). x.config) is ∙ c }

either_stays : (p q : Packet) (b : Bool) (x : Option Packet) → (Some q ≡ x → Stays p q) → Some q ≡ cond b x (Some p) → Stays p q
either_stays p q true x h e = h e
either_stays p q false x h e = same_stays p q e

stays_by : (filters : List Filter) (p q : Packet) (c : Config) → Some q ≡ result_by filters p c → Stays p q
stays_by filters p q (Avc config) e = either_stays p q (list_any acts_on_video filters) (video_result filters p config) (video_stays filters p q config) e
stays_by filters p q (Aac config) e = either_stays p q (list_any acts_on_audio filters) _ (λ h. formed_stays p q _ h refl refl) e

stays : (filters : List Filter) (p q : Packet) → Some q ≡ result_of filters p → Stays p q
unfolding result_of
stays filters p q e = stays_by filters p q p.config e

-- a packet that is chosen is of a chosen stream, and its filters left it
record IsOf (chains : List (Spec × List Filter)) (p q : Packet) (found : Option Kind) : Type 0 where
  kind : Kind
  is : found ≡ Some kind
  result : Some q ≡ result_of (filters_for chains p.stream kind) p

is_of : (chains : List (Spec × List Filter)) (p q : Packet) (found : Option Kind) → Some q ≡ option_and_then (λ kind. result_of (filters_for chains p.stream kind) p) found → IsOf chains p q found
is_of chains p q None e = absurd cc
is_of chains p q (Some kind) e = record { kind = kind; is = refl; result = e }

audio_of : (k : Kind) → is_audio k ≡ true → k ≡ Audio
audio_of Audio e = refl
audio_of Video e = absurd cc

suits_by : (format : Format) (p q : Packet) (k : Kind) → takes_kind format k ≡ true → kind_of q.config ≡ k
    → (is_flv format ≡ true → IsKept p (Some q)) → length p.payload ≤ 16777210 → Suits format q
suits_by Adts p q k takes is kept short = is ∙ audio_of k takes
suits_by Flv p q k takes is kept short = let fewer = (kept refl).1 in ((kept refl).0, omega arith)
suits_by Mpegts p q k takes is kept short = tt
suits_by Segment p q k takes is kept short = absurd cc

suits_as : (format : Format) (seg : Option SegOptions) (p q : Packet) (k : Kind) → takes_kind (file_format format seg) k ≡ true → kind_of q.config ≡ k
    → (writes format seg ≡ true → IsKept p (Some q)) → length p.payload ≤ 16777210 → Suits (file_format format seg) q
suits_as Adts seg p q k takes is kept short = suits_by Adts p q k takes is kept short
suits_as Flv seg p q k takes is kept short = suits_by Flv p q k takes is kept short
suits_as Mpegts seg p q k takes is kept short = suits_by Mpegts p q k takes is kept short
suits_as Segment None p q k takes is kept short = absurd cc
suits_as Segment (Some options) p q k takes is kept short = suits_by options.inner p q k takes is kept short

some_of : {A : Type 0} (x y : A) → Some x ≡ Some y → x ≡ y
some_of x y e = cc

fits_at : (infos : List StreamInfo) (seat : Seat) (c : Choice) (p q : Packet) → IsPlaced infos seat c → (i : IsInput infos p)
    → IsLeft seat.origin.streams.streams.items seat.slave.chains i.streams p (Some q) → Takes seat.origin q
fits_at infos seat c p q at i l =
    let streams = seat.origin.streams.streams.items in
    let of = is_of seat.slave.chains p q (kind_in streams p.stream) l.is_choice in
    let stay = stays (filters_for seat.slave.chains p.stream of.kind) p q of.result in
    let taken = taken_from seat.slave infos 0 p.stream of.kind (subst (λ (xs : List MuxStream). kind_in xs p.stream ≡ Some of.kind) at.streams of.is) in
    let found : kind_in (all_streams infos) p.stream ≡ Some (kind_of p.config) = subst (λ (xs : List MuxStream). kind_in xs p.stream ≡ Some (kind_of p.config)) i.all i.fits.all.stream in
    let kind : of.kind ≡ kind_of p.config = some_of of.kind (kind_of p.config) (sym taken.0 ∙ found) in
    let same : kind_of q.config ≡ of.kind = ap kind_of stay.config ∙ sym kind in
    record {
      all = record {
        stream = ap (kind_in streams) stay.stream ∙ of.is ∙ ap (λ (k : Kind). Some k) (sym same);
        config = l.fits.all.config;
        payload = l.fits.all.payload;
        size = l.fits.all.size;
        early = l.fits.all.early;
        late = l.fits.all.late;
        suits = subst (λ (f : Format). Suits f q) (sym (ap (λ (f : Format). file_format f seat.origin.seg) at.format ∙ ap (file_format seat.slave.format) at.seg))
            (suits_as seat.slave.format seat.slave.seg p q of.kind taken.1 same
            (λ w. l.native of.kind of.is (keepers_for seat.slave.chains p.stream of.kind (at.valid.native w))) i.fits.all.suits.1);
      };
      low = l.fits.low;
      high = l.fits.high;
    }

-- what is left of a packet fits the files of its output
pub filtered_at : (infos : List StreamInfo) (seat : Seat) (c : Choice) (p : Packet) (left : Option Packet) → IsPlaced infos seat c → (i : IsInput infos p)
    → IsLeft seat.origin.streams.streams.items seat.slave.chains i.streams p left → IsFiltered seat p left
filtered_at infos seat c p None at i l = record { is_choice = l.is_choice; fits = tt }
filtered_at infos seat c p (Some q) at i l = record { is_choice = l.is_choice; fits = fits_at infos seat c p q at i l }

route_at : (streams : List MuxStream) (chains : List (Spec × List Filter)) (c : Choice) (n : ℕ) → n < 2 → IsRoute streams chains 0 c.first → IsRoute streams chains 1 c.second
    → IsRoute streams chains n (route_in c n)
route_at streams chains c zero lt first second = first
route_at streams chains c (suc zero) lt first second = second
route_at streams chains c (suc (suc n)) lt first second = absurd (omega arith)

whole_by : (r : Route) → is_whole r ≡ true → r ≡ Whole
whole_by Skip e = absurd cc
whole_by Whole e = refl
whole_by (Through chain) e = absurd cc

skip_by : (r : Route) → is_whole r ≡ false → is_through r ≡ false → r ≡ Skip
skip_by Skip e f = refl
skip_by Whole e f = absurd cc
skip_by (Through chain) e f = absurd cc

-- an output that takes the packets of a stream as they are
pub passed_whole : (infos : List StreamInfo) (seat : Seat) (c : Choice) (p : Packet) → p.stream < 2 → IsPlaced infos seat c → IsInput infos p → passes_in c p.stream ≡ true → IsFiltered seat p (Some p)
passed_whole infos seat c p lt at i e =
    let streams = seat.origin.streams.streams.items in
    filtered_at infos seat c p (Some p) at i
    (whole_left streams seat.slave.chains i.streams p (route_in c p.stream) (whole_by (route_in c p.stream) e) (route_at streams seat.slave.chains c p.stream lt at.first at.second) i.fits)

-- one that takes none of them
pub passed_over : (infos : List StreamInfo) (seat : Seat) (c : Choice) (p : Packet) → p.stream < 2 → IsPlaced infos seat c → passes_in c p.stream ≡ false → filters_in c p.stream ≡ false
    → None ≡ choice seat.origin.streams.streams.items seat.slave.chains p
passed_over infos seat c p lt at e f =
    let streams = seat.origin.streams.streams.items in
    let is : IsRoute streams seat.slave.chains p.stream Skip
    = subst (λ (r : Route). IsRoute streams seat.slave.chains p.stream r) (skip_by (route_in c p.stream) e f) (route_at streams seat.slave.chains c p.stream lt at.first at.second) in
    rw is refl

pub if_ok : {A E : Type 0} (r : Result A E) (P Q : A → Type 0) → ((x : A) → P x → Q x) → IfOk r P → IfOk r Q
if_ok (Ok x) P Q f h = f x h
if_ok (Err e) P Q f h = tt

-- the stream of a packet of the input
pub record InfoOf (infos : List StreamInfo) (p : Packet) (info : StreamInfo) : Type 0 where
  pub sound : IsSound info
  pub kind : kind_of p.config ≡ info.kind

pub number_of : (infos : List StreamInfo) (p : Packet) → IsInput infos p → p.stream < length infos
number_of infos p i =
    let found : kind_in (all_streams infos) p.stream ≡ Some (kind_of p.config) = subst (λ (xs : List MuxStream). kind_in xs p.stream ≡ Some (kind_of p.config)) i.all i.fits.all.stream in
    let within = is_one_of infos 0 p.stream (kind_of p.config) found in
    omega (arith, within.1)

pub info_of : (infos : List StreamInfo) (p : Packet) (info : StreamInfo) → AreInfos infos → IsInput infos p → info ≡ get_or infos p.stream info → InfoOf infos p info
info_of infos p info are i e =
    let lt = number_of infos p i in
    let found : kind_in (all_streams infos) p.stream ≡ Some (kind_of p.config) = subst (λ (xs : List MuxStream). kind_in xs p.stream ≡ Some (kind_of p.config)) i.all i.fits.all.stream in
    let at : kind_in (all_streams infos) p.stream ≡ Some (get_or infos p.stream info).kind = some_at infos 0 p.stream p.stream info (omega arith) lt in
    record {
      sound = subst IsSound (sym e) (sound_at infos p.stream info are lt);
      kind = some_of (kind_of p.config) (get_or infos p.stream info).kind (sym found ∙ at) ∙ ap (λ (x : StreamInfo). x.kind) (sym e);
    }
