-- The result of a chain fits what the packet fits.
use Rattle.std.proofs.Common.{◌≡◌, ℕ, zero, suc, ◌+◌, ◌*◌, ◌<◌, ◌≤◌, Bool, true, false, cond, List, [], ◌∷◌, length, take, drop, refl, sym, ap, ◌∙◌, arith, subst, Option, None, Some, Result, Ok, Err, length-append}
use Rattle.std.specs.Result.{IfOk}
use Rattle.std.specs.Prelude.{nat_lt, if◌then◌else◌, filter, unwrap_or, IfSome}
use Rattle.std.specs.Option.{option_map}
use Rattle.std.specs.List.{list_any}
use Rattle.std.proofs.lemmas.List.{length-drop, length-take}
use Rattle.std.proofs.lemmas.Bool.Decides.{nat_tests}
use Rattle.bsf_chain.specs.declared.filter.Filter.{Filter}
use Rattle.bsf_chain.specs.declared.filter.Filter.TheVariants.{ToAnnexB, FilterUnits, DumpExtra, Null, AacAdts}
use Rattle.bsf_chain.specs.Apply.{IsKept, Laid, laid, laid_of, passed, packet_of, form_of, in_form, video_result, result_by, result_of, acts_on_video, acts_on_audio}
use Rattle.bsf_chain.specs.Chain.{are_keepers}
use Rattle.bsf_chain.proofs.ApplyLemmas.{Good, taken, taken_one, taken_none, good_all, grown, grown_small, keeper_all, never}
use Rattle.rmx_media.specs.declared.aac.AacConfig.{AacConfig}
use Rattle.rmx_media.specs.declared.avc.AvcConfig.{AvcConfig}
use Rattle.rmx_media.specs.declared.config.Config.{Config}
use Rattle.rmx_media.specs.declared.config.Config.TheVariants.{Avc, Aac}
use Rattle.rmx_media.specs.declared.packet.Form.{Form}
use Rattle.rmx_media.specs.declared.packet.Form.TheVariants.{Native, AnnexB, Adts}
use Rattle.rmx_media.specs.declared.packet.Packet.{Packet}
use Rattle.rmx_media.specs.Adts.{adts_head, adts_frame}
use Rattle.rmx_media.specs.Avc.{sets_of, all_sets}
use Rattle.rmx_media.specs.Config.{kind_of, IsReadAvc, IsAsRead}
use Rattle.rmx_media.specs.Fits.{IsPayload, Fits}
use Rattle.rmx_media.specs.declared.packet.Format.TheVariants.{Flv, Mpegts}
use Rattle.rmx_media.specs.declared.streams.MuxStreams.{MuxStreams}
use Rattle.rmx_media.specs.Streams.{kind_in}
use Rattle.std.specs.Prelude.{ℤ, pos, negsuc, ◌≤ℤ◌, ◌+ℤ◌}
use Rattle.rmx_media.specs.Units.{is_filled, size_in, parts_by, parts_of, units_of, is_valid, annexb, native, AreFilled}
use Rattle.rmx_media.proofs.AvcLemmas.{length_size}
use Rattle.rmx_media.proofs.BitsLemmas.{length-bytes_of}
use Rattle.avc_units.proofs.NativeLemmas.{valid_back}
use Rattle.avc_units.proofs.ShortLemmas.{IsBytes, units_short, units_filled, all_filled}
use Rattle.avc_units.proofs.SizeLemmas.{size, size_units, size_sets}

not_short : (m n : ℕ) → nat_lt m n ≡ false → n ≤ m
not_short m n h = grind (arith, nat_tests)

filtered_by : (width : ℕ) (filled : Bool) (part : List ℕ) (parts : List (List ℕ))
    → taken width (cond filled (part ∷ filter is_filled parts) (filter is_filled parts)) ≤ width + length part + taken width (filter is_filled parts)
filtered_by width true part parts = omega (arith, taken_one width part (filter is_filled parts))
filtered_by width false part parts = omega arith

taken_with : (width : ℕ) (cut : Bool) (part : List ℕ) (parts : Option (List (List ℕ))) (m r : ℕ) → taken width (filter is_filled (unwrap_or parts [])) ≤ r
    → (cut ≡ false → width + length part + r ≤ m) → taken width (filter is_filled (unwrap_or (if cut then None else option_map (λ ps. part ∷ ps) parts) [])) ≤ m
taken_with width true part parts m r h k = omega (arith, taken_none width)
taken_with width false part None m r h k = omega (arith, taken_none width)
taken_with width false part (Some parts) m r h k =
    let within : width + length part + r ≤ m = k refl in
    omega (arith, h, filtered_by width (is_filled part) part parts)

taken_by : (steps width : ℕ) (bytes : List ℕ) → taken width (filter is_filled (unwrap_or (parts_by steps width bytes) [])) ≤ length bytes
taken_by zero width [] = omega (arith, taken_none width)
taken_by (suc steps) width [] = omega (arith, taken_none width)
taken_by zero width (x ∷ xs) = omega (arith, taken_none width)
taken_by (suc steps) width (x ∷ xs) =
    let bytes : List ℕ = x ∷ xs in
    let n : ℕ = size_in width bytes in
    taken_with width (nat_lt (length bytes) (width + n)) (take n (drop width bytes)) (parts_by steps width (drop (width + n) bytes)) (length bytes) (length (drop (width + n) bytes))
    (taken_by steps width (drop (width + n) bytes))
    (λ cut.
    let long : width + n ≤ length bytes = not_short (length bytes) (width + n) cut in
    omega (arith, length-take n (drop width bytes), length-drop (width + n) bytes))

-- the units of a payload, printed again, are no longer
taken_units : (width : ℕ) (payload : List ℕ) → taken width (units_of width payload) ≤ length payload
unfolding units_of parts_of
taken_units width payload = taken_by (length payload) width payload

has_units : (n : ℕ) → nat_lt 0 n ≡ true → 0 < n
has_units n h = grind (arith, nat_tests)

good_begin : (p : Packet) (config : AvcConfig) → IsReadAvc config → is_valid config.length_size p.payload ≡ true → IsBytes p.payload
    → Good config.length_size (length p.payload) (5 * length p.payload) (laid_of p config)
good_begin p config c v b = record {
  filled = units_filled config.length_size p.payload;
  some = has_units (length (units_of config.length_size p.payload)) v;
  short = λ h. units_short config.length_size p.payload (length_size config c.read).1 b;
  native = λ h. taken_units config.length_size p.payload;
  annexb = size_units config.length_size p.payload;
}

sets_filled : (config : AvcConfig) → AreFilled (sets_of config)
sets_filled config = all_filled (all_sets config)

-- what a result keeps of its packet, and what is new
pub record Made (p q : Packet) : Type 0 where
  pub stream : q.stream ≡ p.stream
  pub dts : q.dts ≡ p.dts
  pub pts : q.pts ≡ p.pts
  pub key : q.key ≡ p.key
  pub config : q.config ≡ p.config
  pub version : q.version ≡ p.version
  pub payload : IsPayload p.config q.form q.payload
  pub size : length q.payload ≤ 4294967295

abbrev pub MadeOf : Packet → Option Packet → Type 0
MadeOf p r = IfSome r (λ q. Made p q)

printed_made : (p : Packet) (config : AvcConfig) (l : Laid) (started : Bool) (m : ℕ) → p.config ≡ Avc config → IsReadAvc config → l.started ≡ started
    → Good config.length_size (length p.payload) m l → m ≤ 4294967295 → length p.payload ≤ 4294967295 → Made p (packet_of p config l)
printed_made p config l true m e c s g h k =
    let t : l ≡ laid l.units true = ap (λ (b : Bool). laid l.units b) s in
    subst (λ (x : Laid). Made p (packet_of p config x)) (sym t) (record {
      stream = refl;
      dts = refl;
      pts = refl;
      key = refl;
      config = refl;
      version = refl;
      payload = subst (λ (x : Config). IsPayload x AnnexB (annexb l.units)) (sym e) (record { units = l.units; some = g.some; filled = g.filled; spelled = refl });
      size = omega (arith, g.annexb);
    })
printed_made p config l false m e c s g h k =
    let t : l ≡ laid l.units false = ap (λ (b : Bool). laid l.units b) s in
    let w : (1 ≤ config.length_size) × (config.length_size ≤ 4) = length_size config c.read in
    subst (λ (x : Laid). Made p (packet_of p config x)) (sym t) (record {
      stream = refl;
      dts = refl;
      pts = refl;
      key = refl;
      config = refl;
      version = refl;
      payload = subst (λ (x : Config). IsPayload x Native (native config.length_size l.units)) (sym e)
          (valid_back config.length_size l.units w.0 w.1 (g.short s) g.filled g.some);
      size = omega (arith, g.native s);
    })

-- what is asked of a packet that the filters take
pub record Taken (filters : List Filter) (p : Packet) : Type 0 where
  pub few : length filters ≤ 16
  pub form : p.form ≡ Native
  pub config : IsAsRead p.config
  pub payload : IsPayload p.config Native p.payload
  pub bytes : IsBytes p.payload
  pub size : length p.payload ≤ 16777210

video_by : (filters : List Filter) (p : Packet) (config : AvcConfig) (last : Option Laid) → p.config ≡ Avc config → IsReadAvc config → is_valid config.length_size p.payload ≡ true
    → Taken filters p → last ≡ passed (sets_of config) p.key filters (laid_of p config) → MadeOf p (option_map (packet_of p config) last)
video_by filters p config None e c v t h = tt
video_by filters p config (Some l) e c v t h =
    let g : Good config.length_size (length p.payload) (grown (5 * length p.payload) (size (sets_of config)) filters) l =
    good_all config.length_size (length p.payload) (5 * length p.payload) (sets_of config) p.key filters (laid_of p config) l (sets_filled config) h
    (good_begin p config c v t.bytes) in
    printed_made p config l l.started (grown (5 * length p.payload) (size (sets_of config)) filters) e c refl g
    (omega (arith, grown_small 16 (5 * length p.payload) (size (sets_of config)) filters t.few, size_sets config, c.size, t.size))
    (omega (arith, t.size))

itself : (filters : List Filter) (p : Packet) → Taken filters p → Made p p
itself filters p t = record {
  stream = refl;
  dts = refl;
  pts = refl;
  key = refl;
  config = refl;
  version = refl;
  payload = subst (λ (f : Form). IsPayload p.config f p.payload) (sym t.form) t.payload;
  size = omega (arith, t.size);
}

frame_len : (config : AacConfig) (body : List ℕ) → length (adts_frame config body) ≡ 7 + length body
unfolding adts_head
frame_len config body = omega (arith, length-append (adts_head config (length body)) body, length-bytes_of 7 0)

by_config : (filters : List Filter) (p : Packet) (c : Config) (video audio : Bool) → p.config ≡ c → Taken filters p → IsAsRead c → IsPayload c Native p.payload
    → MadeOf p (result_by filters p c)
unfolding video_result
by_config filters p (Avc config) video audio e t c v = by (list_any acts_on_video filters)
  where
    by : (b : Bool) → MadeOf p (if b then video_result filters p config else Some p)
    by true = video_by filters p config (passed (sets_of config) p.key filters (laid_of p config)) e c v t refl
    by false = itself filters p t
by_config filters p (Aac config) video audio e t c v = by (list_any acts_on_audio filters)
  where
    by : (b : Bool) → MadeOf p (if b then Some (in_form p Adts (adts_frame config p.payload)) else Some p)
    by true = record {
      stream = refl;
      dts = refl;
      pts = refl;
      key = refl;
      config = refl;
      version = refl;
      payload = subst (λ (x : Config). IsPayload x Adts (adts_frame config p.payload)) (sym e) (record { payload = p.payload; size = v; spelled = refl });
      size = omega (arith, frame_len config p.payload, v);
    }
    by false = itself filters p t

pub made : (filters : List Filter) (p : Packet) → Taken filters p → MadeOf p (result_of filters p)
unfolding result_of
made filters p t = by_config filters p p.config true true refl t t.config t.payload

-- filters that keep the native form do nothing to audio
quiet : (filters : List Filter) → are_keepers filters ≡ true → list_any acts_on_audio filters ≡ false
quiet [] h = refl
quiet (ToAnnexB ∷ filters) h = never (sym h)
quiet (FilterUnits keep ∷ filters) h = quiet filters h
quiet (DumpExtra all ∷ filters) h = never (sym h)
quiet (Null ∷ filters) h = quiet filters h
quiet (AacAdts ∷ filters) h = never (sym h)

kept_by : (filters : List Filter) (p : Packet) (config : AvcConfig) (last : Option Laid) → are_keepers filters ≡ true → IsReadAvc config
    → is_valid config.length_size p.payload ≡ true → IsBytes p.payload → last ≡ passed (sets_of config) p.key filters (laid_of p config) → IsKept p (option_map (packet_of p config) last)
kept_by filters p config None k c v b h = tt
kept_by filters p config (Some l) k c v b h =
    let g : Good config.length_size (length p.payload) (grown (5 * length p.payload) (size (sets_of config)) filters) l =
    good_all config.length_size (length p.payload) (5 * length p.payload) (sets_of config) p.key filters (laid_of p config) l (sets_filled config) h
    (good_begin p config c v b) in
    let s : l.started ≡ false = keeper_all (sets_of config) p.key filters (laid_of p config) l k h in
    (ap form_of s, subst (λ (b : Bool). length (if b then annexb l.units else native config.length_size l.units) ≤ length p.payload) (sym s) (g.native s))

kept_config : (filters : List Filter) (p : Packet) (c : Config) → are_keepers filters ≡ true → p.form ≡ Native → IsAsRead c → IsPayload c Native p.payload → IsBytes p.payload
    → IsKept p (result_by filters p c)
unfolding video_result
kept_config filters p (Avc config) k n c v b = by (list_any acts_on_video filters)
  where
    by : (acts : Bool) → IsKept p (if acts then video_result filters p config else Some p)
    by true = kept_by filters p config (passed (sets_of config) p.key filters (laid_of p config)) k c v b refl
    by false = (n, omega arith)
kept_config filters p (Aac config) k n c v b =
    subst (λ (acts : Bool). IsKept p (if acts then Some (in_form p Adts (adts_frame config p.payload)) else Some p)) (sym (quiet filters k)) (n, omega arith)

-- what such filters leave is native and no longer
pub kept : (filters : List Filter) (p : Packet) → are_keepers filters ≡ true → p.form ≡ Native → IsAsRead p.config → IsPayload p.config Native p.payload → IsBytes p.payload
    → IsKept p (result_of filters p)
unfolding result_of
kept filters p k n c v b = kept_config filters p p.config k n c v b

made_fits : (s : MuxStreams) (p q : Packet) → Fits Flv s p → Made p q → Fits Mpegts s q
made_fits s p q f m = record {
  all = record {
    stream = ap (kind_in s.streams.items) m.stream ∙ f.all.stream ∙ ap (λ (c : Config). Some (kind_of c)) (sym m.config);
    config = subst IsAsRead (sym m.config) f.all.config;
    payload = subst (λ (c : Config). IsPayload c q.form q.payload) (sym m.config) m.payload;
    size = m.size;
    early = subst (λ (d : ℤ). d ≤ℤ q.pts) (sym m.dts) (subst (λ (t : ℤ). p.dts ≤ℤ t) (sym m.pts) f.all.early);
    late = subst (λ (d : ℤ). q.pts ≤ℤ (d +ℤ pos 8388607)) (sym m.dts) (subst (λ (t : ℤ). t ≤ℤ (p.dts +ℤ pos 8388607)) (sym m.pts) f.all.late);
    suits = tt;
  };
  low = subst (λ (d : ℤ). negsuc 2147483647 ≤ℤ d) (sym m.dts) f.low;
  high = subst (λ (d : ℤ). d ≤ℤ pos 2147483647) (sym m.dts) f.high;
}

some_fits : (s : MuxStreams) (p : Packet) (r : Option Packet) → Fits Flv s p → MadeOf p r → IfSome r (λ q. Fits Mpegts s q)
some_fits s p None f m = tt
some_fits s p (Some q) f m = made_fits s p q f m

-- what fits FLV fits MPEG-TS after any filters
pub result_fits : (s : MuxStreams) (filters : List Filter) (p : Packet) → length filters ≤ 16 → IsBytes p.payload → Fits Flv s p → IfSome (result_of filters p) (λ q. Fits Mpegts s q)
result_fits s filters p few b f =
    some_fits s p (result_of filters p) f (made filters p (record {
      few = few;
      form = f.all.suits.0;
      config = f.all.config;
      payload = subst (λ (g : Form). IsPayload p.config g p.payload) f.all.suits.0 f.all.payload;
      bytes = b;
      size = f.all.suits.1;
    }))

-- what holds of a value holds of a result that is it
pub if_ok : {A E : Type 0} (r : Result A E) (x : A) (P : A → Type 0) → IfOk r (λ y. y ≡ x) → P x → IfOk r P
if_ok (Ok y) x P e h = subst P (sym e) h
if_ok (Err f) x P e h = tt
