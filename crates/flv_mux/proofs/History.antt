-- What a muxer keeps of the packets before, behind one more.
use Rattle.std.proofs.Common.{◌≡◌, ℕ, Bool, true, false, List, [], ◌∷◌, ◌++◌, ap, ◌∙◌, sym, refl, append-nil, ℤ}
use Rattle.std.specs.Prelude.{◌==◌, if◌then◌else◌, filter}
use Rattle.std.proofs.lemmas.List.Elements.{filter-append}
use Rattle.rmx_media.specs.declared.packet.Packet.{Packet}
use Rattle.rmx_media.specs.Config.{kind_of}
use Rattle.flv_mux.specs.Flv.{is_video, last_version, version_in, last_time, video_time}

last_version-push : (ps : List Packet) (p : Packet) → last_version (ps ++ p ∷ []) ≡ p.version
last_version-push [] p = refl
last_version-push (q ∷ []) p = refl
last_version-push (q ∷ r ∷ ps) p = last_version-push (r ∷ ps) p

last_time-push : (ps : List Packet) (p : Packet) → last_time (ps ++ p ∷ []) ≡ p.dts
last_time-push [] p = refl
last_time-push (q ∷ []) p = refl
last_time-push (q ∷ r ∷ ps) p = last_time-push (r ∷ ps) p

version_by : (b : Bool) (ps : List Packet) (p : Packet) → last_version (ps ++ (if b then p ∷ [] else [])) ≡ (if b then p.version else last_version ps)
version_by true ps p = last_version-push ps p
version_by false ps p = ap last_version (append-nil ps)

time_by : (b : Bool) (ps : List Packet) (p : Packet) → last_time (ps ++ (if b then p ∷ [] else [])) ≡ (if b then p.dts else last_time ps)
time_by true ps p = last_time-push ps p
time_by false ps p = ap last_time (append-nil ps)

pub version_in-push : (stream : ℕ) (before : List Packet) (p : Packet) → version_in stream (before ++ p ∷ []) ≡ (if p.stream == stream then p.version else version_in stream before)
version_in-push stream before p =
    ap last_version (filter-append (λ (q : Packet). q.stream == stream) before (p ∷ []))
    ∙ version_by (p.stream == stream) (filter (λ (q : Packet). q.stream == stream) before) p

pub video_time-push : (before : List Packet) (p : Packet) → video_time (before ++ p ∷ []) ≡ (if is_video (kind_of p.config) then p.dts else video_time before)
video_time-push before p =
    ap last_time (filter-append (λ (q : Packet). is_video (kind_of q.config)) before (p ∷ []))
    ∙ time_by (is_video (kind_of p.config)) (filter (λ (q : Packet). is_video (kind_of q.config)) before) p

-- a track behind one more packet
pub track_past : (stream version : ℕ) (before : List Packet) (p : Packet) (stream' version' : ℕ) → version ≡ version_in stream before → stream' ≡ stream → version' ≡ (if p.stream == stream then p.version else version) → version' ≡ version_in stream' (before ++ p ∷ [])
track_past stream version before p stream' version' shown same is =
    is
    ∙ ap (λ (v : ℕ). if p.stream == stream then p.version else v) shown
    ∙ sym (version_in-push stream before p)
    ∙ ap (λ (s : ℕ). version_in s (before ++ p ∷ [])) (sym same)

pub time_past : (time : ℤ) (before : List Packet) (p : Packet) (time' : ℤ) → time ≡ video_time before → time' ≡ (if is_video (kind_of p.config) then p.dts else time) → time' ≡ video_time (before ++ p ∷ [])
time_past time before p time' shown is =
    is ∙ ap (λ (t : ℤ). if is_video (kind_of p.config) then p.dts else t) shown ∙ sym (video_time-push before p)
