-- What was seen of a stream is the dts of its last packet.
use Rattle.std.proofs.Common.{◌≡◌, ℕ, Bool, true, false, List, [], ◌∷◌, ◌++◌, ap, ◌∙◌, sym, refl, subst, arith, append_assoc}
use Rattle.std.specs.Prelude.{if◌then◌else◌, fold, ℤ, negsuc, ◌==◌, ◌≤ℤ◌}
use Rattle.std.specs.Option.{option_to_list}
use Rattle.std.proofs.lemmas.List.Sums.{fold-append}
use Rattle.rmx_media.specs.declared.packet.Packet.{Packet}
use Rattle.rmx_media.specs.declared.streams.Kind.{Kind}
use Rattle.rmx_media.specs.declared.streams.Kind.TheVariants.{Video, Audio}
use Rattle.flv_tags.specs.declared.tag.Tag.{Tag}
use Rattle.flv_demux.specs.declared.deal.Kinds.{Kinds}
use Rattle.rmx_media.specs.declared.config.Config.TheVariants.{Avc, Aac}
use Rattle.flv_demux.specs.declared.deal.Desk.{Desk}
use Rattle.flv_demux.specs.declared.deal.Outcome.{Outcome}
use Rattle.flv_demux.specs.declared.deal.Outcome.TheVariants as outcome
use Rattle.flv_demux.specs.Probe.{has, number_of_stream}
use Rattle.flv_demux.specs.Deal.{seen, packet_in, outcome_of, dealt, entered, one_tag, desk_of, new_desk, packets_by, packets_from, last_dts}
use Rattle.flv_demux.proofs.Order.{InOrder, Ordered, ordered}

last_dts-one : (k : ℕ) (packets : List Packet) (p : Packet) → last_dts k (packets ++ p ∷ []) ≡ (if p.stream == k then p.dts else last_dts k packets)
last_dts-one k packets p = fold-append (λ (dts : ℤ) (q : Packet). if q.stream == k then q.dts else dts) (negsuc 9223372036854775807) packets (p ∷ [])

-- what was seen of each stream is its last packet's dts
abbrev pub Tops : Kinds → Desk → List Packet → Type 0
Tops s d packets = (k : Kind) → has s k ≡ true → (seen d k).top ≡ last_dts (number_of_stream s k) packets

abbrev Step : Kinds → Desk → List Packet → Outcome → Type 0
Step s d packets o = Tops s (one_tag (entered o d)) (packets ++ option_to_list (packet_in o))

end_nil : (xs : List Packet) → xs ++ [] ≡ xs
end_nil [] = refl
end_nil (x ∷ xs) = ap (λ (ys : List Packet). x ∷ ys) (end_nil xs)

one_more : (k : ℕ) (packets : List Packet) (p : Packet) (b : Bool) → (p.stream == k) ≡ b → last_dts k (packets ++ p ∷ []) ≡ (if b then p.dts else last_dts k packets)
one_more k packets p b e = last_dts-one k packets p ∙ ap (λ (x : Bool). if x then p.dts else last_dts k packets) e

same_number : (s : Kinds) (n : ℕ) (k : Kind) → n ≡ number_of_stream s k → (n == number_of_stream s k) ≡ true
same_number s n k e = grind (arith, e)

-- two kinds that are there have two numbers
audio_number : (s : Kinds) → has s Video ≡ true → number_of_stream s Audio ≡ 1
audio_number s e = ap (λ (b : Bool). if b then 1 else 0) e

audio_video : (s : Kinds) (n : ℕ) → has s Video ≡ true → n ≡ number_of_stream s Audio → (n == number_of_stream s Video) ≡ false
audio_video s n v e = let f : n ≡ 1 = e ∙ audio_number s v in rw f refl

video_audio : (s : Kinds) (n : ℕ) → has s Video ≡ true → n ≡ number_of_stream s Video → (n == number_of_stream s Audio) ≡ false
video_audio s n v e = let f : number_of_stream s Audio ≡ 1 = audio_number s v in rw (e, f) refl

step_by : (s : Kinds) (d : Desk) (packets : List Packet) (o : Outcome) → Tops s d packets → Ordered s d o → Step s d packets o
step_by s d packets (outcome.Counted r) t i = λ k h. same k h
  where
    same : (k : Kind) → has s k ≡ true → (seen (one_tag (entered (outcome.Counted r) d)) k).top ≡ last_dts (number_of_stream s k) (packets ++ [])
    same Video h = t Video h ∙ ap (last_dts (number_of_stream s Video)) (sym (end_nil packets))
    same Audio h = t Audio h ∙ ap (last_dts (number_of_stream s Audio)) (sym (end_nil packets))
step_by s d packets (outcome.Forces (Avc config)) t i = λ k h. same k h
  where
    same : (k : Kind) → has s k ≡ true → (seen (one_tag (entered (outcome.Forces (Avc config)) d)) k).top ≡ last_dts (number_of_stream s k) (packets ++ [])
    same Video h = t Video h ∙ ap (last_dts (number_of_stream s Video)) (sym (end_nil packets))
    same Audio h = t Audio h ∙ ap (last_dts (number_of_stream s Audio)) (sym (end_nil packets))
step_by s d packets (outcome.Forces (Aac config)) t i = λ k h. same k h
  where
    same : (k : Kind) → has s k ≡ true → (seen (one_tag (entered (outcome.Forces (Aac config)) d)) k).top ≡ last_dts (number_of_stream s k) (packets ++ [])
    same Video h = t Video h ∙ ap (last_dts (number_of_stream s Video)) (sym (end_nil packets))
    same Audio h = t Audio h ∙ ap (last_dts (number_of_stream s Audio)) (sym (end_nil packets))
step_by s d packets (outcome.Gives kind p) t i = λ k h. same kind k i.0 i.1 h
  where
    same : (kind k : Kind) → has s kind ≡ true → p.stream ≡ number_of_stream s kind → has s k ≡ true → (seen (one_tag (entered (outcome.Gives kind p) d)) k).top ≡ last_dts (number_of_stream s k) (packets ++ p ∷ [])
    same Video Video there e h = sym (one_more (number_of_stream s Video) packets p true (same_number s p.stream Video e))
    same Video Audio there e h = t Audio h ∙ sym (one_more (number_of_stream s Audio) packets p false (video_audio s p.stream there e))
    same Audio Video there e h = t Video h ∙ sym (one_more (number_of_stream s Video) packets p false (audio_video s p.stream h e))
    same Audio Audio there e h = sym (one_more (number_of_stream s Audio) packets p true (same_number s p.stream Audio e))

from : (s : Kinds) (d : Desk) (packets : List Packet) (ts : List Tag) → Tops s d packets → Tops s (fold (dealt s) d ts) (packets ++ packets_from s d ts)
from s d packets [] t = subst (Tops s d) (sym (end_nil packets)) t
from s d packets (tag ∷ ts) t =
    let one : Tops s (dealt s d tag) (packets ++ option_to_list (packet_in (outcome_of s d tag))) = step_of s d packets (outcome_of s d tag) t (ordered s d tag) in
    subst (Tops s (fold (dealt s) (dealt s d tag) ts)) (append_assoc packets (option_to_list (packet_in (outcome_of s d tag))) (packets_from s (dealt s d tag) ts))
    (from s (dealt s d tag) (packets ++ option_to_list (packet_in (outcome_of s d tag))) ts one)
  where
    step_of : (s : Kinds) (d : Desk) (packets : List Packet) (o : Outcome) → Tops s d packets → Ordered s d o → Tops s (one_tag (entered o d)) (packets ++ option_to_list (packet_in o))
    step_of s d packets o t i = step_by s d packets o t i

start : (s : Kinds) → Tops s new_desk []
start s = λ k h. by k
  where
    by : (k : Kind) → (seen new_desk k).top ≡ last_dts (number_of_stream s k) []
    by Video = refl
    by Audio = refl

pub tops : (s : Kinds) (ts : List Tag) → Tops s (desk_of s ts) (packets_by s ts)
unfolding desk_of packets_by
tops s ts = from s new_desk [] ts (start s)

-- the packet of the next tag doesn't come before the last one of its stream
pub rises : (s : Kinds) (ts : List Tag) (p : Packet) → InOrder s (desk_of s ts) p → last_dts p.stream (packets_by s ts) ≤ℤ p.dts
rises s ts p i = rw i.stream (subst (λ (x : ℤ). x ≤ℤ p.dts) (tops s ts i.kind i.there) i.order)
