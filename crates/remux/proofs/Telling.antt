-- What a demuxer tells of the tags that it dealt with.
use Rattle.std.proofs.Common.{◌≡◌, ℕ, ◌+◌, ◌≤◌, inl, inr, List, [], ◌∷◌, length, ap, ◌∙◌, sym, refl, arith}
use Rattle.std.specs.Prelude.{min, fold}
use Rattle.rmx_edge.specs.Count.{most}
use Rattle.flv_tags.specs.declared.tag.Tag.{Tag}
use Rattle.flv_tags.specs.Tags.{reading_of}
use Rattle.flv_demux.specs.declared.deal.Kinds.{Kinds}
use Rattle.flv_demux.specs.declared.deal.Desk.{Desk}
use Rattle.flv_demux.specs.declared.deal.Outcome.{Outcome}
use Rattle.flv_demux.specs.declared.deal.Outcome.TheVariants as outcome
use Rattle.flv_demux.specs.declared.deal.Shown.{Shown}
use Rattle.flv_demux.specs.Probe.{kinds, kinds_of}
use Rattle.flv_demux.specs.Deal.{desk_of, dealt, entered, outcome_of, new_desk, with_seen, forced, seen}
use Rattle.rmx_media.specs.declared.streams.Kind.{Kind}
use Rattle.rmx_media.specs.declared.streams.Kind.TheVariants.{Video, Audio}
use Rattle.rmx_media.specs.Config.{kind_of}
use Rattle.flv_demux.specs.declared.deal.Seen.{Seen}
use Rattle.flv_demux.specs.State.{DemuxState, HasDealt, IsShown}
use Rattle.flv_demux.proofs.Demuxing.{sure_all}

-- only the count of tags goes by their number
seen_tags : (k : Kind) (x : Seen) (d : Desk) → (with_seen k x d).tags ≡ d.tags
seen_tags Video x d = refl
seen_tags Audio x d = refl

entered_tags : (o : Outcome) (d : Desk) → (entered o d).tags ≡ d.tags
entered_tags (outcome.Counted r) d = refl
entered_tags (outcome.Forces config) d = seen_tags (kind_of config) (forced config (seen d (kind_of config))) d
entered_tags (outcome.Gives kind packet) d = seen_tags kind (record (seen d kind) { top = packet.dts }) d

one_more : (k : Kinds) (d : Desk) (tag : Tag) → (dealt k d tag).tags ≡ min (d.tags + 1) most
one_more k d tag = ap (λ (n : ℕ). min (n + 1) most) (entered_tags (outcome_of k d tag) d)

count_from : (k : Kinds) (d : Desk) (tags : List Tag) → d.tags ≤ most → (fold (dealt k) d tags).tags ≡ min (d.tags + length tags) most
count_from k d [] h = grind (arith, h)
count_from k d (tag ∷ tags) h =
    let e = one_more k d tag in
    let r = count_from k (dealt k d tag) tags (grind (arith, e)) in
    grind (arith, e, r, h)

desk_tags : (k : Kinds) (tags : List Tag) → (desk_of k tags).tags ≡ min (length tags) most
unfolding desk_of
desk_tags k tags =
    let n : 0 + length tags ≡ length tags = omega arith in
    count_from k new_desk tags (omega arith) ∙ ap (λ (m : ℕ). min m most) n

empty_desk : (k : Kinds) → (desk_of k []).discards ≡ new_desk.discards
unfolding desk_of
empty_desk k = refl

-- how many they are
pub tags_told : (fed : List ℕ) (done : List Tag) (d : DemuxState) → HasDealt fed done d → d.shown.tags ≡ min (length done) most
tags_told fed done d h = by h.shown
  where
    by : IsShown done d → d.shown.tags ≡ min (length done) most
    by (inl e) = ap (λ (s : Shown). s.tags) e.0 ∙ ap (λ (l : List Tag). min (length l) most) (sym e.1)
    by (inr e) = ap (λ (s : Shown). s.tags) e.2 ∙ desk_tags e.0 done

-- and what was passed over
pub discards_told : (fed : List ℕ) (done : List Tag) (d : DemuxState) → HasDealt fed done d → (x : List ℕ) → fed ≡ x → d.shown.discards ≡ (desk_of (kinds (reading_of x).tags) done).discards
discards_told fed done d h x same = by h.shown
  where
    by : IsShown done d → d.shown.discards ≡ (desk_of (kinds (reading_of x).tags) done).discards
    by (inl e) = ap (λ (s : Shown). s.discards) e.0 ∙ sym (ap (λ (l : List Tag). (desk_of (kinds (reading_of x).tags) l).discards) e.1 ∙ empty_desk (kinds (reading_of x).tags))
    by (inr e) =
        let k = h.inner.known e.0 e.1 in
        let are : e.0 ≡ kinds (reading_of x).tags = k.kinds ∙ ap kinds_of (sure_all d.core.probe fed d.core.reader.ended k.sure) ∙ ap (λ (l : List ℕ). kinds (reading_of l).tags) same in
        ap (λ (s : Shown). s.discards) e.2 ∙ ap (λ (q : Kinds). (desk_of q done).discards) are
