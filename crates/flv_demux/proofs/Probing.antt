-- Looking at tags.
use Rattle.std.proofs.Common.{◌≡◌, ℕ, ◌+◌, ◌<◌, Bool, true, false, ◌||◌, ◌&&◌, List, [], ◌∷◌, ◌++◌, length, ap, ◌∙◌, sym, refl, arith, take, get_or}
use Rattle.std.specs.Prelude.{fold, nat_le, is_some}
use Rattle.std.proofs.lemmas.List.{take_more}
use Rattle.std.proofs.lemmas.List.Sums.{fold-append}
use Rattle.rmx_media.specs.declared.config.Config.TheVariants.{Avc, Aac}
use Rattle.flv_tags.specs.declared.tag.Tag.{Tag}
use Rattle.flv_demux.specs.declared.deal.Probe.{Probe}
use Rattle.flv_demux.specs.declared.deal.Reason.TheVariants as reason
use Rattle.flv_demux.specs.declared.deal.Meaning.{Meaning}
use Rattle.flv_demux.specs.declared.deal.Meaning.TheVariants.{Counted, Configures, Media}
use Rattle.flv_demux.specs.Probe.{no_probe, is_decided, noted, probed, probe_of}

or_false : (a b : Bool) → (a || b) ≡ false → (a ≡ false) × (b ≡ false)
or_false true b e = cc
or_false false b e = (refl, e)

pub undecided : (p : Probe) → is_decided p ≡ false → p.bytes < 8388608
undecided p e =
    let q = or_false ((is_some p.video && is_some p.audio) || nat_le 64 p.tags) (nat_le 8388608 p.bytes) e in
    let r = q.1 in grind (arith, r)

pub noted_bytes : (p : Probe) (m : Meaning) (body : List ℕ) → (noted p m body).bytes ≡ p.bytes
noted_bytes p (Configures (Avc config)) body = refl
noted_bytes p (Configures (Aac config)) body = refl
noted_bytes p (Counted reason.Script) body = refl
noted_bytes p (Counted reason.Unsupported) body = refl
noted_bytes p (Counted reason.NoStream) body = refl
noted_bytes p (Counted reason.Corrupt) body = refl
noted_bytes p (Counted reason.Command) body = refl
noted_bytes p (Counted reason.SequenceEnd) body = refl
noted_bytes p (Counted reason.ConfigRepeat) body = refl
noted_bytes p (Media kind key composition payload) body = refl

-- a decided probe stays
pub decided_stays : (p : Probe) (tags : List Tag) → is_decided p ≡ true → fold probed p tags ≡ p
decided_stays p [] e = refl
decided_stays p (tag ∷ tags) e =
    let s : probed p tag ≡ p = step p tag e in
    ap (λ (q : Probe). fold probed q tags) s ∙ decided_stays p tags e
  where
    step : (p : Probe) (tag : Tag) → is_decided p ≡ true → probed p tag ≡ p
    step p tag e = rw e refl

pub probe_stays : (tags more : List Tag) → is_decided (probe_of tags) ≡ true → probe_of (tags ++ more) ≡ probe_of tags
unfolding probe_of
probe_stays tags more e = fold-append probed no_probe tags more ∙ decided_stays (fold probed no_probe tags) more e

pub probe_of-one : (tags : List Tag) (tag : Tag) → probe_of (tags ++ tag ∷ []) ≡ probed (probe_of tags) tag
unfolding probe_of
probe_of-one tags tag = fold-append probed no_probe tags (tag ∷ [])

pub probe_of-none : probe_of [] ≡ no_probe
unfolding probe_of
probe_of-none = refl

pub taken_more : (xs : List Tag) (i : ℕ) (x : Tag) → i < length xs → x ≡ get_or xs i x → take (i + 1) xs ≡ take i xs ++ x ∷ []
taken_more xs i x h e = take_more xs i x h ∙ ap (λ (y : Tag). take i xs ++ y ∷ []) (sym e)
