use Rattle.std.proofs.Common.{◌≡◌, ℕ, ◌%◌, List, length, take, drop, get_or, false, arith, sym, ap, ◌∙◌, lit<}
use Rattle.std.specs.Prelude.{is_some, slice_index}
use Rattle.std.proofs.lemmas.List.{get_or-take}
use Rattle.rmx_media.specs.Avc.{sets_left, some_sets, all_sets}
use Rattle.rmx_media.proofs.AvcLemmas.{read, whole, Whole}
use Rattle.rmx_media.proofs.avc.AvcConfig.sets.Goals as goal

pub split_at-requires : goal.split_at-requires
split_at-requires c =
    let w : Whole c.args.self.now.raw = whole c.args.self.now.raw (read c.args.self.now c.requires.read).sets in
    omega (arith, ap length c.as_slice.ensures, w.long)

-- the head's last byte is the sixth of all
sixth : (raw bytes head : List ℕ) → bytes ≡ raw → head ≡ take 6 bytes → slice_index head 5 ≡ slice_index raw 5
sixth raw bytes head b h = ap (λ (x : List ℕ). get_or x 5 0) h ∙ get_or-take 6 bytes 5 0 (lit< tt) ∙ ap (λ (x : List ℕ). get_or x 5 0) b

pub of-requires : goal.of-requires
of-requires c =
    let w : Whole c.args.self.now.raw = whole c.args.self.now.raw (read c.args.self.now c.requires.read).sets in
    ap (λ (x : List ℕ). is_some (sets_left false (slice_index c.split_at.result.0.now 5 % 32) x)) (c.split_at.ensures.back ∙ ap (drop 6) c.as_slice.ensures)
    ∙ ap (λ (n : ℕ). is_some (sets_left false (n % 32) (drop 6 c.args.self.now.raw)))
    (sixth c.args.self.now.raw c.as_slice.result.now c.split_at.result.0.now c.as_slice.ensures c.split_at.ensures.front)
    ∙ w.sets

pub returns : goal.returns
unfolding all_sets
returns c =
    let w : Whole c.args.self.now.raw = whole c.args.self.now.raw (read c.args.self.now c.requires.read).sets in
    c.of.ensures
    ∙ ap (λ (x : List ℕ). some_sets (sets_left false (slice_index c.split_at.result.0.now 5 % 32) x)) (c.split_at.ensures.back ∙ ap (drop 6) c.as_slice.ensures)
    ∙ ap (λ (n : ℕ). some_sets (sets_left false (n % 32) (drop 6 c.args.self.now.raw)))
    (sixth c.args.self.now.raw c.as_slice.result.now c.split_at.result.0.now c.as_slice.ensures c.split_at.ensures.front)
    ∙ ap some_sets (sym w.same)
