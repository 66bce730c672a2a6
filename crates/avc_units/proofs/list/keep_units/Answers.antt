use Rattle.std.proofs.Common.{ℕ, List, ap, ◌∙◌, rules}
use denote.Ref.{Bor}
use Rattle.std.proofs.lemmas.Fn.{filter_same}
use Rattle.avc_units.specs.UnitList.{shown, is_kept}
use Rattle.avc_units.proofs.ListLemmas.{shown_filter}
use Rattle.avc_units.proofs.list.keep_units.Goals as goal

pub returns : goal.returns
returns c =
    ap shown (filter_same _ (λ (x : Bor (List ℕ)). is_kept c.args.types x.now) _ (λ x b f' k. search rules) _ _ c.retain.ensures.filtered)
    ∙ shown_filter (is_kept c.args.types) c.args.units.now.items
