use Rattle.std.proofs.Common.{◌≡◌, ℕ, ◌+◌, List, ◌∷◌, drop, sym, ap, ◌∙◌, true, subst}
use Rattle.std.specs.Prelude.{is_some}
use Rattle.std.specs.Option.{option_map}
use Rattle.rmx_media.specs.Units.{size_in, parts_of}
use Rattle.avc_units.proofs.UnitsLemmas.{not_cut, rest_whole, parts_more}
use Rattle.avc_units.proofs.iter.Units.part.Goals as goal

pub unreachable-requires : goal.unreachable-requires
unreachable-requires c =
    not_cut c.args.self.now.length_size c.args.self.now.rest.now c.args.self.now.low c.requires c.args.self.now.whole c.in_default.ensures.cut

pub invariant_of-self-clause-whole : goal.invariant_of-self-clause-whole
invariant_of-self-clause-whole c =
    subst (λ (r : List ℕ). is_some (parts_of c.args.self.now.length_size r) ≡ true) (sym c.in-Some.ensures.rest)
    (rest_whole c.args.self.now.length_size c.args.self.now.rest.now c.args.self.now.low c.requires c.args.self.now.whole c.in-Some.ensures.whole)

pub returns-clause-part : goal.returns-clause-part
returns-clause-part c =
    parts_more c.args.self.now.length_size c.args.self.now.rest.now c.args.self.now.low c.requires c.in-Some.ensures.whole
    ∙ ap (λ (u : List ℕ). option_map (λ (ps : List (List ℕ)). u ∷ ps)
    (parts_of c.args.self.now.length_size (drop (c.args.self.now.length_size + size_in c.args.self.now.length_size c.args.self.now.rest.now) c.args.self.now.rest.now)))
    (sym c.in-Some.ensures.unit)
    ∙ ap (λ (r : List ℕ). option_map (λ (ps : List (List ℕ)). c.in-Some.unit.now ∷ ps) (parts_of c.args.self.now.length_size r)) (sym c.in-Some.ensures.rest)
