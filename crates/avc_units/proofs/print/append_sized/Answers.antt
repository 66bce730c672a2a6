use Rattle.std.proofs.Common.{◌≡◌, ℕ, ◌-◌, ◌++◌, List, length, drop, ap, ◌∙◌, subst, append_assoc}
use Rattle.std.specs.Result.{OnOk}
use Rattle.rmx_media.specs.Bits.{bytes_of}
use Rattle.avc_units.proofs.ListLemmas.{field_tail, field_fits}
use Rattle.avc_units.proofs.print.append_sized.Goals as goal

pub field-field-requires : goal.field-field-requires
field-field-requires c = field_fits c.args.length_size (length c.args.unit.now) c.requires.low c.requires.high c.requires.short

pub returns : goal.returns
returns c =
    let size : ℕ = length c.args.unit.now in
    let tail : c.split_at.result.1.now ≡ bytes_of c.args.length_size size =
    c.split_at.ensures.back
    ∙ ap (λ (n : ℕ). drop (4 - n) c.as_slice.result.now) c.from.ensures
    ∙ ap (λ (b : List ℕ). drop (4 - c.args.length_size) b) (c.as_slice.ensures ∙ c.field-field.ensures)
    ∙ field_tail c.args.length_size size c.requires.low c.requires.high in
    subst (λ (x : List ℕ). OnOk c.append-2.result (c.append-2.new.out.items ≡ x))
    (ap (λ (b : List ℕ). b ++ c.args.unit.now) (c.in_ok-append.ensures ∙ ap (λ (b : List ℕ). c.args.out.now.items ++ b) tail)
    ∙ append_assoc c.args.out.now.items (bytes_of c.args.length_size size) c.args.unit.now)
    c.append-2.ensures
