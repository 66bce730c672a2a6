-- What the table holds.
use Rattle.std.proofs.Common.{◌≡◌, ℕ, ◌*◌, ◌^◌, ◌<◌, refl, get_or, ap, ◌∙◌, zero-add}
use Rattle.std.specs.Prelude.{map}
use Rattle.std.specs.List.{range_with_len}
use Rattle.std.proofs.lemmas.List.FromFn.{get_or-map-range_with_len}
use Rattle.ts_psi.specs.Crc.{byte_step}
use Rattle.ts_psi.specs.declared.checksum.TheConstants.{TABLE}

table_is : TABLE ≡ map (λ i. byte_step (i * 2 ^ 24) 0) (range_with_len 0 256)
unfolding byte_step
table_is = refl

pub word_is : (i : ℕ) → i < 256 → get_or TABLE i 0 ≡ byte_step (i * 2 ^ 24) 0
word_is i h =
    ap (λ xs. get_or xs i 0) table_is ∙ get_or-map-range_with_len (λ n. byte_step (n * 2 ^ 24) 0) 0 256 i i 0 h (zero-add i)
