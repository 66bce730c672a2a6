-- Readers one after the other.
use Rattle.std.proofs.Common.{◌≡◌, ℕ, List, Result, Ok, Err, refl, ◌∙◌, ap, String, Global, string_bytes}
use denote.Ref.{Bor}
use Rattle.std.specs.Prelude.{encode_utf8_all}
use Rattle.std.specs.Str.{chars}
use Rattle.std.proofs.lemmas.Str.{encodes-chars, IsUtf8-string_bytes}
use Rattle.options.specs.declared.escape.Place.TheVariants.{Bare}
use Rattle.options.specs.Escape.{piece}
use Rattle.options.specs.Block.{value_until}
use Rattle.options.specs.declared.fault.WordKind.{WordKind}
use Rattle.options.specs.declared.fault.ReadError.{ReadError}
use Rattle.options.specs.declared.fault.ReadError.TheVariants as errors
use Rattle.options.specs.Read.{◌>>=◌, Fails, Gives}

pub bind_same : {A B : Type 0} (r : Result A WordKind) (f g : A → Result B WordKind) → ((x : A) → r ≡ Ok x → f x ≡ g x) → (r >>= f) ≡ (r >>= g)
bind_same (Ok x) f g h = h x refl
bind_same (Err e) f g h = refl

abbrev done : {A : Type 0} → A → Result A WordKind
done x = Ok x

ok_is : {A : Type 0} (x y : A) → done x ≡ done y → x ≡ y
ok_is x y e = cc

pub bind_is : {A B : Type 0} (r : Result A WordKind) (x : A) (f : A → Result B WordKind) → r ≡ Ok x → (r >>= f) ≡ f x
bind_is (Ok y) x f e = ap f (ok_is y x e)
bind_is (Err d) x f e = absurd cc

-- a fault of what is read first is the fault
pub bind_fails : {A B : Type 0} (e : ReadError) (r : Result A WordKind) (f : A → Result B WordKind) → Fails e r → Fails e (r >>= f)
bind_fails errors.Memory r f h = tt
bind_fails (errors.Fault k) r f h = ap (λ x. x >>= f) h

-- the bytes of a piece
pub until_is : (stops text : List ℕ) (r : Result (String Global × Bor (List ℕ)) ReadError) → Gives (λ x. (chars (string_bytes x.0), chars x.1.now)) r (piece stops Bare text) → Gives (λ x. (string_bytes x.0, chars x.1.now)) r (value_until stops text)
unfolding value_until
until_is stops text (Ok x) h =
    bind_is (piece stops Bare text) (chars (string_bytes x.0), chars x.1.now) (λ v. Ok (encode_utf8_all v.0, v.1)) h
    ∙ ap (λ (t : List ℕ). Ok (t, chars x.1.now)) (encodes-chars (string_bytes x.0) (IsUtf8-string_bytes x.0))
until_is stops text (Err e) h = bind_fails e (piece stops Bare text) (λ v. Ok (encode_utf8_all v.0, v.1)) h
