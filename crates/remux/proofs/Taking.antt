-- What was taken of an input.
use Rattle.std.proofs.Common.{ℕ, List, [], ◌++◌, take, ap, ◌∙◌, sym, refl, Option, Some, None, append_assoc}
use Rattle.std.specs.Prelude.{IfSome, IsSomeAnd, Ok}
use Rattle.rmx_edge.specs.Inputs.{InputView, InputState, OnViews, ReadsView, Reads}
use Rattle.remux.specs.Took.{TookView, Took}

on_took : (E : Type 0) (n : ℕ) (buf : List ℕ) (ov nv : Option InputView) → OnViews ov nv (ReadsView {E = E} (Ok n) buf) → IfSome ov (λ (v : InputView). IsSomeAnd nv (TookView (take n buf) v))
on_took E n buf None nv h = tt
on_took E n buf (Some v) None h = absurd h
on_took E n buf (Some v) (Some w) h = (h.0, h.1)

pub took_read : {E : Type 0} {n : ℕ} {buf : List ℕ} {old new : InputState} → Reads {E = E} (Ok n) buf old new → Took (take n buf) old new
took_read {E} {n} {buf} {old} {new} h = on_took E n buf old.view new.view h.view

two : (a b : List ℕ) (u v w : Option InputView) → IfSome u (λ (x : InputView). IsSomeAnd v (TookView a x)) → IfSome v (λ (x : InputView). IsSomeAnd w (TookView b x)) → IfSome u (λ (x : InputView). IsSomeAnd w (TookView (a ++ b) x))
two a b None v w h k = tt
two a b (Some x) None w h k = absurd h
two a b (Some x) (Some y) None h k = absurd k
two a b (Some x) (Some y) (Some z) h k = (k.0 ∙ h.0, h.1 ∙ ap (λ (l : List ℕ). a ++ l) k.1 ∙ sym (append_assoc a b z.left))

pub took_two : (a b : List ℕ) (s t u : InputState) → Took a s t → Took b t u → Took (a ++ b) s u
took_two a b s t u h k = two a b s.view t.view u.view h k

none : (u : Option InputView) → IfSome u (λ (x : InputView). IsSomeAnd u (TookView [] x))
none None = tt
none (Some x) = (refl, refl)

pub took_none : (s : InputState) → Took [] s s
took_none s = none s.view
