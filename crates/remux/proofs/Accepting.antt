-- Lists of packets that the outputs take.
use Rattle.std.proofs.Common.{◌≡◌, Bool, true, false, List, [], ◌∷◌, subst}
use Rattle.std.specs.Prelude.{if◌then◌else◌}
use Rattle.rmx_media.specs.declared.packet.Packet.{Packet}
use Rattle.interleaver.specs.Interleave.{put_in, is_before}
use Rattle.remux.specs.Fit.{Each}

pub each_more : (P Q : Packet → Type 0) (xs : List Packet) → ((q : Packet) → P q → Q q) → Each P xs → Each Q xs
each_more P Q [] f h = tt
each_more P Q (x ∷ xs) f h = (f x h.0, each_more P Q xs f h.1)

put_by : (P : Packet → Type 0) (p x : Packet) (xs ys : List Packet) (b : Bool) → P p → Each P (x ∷ xs) → Each P ys → Each P (if b then p ∷ x ∷ xs else x ∷ ys)
put_by P p x xs ys true h k j = (h, k)
put_by P p x xs ys false h k j = (k.0, j)

pub each_put : (P : Packet → Type 0) (p : Packet) (xs : List Packet) → P p → Each P xs → Each P (put_in p xs)
each_put P p [] h k = (h, tt)
each_put P p (x ∷ xs) h k = put_by P p x xs (put_in p xs) (is_before p x) h k (each_put P p xs h k.1)

pub head_taken : (P : Packet → Type 0) (p : Packet) (xs ys : List Packet) → xs ≡ p ∷ ys → Each P xs → P p
head_taken P p xs ys e h = (subst (Each P) e h).0

pub rest_taken : (P : Packet → Type 0) (p : Packet) (xs ys : List Packet) → xs ≡ p ∷ ys → Each P xs → Each P ys
rest_taken P p xs ys e h = (subst (Each P) e h).1
