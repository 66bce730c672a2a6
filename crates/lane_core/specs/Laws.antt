-- What holds of the machine after any list of events.
use Rattle.std.specs.Prelude.{◌≡◌, ℕ, ◌<◌, ◌≤◌, List, [], ◌∷◌, ◌++◌, length, sum_by}
use mathlib.Core.List.{IsPrefix}
use Rattle.lane_core.specs.Machine.{Event, offer, take, see, close, fail, Reply, accepted, refused, got, Bounds, start, waiting, final, history}

module _ {T : Type 0} where
  abbrev pub accepted_by : Event T → Reply T → List T → List T
  accepted_by (offer x) accepted xs = x ∷ xs
  accepted_by _ _ xs = xs

  abbrev pub answered_by : Event T → Reply T → List T → List T
  answered_by (offer x) accepted xs = x ∷ xs
  answered_by (offer x) (refused v) xs = x ∷ xs
  answered_by _ _ xs = xs

  abbrev pub got_by : Reply T → List T → List T
  got_by (got x) xs = x ∷ xs
  got_by _ xs = xs

  -- the messages whose offers were accepted
  abbrev pub given_in : List (Event T × Reply T) → List T
  given_in [] = []
  given_in (p ∷ h) = accepted_by p.0 p.1 (given_in h)

  -- the messages whose offers were accepted or refused
  abbrev pub answered_in : List (Event T × Reply T) → List T
  answered_in [] = []
  answered_in (p ∷ h) = answered_by p.0 p.1 (answered_in h)

  -- the messages that were taken
  abbrev pub got_in : List (Event T × Reply T) → List T
  got_in [] = []
  got_in (p ∷ h) = got_by p.1 (got_in h)

  -- the messages that were offered before the first close
  abbrev pub offers_before_close : List (Event T) → List T
  offers_before_close [] = []
  offers_before_close (offer x ∷ es) = x ∷ offers_before_close es
  offers_before_close (take ∷ es) = offers_before_close es
  offers_before_close (see ∷ es) = offers_before_close es
  offers_before_close (close ∷ es) = []
  offers_before_close (fail ∷ es) = offers_before_close es

-- What was got is the front of what was given, and the rest of it waits. At most cap messages wait, and more bytes than the limit only in one message.
-- Each offer before the close is accepted or refused, and no other
pub record IsLawful {T : Type 0} (size : T → ℕ) (b : Bounds) (es : List (Event T)) : Type 0 where
  pub in_order : IsPrefix (got_in (history size b start es)) (given_in (history size b start es))
  pub whole : given_in (history size b start es) ≡ got_in (history size b start es) ++ waiting (final size b start es).given (final size b start es).taken
  pub bounded : length (waiting (final size b start es).given (final size b start es).taken) ≤ b.cap
  pub light : 0 < b.limit → b.limit < sum_by size (waiting (final size b start es).given (final size b start es).taken) → length (waiting (final size b start es).given (final size b start es).taken) ≡ 1
  pub answered : answered_in (history size b start es) ≡ offers_before_close es
