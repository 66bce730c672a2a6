-- The one order of events goes on.
use Rattle.std.proofs.Common.{◌≡◌, ℕ, ◌+◌, ◌≤◌, arith, List, [], ◌∷◌, length, sym, refl, ap, ◌∙◌, subst, Bool, true, false, Some, None}
use Rattle.std.specs.Prelude.{slice_get, if◌then◌else◌}
use Rattle.std.proofs.lemmas.Option.{slice_get_past}
use Rattle.lane_core.specs.Machine.{Event, Reply, Machine, Bounds, take, close, got, empty, ended, done, shut, start, took, next}
use Rattle.lane.specs.Ring.{no_message, flip, is_set, one_if}
use Rattle.lane.specs.Past.{Past, Goes, Runs, by_giver, keep, drop_if, giver_side, taker_side, Tale}

none_to_take : {T : Type 0} (xs : List T) (n : ℕ) → n ≡ length xs → slice_get xs n ≡ None
none_to_take xs n e = slice_get_past xs n (subst (λ (z : ℕ). length xs ≤ z) (sym e) (omega arith))

-- a close that is done came first
was_open : {T : Type 0} (c : Bool) (u v m : Machine T) → ◌≡◌ {A = Machine T × Reply T} (if c then (u, shut) else (v, done)) (m, done) → (c ≡ false) × (m ≡ v)
was_open {T} true u v m e = let r : ◌≡◌ {A = Reply T} shut done = ap (λ (p : Machine T × Reply T). p.1) e in absurd (cc)
was_open {T} false u v m e = (refl, sym (ap (λ (p : Machine T × Reply T). p.0) e))

module _ {T : Type 0} (size : T → ℕ) (b : Bounds) where
  pub opens_tale : Tale size b (start {T = T}) [] [] false
  opens_tale = record { history = []; runs = refl; mine_is = refl; theirs_is = refl; looked = λ e. absurd (cc) }

  -- an event of the giver
  pub giver_tells : (m m' : Machine T) (mine theirs : Past T) (looking : Bool) (e : Event T) (r : Reply T) → by_giver e ≡ true → Goes size b m e r m' → (m'.closed ≡ true → (e ≡ close) × (r ≡ done)) → Tale size b m mine theirs looking → Tale size b m' ((e, r) ∷ mine) theirs looking
  giver_tells m m' mine theirs looking e r by goes last h = record {
    history = (e, r) ∷ h.history;
    runs = (m, h.runs, goes);
    mine_is = ap (λ (b : Bool). keep b (e, r) (giver_side h.history)) by ∙ ap (λ (p : Past T). (e, r) ∷ p) h.mine_is;
    theirs_is = ap (λ (b : Bool). drop_if b (e, r) (taker_side h.history)) by ∙ h.theirs_is;
    looked = λ _ c. let is = last c in (h.history, λ i. (is.0 i, is.1 i) ∷ h.history);
  }

  -- an event of the taker, which does not look then
  pub taker_tells : (m m' : Machine T) (mine theirs : Past T) (looking : Bool) (e : Event T) (r : Reply T) → by_giver e ≡ false → Goes size b m e r m' → Tale size b m mine theirs looking → Tale size b m' mine ((e, r) ∷ theirs) false
  taker_tells m m' mine theirs looking e r by goes h = record {
    history = (e, r) ∷ h.history;
    runs = (m, h.runs, goes);
    mine_is = ap (λ (b : Bool). keep b (e, r) (giver_side h.history)) by ∙ h.mine_is;
    theirs_is = ap (λ (b : Bool). drop_if b (e, r) (taker_side h.history)) by ∙ ap (λ (p : Past T). (e, r) ∷ p) h.theirs_is;
    looked = λ e. absurd (cc);
  }

  pub looks_at : (m : Machine T) (mine theirs : Past T) (was looking : Bool) → (looking ≡ true → m.closed ≡ false) → Tale size b m mine theirs was → Tale size b m mine theirs looking
  looks_at m mine theirs was looking not h = record { history = h.history; runs = h.runs; mine_is = h.mine_is; theirs_is = h.theirs_is; looked = λ l c. let o = not l in absurd (let e : false ≡ true = sym o ∙ c in cc) }

  -- where nothing waits, a take changes nothing
  pub takes_none : (m : Machine T) (c : Bool) → m.taken ≡ length m.given → m.closed ≡ c → next size b m take ≡ (m, no_message c)
  takes_none m c none is = ap (took m) (none_to_take m.given m.taken none) ∙ ap (λ (r : Reply T). (m, r)) (replies c is)
    where
      replies : (c : Bool) → m.closed ≡ c → (if m.closed then ended else empty) ≡ no_message {T = T} c
      replies true is = ap (λ (b : Bool). if b then ended else empty) is
      replies false is = ap (λ (b : Bool). if b then ended else empty) is

  pub takes_one : (m : Machine T) (x : T) → slice_get m.given m.taken ≡ Some x → next size b m take ≡ (record m { taken = m.taken + 1 }, got x)
  takes_one m x at = ap (took m) at

  before_close : (m : Machine T) (mine theirs h : Past T) → m.taken ≡ length m.given → Runs size b ((close, done) ∷ h) m → giver_side ((close, done) ∷ h) ≡ mine → taker_side ((close, done) ∷ h) ≡ theirs → Tale size b m mine ((take, empty) ∷ theirs) false
  before_close m mine theirs h none runs a c = let was : Machine T = runs.0 in let closes = was_open was.closed was record was { closed = true } m runs.2 in
      let none' : was.taken ≡ length was.given = sym (ap (λ (z : Machine T). z.taken) closes.1) ∙ (none ∙ ap (λ (z : Machine T). length z.given) closes.1) in record {
        history = (close, done) ∷ (take, empty) ∷ h;
        runs = (was, (was, runs.1, takes_none was false none' closes.0), runs.2);
        mine_is = a;
        theirs_is = ap (λ (p : Past T). (take, empty) ∷ p) c;
        looked = λ e. absurd (cc);
      }

  at_closed : (c : Bool) (m : Machine T) (mine theirs : Past T) → m.closed ≡ c → m.taken ≡ length m.given → Tale size b m mine theirs true → Tale size b m mine ((take, empty) ∷ theirs) false
  at_closed false m mine theirs c none h = taker_tells m m mine theirs true take empty refl (takes_none m false none c) h
  at_closed true m mine theirs c none h = let last = h.looked refl c in
      before_close m mine theirs last.0 none (subst (λ (p : Past T). Runs size b p m) last.1 h.runs) (ap giver_side (sym last.1) ∙ h.mine_is) (ap taker_side (sym last.1) ∙ h.theirs_is)

  -- the taker finds nothing: where it has seen the lane open, this comes before a close
  pub finds : (saw : Bool) (m : Machine T) (mine theirs : Past T) → m.taken ≡ length m.given → (saw ≡ true → m.closed ≡ true) → Tale size b m mine theirs (flip saw) → Tale size b m mine ((take, no_message saw) ∷ theirs) false
  finds true m mine theirs none c h = taker_tells m m mine theirs false take ended refl (takes_none m true none (c refl)) h
  finds false m mine theirs none c h = at_closed m.closed m mine theirs refl none h

pub open_where : (b : Bool) → flip (is_set (one_if b)) ≡ true → b ≡ false
open_where true e = absurd (cc)
open_where false e = refl
