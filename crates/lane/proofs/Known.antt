-- The steps at a seat that an equation tells, and what they told it.
use Rattle.std.proofs.Common.{◌≡◌, ℕ, ◌+◌, ◌%◌, ◌^◌, ◌<◌, ◌≤◌, List, [], ◌∷◌, length, sym, ◌∙◌, subst, Option, Some, None, Bool, true, false}
use mathlib.Core.Option.{none}
use Rattle.atomic_table.specs.Table.{Me, step, Allows, Joins, rest}
use Rattle.lane.specs.declared.view.View.{View}
use Rattle.lane_core.specs.Machine.{is_full}
use Rattle.lane.specs.Past.{Past}
use Rattle.lane.specs.Sight.{Refusal, GiverView, TakerView, giver, taker, settled, spent}
use Rattle.lane.proofs.Rooms.{got_elem}
use Rattle.lane.specs.Ring.{Measure, bounds, view_of, Stands, idle, with_slot, given_more, owing_none, shut, holding, finding_none, numbering, closing, failing, head_loaded, tail_added, giver_went, asked_after, tail_loaded, head_added, taker_went, Agree, compared, joined}
use Rattle.lane.specs.Tied.{at_rest}
use Rattle.lane.specs.Told.{SawInTime}
use Rattle.lane.proofs.Moves.{ready, loaded, empty_handed, with_item, Full, head_loads, tail_adds, over_adds, closes, asks_after, tail_loads, head_adds, over_loads, close_loads, fails, joins, compares}

abbrev Sat : Type 0 → Type 0 → Type 0
Sat T K = Me (Option T) (View T K)

module _ {T K : Type 0} where
  -- a giver at rest that has not closed
  pub ready_at : (k : K) (m : Sat T K) (g : GiverView T K) → m ≡ (view_of (giver (at_rest k g)), []) → g.closed ≡ false → m ≡ (view_of (giver (ready k g.flow.given g.flow.seen g.refusals g.asked g.told g.past)), [])
  ready_at k m g is fresh = is ∙ (λ i. (view_of (giver record { flow = idle k g.flow.given g.flow.seen; refusals = g.refusals; owes = false; closed = fresh i; asked = g.asked; told = g.told; past = g.past }), []))

  -- the slot that was taken last, after an exchange
  pub put_into : (m m' : Sat T K) (v : View T K) (j i : ℕ) (x y : Option T) → m ≡ (v, (i, x) ∷ []) → m' ≡ (m.0, (j, y) ∷ rest m.1) → j ≡ i → m' ≡ (v, (i, y) ∷ [])
  put_into m m' v j i x y is did same = did ∙ (λ k. ((is k).0, (same k, y) ∷ rest (is k).1))

  pub told_head : (weigh : Measure T K) (f : ℕ → GiverView T K → GiverView T K) (z n : ℕ) (m m' : Sat T K) (r : ℕ) (g : GiverView T K) → m ≡ (view_of (giver g), []) → head_loaded weigh f z (step n 0 0 0 none) m r m'
      → (g.flow.seen ≤ r) × (r ≤ length g.flow.given) × (length g.flow.given ≤ r + n)
      × (is_full weigh.size (bounds weigh n g.flow.about) g.flow.given r z ≡ false → m' ≡ (view_of (giver (with_slot z r g)), (length g.flow.given % n, None) ∷ []))
      × (is_full weigh.size (bounds weigh n g.flow.about) g.flow.given r z ≡ true → m' ≡ (view_of (giver (f r g)), []))
  told_head weigh f z n m m' r g is told = subst (λ (x : Sat T K). head_loaded weigh f z (step n 0 0 0 none) x r m') is told

  pub told_tail : (follows : K → List T → T → Type 0) (n : ℕ) (m m' : Sat T K) (r : ℕ) (t : TakerView T K) → m ≡ (view_of (taker t), []) → tail_loaded follows (step n 1 0 0 none) m r m'
      → (length t.flow.got ≤ r) × (length t.flow.got < r → (x : T) × follows t.flow.about t.flow.got x × (m' ≡ (view_of (taker (holding r x t)), (length t.flow.got % n, Some x) ∷ []))) × (r ≡ length t.flow.got → m' ≡ (view_of (taker (finding_none r t)), []))
  told_tail follows n m m' r t is told = subst (λ (x : Sat T K). tail_loaded follows (step n 1 0 0 none) x r m') is told

  pub told_given : (n : ℕ) (m m' : Sat T K) (r j : ℕ) (x : T) (g : GiverView T K) → m ≡ (view_of (giver g), (j, Some x) ∷ []) → tail_added (step n 1 1 0 none) m r m' → m' ≡ (view_of (giver (given_more (x ∷ []) g)), [])
  told_given n m m' r j x g is told = subst (λ (y : Sat T K). tail_added (step n 1 1 0 none) y r m') is told

  pub told_again : (n : ℕ) (m m' : Sat T K) (r : ℕ) (g : GiverView T K) (cs : List (ℕ × Option T)) → m ≡ (view_of (giver g), cs) → asked_after (step n 4 0 0 none) m r m' → (v : ℕ) → g.told ≡ Some v → r ≡ 1
  told_again n m m' r g cs is told = (subst (λ (x : Sat T K). asked_after (step n 4 0 0 none) x r m') is told).1

  pub told_giver : (f : ℕ → GiverView T K → GiverView T K) (n i : ℕ) (m m' : Sat T K) (r : ℕ) (g : GiverView T K) (cs : List (ℕ × Option T)) → m ≡ (view_of (giver g), cs) → giver_went f (step n i 0 0 none) m r m' → m' ≡ (view_of (giver (f r g)), cs)
  told_giver f n i m m' r g cs is told = subst (λ (x : Sat T K). giver_went f (step n i 0 0 none) x r m') is told

  pub told_taker : (f : ℕ → TakerView T K → TakerView T K) (n i : ℕ) (m m' : Sat T K) (r : ℕ) (t : TakerView T K) (cs : List (ℕ × Option T)) → m ≡ (view_of (taker t), cs) → taker_went f (step n i 0 0 none) m r m' → m' ≡ (view_of (taker (f r t)), cs)
  told_taker f n i m m' r t cs is told = subst (λ (x : Sat T K). taker_went f (step n i 0 0 none) x r m') is told

  pub told_all : (weigh : Measure T K) (n : ℕ) (m m' : Sat T K) (r : ℕ) (g : GiverView T K) (t : TakerView T K) → m.0 ≡ view_of (settled g t) → compared weigh (step n 0 0 0 none) m r m' → Agree weigh n g t
  told_all weigh n m m' r g t is told = (subst (λ (v : View T K). compared weigh (step n 0 0 0 none) (v, m.1) r m') is told).1

  pub joined_at : (v w : View T K) (g : GiverView T K) (t : TakerView T K) → v ≡ view_of (giver g) → w ≡ view_of (taker t) → view_of (joined v.sight w.sight) ≡ view_of (settled g t)
  joined_at v w g t a b = λ i. view_of (joined (a i).sight (b i).sight)

  pub saw_in_time : (weigh : Measure T K) (n : ℕ) (g : GiverView T K) (t : TakerView T K) → Agree weigh n g t → SawInTime g.refusals t.numbers
  saw_in_time weigh n g t h i p e = let x = h.2 i p (got_elem t.numbers i p e) in (x.0, λ v r is at. x.1 v r is (got_elem g.refusals v r at))

module _ {T K : Type 0} (follows : K → List T → T → Type 0) (weigh : Measure T K) (k : K) where
  pub loads_head : (f : ℕ → GiverView T K → GiverView T K) (z n id : ℕ) (m : Sat T K) (c : K) (given : List T) (seen : ℕ) (rs : List (Refusal T)) (asked : ℕ) (told : Option ℕ) (past : Past T) → Full follows weigh k f z n c given seen rs asked told past
      → m ≡ (view_of (giver (ready c given seen rs asked told past)), []) → Allows (Stands follows weigh k) n id m 0 (λ x. x) (head_loaded weigh f z (step n 0 0 0 none) m)
  loads_head f z n id m c given seen rs asked told past full is = subst (λ (m : Sat T K). Allows (Stands follows weigh k) n id m 0 (λ x. x) (head_loaded weigh f z (step n 0 0 0 none) m)) (sym is) (head_loads follows weigh k f z n id c given seen rs asked told past full)

  pub adds_tail : (z n id : ℕ) (m : Sat T K) (c : K) (given : List T) (seen : ℕ) (rs : List (Refusal T)) (asked : ℕ) (told : Option ℕ) (past : Past T) (x : T) → m ≡ (view_of (giver (loaded z c given seen rs asked told past)), (length given % n, Some x) ∷ []) → z ≡ weigh.size x → length given < 2 ^ 61 → follows c given x
      → Allows (Stands follows weigh k) n id m 1 (λ y. (y + 1) % 2 ^ 64) (tail_added (step n 1 1 0 none) m)
  adds_tail z n id m c given seen rs asked told past x is weight small next =
      subst (λ (m : Sat T K). Allows (Stands follows weigh k) n id m 1 (λ y. (y + 1) % 2 ^ 64) (tail_added (step n 1 1 0 none) m)) (sym is) (tail_adds follows weigh k z n id c given seen rs asked told past x weight small next)

  pub adds_over : (n id : ℕ) (m : Sat T K) (g : GiverView T K) (cs : List (ℕ × Option T)) → m ≡ (view_of (giver g), cs) → g.owes ≡ true → Allows (Stands follows weigh k) n id m 2 (λ y. (y + 1) % 2 ^ 64) (giver_went (λ _. owing_none) (step n 2 1 0 none) m)
  adds_over n id m g cs is owes = subst (λ (m : Sat T K). Allows (Stands follows weigh k) n id m 2 (λ y. (y + 1) % 2 ^ 64) (giver_went (λ _. owing_none) (step n 2 1 0 none) m)) (sym is) (over_adds follows weigh k n id g cs owes)

  pub stores_closed : (n id : ℕ) (m : Sat T K) (g : GiverView T K) (cs : List (ℕ × Option T)) → m ≡ (view_of (giver g), cs) → g.flow.holds ≡ None → g.owes ≡ false → g.closed ≡ false
      → Allows (Stands follows weigh k) n id m 3 (λ _. 1) (λ _. giver_went (λ _. shut) (step n 3 1 0 none) m 1)
  stores_closed n id m g cs is a b fresh = subst (λ (m : Sat T K). Allows (Stands follows weigh k) n id m 3 (λ _. 1) (λ _. giver_went (λ _. shut) (step n 3 1 0 none) m 1)) (sym is) (closes follows weigh k n id g cs a b fresh)

  pub loads_failed : (n id : ℕ) (m : Sat T K) (g : GiverView T K) (cs : List (ℕ × Option T)) → m ≡ (view_of (giver g), cs) → Allows (Stands follows weigh k) n id m 4 (λ x. x) (asked_after (step n 4 0 0 none) m)
  loads_failed n id m g cs is = subst (λ (m : Sat T K). Allows (Stands follows weigh k) n id m 4 (λ x. x) (asked_after (step n 4 0 0 none) m)) (sym is) (asks_after follows weigh k n id g cs)

  pub loads_tail : (n id : ℕ) (m : Sat T K) (c : K) (got : List T) (seen : ℕ) (ns : List (ℕ × ℕ)) (saw ended failed : Bool) (past : Past T) → m ≡ (view_of (taker (empty_handed c got seen ns saw ended failed past)), [])
      → Allows (Stands follows weigh k) n id m 1 (λ x. x) (tail_loaded follows (step n 1 0 0 none) m)
  loads_tail n id m c got seen ns saw ended failed past is = subst (λ (m : Sat T K). Allows (Stands follows weigh k) n id m 1 (λ x. x) (tail_loaded follows (step n 1 0 0 none) m)) (sym is) (tail_loads follows weigh k n id c got seen ns saw ended failed past)

  pub adds_head : (n id : ℕ) (m : Sat T K) (c : K) (got : List T) (seen : ℕ) (x : T) (ns : List (ℕ × ℕ)) (saw ended failed : Bool) (past : Past T) → m ≡ (view_of (taker (with_item c got seen x ns saw ended failed past)), (length got % n, None) ∷ [])
      → Allows (Stands follows weigh k) n id m 0 (λ y. (y + 1) % 2 ^ 64) (head_added (step n 0 1 0 none) m)
  adds_head n id m c got seen x ns saw ended failed past is =
      subst (λ (m : Sat T K). Allows (Stands follows weigh k) n id m 0 (λ y. (y + 1) % 2 ^ 64) (head_added (step n 0 1 0 none) m)) (sym is) (head_adds follows weigh k n id c got seen x ns saw ended failed past)

  pub loads_over : (n id : ℕ) (m : Sat T K) (t : TakerView T K) (cs : List (ℕ × Option T)) → m ≡ (view_of (taker t), cs) → Allows (Stands follows weigh k) n id m 2 (λ x. x) (taker_went numbering (step n 2 0 0 none) m)
  loads_over n id m t cs is = subst (λ (m : Sat T K). Allows (Stands follows weigh k) n id m 2 (λ x. x) (taker_went numbering (step n 2 0 0 none) m)) (sym is) (over_loads follows weigh k n id t cs)

  pub loads_closed : (n id : ℕ) (m : Sat T K) (t : TakerView T K) (cs : List (ℕ × Option T)) → m ≡ (view_of (taker t), cs) → Allows (Stands follows weigh k) n id m 3 (λ x. x) (taker_went closing (step n 3 0 0 none) m)
  loads_closed n id m t cs is = subst (λ (m : Sat T K). Allows (Stands follows weigh k) n id m 3 (λ x. x) (taker_went closing (step n 3 0 0 none) m)) (sym is) (close_loads follows weigh k n id t cs)

  pub stores_failed : (n id : ℕ) (m : Sat T K) (t : TakerView T K) (cs : List (ℕ × Option T)) → m ≡ (view_of (taker t), cs) → Allows (Stands follows weigh k) n id m 4 (λ _. 1) (λ _. taker_went (λ _. failing) (step n 4 1 0 none) m 1)
  stores_failed n id m t cs is = subst (λ (m : Sat T K). Allows (Stands follows weigh k) n id m 4 (λ _. 1) (λ _. taker_went (λ _. failing) (step n 4 1 0 none) m 1)) (sym is) (fails follows weigh k n id t cs)

  pub joins_at : (id other : ℕ) (v w : View T K) (g : GiverView T K) (t : TakerView T K) → v ≡ view_of (giver g) → w ≡ view_of (taker t) → Joins (Stands follows weigh k) id v other w (view_of (joined v.sight w.sight)) (view_of spent)
  joins_at id other v w g t a b = subst (λ (z : View T K × View T K). Joins (Stands follows weigh k) id z.0 other z.1 (view_of (joined z.0.sight z.1.sight)) (view_of spent)) (λ i. (sym a i, sym b i)) (joins follows weigh k id other g t)

  pub compares_at : (n id : ℕ) (m : Sat T K) (g : GiverView T K) (t : TakerView T K) → m.0 ≡ view_of (settled g t) → Allows (Stands follows weigh k) n id m 0 (λ x. x) (compared weigh (step n 0 0 0 none) m)
  compares_at n id m g t is = subst (λ (v : View T K). Allows (Stands follows weigh k) n id (v, m.1) 0 (λ x. x) (compared weigh (step n 0 0 0 none) (v, m.1))) (sym is) (compares follows weigh k n id g t m.1)
