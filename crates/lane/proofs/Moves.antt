-- Each step of a seat is allowed.
use Rattle.std.proofs.Common.{◌≡◌, ◌≢◌, ◌⊎◌, ℕ, zero, suc, ◌+◌, ◌%◌, ◌^◌, ◌<◌, ◌≤◌, List, [], ◌∷◌, ◌++◌, length, drop, sum_by, get_or, set, replicate, sym, refl, ap, ◌∙◌, subst, arith, length-append, lt_of_not-le, Option, Some, None, inl, inr, ⊎_elim, Bool, true, false}
use mathlib.Core.Logic.{dite}
use mathlib.Core.Option.{none, some}
use mathlib.Core.Option as maybe
use native.Mathlib.Decide.{dec_le}
use native.Mathlib.Nat.{mod-eq_of_lt}
use lib.ListN.{get_elem?}
use lib.Seq.{set-get_or}
use Rattle.atomic_table.specs.Table.{State, Me, Act, step, keeps, takes, gives, Valid, stepped, carried_after, opening, Allows, Splits, Joins}
use Rattle.atomic_table.proofs.Lists.{set_again}
use Rattle.lane.specs.declared.view.View.{View}
use Rattle.lane.specs.Sight.{Taking, Refusal, GiverView, TakerView, Sight, both, giver, taker, settled, spent}
use Rattle.lane.specs.Ring.{Measure, bounds, is_set, flip, shown, one_if, idle, filling, resting, emptying, view_of, Kept, Refused, words_of, Parts, Stands, new_giver, new_taker, opened, with_slot, waiting, refusing, given_more, owing_none, shut, asking, holding, finding_none, got_more, numbering, closing, failing, head_loaded, tail_added, giver_went, asked_after, tail_loaded, head_added, taker_went, Agree, compared, giver_part, taker_part}
use Rattle.std.specs.Prelude.{if◌then◌else◌}
use Rattle.lane.proofs.Slots.{within_length, none_left}
use Rattle.lane.proofs.Rooms.{still_room, elem_of}
use Rattle.lane.proofs.Keeps.{opens, takes_place, gives_item, takes_item, returns_slot}
use Rattle.lane_core.specs.Machine.{Machine, Reply, is_full, offered}
use Rattle.lane_core.specs.Machine as machine
use Rattle.lane.specs.Past.{Past, Runs}
use Rattle.lane.proofs.Tales.{opens_tale, giver_tells, taker_tells, takes_one, looks_at, finds, open_where}
use Rattle.lane.proofs.Refusals.{sees_more, sends_more, refuses, counts, numbers, looks, asks}

either : (b : Bool) → (b ≡ true) ⊎ (b ≡ false)
either true = inl refl
either false = inr refl

one_seat : {A : Type 0} (v w : A) (id : ℕ) → get_elem? (v ∷ []) id ≡ some w → (id ≡ 0) × (v ≡ w)
one_seat v w zero e = (refl, maybe.some-injective v w e)
one_seat v w (suc j) e = absurd (maybe.some-ne-none w (sym e))

two_seats : {A : Type 0} (u v w : A) (id : ℕ) → get_elem? (u ∷ v ∷ []) id ≡ some w → ((id ≡ 0) × (u ≡ w)) ⊎ ((id ≡ 1) × (v ≡ w))
two_seats u v w zero e = inl (refl, maybe.some-injective u w e)
two_seats u v w (suc zero) e = inr (refl, maybe.some-injective v w e)
two_seats u v w (suc (suc j)) e = absurd (maybe.some-ne-none w (sym e))

module _ {T K : Type 0} where
  same_sight : (a b : Sight T K) → view_of a ≡ view_of b → a ≡ b
  same_sight a b e = ap (λ (v : View T K). v.sight) e

  same_giver : (a b : GiverView T K) → view_of (giver a) ≡ view_of (giver b) → a ≡ b
  same_giver a b e = let s : giver a ≡ giver b = same_sight (giver a) (giver b) e in cc

  same_taker : (a b : TakerView T K) → view_of (taker a) ≡ view_of (taker b) → a ≡ b
  same_taker a b e = let s : taker a ≡ taker b = same_sight (taker a) (taker b) e in cc

  abbrev kind : Sight T K → ℕ
  kind (both g t) = 0
  kind (giver g) = 1
  kind (taker t) = 2
  kind (settled g t) = 3
  kind spent = 4

  -- seats of different kinds
  differ : {P : Type 0} (a b : Sight T K) → kind a ≢ kind b → view_of a ≡ view_of b → P
  differ a b ne e = absurd (ne (ap (λ (v : View T K). kind v.sight) e))

module _ {T K : Type 0} where
  same_both : (g g' : GiverView T K) (t t' : TakerView T K) → view_of (both g t) ≡ view_of (both g' t') → (g ≡ g') × (t ≡ t')
  same_both g g' t t' e = let s : both g t ≡ both g' t' = same_sight (both g t) (both g' t') e in (cc, cc)

  same_settled : (g g' : GiverView T K) (t t' : TakerView T K) → view_of (settled g t) ≡ view_of (settled g' t') → (g ≡ g') × (t ≡ t')
  same_settled g g' t t' e = let s : settled g t ≡ settled g' t' = same_sight (settled g t) (settled g' t') e in (cc, cc)

module _ {T K : Type 0} where
  -- The giver's view before and after a load of the head
  abbrev pub ready : K → List T → ℕ → List (Refusal T) → ℕ → Option ℕ → Past T → GiverView T K
  ready c given seen rs asked told past = record { flow = idle c given seen; refusals = rs; owes = false; closed = false; asked = asked; told = told; past = past }

  -- and while it holds a slot for z bytes
  abbrev pub loaded : ℕ → K → List T → ℕ → List (Refusal T) → ℕ → Option ℕ → Past T → GiverView T K
  loaded z c given seen rs asked told past = record { flow = filling z c given seen; refusals = rs; owes = false; closed = false; asked = asked; told = told; past = past }

  -- The taker's view with an empty hand, and with a message
  abbrev pub empty_handed : K → List T → ℕ → List (ℕ × ℕ) → Bool → Bool → Bool → Past T → TakerView T K
  empty_handed c got seen ns saw ended failed past = record { flow = resting c got seen; numbers = ns; saw_closed = saw; ended = ended; failed = failed; looking = flip saw; past = past }

  abbrev pub with_item : K → List T → ℕ → T → List (ℕ × ℕ) → Bool → Bool → Bool → Past T → TakerView T K
  with_item c got seen x ns saw ended failed past = record { flow = emptying c got seen x; numbers = ns; saw_closed = saw; ended = ended; failed = failed; looking = false; past = past }

module _ {T K : Type 0} (follows : K → List T → T → Type 0) (weigh : Measure T K) (k : K) where
  abbrev St : Type 0
  St = State (Option T) (View T K)

  abbrev Views : Type 0
  Views = List (View T K)

  abbrev pub Homes : Type 0
  Homes = List (maybe.Option (Option T))

  abbrev Sat : Type 0
  Sat = Me (Option T) (View T K)

  sized : (s : St) (h : Stands follows weigh k s) (n : ℕ) → length s.homes ≡ n → Parts follows weigh n k s.homes h.over h.g h.t
  sized s h n wide = subst (λ (z : ℕ). Parts follows weigh z k s.homes h.over h.g h.t) (sym h.parts.kept.size ∙ wide) h.parts

  -- where a seat is the giver, it is seat 0, and the taker is seat 1
  giver_at : (s : St) → Stands follows weigh k s → (n id : ℕ) → length s.homes ≡ n → (g : GiverView T K) → get_elem? s.views id ≡ some (view_of (giver g)) → (P : ℕ → List ℕ → Views → Type 0)
      → ((over : ℕ) (t : TakerView T K) → Parts follows weigh n k s.homes over g t → P 0 (words_of over g t) (view_of (giver g) ∷ view_of (taker t) ∷ [])) → P id s.words s.views
  giver_at s h n id wide g at P body = ⊎_elim
      (λ (e : s.views ≡ view_of (both h.g h.t) ∷ []). differ (both h.g h.t) (giver g) (λ e. omega arith) (one_seat _ _ id (ap (λ (vs : Views). get_elem? vs id) (sym e) ∙ at)).1)
      (⊎_elim
      (λ (e : s.views ≡ view_of (giver h.g) ∷ view_of (taker h.t) ∷ []). ⊎_elim
      (λ (is : (id ≡ 0) × (view_of (giver h.g) ≡ view_of (giver g))). let same : h.g ≡ g = same_giver h.g g is.1 in
      let words : s.words ≡ words_of h.over g h.t = h.words_are ∙ ap (λ (z : GiverView T K). words_of h.over z h.t) same in
      let views : s.views ≡ view_of (giver g) ∷ view_of (taker h.t) ∷ [] = e ∙ ap (λ (z : GiverView T K). view_of (giver z) ∷ view_of (taker h.t) ∷ []) same in
      subst (λ (z : ℕ × List ℕ × Views). P z.0 z.1 z.2) (λ i. (sym is.0 i, sym words i, sym views i)) (body h.over h.t (subst (λ (z : GiverView T K). Parts follows weigh n k s.homes h.over z h.t) same (sized s h n wide))))
      (λ (is : (id ≡ 1) × (view_of (taker h.t) ≡ view_of (giver g))). differ (taker h.t) (giver g) (λ e. omega arith) is.1)
      (two_seats _ _ _ id (ap (λ (vs : Views). get_elem? vs id) (sym e) ∙ at)))
      (λ (e : s.views ≡ view_of (settled h.g h.t) ∷ view_of spent ∷ []). ⊎_elim (λ (is : (id ≡ 0) × (view_of (settled h.g h.t) ≡ view_of (giver g))). differ (settled h.g h.t) (giver g) (λ e. omega arith) is.1)
      (λ (is : (id ≡ 1) × (view_of spent ≡ view_of (giver g))). differ spent (giver g) (λ e. omega arith) is.1) (two_seats _ _ _ id (ap (λ (vs : Views). get_elem? vs id) (sym e) ∙ at))))
      h.seats

  taker_at : (s : St) → Stands follows weigh k s → (n id : ℕ) → length s.homes ≡ n → (t : TakerView T K) → get_elem? s.views id ≡ some (view_of (taker t)) → (P : ℕ → List ℕ → Views → Type 0)
      → ((over : ℕ) (g : GiverView T K) → Parts follows weigh n k s.homes over g t → P 1 (words_of over g t) (view_of (giver g) ∷ view_of (taker t) ∷ [])) → P id s.words s.views
  taker_at s h n id wide t at P body = ⊎_elim
      (λ (e : s.views ≡ view_of (both h.g h.t) ∷ []). differ (both h.g h.t) (taker t) (λ e. omega arith) (one_seat _ _ id (ap (λ (vs : Views). get_elem? vs id) (sym e) ∙ at)).1)
      (⊎_elim
      (λ (e : s.views ≡ view_of (giver h.g) ∷ view_of (taker h.t) ∷ []). ⊎_elim
      (λ (is : (id ≡ 0) × (view_of (giver h.g) ≡ view_of (taker t))). differ (giver h.g) (taker t) (λ e. omega arith) is.1)
      (λ (is : (id ≡ 1) × (view_of (taker h.t) ≡ view_of (taker t))). let same : h.t ≡ t = same_taker h.t t is.1 in
      let words : s.words ≡ words_of h.over h.g t = h.words_are ∙ ap (λ (z : TakerView T K). words_of h.over h.g z) same in
      let views : s.views ≡ view_of (giver h.g) ∷ view_of (taker t) ∷ [] = e ∙ ap (λ (z : TakerView T K). view_of (giver h.g) ∷ view_of (taker z) ∷ []) same in
      subst (λ (z : ℕ × List ℕ × Views). P z.0 z.1 z.2) (λ i. (sym is.0 i, sym words i, sym views i)) (body h.over h.g (subst (λ (z : TakerView T K). Parts follows weigh n k s.homes h.over h.g z) same (sized s h n wide))))
      (two_seats _ _ _ id (ap (λ (vs : Views). get_elem? vs id) (sym e) ∙ at)))
      (λ (e : s.views ≡ view_of (settled h.g h.t) ∷ view_of spent ∷ []). ⊎_elim (λ (is : (id ≡ 0) × (view_of (settled h.g h.t) ≡ view_of (taker t))). differ (settled h.g h.t) (taker t) (λ e. omega arith) is.1)
      (λ (is : (id ≡ 1) × (view_of spent ≡ view_of (taker t))). differ spent (taker t) (λ e. omega arith) is.1) (two_seats _ _ _ id (ap (λ (vs : Views). get_elem? vs id) (sym e) ∙ at))))
      h.seats

  -- two seats stand with what is kept of them
  stand : (n over : ℕ) (ws : List ℕ) (homes : Homes) (g : GiverView T K) (t : TakerView T K) → ws ≡ words_of over g t → Parts follows weigh n k homes over g t
      → Stands follows weigh k record { words = ws; homes = homes; views = view_of (giver g) ∷ view_of (taker t) ∷ [] }
  stand n over ws homes g t is parts = record { n = n; over = over; g = g; t = t; words_are = is; seats = inr (inl refl); parts = parts }

  abbrev Goes : Homes → ℕ → (ℕ → ℕ) → Sat → (ℕ → Sat → Type 0) → ℕ → List ℕ → Views → Type 0
  Goes homes word f me told id words views = (w : View T K) × (a : Act (Option T)) × Valid homes me.1 a
      × Stands follows weigh k (stepped record { words = words; homes = homes; views = views } word (f (get_or words word 0)) id me.1 w a) × told (get_or words word 0) (w, carried_after me.1 a)

  -- a load of the head that finds no room for z bytes tells where the giver goes from there
  abbrev pub Full : (ℕ → GiverView T K → GiverView T K) → ℕ → ℕ → K → List T → ℕ → List (Refusal T) → ℕ → Option ℕ → Past T → Type 0
  Full f z n c given seen rs asked told past = (b : ℕ) → is_full weigh.size (bounds weigh n k) given b z ≡ true → seen ≤ b → (homes : Homes) (over : ℕ) (t : TakerView T K) → length t.flow.got ≡ b → Parts follows weigh n k homes over (ready c given seen rs asked told past) t
      → Parts follows weigh n k homes over (f b (ready c given seen rs asked told past)) t × (words_of over (ready c given seen rs asked told past) t ≡ words_of over (f b (ready c given seen rs asked told past)) t)

  -- the same messages, with another count seen
  seen_more : (n : ℕ) (homes : Homes) (c : K) (given : List T) (seen b : ℕ) (t : Taking T K) → length t.got ≡ b → Kept follows weigh n k homes (idle c given seen) t → Kept follows weigh n k homes (idle c given b) t
  seen_more n homes c given seen b t is kept = record {
    some_slot = kept.some_slot;
    size = kept.size;
    small = kept.small;
    abouts = kept.abouts;
    waiting = kept.waiting;
    prefix = kept.prefix;
    within = kept.within;
    head_seen = omega arith;
    tail_seen = kept.tail_seen;
    full = kept.full;
    in_hand = kept.in_hand;
    empty = kept.empty;
    near = let long : length given ≡ length t.got + length kept.waiting = ap length kept.prefix ∙ length-append t.got kept.waiting in let fits : length kept.waiting ≤ n = kept.within in omega arith;
    room = λ z e. absurd (cc);
    in_order = kept.in_order;
  }

  pub full_waits : (z n : ℕ) (c : K) (given : List T) (seen : ℕ) (rs : List (Refusal T)) (asked : ℕ) (told : Option ℕ) (past : Past T) → Full waiting z n c given seen rs asked told past
  full_waits z n c given seen rs asked told past b full more homes over t got h = (
    record {
      kept = seen_more n homes c given seen b t.flow got h.kept;
      refused = sees_more weigh.size (bounds weigh n k) over given seen b rs false t.numbers more h.refused;
      ending = record { quiet = λ e. absurd (cc); saw = h.ending.saw; whole = h.ending.whole; told_is = h.ending.told_is };
      tale = h.tale;
    },
    refl,
  )

  pub full_refuses : (x : T) (n : ℕ) (c : K) (given : List T) (seen : ℕ) (rs : List (Refusal T)) (asked : ℕ) (told : Option ℕ) (past : Past T) → length rs < 2 ^ 61 → Full (refusing weigh.size (Some x)) (weigh.size x) n c given seen rs asked told past
  full_refuses x n c given seen rs asked told past few b full more homes over t got h = let g : GiverView T K = ready c given seen rs asked told past in let g' : GiverView T K = refusing weigh.size (Some x) b g in let m : Machine T = shown g t in
      let now : is_full weigh.size (bounds weigh n k) given (length t.flow.got) (weigh.size x) ≡ true = ap (λ (y : ℕ). is_full weigh.size (bounds weigh n k) given y (weigh.size x)) got ∙ full in
      let one : length g'.refusals ≡ length rs + 1 = length-append rs (record { item = Some x; accepted = length given; head = b; bytes = sum_by weigh.size (drop b given) } ∷ []) in (
        record {
          kept = seen_more n homes c given seen b t.flow got h.kept;
          refused = refuses weigh.size (bounds weigh n k) over given seen b x rs t.numbers full more few h.refused;
          ending = record { quiet = λ e. absurd (cc); saw = h.ending.saw; whole = h.ending.whole; told_is = h.ending.told_is };
          tale = giver_tells weigh.size (bounds weigh n k) m (shown g' t) past t.past t.looking (machine.offer x) (machine.refused (length rs + 1)) refl
              (ap (offered m x) now ∙ ap (λ (z : ℕ). let r : Machine T = record m { over = z } in let p : Machine T × Reply T = (r, machine.refused (length rs + 1)) in p) (sym one)) (λ e. absurd (cc)) h.tale;
        },
        refl,
      )

  pub head_loads : (f : ℕ → GiverView T K → GiverView T K) (z n id : ℕ) (c : K) (given : List T) (seen : ℕ) (rs : List (Refusal T)) (asked : ℕ) (told : Option ℕ) (past : Past T) → Full f z n c given seen rs asked told past
      → Allows (Stands follows weigh k) n id (view_of (giver (ready c given seen rs asked told past)), []) 0 (λ x. x) (head_loaded weigh f z (step n 0 0 0 none) (view_of (giver (ready c given seen rs asked told past)), []))
  head_loads f z n id c given seen rs asked told past where_full s h wide at _ = let g : GiverView T K = ready c given seen rs asked told past in let me : Sat = (view_of (giver g), []) in let tells = head_loaded weigh f z (step n 0 0 0 none) me in let a : ℕ = length given in
      giver_at s h n id wide g at (Goes s.homes 0 (λ x. x) me tells) (λ over t parts. let kept = parts.kept in let b : ℕ = length t.flow.got in let long : a ≡ b + length kept.waiting = ap length kept.prefix ∙ length-append t.flow.got kept.waiting in
      let fits : length kept.waiting ≤ n = kept.within in let sees : seen ≤ b = kept.head_seen in
      let here : is_full weigh.size (bounds weigh n k) given b z ≡ is_full weigh.size (bounds weigh n c) given b z = ap (λ (y : K). is_full weigh.size (bounds weigh n y) given b z) (sym kept.abouts.0) in ⊎_elim
      (λ (full : is_full weigh.size (bounds weigh n c) given b z ≡ true). let went = where_full b (here ∙ full) sees s.homes over t refl parts in (
        view_of (giver (f b g)),
        keeps,
        tt,
        stand n over (words_of over g t) s.homes (f b g) t went.1 went.0,
        (sees, omega arith, omega arith, (λ free. let e : true ≡ false = sym full ∙ free in absurd (cc)), λ _. refl),
      ))
      (λ (free : is_full weigh.size (bounds weigh n c) given b z ≡ false). let did = takes_place follows weigh n k c s.homes given seen t.flow z kept (here ∙ free) in let w : GiverView T K = with_slot z b g in (
        view_of (giver w),
        takes (a % n) None,
        did.0,
        stand n over (words_of over g t) _ w t refl record {
          kept = did.1;
          refused = sees_more weigh.size (bounds weigh n k) over given seen b rs false t.numbers sees parts.refused;
          ending = record { quiet = λ e. absurd (cc); saw = parts.ending.saw; whole = parts.ending.whole; told_is = parts.ending.told_is };
          tale = parts.tale;
        },
        (sees, omega arith, omega arith, (λ _. refl), λ full. let e : true ≡ false = sym full ∙ free in absurd (cc)),
      ))
      (either (is_full weigh.size (bounds weigh n c) given b z)))

  pub tail_adds : (z n id : ℕ) (c : K) (given : List T) (seen : ℕ) (rs : List (Refusal T)) (asked : ℕ) (told : Option ℕ) (past : Past T) (x : T) → z ≡ weigh.size x → length given < 2 ^ 61 → follows c given x
      → Allows (Stands follows weigh k) n id (view_of (giver (loaded z c given seen rs asked told past)), (length given % n, Some x) ∷ []) 1 (λ y. (y + 1) % 2 ^ 64)
      (tail_added (step n 1 1 0 none) (view_of (giver (loaded z c given seen rs asked told past)), (length given % n, Some x) ∷ []))
  tail_adds z n id c given seen rs asked told past x weight small next s h wide at _ = let g : GiverView T K = loaded z c given seen rs asked told past in let me : Sat = (view_of (giver g), (length given % n, Some x) ∷ []) in let tells = tail_added (step n 1 1 0 none) me in
      let w : GiverView T K = given_more (x ∷ []) g in let one : length (given ++ x ∷ []) ≡ length given + 1 = length-append given (x ∷ []) in giver_at s h n id wide g at (Goes s.homes 1 (λ y. (y + 1) % 2 ^ 64) me tells) (λ over t parts. let kept = parts.kept in
      let has_room : is_full weigh.size (bounds weigh n k) given (length t.flow.got) z ≡ false = still_room weigh.size (bounds weigh n k) given seen (length t.flow.got) z kept.head_seen kept.near (kept.room z refl) in (
        view_of (giver w),
        gives,
        tt,
        stand n over _ _ w t (ap (λ (z : ℕ). length t.flow.got ∷ z ∷ over ∷ 0 ∷ one_if t.failed ∷ []) (mod-eq_of_lt (omega arith) ∙ sym one)) record {
          kept = gives_item follows weigh n k c s.homes given seen t.flow z x kept small (subst (λ (z : K). follows z given x) kept.abouts.0 next);
          refused = sends_more weigh.size (bounds weigh n k) over given seen rs false t.numbers x parts.refused;
          ending = record { quiet = λ e. absurd (cc); saw = parts.ending.saw; whole = λ e. let not : false ≡ true = (parts.ending.whole e).0 in absurd (cc); told_is = parts.ending.told_is };
          tale = giver_tells weigh.size (bounds weigh n k) (shown g t) (shown w t) past t.past t.looking (machine.offer x) machine.accepted refl
              (ap (offered (shown g t) x) (ap (λ (y : ℕ). is_full weigh.size (bounds weigh n k) given (length t.flow.got) y) (sym weight) ∙ has_room)) (λ e. absurd (cc)) parts.tale;
        },
        refl,
      ))

  -- the refusal is counted
  pub over_adds : (n id : ℕ) (g : GiverView T K) (cs : List (ℕ × Option T)) → g.owes ≡ true
      → Allows (Stands follows weigh k) n id (view_of (giver g), cs) 2 (λ y. (y + 1) % 2 ^ 64) (giver_went (λ _. owing_none) (step n 2 1 0 none) (view_of (giver g), cs))
  over_adds n id g cs owes s h wide at _ = let me : Sat = (view_of (giver g), cs) in let tells = giver_went (λ _. owing_none) (step n 2 1 0 none) me in
      giver_at s h n id wide g at (Goes s.homes 2 (λ y. (y + 1) % 2 ^ 64) me tells) (λ over t parts. let refused = subst (λ (b : Bool). Refused weigh.size (bounds weigh n k) over g.flow.given g.flow.seen g.refusals b t.numbers) owes parts.refused in
      let all : over + 1 ≡ length g.refusals = refused.counted in let few : length g.refusals ≤ 2 ^ 61 = refused.few in (
        view_of (giver (owing_none g)),
        keeps,
        tt,
        stand n (over + 1) _ s.homes (owing_none g) t (ap (λ (z : ℕ). length t.flow.got ∷ length g.flow.given ∷ z ∷ one_if g.closed ∷ one_if t.failed ∷ []) (mod-eq_of_lt (omega arith))) record {
          kept = parts.kept;
          refused = counts weigh.size (bounds weigh n k) over g.flow.given g.flow.seen g.refusals t.numbers refused;
          ending = record { quiet = λ e. ((parts.ending.quiet e).0, refl); saw = parts.ending.saw; whole = parts.ending.whole; told_is = parts.ending.told_is };
          tale = parts.tale;
        },
        refl,
      ))

  pub closes : (n id : ℕ) (g : GiverView T K) (cs : List (ℕ × Option T)) → g.flow.holds ≡ None → g.owes ≡ false → g.closed ≡ false
      → Allows (Stands follows weigh k) n id (view_of (giver g), cs) 3 (λ _. 1) (λ _. giver_went (λ _. shut) (step n 3 1 0 none) (view_of (giver g), cs) 1)
  closes n id g cs holds owes fresh s h wide at _ = let me : Sat = (view_of (giver g), cs) in
      giver_at s h n id wide g at (Goes s.homes 3 (λ _. 1) me (λ _. giver_went (λ _. shut) (step n 3 1 0 none) me 1)) (λ over t parts. (
        view_of (giver (shut g)),
        keeps,
        tt,
        stand n over _ s.homes (shut g) t refl record {
          kept = parts.kept;
          refused = parts.refused;
          ending = record { quiet = λ _. (holds, owes); saw = λ _. refl; whole = λ e. (refl, (parts.ending.whole e).1); told_is = parts.ending.told_is };
          tale = giver_tells weigh.size (bounds weigh n k) (shown g t) (shown (shut g) t) g.past t.past t.looking machine.close machine.done refl (ap (λ (c : Bool). if c then (shown g t, machine.shut) else (shown (shut g) t, machine.done)) fresh) (λ _. (refl, refl)) parts.tale;
        },
        refl,
      ))

  small_one : (b : Bool) → one_if b < 2
  small_one true = omega arith
  small_one false = omega arith

  pub asks_after : (n id : ℕ) (g : GiverView T K) (cs : List (ℕ × Option T)) → Allows (Stands follows weigh k) n id (view_of (giver g), cs) 4 (λ x. x) (asked_after (step n 4 0 0 none) (view_of (giver g), cs))
  asks_after n id g cs s h wide at _ = let me : Sat = (view_of (giver g), cs) in giver_at s h n id wide g at (Goes s.homes 4 (λ x. x) me (asked_after (step n 4 0 0 none) me)) (λ over t parts. let w : GiverView T K = asking (one_if t.failed) g in (
    view_of (giver w),
    keeps,
    tt,
    stand n over _ s.homes w t refl record {
      kept = parts.kept;
      refused = parts.refused;
      ending = asks g.flow.given t.flow.got g.flow.holds g.owes g.closed g.asked g.told t.saw_closed t.ended t.failed parts.ending;
      tale = parts.tale;
    },
    (small_one t.failed, (λ v e. ap one_if (parts.ending.told_is v e).0), refl),
  ))

  pub tail_loads : (n id : ℕ) (c : K) (got : List T) (seen : ℕ) (ns : List (ℕ × ℕ)) (saw ended failed : Bool) (past : Past T)
      → Allows (Stands follows weigh k) n id (view_of (taker (empty_handed c got seen ns saw ended failed past)), []) 1 (λ x. x) (tail_loaded follows (step n 1 0 0 none) (view_of (taker (empty_handed c got seen ns saw ended failed past)), []))
  tail_loads n id c got seen ns saw ended failed past s h wide at _ = let t : TakerView T K = empty_handed c got seen ns saw ended failed past in let me : Sat = (view_of (taker t), []) in let tells = tail_loaded follows (step n 1 0 0 none) me in let b : ℕ = length got in
      taker_at s h n id wide t at (Goes s.homes 1 (λ x. x) me tells) (λ over g parts. let kept = parts.kept in let a : ℕ = length g.flow.given in let long : a ≡ b + length kept.waiting = ap length kept.prefix ∙ length-append got kept.waiting in
      dite (dec_le a b)
      (λ none_waits. let w : TakerView T K = finding_none a t in (
        view_of (taker w),
        keeps,
        tt,
        stand n over _ s.homes g w refl record {
          kept = record {
            some_slot = kept.some_slot;
            size = kept.size;
            small = kept.small;
            abouts = kept.abouts;
            waiting = kept.waiting;
            prefix = kept.prefix;
            within = kept.within;
            head_seen = kept.head_seen;
            tail_seen = omega arith;
            full = kept.full;
            in_hand = kept.in_hand;
            empty = kept.empty;
            near = kept.near;
            room = kept.room;
            in_order = kept.in_order;
          };
          refused = parts.refused;
          ending = record { quiet = parts.ending.quiet; saw = parts.ending.saw; whole = λ e. (parts.ending.saw e, sym (kept.prefix ∙ none_left got kept.waiting (omega arith))); told_is = parts.ending.told_is };
          tale = finds weigh.size (bounds weigh n k) saw (shown g t) g.past past (let same : b ≡ a = omega arith in same) parts.ending.saw parts.tale;
        },
        (omega arith, (λ l. absurd (omega arith)), λ _. refl),
      ))
      (λ not. let some_waits : b < a = lt_of_not-le not in let did = takes_item follows weigh n k c s.homes g.flow got seen kept some_waits in let x : T = did.0 in let w : TakerView T K = holding a x t in (
        view_of (taker w),
        takes (b % n) (Some x),
        did.2,
        stand n over _ _ g w refl record { kept = did.3; refused = parts.refused; tale = looks_at weigh.size (bounds weigh n k) (shown g t) g.past past (flip saw) false (λ e. absurd (cc)) parts.tale; ending = record { quiet = parts.ending.quiet; saw = parts.ending.saw; whole = parts.ending.whole; told_is = parts.ending.told_is } },
        (omega arith, (λ _. (x, subst (λ (z : K). follows z got x) (sym kept.abouts.1) did.1, refl)), λ l. absurd (omega arith)),
      )))

  pub head_adds : (n id : ℕ) (c : K) (got : List T) (seen : ℕ) (x : T) (ns : List (ℕ × ℕ)) (saw ended failed : Bool) (past : Past T)
      → Allows (Stands follows weigh k) n id (view_of (taker (with_item c got seen x ns saw ended failed past)), (length got % n, None) ∷ []) 0 (λ y. (y + 1) % 2 ^ 64)
      (head_added (step n 0 1 0 none) (view_of (taker (with_item c got seen x ns saw ended failed past)), (length got % n, None) ∷ []))
  head_adds n id c got seen x ns saw ended failed past s h wide at _ = let t : TakerView T K = with_item c got seen x ns saw ended failed past in let me : Sat = (view_of (taker t), (length got % n, None) ∷ []) in let tells = head_added (step n 0 1 0 none) me in
      let b : ℕ = length got in let w : TakerView T K = got_more t in taker_at s h n id wide t at (Goes s.homes 0 (λ y. (y + 1) % 2 ^ 64) me tells) (λ over g parts.
      let small : length g.flow.given ≤ 2 ^ 61 = parts.kept.small in let more : b < length g.flow.given = within_length g.flow.given b x (parts.kept.in_hand x refl) in (
        view_of (taker w),
        gives,
        tt,
        stand n over _ _ g w (ap (λ (z : ℕ). z ∷ length g.flow.given ∷ over ∷ one_if g.closed ∷ one_if failed ∷ []) (mod-eq_of_lt (omega arith) ∙ sym (length-append got (x ∷ [])))) record {
          kept = returns_slot follows weigh n k c s.homes g.flow got seen x parts.kept;
          refused = parts.refused;
          ending = record { quiet = parts.ending.quiet; saw = parts.ending.saw; whole = λ e. let same : length got ≡ length g.flow.given = ap length (parts.ending.whole e).1 in absurd (omega arith); told_is = parts.ending.told_is };
          tale = taker_tells weigh.size (bounds weigh n k) (shown g t) (shown g w) g.past past false machine.take (machine.got x) refl (takes_one weigh.size (bounds weigh n k) (shown g t) x (elem_of g.flow.given b x (parts.kept.in_hand x refl)) ∙ ap (λ (z : ℕ). let m : Machine T = shown g t in let r : Machine T = record m { taken = z } in let p : Machine T × Reply T = (r, machine.got x) in p) (sym (length-append got (x ∷ [])))) parts.tale;
        },
        refl,
      ))

  -- the taker loads the number of refusals
  pub over_loads : (n id : ℕ) (t : TakerView T K) (cs : List (ℕ × Option T)) → Allows (Stands follows weigh k) n id (view_of (taker t), cs) 2 (λ x. x) (taker_went numbering (step n 2 0 0 none) (view_of (taker t), cs))
  over_loads n id t cs s h wide at _ = let me : Sat = (view_of (taker t), cs) in taker_at s h n id wide t at (Goes s.homes 2 (λ x. x) me (taker_went numbering (step n 2 0 0 none) me)) (λ over g parts. let w : TakerView T K = numbering over t in (
    view_of (taker w),
    keeps,
    tt,
    stand n over _ s.homes g w refl record {
      kept = parts.kept;
      refused = numbers weigh.size (bounds weigh n k) over g.flow.given g.flow.seen (length t.flow.got) g.refusals g.owes t.numbers parts.kept.head_seen parts.refused;
      ending = record { quiet = parts.ending.quiet; saw = parts.ending.saw; whole = parts.ending.whole; told_is = parts.ending.told_is };
      tale = let all = parts.refused.counted in let one = small_one g.owes in taker_tells weigh.size (bounds weigh n k) (shown g t) (shown g w) g.past t.past t.looking machine.see (machine.overs over) refl (omega arith, omega arith, refl) parts.tale;
    },
    refl,
  ))

  -- it looks whether the giver closed
  pub close_loads : (n id : ℕ) (t : TakerView T K) (cs : List (ℕ × Option T)) → Allows (Stands follows weigh k) n id (view_of (taker t), cs) 3 (λ x. x) (taker_went closing (step n 3 0 0 none) (view_of (taker t), cs))
  close_loads n id t cs s h wide at _ = let me : Sat = (view_of (taker t), cs) in taker_at s h n id wide t at (Goes s.homes 3 (λ x. x) me (taker_went closing (step n 3 0 0 none) me)) (λ over g parts. let w : TakerView T K = closing (one_if g.closed) t in (
    view_of (taker w),
    keeps,
    tt,
    stand n over _ s.homes g w refl record {
      kept = parts.kept;
      refused = parts.refused;
      ending = looks g.flow.given t.flow.got g.flow.holds g.owes g.closed g.asked g.told t.saw_closed t.ended t.failed parts.ending;
      tale = looks_at weigh.size (bounds weigh n k) (shown g t) g.past t.past t.looking (flip (is_set (one_if g.closed))) (open_where g.closed) parts.tale;
    },
    refl,
  ))

  pub fails : (n id : ℕ) (t : TakerView T K) (cs : List (ℕ × Option T)) → Allows (Stands follows weigh k) n id (view_of (taker t), cs) 4 (λ _. 1) (λ _. taker_went (λ _. failing) (step n 4 1 0 none) (view_of (taker t), cs) 1)
  fails n id t cs s h wide at _ = let me : Sat = (view_of (taker t), cs) in taker_at s h n id wide t at (Goes s.homes 4 (λ _. 1) me (λ _. taker_went (λ _. failing) (step n 4 1 0 none) me 1)) (λ over g parts. (
    view_of (taker (failing t)),
    keeps,
    tt,
    stand n over _ s.homes g (failing t) refl record {
      kept = parts.kept;
      refused = parts.refused;
      ending = record { quiet = parts.ending.quiet; saw = parts.ending.saw; whole = parts.ending.whole; told_is = λ v e. let x = parts.ending.told_is v e in (refl, x.1, x.2) };
      tale = taker_tells weigh.size (bounds weigh n k) (shown g t) (shown g (failing t)) g.past t.past t.looking machine.fail machine.done refl refl parts.tale;
    },
    refl,
  ))

  pub starts : (n : ℕ) → 0 < n → Stands follows weigh k (opening (0 ∷ 0 ∷ 0 ∷ 0 ∷ 0 ∷ []) (replicate n None) (opened k))
  starts n pos = record {
    n = n;
    over = 0;
    g = new_giver k;
    t = new_taker k;
    words_are = refl;
    seats = inl refl;
    parts = record {
      kept = opens follows weigh n k pos;
      refused = record { counted = refl; few = omega arith; each = λ i r e. absurd (maybe.some-ne-none r (sym e)); rising = λ i j r s le e f. absurd (maybe.some-ne-none r (sym e)); known = λ i p e. absurd (maybe.some-ne-none p (sym e)) };
      ending = record { quiet = λ e. absurd (cc); saw = λ e. absurd (cc); whole = λ e. absurd (cc); told_is = λ v e. absurd (cc) };
      tale = opens_tale weigh.size (bounds weigh n k);
    };
  }

  pub splits : (id : ℕ) (g : GiverView T K) (t : TakerView T K) → Splits (Stands follows weigh k) id (view_of (both g t)) (view_of (giver g)) (view_of (taker t))
  splits id g t s h at = ⊎_elim
      (λ (e : s.views ≡ view_of (both h.g h.t) ∷ []). let one = one_seat _ _ id (ap (λ (vs : Views). get_elem? vs id) (sym e) ∙ at) in let same = same_both h.g g h.t t one.1 in
      let views : set s.views id (view_of (giver g)) ++ view_of (taker t) ∷ [] ≡ view_of (giver h.g) ∷ view_of (taker h.t) ∷ [] =
      (λ i. set (e i) (one.0 i) (view_of (giver g)) ++ view_of (taker t) ∷ []) ∙ (λ i. view_of (giver (sym same.0 i)) ∷ view_of (taker (sym same.1 i)) ∷ []) in
      record { n = h.n; over = h.over; g = h.g; t = h.t; words_are = h.words_are; seats = inr (inl views); parts = h.parts })
      (⊎_elim
      (λ (e : s.views ≡ view_of (giver h.g) ∷ view_of (taker h.t) ∷ []). ⊎_elim
      (λ (is : (id ≡ 0) × (view_of (giver h.g) ≡ view_of (both g t))). differ (giver h.g) (both g t) (λ e. omega arith) is.1)
      (λ (is : (id ≡ 1) × (view_of (taker h.t) ≡ view_of (both g t))). differ (taker h.t) (both g t) (λ e. omega arith) is.1)
      (two_seats _ _ _ id (ap (λ (vs : Views). get_elem? vs id) (sym e) ∙ at)))
      (λ (e : s.views ≡ view_of (settled h.g h.t) ∷ view_of spent ∷ []). ⊎_elim
      (λ (is : (id ≡ 0) × (view_of (settled h.g h.t) ≡ view_of (both g t))). differ (settled h.g h.t) (both g t) (λ e. omega arith) is.1)
      (λ (is : (id ≡ 1) × (view_of spent ≡ view_of (both g t))). differ spent (both g t) (λ e. omega arith) is.1) (two_seats _ _ _ id (ap (λ (vs : Views). get_elem? vs id) (sym e) ∙ at))))
      h.seats

  pub joins : (id other : ℕ) (g : GiverView T K) (t : TakerView T K) → Joins (Stands follows weigh k) id (view_of (giver g)) other (view_of (taker t)) (view_of (settled g t)) (view_of spent)
  joins id other g t s h at apart at' = giver_at s h (length s.homes) id refl g at
      (λ i ws vs. ¬ (other ≡ i) → get_elem? (set vs i (view_of (settled g t))) other ≡ some (view_of (taker t)) → Stands follows weigh k record { words = ws; homes = s.homes; views = set (set vs i (view_of (settled g t))) other (view_of spent) })
      (λ over t' parts apart there. ⊎_elim
      (λ (is : (other ≡ 0) × (view_of (settled g t) ≡ view_of (taker t))). absurd (apart is.0))
      (λ (is : (other ≡ 1) × (view_of (taker t') ≡ view_of (taker t))). let same : t' ≡ t = same_taker t' t is.1 in record {
        n = length s.homes;
        over = over;
        g = g;
        t = t;
        words_are = ap (words_of over g) same;
        seats = inr (inr (ap (λ (z : ℕ). set (view_of (settled g t) ∷ view_of (taker t') ∷ []) z (view_of spent)) is.0));
        parts = subst (Parts follows weigh (length s.homes) k s.homes over g) same parts;
      })
      (two_seats _ _ _ other there)) apart at'

  agree : (n over : ℕ) (homes : Homes) (g : GiverView T K) (t : TakerView T K) → Parts follows weigh n k homes over g t → Agree weigh n g t
  agree n over homes g t parts = let all = parts.refused.counted in (
    (parts.kept.waiting, sym parts.kept.prefix),
    parts.ending.whole,
    (λ i p e. let x = parts.refused.known i p e in let l = x.0 in (omega arith, x.1)),
    parts.ending.told_is,
    (parts.tale.history, subst (λ (y : K). Runs weigh.size (bounds weigh n y) parts.tale.history (shown g t)) (sym parts.kept.abouts.0) parts.tale.runs, parts.tale.mine_is, parts.tale.theirs_is),
  )

  pub compares : (n id : ℕ) (g : GiverView T K) (t : TakerView T K) (cs : List (ℕ × Option T)) → Allows (Stands follows weigh k) n id (view_of (settled g t), cs) 0 (λ x. x) (compared weigh (step n 0 0 0 none) (view_of (settled g t), cs))
  compares n id g t cs s h wide at _ = ⊎_elim
      (λ (e : s.views ≡ view_of (both h.g h.t) ∷ []). differ (both h.g h.t) (settled g t) (λ e. omega arith) (one_seat _ _ id (ap (λ (vs : Views). get_elem? vs id) (sym e) ∙ at)).1)
      (⊎_elim
      (λ (e : s.views ≡ view_of (giver h.g) ∷ view_of (taker h.t) ∷ []). ⊎_elim
      (λ (is : (id ≡ 0) × (view_of (giver h.g) ≡ view_of (settled g t))). differ (giver h.g) (settled g t) (λ e. omega arith) is.1)
      (λ (is : (id ≡ 1) × (view_of (taker h.t) ≡ view_of (settled g t))). differ (taker h.t) (settled g t) (λ e. omega arith) is.1)
      (two_seats _ _ _ id (ap (λ (vs : Views). get_elem? vs id) (sym e) ∙ at)))
      (λ (e : s.views ≡ view_of (settled h.g h.t) ∷ view_of spent ∷ []). ⊎_elim
      (λ (is : (id ≡ 0) × (view_of (settled h.g h.t) ≡ view_of (settled g t))). let same = same_settled h.g g h.t t is.1 in (
        view_of (settled g t),
        keeps,
        tt,
        subst (λ (z : List ℕ × Views). Stands follows weigh k record { words = z.0; homes = s.homes; views = z.1 }) (λ i. (sym (set-get_or s.words 0 0) i, sym (set_again s.views id _ at) i)) h,
        (refl, subst (λ (z : GiverView T K × TakerView T K). Agree weigh n z.0 z.1) (λ i. (same.0 i, same.1 i)) (agree n h.over s.homes h.g h.t (sized s h n wide))),
      ))
      (λ (is : (id ≡ 1) × (view_of spent ≡ view_of (settled g t))). differ spent (settled g t) (λ e. omega arith) is.1) (two_seats _ _ _ id (ap (λ (vs : Views). get_elem? vs id) (sym e) ∙ at))))
      h.seats

  pub splits_at : (id : ℕ) (v : View T K) (c : K) → v ≡ opened c → Splits (Stands follows weigh k) id v (view_of (giver_part v.sight)) (view_of (taker_part v.sight))
  splits_at id v c is = subst (λ (u : View T K). Splits (Stands follows weigh k) id u (view_of (giver_part u.sight)) (view_of (taker_part u.sight))) (sym is) (splits id (new_giver c) (new_taker c))
