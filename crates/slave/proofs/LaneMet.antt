-- An end behind a lane meets its accounts once the refusals are entered.
use Rattle.std.proofs.Common.{◌≡◌, ℕ, ◌+◌, ◌-◌, ◌≤◌, ◌<◌, ◌⊎◌, inl, inr, Bool, true, false, List, [], ◌∷◌, length, slice_get, Some, refl, ap, sym, ◌∙◌, subst, arith}
use Rattle.std.proofs.lemmas.Bool.{cases_Bool, both_ways}
use Rattle.fifo_core.specs.declared.types.FifoOptions.{FifoOptions}
use Rattle.fifo_core.specs.declared.types.EndState.{EndState}
use Rattle.fifo_core.specs.declared.types.EndState.TheVariants as ends
use Rattle.fifo_core.specs.declared.types.Fate.{Fate}
use Rattle.fifo_core.specs.declared.types.Fate.TheVariants as fate
use Rattle.fifo_core.specs.History.{fates_of}
use Rattle.lane.specs.Sides.{ReceiptSide}
use Rattle.rmx_edge.specs.Shelf.{ShelfState}
use Rattle.rmx_media.specs.declared.packet.Packet.{Packet}
use Rattle.slave.specs.declared.records.FaultNote.{FaultNote}
use Rattle.slave.specs.declared.records.LaneNote.{LaneNote}
use Rattle.slave.specs.declared.records.Run.{Run}
use Rattle.slave.specs.Origin.{Origin}
use Rattle.slave.specs.Given.{Given, Gives, index_of, end_from}
use Rattle.slave.specs.Runs.{expand, AreInOrder}
use Rattle.slave.specs.Table.{StandsAt}
use Rattle.slave.specs.End.{EndView, EndedAll}
use Rattle.slave.specs.Accounts.{Has, IsHit, IsLastBefore, NotesRise, MayWait, MayBeLost, MayStand}
use Rattle.slave.specs.AccountsAll.{GivesAt, MayFlush, AccountsAll}
use Rattle.slave.specs.Entered.{entered}
use Rattle.slave.specs.LaneAccounts.{Names, is_named, unrefused, Stretch, SweptStretch, Dealt, AddsLane, AccountsLane, UnrefusedFollow}
use Rattle.slave.proofs.AccountedAll.{all_accounts_met, climbs, in_order, back, rises}
use Rattle.slave.proofs.Accounted.{same_packet}
use Rattle.slave.proofs.Covers.{Above, above_once, order_above, order_within, rises_above, index_has, has_index}
use Rattle.slave.proofs.Entering.{Rising, are_rising, names_named, named_names, entered_has, has_entered, named_entered, receipts_within, entered_order, entered_differ, entered_unrefused, entered_empty}
use Rattle.slave.proofs.Lists.{order_later}
use Rattle.slave.proofs.Stretches.{unrefused_fates, given_cases, stretch_of}

-- How the new runs come from the old ones: the fates are those of before and of refusals. Each refusal is entered, or lies in an
-- old run, or memory was wanted and no fate is new.
pub record Enters (L : List Packet) (rs : List ReceiptSide) (old new : List Run) (state : EndState) : Type 0 where
  pub order : AreInOrder (length L) new
  pub has : (i : ℕ) (f : Fate) → Has (expand new) i f → Has (expand old) i f ⊎ ((v : ℕ) × (f ≡ fate.Refused v) × Names rs v i)
  pub keeps : (i : ℕ) (f : Fate) → Has (expand old) i f → Has (expand new) i f
  pub enters : (i v : ℕ) → Names rs v i → Has (expand new) i (fate.Refused v) ⊎ (((f : Fate) × Has (expand old) i f) ⊎ ((state ≡ ends.NoMemory) × ((f : Fate) → Has (expand new) i f → Has (expand old) i f)))

end_within : (n m : ℕ) (T : List Given) → n ≤ m → ((i : ℕ) → GivesAt T i → i < m) → end_from n T ≤ m
end_within n m [] le all = le
end_within n m (t ∷ T) le all = (let lt = all (index_of t) (inl refl) in end_within (index_of t + 1) m T (omega (arith, lt)) (λ i g. all i (inr g)))

-- where fates were the same before, but for refusals, their causes are
module _ (g : Origin) (o : FifoOptions) (rs : List ReceiptSide) (old new : List (ℕ × Fate)) (notes : List FaultNote)
    (has : (i : ℕ) (f : Fate) → Has new i f → Has old i f ⊎ ((v : ℕ) × (f ≡ fate.Refused v) × Names rs v i))
    (keeps : (i : ℕ) (f : Fate) → Has old i f → Has new i f) where
  written_before : (i s : ℕ) → Has new i (fate.Written s) → Has old i (fate.Written s)
  written_before i s x = elim (has i (fate.Written s) x) [ inl a ↦ a | inr b ↦ absurd (let e = b.1 in cc e) ]

  lost_before : (i f : ℕ) → Has new i (fate.Lost f) → Has old i (fate.Lost f)
  lost_before i f x = elim (has i (fate.Lost f) x) [ inl a ↦ a | inr b ↦ absurd (let e = b.1 in cc e) ]

  wait_after : (i : ℕ) (p : Packet) → MayWait g o old notes i p → MayWait g o new notes i p
  wait_after i p k = (k.0, k.1, k.2, elim k.3 [ inl a ↦ inl (λ s x. a s (written_before (i - 1) s x)) | inr b ↦ inr b ])

  hit_after : (f i : ℕ) (n : FaultNote) → IsHit old f n i → IsHit new f n i
  hit_after f i n k = elim k [ inl a ↦ inl a | inr b ↦ inr (b.0, λ j x. b.1 j (lost_before j f x)) ]

  last_after : (f i : ℕ) → IsLastBefore old notes f i → IsLastBefore new notes f i
  last_after f i k g j m lt at hits = k g j m lt at (elim hits [ inl a ↦ inl a | inr b ↦ inr (lost_before j g b) ])

  lost_after : (At Standing : ℕ → Packet → Type 0) → ((i : ℕ) (p : Packet) → At i p → Standing i p) → (i f : ℕ) (p : Packet) → MayBeLost o At old notes i f p → MayBeLost o Standing new notes i f p
  lost_after At Standing stands i f p k = (
    k.0,
    k.1,
    elim k.2 [
      | inl a ↦ inl (hit_after f i k.0 a)
      | inr w ↦ inr (record { recovers = w.recovers; waits = w.waits; index = w.index; packet = w.packet; at = stands w.index w.packet w.at; hit = hit_after f w.index k.0 w.hit; earlier = w.earlier; last = last_after f i w.last; early = w.early })
    ],
  )

  stand_after : (i s : ℕ) (p : Packet) → MayStand g old i s p → MayStand g new i s p
  stand_after i s p k = elim k [ inl a ↦ inl a | inr b ↦ inr (elim b [ inl z ↦ inl z | inr w ↦ inr (keeps (i - 1) (fate.Written s) w) ]) ]

module _ {g : Origin} {o : FifoOptions} {L : List Packet} {T : List Given} {numbers : List (ℕ × ℕ)} {n : LaneNote} {old : EndView} (k : EndedAll g o T old) (d : Dealt L T numbers n) where
  acc : AccountsAll g o T old
  acc = all_accounts_met g o T old k

  -- what is refused was not given
  named_apart : (i : ℕ) → is_named n.receipts.items i ≡ true → GivesAt T i → ⊥
  named_apart i e x = both_ways (is_named n.receipts.items i) (d.apart i x).1 e

  -- the fates of the packets that were not refused are those of the history
  unrefused_are : unrefused n.receipts.items (expand old.fates) ≡ fates_of k.history
  unrefused_are =
      ap (unrefused n.receipts.items) k.fates
      ∙ unrefused_fates n.receipts.items k.history (end_from 0 T) (subst (Above 0) k.fates (in_order k)) (rises k)
      (λ j lt. elim (cases_Bool (is_named n.receipts.items j)) [
        | inl e ↦ inl e
        | inr e ↦ inr (index_has (fates_of k.history) T j k.indexed (d.each j (let m = end_within 0 (length L) T (omega arith) (λ i x. (d.apart i x).0) in omega (arith, lt, m)) e))
      ])
      (λ i f x. (d.apart i (has_index (fates_of k.history) T i f k.indexed x)).1)

  in_fates : (i : ℕ) (f : Fate) → Has (fates_of k.history) i f → Has (expand old.fates) i f
  in_fates i f x = back k i f x

  stays_so : (i j u : ℕ) (f h : Fate) → i < j → Has (expand old.fates) i f → Has (expand old.fates) j h → MayFlush u f → (f ≡ fate.Flushed u → ⊥) → h ≡ fate.Flushed u → ⊥
  stays_so i j u f h lt x y (inl e) other same = other e
  stays_so i j u f h lt x y (inr (inl e)) other same =
      elim ((acc.after_failure i e.0 (subst (Has (expand old.fates) i) e.1 x)).1 j h lt y) [
        | inl a ↦ (let z : fate.AfterFailure e.0 ≡ fate.Flushed u = sym a ∙ same in cc z)
        | inr b ↦ (let z : fate.NoMemory ≡ fate.Flushed u = sym b ∙ same in cc z)
      ]
  stays_so i j u f h lt x y (inr (inr e)) other same =
      let b = (acc.no_memory i (subst (Has (expand old.fates) i) e x)).1 j h lt y in
      let z : fate.NoMemory ≡ fate.Flushed u = sym b ∙ same in
      cc z

  flush_stretch : (v : ℕ) → SweptStretch n.cap numbers v T → Stretch n.cap v n.receipts.items (fates_of k.history)
  flush_stretch v s = stretch_of n.cap v numbers n.receipts.items T (fates_of k.history) (climbs k) (rises_above k.history (end_from 0 T) (rises k)) k.indexed
      (λ i u x. acc.flushed i u (in_fates i (fate.Flushed u) x))
      (λ i u f x y. acc.swept i u f x (in_fates i f y))
      (λ i j u f h lt x y may other same. stays_so i j u f h lt (in_fates i f x) (in_fates j h y) may other same)
      (λ j x at u r e q. (d.seen j x at).1 u r e q)
      s

  -- a packet with such a fate was written or tried, and stands there
  sent_at : (i : ℕ) (f : Fate) (p : Packet) → Has (expand old.fates) i f → (f ≡ fate.NoMemory → ⊥) → ((v : ℕ) → MayFlush v f → ⊥) → slice_get L i ≡ Some p → Gives T i p
  sent_at i f p x other come at = elim (acc.within i f x) [
    | inr e ↦ absurd (other e.0)
    | inl given ↦ elim (given_cases T i given) [
      | inl q ↦ (let same : q.0 ≡ p = same_packet (sym (d.packets i q.0 q.1) ∙ at) in subst (Gives T i) same q.1)
      | inr s ↦ absurd (come s.0 (acc.swept i s.0 f s.1 x))
    ]
  ]

  pub lane_met : (e : EndView) (short : Bool) → AddsLane n old e short → Enters L n.receipts.items old.fates e.fates e.state → (old.state ≡ ends.NoMemory → e.state ≡ ends.NoMemory) → AccountsLane g o L n e
  lane_met e short a r wants =
      let names = n.receipts.items in
      let fs = expand old.fates in
      let ns = expand e.fates in
      let same_notes : e.faults ≡ old.faults = a.faults in
      record {
        lane = a.lane;
        order = r.order;
        covers = λ i lt. elim (cases_Bool (is_named names i)) [
          | inr c ↦ (let x = acc.covers i (d.each i lt c) in inl (x.0, r.keeps i x.0 x.1))
          | inl c ↦ (let x = named_names names i c in
              elim (r.enters i x.0 x.1) [
                | inl y ↦ inl (fate.Refused x.0, y)
                | inr y ↦ elim y [ inl z ↦ inl (z.0, r.keeps i z.0 z.1) | inr z ↦ inr (z.0, c) ]
              ])
        ];
        within = λ i f x. order_within 0 (length L) e.fates i f r.order.0 x;
        once = λ i f h x y. above_once 0 ns i f h (order_above 0 (length L) e.fates r.order.0) x y;
        receipts = d.receipts;
        refused = λ i v x. elim (r.has i (fate.Refused v) x) [
          | inl y ↦ absurd (acc.refused i v y)
          | inr y ↦ (let q : v ≡ y.0 = (let z = y.1 in cc) in subst (λ (u : ℕ). Names names u i) (sym q) y.2)
        ];
        entered = λ i v x. elim (r.enters i v x) [
          | inl y ↦ inl y
          | inr y ↦ inr (elim y [
            | inl z ↦ elim (acc.within i z.0 z.1) [
              | inl q ↦ absurd (named_apart i (names_named names v i x) q)
              | inr q ↦ (wants q.1, λ f h. above_once 0 ns i f fate.NoMemory (order_above 0 (length L) e.fates r.order.0) h (r.keeps i fate.NoMemory (subst (Has fs i) q.0 z.1)))
            ]
            | inr z ↦ (z.0, λ f h. elim (acc.within i f (z.1 f h)) [ inl q ↦ absurd (named_apart i (names_named names v i x) q) | inr q ↦ q.0 ])
          ])
        ];
        flushed = λ i v x. (let y : Has fs i (fate.Flushed v) = elim (r.has i (fate.Flushed v) x) [ inl q ↦ q | inr q ↦ absurd (let z = q.1 in cc z) ] in
            let s = d.stretches i v (acc.flushed i v y) in
            let t = (d.seen s.1.place (v, length s.1.front) s.1.seen).0 in
            (s.0, omega (arith, t, d.receipts.1), subst (Stretch n.cap v names) (sym (a.fates ∙ unrefused_are)) (flush_stretch v s.1)));
        key_wait = λ i p x at. (let y : Has fs i fate.KeyWait = elim (r.has i fate.KeyWait x) [ inl q ↦ q | inr q ↦ absurd (let z = q.1 in cc z) ] in
            subst (λ (notes : List FaultNote). MayWait g o ns notes i p) (sym same_notes)
            (wait_after g o names fs ns old.faults r.has r.keeps i p (acc.key_wait i p y (sent_at i fate.KeyWait p y (λ z. cc z) (λ v m. no_wait v m) at))));
        lost = λ i f p x at. (let y = lost_before g o names fs ns old.faults r.has r.keeps i f x in
            subst (λ (notes : List FaultNote). MayBeLost o (StandsAt L) ns notes i f p) (sym same_notes)
            (lost_after g o names fs ns old.faults r.has r.keeps (Gives T) (StandsAt L) d.packets i f p (acc.lost i f p y (sent_at i (fate.Lost f) p y (λ z. cc z) (λ v m. no_loss v f m) at))));
        after_failure = λ i f x. (let y : Has fs i (fate.AfterFailure f) = elim (r.has i (fate.AfterFailure f) x) [ inl q ↦ q | inr q ↦ absurd (let z = q.1 in cc z) ] in
            let q = acc.after_failure i f y in (
              subst (λ (notes : List FaultNote). f < length notes) (sym same_notes) q.0,
              λ j h lt z. elim (r.has j h z) [
                | inl b ↦ elim (q.1 j h lt b) [ inl c ↦ inl c | inr c ↦ inr (inr c) ]
                | inr b ↦ inr (inl (b.0, b.1))
              ],
            ));
        no_memory = λ i x. (let y : Has fs i fate.NoMemory = elim (r.has i fate.NoMemory x) [ inl q ↦ q | inr q ↦ absurd (let z = q.1 in cc z) ] in
            let q = acc.no_memory i y in
            (wants q.0, λ j h lt z. elim (r.has j h z) [ inl b ↦ inl (q.1 j h lt b) | inr b ↦ inr (b.0, b.1) ]));
        notes = rw same_notes (subst (λ (s : ShelfState). NotesRise g.shelf.faults old.faults s.faults) (sym a.shelf) acc.notes);
        restart = λ i s p asked x at. (let y = written_before g o names fs ns old.faults r.has r.keeps i s x in
            stand_after g o names fs ns old.faults r.has r.keeps i s p (acc.restart i s p asked y (sent_at i (fate.Written s) p y (λ z. cc z) (λ v m. no_write v s m) at)));
      }
    where
      no_wait : (v : ℕ) → MayFlush v fate.KeyWait → ⊥
      no_wait v (inl e) = cc e
      no_wait v (inr (inl e)) = (let z = e.1 in cc z)
      no_wait v (inr (inr e)) = cc e

      no_loss : (v f : ℕ) → MayFlush v (fate.Lost f) → ⊥
      no_loss v f (inl e) = cc e
      no_loss v f (inr (inl e)) = (let z = e.1 in cc z)
      no_loss v f (inr (inr e)) = cc e

      no_write : (v s : ℕ) → MayFlush v (fate.Written s) → ⊥
      no_write v s (inl e) = cc e
      no_write v s (inr (inl e)) = (let z = e.1 in cc z)
      no_write v s (inr (inr e)) = cc e

  ends_early : end_from 0 T ≤ length L
  ends_early = end_within 0 (length L) T (omega arith) (λ i x. (d.apart i x).0)

  -- the refusals are among the runs
  pub entered_so : (state : EndState) → Enters L n.receipts.items old.fates (entered old.fates n.receipts.items) state
  entered_so state =
      let names = n.receipts.items in
      let order = order_later (end_from 0 T) (length L) old.fates k.order ends_early in
      let rising = rising_names in
      record {
        order = (entered_order 0 (length L) 1 old.fates names order.0 rising (λ u j x. named_within u j x), entered_differ 0 (length L) 1 0 old.fates names order.0 order.1 acc.refused rising);
        has = entered_has old.fates names;
        keeps = has_entered old.fates names;
        enters = λ i v x. elim (named_entered 0 (length L) 1 0 old.fates names v i order.0 rising x) [ inl y ↦ inl y | inr y ↦ inr (inl y) ];
      }
    where
      rising_names : Rising 1 0 n.receipts.items
      rising_names = are_rising n.cap n.counts.limit L _ 1 0 0 n.receipts.items d.receipts.0

      named_within : (u j : ℕ) → Names n.receipts.items u j → j < length L
      named_within u j x = receipts_within n.cap n.counts.limit L _ 1 0 0 n.receipts.items u j d.receipts.0 x

  -- no memory was there for them
  pub short_so : (state : EndState) → state ≡ ends.NoMemory → Enters L n.receipts.items old.fates old.fates state
  short_so state wanted = record {
    order = order_later (end_from 0 T) (length L) old.fates k.order ends_early;
    has = λ i f x. inl x;
    keeps = λ i f x. x;
    enters = λ i v x. inr (inr (wanted, λ f y. y));
  }

  pub entered_met : (e : EndView) → AddsLane n old e false → e.fates ≡ entered old.fates n.receipts.items → AccountsLane g o L n e
  entered_met e a is =
      lane_met e false a (subst (λ (rs : List Run). Enters L n.receipts.items old.fates rs e.state) (sym is) (entered_so e.state)) (λ w. a.state ∙ w)

  pub short_met : (e : EndView) → AddsLane n old e true → e.fates ≡ old.fates → AccountsLane g o L n e
  short_met e a is =
      lane_met e true a (subst (λ (rs : List Run). Enters L n.receipts.items old.fates rs e.state) (sym is) (short_so e.state a.state)) (λ w. a.state)

pub unrefused_follow : UnrefusedFollow
unrefused_follow g o L T numbers n old e short k d a = a.fates ∙ unrefused_are k d

-- the refusals are entered, and nothing else changes
pub adds_entered : (n : LaneNote) (old new : EndView) → new.lane ≡ Some n → new.shelf ≡ old.shelf → new.sessions ≡ old.sessions → new.faults ≡ old.faults → new.inline ≡ old.inline
    → new.bytes ≡ old.bytes → new.state ≡ old.state → new.fates ≡ entered old.fates n.receipts.items → AddsLane n old new false
adds_entered n old new lane shelf sessions faults inline bytes state is =
    let names = n.receipts.items in
    record {
      lane = lane;
      shelf = shelf;
      sessions = sessions;
      faults = faults;
      inline = inline;
      bytes = bytes;
      state = state;
      fates = ap (λ (rs : List Run). unrefused names (expand rs)) is ∙ entered_unrefused names old.fates names (names_named names);
      all = λ _. is;
      none = λ wanted. absurd (cc wanted);
      same = λ none. (is ∙ sym (entered_empty old.fates names none), refl);
    }

-- memory was wanted for them, and the fates stay
pub adds_none : (n : LaneNote) (old new : EndView) → new.lane ≡ Some n → new.shelf ≡ old.shelf → new.sessions ≡ old.sessions → new.faults ≡ old.faults → new.inline ≡ old.inline
    → new.bytes ≡ old.bytes → new.state ≡ ends.NoMemory → new.fates ≡ old.fates → (n.receipts.items ≡ [] → ⊥) → AddsLane n old new true
adds_none n old new lane shelf sessions faults inline bytes state is some = record {
  lane = lane;
  shelf = shelf;
  sessions = sessions;
  faults = faults;
  inline = inline;
  bytes = bytes;
  state = state;
  fates = ap (λ (rs : List Run). unrefused n.receipts.items (expand rs)) is;
  all = λ entire. absurd (cc entire);
  none = λ _. is;
  same = λ none. absurd (some none);
}
