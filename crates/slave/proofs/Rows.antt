-- Tables of sessions, by their last row.
use Rattle.std.proofs.Common.{◌≡◌, ℕ, inl, inr, List, [], ◌∷◌, ◌++◌, length, map, flat_map, filter_map, Option, Some, None, refl, ap, sym, ◌∙◌, arith, append_assoc, ◌+◌}
use Rattle.std.proofs.lemmas.List.{append-nil}
use Rattle.std.specs.List.{cons_option}
use Rattle.fifo_core.specs.declared.types.Fate.{Fate}
use Rattle.rmx_edge.specs.Shelf.{ShelfState}
use Rattle.rmx_media.specs.declared.packet.Packet.{Packet}
use Rattle.rmx_edge.specs.Shelf.{ShelfCall}
use Rattle.rmx_edge.proofs.HistoryRuns.{calls_over-append}
use Rattle.slave.specs.Origin.{Origin}
use Rattle.slave.specs.declared.records.FaultNote.{FaultNote}
use Rattle.slave.specs.Calls.{put_calls, puts}
use Rattle.slave.specs.Given.{Given, Sent, Swept, index_of, end_from, Gives, sent_from, IsGapless}
use Rattle.slave.specs.Table.{Outcome, Open, NotCalled, NotBegun, PutFailed, EndFailed, Closed, Row, LeftBy, NoteFits, RowHolds, AllRows, Chain, GoesOnFrom, row_fault, row_packets, if_given, written_among, indices, Numbered}

pub map_push : {A B : Type 0} (f : A → B) (xs : List A) (x : A) → map f (xs ++ x ∷ []) ≡ map f xs ++ f x ∷ []
map_push f [] x = refl
map_push f (y ∷ xs) x = ap (λ zs. f y ∷ zs) (map_push f xs x)

cons_option_append : (o : Option FaultNote) (xs ys : List FaultNote) → cons_option o (xs ++ ys) ≡ cons_option o xs ++ ys
cons_option_append None xs ys = refl
cons_option_append (Some x) xs ys = refl

pub faults_push_none : (rs : List Row) (r : Row) → r.fault ≡ None → filter_map row_fault (rs ++ r ∷ []) ≡ filter_map row_fault rs
faults_push_none [] r e = rw e refl
faults_push_none (q ∷ rs) r e = ap (λ ns. cons_option (row_fault q) ns) (faults_push_none rs r e)

pub faults_push_some : (rs : List Row) (r : Row) (n : FaultNote) → r.fault ≡ Some n → filter_map row_fault (rs ++ r ∷ []) ≡ filter_map row_fault rs ++ n ∷ []
faults_push_some [] r n e = rw e refl
faults_push_some (q ∷ rs) r n e =
    ap (λ ns. cons_option (row_fault q) ns) (faults_push_some rs r n e) ∙ cons_option_append (row_fault q) (filter_map row_fault rs) (n ∷ [])

pub packets_push : (rs : List Row) (r : Row) → flat_map row_packets (rs ++ r ∷ []) ≡ flat_map row_packets rs ++ row_packets r
packets_push [] r = append-nil (row_packets r)
packets_push (q ∷ rs) r = rw (packets_push rs r) (sym (append_assoc (row_packets q) (flat_map row_packets rs) (row_packets r)))

pub puts_push : (out : Origin) (first : ℕ) (ps : List Packet) (p : Packet) → puts out first (ps ++ p ∷ []) ≡ puts out first ps ++ put_calls out first ps p
puts_push out first ps p =
    calls_over-append (put_calls out first) [] ps (p ∷ [])
    ∙ ap (λ (cs : List ShelfCall). puts out first ps ++ cs) (append-nil (put_calls out first ps p))

pub chain_next : (first now : ShelfState) (rs : List Row) (r : Row) → Chain first rs now → r.before ≡ now → Chain first (rs ++ r ∷ []) r.after
chain_next first now [] r c e = (e ∙ sym c, refl)
chain_next first now (q ∷ rs) r c e = (c.0, chain_next q.after now rs r c.1 e)

pub chain_last : (first now : ShelfState) (rs : List Row) (r q : Row) → Chain first (rs ++ r ∷ []) now → q.before ≡ r.before → Chain first (rs ++ q ∷ []) q.after
chain_last first now [] r q c e = (e ∙ c.0, refl)
chain_last first now (s ∷ rs) r q c e = (c.0, chain_last s.after now rs r q c.1 e)

pub chain_end : (first now : ShelfState) (rs : List Row) (r : Row) → Chain first (rs ++ r ∷ []) now → r.after ≡ now
chain_end first now [] r c = c.1
chain_end first now (s ∷ rs) r c = chain_end s.after now rs r c.1

pub segments_next : (number next : ℕ) (rs : List Row) (r : Row) → GoesOnFrom number rs next → r.first ≡ next → GoesOnFrom number (rs ++ r ∷ []) r.next
segments_next number next [] r g e = (e ∙ sym g, refl)
segments_next number next (q ∷ rs) r g e = (g.0, segments_next q.next next rs r g.1 e)

pub segments_last : (number next : ℕ) (rs : List Row) (r q : Row) → GoesOnFrom number (rs ++ r ∷ []) next → q.first ≡ r.first → GoesOnFrom number (rs ++ q ∷ []) q.next
segments_last number next [] r q g e = (e ∙ g.0, refl)
segments_last number next (s ∷ rs) r q g e = (g.0, segments_last s.next next rs r q g.1 e)

pub segments_end : (number next : ℕ) (rs : List Row) (r : Row) → GoesOnFrom number (rs ++ r ∷ []) next → r.next ≡ next
segments_end number next [] r g = g.1
segments_end number next (s ∷ rs) r g = segments_end s.next next rs r g.1

pub rows_push : (out : Origin) (At : ℕ → Packet → Type 0) (rs : List Row) (r : Row) → AllRows out At rs → RowHolds out At r → AllRows out At (rs ++ r ∷ [])
rows_push out At [] r a h = (h, tt)
rows_push out At (q ∷ rs) r a h = (a.0, rows_push out At rs r a.1 h)

pub rows_front : (out : Origin) (At : ℕ → Packet → Type 0) (rs : List Row) (r : Row) → AllRows out At (rs ++ r ∷ []) → AllRows out At rs
rows_front out At [] r a = tt
rows_front out At (q ∷ rs) r a = (a.0, rows_front out At rs r a.1)

pub rows_last : (out : Origin) (At : ℕ → Packet → Type 0) (rs : List Row) (r : Row) → AllRows out At (rs ++ r ∷ []) → RowHolds out At r
rows_last out At [] r a = a.0
rows_last out At (q ∷ rs) r a = rows_last out At rs r a.1

left_other : (out : Origin) (At Bt : ℕ → Packet → Type 0) (r : Row) (o : Outcome) → ((i : ℕ) (p : Packet) → At i p → Bt i p) → LeftBy out At r o → LeftBy out Bt r o
left_other out At Bt r Open f l = l
left_other out At Bt r NotCalled f l = l
left_other out At Bt r NotBegun f l = l
left_other out At Bt r (PutFailed i q) f l = (l.0, l.1, f i q l.2, l.3, l.4)
left_other out At Bt r EndFailed f l = l
left_other out At Bt r Closed f l = l

-- sessions stay so where each packet has its index by another relation too
pub rows_other : (out : Origin) (At Bt : ℕ → Packet → Type 0) (rs : List Row) → ((i : ℕ) (p : Packet) → At i p → Bt i p) → AllRows out At rs → AllRows out Bt rs
rows_other out At Bt [] f a = tt
rows_other out At Bt (r ∷ rs) f a = ((left_other out At Bt r r.outcome f a.0.0, a.0.1, a.0.2, a.0.3), rows_other out At Bt rs f a.1)

pub gives_more : (T : List Given) (t : Given) (i : ℕ) (q : Packet) → Gives T i q → Gives (T ++ t ∷ []) i q
gives_more [] t i q e = absurd e
gives_more (Sent j p ∷ T) t i q (inl e) = inl e
gives_more (Sent j p ∷ T) t i q (inr e) = inr (gives_more T t i q e)
gives_more (Swept j n ∷ T) t i q e = gives_more T t i q e

pub gives_last : (T : List Given) (i : ℕ) (p : Packet) → Gives (T ++ Sent i p ∷ []) i p
gives_last [] i p = inl (refl, refl)
gives_last (Sent j q ∷ T) i p = inr (gives_last T i p)
gives_last (Swept j n ∷ T) i p = gives_last T i p

pub written_more : (T : List Given) (t : Given) (fs : List (ℕ × Fate)) → length fs ≡ length T → written_among (T ++ t ∷ []) fs ≡ written_among T fs
written_more [] t [] e = refl
written_more [] t (f ∷ fs) e = absurd (omega arith)
written_more (q ∷ T) t [] e = refl
written_more (q ∷ T) t (f ∷ fs) e = ap (λ zs. if_given q f.1 ++ zs) (written_more T t fs (omega arith))

pub written_push : (T : List Given) (t : Given) (fs : List (ℕ × Fate)) (x : ℕ × Fate) → length fs ≡ length T
    → written_among (T ++ t ∷ []) (fs ++ x ∷ []) ≡ written_among (T ++ t ∷ []) fs ++ if_given t x.1
written_push [] t [] x e = append-nil (if_given t x.1)
written_push [] t (f ∷ fs) x e = absurd (omega arith)
written_push (q ∷ T) t [] x e = absurd (omega arith)
written_push (q ∷ T) t (f ∷ fs) x e =
    rw (written_push T t fs x (omega arith)) (sym (append_assoc (if_given q f.1) (written_among (T ++ t ∷ []) fs) (if_given t x.1)))

pub end_push : (n : ℕ) (T : List Given) (t : Given) → end_from n (T ++ t ∷ []) ≡ index_of t + 1
end_push n [] t = refl
end_push n (q ∷ T) t = end_push (index_of q + 1) T t

pub indices_push : (T : List Given) (t : Given) (fs : List (ℕ × Fate)) (i : ℕ) (f : Fate) → indices fs ≡ map index_of T → i ≡ index_of t
    → indices (fs ++ (i, f) ∷ []) ≡ map index_of (T ++ t ∷ [])
indices_push T t fs i f e is = map_push (λ (x : ℕ × Fate). x.0) fs (i, f) ∙ rw (e, is) (sym (map_push index_of T t))

-- what was given without gaps was so before the last one
front_of : (n : ℕ) (T : List Given) (t : Given) (L : List Packet) → T ++ t ∷ [] ≡ sent_from n L → (M : List Packet) × (T ≡ sent_from n M)
front_of n [] t L e = ([], refl)
front_of n (q ∷ T) t [] e = absurd (cc e)
front_of n (q ∷ T) t (p ∷ L) e =
    let head : q ≡ Sent n p = cc in
    let tail : T ++ t ∷ [] ≡ sent_from (n + 1) L = cc in
    let k = front_of (n + 1) T t L tail in
    (p ∷ k.0, rw (head, k.1) refl)

pub gapless_front : (T : List Given) (t : Given) → IsGapless (T ++ t ∷ []) → IsGapless T
gapless_front T t k = front_of 0 T t k.0 k.1

-- an open session has no note
pub open_no_fault : (r : Row) (f : Option FaultNote) → NoteFits r f → r.outcome ≡ Open → f ≡ None
open_no_fault r None n e = refl
open_no_fault r (Some m) n e = absurd (rw e at n.1)

pub numbered_push : (n : ℕ) (rs : List Row) (r : Row) → Numbered n rs → r.note.number ≡ n + length rs → Numbered n (rs ++ r ∷ [])
numbered_push n [] r k e = (omega (arith, e), tt)
numbered_push n (q ∷ rs) r k e = (k.0, numbered_push (n + 1) rs r k.1 (omega (arith, e)))

pub numbered_last : (n : ℕ) (rs : List Row) (r : Row) → Numbered n (rs ++ r ∷ []) → r.note.number ≡ n + length rs
numbered_last n [] r k = omega (arith, k.0)
numbered_last n (q ∷ rs) r k = omega (arith, numbered_last (n + 1) rs r k.1)

pub numbered_front : (n : ℕ) (rs : List Row) (r : Row) → Numbered n (rs ++ r ∷ []) → Numbered n rs
numbered_front n [] r k = tt
numbered_front n (q ∷ rs) r k = (k.0, numbered_front (n + 1) rs r k.1)
