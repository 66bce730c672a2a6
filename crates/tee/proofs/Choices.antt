-- The streams that an output takes, and its chains.
use Rattle.std.proofs.Common.{◌≡◌, ◌≢◌, ◌<◌, ◌≤◌, ◌+◌, ℕ, zero, suc, List, [], ◌∷◌, ◌++◌, length, get_or, Bool, true, false, cond, Option, Some, None, refl, sym, ◌∙◌, subst, arith}
use Rattle.std.specs.Prelude.{◌==◌, ◌&&◌, ◌||◌}
use Rattle.std.specs.List.{list_any, list_all, filter}
use Rattle.std.proofs.lemmas.Bool.Decides.{nat_tests}
use Rattle.std.proofs.lemmas.Bool.{and_parts}
use Rattle.bsf_chain.specs.declared.filter.Filter.{Filter}
use Rattle.bsf_chain.specs.Chain.{are_keepers, is_keeper}
use Rattle.options.specs.declared.select.Spec.{Spec}
use Rattle.options.specs.Filters.{are_native, are_short, fit_together, filters_for, selects}
use Rattle.options.specs.Slave.{Slave}
use Rattle.rmx_media.specs.declared.streams.Kind.{Kind}
use Rattle.rmx_media.specs.declared.streams.Kind.TheVariants.{Video, Audio}
use Rattle.rmx_media.specs.declared.streams.MuxStream.{MuxStream}
use Rattle.rmx_media.specs.declared.streams.StreamInfo.{StreamInfo}
use Rattle.rmx_media.specs.Streams.{AreInfos, AreStreams, IsSound, kind_in}
use Rattle.tee.specs.Choice.{takes_kind, file_format, numbered_from, is_taken, is_chosen, chosen_streams}

none_picked : (b more : Bool) (xs rest : List Filter) → (b || more) ≡ false → (more ≡ false → rest ≡ []) → cond b (xs ++ rest) rest ≡ []
none_picked true more xs rest e h = absurd cc
none_picked false more xs rest e h = h e

-- no chain selects that stream
pub none_for : (chains : List (Spec × List Filter)) (n : ℕ) (k : Kind) → list_any (λ c. selects c.0 n k) chains ≡ false → filters_for chains n k ≡ []
none_for [] n k e = refl
none_for (c ∷ cs) n k e = none_picked (selects c.0 n k) (list_any (λ c. selects c.0 n k) cs) c.1 (filters_for cs n k) e (none_for cs n k)

keepers_append : (xs ys : List Filter) → are_keepers xs ≡ true → are_keepers ys ≡ true → are_keepers (xs ++ ys) ≡ true
keepers_append [] ys e h = h
keepers_append (x ∷ xs) ys e h = let b = and_parts (is_keeper x) (are_keepers xs) e in rw b.0 (keepers_append xs ys b.1 h)

keepers_picked : (b : Bool) (xs rest : List Filter) → are_keepers xs ≡ true → are_keepers rest ≡ true → are_keepers (cond b (xs ++ rest) rest) ≡ true
keepers_picked true xs rest e h = keepers_append xs rest e h
keepers_picked false xs rest e h = h

-- where each chain keeps native packets native, those of a stream do
pub keepers_for : (chains : List (Spec × List Filter)) (n : ℕ) (k : Kind) → are_native chains ≡ true → are_keepers (filters_for chains n k) ≡ true
unfolding are_native
keepers_for [] n k e = refl
keepers_for (c ∷ cs) n k e =
    let b = and_parts (are_keepers c.1) (list_all (λ c. are_keepers c.1) cs) e in
    keepers_picked (selects c.0 n k) c.1 (filters_for cs n k) b.0 (keepers_for cs n k b.1)

short_by : (chains : List (Spec × List Filter)) (n : ℕ) (k : Kind) → fit_together chains n k ≡ true → length (filters_for chains n k) ≤ 16
short_by chains n k e = grind (arith, nat_tests)

four_true : (a b c d : Bool) → (a && b && c && d) ≡ true → (a ≡ true) × (b ≡ true) × (c ≡ true) × (d ≡ true)
four_true true true true true e = (refl, refl, refl, refl)
four_true true true true false e = absurd cc
four_true true true false d e = absurd cc
four_true true false c d e = absurd cc
four_true false b c d e = absurd cc

short_each : (chains : List (Spec × List Filter)) → are_short chains ≡ true
    → (fit_together chains 0 Video ≡ true) × (fit_together chains 1 Video ≡ true) × (fit_together chains 0 Audio ≡ true) × (fit_together chains 1 Audio ≡ true)
unfolding are_short
short_each chains e = four_true (fit_together chains 0 Video) (fit_together chains 1 Video) (fit_together chains 0 Audio) (fit_together chains 1 Audio) e

-- the chains of one of two streams are short
pub short_for : (chains : List (Spec × List Filter)) (n : ℕ) (k : Kind) → are_short chains ≡ true → n < 2 → length (filters_for chains n k) ≤ 16
short_for chains zero Video e lt = short_by chains 0 Video (short_each chains e).0
short_for chains zero Audio e lt = short_by chains 0 Audio (short_each chains e).2
short_for chains (suc zero) Video e lt = short_by chains 1 Video (short_each chains e).1
short_for chains (suc zero) Audio e lt = short_by chains 1 Audio (short_each chains e).3
short_for chains (suc (suc n)) k e lt = absurd (omega arith)

other : (m n : ℕ) → m ≢ n → (m == n) ≡ false
other m n h = grind (arith, nat_tests)

-- a stream of another number is passed over, whether it is taken or not
behind : (b : Bool) (m n : ℕ) (x : StreamInfo) (rest : List MuxStream) (found : Option Kind) → (m == n) ≡ false → kind_in rest n ≡ found
    → kind_in (cond b (record { stream = m; info = x } ∷ rest) rest) n ≡ found
behind true m n x rest found e h = rw e h
behind false m n x rest found e h = h

-- no stream of these has a number below the first
pub kind_before : (s : Slave) (infos : List StreamInfo) (m n : ℕ) → n < m → kind_in (filter (is_chosen s) (numbered_from m infos)) n ≡ None
kind_before s [] m n lt = refl
kind_before s (x ∷ xs) m n lt = behind (is_taken s m x.kind) m n x (filter (is_chosen s) (numbered_from (m + 1) xs)) None (other m n (omega arith)) (kind_before s xs (m + 1) n (omega arith))

-- the kind of a stream that is there, where it is taken
abbrev pub kind_if : Bool → Kind → Option Kind
kind_if b k = cond b (Some k) None

at_head : (b : Bool) (m : ℕ) (x : StreamInfo) (rest : List MuxStream) → kind_in rest m ≡ None → kind_in (cond b (record { stream = m; info = x } ∷ rest) rest) m ≡ kind_if b x.kind
at_head true m x rest e = let same : (m == m) ≡ true = grind (arith, nat_tests) in rw same refl
at_head false m x rest e = e

pub kind_at : (s : Slave) (infos : List StreamInfo) (m k n : ℕ) (d : StreamInfo) → n ≡ m + k → k < length infos
    → kind_in (filter (is_chosen s) (numbered_from m infos)) n ≡ kind_if (is_taken s n (get_or infos k d).kind) (get_or infos k d).kind
kind_at s [] m k n d e lt = absurd (omega arith)
kind_at s (x ∷ xs) m zero n d e lt =
    let same : n ≡ m = omega arith in
    rw same (at_head (is_taken s m x.kind) m x (filter (is_chosen s) (numbered_from (m + 1) xs)) (kind_before s xs (m + 1) m (omega arith)))
kind_at s (x ∷ xs) m (suc k) n d e lt =
    behind (is_taken s m x.kind) m n x (filter (is_chosen s) (numbered_from (m + 1) xs)) _ (other m n (omega arith)) (kind_at s xs (m + 1) k n d (omega arith) (omega arith))

taken_by : (a b c : Bool) (m n : ℕ) (k : Kind) (x : StreamInfo) (rest all : List MuxStream) (f : Kind → Bool)
    → b ≡ (m == n) → c ≡ (a && f x.kind) → (kind_in rest n ≡ Some k → (kind_in all n ≡ Some k) × (f k ≡ true)) → (b ≡ true → kind_in rest n ≡ None)
    → kind_in (cond c (record { stream = m; info = x } ∷ rest) rest) n ≡ Some k → (cond b (Some x.kind) (kind_in all n) ≡ Some k) × (f k ≡ true)
taken_by a true true m n k x rest all f e g h before found =
    let same : cond (m == n) (Some x.kind) (kind_in rest n) ≡ Some x.kind = rw (← e) refl in
    let is : Some x.kind ≡ Some k = sym same ∙ found in
    let kind : x.kind ≡ k = cc in
    (is, subst (λ (y : Kind). f y ≡ true) kind (and_parts a (f x.kind) (sym g)).1)
taken_by a true false m n k x rest all f e g h before found = absurd (let none = before refl in cc)
taken_by a false true m n k x rest all f e g h before found =
    let same : cond (m == n) (Some x.kind) (kind_in rest n) ≡ kind_in rest n = rw (← e) refl in h (sym same ∙ found)
taken_by a false false m n k x rest all f e g h before found = h found

-- a stream that an output takes is there, and its files take it
pub taken_from : (s : Slave) (infos : List StreamInfo) (m n : ℕ) (k : Kind) → kind_in (filter (is_chosen s) (numbered_from m infos)) n ≡ Some k
    → (kind_in (numbered_from m infos) n ≡ Some k) × (takes_kind (file_format s.format s.seg) k ≡ true)
taken_from s [] m n k e = absurd cc
taken_from s (x ∷ xs) m n k e =
    taken_by (list_any (λ c. selects c m x.kind) s.select) (m == n) (is_taken s m x.kind) m n k x (filter (is_chosen s) (numbered_from (m + 1) xs)) (numbered_from (m + 1) xs) (takes_kind (file_format s.format s.seg))
    refl refl (taken_from s xs (m + 1) n k) (λ same. kind_before s xs (m + 1) n (grind (arith, nat_tests))) e

one_by : (b : Bool) (m n : ℕ) (k : Kind) (x : StreamInfo) (xs : List StreamInfo) → b ≡ (m == n) → cond b (Some x.kind) (kind_in (numbered_from (m + 1) xs) n) ≡ Some k
    → (kind_in (numbered_from (m + 1) xs) n ≡ Some k → (m + 1 ≤ n) × (n < m + 1 + length xs)) → (m ≤ n) × (n < m + length (x ∷ xs))
one_by true m n k x xs e found h = let same : m ≡ n = grind (arith, nat_tests) in (omega arith, omega arith)
one_by false m n k x xs e found h = let r = h found in (omega (arith, r.0), omega (arith, r.1))

-- a stream that is there stands in the list
pub is_one_of : (infos : List StreamInfo) (m n : ℕ) (k : Kind) → kind_in (numbered_from m infos) n ≡ Some k → (m ≤ n) × (n < m + length infos)
is_one_of [] m n k e = absurd cc
is_one_of (x ∷ xs) m n k e = one_by (m == n) m n k x xs refl e (is_one_of xs (m + 1) n k)

abbrev one_if : Bool → ℕ → StreamInfo → List MuxStream → List MuxStream
one_if b n x rest = cond b (record { stream = n; info = x } ∷ rest) rest

one_video : (v a : StreamInfo) (p q : Bool) → AreInfos (v ∷ a ∷ []) → length (one_if p 0 v (one_if q 1 a [])) ≢ 0 → AreStreams (one_if p 0 v (one_if q 1 a []))
one_video v a true true i n = record { video_sound = i.0; audio_sound = i.1; video_kind = i.2; audio_kind = i.3; apart = λ e. absurd (omega arith) }
one_video v a true false i n = i.0
one_video v a false true i n = i.1
one_video v a false false i n = absurd (n refl)

one_alone : (x : StreamInfo) (p : Bool) → IsSound x → length (one_if p 0 x []) ≢ 0 → AreStreams (one_if p 0 x [])
one_alone x true i n = i
one_alone x false i n = absurd (n refl)

-- an output can be made of the streams that it takes, where it takes one
pub can_be_chosen : (s : Slave) (infos : List StreamInfo) → AreInfos infos → length (chosen_streams s infos) ≢ 0 → AreStreams (chosen_streams s infos)
can_be_chosen s [] i n = absurd i
can_be_chosen s (x ∷ []) i n = one_alone x (is_taken s 0 x.kind) i n
can_be_chosen s (v ∷ a ∷ []) i n = one_video v a (is_taken s 0 v.kind) (is_taken s 1 a.kind) i n
can_be_chosen s (v ∷ a ∷ x ∷ xs) i n = absurd i

pub sound_at : (infos : List StreamInfo) (n : ℕ) (d : StreamInfo) → AreInfos infos → n < length infos → IsSound (get_or infos n d)
sound_at [] n d i lt = absurd i
sound_at (x ∷ []) zero d i lt = i
sound_at (x ∷ []) (suc n) d i lt = absurd (omega arith)
sound_at (v ∷ a ∷ []) zero d i lt = i.0
sound_at (v ∷ a ∷ []) (suc zero) d i lt = i.1
sound_at (v ∷ a ∷ []) (suc (suc n)) d i lt = absurd (omega arith)
sound_at (v ∷ a ∷ x ∷ xs) n d i lt = absurd i

pub kind_taken : (b : Bool) (k : Kind) {found : Option Kind} → b ≡ true → found ≡ kind_if b k → found ≡ Some k
kind_taken true k e f = f
kind_taken false k e f = absurd cc

pub some_at : (infos : List StreamInfo) (m k n : ℕ) (d : StreamInfo) → n ≡ m + k → k < length infos → kind_in (numbered_from m infos) n ≡ Some (get_or infos k d).kind
some_at [] m k n d e lt = absurd (omega arith)
some_at (x ∷ xs) m zero n d e lt = let same : (m == n) ≡ true = grind (arith, nat_tests) in rw same refl
some_at (x ∷ xs) m (suc k) n d e lt = behind true m n x (numbered_from (m + 1) xs) _ (other m n (omega arith)) (some_at xs (m + 1) k n d (omega arith) (omega arith))
