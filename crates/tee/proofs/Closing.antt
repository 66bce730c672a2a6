-- Outputs that are closed, and their ends.
use Rattle.std.proofs.Common.{◌≡◌, ◌+◌, ℕ, List, [], ◌∷◌, ◌++◌, length, map, Bool, true, false, Option, refl, sym, ◌∙◌, ap, subst}
use Rattle.lane.specs.Ring.{one_if}
use Rattle.std.specs.Prelude.{◌&&◌, ◌||◌, is_some, not}
use Rattle.std.specs.List.{list_all}
use Rattle.std.proofs.lemmas.Bool.{or_parts, or_right}
use Rattle.fifo_core.specs.History.{History}
use Rattle.fifo_core.specs.declared.types.EndState.TheVariants as ends
use Rattle.rmx_edge.specs.Shelf.{ShelfState}
use Rattle.rmx_edge.specs.declared.shelf.Shelf.{Ghosts}
use Rattle.rmx_media.specs.declared.packet.Packet.{Packet}
use Rattle.rmx_media.specs.declared.streams.StreamInfo.{StreamInfo}
use Rattle.slave.specs.End.{EndView, EndedBy, end_view}
use Rattle.slave.specs.Task.{Task}
use Rattle.slave.specs.declared.job.SlaveEnd.{SlaveEnd}
use Rattle.tee.specs.Attends.{Attends, IsStarted}
use Rattle.tee.specs.Each.{Each3}
use Rattle.tee.specs.Fails.{all_of, any_both, any_want, failed_slave, first_failed_from, is_failed, is_want}
use Rattle.tee.specs.Rides.{Rides, Shuts}
use Rattle.tee.specs.RunEnds.{AllEndWith, EndsAs, EndsOn, EndsShort, EndsThere, EndsWith, any_short, inline_ends, is_short}
use Rattle.tee.specs.RunKeeps.{KeepsRun, dead_in, inlined}
use Rattle.tee.specs.Seat.{Seat, aborts, chosen}
use Rattle.tee.specs.Sits.{EndsAt, Sits}
use Rattle.tee.specs.Tracks.{Track, Here, There, is_there, known_dead, known_deads, theres}
use Rattle.tee.specs.declared.filter.Filtered.{Filtered}
use Rattle.tee.specs.declared.outlet.Outlet.TheVariants as outlet
use Rattle.tee.specs.declared.output.TeeSlave.{TeeSlave}
use Rattle.tee.specs.declared.run.TeeRun.{TeeRun}
use Rattle.tee.specs.declared.sender.Sender.{Sender}
use Rattle.tee.proofs.Finish.{both_by, either_found, failed_by, found_by, over_when, states_of}
use Rattle.tee.proofs.Joined.{unclosed_there}
use Rattle.tee.proofs.Places.{each_unsnoc}

rides_shut : (infos : List StreamInfo) (given : List Packet) (asked : ℕ) (seat : Seat) (told : Option ℕ) (old new : Sender) → Rides infos given asked seat told old → Shuts old new → Rides infos given asked seat told new
rides_shut infos given asked seat told old new r s = record {
  placed = rw s.choice r.placed;
  threaded = r.threaded;
  lane = rw (s.lane, s.giver) r.lane;
  offered = rw (s.giver, s.receipts) (record { handed = r.offered.handed; counted = r.offered.counted; next = r.offered.next });
  count = s.count ∙ r.count;
  cap = s.cap ∙ r.cap;
  drops = s.drops ∙ r.drops;
  asked_is = rw s.giver r.asked_is;
  told_is = rw s.giver r.told_is;
  knows = s.failed ∙ r.knows;
  within = r.within;
}

started_shut : (seat : Seat) (old new : Sender) (task : Task) → IsStarted seat old task → Shuts old new → IsStarted seat new task
started_shut seat old new task st s = record { fresh = st.fresh; ring = rw s.giver st.ring; about = rw s.giver st.about }

pub there_shut : {S : Type 0} (G : Type 0) (ghosts : Ghosts S) (state : S → ShelfState) (infos : List StreamInfo) (given : List Packet) (asked : ℕ) (s : Seat) (t : Track) (old new : Sender) (running : Task)
    → Attends {S = S} {G = G} {ghosts = ghosts} state infos given asked false s t (outlet.There old running) → Shuts old new
    → Attends {S = S} {G = G} {ghosts = ghosts} state infos given asked true s t (outlet.There new running)
there_shut G ghosts state infos given asked s (Here h) old new running a shut = absurd a
there_shut G ghosts state infos given asked s (There told) old new running a shut =
    (rides_shut infos given asked s told old new a.0 shut, started_shut s old new running a.1 shut, rw shut.giver refl)

pub there_open : {S : Type 0} (G : Type 0) (ghosts : Ghosts S) (state : S → ShelfState) (infos : List StreamInfo) (given : List Packet) (asked : ℕ) (s : Seat) (t : Track) (sender : Sender) (running : Task)
    → Attends {S = S} {G = G} {ghosts = ghosts} state infos given asked false s t (outlet.There sender running) → sender.giver.closed ≡ false
there_open G ghosts state infos given asked s (Here h) sender running a = absurd a
there_open G ghosts state infos given asked s (There told) sender running a = a.2

pub here_shut : {S : Type 0} {ghosts : Ghosts S} (G : Type 0) (state : S → ShelfState) (infos : List StreamInfo) (given : List Packet) (asked : ℕ) (s : Seat) (t : Track) (slave : TeeSlave S ghosts) (inline : Bool) (left : Filtered)
    → Attends {S = S} {G = G} {ghosts = ghosts} state infos given asked false s t (outlet.Here slave inline left) → Attends {S = S} {G = G} {ghosts = ghosts} state infos given asked true s t (outlet.Here slave inline left)
here_shut G state infos given asked s (Here h) slave inline left a = a
here_shut G state infos given asked s (There told) slave inline left a = absurd a

pub here_sat : {S : Type 0} {ghosts : Ghosts S} (G : Type 0) (state : S → ShelfState) (infos : List StreamInfo) (given : List Packet) (asked : ℕ) (s : Seat) (t : Track) (slave : TeeSlave S ghosts) (inline : Bool) (left : Filtered)
    → Attends {S = S} {G = G} {ghosts = ghosts} state infos given asked true s t (outlet.Here slave inline left) → (h : History) × Sits state infos given s h slave
here_sat G state infos given asked s (Here h) slave inline left a = (h, a.0)
here_sat G state infos given asked s (There told) slave inline left a = absurd a

pub there_rode : {S : Type 0} (G : Type 0) (ghosts : Ghosts S) (state : S → ShelfState) (infos : List StreamInfo) (given : List Packet) (asked : ℕ) (s : Seat) (t : Track) (sender : Sender) (running : Task)
    → Attends {S = S} {G = G} {ghosts = ghosts} state infos given asked true s t (outlet.There sender running) → (told : Option ℕ) × Rides infos given asked s told sender × IsStarted s sender running
there_rode G ghosts state infos given asked s (Here h) sender running a = absurd a
there_rode G ghosts state infos given asked s (There told) sender running a = (told, a.0, a.1)

-- an output that the reader wrote ends
pub here_ends : {S : Type 0} {ghosts : Ghosts S} (G : Type 0) (state : S → ShelfState) (infos : List StreamInfo) (given : List Packet) (asked : ℕ) (s : Seat) (t : Track) (slave : TeeSlave S ghosts) (inline : Bool) (left : Filtered)
    (old new : SlaveEnd S) → Attends {S = S} {G = G} {ghosts = ghosts} state infos given asked true s t (outlet.Here slave inline left)
    → ((h : History) → Sits state infos given s h slave → EndsAt state given s h old)
    → new ≡ record old { inline = inline } → EndsWith state given s t new false
here_ends G state infos given asked s (Here h) slave inline left old new a f e =
    let at = f h a.0 in
    let was : old.inline ≡ false = at.ended.0.inline in
    let view : record (end_view state new) { inline = false } ≡ end_view state old = rw (e, ← was) refl in
    let k : EndsAs state given s (Here h) new = record {
      on = record { ended = subst (λ (v : EndView). EndedBy s.origin s.slave.fifo (chosen s given) h v) (sym view) at.ended; inline = rw e a.1 };
      given_up = λ d. rw e (at.given_up d);
    } in
    (k, refl)
here_ends G state infos given asked s (There told) slave inline left old new a f e = absurd a

pub there_ends : {S : Type 0} (G : Type 0) (ghosts : Ghosts S) (state : S → ShelfState) (infos : List StreamInfo) (given : List Packet) (s : Seat) (t : Track) (sender : Sender) (running : Task) (e : SlaveEnd S) (short : Bool)
    → Attends {S = S} {G = G} {ghosts = ghosts} state infos given (length given) true s t (outlet.There sender running)
    → ((told : Option ℕ) → Rides infos given (length given) s told sender → IsStarted s sender running → (k : EndsThere s given told (end_view state e)) × (short ≡ k.short)) → EndsWith state given s t e short
there_ends G ghosts state infos given s (Here h) sender running e short a f = absurd a
there_ends G ghosts state infos given s (There told) sender running e short a f =
    let on = f told a.0 a.1 in
    let k : EndsAs state given s (There told) e = record { on = on.0; given_up = λ d. unclosed_there s given told (end_view state e) on.0 d } in
    (k, on.1)

or_none : (b : Bool) → b ≡ (b || false)
or_none true = refl
or_none false = refl

or_assoc : (a b c : Bool) → ((a || b) || c) ≡ (a || (b || c))
or_assoc true b c = refl
or_assoc false b c = refl

-- one end more
all_snoc : {S : Type 0} (state : S → ShelfState) (given : List Packet) (ss : List Seat) (ts : List Track) (es : List (SlaveEnd S)) (s : Seat) (t : Track) (e : SlaveEnd S) (was wanted : Bool)
    → AllEndWith state given ss ts es was → EndsWith state given s t e wanted → AllEndWith state given (ss ++ s ∷ []) (ts ++ t ∷ []) (es ++ e ∷ []) (was || wanted)
all_snoc state given [] [] [] s t e was wanted a k = (wanted, false, k, refl, ap (λ (b : Bool). b || wanted) a ∙ or_none wanted)
all_snoc state given [] [] (z ∷ es) s t e was wanted a k = absurd a
all_snoc state given [] (y ∷ ts) es s t e was wanted a k = absurd a
all_snoc state given (x ∷ ss) [] es s t e was wanted a k = absurd a
all_snoc state given (x ∷ ss) (y ∷ ts) [] s t e was wanted a k = absurd a
all_snoc state given (x ∷ ss) (y ∷ ts) (z ∷ es) s t e was wanted a k =
    (a.0, a.1 || wanted, a.2, all_snoc state given ss ts es s t e a.1 wanted a.3 k, ap (λ (b : Bool). b || wanted) a.4 ∙ or_assoc a.0 a.1 wanted)

-- what is made of the outputs before the last, and of the last
pub all_last : {S C : Type 0} (state : S → ShelfState) (given : List Packet) (P : Seat → Track → C → Type 0) (ss : List Seat) (ts : List Track) (os : List C) (o : C) (es : List (SlaveEnd S)) (e : SlaveEnd S)
    (was wanted : Bool) → ((xs : List Seat) (ys : List Track) → Each3 P xs ys os → AllEndWith state given xs ys es was) → ((s : Seat) (t : Track) → P s t o → EndsWith state given s t e wanted)
    → Each3 P ss ts (os ++ o ∷ []) → AllEndWith state given ss ts (es ++ e ∷ []) (was || wanted)
all_last state given P ss ts os o es e was wanted f h a =
    let n = each_unsnoc P ss ts os o a in
    subst (λ (xs : List Seat). AllEndWith state given xs ts (es ++ e ∷ []) (was || wanted)) (sym n.firsts_are)
    (subst (λ (ys : List Track). AllEndWith state given (n.firsts ++ n.a ∷ []) ys (es ++ e ∷ []) (was || wanted)) (sym n.seconds_are)
    (all_snoc state given n.firsts n.seconds es n.a n.b e was wanted (f n.firsts n.seconds n.front) (h n.a n.b n.last)))

-- none is none
pub all_none : {S C : Type 0} (state : S → ShelfState) (given : List Packet) (P : Seat → Track → C → Type 0) (ss : List Seat) (ts : List Track) → Each3 P ss ts [] → AllEndWith {S = S} state given ss ts [] false
all_none state given P [] [] a = refl
all_none state given P [] (t ∷ ts) a = absurd a
all_none state given P (s ∷ ss) [] a = absurd a
all_none state given P (s ∷ ss) (t ∷ ts) a = absurd a

-- all of them
pub all_as : {S : Type 0} (state : S → ShelfState) (given : List Packet) (ss : List Seat) (ts : List Track) (es : List (SlaveEnd S)) (short : Bool) → AllEndWith state given ss ts es short → Each3 (EndsAs state given) ss ts es
all_as state given [] [] [] short a = tt
all_as state given [] [] (e ∷ es) short a = absurd a
all_as state given [] (t ∷ ts) es short a = absurd a
all_as state given (s ∷ ss) [] es short a = absurd a
all_as state given (s ∷ ss) (t ∷ ts) [] short a = absurd a
all_as state given (s ∷ ss) (t ∷ ts) (e ∷ es) short a = (a.2.0, all_as state given ss ts es a.1 a.3)

all_on : {S : Type 0} (state : S → ShelfState) (given : List Packet) (ss : List Seat) (ts : List Track) (es : List (SlaveEnd S)) (short : Bool) → AllEndWith state given ss ts es short
    → (on : Each3 (EndsOn given) ss ts (map (end_view state) es)) × (short ≡ any_short given ss ts (map (end_view state) es) on)
all_on state given [] [] [] short a = (tt, a)
all_on state given [] [] (e ∷ es) short a = absurd a
all_on state given [] (t ∷ ts) es short a = absurd a
all_on state given (s ∷ ss) [] es short a = absurd a
all_on state given (s ∷ ss) (t ∷ ts) [] short a = absurd a
all_on state given (s ∷ ss) (t ∷ ts) (e ∷ es) short a =
    let more = all_on state given ss ts es a.1 a.3 in (
      (a.2.0.on, more.0),
      a.4 ∙ ap (λ (b : Bool). b || a.1) a.2.1 ∙ ap (λ (b : Bool). is_short given s t (end_view state e) a.2.0.on || b) more.1,
    )

pub ends_short : {S G : Type 0} {ghosts : Ghosts S} (state : S → ShelfState) (run : TeeRun S G ghosts) (seats : List Seat) (given : List Packet) (es : List (SlaveEnd S)) (short : Bool) → (k : KeepsRun state run seats given)
    → AllEndWith state given seats k.stands.tracks es short → EndsShort seats given (dead_in run) (map (end_view state) es) short
ends_short state run seats given es short k a =
    let on = all_on state given seats k.stands.tracks es short a in
    (record { tracks = k.stands.tracks; each = on.0; stood = k.stands.watches.stood }, on.1)

first_one : {S : Type 0} (state : S → ShelfState) (given : List Packet) (n : ℕ) (ss : List Seat) (ts : List Track) (es : List (SlaveEnd S)) → Each3 (EndsAs state given) ss ts es → any_want (states_of es) ≡ false
    → any_both (aborts ss) (known_deads ss ts) ≡ true → is_some (first_failed_from n (aborts ss) (states_of es)) ≡ true
first_one state given n [] [] [] a w e = absurd cc
first_one state given n [] [] (x ∷ es) a w e = absurd a
first_one state given n [] (t ∷ ts) es a w e = absurd a
first_one state given n (s ∷ ss) [] es a w e = absurd a
first_one state given n (s ∷ ss) (t ∷ ts) [] a w e = absurd a
first_one state given n (s ∷ ss) (t ∷ ts) (x ∷ es) a w e =
    let none = or_parts (is_want x.state) (any_want (states_of es)) w in
    found_by s.slave.abort (is_failed x.state) (known_dead s t) (any_both (aborts ss) (known_deads ss ts)) n (first_failed_from (n + 1) (aborts ss) (states_of es))
    (failed_by (known_dead s t) x.state a.0.given_up none.0) (first_one state given (n + 1) ss ts es a.1 none.1) e

all_fail : {S : Type 0} (state : S → ShelfState) (given : List Packet) (ss : List Seat) (ts : List Track) (es : List (SlaveEnd S)) → Each3 (EndsAs state given) ss ts es → any_want (states_of es) ≡ false
    → all_of (known_deads ss ts) ≡ true → list_all is_failed (states_of es) ≡ true
all_fail state given [] [] [] a w e = refl
all_fail state given [] [] (x ∷ es) a w e = absurd a
all_fail state given [] (t ∷ ts) es a w e = absurd a
all_fail state given (s ∷ ss) [] es a w e = absurd a
all_fail state given (s ∷ ss) (t ∷ ts) [] a w e = absurd a
all_fail state given (s ∷ ss) (t ∷ ts) (x ∷ es) a w e =
    let none = or_parts (is_want x.state) (any_want (states_of es)) w in
    both_by (known_dead s t) (all_of (known_deads ss ts)) (is_failed x.state) (list_all is_failed (states_of es)) (failed_by (known_dead s t) x.state a.0.given_up none.0) (all_fail state given ss ts es a.1 none.1) e

pub one_fails : {S G : Type 0} {ghosts : Ghosts S} (state : S → ShelfState) (run : TeeRun S G ghosts) (seats : List Seat) (given : List Packet) (es : List (SlaveEnd S)) (u : ℕ) → (k : KeepsRun state run seats given)
    → Each3 (EndsAs state given) seats k.stands.tracks es → dead_in run u ≡ true → any_want (states_of es) ≡ false → is_some (failed_slave (aborts seats) (states_of es)) ≡ true
one_fails state run seats given es u k a dead w =
    let ts = k.stands.tracks in
    either_found (any_both (aborts seats) (known_deads seats ts)) (all_of (known_deads seats ts)) (first_failed_from 0 (aborts seats) (states_of es)) (list_all is_failed (states_of es))
    (first_one state given 0 seats ts es a w) (all_fail state given seats ts es a w)
    (sym k.stands.watches.now ∙ over_when run.stopped u dead)

or_left : (a b c : Bool) → (b ≡ true → c ≡ true) → (a || b) ≡ true → (a || c) ≡ true
or_left true b c f e = refl
or_left false b c f e = f e

want_kept : {S : Type 0} (es : List (SlaveEnd S)) (e : SlaveEnd S) → any_want (states_of es) ≡ true → any_want (states_of (es ++ e ∷ [])) ≡ true
want_kept [] e w = absurd cc
want_kept (x ∷ es) e w = or_left (is_want x.state) (any_want (states_of es)) (any_want (states_of (es ++ e ∷ []))) (want_kept es e) w

want_last : {S : Type 0} (es : List (SlaveEnd S)) (e : SlaveEnd S) → e.state ≡ ends.NoMemory → any_want (states_of (es ++ e ∷ [])) ≡ true
want_last [] e is = rw is refl
want_last (x ∷ es) e is = or_right (is_want x.state) (any_want (states_of (es ++ e ∷ []))) (want_last es e is)

-- memory was wanted before, or by the last
pub want_more : {S : Type 0} (es all : List (SlaveEnd S)) (e : SlaveEnd S) (was wanted now : Bool) → all ≡ es ++ e ∷ [] → now ≡ (was || wanted) → (was ≡ true → any_want (states_of es) ≡ true)
    → (wanted ≡ true → e.state ≡ ends.NoMemory) → now ≡ true → any_want (states_of all) ≡ true
want_more es all e true wanted now more is f g t = rw more (want_kept es e (f refl))
want_more es all e false wanted now more is f g t = rw more (want_last es e (g (sym is ∙ t)))

and_true : (b : Bool) → b ≡ (b && true)
and_true true = refl
and_true false = refl

and_false : (b : Bool) → false ≡ (b && false)
and_false true = refl
and_false false = refl

inline_by : {S : Type 0} (state : S → ShelfState) (given : List Packet) (s : Seat) (t : Track) (e : SlaveEnd S) → EndsAs state given s t e → e.inline ≡ (s.slave.fifo.use_fifo && not (is_there t))
inline_by state given s (Here h) e a = a.on.inline ∙ and_true s.slave.fifo.use_fifo
inline_by state given s (There told) e a = a.on.inline ∙ and_false s.slave.fifo.use_fifo

-- the inline ends are those of outputs that were to have threads and have none
pub inline_count : {S : Type 0} (state : S → ShelfState) (given : List Packet) (ss : List Seat) (ts : List Track) (es : List (SlaveEnd S)) → Each3 (EndsAs state given) ss ts es → inline_ends (map (end_view state) es) ≡ inlined ss (theres ts)
inline_count state given [] [] [] a = refl
inline_count state given [] [] (e ∷ es) a = absurd a
inline_count state given [] (t ∷ ts) es a = absurd a
inline_count state given (s ∷ ss) [] es a = absurd a
inline_count state given (s ∷ ss) (t ∷ ts) [] a = absurd a
inline_count state given (s ∷ ss) (t ∷ ts) (e ∷ es) a =
    ap (λ (b : Bool). one_if b + inline_ends (map (end_view state) es)) (inline_by state given s t e a.0)
    ∙ ap (λ (n : ℕ). one_if (s.slave.fifo.use_fifo && not (is_there t)) + n) (inline_count state given ss ts es a.1)
