-- An output that gets one packet more.
use Rattle.std.proofs.Common.{◌≡◌, ◌≤◌, ◌+◌, ℕ, List, [], ◌∷◌, ◌++◌, length, length-append, append-nil, Option, Some, None, refl, sym, ◌∙◌, ap, subst, arith, ◌<◌, Fits, w64}
use Rattle.std.specs.List.{filter_map}
use Rattle.std.proofs.lemmas.List.Elements.{filter_map-append}
use Rattle.fifo_core.specs.History.{History, mode_of, mode_is_dead}
use Rattle.rmx_edge.specs.Shelf.{ShelfState}
use Rattle.rmx_edge.specs.declared.shelf.Shelf.{Ghosts}
use Rattle.rmx_media.specs.declared.packet.Packet.{Packet}
use Rattle.rmx_media.specs.declared.streams.StreamInfo.{StreamInfo}
use Rattle.slave.specs.Job.{JobView, view_of}
use Rattle.slave.specs.Table.{Keeps, Grows}
use Rattle.tee.specs.Choice.{choice}
use Rattle.tee.specs.Seat.{Seat, chosen}
use Rattle.tee.specs.Sits.{Sits, SitsOn}
use Rattle.tee.specs.declared.output.TeeSlave.{TeeSlave}

pub chosen_one : (seat : Seat) (given : List Packet) (q p : Packet) → Some p ≡ choice seat.origin.streams.streams.items seat.slave.chains q
    → chosen seat (given ++ q ∷ []) ≡ chosen seat given ++ p ∷ []
chosen_one seat given q p e = rw (filter_map-append (choice seat.origin.streams.streams.items seat.slave.chains) given (q ∷ []), ← e) refl

pub chosen_none : (seat : Seat) (given : List Packet) (q : Packet) → None ≡ choice seat.origin.streams.streams.items seat.slave.chains q
    → chosen seat (given ++ q ∷ []) ≡ chosen seat given
chosen_none seat given q e = rw (filter_map-append (choice seat.origin.streams.streams.items seat.slave.chains) given (q ∷ []), ← e) (append-nil (chosen seat given))

fewer_by : {X Y : Type 0} (y : Option Y) (ys : List Y) (xs : List X) (n : ℕ) → length ys ≤ n → length (Rattle.std.specs.List.cons_option y ys) ≤ n + 1
fewer_by None ys xs n h = omega arith
fewer_by (Some y) ys xs n h = omega arith

pub fewer : {X Y : Type 0} (f : X → Option Y) (xs : List X) → length (filter_map f xs) ≤ length xs
fewer f [] = omega arith
fewer f (x ∷ xs) = let r = fewer_by (f x) (filter_map f xs) xs (length xs) (fewer f xs) in omega arith

pub few_chosen : (seat : Seat) (given : List Packet) → length (chosen seat given) ≤ length given
few_chosen seat given = fewer (choice seat.origin.streams.streams.items seat.slave.chains) given

-- it was written
pub sits_more : {S : Type 0} {ghosts : Ghosts S} (state : S → ShelfState) (infos : List StreamInfo) (given : List Packet) (seat : Seat) (history : History) (q p : Packet)
    (old new : TeeSlave S ghosts) → (s : Sits state infos given seat history old) → Some p ≡ choice seat.origin.streams.streams.items seat.slave.chains q
    → new.choice ≡ old.choice → new.count ≡ old.count + 1
    → Grows seat.origin seat.slave.fifo (chosen seat given ++ p ∷ []) s.keeps.history (view_of state new.job) → SitsOn state infos (given ++ q ∷ []) seat history new
sits_more state infos given seat history q p old new s e same count grows =
    let g = subst (λ (L : List Packet). Grows seat.origin seat.slave.fifo L s.keeps.history (view_of state new.job)) (sym (chosen_one seat given q p e)) grows in
    record {
      history = g.keeps.history;
      sits = record {
        placed = rw same s.placed;
        keeps = g.keeps;
        history_is = refl;
        count = rw (chosen_one seat given q p e) (omega (arith, length-append (chosen seat given) (p ∷ []), count, s.count));
      };
      later = g.later;
      goes_on = g.goes_on ∙ ap (λ (h : History). g.later ++ h) s.history_is;
      stays_dead = λ d. g.stays_dead (ap (λ (h : History). mode_is_dead (mode_of seat.slave.fifo h)) s.history_is ∙ d);
    }

abbrev KeepsAs : Seat → List Packet → History → JobView → Type 0
KeepsAs seat L history v = (k : Keeps seat.origin seat.slave.fifo L v) × (k.history ≡ history)

-- it isn't taken
pub sits_same : {S : Type 0} {ghosts : Ghosts S} (state : S → ShelfState) (infos : List StreamInfo) (given : List Packet) (seat : Seat) (history : History) (q : Packet)
    (slave : TeeSlave S ghosts) → Sits state infos given seat history slave → None ≡ choice seat.origin.streams.streams.items seat.slave.chains q
    → SitsOn state infos (given ++ q ∷ []) seat history slave
sits_same state infos given seat history q slave s e =
    let k = subst (λ (L : List Packet). KeepsAs seat L history (view_of state slave.job)) (sym (chosen_none seat given q e)) (s.keeps, s.history_is) in
    record {
      history = history;
      sits = record {
        placed = s.placed;
        keeps = k.0;
        history_is = k.1;
        count = rw (chosen_none seat given q e) s.count;
      };
      later = [];
      goes_on = refl;
      stays_dead = λ d. d;
    }

-- a count of packets may rise by one
pub one_more : (n : ℕ) → n < 2305843009213693952 → Fits w64 (n + 1)
one_more n h = omega arith
