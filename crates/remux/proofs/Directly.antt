-- A run without threads is one of those that may have some.
use Rattle.std.proofs.Common.{◌≡◌, ℕ, inl, inr, Bool, false, ◌||◌, List, [], ◌∷◌, map, ap, ◌∙◌, sym, refl, subst, Option}
use Rattle.std.proofs.lemmas.Bool.{or_parts}
use Rattle.fifo_core.specs.History.{History}
use Rattle.rmx_edge.specs.Inputs.{InputState}
use Rattle.rmx_edge.specs.Shelf.{ShelfState}
use Rattle.rmx_media.specs.declared.packet.Packet.{Packet}
use Rattle.rmx_media.specs.declared.streams.StreamInfo.{StreamInfo}
use Rattle.options.specs.declared.words.Source.{Source}
use Rattle.options.specs.declared.words.Source.TheVariants.{Named, Generated}
use Rattle.options.specs.Slave.{Slave, view}
use Rattle.options.specs.declared.slave.SlavePlan.{SlavePlan}
use Rattle.slave.specs.Accounts.{EndsMeetAccounts}
use Rattle.slave.specs.End.{EndView, EndedBy, end_view}
use Rattle.slave.specs.Headline.{NoFaultNoLoss}
use Rattle.tee.specs.Each.{Each3}
use Rattle.tee.specs.Ends.{AllEnded, AllStood, EndsAll}
use Rattle.tee.specs.RunEnds.{EndsOn, EndsHere, EndsAllRun}
use Rattle.tee.specs.Seat.{Seat, AreSeats, chosen}
use Rattle.tee.specs.Tracks.{Track, Here, StoodOn}
use Rattle.remux.specs.Asked.{Asked, pictures_of}
use Rattle.remux.specs.Generated.{generated, telling}
use Rattle.remux.specs.KeptRun.{AreKeptRun}
use Rattle.remux.specs.Outcome.{IsWritten, IsWrittenBy, ComesTo, ComesToBy, MakesAndComesTo, MakesAndComesToBy, ComesFrom, ComesFromBy}
use Rattle.remux.specs.Threads.{any_threads, has_threads}
use Rattle.remux.specs.declared.run.Outcome.{Outcome}
use Rattle.remux.proofs.KeepingRun.{all_kept_run}

-- none of the outputs at these seats asks for a thread
abbrev pub AreThreadless : List Seat → Type 0
AreThreadless [] = Unit {0}
AreThreadless (s ∷ ss) = (s.slave.fifo.use_fifo ≡ false) × AreThreadless ss

-- whether one does is seen in its plan
pub threads_seen : (slaves : List SlavePlan) → has_threads (map view slaves) ≡ any_threads slaves
threads_seen [] = refl
threads_seen (s ∷ ss) = ap (λ (b : Bool). s.fifo.use_fifo || b) (threads_seen ss)

pub threadless : {S : Type 0} (state : S → ShelfState) (infos : List StreamInfo) (script : Option (List ℕ)) (slaves : List Slave) (shelves : List S) (seats : List Seat) (rest : List S) → AreSeats state infos script slaves shelves seats rest → has_threads slaves ≡ false → AreThreadless seats
threadless state infos script [] shelves [] rest a e = tt
threadless state infos script [] shelves (seat ∷ seats) rest a e = absurd a
threadless state infos script (s ∷ ss) [] seats rest a e = absurd a
threadless state infos script (s ∷ ss) (x ∷ xs) [] rest a e = absurd a
threadless state infos script (s ∷ ss) (x ∷ xs) (seat ∷ seats) rest a e =
    let n = or_parts s.fifo.use_fifo (has_threads ss) e in
    (ap (λ (t : Slave). t.fifo.use_fifo) a.0.slave ∙ n.0, threadless state infos script ss xs seats rest a.1 n.1)

abbrev here : History → Track
here h = Here h

unmarked : (e : EndView) → e.inline ≡ false → e ≡ record e { inline = false }
unmarked e i = ap (λ (b : Bool). record e { inline = b }) i

one_here : (seat : Seat) (given : List Packet) (h : History) (e : EndView) → seat.slave.fifo.use_fifo ≡ false → EndedBy seat.origin seat.slave.fifo (chosen seat given) h e → EndsHere seat given h e
one_here seat given h e none k = record {
  ended = subst (EndedBy seat.origin seat.slave.fifo (chosen seat given) h) (unmarked e k.0.inline) k;
  inline = k.0.inline ∙ sym none;
}

all_here : (seats : List Seat) (given : List Packet) (hs : List History) (es : List EndView) → AreThreadless seats → AllEnded seats given hs es → Each3 (EndsOn given) seats (map here hs) es
all_here [] given [] [] none a = tt
all_here [] given [] (e ∷ es) none a = absurd a
all_here [] given (h ∷ hs) es none a = absurd a
all_here (s ∷ ss) given [] es none a = absurd a
all_here (s ∷ ss) given (h ∷ hs) [] none a = absurd a
all_here (s ∷ ss) given (h ∷ hs) (e ∷ es) none a = (one_here s given h e none.0 a.0, all_here ss given hs es none.1 a.1)

stood_here : (seats : List Seat) (given : List Packet) (hs : List History) (u : ℕ) (dead : List Bool) → AllStood seats given hs u dead → Each3 (StoodOn given u) seats (map here hs) dead
stood_here [] given [] u [] a = tt
stood_here [] given [] u (d ∷ ds) a = absurd a
stood_here [] given (h ∷ hs) u ds a = absurd a
stood_here (s ∷ ss) given [] u ds a = absurd a
stood_here (s ∷ ss) given (h ∷ hs) u [] a = absurd a
stood_here (s ∷ ss) given (h ∷ hs) u (d ∷ ds) a = (a.0, stood_here ss given hs u ds a.1)

pub ends_here : (seats : List Seat) (given : List Packet) (dead : ℕ → Bool) (es : List EndView) → AreThreadless seats → EndsAll seats given dead es → EndsAllRun seats given dead es
ends_here seats given dead es none k = record {
  tracks = map here k.histories;
  each = all_here seats given k.histories es none k.each;
  stood = λ u le. let s = k.stood u le in (s.0, stood_here seats given k.histories u s.0 s.1, s.2);
}

written_run : NoFaultNoLoss → EndsMeetAccounts → {S : Type 0} (state : S → ShelfState) (asked : Asked) (old new : InputState) (shelves : List S) (o : Outcome S) → has_threads asked.slaves ≡ false → IsWritten state asked old new shelves o → IsWrittenBy EndsAllRun AreKeptRun state asked old new shelves o
written_run loss meets state asked old new shelves o none w =
    let e = ends_here w.seats w.given w.dead (map (end_view state) o.ends.items) (threadless state _ _ asked.slaves shelves w.seats o.spare.items w.are_seats none) w.ends in
    record {
      bytes = w.bytes;
      taken = w.taken;
      settled = w.settled;
      calm = w.calm;
      some = w.some;
      each_takes = w.each_takes;
      seats = w.seats;
      are_seats = w.are_seats;
      given = w.given;
      rest = w.rest;
      order = w.order;
      upto = w.upto;
      dead = w.dead;
      alive = w.alive;
      ends = e;
      kept = all_kept_run loss meets w.seats w.given e.tracks (map (end_view state) o.ends.items) e.each;
      reading = w.reading;
      done = w.done;
      came = w.came;
      tags = w.tags;
      discards = w.discards;
      status_is = w.status_is;
      stops = w.stops;
    }

comes_run : NoFaultNoLoss → EndsMeetAccounts → {S : Type 0} (state : S → ShelfState) (asked : Asked) (old new : InputState) (shelves : List S) (o : Outcome S) → has_threads asked.slaves ≡ false → ComesTo state asked old new shelves o → ComesToBy EndsAllRun AreKeptRun state asked old new shelves o
comes_run loss meets state asked old new shelves o none (inl early) = inl early
comes_run loss meets state asked old new shelves o none (inr w) = inr (written_run loss meets state asked old new shelves o none w)

-- the same of a text that is made
made_run : NoFaultNoLoss → EndsMeetAccounts → {S : Type 0} (state : S → ShelfState) (text : List ℕ) (asked : Asked) (old new : InputState) (shelves : List S) (o : Outcome S) → has_threads asked.slaves ≡ false → MakesAndComesTo state text asked old new shelves o → MakesAndComesToBy EndsAllRun AreKeptRun state text asked old new shelves o
made_run loss meets state text asked old new shelves o none c = record {
  untouched = c.untouched;
  after = c.after;
  faultless = c.faultless;
  comes = comes_run loss meets state asked (telling text text false false) c.after shelves o none c.comes;
}

-- what a plan without threads comes to
pub plan_run : NoFaultNoLoss → EndsMeetAccounts → {S : Type 0} (state : S → ShelfState) (source : Source) (asked : Asked) (old new : InputState) (shelves : List S) (o : Outcome S) → has_threads asked.slaves ≡ false → ComesFrom state source asked old new shelves o → ComesFromBy EndsAllRun AreKeptRun state source asked old new shelves o
plan_run loss meets state (Named name) asked old new shelves o none c = comes_run loss meets state asked old new shelves o none c
plan_run loss meets state (Generated count) asked old new shelves o none c = made_run loss meets state (generated (pictures_of count)) asked old new shelves o none c
