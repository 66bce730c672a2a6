-- What is promised of each output of a run is kept.
use Rattle.std.proofs.Common.{◌≡◌, ℕ, inl, inr, Bool, false, List, [], ◌∷◌, length, map, ap, ◌∙◌, sym, subst, Option}
use Rattle.std.specs.Prelude.{if◌then◌else◌}
use Rattle.std.proofs.lemmas.Bool.{both_ways}
use Rattle.fifo_core.specs.declared.types.FifoOptions.{FifoOptions}
use Rattle.fifo_core.specs.declared.types.EndState.TheVariants as ends
use Rattle.fifo_core.specs.History.{History}
use Rattle.rmx_edge.specs.Count.{Rose}
use Rattle.rmx_edge.specs.Shelf.{ShelfState}
use Rattle.rmx_media.specs.declared.packet.Packet.{Packet}
use Rattle.slave.specs.declared.records.LaneNote.{LaneNote}
use Rattle.slave.specs.Accounts.{Accounts, EndsMeetAccounts}
use Rattle.slave.specs.LaneAccounts.{AddsLane}
use Rattle.slave.specs.Origin.{Origin}
use Rattle.options.specs.Slave.{Slave, view}
use Rattle.options.specs.declared.slave.SlavePlan.{SlavePlan}
use Rattle.slave.specs.End.{EndView, end_view}
use Rattle.slave.specs.declared.job.SlaveEnd.{SlaveEnd}
use Rattle.slave.specs.Headline.{HoldsAll, WantsForList, NoFaultNoLoss}
use Rattle.slave.specs.Runs.{expand}
use Rattle.tee.specs.Each.{Each3}
use Rattle.tee.specs.RunEnds.{EndsAllRun, EndsHere, EndsThere, EndsOn}
use Rattle.tee.specs.Seat.{Seat, aborts, chosen}
use Rattle.tee.specs.Tracks.{Track, Here, There}
use Rattle.tee.specs.Schedule.{IsBlocking}
use Rattle.tee.proofs.Places.{each_length}
use Rattle.remux.proofs.Blocking.{plain_end}
use Rattle.remux.specs.KeptRun.{AccountsBy, IsKeptRun, AreKeptRun}
use Rattle.remux.proofs.Endings.{as_many_plans}

-- accounts say nothing of who wrote the output
accounts_here : (g : Origin) (o : FifoOptions) (L : List Packet) (e : EndView) → Accounts g o L (record e { inline = false }) → Accounts g o L e
accounts_here g o L e a = record {
  order = a.order;
  covers = a.covers;
  within = a.within;
  once = a.once;
  refused = a.refused;
  flushed = a.flushed;
  key_wait = a.key_wait;
  lost = a.lost;
  after_failure = a.after_failure;
  no_memory = a.no_memory;
  notes = a.notes;
  restart = a.restart;
}

holds_here : (g : Origin) (L : List Packet) (e : EndView) → HoldsAll g L (record e { inline = false }) → HoldsAll g L e
holds_here g L e h = record { fates = h.fates; closed = h.closed; sessions = h.sessions; faults = h.faults; takes = h.takes; calls = h.calls; bytes = h.bytes }

kept_here : NoFaultNoLoss → EndsMeetAccounts → (seat : Seat) (given : List Packet) (h : History) (e : EndView) → EndsHere seat given h e → IsKeptRun seat given e
kept_here loss meets seat given h e k =
    let L = chosen seat given in
    let plain = record e { inline = false } in
    let a : Accounts seat.origin seat.slave.fifo L e = accounts_here seat.origin seat.slave.fifo L e (meets seat.origin seat.slave.fifo L plain k.ended.0) in
    record {
      accounts = subst (λ (n : Option LaneNote). AccountsBy n seat.origin seat.slave.fifo L e) (sym k.ended.0.lane) a;
      whole = λ b f w l. holds_here seat.origin L e (loss seat.origin seat.slave.fifo L plain k.ended.0 f w l);
      sound = k.ended.0.sound;
    }

-- nothing is refused behind a lane that waits, so nothing of the end changes but that it tells of the lane
holds_there : (g : Origin) (L : List Packet) (note : LaneNote) (old e : EndView) (short : Bool) → AddsLane note old e short → note.receipts.items ≡ [] → HoldsAll g L old → HoldsAll g L e
holds_there g L note old e short a none h =
    let same = a.same none in
    record {
      fates = ap expand same.0 ∙ h.fates;
      closed = a.state ∙ ap (λ (b : Bool). if b then ends.NoMemory else old.state) same.1 ∙ h.closed;
      sessions = a.sessions ∙ h.sessions;
      faults = a.faults ∙ h.faults;
      takes = ap (λ (s : ShelfState). s.takes) a.shelf ∙ h.takes;
      calls = ap (λ (s : ShelfState). s.calls) a.shelf ∙ h.calls;
      bytes = a.bytes ∙ h.bytes;
    }

kept_there : NoFaultNoLoss → (seat : Seat) (given : List Packet) (told : Option ℕ) (e : EndView) → EndsThere seat given told e → IsKeptRun seat given e
kept_there loss seat given told e k = record {
  accounts = subst (λ (n : Option LaneNote). AccountsBy n seat.origin seat.slave.fifo L e) (sym k.accounts.lane) k.accounts;
  whole = by;
  sound = λ s. ap (λ (x : ShelfState). x.faults) k.adds.shelf ∙ k.ends.sound s;
}
  where
    L : List Packet
    L = chosen seat given

    waits : seat.slave.fifo.dropping ≡ false → (Rose seat.origin.shelf.faults e.shelf.faults → ⊥) → (Rose seat.origin.shelf.wants e.shelf.wants → ⊥) → (WantsForList seat.origin e → ⊥) → HoldsAll seat.origin L e
    waits d f w l =
        let none = k.noted.blocks d in
        let same = k.adds.same none in
        let state : e.state ≡ k.left.state = k.adds.state ∙ ap (λ (b : Bool). if b then ends.NoMemory else k.left.state) same.1 in
        holds_there seat.origin L k.note k.left e k.short k.adds none
        (loss seat.origin seat.slave.fifo L k.left (plain_end seat.origin seat.slave.fifo L k.turns k.numbers k.note k.left k.ends k.dealt none)
        (λ r. f (subst (λ (x : ShelfState). Rose seat.origin.shelf.faults x.faults) (sym k.adds.shelf) r))
        (λ r. w (subst (λ (x : ShelfState). Rose seat.origin.shelf.wants x.wants) (sym k.adds.shelf) r))
        (λ r. l (r.0, state ∙ r.1)))

    by : IsBlocking seat e → (Rose seat.origin.shelf.faults e.shelf.faults → ⊥) → (Rose seat.origin.shelf.wants e.shelf.wants → ⊥) → (WantsForList seat.origin e → ⊥) → HoldsAll seat.origin L e
    by (inl here) f w l = absurd (both_ways seat.slave.fifo.use_fifo here k.noted.threaded)
    by (inr (inl d)) f w l = waits d f w l
    by (inr (inr inline)) f w l = absurd (both_ways e.inline k.inline inline)

kept_on : NoFaultNoLoss → EndsMeetAccounts → (seat : Seat) (given : List Packet) (t : Track) (e : EndView) → EndsOn given seat t e → IsKeptRun seat given e
kept_on loss meets seat given (Here h) e k = kept_here loss meets seat given h e k
kept_on loss meets seat given (There told) e k = kept_there loss seat given told e k

pub all_kept_run : NoFaultNoLoss → EndsMeetAccounts → (seats : List Seat) (given : List Packet) (ts : List Track) (es : List EndView) → Each3 (EndsOn given) seats ts es → AreKeptRun seats given es
all_kept_run loss meets [] given [] [] a = tt
all_kept_run loss meets [] given [] (e ∷ es) a = absurd a
all_kept_run loss meets [] given (t ∷ ts) es a = absurd a
all_kept_run loss meets (s ∷ ss) given [] es a = absurd a
all_kept_run loss meets (s ∷ ss) given (t ∷ ts) [] a = absurd a
all_kept_run loss meets (s ∷ ss) given (t ∷ ts) (e ∷ es) a = (kept_on loss meets s given t e a.0, all_kept_run loss meets ss given ts es a.1)

pub as_many_ends_run : {S : Type 0} (state : S → ShelfState) (seats : List Seat) (given : List Packet) (dead : ℕ → Bool) (ends : List (SlaveEnd S)) (slaves : List SlavePlan) → EndsAllRun seats given dead (map (end_view state) ends) → aborts seats ≡ map (λ (s : Slave). s.abort) (map view slaves) → length slaves ≡ length ends
as_many_ends_run state seats given dead ends slaves a e =
    as_many_plans state seats ends slaves (sym (each_length (EndsOn given) seats a.tracks (map (end_view state) ends) a.each)) e
