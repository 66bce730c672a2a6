-- The end of an output that had a thread.
use Rattle.std.proofs.Common.{◌≡◌, ℕ, ◌≤◌, ◌<◌, Bool, true, false, List, [], ◌∷◌, length, Option, Some, None, refl, sym, ap, ◌∙◌, subst, arith, inr}
use Rattle.std.specs.Prelude.{is_some, if◌then◌else◌}
use Rattle.fifo_core.specs.declared.types.EndState.{EndState}
use Rattle.fifo_core.specs.declared.types.EndState.TheVariants as ends
use Rattle.rmx_edge.specs.Shelf.{ShelfState}
use Rattle.rmx_media.specs.declared.packet.Packet.{Packet}
use Rattle.rmx_media.specs.declared.streams.StreamInfo.{StreamInfo}
use Rattle.lane.specs.Sides.{CountsSide}
use Rattle.lane.specs.Told.{SawInTime}
use Rattle.fifo_core.specs.declared.types.FifoOptions.{FifoOptions}
use Rattle.slave.specs.declared.records.LaneNote.{LaneNote}
use Rattle.slave.specs.declared.run.WorkEnd.{WorkEnd}
use Rattle.slave.specs.End.{EndView, EndedAll, IsUnclosed, end_view}
use Rattle.slave.specs.Given.{Given}
use Rattle.slave.specs.Handed.{Handed}
use Rattle.slave.specs.LaneAccounts.{AccountsLane, AddsLane, Dealt, PassedOn, SweptStretch}
use Rattle.slave.specs.Origin.{Origin}
use Rattle.slave.specs.Purpose.{IsFor}
use Rattle.slave.specs.Task.{Task}
use Rattle.slave.specs.Worked.{Worked}
use Rattle.slave.proofs.Dealing.{lanes_deal}
use Rattle.slave.proofs.GivenUp.{dead_unclosed}
use Rattle.slave.proofs.Passing.{passed_on, stretch_of}
use Rattle.tee.specs.Attends.{IsStarted}
use Rattle.tee.specs.Rides.{Rides}
use Rattle.tee.specs.RunEnds.{EndsThere}
use Rattle.tee.specs.Seat.{Seat, chosen}
use Rattle.tee.specs.declared.sender.Sender.{Sender}
use Rattle.tee.proofs.Offering.{as_many}

-- what `settle` says of the two ends of a lane
pub record Settled (s : Sender) (ended failed : Bool) (got : List Rattle.lane.specs.declared.msg.Msg.Msg) (numbers : List (ℕ × ℕ)) (counts : CountsSide) : Type 0 where
  pub whole : ended ≡ true → (s.giver.closed ≡ true) × (got ≡ s.giver.given)
  pub blocks : s.giver.about.drops ≡ false → s.giver.refusals ≡ []
  pub saw : SawInTime s.giver.refusals numbers
  pub told : (v : ℕ) → s.giver.told ≡ Some v → (failed ≡ true) × (0 < v) × (v ≤ s.giver.asked)
  pub counts_are : counts ≡ record {
    given = length s.giver.given;
    got = length got;
    overs = length s.giver.refusals;
    closed = s.giver.closed;
    failed = failed;
    drops = s.giver.about.drops;
    limit = s.giver.about.limit;
    asked = s.giver.asked;
    told = s.giver.told;
  }

abbrev pub note_of : Sender → CountsSide → LaneNote
note_of s counts = record { cap = s.cap; counts = counts; receipts = s.receipts }

told_failed : (told : Option ℕ) (failed : Bool) (n : ℕ) → ((v : ℕ) → told ≡ Some v → (failed ≡ true) × (0 < v) × (v ≤ n)) → is_some told ≡ true → failed ≡ true
told_failed None failed n f e = absurd cc
told_failed (Some v) failed n f e = (f v refl).0

none_by : {A B : Type 0} (xs : List A) (ys : List B) → length xs ≡ length ys → ys ≡ [] → xs ≡ []
none_by [] ys e n = refl
none_by (x ∷ xs) ys e n = absurd (let z : length ys ≡ 0 = ap length n in omega (arith, e, z))

unclosed_by : (short : Bool) (s : EndState) → IsUnclosed s → IsUnclosed (if short then ends.NoMemory else s)
unclosed_by true s u = inr refl
unclosed_by false s u = u

pub unclosed_there : (seat : Seat) (given : List Packet) (told : Option ℕ) (e : EndView) → EndsThere seat given told e → is_some told ≡ true → IsUnclosed e.state
unclosed_there seat given told e k some =
    let dead = k.noted.told_dead some in
    let was = dead_unclosed seat.slave.fifo k.ends.history k.ends.end_answer k.left.state k.ends.end_called k.ends.state dead in
    subst (λ (s : EndState). IsUnclosed s) (sym k.adds.state) (unclosed_by k.short k.left.state was)

pub ends_there : {S : Type 0} (state : S → ShelfState) (infos : List StreamInfo) (given : List Packet) (seat : Seat) (told : Option ℕ) (s : Sender) (task : Task) (w : WorkEnd S) (counts : CountsSide) (new : EndView) (short : Bool)
    → Rides infos given (length given) seat told s → IsStarted seat s task → Worked state task.job task.taker w → Settled s w.taker.ended w.taker.failed w.taker.got w.taker.numbers counts
    → AddsLane (note_of s counts) (end_view state w.end) new short
    → ((g : Origin) (o : FifoOptions) (L : List Packet) (T : List Given) (numbers : List (ℕ × ℕ)) → EndedAll g o T (end_view state w.end) → Dealt L T numbers (note_of s counts) → AccountsLane g o L (note_of s counts) new)
    → (k : EndsThere seat given told new) × (short ≡ k.short)
ends_there state infos given seat told s task w counts new short r st worked settled adds accounts =
    let g = seat.origin in
    let o = seat.slave.fifo in
    let L = chosen seat given in
    let n = note_of s counts in
    let brings : IsFor g task.taker.about = rw st.about r.lane.brings in
    let wf = worked.worked g o st.fresh brings in
    let whole = settled.whole worked.ended in
    let limit : counts.limit ≡ o.queue_bytes = ap (λ (c : CountsSide). c.limit) settled.counts_are ∙ r.lane.limit in
    let overs : counts.overs ≡ length s.giver.refusals = ap (λ (c : CountsSide). c.overs) settled.counts_are in
    let failed : counts.failed ≡ w.taker.failed = ap (λ (c : CountsSide). c.failed) settled.counts_are in
    let given_is : counts.given ≡ length s.giver.given = ap (λ (c : CountsSide). c.given) settled.counts_are in
    let got_is : counts.got ≡ length w.taker.got = ap (λ (c : CountsSide). c.got) settled.counts_are in
    let handed : Handed n.cap n.counts.limit L s.giver.given s.giver.refusals n.receipts.items = rw (r.cap, limit) r.offered.handed in
    let passed : PassedOn wf.given s.giver.given = rw whole.1 at (passed_on g o wf.given wf.ends.history w.taker.got w.taker.numbers wf.stretches) in
    let dealt : Dealt L wf.given w.taker.numbers n = lanes_deal L s.giver.given s.giver.refusals wf.given w.taker.numbers n handed overs settled.saw passed
    (λ i v at. (let one = stretch_of g o wf.given wf.ends.history w.taker.got w.taker.numbers i v wf.stretches at in (one.0, subst (λ (cap : ℕ). SweptStretch cap w.taker.numbers v wf.given) (sym r.cap) one.1))) in
    let many = as_many o.queue_size o.queue_bytes L s.giver.given s.giver.refusals s.receipts.items r.offered.handed in
    let k : EndsThere seat given told new = record {
      turns = wf.given;
      got = w.taker.got;
      numbers = w.taker.numbers;
      left = end_view state w.end;
      ends = wf.ends;
      stretches = wf.stretches;
      note = n;
      dealt = dealt;
      short = short;
      adds = adds;
      accounts = accounts g o L wf.given w.taker.numbers wf.ends dealt;
      noted = record {
        threaded = r.threaded;
        cap = r.cap;
        limit = limit;
        drops = ap (λ (c : CountsSide). c.drops) settled.counts_are ∙ r.lane.drops;
        given_is = omega (arith, given_is, many, r.offered.counted);
        got = got_is ∙ ap length whole.1 ∙ sym given_is;
        closed = ap (λ (c : CountsSide). c.closed) settled.counts_are ∙ whole.0;
        failed = failed ∙ wf.failed;
        asked = ap (λ (c : CountsSide). c.asked) settled.counts_are ∙ r.asked_is;
        told_is = ap (λ (c : CountsSide). c.told) settled.counts_are ∙ r.told_is;
        within = r.within;
        told_dead = λ some. sym wf.failed ∙ told_failed told w.taker.failed s.giver.asked (λ v e. settled.told v (r.told_is ∙ e)) some;
        blocks = λ quiet. none_by s.receipts.items s.giver.refusals many (settled.blocks (r.lane.drops ∙ quiet));
      };
      inline = adds.inline ∙ wf.ends.inline;
    } in
    (k, refl)
