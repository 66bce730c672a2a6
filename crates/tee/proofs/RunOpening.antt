-- The outputs of a run that are opened.
use Rattle.std.proofs.Common.{◌≡◌, ◌≤◌, ◌+◌, ℕ, List, [], ◌∷◌, ◌++◌, map, Bool, true, false, Option, Some, None, refl, sym, ◌∙◌, ap, subst, arith, inl, inr}
use Rattle.lane.specs.Ring.{one_if}
use Rattle.std.specs.Prelude.{◌&&◌}
use Rattle.std.specs.List.{AllZip}
use Rattle.options.specs.Slave.{Slave}
use Rattle.rmx_edge.specs.Count.{Rose}
use Rattle.rmx_edge.specs.Counted.{with_count}
use Rattle.rmx_edge.specs.Shelf.{ShelfState}
use Rattle.rmx_edge.specs.declared.shelf.Shelf.{Ghosts}
use Rattle.rmx_media.specs.Fits.{Fits}
use Rattle.rmx_media.specs.declared.packet.Format.{Format}
use Rattle.rmx_media.specs.declared.packet.Packet.{Packet}
use Rattle.rmx_media.specs.declared.streams.MuxStream.{MuxStream}
use Rattle.rmx_media.specs.declared.streams.MuxStreams.{MuxStreams}
use Rattle.rmx_media.specs.declared.streams.StreamInfo.{StreamInfo}
use Rattle.slave.specs.Origin.{Origin}
use Rattle.slave.specs.Purpose.{IsFor}
use Rattle.slave.specs.Table.{Takes}
use Rattle.tee.specs.Attends.{Attends}
use Rattle.tee.specs.Berths.{AreOpenOn, IsBerth, IsOpenOn, inlines, is_inline}
use Rattle.tee.specs.Choice.{file_format}
use Rattle.tee.specs.Draft.{IsDraft, IsOpen}
use Rattle.tee.specs.Each.{Each3}
use Rattle.tee.specs.LaneKits.{IsAsked, IsLaneKit}
use Rattle.tee.specs.Rides.{Rides}
use Rattle.tee.specs.Route.{IsPlaced, IsRoute}
use Rattle.tee.specs.RunKeeps.{IsCounted, inlined, is_threaded}
use Rattle.tee.specs.Seat.{Seat}
use Rattle.tee.specs.Tracks.{Track, Here, There}
use Rattle.tee.specs.declared.berth.Berth.{Berth}
use Rattle.tee.specs.declared.draft.Draft.{Draft}
use Rattle.tee.specs.declared.lanes.LaneKit.{LaneKit}
use Rattle.tee.specs.declared.filter.Filtered.{Filtered}
use Rattle.tee.specs.declared.outlet.Outlet.{Outlet}
use Rattle.tee.specs.declared.outlet.Outlet.TheVariants as outlet
use Rattle.tee.specs.declared.output.TeeSlave.{TeeSlave}
use Rattle.tee.specs.declared.sender.Sender.{Sender}
use Rattle.tee.proofs.Offering.{none_offered}
use Rattle.tee.proofs.Opening.{seats_more, zip_split}
use Rattle.tee.proofs.Places.{each_snoc}

-- a packet fits by the streams that are there, whatever is kept beside them
fits_by : (f h : Format) (a b : MuxStreams) (p : Packet) → f ≡ h → a.streams.items ≡ b.streams.items → Fits f a p → Fits h b p
fits_by f h a b p e s x =
    let y : Fits h a p = subst (λ (z : Format). Fits z a p) e x in
    record {
      all = record { stream = rw (← s) y.all.stream; config = y.all.config; payload = y.all.payload; size = y.all.size; early = y.all.early; late = y.all.late; suits = y.all.suits };
      low = y.low;
      high = y.high;
    }

-- the origin of an output that is made from a draft
abbrev pub origin_of : {S : Type 0} → (S → ShelfState) → S → Slave → MuxStreams → Origin
origin_of state shelf s streams = record { shelf = with_count (state shelf) 0 0; name = s.name; format = s.format; seg = s.seg; streams = streams }

abbrev pub seat_of : Slave → Origin → Seat
seat_of s g = record { slave = s; origin = g }

pub placed_by : {S : Type 0} (state : S → ShelfState) (shelf : S) (infos : List StreamInfo) (script : Option (List ℕ)) (s : Slave) (draft : Draft) (d : IsDraft infos script s draft)
    → IsPlaced infos (seat_of s (origin_of state shelf s d.streams)) draft.choice
placed_by state shelf infos script s draft d = record {
  valid = d.valid;
  format = refl;
  seg = refl;
  streams = d.are_chosen;
  abort = d.abort;
  first = subst (λ (xs : List MuxStream). IsRoute xs s.chains 0 draft.choice.first) (sym d.are_chosen) d.first;
  second = subst (λ (xs : List MuxStream). IsRoute xs s.chains 1 draft.choice.second) (sym d.are_chosen) d.second;
}

module _ {S : Type 0} (state : S → ShelfState) (shelf : S) (infos : List StreamInfo) (script : Option (List ℕ)) (s : Slave) (draft : Draft) {G : Type 0} (kit : LaneKit G)
    (d : IsDraft infos script s draft) (k : IsLaneKit infos s kit) where
  -- the lane is for what the output takes
  pub brings_all : IsFor (origin_of state shelf s d.streams) kit.giver.about
  brings_all = λ p x. fits_by kit.giver.about.format (file_format s.format s.seg) kit.giver.about.streams.value d.streams p k.format (k.streams ∙ sym d.are_chosen) x

  carries_all : (p : Packet) → Takes (origin_of state shelf s d.streams) p → Fits kit.giver.about.format kit.giver.about.streams.value p
  carries_all = λ p x. fits_by (file_format s.format s.seg) kit.giver.about.format d.streams kit.giver.about.streams.value p (sym k.format) (d.are_chosen ∙ sym k.streams) x

  pub rides_first : (sender : Sender) → s.fifo.use_fifo ≡ true → sender.lane ≡ kit.lane → sender.giver ≡ kit.giver → sender.receipts ≡ kit.receipts → sender.choice ≡ draft.choice → sender.count ≡ 0
      → sender.cap ≡ kit.cap → sender.drops ≡ kit.drops → sender.failed ≡ false → Rides infos [] 0 (seat_of s (origin_of state shelf s d.streams)) None sender
  rides_first sender threaded lane giver receipts choice_is count cap drops failed = record {
    placed = rw choice_is (placed_by state shelf infos script s draft d);
    threaded = threaded;
    lane = rw (lane, giver) (record { cap_is = k.cap; limit = k.limit; drops = k.drops; carries = carries_all; brings = brings_all });
    offered = rw (giver, receipts, k.receipts) (none_offered s.fifo.queue_size s.fifo.queue_bytes kit.giver k.unused.given k.unused.refusals k.unused.past);
    count = count;
    cap = cap ∙ k.kit_cap;
    drops = drops ∙ k.kit_drops;
    asked_is = rw giver k.unused.asked;
    told_is = rw giver k.unused.told;
    knows = failed;
    within = tt;
  }

module _ {S G : Type 0} {ghosts : Ghosts S} (state : S → ShelfState) (infos : List StreamInfo) (script : Option (List ℕ)) where
  pub none_open_on : (plans : List Slave) (shelves : List S) (os : List (Outlet S G ghosts)) → AllZip (IsBerth {G = G} infos script) plans [] → os ≡ [] → AreOpenOn state infos script plans shelves os shelves
  none_open_on [] shelves os h e = record { seats = []; are_seats = refl; tracks = []; attend = rw e tt }
  none_open_on (p ∷ ps) shelves os h e = absurd h

  one_open_on : (plans : List Slave) (xs : List S) (os : List (Outlet S G ghosts)) (x : S) (rest : List S) (p : Slave) (o : Outlet S G ghosts) → AreOpenOn state infos script plans xs os (x ∷ rest)
      → IsOpenOn state infos script p x o → AreOpenOn state infos script (plans ++ p ∷ []) xs (os ++ o ∷ []) rest
  one_open_on plans xs os x rest p o a is = record {
    seats = a.seats ++ is.seat ∷ [];
    are_seats = seats_more state infos script plans xs a.seats x rest p is.seat a.are_seats is.is_seat;
    tracks = a.tracks ++ is.track ∷ [];
    attend = each_snoc (Attends state infos [] 0 false) a.seats a.tracks os is.seat is.track o a.attend is.attends;
  }

  -- one more berth, and its output
  pub more_open_on : (plans : List Slave) (berths : List (Berth G)) (b : Berth G) (xs : List S) (os : List (Outlet S G ghosts)) (x : S) (shelves rest : List S) (o : Outlet S G ghosts)
      → AllZip (IsBerth infos script) plans (berths ++ b ∷ [])
      → ((ps : List Slave) → AllZip (IsBerth infos script) ps berths → AreOpenOn state infos script ps xs os shelves) → shelves ≡ x ∷ rest
      → ((p : Slave) → IsBerth infos script p b → IsOpenOn state infos script p x o)
      → AreOpenOn state infos script plans xs (os ++ o ∷ []) rest
  more_open_on plans berths b xs os x shelves rest o z before first opened =
      let s = zip_split (IsBerth infos script) plans berths b z in
      let a = subst (λ (l : List S). AreOpenOn state infos script s.front xs os l) first (before s.front s.zip) in
      subst (λ (ps : List Slave). AreOpenOn state infos script ps xs (os ++ o ∷ []) rest) (sym s.split) (one_open_on s.front xs os x rest s.last o a (opened s.last s.related))

pub no_kit : (G : Type 0) (infos : List StreamInfo) (s : Slave) (asked : Bool) → IsAsked {G = G} infos s asked None → asked ≡ false
no_kit G infos s true a = absurd a
no_kit G infos s false a = refl

pub some_kit : {G : Type 0} (infos : List StreamInfo) (s : Slave) (kit : LaneKit G) (asked : Bool) → IsAsked infos s asked (Some kit) → (asked ≡ true) × IsLaneKit infos s kit
some_kit infos s kit true a = (refl, a)
some_kit infos s kit false a = absurd a

-- an output that was to have no thread
pub here_open : {S : Type 0} {ghosts : Ghosts S} (G : Type 0) (state : S → ShelfState) (infos : List StreamInfo) (script : Option (List ℕ)) (s : Slave) (shelf : S) (slave : TeeSlave S ghosts) (left : Filtered)
    → IsOpen state infos script s shelf slave → s.fifo.use_fifo ≡ false → IsOpenOn {S = S} {G = G} {ghosts = ghosts} state infos script s shelf (outlet.Here slave false left)
here_open G state infos script s shelf slave left o quiet = record {
  seat = o.seat;
  is_seat = o.is_seat;
  track = Here o.history;
  attends = (o.sits, sym (ap (λ (x : Slave). x.fifo.use_fifo) o.is_seat.slave ∙ quiet));
}

-- the inline outputs are counted
inlines_more : {S G : Type 0} {ghosts : Ghosts S} (os : List (Outlet S G ghosts)) (o : Outlet S G ghosts) → inlines (os ++ o ∷ []) ≡ inlines os + one_if (is_inline o)
inlines_more [] o = omega arith
inlines_more (x ∷ os) o = let r = inlines_more os o in omega (arith, r)

counted_by : (b : Bool) (n m old mid new : ℕ) → m ≡ n + one_if b → IsCounted n old mid → mid ≤ new → (b ≡ true → Rose mid new) → IsCounted m old new
counted_by true n m old mid new e c le f = elim c [
  | inl few ↦ elim (f refl) [
    | inl more ↦ inl (omega (arith, e, few, more))
    | inr end ↦ inr (omega (arith, end))
  ]
  | inr end ↦ inr (omega (arith, end, le))
]
counted_by false n m old mid new e c le f = elim c [
  | inl few ↦ inl (omega (arith, e, few, le))
  | inr end ↦ inr (omega (arith, end, le))
]

pub counted_more : {S G : Type 0} {ghosts : Ghosts S} (os all : List (Outlet S G ghosts)) (o : Outlet S G ghosts) (old mid new : ℕ) → all ≡ os ++ o ∷ [] → IsCounted (inlines os) old mid → mid ≤ new
    → (is_inline o ≡ true → Rose mid new) → IsCounted (inlines all) old new
counted_more os all o old mid new e c le f = counted_by (is_inline o) (inlines os) (inlines all) old mid new (ap inlines e ∙ inlines_more os o) c le f

-- they are those that were to have threads and have none
pub inlines_are : {S G : Type 0} {ghosts : Ghosts S} (state : S → ShelfState) (infos : List StreamInfo) (given : List Packet) (asked : ℕ) (ss : List Seat) (ts : List Track) (os : List (Outlet S G ghosts))
    → Each3 (Attends state infos given asked false) ss ts os → inlines os ≡ inlined ss (map is_threaded os)
inlines_are state infos given asked [] [] [] a = refl
inlines_are state infos given asked [] [] (o ∷ os) a = absurd a
inlines_are state infos given asked [] (t ∷ ts) os a = absurd a
inlines_are state infos given asked (s ∷ ss) [] os a = absurd a
inlines_are state infos given asked (s ∷ ss) (t ∷ ts) [] a = absurd a
inlines_are state infos given asked (s ∷ ss) (Here h ∷ ts) (outlet.Here slave inline left ∷ os) a =
    let rest = inlines_are state infos given asked ss ts os a.1 in
    rw (a.0.1, rest) (ap (λ (b : Bool). one_if b + inlined ss (map is_threaded os)) (and_true s.slave.fifo.use_fifo))
  where
    and_true : (b : Bool) → b ≡ (b && true)
    and_true true = refl
    and_true false = refl
inlines_are state infos given asked (s ∷ ss) (Here h ∷ ts) (outlet.There sender running ∷ os) a = absurd a.0
inlines_are state infos given asked (s ∷ ss) (There told ∷ ts) (outlet.Here slave inline left ∷ os) a = absurd a.0
inlines_are state infos given asked (s ∷ ss) (There told ∷ ts) (outlet.There sender running ∷ os) a =
    let rest = inlines_are state infos given asked ss ts os a.1 in
    rw rest (ap (λ (b : Bool). one_if b + inlined ss (map is_threaded os)) (and_false s.slave.fifo.use_fifo))
  where
    and_false : (b : Bool) → false ≡ (b && false)
    and_false true = refl
    and_false false = refl

pub none_counted : {S G : Type 0} {ghosts : Ghosts S} (os : List (Outlet S G ghosts)) (n : ℕ) → os ≡ [] → IsCounted (inlines os) n n
none_counted os n e = let z : inlines os ≡ 0 = ap inlines e in inl (omega (arith, z))
