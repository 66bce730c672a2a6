-- A run from its input's first byte to its outputs' ends.
use Rattle.std.proofs.Common.{◌≡◌, ℕ, ◌+◌, ◌<◌, ◌≤◌, ◌⊎◌, inl, inr, Bool, true, false, List, [], ◌∷◌, ◌++◌, length, ap, ◌∙◌, sym, refl, subst, arith, length-append, Option, Some, None, Ok, Err}
use Rattle.std.proofs.lemmas.List.Elements.{All-append}
use Rattle.std.specs.Option.{option_map}
use Rattle.std.specs.Prelude.{zero, suc, MatchOption, ◌^◌, map, IfSome, IsSomeAnd, All, is_some, if◌then◌else◌}
use Rattle.std.proofs.lemmas.List.{append-nil, nil_from_length}
use Rattle.rmx_media.specs.declared.packet.Packet.{Packet}
use Rattle.rmx_media.specs.declared.config.Config.{Config}
use Rattle.rmx_media.specs.declared.streams.Kind.TheVariants.{Video, Audio}
use Rattle.rmx_media.specs.declared.streams.StreamInfo.{StreamInfo}
use Rattle.rmx_media.specs.Streams.{kind_in}
use Rattle.rmx_edge.specs.Inputs.{InputView, InputState, OnViews, OpensView, Opens}
use Rattle.rmx_edge.specs.Shelf.{ShelfState}
use Rattle.rmx_edge.proofs.Run.{rose_later}
use Rattle.flv_tags.specs.declared.tag.Tag.{Tag}
use Rattle.flv_tags.specs.declared.tag.TagFault.TheVariants as fault
use Rattle.flv_tags.specs.Tags.{reading_of}
use Rattle.flv_tags.proofs.Grow.{tags_grow}
use Rattle.flv_tags.proofs.Verdicts.{no_tags}
use Rattle.flv_demux.specs.declared.deal.Kinds.{Kinds}
use Rattle.flv_demux.specs.declared.deal.Probe.{Probe}
use Rattle.flv_demux.specs.declared.deal.Shown.{Shown}
use Rattle.flv_demux.specs.Probe.{probe_of, no_probe, is_decided, kinds_of, infos_of, info_list, kinds, streams, script, stream_count}
use Rattle.flv_demux.specs.State.{DemuxState, HasDealt, IsSure, IsShown, IsReadable}
use Rattle.flv_demux.proofs.Demuxing.{sure_all}
use Rattle.flv_demux.specs.Deal.{packets_by}
use Rattle.flv_demux.proofs.Probing.{probe_stays, probe_of-none}
use Rattle.interleaver.specs.Interleave.{interleave, emitted}
use Rattle.interleaver.specs.Queues.{Pending, goes}
use Rattle.options.specs.declared.words.Plan.{Plan}
use Rattle.options.specs.Slave.{Slave}
use Rattle.options.specs.Words.{Planned, Placed, plan_view}
use Rattle.slave.specs.declared.job.SlaveEnd.{SlaveEnd}
use Rattle.slave.specs.End.{end_view}
use Rattle.tee.specs.declared.fault.TeeFault.{TeeFault}
use Rattle.tee.specs.declared.fault.TeeFault.TheVariants as tee_fault
use Rattle.tee.specs.None.{IsNoneFault}
use Rattle.tee.specs.Choice.{all_streams}
use Rattle.tee.specs.Fails.{failed_slave, any_want}
use Rattle.tee.specs.Seat.{Seat, AreSeats, IsInput, aborts, first_without}
use Rattle.remux.specs.declared.probe.Found.{Found}
use Rattle.remux.specs.declared.probe.Reached.{Reached}
use Rattle.remux.specs.declared.probe.Reached.TheVariants as reached
use Rattle.remux.specs.declared.probe.Unfound.{Unfound}
use Rattle.remux.specs.declared.probe.Unfound.TheVariants as unfound
use Rattle.remux.specs.declared.read.ReadEnd.{ReadEnd}
use Rattle.remux.specs.declared.read.ReadEnd.TheVariants as read_end
use Rattle.remux.specs.declared.run.Outcome.{Outcome}
use Rattle.remux.specs.declared.status.Status.{Status}
use Rattle.remux.specs.declared.status.Status.TheVariants as status
use Rattle.options.specs.declared.words.Source.{Source}
use Rattle.options.specs.declared.words.Source.TheVariants.{Named, Generated}
use Rattle.remux.specs.Asked.{Asked, asked_with, name_of, pictures_of, asked_of, clamped}
use Rattle.remux.specs.Came.{CameTo, IsOver, order_of}
use Rattle.remux.specs.Carried.{Ready, Carried, Carries}
use Rattle.remux.specs.Demuxed.{is_refused}
use Rattle.remux.specs.Ending.{status_by, status_failed, status_of_read, status_unwanted}
use Rattle.remux.specs.Finding.{First, ByReached, FoundIn, Finding}
use Rattle.remux.specs.Fit.{Fit, kind_at}
use Rattle.remux.specs.Flow.{Flow}
use Rattle.remux.specs.Generated.{generated, telling}
use Rattle.remux.specs.Outcome.{Taken, Concludes, Opened, Unopened, IsSettled, EndsEarly, IsNothing, OfAll, OfEach, IsWrittenBy, ComesToBy, ComesFromBy, MakesAndComesToBy, RunsPlanBy, RunsAsBy, IsReported, with_status, refused_by, unmade_by, states_of}
use Rattle.remux.specs.Reading.{StopsEarly, IsLeast, IsShort}
use Rattle.remux.specs.Starting.{new_line}
use Rattle.remux.specs.Took.{TookView, Took, SawEnd}
use Rattle.remux.specs.Told.{told}
use Rattle.remux.specs.States.{states, aborts_of, some_want}
use Rattle.remux.proofs.Demuxing.{calm_by, told_known}
use Rattle.remux.proofs.Endings.{states_seen, aborts_seen, any_state}
use Rattle.remux.proofs.Probing.{not_both}
use Rattle.remux.proofs.Pumping as pumping
use Rattle.remux.proofs.Starting.{start_flow}
use Rattle.remux.proofs.Taking.{took_two}
use Rattle.remux.proofs.Telling.{tags_told, discards_told}

-- an input was opened
opens_ok : (E : Type 0) (name : List ℕ) (t : Unit {0}) (u v : Option InputView) → OnViews u v (OpensView {E = E} name (Ok t)) → IfSome u (λ x. IsSomeAnd v (λ w. x.bytes_of name ≡ Some w.left))
opens_ok E name t None v h = tt
opens_ok E name t (Some x) None h = absurd h
opens_ok E name t (Some x) (Some w) h = h.1

pub opened : {E : Type 0} (name : List ℕ) (t : Unit {0}) (old new : InputState) → Opens {E = E} name (Ok t) old new → Opened name old new
opened {E = E} name t old new h = record { told = opens_ok E name t old.view new.view h.view; faults = h.faults }

same_view : (E : Type 0) (name : List ℕ) (e : E) (u v : Option InputView) → OnViews u v (OpensView {E = E} name (Err e)) → v ≡ u
same_view E name e None v h = h
same_view E name e (Some x) None h = absurd h
same_view E name e (Some x) (Some w) h = ap (λ (z : InputView). Some z) h

pub unopened : {E : Type 0} (name : List ℕ) (e : E) (old new : InputState) → Opens {E = E} name (Err e) old new → Unopened old new
unopened {E = E} name e old new h = (same_view E name e old.view new.view h.view, h.readable)

-- what was taken of it
taken_views : (name x : List ℕ) (u v w : Option InputView) → IfSome u (λ a. IsSomeAnd v (λ b. a.bytes_of name ≡ Some b.left)) → IfSome v (λ b. IsSomeAnd w (TookView x b)) → IfSome u (λ a. IsSomeAnd w (λ c. a.bytes_of name ≡ Some (x ++ c.left)))
taken_views name x None v w h k = tt
taken_views name x (Some a) None w h k = absurd h
taken_views name x (Some a) (Some b) None h k = absurd k
taken_views name x (Some a) (Some b) (Some c) h k = h ∙ ap (λ (l : List ℕ). Some l) k.1

taken : (name : List ℕ) (limit : ℕ) (x : List ℕ) (old mid new : InputState) → Opened name old mid → Took x mid new → length x ≤ limit → Taken name limit x old new
taken name limit x old mid new o t le = record { told = taken_views name x old.view mid.view new.view o.told t; long = le }

-- a run whose input has no streams
pub early_by : (u : Unfound) (name : List ℕ) (p : Planned) (old mid new : InputState) (ended : Bool) (known : Option Kinds) (has : List ℕ → List Tag → Type 0) → Opened name old mid → Finding (Err u) (clamped p.max_bytes) mid new ended known has → EndsEarly (refused_by u) (asked_with name p) old new
early_by unfound.NotFlv name p old mid new ended known has o f = record { bytes = f.0; taken = taken name _ f.0 old mid new o f.1.took f.1.long; verdict = f.2; enough = f.3; late = f.4 }
early_by unfound.BadOffset name p old mid new ended known has o f = record { bytes = f.0; taken = taken name _ f.0 old mid new o f.1.took f.1.long; verdict = f.2; enough = f.3; late = f.4 }
early_by unfound.NoStreams name p old mid new ended known has o f = record { bytes = f.bytes; taken = taken name _ f.bytes old mid new o f.taking.took f.taking.long; streams_are = f.none; settled = f.settled; calm = f.calm; late = f.late }
early_by unfound.InputFault name p old mid new ended known has o f =
    (rose_later old.faults mid.faults new.faults o.faults f.rose, inr record { bytes = f.bytes; taken = taken name _ f.bytes old mid new o f.taking.took f.taking.long; fewer = f.fewer; undecided = f.undecided; calm = f.calm })
early_by unfound.NoMemory name p old mid new ended known has o f = inr (f.0, taken name _ f.0 old mid new o f.1.took f.1.long)

-- a text with streams is an FLV text
has_tags : (x : List ℕ) → 0 < stream_count (kinds (reading_of x).tags) → (reading_of x).tags ≡ [] → ⊥
has_tags x some e = few (subst (λ (ts : List Tag). 0 < stream_count (kinds ts)) e some)
  where
    few : 0 < stream_count (kinds []) → ⊥
    few h = none (subst (λ (p : Probe). 0 < stream_count (kinds_of p)) probe_of-none h)
      where
        none : 0 < stream_count (kinds_of no_probe) → ⊥
        none h = omega arith

calm_of : (x : List ℕ) → 0 < stream_count (kinds (reading_of x).tags) → is_refused (reading_of x).verdict ≡ false
calm_of x some = calm_by (reading_of x).verdict (λ e. has_tags x some (no_tags fault.NotFlv x (inl refl) e)) (λ e. has_tags x some (no_tags fault.BadOffset x (inr refl) e))

-- what was found stays, whatever is taken behind it
pub record Stays (limit : ℕ) (b more : List ℕ) (new : InputState) : Type 0 where
  pub probe : probe_of (reading_of (b ++ more)).tags ≡ probe_of (reading_of b).tags
  pub settled : IsSettled limit (b ++ more) new
  pub long : length (b ++ more) ≤ limit

stays_none : (b more : List ℕ) → more ≡ [] → probe_of (reading_of (b ++ more)).tags ≡ probe_of (reading_of b).tags
stays_none b more e = ap (λ (x : List ℕ). probe_of (reading_of x).tags) (ap (λ (l : List ℕ). b ++ l) e ∙ append-nil b)

stays_sure : (b more : List ℕ) → is_decided (probe_of (reading_of b).tags) ≡ true → probe_of (reading_of (b ++ more)).tags ≡ probe_of (reading_of b).tags
stays_sure b more d = let g = tags_grow b more in ap probe_of g.1 ∙ probe_stays (reading_of b).tags g.0 d

pub stays : (limit : ℕ) (f : Found) (start mid new : InputState) (ended : Bool) (known : Option Kinds) (has : List ℕ → List Tag → Type 0) → (w : FoundIn f limit start mid ended known has) → (more : List ℕ) → length more ≤ f.left → (mid.readable ≡ false → more ≡ []) → (mid.readable ≡ false → new ≡ mid) → Stays limit w.bytes more new
stays limit f start mid new ended known has w more le only still = by w.finds.decided
  where
    small : length (w.bytes ++ more) ≤ limit
    small = omega (arith, w.long, le, length-append w.bytes more)

    at_end : (r : Reached) → ByReached r w.bytes ended f.left mid → ended ≡ true → Stays limit w.bytes more new
    at_end reached.More h e = absurd (not_both ended e h.0)
    at_end reached.End h e = record {
      probe = stays_none w.bytes more (only h.4);
      settled = inr (inl (subst SawEnd (sym (still h.4)) h.1));
      long = small;
    }
    at_end reached.Limit h e =
        let none : more ≡ [] = nil_from_length more (omega (arith, le, h.1)) in
        record {
          probe = stays_none w.bytes more none;
          settled = inr (inr (omega (arith, w.long, h.1, length-append w.bytes more, ap length none)));
          long = small;
        }

    by : (is_decided (probe_of (reading_of w.bytes).tags) ≡ true) ⊎ (ended ≡ true) → Stays limit w.bytes more new
    by (inl d) = record { probe = stays_sure w.bytes more d; settled = inl (ap is_decided (stays_sure w.bytes more d) ∙ d); long = small }
    by (inr e) = at_end f.reached w.how e

-- of which it is settled that they are all
pub settled_now : (limit : ℕ) (f : Found) (start mid : InputState) (ended : Bool) (known : Option Kinds) (has : List ℕ → List Tag → Type 0) → (w : FoundIn f limit start mid ended known has) → IsSettled limit w.bytes mid
settled_now limit f start mid ended known has w =
    subst (λ (x : List ℕ). IsSettled limit x mid) (append-nil w.bytes) (stays limit f start mid mid ended known has w [] (omega arith) (λ h. refl) (λ h. refl)).settled

-- what came of a reading, however it ended
pub record Out (e : ReadEnd) (limit delta : ℕ) (s : Kinds) (b : List ℕ) (left : ℕ) (old mid new : InputState) (n : ℕ) (has : List ℕ → List Tag → Type 0) (K : List Packet → Type 0) (D : ℕ → Bool) : Type 0 where
  pub more : List ℕ
  pub long : length more ≤ left
  pub only : mid.readable ≡ false → more ≡ []
  pub took : Took more mid new
  pub given : List Packet
  pub rest : List Packet
  pub kept : K given
  pub order : interleave n delta (packets_by s (reading_of (b ++ more)).tags) ≡ given ++ rest
  pub alive : (u : ℕ) → 0 < u → u < length given → D u ≡ false
  pub done : List Tag
  pub fed : List ℕ
  pub dealt : has fed done
  pub whole : (e ≡ read_end.NoMemory → ⊥) → fed ≡ b ++ more
  pub came : CameTo e limit delta old new (b ++ more) given rest done D

-- all that was taken was dealt with
all_out : (e : ReadEnd) (limit delta : ℕ) (s : Kinds) (b : List ℕ) (left : ℕ) (old mid new : InputState) (n : ℕ) (has : List ℕ → List Tag → Type 0) (K : List Packet → Type 0) (D : ℕ → Bool) →
    (r : Carried s b left mid new n delta has K D) → CameTo e limit delta old new (b ++ r.more) r.out.given r.out.rest (reading_of (b ++ r.more)).tags D → Out e limit delta s b left old mid new n has K D
all_out e limit delta s b left old mid new n has K D r c = record {
  more = r.more;
  long = r.long;
  only = r.only;
  took = r.took;
  given = r.out.given;
  rest = r.out.rest;
  kept = r.out.kept;
  order = r.out.order;
  alive = r.out.alive;
  done = (reading_of (b ++ r.more)).tags;
  fed = b ++ r.more;
  dealt = r.out.dealt;
  whole = λ x. refl;
  came = c;
}

-- the reading stopped early
stopped_out : (limit : ℕ) (s : Kinds) (b : List ℕ) (left : ℕ) (old mid new : InputState) (v : Pending) (has : List ℕ → List Tag → Type 0) (K : List Packet → Type 0) (D : ℕ → Bool) →
    (t : StopsEarly s b left mid new has v K D) → s ≡ kinds (reading_of (b ++ t.more)).tags → v.streams ≡ stream_count s → Out read_end.Stop limit v.delta s b left old mid new v.streams has K D
stopped_out limit s b left old mid new v has K D t se ne =
    let x = b ++ t.more in
    let u = t.stopped in
    let done = u.before ++ u.tag ∷ [] in
    let order = pumping.order_of s v.streams v.delta x done u.given u.rest u.begin u.enough in
    let len : length done ≡ length u.before + 1 = length-append u.before (u.tag ∷ []) in
    let least : IsLeast s (stream_count s) v.delta (reading_of x).tags (length done) (length u.given) =
    subst (λ (m : ℕ). IsLeast s (stream_count s) v.delta (reading_of x).tags m (length u.given)) (sym len)
    (subst (λ (m : ℕ). IsLeast s m v.delta (reading_of x).tags (length u.before + 1) (length u.given)) ne t.least) in
    record {
      more = t.more;
      long = t.long;
      only = t.only;
      took = t.took;
      given = u.given;
      rest = order.0;
      kept = u.kept;
      order = order.1;
      alive = u.alive;
      done = done;
      fed = x;
      dealt = u.dealt;
      whole = λ z. refl;
      came = record {
        some = omega (arith, u.less);
        dies = u.dies;
        begin = u.begin;
        least = subst (λ (k : Kinds). IsLeast k (stream_count k) v.delta (reading_of x).tags (length done) (length u.given)) se least;
        unspent = t.unspent;
        short = λ d. subst (λ (m : ℕ). IsShort x m) (sym len) (t.short d);
      };
    }

over_of : (s : Kinds) (x : List ℕ) (n delta : ℕ) (given rest : List Packet) (dead : ℕ → Bool) → s ≡ kinds (reading_of x).tags → n ≡ stream_count s → (rest ≡ []) ⊎ ((0 < length given) × (dead (length given) ≡ true)) →
    (0 < length given → dead (length given) ≡ true → length (emitted n delta (packets_by s (reading_of x).tags)) < length given) → IsOver delta x given rest (reading_of x).tags dead
over_of s x n delta given rest dead se ne last late = record {
  all_tags = refl;
  all_packets = last;
  late = λ some dies. subst (λ (k : Kinds). length (emitted (stream_count k) delta (packets_by k (reading_of x).tags)) < length given) se (subst (λ (m : ℕ). length (emitted m delta (packets_by s (reading_of x).tags)) < length given) ne (late some dies));
}

pub outs : (e : ReadEnd) (limit : ℕ) (s : Kinds) (b : List ℕ) (left : ℕ) (old mid new : InputState) (v : Pending) (has : List ℕ → List Tag → Type 0) (K : List Packet → Type 0) (D : ℕ → Bool) →
    old.faults ≤ mid.faults → length b + left ≡ limit → ((more : List ℕ) → length more ≤ left → (mid.readable ≡ false → more ≡ []) → s ≡ kinds (reading_of (b ++ more)).tags) → v.streams ≡ stream_count s →
    Carries e s b left mid new v has K D → Out e limit v.delta s b left old mid new v.streams has K D
outs read_end.Whole limit s b left old mid new v has K D le long se ne h =
    all_out read_end.Whole limit v.delta s b left old mid new v.streams has K D h.0 (over_of s (b ++ h.0.more) v.streams v.delta h.0.out.given h.0.out.rest D (se h.0.more h.0.long h.0.only) ne h.0.out.last h.0.out.late, h.1, h.2, omega (arith, long, h.3, length-append b h.0.more))
outs read_end.Cut limit s b left old mid new v has K D le long se ne h =
    all_out read_end.Cut limit v.delta s b left old mid new v.streams has K D h.0 (over_of s (b ++ h.0.more) v.streams v.delta h.0.out.given h.0.out.rest D (se h.0.more h.0.long h.0.only) ne h.0.out.last h.0.out.late, h.1, h.2, omega (arith, long, h.3, length-append b h.0.more))
outs read_end.Limit limit s b left old mid new v has K D le long se ne h =
    all_out read_end.Limit limit v.delta s b left old mid new v.streams has K D h.0 (over_of s (b ++ h.0.more) v.streams v.delta h.0.out.given h.0.out.rest D (se h.0.more h.0.long h.0.only) ne h.0.out.last h.0.out.late, omega (arith, long, h.1, length-append b h.0.more))
outs read_end.InputFault limit s b left old mid new v has K D le long se ne h =
    all_out read_end.InputFault limit v.delta s b left old mid new v.streams has K D h.0 (over_of s (b ++ h.0.more) v.streams v.delta h.0.out.given h.0.out.rest D (se h.0.more h.0.long h.0.only) ne h.0.out.last h.0.out.late, rose_later old.faults mid.faults new.faults le h.1)
outs read_end.Stop limit s b left old mid new v has K D le long se ne h =
    stopped_out limit s b left old mid new v has K D h (se h.more h.long h.only) ne
outs read_end.NoMemory limit s b left old mid new v has K D le long se ne h = record {
  more = h.more;
  long = h.long;
  only = h.only;
  took = h.took;
  given = h.cut.given;
  rest = h.cut.rest;
  kept = h.cut.kept;
  order = h.cut.order;
  alive = λ u p lt. h.cut.alive u p (omega (arith, lt));
  done = h.cut.tags;
  fed = h.cut.fed;
  dealt = h.cut.dealt;
  whole = λ x. absurd (x refl);
  came = h.cut.begin;
}

-- the streams that the demuxer tells
first_dealt : (s : Kinds) (b : List ℕ) (first : Option Packet) (has : List Tag → Type 0) → First s b first has → (ts : List Tag) × has ts
first_dealt s b None has f = ((reading_of b).tags, f.dealt)
first_dealt s b (Some p) has f = (f.before ++ f.tag ∷ [], f.dealt)

pub infos_found : (limit : ℕ) (f : Found) (start mid : InputState) (d : DemuxState) → (w : FoundIn f limit start mid d.core.reader.ended (told d) (λ (b : List ℕ) (done : List Tag). HasDealt b done d)) → d.core.infos ≡ streams (reading_of w.bytes).tags
infos_found limit f start mid d w =
    let t = first_dealt w.streams w.bytes f.first (λ (done : List Tag). HasDealt w.bytes done d) w.first in
    let k = t.1.inner.known w.streams (told_known d w.streams w.finds.known_is).1 in
    k.infos ∙ ap infos_of (sure_all d.core.probe w.bytes d.core.reader.ended k.sure)

count_infos : (v a : Option Config) → length (info_list Video v ++ info_list Audio a) ≡ stream_count record { video = is_some v; audio = is_some a }
count_infos (Some x) (Some y) = refl
count_infos (Some x) None = refl
count_infos None (Some y) = refl
count_infos None None = refl

pub count_streams : (tags : List Tag) → length (streams tags) ≡ stream_count (kinds tags)
count_streams tags = count_infos (probe_of tags).video (probe_of tags).audio

pub some_infos : (limit : ℕ) (f : Found) (start mid : InputState) (d : DemuxState) (infos : List StreamInfo) → (w : FoundIn f limit start mid d.core.reader.ended (told d) (λ (b : List ℕ) (done : List Tag). HasDealt b done d)) → infos ≡ d.core.infos → 0 < length infos
some_infos limit f start mid d infos w e =
    omega (arith, ap length (e ∙ infos_found limit f start mid d w), count_streams (reading_of w.bytes).tags, subst (λ (k : Kinds). 0 < stream_count k) w.finds.kinds_are w.finds.some)

-- a text with streams has some
some_streams : (x : List ℕ) → 0 < stream_count (kinds (reading_of x).tags) → streams (reading_of x).tags ≡ [] → ⊥
some_streams x some e = omega (arith, some, count_streams (reading_of x).tags, ap length e)

-- the outputs were given these packets of the order of the text
pub wrote : (E : OfAll) (A : OfEach) {S : Type 0} (state : S → ShelfState) (p : Planned) (name : List ℕ) (f : Found) (old start mid new : InputState) (ended : Bool) (known : Option Kinds) (has : List ℕ → List Tag → Type 0) (d : DemuxState) (e : ReadEnd) (v : Pending) (shelves : List S) (seats : List Seat) (K : List Packet → Type 0) (D : ℕ → Bool) (o : Outcome S) →
    Opened name old start → start.faults ≤ mid.faults → (w : FoundIn f (clamped p.max_bytes) start mid ended known has) → (mid.readable ≡ false → new ≡ mid) → v.streams ≡ stream_count w.streams → v.delta ≡ p.delta_us →
    AreSeats state (streams (reading_of w.bytes).tags) (script (reading_of w.bytes).tags) p.slaves shelves seats o.spare.items → first_without (streams (reading_of w.bytes).tags) p.slaves ≡ None →
    ((given : List Packet) → K given → (o.upto ≡ length given) × E seats given D (map (end_view state) o.ends.items) × A seats given (map (end_view state) o.ends.items)) →
    o.status ≡ status_by e (failed_slave (aborts seats) (states_of (map (end_view state) o.ends.items))) (any_want (states_of (map (end_view state) o.ends.items))) →
    ((u : ℕ) → D u ≡ true → any_want (states_of (map (end_view state) o.ends.items)) ≡ false → is_some (failed_slave (aborts seats) (states_of (map (end_view state) o.ends.items))) ≡ true) →
    o.tags ≡ d.shown.tags → o.discards ≡ d.shown.discards →
    Carries e w.streams w.bytes f.left mid new v (λ (b : List ℕ) (done : List Tag). HasDealt b done d) K D → IsWrittenBy E A state (asked_with name p) old new shelves o
wrote E A state p name f old start mid new ended known has d e v shelves seats K D o op le w still ne de seated first kept status_is dies tags_are discards_are h =
    let most_bytes = clamped p.max_bytes in
    let se : (more : List ℕ) → length more ≤ f.left → (mid.readable ≡ false → more ≡ []) → w.streams ≡ kinds (reading_of (w.bytes ++ more)).tags =
    λ more l only. w.finds.kinds_are ∙ sym (ap kinds_of (stays most_bytes f start mid new ended known has w more l only still).probe) in
    let r = outs e most_bytes w.streams w.bytes f.left old mid new v (λ (b : List ℕ) (done : List Tag). HasDealt b done d) K D (omega (arith, op.faults, le)) w.long se ne h in
    let x = w.bytes ++ r.more in
    let s = stays most_bytes f start mid new ended known has w r.more r.long r.only still in
    let same : w.streams ≡ kinds (reading_of x).tags = se r.more r.long r.only in
    let infos : streams (reading_of w.bytes).tags ≡ streams (reading_of x).tags = sym (ap infos_of s.probe) in
    let scripts : script (reading_of w.bytes).tags ≡ script (reading_of x).tags = sym (ap (λ (q : Probe). q.script) s.probe) in
    let k = kept r.given r.kept in
    record {
      bytes = x;
      taken = taken name most_bytes x old start new op (took_two w.bytes r.more start mid new w.took r.took) s.long;
      settled = s.settled;
      calm = calm_of x (subst (λ (k : Kinds). 0 < stream_count k) same w.finds.some);
      some = some_streams x (subst (λ (k : Kinds). 0 < stream_count k) same w.finds.some);
      each_takes = subst (λ (l : List StreamInfo). first_without l p.slaves ≡ None) infos first;
      seats = seats;
      are_seats = subst (λ (l : List StreamInfo). AreSeats state l (script (reading_of x).tags) p.slaves shelves seats o.spare.items) infos
          (subst (λ (c : Option (List ℕ)). AreSeats state (streams (reading_of w.bytes).tags) c p.slaves shelves seats o.spare.items) scripts seated);
      given = r.given;
      rest = r.rest;
      order = subst (λ (z : ℕ). order_of z (reading_of x).tags ≡ r.given ++ r.rest) de
          (subst (λ (k : Kinds). interleave (stream_count k) v.delta (packets_by k (reading_of x).tags) ≡ r.given ++ r.rest) same
          (subst (λ (c : ℕ). interleave c v.delta (packets_by w.streams (reading_of x).tags) ≡ r.given ++ r.rest) ne r.order));
      upto = k.0;
      dead = D;
      alive = r.alive;
      ends = k.1;
      kept = k.2;
      reading = e;
      done = r.done;
      came = subst (λ (z : ℕ). CameTo e most_bytes z old new x r.given r.rest r.done D) de r.came;
      tags = tags_are ∙ tags_told r.fed r.done d r.dealt;
      discards = λ n. discards_are ∙ discards_told r.fed r.done d r.dealt x (r.whole n);
      status_is = status_is;
      stops = dies (length r.given);
    }

-- the stream of a number is of the kind that it has in an FLV text
kinds_at : (v a : Option Config) (n : ℕ) → kind_in (all_streams (info_list Video v ++ info_list Audio a)) n ≡ kind_at record { video = is_some v; audio = is_some a } n
kinds_at (Some x) (Some y) n = refl
kinds_at (Some x) None n = refl
kinds_at None (Some y) n = refl
kinds_at None None n = refl

-- the packets of a text fit an FLV file of all its streams
pub input_fits : (tags : List Tag) (p : Packet) → Fit (kinds tags) p → IsInput (streams tags) p
input_fits tags p x = record {
  streams = record { streams = record { items = all_streams (streams tags); spare = 0 }; script = None };
  all = refl;
  fits = record {
    all = record {
      stream = kinds_at (probe_of tags).video (probe_of tags).audio p.stream ∙ x.stream;
      config = x.config;
      payload = x.payload;
      size = omega (arith, x.size);
      early = x.early;
      late = x.late;
      suits = (x.native, x.size);
    };
    low = x.low;
    high = x.high;
  };
}

-- outputs of the streams can be given all packets
pub ready_by : (limit delta : ℕ) (f : Found) (start mid : InputState) (ended : Bool) (known : Option Kinds) (has : List ℕ → List Tag → Type 0) (v : Pending) (infos : List StreamInfo) (K : List Packet → Type 0) →
    (w : FoundIn f limit start mid ended known has) → limit ≤ 2 ^ 40 → infos ≡ streams (reading_of w.bytes).tags → v ≡ new_line (length (streams (reading_of w.bytes).tags)) delta → K [] →
    Ready w.streams w.bytes f.first f.reached f.left mid ended known has v K (IsInput infos) × (length w.bytes + f.left < 2 ^ 61)
ready_by limit delta f start mid ended known has v infos K w small infos_are line kept = (
  record {
    finds = w.finds;
    first_is = w.first;
    late = w.late;
    how = w.how;
    count = ap (λ (q : Pending). q.streams) line ∙ count_streams (reading_of w.bytes).tags ∙ ap stream_count (sym w.finds.kinds_are);
    flow = subst (λ (q : Pending). Flow [] [] q) (sym line) (start_flow (length (streams (reading_of w.bytes).tags)) delta);
    stuck = ap goes line;
    none = ap (λ (q : Pending). q.pending) line;
    kept = kept;
    accepts = λ p x. subst (λ (l : List StreamInfo). IsInput l p) (sym infos_are) (input_fits (reading_of w.bytes).tags p (subst (λ (k : Kinds). Fit k p) w.finds.kinds_are x));
  },
  omega (arith, w.long, small),
)

-- whatever came, some packets were given
pub kept_of : (e : ReadEnd) (s : Kinds) (b : List ℕ) (left : ℕ) (old new : InputState) (v : Pending) (has : List ℕ → List Tag → Type 0) (K : List Packet → Type 0) (D : ℕ → Bool) → Carries e s b left old new v has K D → (given : List Packet) × K given
kept_of read_end.Whole s b left old new v has K D h = (h.0.out.given, h.0.out.kept)
kept_of read_end.Cut s b left old new v has K D h = (h.0.out.given, h.0.out.kept)
kept_of read_end.Limit s b left old new v has K D h = (h.0.out.given, h.0.out.kept)
kept_of read_end.InputFault s b left old new v has K D h = (h.0.out.given, h.0.out.kept)
kept_of read_end.Stop s b left old new v has K D h = (h.stopped.given, h.stopped.kept)
kept_of read_end.NoMemory s b left old new v has K D h = (h.cut.given, h.cut.kept)

-- The same of outputs that ended, by what the calls of the run said.
pub wrote_ends : (E : OfAll) (A : OfEach) {S : Type 0} (state : S → ShelfState) (q : Plan) (name : List ℕ) (f : Found) (old start mid new : InputState) (ended : Bool) (known : Option Kinds) (has : List ℕ → List Tag → Type 0) (d : DemuxState) (e : ReadEnd) (v : Pending) (shelves : List S) (seats : List Seat) (K : List Packet → Type 0) (D : ℕ → Bool) (count : ℕ) (rest spare : List S) (ends : List (SlaveEnd S)) (o : Outcome S) →
    Opened name old start → start.faults ≤ mid.faults → (w : FoundIn f (clamped q.max_bytes) start mid ended known has) → (mid.readable ≡ false → new ≡ mid) → v.streams ≡ stream_count w.streams → v.delta ≡ q.delta_us →
    rest ≡ spare → aborts seats ≡ map (λ (s : Slave). s.abort) (plan_view q).slaves → ((given : List Packet) → E seats given D (map (end_view state) ends) → A seats given (map (end_view state) ends)) →
    ((given : List Packet) → K given → (count ≡ length given) × E seats given D (map (end_view state) ends) × ((u : ℕ) → D u ≡ true → any_want (states ends) ≡ false → is_some (failed_slave (aborts seats) (states ends)) ≡ true)) →
    Concludes q.slaves.items d.shown e count ends spare o →
    AreSeats state (streams (reading_of w.bytes).tags) (script (reading_of w.bytes).tags) (plan_view q).slaves shelves seats rest → first_without (streams (reading_of w.bytes).tags) (plan_view q).slaves ≡ None →
    Carries e w.streams w.bytes f.left mid new v (λ (b : List ℕ) (done : List Tag). HasDealt b done d) K D → IsWrittenBy E A state (asked_with name (plan_view q)) old new shelves o
wrote_ends E A state q name f old start mid new ended known has d e v shelves seats K D count rest spare ends o op le w still ne de rest_is aborts_are meets kept c seated first h =
    let seen : states ends ≡ states_of (map (end_view state) o.ends.items) = sym (states_seen state ends) ∙ ap (λ (l : List (SlaveEnd _)). states_of (map (end_view state) l)) (sym c.ends_are) in
    let said : aborts_of q.slaves.items ≡ aborts seats = sym (aborts_seen q.slaves.items) ∙ sym aborts_are in
    let who : failed_slave (aborts_of q.slaves.items) (states ends) ≡ failed_slave (aborts seats) (states_of (map (end_view state) o.ends.items)) =
    ap (λ (a : List Bool). failed_slave a (states ends)) said ∙ ap (failed_slave (aborts seats)) seen in
    let want : some_want ends ≡ any_want (states_of (map (end_view state) o.ends.items)) = any_state ends ∙ ap any_want seen in
    let k0 = kept_of e w.streams w.bytes f.left mid new v (λ (b : List ℕ) (done : List Tag). HasDealt b done d) K D h in
    wrote E A state (plan_view q) name f old start mid new ended known has d e v shelves seats K D o op le w still ne de
    (subst (λ (l : List _). AreSeats state (streams (reading_of w.bytes).tags) (script (reading_of w.bytes).tags) (plan_view q).slaves shelves seats l) (rest_is ∙ sym c.spare_is) seated)
    first
    (λ given k.
    let x = kept given k in (
      c.upto ∙ x.0,
      subst (λ (l : List (SlaveEnd _)). E seats given D (map (end_view state) l)) (sym c.ends_are) x.1,
      subst (λ (l : List (SlaveEnd _)). A seats given (map (end_view state) l)) (sym c.ends_are) (meets given x.1),
    ))
    (c.status_is ∙ ap (λ (z : Option ℕ). status_by e z (some_want ends)) who ∙ ap (status_by e (failed_slave (aborts seats) (states_of (map (end_view state) o.ends.items)))) want)
    (λ u du nw. ap is_some (ap (failed_slave (aborts seats)) (sym seen)) ∙ (kept k0.0 k0.1).2 u du (ap any_want seen ∙ nw))
    c.tags c.discards h

-- a run that made no output
pub nothing_early : {E : OfAll} {A : OfEach} {S : Type 0} (state : S → ShelfState) (s : Status) (asked : Asked) (old new : InputState) (shelves : List S) (o : Outcome S) → IsNothing s shelves o → EndsEarly s asked old new → ComesToBy E A state asked old new shelves o
nothing_early state s asked old new shelves o n e =
    inl (record { status_is = refl; tags = n.tags; upto = n.upto; ends = n.ends; spare = n.spare; discards = n.discards }, subst (λ (x : Status). EndsEarly x asked old new) (sym n.status_is) e)

-- a demuxer that was fed nothing tells nothing
nothing_read : (reading_of []).tags ≡ []
nothing_read = refl

nothing_decided : is_decided (probe_of (reading_of []).tags) ≡ false
nothing_decided = ap (λ (ts : List Tag). is_decided (probe_of ts)) nothing_read ∙ ap is_decided probe_of-none

nothing_sure : (p : Probe) (ended : Bool) → ended ≡ false → IsSure p [] ended → ⊥
nothing_sure p ended fresh s = by s.why
  where
    by : (is_decided p ≡ true) ⊎ ((ended ≡ true) × ((reading_of []).tags ≡ s.looked) × IsReadable []) → ⊥
    by (inl e) = not_both (is_decided p) e (ap is_decided (sure_all p [] ended s) ∙ nothing_decided)
    by (inr e) = not_both ended e.0 fresh

pub untold : (d : DemuxState) → d.core.reader.ended ≡ false → HasDealt [] [] d → told d ≡ None
untold d fresh h = by h.shown
  where
    by : IsShown [] d → told d ≡ None
    by (inl e) = ap (λ (s : Shown). if s.known then d.core.known else None) e.0
    by (inr e) = absurd (nothing_sure d.core.probe d.core.reader.ended fresh (h.inner.known e.0 e.1).sure)

-- one more of which the same holds
all_one : {T : Type 0} (P : T → Type 0) (x : T) → P x → All P (x ∷ [])
all_one P x p zero d h = p
all_one P x p (suc k) d h = absurd (omega (arith, h))

pub all_more : {T : Type 0} (P : T → Type 0) (xs ys : List T) (x : T) → ys ≡ xs ++ x ∷ [] → All P xs → P x → All P ys
all_more P xs ys x e a p = subst (λ (l : List _). All P l) (sym e) (All-append P xs (x ∷ []) a (all_one P x p))

-- a plan comes to what its input does
comes_from : (E : OfAll) (A : OfEach) {S : Type 0} (state : S → ShelfState) (p : Planned) (source : Source) (old new : InputState) (shelves : List S) (o : Outcome S) → p.source ≡ source → ComesFromBy E A state source (asked_with (name_of source) p) old new shelves o → ComesFromBy E A state p.source (asked_of p) old new shelves o
comes_from E A state p source old new shelves o e c = subst (λ (s : Source). ComesFromBy E A state s (asked_with (name_of s) p) old new shelves o) (sym e) c

pub comes_named : (E : OfAll) (A : OfEach) {S : Type 0} (state : S → ShelfState) (p : Planned) (name : List ℕ) (old new : InputState) (shelves : List S) (o : Outcome S) → p.source ≡ Named name → ComesToBy E A state (asked_with name p) old new shelves o → ComesFromBy E A state p.source (asked_of p) old new shelves o
comes_named E A state p name old new shelves o e c = comes_from E A state p (Named name) old new shelves o e c

pub comes_generated : (E : OfAll) (A : OfEach) {S : Type 0} (state : S → ShelfState) (p : Planned) (count : ℕ) (now : InputState) (shelves : List S) (o : Outcome S) → p.source ≡ Generated count → ((now : InputState) → MakesAndComesToBy E A state (generated (pictures_of count)) (asked_with [] p) now now shelves o) → ComesFromBy E A state p.source (asked_of p) now now shelves o
comes_generated E A state p count now shelves o e c = comes_from E A state p (Generated count) now now shelves o e (c now)

-- a run over a text that is made
pub made : (E : OfAll) (A : OfEach) {S : Type 0} (state : S → ShelfState) (text : List ℕ) (asked : Asked) (start after now : InputState) (shelves : List S) (o : Outcome S) → start ≡ telling text text false false → (start.sound_at asked.source ≡ true → after.faults ≡ start.faults) → ComesToBy E A state asked start after shelves o → MakesAndComesToBy E A state text asked now now shelves o
made E A state text asked start after now shelves o e sound c = record {
  untouched = refl;
  after = after;
  faultless = sound (ap (λ (i : InputState). i.sound_at asked.source) e) ∙ ap (λ (i : InputState). i.faults) e;
  comes = subst (λ (i : InputState). ComesToBy E A state asked i after shelves o) e c;
}

-- no status before the report is that the report failed
read_calm : (e : ReadEnd) → status_of_read e ≡ status.ReportFault → ⊥
read_calm read_end.Whole e = cc
read_calm read_end.Cut e = cc
read_calm read_end.Limit e = cc
read_calm read_end.InputFault e = cc
read_calm read_end.Stop e = cc
read_calm read_end.NoMemory e = cc

failed_calm : (f : Option ℕ) (s : Status) → (s ≡ status.ReportFault → ⊥) → status_failed f s ≡ status.ReportFault → ⊥
failed_calm None s calm e = calm e
failed_calm (Some k) s calm e = cc

unwanted_calm : (e : ReadEnd) (f : Option ℕ) → status_unwanted e f ≡ status.ReportFault → ⊥
unwanted_calm read_end.Whole f e = failed_calm f (status_of_read read_end.Whole) (read_calm read_end.Whole) e
unwanted_calm read_end.Cut f e = failed_calm f (status_of_read read_end.Cut) (read_calm read_end.Cut) e
unwanted_calm read_end.Limit f e = failed_calm f (status_of_read read_end.Limit) (read_calm read_end.Limit) e
unwanted_calm read_end.InputFault f e = failed_calm f (status_of_read read_end.InputFault) (read_calm read_end.InputFault) e
unwanted_calm read_end.Stop f e = failed_calm f (status_of_read read_end.Stop) (read_calm read_end.Stop) e
unwanted_calm read_end.NoMemory f e = cc

status_calm : (e : ReadEnd) (f : Option ℕ) (wanted : Bool) → status_by e f wanted ≡ status.ReportFault → ⊥
status_calm e f true same = cc
status_calm e f false same = unwanted_calm e f same

comes_calm : (E : OfAll) (A : OfEach) {S : Type 0} (state : S → ShelfState) (asked : Asked) (old new : InputState) (shelves : List S) (o : Outcome S) → ComesToBy E A state asked old new shelves o → o.status ≡ status.ReportFault → ⊥
comes_calm E A state asked old new shelves o (inl c) e = subst (λ (s : Status). EndsEarly s asked old new) e c.1
comes_calm E A state asked old new shelves o (inr w) e = status_calm w.reading _ _ (sym w.status_is ∙ e)

pub from_calm : (E : OfAll) (A : OfEach) {S : Type 0} (state : S → ShelfState) (source : Source) (asked : Asked) (old new : InputState) (shelves : List S) (o : Outcome S) → ComesFromBy E A state source asked old new shelves o → o.status ≡ status.ReportFault → ⊥
from_calm E A state (Named name) asked old new shelves o c e = comes_calm E A state asked old new shelves o c e
from_calm E A state (Generated count) asked old new shelves o c e = comes_calm E A state asked (telling (generated (pictures_of count)) (generated (pictures_of count)) false false) c.after shelves o c.comes e

-- the report leaves what comes from the input
reported_from : (E : OfAll) (A : OfEach) {S : Type 0} (state : S → ShelfState) (source : Source) (asked : Asked) (old new : InputState) (shelves : List S) (o p : Outcome S) → ComesFromBy E A state source asked old new shelves o → o ≡ p → ComesFromBy E A state source asked old new shelves p
reported_from E A state source asked old new shelves o p c e = subst (λ (x : Outcome _). ComesFromBy E A state source asked old new shelves x) e c

-- a run of words that have a plan
pub runs_planned : (E : OfAll) (A : OfEach) {S : Type 0} (state : S → ShelfState) (source : Source) (asked : Asked) (old new : InputState) (shelves : List S) (o p : Outcome S) → ComesFromBy E A state source asked old new shelves o → with_status o.status p ≡ o → IsReported o.status p.status → RunsPlanBy E A state source asked old new shelves p
runs_planned E A state source asked old new shelves o p c same r = (o.status, r, reported_from E A state source asked old new shelves o (with_status o.status p) c (sym same))

pub runs_ok : (E : OfAll) (A : OfEach) {S : Type 0} (state : S → ShelfState) (words : Placed Planned) (q : Planned) (old new : InputState) (shelves : List S) (o p : Outcome S) → words ≡ Ok q → ComesFromBy E A state q.source (asked_of q) old new shelves o → with_status o.status p ≡ o → IsReported o.status p.status → RunsAsBy E A state words old new shelves p
runs_ok E A state words q old new shelves o p e c same r = subst (λ (w : Placed Planned). RunsAsBy E A state w old new shelves p) (sym e) (inl (runs_planned E A state q.source (asked_of q) old new shelves o p c same r))

-- which outputs abort is said by their plans
pub aborts_by : {S : Type 0} (state : S → ShelfState) (infos : List StreamInfo) (script : Option (List ℕ)) (slaves : List Slave) (shelves : List S) (seats : List Seat) (rest : List S) → AreSeats state infos script slaves shelves seats rest → aborts seats ≡ map (λ (s : Slave). s.abort) slaves
aborts_by state infos script [] shelves [] rest a = refl
aborts_by state infos script [] shelves (seat ∷ seats) rest a = absurd a
aborts_by state infos script (s ∷ ss) [] seats rest a = absurd a
aborts_by state infos script (s ∷ ss) (x ∷ xs) [] rest a = absurd a
aborts_by state infos script (s ∷ ss) (x ∷ xs) (seat ∷ seats) rest a =
    ap (λ (t : Slave). t.abort ∷ aborts seats) a.0.slave ∙ ap (λ (l : List Bool). s.abort ∷ l) (aborts_by state infos script ss xs seats rest a.1)

-- the script that the demuxer tells
pub script_found : (limit : ℕ) (f : Found) (start mid : InputState) (d : DemuxState) → (w : FoundIn f limit start mid d.core.reader.ended (told d) (λ (b : List ℕ) (done : List Tag). HasDealt b done d)) → d.core.probe.script ≡ script (reading_of w.bytes).tags
script_found limit f start mid d w =
    let t = first_dealt w.streams w.bytes f.first (λ (done : List Tag). HasDealt w.bytes done d) w.first in
    let k = t.1.inner.known w.streams (told_known d w.streams w.finds.known_is).1 in
    ap (λ (q : Probe). q.script) (sure_all d.core.probe w.bytes d.core.reader.ended k.sure)

pub script_told : {T : Type 0} (body_of : T → List ℕ) (result : Option T) (known : Bool) (said : Option (List ℕ)) → known ≡ true → MatchOption result (known ≡ true → said ≡ None) (λ body. (known ≡ true) × (said ≡ Some (body_of body))) → option_map body_of result ≡ said
script_told body_of None known said k m = sym (m k)
script_told body_of (Some body) known said k m = sym m.1

-- outputs could not be made
pub unmade_early : (fault : TeeFault) (limit : ℕ) (f : Found) (name : List ℕ) (p : Planned) (old start mid : InputState) (d : DemuxState) (infos : List StreamInfo) → limit ≡ clamped p.max_bytes → IsNoneFault fault (first_without infos p.slaves) → Opened name old start → (w : FoundIn f limit start mid d.core.reader.ended (told d) (λ (b : List ℕ) (done : List Tag). HasDealt b done d)) → infos ≡ d.core.infos → EndsEarly (unmade_by fault) (asked_with name p) old mid
unmade_early (tee_fault.NoneSelected k) limit f name p old start mid d infos same none o w known = record {
  infos = infos;
  some = λ n. absurd (few (some_infos limit f start mid d infos w known) n);
  first = none;
  settled = record {
    bytes = w.bytes;
    taken = taken name _ w.bytes old start mid o w.took (omega (arith, w.long, same));
    streams_are = sym (known ∙ infos_found limit f start mid d w);
    settled = subst (λ (l : ℕ). IsSettled l w.bytes mid) same (settled_now limit f start mid d.core.reader.ended (told d) (λ (b : List ℕ) (done : List Tag). HasDealt b done d) w);
    calm = w.finds.calm;
    late = w.late;
  };
}
  where
    few : 0 < length infos → infos ≡ [] → ⊥
    few h n = omega (arith, h, ap length n)
unmade_early tee_fault.NoMemory limit f name p old start mid d infos same none o w known = inr (w.bytes, taken name _ w.bytes old start mid o w.took (omega (arith, w.long, same)))

-- memory was wanted once the streams were found
pub wants_found : (f : Found) (name : List ℕ) (p : Planned) (old start mid : InputState) (ended : Bool) (known : Option Kinds) (has : List ℕ → List Tag → Type 0) → Opened name old start → FoundIn f (clamped p.max_bytes) start mid ended known has → EndsEarly status.NoMemory (asked_with name p) old mid
wants_found f name p old start mid ended known has o w = inr (w.bytes, taken name _ w.bytes old start mid o w.took (omega (arith, w.long)))

pub seats_found : {S : Type 0} (state : S → ShelfState) (slaves : List Slave) (shelves rest : List S) (seats : List Seat) (infos found : List StreamInfo) (said body : Option (List ℕ)) → infos ≡ found → said ≡ body → AreSeats state infos said slaves shelves seats rest → AreSeats state found body slaves shelves seats rest
seats_found state slaves shelves rest seats infos found said body e h a =
    subst (λ (l : List StreamInfo). AreSeats state l body slaves shelves seats rest) e (subst (λ (c : Option (List ℕ)). AreSeats state infos c slaves shelves seats rest) h a)

pub found_within : (f : Found) (m n : ℕ) (old new : InputState) (ended : Bool) (known : Option Kinds) (has : List ℕ → List Tag → Type 0) → m ≡ n → FoundIn f m old new ended known has → FoundIn f n old new ended known has
found_within f m n old new ended known has e w = subst (λ (l : ℕ). FoundIn f l old new ended known has) e w

pub finding_within : (u : Unfound) (m n : ℕ) (old new : InputState) (ended : Bool) (known : Option Kinds) (has : List ℕ → List Tag → Type 0) → m ≡ n → Finding (Err u) m old new ended known has → Finding (Err u) n old new ended known has
finding_within u m n old new ended known has e w = subst (λ (l : ℕ). Finding (Err u) l old new ended known has) e w
