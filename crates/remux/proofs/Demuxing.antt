-- What the demuxer of FLV texts answers is what the loop asks of one.
use Rattle.std.proofs.Common.{◌≡◌, ℕ, ◌+◌, ◌<◌, ◌≤◌, ◌⊎◌, inl, inr, Bool, true, false, List, [], ◌∷◌, ◌++◌, length, ap, ◌∙◌, sym, refl, subst, arith, length-append, Option, Some, None, Result, Ok, Err}
use Rattle.std.specs.Prelude.{◌||◌, if◌then◌else◌, is_some, OnOk, OnErr}
use Rattle.rmx_media.specs.declared.packet.Packet.{Packet}
use Rattle.rmx_media.specs.declared.packet.Format.TheVariants.{Flv}
use Rattle.rmx_media.specs.declared.config.Config.{Config}
use Rattle.rmx_media.specs.declared.streams.Kind.TheVariants.{Video, Audio}
use Rattle.rmx_media.specs.declared.streams.MuxStreams.{MuxStreams}
use Rattle.rmx_media.specs.declared.streams.StreamInfo.{StreamInfo}
use Rattle.rmx_media.specs.Fits.{Fits}
use Rattle.rmx_media.specs.Streams.{kind_in}
use Rattle.flv_tags.specs.declared.tag.Tag.{Tag}
use Rattle.flv_tags.specs.declared.tag.TagFault.{TagFault}
use Rattle.flv_tags.specs.declared.tag.TagFault.TheVariants as fault
use Rattle.flv_tags.specs.Tags.{reading_of, is_flv, Begins}
use Rattle.flv_tags.specs.Reader.{HasNoFault}
use Rattle.flv_tags.proofs.HeadLemmas.{flv_is_long, reading_not_flv}
use Rattle.flv_demux.specs.declared.deal.Kinds.{Kinds}
use Rattle.flv_demux.specs.declared.deal.Shown.{Shown}
use Rattle.flv_demux.specs.declared.demuxer.DemuxStep.{DemuxStep}
use Rattle.flv_demux.specs.declared.demuxer.DemuxStep.TheVariants as next
use Rattle.flv_demux.specs.declared.demuxer.DemuxFault.{DemuxFault}
use Rattle.flv_demux.specs.declared.demuxer.DemuxFault.TheVariants as demux
use Rattle.flv_demux.specs.Probe.{probe_of, is_decided, kinds_of, info_list, kinds, streams, has_stream, stream_count, numbered}
use Rattle.flv_demux.specs.Deal.{packets_by}
use Rattle.flv_demux.specs.State as state
use Rattle.flv_demux.specs.State.{DemuxState, HasDealt, GivesPacket, DealsWithAll, Undecided, Settles, IsShown, IsTold, IsDecided, IsSure}
use Rattle.flv_demux.proofs.Demuxing.{sure_all, sure_decided, sure_readable}
use Rattle.flv_demux.proofs.Probing.{probe_stays}
use Rattle.flv_tags.proofs.Grow.{tags_grow}
use Rattle.remux.specs.Demuxed.{Gives, NoMore, Nexts, is_refused, Finds, Waits, Firsts}
use Rattle.remux.specs.Fit.{Fit, kind_at}
use Rattle.remux.specs.Told.{told}

kinds_in : (v a : Option Config) (n : ℕ) → kind_in (numbered (info_list Video v ++ info_list Audio a)) n ≡ kind_at record { video = is_some v; audio = is_some a } n
kinds_in (Some x) (Some y) n = refl
kinds_in (Some x) None n = refl
kinds_in None (Some y) n = refl
kinds_in None None n = refl

-- what is told is known
pub told_known : (d : DemuxState) (s : Kinds) → told d ≡ Some s → (d.shown.known ≡ true) × (d.core.known ≡ Some s)
told_known d s e = by d.shown.known d.core.known refl e
  where
    by : (b : Bool) (o : Option Kinds) → d.shown.known ≡ b → (if b then o else None) ≡ Some s → (d.shown.known ≡ true) × (o ≡ Some s)
    by true o f e = (f, e)
    by false o f e = absurd (none_some s e)
      where
        none_some : (s : Kinds) → None ≡ Some s → ⊥
        none_some s e = cc

told_some : (d : DemuxState) (k : Kinds) → d.shown.known ≡ true → d.core.known ≡ Some k → told d ≡ Some k
told_some d k e f = ap (λ (b : Bool). if b then d.core.known else None) e ∙ f

told_none : (d : DemuxState) → d.shown.known ≡ false → told d ≡ None
told_none d e = ap (λ (b : Bool). if b then d.core.known else None) e

-- the kinds that are known are those of all tags of the bytes fed
sure_of : (k : Kinds) (fed : List ℕ) (done : List Tag) (d : DemuxState) → HasDealt fed done d → d.core.known ≡ Some k → (k ≡ kinds (reading_of fed).tags) × IsSure d.core.probe fed d.core.reader.ended
sure_of k fed done d h e =
    let w = h.inner.known k e in
    (w.kinds ∙ ap kinds_of (sure_all d.core.probe fed d.core.reader.ended w.sure), w.sure)

pub calm_by : (v : Option TagFault) → (v ≡ Some fault.NotFlv → ⊥) → (v ≡ Some fault.BadOffset → ⊥) → is_refused v ≡ false
calm_by None f g = refl
calm_by (Some fault.NotFlv) f g = absurd (f refl)
calm_by (Some fault.BadOffset) f g = absurd (g refl)
calm_by (Some fault.CutTag) f g = refl
calm_by (Some fault.NoMemory) f g = refl

sure_calm : (fed : List ℕ) (d : DemuxState) → IsSure d.core.probe fed d.core.reader.ended → is_refused (reading_of fed).verdict ≡ false
sure_calm fed d w =
    calm_by (reading_of fed).verdict (λ e. sure_readable fault.NotFlv d.core.probe fed d.core.reader.ended (inl refl) e w) (λ e. sure_readable fault.BadOffset d.core.probe fed d.core.reader.ended (inr refl) e w)

decided_or : (fed : List ℕ) (ended : Bool) → IsDecided fed ended → (is_decided (probe_of (reading_of fed).tags) ≡ true) ⊎ (ended ≡ true)
decided_or fed ended (inl e) = inl e
decided_or fed ended (inr e) = inr e.0

finds_by : (k : Kinds) (fed : List ℕ) (done : List Tag) (ended : Bool) (d : DemuxState) → HasDealt fed done d → d.core.known ≡ Some k → d.shown.known ≡ true → d.core.reader.ended ≡ ended → 0 < stream_count k → Finds k fed ended (told d)
finds_by k fed done ended d h e shown en some =
    let w = sure_of k fed done d h e in
    record {
      known_is = told_some d k shown e;
      kinds_are = w.0;
      decided = decided_or fed ended (subst (λ (b : Bool). IsDecided fed b) en (sure_decided d.core.probe fed d.core.reader.ended w.1));
      some = some;
      calm = sure_calm fed d w.1;
    }

some_stream : (k : Kinds) → has_stream k ≡ true → 0 < stream_count k
some_stream k e = by k.video k.audio e
  where
    by : (v a : Bool) → (v || a) ≡ true → 0 < (if v then 1 else 0) + (if a then 1 else 0)
    by true true e = omega arith
    by true false e = omega arith
    by false true e = omega arith
    by false false e = absurd (no e)
      where
        no : false ≡ true → ⊥
        no h = cc

-- a packet that fits all streams
fit_of : (k : Kinds) (fed : List ℕ) (p : Packet) (d : DemuxState) → Settles k fed d → ((m : MuxStreams) → m.streams.items ≡ numbered d.core.infos → Fits Flv m p) → Fit k p
fit_of k fed p d w f =
    let m : MuxStreams = record { streams = record { items = numbered d.core.infos; spare = 0 }; script = None } in
    let x = f m refl in
    let q = probe_of (reading_of fed).tags in
    record {
      stream = ap (λ (z : Kinds). kind_at z p.stream) w.kinds ∙ sym (ap (λ (i : List StreamInfo). kind_in (numbered i) p.stream) w.infos ∙ kinds_in q.video q.audio p.stream) ∙ x.all.stream;
      config = x.all.config;
      native = x.all.suits.0;
      payload = x.all.payload;
      size = x.all.suits.1;
      early = x.all.early;
      late = x.all.late;
      low = x.low;
      high = x.high;
    }

gives_by : (p : Packet) (fed : List ℕ) (done : List Tag) (d : DemuxState) → (g : GivesPacket p fed done d) → Gives g.kinds fed done p (λ (ts : List Tag). HasDealt fed ts d)
gives_by p fed done d g = record {
  before = done ++ g.before;
  tag = g.tag;
  dealt = g.dealt;
  later = omega (arith, length-append done g.before);
  begin = g.begins;
  none_before = g.none;
  one = g.one;
  stream = g.below;
  order = g.rising;
  fit = fit_of g.kinds fed p d g.settled g.fits;
}

no_more_by : (fed : List ℕ) (done : List Tag) (d : DemuxState) → (w : DealsWithAll fed done d) → NoMore w.kinds fed done (λ (ts : List Tag). HasDealt fed ts d)
no_more_by fed done d w = record {
  dealt = subst (λ (ts : List Tag). HasDealt fed ts d) (sym w.all) w.passes.dealt;
  none = ap (packets_by w.kinds) w.all ∙ w.passes.none w.kinds w.settled.known;
}

-- what is told where it is up to date
told_now : (k : Kinds) (done : List Tag) (d : DemuxState) → IsTold done d → d.core.known ≡ Some k → d.shown.known ≡ true
told_now k done d t e = ap (λ (s : Shown). s.known) (t.known k e)

finds_packet : (p : Packet) (fed : List ℕ) (done : List Tag) (ended : Bool) (d : DemuxState) → d.core.reader.ended ≡ ended → (g : GivesPacket p fed done d) → Finds g.kinds fed ended (told d)
finds_packet p fed done ended d en g =
    finds_by g.kinds fed _ ended d g.dealt g.settled.known (told_now g.kinds _ d g.told g.settled.known) en (omega (arith, g.below))

finds_all : (fed : List ℕ) (done : List Tag) (ended : Bool) (d : DemuxState) → d.core.reader.ended ≡ ended → (w : DealsWithAll fed done d) → Finds w.kinds fed ended (told d)
finds_all fed done ended d en w =
    finds_by w.kinds fed _ ended d w.passes.dealt w.settled.known (told_now w.kinds _ d w.passes.told w.settled.known) en (some_stream w.kinds w.some)

offset_long : (b : List ℕ) → (reading_of b).verdict ≡ Some fault.BadOffset → 9 ≤ length b
offset_long b e = by (is_flv b) refl
  where
    other : Some fault.NotFlv ≡ Some fault.BadOffset → ⊥
    other h = cc

    by : (f : Bool) → is_flv b ≡ f → 9 ≤ length b
    by true h = flv_is_long b h
    by false h = absurd (other (sym (ap (λ r. r.verdict) (reading_not_flv b h)) ∙ e))

nine_or : (b : List ℕ) (ended : Bool) → (ended ≡ false → 9 ≤ length b) → (9 ≤ length b) ⊎ (ended ≡ true)
nine_or b true f = inr refl
nine_or b false f = inl (f refl)

waits_by : (fed : List ℕ) (ended : Bool) (d : DemuxState) → ended ≡ false → HasNoFault fed → Undecided fed [] d → is_decided (probe_of (reading_of fed).tags) ≡ false → Waits fed ended (told d) (λ (ts : List Tag). HasDealt fed ts d)
waits_by fed ended d e f u undecided = record {
  unended = e;
  unknown = told_none d (ap (λ (s : Shown). s.known) u.untold);
  dealt = u.dealt;
  undecided = undecided;
  calm = λ nine. calm_by (reading_of fed).verdict (λ v. absurd (few nine (f.not_flv v))) f.bad_offset;
}
  where
    few : 9 ≤ length fed → length fed < 9 → ⊥
    few a b = omega arith

-- what is answered while it isn't told which kinds have a stream
pub firsts_by : (r : Result DemuxStep DemuxFault) (fed : List ℕ) (ended : Bool) (old new : DemuxState) → new.core.reader.ended ≡ ended → state.Nexts r fed [] ended old new → Firsts r fed ended (told new) (λ (ts : List Tag). HasDealt fed ts new)
firsts_by (Ok (next.Packet p)) fed ended old new en g = (g.kinds, finds_packet p fed [] ended new en g, gives_by p fed [] new g)
firsts_by (Ok next.NeedMore) fed ended old new en n = by n.2
  where
    by : DealsWithAll fed [] new ⊎ (Undecided fed [] new × (is_decided (probe_of (reading_of fed).tags) ≡ false)) → Firsts (Ok next.NeedMore) fed ended (told new) (λ (ts : List Tag). HasDealt fed ts new)
    by (inl w) = inr (w.kinds, finds_all fed [] ended new en w, n.0, no_more_by fed [] new w)
    by (inr u) = inl (waits_by fed ended new n.0 n.1 u.0 u.1)
firsts_by (Ok next.End) fed ended old new en n = (n.2.kinds, finds_all fed [] ended new en n.2, n.0, n.1, no_more_by fed [] new n.2)
firsts_by (Err (demux.Tag fault.CutTag)) fed ended old new en n = (n.2.kinds, finds_all fed [] ended new en n.2, n.0, n.1, no_more_by fed [] new n.2)
firsts_by (Err (demux.Tag fault.NotFlv)) fed ended old new en n = (nine_or fed ended n.1, n.0)
firsts_by (Err (demux.Tag fault.BadOffset)) fed ended old new en n = (inl (offset_long fed n.0), n.0)
firsts_by (Err (demux.Tag fault.NoMemory)) fed ended old new en n = absurd n
firsts_by (Err demux.NoStreams) fed ended old new en n = record {
  settled = decided_or fed ended n.decided;
  none = n.no_streams;
  calm = sure_calm fed new (sure_of n.kinds fed [] new n.dealt n.settled.known).1;
}
firsts_by (Err demux.NoMemory) fed ended old new en n = tt

no_streams_none : (k : Kinds) (fed : List ℕ) → k ≡ kinds (reading_of fed).tags → streams (reading_of fed).tags ≡ [] → 0 < stream_count k → ⊥
no_streams_none k fed e none some =
    let q = probe_of (reading_of fed).tags in by q.video q.audio none (subst (λ (z : Kinds). 0 < stream_count z) e some)
  where
    by : (v a : Option Config) → info_list Video v ++ info_list Audio a ≡ [] → 0 < stream_count record { video = is_some v; audio = is_some a } → ⊥
    by (Some x) a e some = cc
    by None (Some y) e some = cc
    by None None e some = omega arith

-- and where it is told
pub nexts_by : (r : Result DemuxStep DemuxFault) (s : Kinds) (fed : List ℕ) (done : List Tag) (ended : Bool) (old new : DemuxState) → old.core.reader.ended ≡ ended → new.core.reader.ended ≡ ended → told old ≡ Some s → 0 < stream_count s → HasDealt fed done old → state.Nexts r fed done ended old new →
    Nexts r s fed done ended (told new) (λ (ts : List Tag). HasDealt fed ts new)
nexts_by (Ok (next.Packet p)) s fed done ended old new eo en k some h g =
    let w = sure_of s fed done old h (told_known old s k).1 in
    let same : g.kinds ≡ s = g.settled.kinds ∙ sym w.0 in
    (subst (λ (z : Kinds). told new ≡ Some z) same (finds_packet p fed done ended new en g).known_is, subst (λ (z : Kinds). Gives z fed done p (λ (ts : List Tag). HasDealt fed ts new)) same (gives_by p fed done new g))
nexts_by (Ok next.NeedMore) s fed done ended old new eo en k some h n = by n.2
  where
    by : DealsWithAll fed done new ⊎ (Undecided fed done new × (is_decided (probe_of (reading_of fed).tags) ≡ false)) → (told new ≡ Some s) × (ended ≡ false) × NoMore s fed done (λ (ts : List Tag). HasDealt fed ts new)
    by (inl w) =
        let same : w.kinds ≡ s = w.settled.kinds ∙ sym (sure_of s fed done old h (told_known old s k).1).0 in
        (subst (λ (z : Kinds). told new ≡ Some z) same (finds_all fed done ended new en w).known_is, n.0, subst (λ (z : Kinds). NoMore z fed done (λ (ts : List Tag). HasDealt fed ts new)) same (no_more_by fed done new w))
    by (inr u) = absurd (decided (decided_or fed ended (subst (λ (b : Bool). IsDecided fed b) eo (sure_decided old.core.probe fed old.core.reader.ended (sure_of s fed done old h (told_known old s k).1).1))) u.1 n.0)
      where
        no : (b : Bool) → b ≡ true → b ≡ false → ⊥
        no b t f = bad (sym t ∙ f)
          where
            bad : true ≡ false → ⊥
            bad h = cc

        decided : (is_decided (probe_of (reading_of fed).tags) ≡ true) ⊎ (ended ≡ true) → is_decided (probe_of (reading_of fed).tags) ≡ false → ended ≡ false → ⊥
        decided (inl d) f g = no _ d f
        decided (inr e) f g = no _ e g
nexts_by (Ok next.End) s fed done ended old new eo en k some h n =
    let same : n.2.kinds ≡ s = n.2.settled.kinds ∙ sym (sure_of s fed done old h (told_known old s k).1).0 in
    (subst (λ (z : Kinds). told new ≡ Some z) same (finds_all fed done ended new en n.2).known_is, n.0, n.1, subst (λ (z : Kinds). NoMore z fed done (λ (ts : List Tag). HasDealt fed ts new)) same (no_more_by fed done new n.2))
nexts_by (Err (demux.Tag fault.CutTag)) s fed done ended old new eo en k some h n =
    let same : n.2.kinds ≡ s = n.2.settled.kinds ∙ sym (sure_of s fed done old h (told_known old s k).1).0 in
    (subst (λ (z : Kinds). told new ≡ Some z) same (finds_all fed done ended new en n.2).known_is, n.0, refl, n.1, subst (λ (z : Kinds). NoMore z fed done (λ (ts : List Tag). HasDealt fed ts new)) same (no_more_by fed done new n.2))
nexts_by (Err (demux.Tag fault.NotFlv)) s fed done ended old new eo en k some h n =
    sure_readable fault.NotFlv old.core.probe fed old.core.reader.ended (inl refl) n.0 (sure_of s fed done old h (told_known old s k).1).1
nexts_by (Err (demux.Tag fault.BadOffset)) s fed done ended old new eo en k some h n =
    sure_readable fault.BadOffset old.core.probe fed old.core.reader.ended (inr refl) n.0 (sure_of s fed done old h (told_known old s k).1).1
nexts_by (Err (demux.Tag fault.NoMemory)) s fed done ended old new eo en k some h n = absurd n
nexts_by (Err demux.NoStreams) s fed done ended old new eo en k some h n = no_streams_none s fed (sure_of s fed done old h (told_known old s k).1).0 n.no_streams some
nexts_by (Err demux.NoMemory) s fed done ended old new eo en k some h n = record { tags = done; begin = begins_of fed done new n.0; dealt = n.0 }
  where
    begins_of : (fed : List ℕ) (done : List Tag) (d : DemuxState) → HasDealt fed done d → Begins fed done
    begins_of fed done d h = let b = h.inner.begins in (h.quiet ++ (d.core.waiting ++ b.0), b.1 ∙ regroup done h.quiet d.core.waiting b.0)
      where
        regroup : (a b c e : List Tag) → ((a ++ b) ++ c) ++ e ≡ a ++ (b ++ (c ++ e))
        regroup [] b c e = assoc b c e
          where
            assoc : (b c e : List Tag) → (b ++ c) ++ e ≡ b ++ (c ++ e)
            assoc [] c e = refl
            assoc (x ∷ b) c e = ap (λ (l : List Tag). x ∷ l) (assoc b c e)
        regroup (x ∷ a) b c e = ap (λ (l : List Tag). x ∷ l) (regroup a b c e)

-- the kinds stay where the tags decided them
fed_same : (fed piece : List ℕ) (d : DemuxState) → d.core.reader.ended ≡ false → IsSure d.core.probe fed d.core.reader.ended → kinds (reading_of (fed ++ piece)).tags ≡ kinds (reading_of fed).tags
fed_same fed piece d e w = by (decided_or fed d.core.reader.ended (sure_decided d.core.probe fed d.core.reader.ended w))
  where
    by : (is_decided (probe_of (reading_of fed).tags) ≡ true) ⊎ (d.core.reader.ended ≡ true) → kinds (reading_of (fed ++ piece)).tags ≡ kinds (reading_of fed).tags
    by (inl sure) = let g = tags_grow fed piece in ap kinds g.1 ∙ ap kinds_of (probe_stays (reading_of fed).tags g.0 sure)
    by (inr t) = absurd (no (sym e ∙ t))
      where
        no : false ≡ true → ⊥
        no h = cc

-- what is told stays so
told_stays : (fed later : List ℕ) (done : List Tag) (old new : DemuxState) → HasDealt fed done old → HasDealt later done new → new.shown ≡ old.shown →
    (IsSure old.core.probe fed old.core.reader.ended → kinds (reading_of later).tags ≡ kinds (reading_of fed).tags) → told new ≡ told old
told_stays fed later done old new h k e stay = by old.shown.known refl
  where
    no : false ≡ true → ⊥
    no h = cc

    shown_in : (d : DemuxState) → IsShown done d → d.shown.known ≡ true → (x : Kinds) × (d.core.known ≡ Some x)
    shown_in d (inl (f, g)) t = absurd (no (sym (ap (λ (s : Shown). s.known) f) ∙ t))
    shown_in d (inr (x, f, g)) t = (x, f)

    by : (b : Bool) → old.shown.known ≡ b → told new ≡ told old
    by false f = told_none new (ap (λ (s : Shown). s.known) e ∙ f) ∙ sym (told_none old f)
    by true f =
        let t : new.shown.known ≡ true = ap (λ (s : Shown). s.known) e ∙ f in
        let a = shown_in old h.shown f in
        let b = shown_in new k.shown t in
        let wa = sure_of a.0 fed done old h a.1 in
        let wb = sure_of b.0 later done new k b.1 in
        let same : b.0 ≡ a.0 = wb.0 ∙ stay wa.1 ∙ sym wa.0 in
        told_some new b.0 t b.1 ∙ ap (λ (x : Kinds). Some x) same ∙ sym (told_some old a.0 f a.1)

pub told_fed : (fed piece : List ℕ) (done : List Tag) (old new : DemuxState) → HasDealt fed done old → HasDealt (fed ++ piece) done new → new.shown ≡ old.shown → old.core.reader.ended ≡ false → told new ≡ told old
told_fed fed piece done old new h k e o = told_stays fed (fed ++ piece) done old new h k e (fed_same fed piece old o)

pub told_ended : (fed : List ℕ) (done : List Tag) (old new : DemuxState) → HasDealt fed done old → HasDealt fed done new → new.shown ≡ old.shown → told new ≡ told old
told_ended fed done old new h k e = told_stays fed fed done old new h k e (λ w. refl)

pub told_after : {T E : Type 0} (r : Result T E) (piece : List ℕ) (old new : DemuxState) → OnOk r ((fed : List ℕ) (done : List Tag) → HasDealt fed done old → HasDealt (fed ++ piece) done new) → OnErr r (new ≡ old) → new.shown ≡ old.shown → old.core.reader.ended ≡ false →
    (fed : List ℕ) (done : List Tag) → HasDealt fed done old → told new ≡ told old
told_after (Ok x) piece old new f e s o = λ fed done h. told_fed fed piece done old new h (f fed done h) s o
told_after (Err x) piece old new f e s o = λ fed done h. ap told e
