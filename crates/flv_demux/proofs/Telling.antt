-- What is told of the tags dealt with.
use Rattle.std.proofs.Common.{◌≡◌, ℕ, ◌<◌, ◌⊎◌, inl, inr, Bool, true, false, ◌||◌, List, [], ◌∷◌, ◌++◌, append_assoc, append-nil, ap, ◌∙◌, sym, refl, subst, Option, Some, None, Result, Ok, Err, arith}
use Rattle.std.specs.Prelude.{is_some, ◌≤ℤ◌}
use Rattle.rmx_media.specs.declared.packet.Packet.{Packet}
use Rattle.rmx_media.specs.declared.packet.Format.TheVariants.{Flv}
use Rattle.rmx_media.specs.declared.config.Config.{Config}
use Rattle.rmx_media.specs.declared.streams.Kind.{Kind}
use Rattle.rmx_media.specs.declared.streams.Kind.TheVariants.{Video, Audio}
use Rattle.rmx_media.specs.declared.streams.StreamInfo.{StreamInfo}
use Rattle.rmx_media.specs.declared.streams.MuxStream.{MuxStream}
use Rattle.rmx_media.specs.declared.streams.MuxStreams.{MuxStreams}
use Rattle.rmx_media.specs.Config.{kind_of}
use Rattle.rmx_media.specs.Fits.{Fits}
use Rattle.rmx_media.specs.Streams.{kind_in}
use Rattle.flv_tags.specs.declared.tag.Tag.{Tag}
use Rattle.flv_tags.specs.declared.tag.TagFault.TheVariants as fault
use Rattle.flv_tags.specs.Tags.{reading_of, Begins}
use Rattle.flv_tags.specs.Reader.{ReaderState, HasRead}
use Rattle.flv_demux.specs.declared.deal.Desk.{Desk}
use Rattle.flv_demux.specs.declared.deal.Kinds.{Kinds}
use Rattle.flv_demux.specs.declared.deal.Probe.{Probe}
use Rattle.flv_demux.specs.declared.deal.Shown.{Shown}
use Rattle.flv_demux.specs.declared.demuxer.DemuxStep.{DemuxStep}
use Rattle.flv_demux.specs.declared.demuxer.DemuxStep.TheVariants as next
use Rattle.flv_demux.specs.declared.demuxer.DemuxFault.{DemuxFault}
use Rattle.flv_demux.specs.declared.demuxer.DemuxFault.TheVariants as demux
use Rattle.flv_demux.specs.declared.steps.Stepped.TheVariants as stepped
use Rattle.flv_demux.specs.Probe.{probe_of, is_decided, kinds_of, infos_of, info_list, has, has_stream, number_of_stream, stream_count, numbered}
use Rattle.flv_demux.specs.Deal.{desk_of, new_desk, packets_by, last_dts}
use Rattle.flv_demux.specs.State.{Core, DemuxState, Demuxed, HasDealt, IsShown, IsTold, Settles, GivesPacket, Passes, DealsWithAll, Undecided, HasNoStreams, Nexts, unshown, shown_of, IsOfStream, IsDecided}
use Rattle.flv_demux.specs.Steps.{GivesOne, PassesOn, IsThrough, HasNone, Steps, GivesNext, Advances, is_refusal}
use Rattle.flv_demux.proofs.Demuxing.{sure_all, sure_decided, same_kinds, demuxed_fed, demuxed_ended}
use Rattle.flv_demux.proofs.Longer.{desk_of-none}
use Rattle.flv_demux.proofs.Probing.{probe_of-none}
use Rattle.flv_demux.specs.Probe.{no_probe}
use Rattle.std.specs.Prelude.{OnOk}

-- what is told by what is known and seen
abbrev pub told_of : Core → Shown
told_of s = record { known = is_some s.known; tags = s.desk.tags; discards = s.desk.discards }

abbrev pub telling : Core → DemuxState
telling s = record { core = s; shown = told_of s }

none_some : (k : Kinds) → None ≡ Some k → ⊥
none_some k e = cc

told_unknown : (fed : List ℕ) (done : List Tag) (s : Core) → s.known ≡ None → Demuxed fed done s → (told_of s ≡ unshown) × (done ≡ [])
told_unknown fed done s n m =
    let u = m.unknown n in
    (ap (λ (o : Option Kinds). record { known = is_some o; tags = s.desk.tags; discards = s.desk.discards }) n ∙ ap (λ (d : Desk). record { known = false; tags = d.tags; discards = d.discards }) u.desk, u.done_none)

told_known : (fed : List ℕ) (done : List Tag) (s : Core) (k : Kinds) → s.known ≡ Some k → Demuxed fed done s → told_of s ≡ shown_of (desk_of k done)
told_known fed done s k n m =
    ap (λ (o : Option Kinds). record { known = is_some o; tags = s.desk.tags; discards = s.desk.discards }) n ∙ ap shown_of (m.known k n).desk

told : (fed : List ℕ) (done : List Tag) (s : Core) → Demuxed fed done s → IsTold done (telling s)
told fed done s m = record { unknown = λ n. (told_unknown fed done s n m).0; known = λ k n. told_known fed done s k n m }

dealt : (fed : List ℕ) (done : List Tag) (s : Core) → Demuxed fed done s → HasDealt fed done (telling s)
dealt fed done s m = record {
  quiet = [];
  inner = subst (λ (ts : List Tag). Demuxed fed ts s) (sym (append-nil done)) m;
  none = λ k n. ap (packets_by k) (append-nil done);
  shown = by s.known refl;
}
  where
    by : (o : Option Kinds) → s.known ≡ o → IsShown done (telling s)
    by None n = inl (told_unknown fed done s n m)
    by (Some k) n = inr (k, n, told_known fed done s k n m)

settled : (fed : List ℕ) (done : List Tag) (s : Core) (k : Kinds) → s.known ≡ Some k → Demuxed fed done s → Settles k fed (telling s)
settled fed done s k n m =
    let d = m.known k n in
    let p : s.probe ≡ probe_of (reading_of fed).tags = sure_all s.probe fed s.reader.ended d.sure in
    record {
      known = n;
      kinds = d.kinds ∙ ap kinds_of p;
      infos = d.infos ∙ ap infos_of p;
      script = ap (λ (q : Probe). q.script) p;
    }

-- the stream of a packet is where its number says
kind_at : (v a : Option Config) (kind : Kind) → has record { video = is_some v; audio = is_some a } kind ≡ true → kind_in (numbered (info_list Video v ++ info_list Audio a)) (number_of_stream record { video = is_some v; audio = is_some a } kind) ≡ Some kind
kind_at (Some v) (Some a) Video h = refl
kind_at (Some v) None Video h = refl
kind_at None (Some a) Video h = cc
kind_at None None Video h = cc
kind_at (Some v) (Some a) Audio h = refl
kind_at None (Some a) Audio h = refl
kind_at (Some v) None Audio h = cc
kind_at None None Audio h = cc

below_count : (v a : Bool) (kind : Kind) → has record { video = v; audio = a } kind ≡ true → number_of_stream record { video = v; audio = a } kind < stream_count record { video = v; audio = a }
below_count true true Video t = omega arith
below_count true false Video t = omega arith
below_count false a Video t = cc
below_count true true Audio t = omega arith
below_count false true Audio t = omega arith
below_count v false Audio t = cc

below : (k : Kinds) (p : Packet) → IsOfStream k p → p.stream < stream_count k
below k p o = subst (λ (n : ℕ). n < stream_count k) (sym o.number) (below_count k.video k.audio o.kind o.there)

stream_there : (s : Core) (k : Kinds) (p : Packet) (items : List MuxStream) → k ≡ kinds_of s.probe → s.infos ≡ infos_of s.probe → items ≡ numbered s.infos → IsOfStream k p → kind_in items p.stream ≡ Some (kind_of p.config)
stream_there s k p items e i n o =
    ap (λ (is : List MuxStream). kind_in is p.stream) (n ∙ ap numbered i)
    ∙ ap (kind_in (numbered (infos_of s.probe))) (o.number ∙ ap (λ (j : Kinds). number_of_stream j o.kind) e)
    ∙ kind_at s.probe.video s.probe.audio o.kind (ap (λ (j : Kinds). has j o.kind) (sym e) ∙ o.there)
    ∙ ap Some (sym o.sound.config.same)

fits : (s : Core) (k : Kinds) (p : Packet) (m : MuxStreams) → k ≡ kinds_of s.probe → s.infos ≡ infos_of s.probe → m.streams.items ≡ numbered s.infos → IsOfStream k p → Fits Flv m p
fits s k p m e i n o = record {
  all = record {
    stream = stream_there s k p m.streams.items e i n o;
    config = o.sound.config.read;
    payload = rw o.sound.native o.sound.payload;
    size = let h = o.sound.size in omega (arith, h);
    early = o.sound.early;
    late = o.sound.late;
    suits = (o.sound.native, o.sound.size);
  };
  low = o.sound.low;
  high = o.sound.high;
}

begins_front : (fed : List ℕ) (front rest : List Tag) → Begins fed (front ++ rest) → Begins fed front
begins_front fed front rest b = (rest ++ b.0, b.1 ∙ append_assoc front rest b.0)

no_front : (xs ys : List Tag) → xs ++ ys ≡ [] → xs ≡ []
no_front [] ys e = refl
no_front (x ∷ xs) ys e = cc

-- tags without a packet are as if they hadn't come
both_none : (fed : List ℕ) (done quiet : List Tag) (old new : Core) → Demuxed fed (done ++ quiet) old → ((k : Kinds) → old.known ≡ Some k → packets_by k (done ++ quiet) ≡ packets_by k done) → ((k : Kinds) → old.known ≡ Some k → new.known ≡ Some k) → (k : Kinds) → new.known ≡ Some k → packets_by k (done ++ quiet) ≡ packets_by k done
both_none fed done quiet old new m none keeps k n = by old.known refl
  where
    by : (o : Option Kinds) → old.known ≡ o → packets_by k (done ++ quiet) ≡ packets_by k done
    by None e = let u = (m.unknown e).done_none in ap (packets_by k) (u ∙ sym (no_front done quiet u))
    by (Some l) e = none k (e ∙ ap Some (same_kinds l k (sym (keeps l e) ∙ n)))

pub passes_on : (fed : List ℕ) (done : List Tag) (mid new : Core) → ((k : Kinds) → mid.known ≡ Some k → new.known ≡ Some k) → (p : PassesOn fed done mid) → PassesOn fed (done ++ p.more) new → PassesOn fed done new
passes_on fed done mid new keeps p q = record {
  more = p.more ++ q.more;
  dealt = subst (λ (ts : List Tag). Demuxed fed ts new) (append_assoc done p.more q.more) q.dealt;
  none = λ k n. ap (packets_by k) (sym (append_assoc done p.more q.more)) ∙ q.none k n ∙ both_none fed done p.more mid new p.dealt p.none keeps k n;
}

-- and then comes this
pub passes_to : (fed : List ℕ) (done : List Tag) (mid new : Core) → ((k : Kinds) → mid.known ≡ Some k → new.known ≡ Some k) → (p : PassesOn fed done mid) → Demuxed fed (done ++ p.more) new → (q : PassesOn fed done new) × (q.more ≡ p.more)
passes_to fed done mid new keeps p m = (record { more = p.more; dealt = m; none = λ k n. both_none fed done p.more mid new p.dealt p.none keeps k n }, refl)

-- the answers, from the steps up to them
module _ (fed : List ℕ) (done : List Tag) (mid new : Core) (keeps : (k : Kinds) → mid.known ≡ Some k → new.known ≡ Some k) (p : PassesOn fed done mid) where
  pub packet_next : (packet : Packet) → GivesOne packet fed (done ++ p.more) new → GivesNext packet fed done new
  packet_next packet g = record { before = p.more; none = λ k n. both_none fed done p.more mid new p.dealt p.none keeps k n; gives = g }

  pub more_next : (ended : Bool) → Steps (Ok stepped.NeedMore) fed (done ++ p.more) ended new → Advances (Ok next.NeedMore) fed done ended new
  more_next ended s =
      let q = passes_to fed done mid new keeps p s.0 in
      (q.0, subst (λ (ts : List Tag). Steps (Ok stepped.NeedMore) fed (done ++ ts) ended new) (sym q.1) s)

  pub end_next : (ended : Bool) → Steps (Ok stepped.End) fed (done ++ p.more) ended new → Advances (Ok next.End) fed done ended new
  end_next ended s =
      let q = passes_to fed done mid new keeps p s.0 in
      (q.0, subst (λ (ts : List Tag). Steps (Ok stepped.End) fed (done ++ ts) ended new) (sym q.1) s)

  dealt_at_err : (f : DemuxFault) (ended : Bool) → Steps (Err f) fed (done ++ p.more) ended new → Demuxed fed (done ++ p.more) new
  dealt_at_err (demux.Tag fault.NotFlv) ended s = s.0
  dealt_at_err (demux.Tag fault.BadOffset) ended s = s.0
  dealt_at_err (demux.Tag fault.CutTag) ended s = s.0
  dealt_at_err (demux.Tag fault.NoMemory) ended s = absurd s
  dealt_at_err demux.NoStreams ended s = s.0
  dealt_at_err demux.NoMemory ended s = s

  pub err_next : (f : DemuxFault) (ended : Bool) → Steps (Err f) fed (done ++ p.more) ended new → Advances (Err f) fed done ended new
  err_next f ended s =
      let q = passes_to fed done mid new keeps p (dealt_at_err f ended s) in
      (q.0, subst (λ (ts : List Tag). Steps (Err f) fed (done ++ ts) ended new) (sym q.1) s)

-- what is told then
module _ (fed : List ℕ) (done : List Tag) (old : DemuxState) (new : Core) (h : HasDealt fed done old) (keeps : (k : Kinds) → old.core.known ≡ Some k → new.known ≡ Some k) where
  moved : (more : List Tag) → (done ++ h.quiet) ++ more ≡ done ++ (h.quiet ++ more)
  moved more = append_assoc done h.quiet more

  quiet_none : (k : Kinds) → new.known ≡ Some k → packets_by k (done ++ h.quiet) ≡ packets_by k done
  quiet_none k n = both_none fed done h.quiet old.core new h.inner h.none keeps k n

  gives_packet : (p : Packet) → GivesNext p fed (done ++ h.quiet) new → GivesPacket p fed done (telling new)
  gives_packet p g =
      let o = g.gives in
      let base = (done ++ h.quiet) ++ g.before in
      let e : base ≡ done ++ (h.quiet ++ g.before) = moved g.before in
      let k = o.kinds in
      let same : packets_by k base ≡ packets_by k done = g.none k o.known ∙ quiet_none k o.known in
      let d = o.dealt.known k o.known in
      record {
        kinds = k;
        before = h.quiet ++ g.before;
        tag = o.tag;
        settled = settled fed (base ++ o.tag ∷ []) new k o.known o.dealt;
        dealt = subst (λ (b : List Tag). HasDealt fed (b ++ o.tag ∷ []) (telling new)) e (dealt fed (base ++ o.tag ∷ []) new o.dealt);
        begins = subst (λ (b : List Tag). Begins fed (b ++ o.tag ∷ [])) e (begins_front fed (base ++ o.tag ∷ []) new.waiting o.dealt.begins);
        none = ap (packets_by k) (sym e) ∙ same;
        one = ap (λ (b : List Tag). packets_by k (b ++ o.tag ∷ [])) (sym e) ∙ o.one ∙ ap (λ (ps : List Packet). ps ++ p ∷ []) same;
        told = subst (λ (b : List Tag). IsTold (b ++ o.tag ∷ []) (telling new)) e (told fed (base ++ o.tag ∷ []) new o.dealt);
        rising = subst (λ (ps : List Packet). last_dts p.stream ps ≤ℤ p.dts) same o.rising;
        below = below k p o.stream;
        fits = λ m n. fits new k p m d.kinds d.infos n o.stream;
      }

  passes : (p : PassesOn fed (done ++ h.quiet) new) → Passes fed done (telling new)
  passes p = record {
    more = h.quiet ++ p.more;
    dealt = subst (λ (b : List Tag). HasDealt fed b (telling new)) (moved p.more) (dealt fed ((done ++ h.quiet) ++ p.more) new p.dealt);
    none = λ k n. ap (packets_by k) (sym (moved p.more)) ∙ p.none k n ∙ quiet_none k n;
    told = subst (λ (b : List Tag). IsTold b (telling new)) (moved p.more) (told fed ((done ++ h.quiet) ++ p.more) new p.dealt);
  }

  deals_with_all : (p : PassesOn fed (done ++ h.quiet) new) → IsThrough fed ((done ++ h.quiet) ++ p.more) new → DealsWithAll fed done (telling new)
  unfolding passes
  deals_with_all p t = record {
    passes = passes p;
    kinds = t.kinds;
    settled = settled fed ((done ++ h.quiet) ++ p.more) new t.kinds t.known p.dealt;
    some = t.some;
    all = t.all ∙ moved p.more;
  }

  none_done : (p : PassesOn fed (done ++ h.quiet) new) → (done ++ h.quiet) ++ p.more ≡ [] → done ≡ []
  none_done p e = no_front done (h.quiet ++ p.more) (sym (moved p.more) ∙ e)

  undecided : (p : PassesOn fed (done ++ h.quiet) new) → new.known ≡ None → Undecided fed done (telling new)
  undecided p n =
      let u = told_unknown fed ((done ++ h.quiet) ++ p.more) new n p.dealt in
      let e : done ≡ [] = none_done p u.1 in
      record {
        dealt = subst (λ (b : List Tag). HasDealt fed b (telling new)) (u.1 ∙ sym e) (dealt fed ((done ++ h.quiet) ++ p.more) new p.dealt);
        unknown = n;
        none = e;
        untold = u.0;
      }

  no_infos : (v a : Option Config) → (is_some v || is_some a) ≡ false → info_list Video v ++ info_list Audio a ≡ []
  no_infos None None e = refl
  no_infos (Some v) a e = cc
  no_infos None (Some a) e = cc

  no_streams : (ended : Bool) → new.reader.ended ≡ ended → (p : PassesOn fed (done ++ h.quiet) new) → HasNone new → HasNoStreams fed done ended (telling new)
  no_streams ended r p x =
      let d = p.dealt.known x.kinds x.known in
      let i : (done ++ h.quiet) ++ p.more ≡ [] = d.idle x.none in
      let e : done ≡ [] = none_done p i in
      let s = settled fed ((done ++ h.quiet) ++ p.more) new x.kinds x.known p.dealt in
      record {
        dealt = subst (λ (b : List Tag). HasDealt fed b (telling new)) (i ∙ sym e) (dealt fed ((done ++ h.quiet) ++ p.more) new p.dealt);
        kinds = x.kinds;
        settled = s;
        decided = subst (IsDecided fed) r (sure_decided new.probe fed new.reader.ended d.sure);
        no_streams = sym s.infos ∙ d.infos ∙ no_infos new.probe.video new.probe.audio (ap has_stream (sym d.kinds) ∙ x.none);
        none = e;
        told = told_known fed ((done ++ h.quiet) ++ p.more) new x.kinds x.known p.dealt ∙ ap shown_of (ap (desk_of x.kinds) i ∙ desk_of-none x.kinds);
      }

  pub nexts : (r : Result DemuxStep DemuxFault) (ended : Bool) → new.reader.ended ≡ ended → is_refusal r ≡ false → Advances r fed (done ++ h.quiet) ended new → Nexts r fed done ended old (telling new)
  nexts (Ok (next.Packet p)) ended r f a = gives_packet p a
  nexts (Ok next.NeedMore) ended r f (p, s) = (s.1, s.2, by s.3)
    where
      by : IsThrough fed ((done ++ h.quiet) ++ p.more) new ⊎ ((new.known ≡ None) × (is_decided (probe_of (reading_of fed).tags) ≡ false)) → DealsWithAll fed done (telling new) ⊎ (Undecided fed done (telling new) × (is_decided (probe_of (reading_of fed).tags) ≡ false))
      by (inl t) = inl (deals_with_all p t)
      by (inr n) = inr (undecided p n.0, n.1)
  nexts (Ok next.End) ended r f (p, s) = (s.1, s.2, deals_with_all p s.3)
  nexts (Err (demux.Tag fault.CutTag)) ended r f (p, s) = (s.1, s.2, deals_with_all p s.3)
  nexts (Err (demux.Tag fault.NotFlv)) ended r f (p, s) = (s.2, s.3, undecided p s.1)
  nexts (Err (demux.Tag fault.BadOffset)) ended r f (p, s) = (s.2, undecided p s.1)
  nexts (Err (demux.Tag fault.NoMemory)) ended r f (p, s) = s
  nexts (Err demux.NoStreams) ended r f (p, s) = no_streams ended r p s.1
  nexts (Err demux.NoMemory) ended r f a = cc

  pub refused : (ended : Bool) → Advances (Err demux.NoMemory) fed (done ++ h.quiet) ended new → HasDealt fed done record { core = new; shown = old.shown }
  refused ended (p, s) = record {
    quiet = h.quiet ++ p.more;
    inner = subst (λ (b : List Tag). Demuxed fed b new) (moved p.more) p.dealt;
    none = λ k n. ap (packets_by k) (sym (moved p.more)) ∙ p.none k n ∙ quiet_none k n;
    shown = by h.shown;
  }
    where
      by : IsShown done old → IsShown done record { core = new; shown = old.shown }
      by (inl e) = inl e
      by (inr e) = inr (e.0, keeps e.0 e.1, e.2)

  pub refused_any : (r : Result DemuxStep DemuxFault) (ended : Bool) (state : DemuxState) → state.core ≡ new → state.shown ≡ old.shown → is_refusal r ≡ true → Advances r fed (done ++ h.quiet) ended new → Nexts r fed done ended old state
  refused_any (Ok (next.Packet p)) ended state e f t a = cc
  refused_any (Ok next.NeedMore) ended state e f t a = cc
  refused_any (Ok next.End) ended state e f t a = cc
  refused_any (Err (demux.Tag f)) ended state e g t a = cc
  refused_any (Err demux.NoStreams) ended state e f t a = cc
  refused_any (Err demux.NoMemory) ended state e f t a = (subst (HasDealt fed done) (sym (state_is state e f)) (refused ended a), f)
    where
      state_is : (s : DemuxState) → s.core ≡ new → s.shown ≡ old.shown → s ≡ record { core = new; shown = old.shown }
      state_is s e f = ap (λ (x : Core). record { core = x; shown = s.shown }) e ∙ ap (λ (x : Shown). record { core = new; shown = x }) f

pub nexts_told : (r : Result DemuxStep DemuxFault) (fed : List ℕ) (done : List Tag) (ended : Bool) (old state : DemuxState) (new : Core) → state.core ≡ new → state.shown ≡ told_of new → Nexts r fed done ended old (telling new) → Nexts r fed done ended old state
nexts_told r fed done ended old state new e f n = subst (Nexts r fed done ended old) (sym (state_is state e f)) n
  where
    state_is : (s : DemuxState) → s.core ≡ new → s.shown ≡ told_of new → s ≡ telling new
    state_is s e f = ap (λ (x : Core). record { core = x; shown = s.shown }) e ∙ ap (λ (x : Shown). record { core = new; shown = x }) f

-- a new demuxer
pub new_dealt : (reader : ReaderState) (waiting : List Tag) (probe : Probe) (infos : List StreamInfo) (desk : Desk) → HasRead [] [] reader → waiting ≡ [] → probe ≡ no_probe → desk ≡ new_desk →
    HasDealt [] [] record { core = record { reader = reader; waiting = waiting; looked = 0; probe = probe; known = None; infos = infos; desk = desk }; shown = unshown }
new_dealt reader waiting probe infos desk r w p d = subst (λ (ws : List Tag). HasDealt [] [] record { core = record { reader = reader; waiting = ws; looked = 0; probe = probe; known = None; infos = infos; desk = desk }; shown = unshown }) (sym w) record {
  quiet = [];
  inner = record {
    read = r;
    begins = ((reading_of []).tags, refl);
    unknown = λ n. record { done_none = refl; desk = d; within = omega arith; probe = p ∙ sym probe_of-none };
    known = λ k n. absurd (none_some k n);
  };
  none = λ k n. refl;
  shown = inl (refl, refl);
}

shown_at : (done : List Tag) (s : DemuxState) (reader : ReaderState) → IsShown done s → IsShown done record { core = record s.core { reader = reader }; shown = s.shown }
shown_at done s reader (inl e) = inl e
shown_at done s reader (inr e) = inr e

pub fed_dealt : (fed piece : List ℕ) (done : List Tag) (s : DemuxState) (reader : ReaderState) → s.core.reader.ended ≡ false → ((tags : List Tag) → HasRead fed tags s.core.reader → HasRead (fed ++ piece) tags reader) → HasDealt fed done s → HasDealt (fed ++ piece) done record { core = record s.core { reader = reader }; shown = s.shown }
fed_dealt fed piece done s reader e r h = record {
  quiet = h.quiet;
  inner = demuxed_fed fed piece (done ++ h.quiet) s.core reader e (r ((done ++ h.quiet) ++ s.core.waiting) h.inner.read) h.inner;
  none = h.none;
  shown = shown_at done s reader h.shown;
}

pub ended_dealt : (fed : List ℕ) (done : List Tag) (s : DemuxState) (reader : ReaderState) → reader.ended ≡ true → ((tags : List Tag) → HasRead fed tags s.core.reader → HasRead fed tags reader) → HasDealt fed done s → HasDealt fed done record { core = record s.core { reader = reader }; shown = s.shown }
ended_dealt fed done s reader e r h = record {
  quiet = h.quiet;
  inner = demuxed_ended fed (done ++ h.quiet) s.core reader e (r ((done ++ h.quiet) ++ s.core.waiting) h.inner.read) h.inner;
  none = h.none;
  shown = shown_at done s reader h.shown;
}

pub on_ok : {T E A B : Type 0} (r : Result T E) → (A → B) → OnOk r A → OnOk r B
on_ok (Ok x) f a = f a
on_ok (Err e) f a = a
