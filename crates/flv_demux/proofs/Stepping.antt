-- The steps, from what was read.
use Rattle.std.proofs.Common.{◌≡◌, ℕ, ◌<◌, ◌≤◌, ◌⊎◌, inl, inr, Bool, true, false, List, [], ◌++◌, append-nil, ap, ◌∙◌, sym, refl, subst, Option, Some, None, Result, Ok, Err, length}
use Rattle.flv_tags.specs.declared.tag.Tag.{Tag}
use Rattle.flv_tags.specs.declared.tag.TagFault.{TagFault}
use Rattle.flv_tags.specs.declared.tag.TagFault.TheVariants as fault
use Rattle.flv_tags.specs.Tags.{Reading, reading_of}
use Rattle.flv_tags.specs.Reader.{ReaderState, HasRead}
use Rattle.flv_demux.specs.declared.deal.Desk.{Desk}
use Rattle.flv_demux.specs.declared.deal.Kinds.{Kinds}
use Rattle.flv_demux.specs.declared.deal.Streams.{Streams}
use Rattle.flv_demux.specs.declared.demuxer.DemuxFault.{DemuxFault}
use Rattle.flv_demux.specs.declared.demuxer.DemuxFault.TheVariants as demux
use Rattle.flv_demux.specs.declared.steps.Read.TheVariants as read
use Rattle.flv_demux.specs.declared.steps.Stepped.{Stepped}
use Rattle.flv_demux.specs.declared.steps.Stepped.TheVariants as stepped
use Rattle.flv_demux.specs.declared.deal.Probe.{Probe}
use Rattle.rmx_media.specs.declared.streams.StreamInfo.{StreamInfo}
use Rattle.std.specs.Prelude.{IfOk, OnErr}
use Rattle.flv_demux.specs.Probe.{probe_of, is_decided, has_stream}
use Rattle.flv_demux.specs.State.{Core, Demuxed, IsReadable}
use Rattle.flv_demux.specs.Steps.{ReadsOne, PassesOn, Steps, LooksAtNext, Decides, is_cut, core_at}
use Rattle.flv_demux.proofs.Demuxing.{on, kept, got, seen_next, all_looked, decided, sure_readable}

-- nothing waits
nothing : (done : List Tag) (waiting : List Tag) → waiting ≡ [] → done ++ waiting ≡ done
nothing done waiting e = ap (λ (l : List Tag). done ++ l) e ∙ append-nil done

tags_of : (r : Reading) (tags : List Tag) (v : Option TagFault) → r ≡ record { tags = tags; verdict = v } → (r.tags ≡ tags) × (r.verdict ≡ v)
tags_of r tags v e = (ap (λ (x : Reading). x.tags) e, ap (λ (x : Reading). x.verdict) e)

pub known_tag : (fed : List ℕ) (done : List Tag) (ended : Bool) (s : Core) (reader : ReaderState) (waiting : List Tag) → reader.ended ≡ s.reader.ended → Demuxed fed done s → ReadsOne (Ok read.Tag) fed done s.reader.ended reader s.waiting waiting → Steps (Ok stepped.Again) fed done ended (record s { reader = reader; waiting = waiting })
known_tag fed done ended s reader waiting e m r = on fed done (record s { reader = reader; waiting = waiting }) (got fed done s reader waiting r.2.0 e r.2.1 r.0 r.1 m)

pub known_more : (fed : List ℕ) (done : List Tag) (s : Core) (k : Kinds) (reader : ReaderState) (waiting : List Tag) → s.known ≡ Some k → has_stream k ≡ true → s.waiting ≡ [] → reader.ended ≡ s.reader.ended → Demuxed fed done s → ReadsOne (Ok read.NeedMore) fed done s.reader.ended reader s.waiting waiting → Steps (Ok stepped.NeedMore) fed done s.reader.ended (record s { reader = reader; waiting = waiting })
known_more fed done s k reader waiting known some empty e m r = (
  kept fed done s reader waiting e r.1 r.0 m,
  r.2,
  r.4,
  inl record { kinds = k; known = known; some = some; all = r.3 ∙ nothing done s.waiting empty },
)

pub known_end : (fed : List ℕ) (done : List Tag) (s : Core) (k : Kinds) (reader : ReaderState) (waiting : List Tag) → s.known ≡ Some k → has_stream k ≡ true → s.waiting ≡ [] → reader.ended ≡ s.reader.ended → Demuxed fed done s → ReadsOne (Ok read.End) fed done s.reader.ended reader s.waiting waiting → Steps (Ok stepped.End) fed done s.reader.ended (record s { reader = reader; waiting = waiting })
known_end fed done s k reader waiting known some empty e m r =
    let t = tags_of (reading_of fed) (done ++ s.waiting) None r.3 in
    (kept fed done s reader waiting e r.1 r.0 m, r.2, t.1, record { kinds = k; known = known; some = some; all = t.0 ∙ nothing done s.waiting empty })

pub known_err : (f : DemuxFault) (fed : List ℕ) (done : List Tag) (s : Core) (k : Kinds) (reader : ReaderState) (waiting : List Tag) → s.known ≡ Some k → has_stream k ≡ true → s.waiting ≡ [] → reader.ended ≡ s.reader.ended → Demuxed fed done s → ReadsOne (Err f) fed done s.reader.ended reader s.waiting waiting → Steps (Err f) fed done s.reader.ended (record s { reader = reader; waiting = waiting })
known_err (demux.Tag fault.NotFlv) fed done s k reader waiting known some empty e m r =
    sure_readable fault.NotFlv s.probe fed s.reader.ended (inl refl) (tags_of (reading_of fed) (done ++ s.waiting) (Some fault.NotFlv) r.2).1 (m.known k known).sure
known_err (demux.Tag fault.BadOffset) fed done s k reader waiting known some empty e m r =
    sure_readable fault.BadOffset s.probe fed s.reader.ended (inr refl) (tags_of (reading_of fed) (done ++ s.waiting) (Some fault.BadOffset) r.2).1 (m.known k known).sure
known_err (demux.Tag fault.CutTag) fed done s k reader waiting known some empty e m r =
    let t = tags_of (reading_of fed) (done ++ s.waiting) (Some fault.CutTag) r.3 in
    (kept fed done s reader waiting e r.1 r.0 m, r.2, t.1, record { kinds = k; known = known; some = some; all = t.0 ∙ nothing done s.waiting empty })
known_err (demux.Tag fault.NoMemory) fed done s k reader waiting known some empty e m r = r
known_err demux.NoStreams fed done s k reader waiting known some empty e m r = absurd r
known_err demux.NoMemory fed done s k reader waiting known some empty e m r = kept fed done s reader waiting e r.1 r.0 m

-- where they aren't
pub unknown_more : (fed : List ℕ) (done : List Tag) (s : Core) (reader : ReaderState) (waiting : List Tag) → s.known ≡ None → length s.waiting ≤ s.looked → is_decided s.probe ≡ false → reader.ended ≡ s.reader.ended → Demuxed fed done s → ReadsOne (Ok read.NeedMore) fed done s.reader.ended reader s.waiting waiting → Steps (Ok stepped.NeedMore) fed done s.reader.ended (record s { reader = reader; waiting = waiting })
unknown_more fed done s reader waiting none all open_still e m r =
    let a = all_looked fed done s none all m in (
      kept fed done s reader waiting e r.1 r.0 m,
      r.2,
      r.4,
      inr (none, ap (λ (ts : List Tag). is_decided (probe_of ts)) (r.3 ∙ a.1) ∙ ap is_decided (sym a.0) ∙ open_still),
    )

pub unknown_err : (f : DemuxFault) (fed : List ℕ) (done : List Tag) (s : Core) (reader : ReaderState) (waiting : List Tag) → is_cut f ≡ false → s.known ≡ None → reader.ended ≡ s.reader.ended → Demuxed fed done s → ReadsOne (Err f) fed done s.reader.ended reader s.waiting waiting → Steps (Err f) fed done s.reader.ended (record s { reader = reader; waiting = waiting })
unknown_err (demux.Tag fault.NotFlv) fed done s reader waiting n none e m r = (kept fed done s reader waiting e r.1 r.0 m, none, (tags_of (reading_of fed) (done ++ s.waiting) (Some fault.NotFlv) r.2).1, r.3)
unknown_err (demux.Tag fault.BadOffset) fed done s reader waiting n none e m r = (kept fed done s reader waiting e r.1 r.0 m, none, (tags_of (reading_of fed) (done ++ s.waiting) (Some fault.BadOffset) r.2).1)
unknown_err (demux.Tag fault.CutTag) fed done s reader waiting n none e m r = cc
unknown_err (demux.Tag fault.NoMemory) fed done s reader waiting n none e m r = r
unknown_err demux.NoStreams fed done s reader waiting n none e m r = absurd r
unknown_err demux.NoMemory fed done s reader waiting n none e m r = kept fed done s reader waiting e r.1 r.0 m

-- the next waiting tag is looked at
pub looked_next : (fed : List ℕ) (done : List Tag) (reader : ReaderState) (waiting : List Tag) (old new : Streams) (d : Desk) → old.known ≡ None → old.looked < length waiting → new.infos.items ≡ old.infos.items → LooksAtNext waiting old new → Demuxed fed done (core_at reader waiting old d) → PassesOn fed done (core_at reader waiting new d)
looked_next fed done reader waiting old new d none some i l m =
    on fed done (core_at reader waiting new d)
    (subst (λ (k : Option Kinds). Demuxed fed done record { reader = reader; waiting = waiting; looked = new.looked; probe = new.probe; known = k; infos = new.infos.items; desk = d }) (sym l.known)
    (subst (λ (is : List StreamInfo). Demuxed fed done record { reader = reader; waiting = waiting; looked = new.looked; probe = new.probe; known = old.known; infos = is; desk = d }) (sym i)
    (seen_next fed done (core_at reader waiting old d) new.looked new.probe l.tag none some l.tag_is l.looked l.probe m)))

-- the streams are decided
decides : (fed : List ℕ) (done : List Tag) (reader : ReaderState) (waiting : List Tag) (old new : Streams) (d : Desk) → old.known ≡ None → length waiting ≤ old.looked
    → ((is_decided old.probe ≡ true) ⊎ ((reader.ended ≡ true) × ((reading_of fed).tags ≡ done ++ waiting) × IsReadable fed)) → Decides old new → Demuxed fed done (core_at reader waiting old d) → Demuxed fed done (core_at reader waiting new d)
decides fed done reader waiting old new d none all why x m =
    subst (λ (n : ℕ). Demuxed fed done record { reader = reader; waiting = waiting; looked = n; probe = new.probe; known = new.known; infos = new.infos.items; desk = d }) (sym x.looked)
    (subst (λ (p : Probe). Demuxed fed done record { reader = reader; waiting = waiting; looked = old.looked; probe = p; known = new.known; infos = new.infos.items; desk = d }) (sym x.probe)
    (decided fed done (core_at reader waiting old d) new.known new.infos.items none all x.known x.infos why m))

pub decide_steps : (x : Result Stepped DemuxFault) (fed : List ℕ) (done : List Tag) (ended : Bool) (reader : ReaderState) (waiting : List Tag) (old new : Streams) (d : Desk) → old.known ≡ None → length waiting ≤ old.looked
    → ((is_decided old.probe ≡ true) ⊎ ((reader.ended ≡ true) × ((reading_of fed).tags ≡ done ++ waiting) × IsReadable fed)) → Demuxed fed done (core_at reader waiting old d)
    → IfOk x (λ y. (y ≡ stepped.Again) × Decides old new) → OnErr x ((x ≡ Err demux.NoMemory) × (new ≡ old)) → Steps x fed done ended (core_at reader waiting new d)
decide_steps (Ok y) fed done ended reader waiting old new d none all why m h k =
    subst (λ (z : Stepped). Steps (Ok z) fed done ended (core_at reader waiting new d)) (sym h.0) (on fed done (core_at reader waiting new d) (decides fed done reader waiting old new d none all why h.1 m))
decide_steps (Err f) fed done ended reader waiting old new d none all why m h k =
    subst (λ (z : Result Stepped DemuxFault). Steps z fed done ended (core_at reader waiting new d)) (sym k.0) (subst (λ (s : Streams). Demuxed fed done (core_at reader waiting s d)) (sym k.1) m)

-- the text ends while the streams aren't known
pub end_steps : (x : Result Stepped DemuxFault) (fed : List ℕ) (done : List Tag) (r reader : ReaderState) (w waiting : List Tag) (old new : Streams) (d : Desk) → old.known ≡ None → length w ≤ old.looked → reader.ended ≡ r.ended → Demuxed fed done (core_at r w old d)
    → HasRead fed (done ++ w) reader → waiting ≡ w → r.ended ≡ true → (reading_of fed).tags ≡ done ++ w → IsReadable fed
    → IfOk x (λ y. (y ≡ stepped.Again) × Decides old new) → OnErr x ((x ≡ Err demux.NoMemory) × (new ≡ old)) → Steps x fed done r.ended (core_at reader waiting new d)
end_steps x fed done r reader w waiting old new d none all e m read same ended tags v h k =
    decide_steps x fed done r.ended reader waiting old new d none (subst (λ (l : List Tag). length l ≤ old.looked) (sym same) all)
    (inr (e ∙ ended, tags ∙ ap (λ (l : List Tag). done ++ l) (sym same), v))
    (kept fed done (core_at r w old d) reader waiting e same read m) h k

pub whole_steps : (x : Result Stepped DemuxFault) (fed : List ℕ) (done : List Tag) (r reader : ReaderState) (w waiting : List Tag) (old new : Streams) (d : Desk) → old.known ≡ None → length w ≤ old.looked → reader.ended ≡ r.ended → Demuxed fed done (core_at r w old d)
    → ReadsOne (Ok read.End) fed done r.ended reader w waiting
    → IfOk x (λ y. (y ≡ stepped.Again) × Decides old new) → OnErr x ((x ≡ Err demux.NoMemory) × (new ≡ old)) → Steps x fed done r.ended (core_at reader waiting new d)
whole_steps x fed done r reader w waiting old new d none all e m a h k =
    let t = tags_of (reading_of fed) (done ++ w) None a.3 in
    end_steps x fed done r reader w waiting old new d none all e m a.0 a.1 a.2 t.0 (inl t.1) h k

pub cut_steps : (f : DemuxFault) (x : Result Stepped DemuxFault) (fed : List ℕ) (done : List Tag) (r reader : ReaderState) (w waiting : List Tag) (old new : Streams) (d : Desk) → is_cut f ≡ true → old.known ≡ None → length w ≤ old.looked → reader.ended ≡ r.ended → Demuxed fed done (core_at r w old d)
    → ReadsOne (Err f) fed done r.ended reader w waiting
    → IfOk x (λ y. (y ≡ stepped.Again) × Decides old new) → OnErr x ((x ≡ Err demux.NoMemory) × (new ≡ old)) → Steps x fed done r.ended (core_at reader waiting new d)
cut_steps (demux.Tag fault.CutTag) x fed done r reader w waiting old new d c none all e m a h k =
    let t = tags_of (reading_of fed) (done ++ w) (Some fault.CutTag) a.3 in
    end_steps x fed done r reader w waiting old new d none all e m a.0 a.1 a.2 t.0 (inr t.1) h k
cut_steps (demux.Tag fault.NotFlv) x fed done r reader w waiting old new d c none all e m a h k = cc
cut_steps (demux.Tag fault.BadOffset) x fed done r reader w waiting old new d c none all e m a h k = cc
cut_steps (demux.Tag fault.NoMemory) x fed done r reader w waiting old new d c none all e m a h k = cc
cut_steps demux.NoStreams x fed done r reader w waiting old new d c none all e m a h k = cc
cut_steps demux.NoMemory x fed done r reader w waiting old new d c none all e m a h k = cc
