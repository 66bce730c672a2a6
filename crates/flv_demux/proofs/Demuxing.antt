-- The steps of a demuxer.
use Rattle.std.proofs.Common.{◌≡◌, ℕ, ◌+◌, ◌<◌, ◌≤◌, ◌⊎◌, inl, inr, Bool, true, false, List, [], ◌∷◌, ◌++◌, append_assoc, append-nil, ap, ◌∙◌, sym, refl, subst, Option, Some, None, length, take, get_or, arith, length-append}
use Rattle.std.specs.Prelude.{◌==◌}
use Rattle.std.specs.Option.{option_to_list}
use Rattle.std.proofs.lemmas.List.{take-append-le}
use Rattle.std.proofs.Math.Seq.{take-length}
use Rattle.rmx_media.specs.declared.packet.Packet.{Packet}
use Rattle.rmx_media.specs.declared.streams.StreamInfo.{StreamInfo}
use Rattle.flv_tags.specs.declared.tag.Tag.{Tag}
use Rattle.flv_tags.specs.declared.tag.TagFault.{TagFault}
use Rattle.flv_tags.specs.declared.tag.TagFault.TheVariants as fault
use Rattle.flv_tags.specs.Tags.{reading_of, Begins}
use Rattle.flv_tags.specs.Reader.{ReaderState, HasRead}
use Rattle.flv_tags.proofs.Grow.{tags_grow}
use Rattle.flv_tags.proofs.Verdicts.{no_tags}
use Rattle.flv_demux.specs.declared.deal.Desk.{Desk}
use Rattle.flv_demux.specs.declared.deal.Kinds.{Kinds}
use Rattle.flv_demux.specs.declared.deal.Outcome.TheVariants as outcome
use Rattle.flv_demux.specs.declared.deal.Probe.{Probe}
use Rattle.flv_demux.specs.Probe.{probe_of, probed, is_decided, kinds_of, infos_of, has_stream}
use Rattle.flv_demux.specs.Deal.{desk_of, dealt, packets_by, packet_in, outcome_of, IsSoundGift}
use Rattle.flv_demux.specs.State.{Core, Demuxed, Deals, IsSure, IsReadable, IsDecided, IsOfStream}
use Rattle.flv_demux.specs.Steps.{DealsFirst, GivesOne, PassesOn}
use Rattle.flv_demux.proofs.Probing.{probe_stays, probe_of-one, probe_of-none, taken_more}
use Rattle.flv_demux.proofs.Longer.{desk_of-one, desk_of-none, packets_by-one}
use Rattle.flv_demux.proofs.Order.{InOrder, Ordered, ordered}
use Rattle.flv_demux.proofs.Tops.{rises}

some_none : (k : Kinds) → Some k ≡ None → ⊥
some_none k e = cc

pub same_kinds : (k l : Kinds) → Some k ≡ Some l → k ≡ l
same_kinds k l e = cc

false_true : false ≡ true → ⊥
false_true e = cc

pub empty_of : (xs : List Tag) → (length xs == 0) ≡ true → xs ≡ []
empty_of [] e = refl
empty_of (x ∷ xs) e = absurd (grind (arith, e))

sure_at : (probe : Probe) (fed : List ℕ) (a b : Bool) → a ≡ b → IsSure probe fed a → IsSure probe fed b
sure_at probe fed a b e s = subst (IsSure probe fed) e s

deals_at : (k : Kinds) (fed : List ℕ) (done : List Tag) (s : Core) (reader : ReaderState) (waiting : List Tag) → reader.ended ≡ s.reader.ended → Deals k fed done s → Deals k fed done (record s { reader = reader; waiting = waiting })
deals_at k fed done s reader waiting e d = record { sure = sure_at s.probe fed s.reader.ended reader.ended (sym e) d.sure; kinds = d.kinds; infos = d.infos; desk = d.desk; idle = d.idle }

-- nothing was dealt with
pub on : (fed : List ℕ) (done : List Tag) (s : Core) → Demuxed fed done s → PassesOn fed done s
on fed done s m = record {
  more = [];
  dealt = subst (λ (ts : List Tag). Demuxed fed ts s) (sym (append-nil done)) m;
  none = λ k e. ap (packets_by k) (append-nil done);
}

-- the reader went on, and no tag came
pub kept : (fed : List ℕ) (done : List Tag) (s : Core) (reader : ReaderState) (waiting : List Tag) → reader.ended ≡ s.reader.ended → waiting ≡ s.waiting → HasRead fed (done ++ s.waiting) reader → Demuxed fed done s → Demuxed fed done (record s { reader = reader; waiting = waiting })
kept fed done s reader waiting e w r m = subst (λ (ws : List Tag). Demuxed fed done (record s { reader = reader; waiting = ws })) (sym w) record {
  read = r;
  begins = m.begins;
  unknown = λ n. let u = m.unknown n in record { done_none = u.done_none; desk = u.desk; within = u.within; probe = u.probe };
  known = λ k n. deals_at k fed done s reader s.waiting e (m.known k n);
}

-- a tag was read
pub got : (fed : List ℕ) (done : List Tag) (s : Core) (reader : ReaderState) (waiting : List Tag) (tag : Tag) → reader.ended ≡ s.reader.ended → waiting ≡ s.waiting ++ tag ∷ [] → HasRead fed (done ++ waiting) reader → Begins fed (done ++ waiting) → Demuxed fed done s → Demuxed fed done (record s { reader = reader; waiting = waiting })
got fed done s reader waiting tag e w r b m = record {
  read = r;
  begins = b;
  unknown = λ n.
      let u = m.unknown n in
      let longer : length waiting ≡ length s.waiting + 1 = ap (length {A = Tag}) w ∙ length-append s.waiting (tag ∷ []) in
      let within : s.looked ≤ length s.waiting = u.within in
      record {
        done_none = u.done_none;
        desk = u.desk;
        within = omega arith;
        probe = u.probe ∙ ap probe_of (sym (ap (take s.looked) w ∙ take-append-le s.looked s.waiting (tag ∷ []) within));
      };
  known = λ k n. deals_at k fed done s reader waiting e (m.known k n);
}

-- one more of the waiting tags was looked at
pub seen_next : (fed : List ℕ) (done : List Tag) (s : Core) (looked : ℕ) (probe : Probe) (tag : Tag) → s.known ≡ None → s.looked < length s.waiting → tag ≡ get_or s.waiting s.looked tag → looked ≡ s.looked + 1 → probe ≡ probed s.probe tag → Demuxed fed done s → Demuxed fed done (record s { looked = looked; probe = probe })
seen_next fed done s looked probe tag none some at l p m = record {
  read = m.read;
  begins = m.begins;
  unknown = λ n.
      let u = m.unknown n in
      record {
        done_none = u.done_none;
        desk = u.desk;
        within = omega arith;
        probe = p ∙ ap (λ (q : Probe). probed q tag) u.probe ∙ sym (probe_of-one (take s.looked s.waiting) tag)
            ∙ ap probe_of (sym (taken_more s.waiting s.looked tag some at) ∙ ap (λ (i : ℕ). take i s.waiting) (sym l));
      };
  known = λ k n. absurd (some_none k (sym n ∙ none));
}

-- all waiting tags were looked at
pub all_looked : (fed : List ℕ) (done : List Tag) (s : Core) → s.known ≡ None → length s.waiting ≤ s.looked → Demuxed fed done s → (s.probe ≡ probe_of s.waiting) × (done ++ s.waiting ≡ s.waiting)
all_looked fed done s none all m =
    let u = m.unknown none in
    let within : s.looked ≤ length s.waiting = u.within in
    let same : s.looked ≡ length s.waiting = omega arith in
    (u.probe ∙ ap probe_of (ap (λ (i : ℕ). take i s.waiting) same ∙ take-length s.waiting), ap (λ (ts : List Tag). ts ++ s.waiting) u.done_none)

-- the streams are known now
pub decided : (fed : List ℕ) (done : List Tag) (s : Core) (known : Option Kinds) (infos : List StreamInfo) → s.known ≡ None → length s.waiting ≤ s.looked → known ≡ Some (kinds_of s.probe) → infos ≡ infos_of s.probe
    → ((is_decided s.probe ≡ true) ⊎ ((s.reader.ended ≡ true) × ((reading_of fed).tags ≡ done ++ s.waiting) × IsReadable fed)) → Demuxed fed done s → Demuxed fed done (record s { known = known; infos = infos })
decided fed done s known infos none all k i why m = record {
  read = m.read;
  begins = m.begins;
  unknown = λ n. absurd (some_none (kinds_of s.probe) (sym k ∙ n));
  known = λ l n.
      let u = m.unknown none in
      let a = all_looked fed done s none all m in
      record {
        sure = record { looked = s.waiting; begins = subst (Begins fed) a.1 m.begins; probe_is = a.0; why = by a.1 why };
        kinds = same_kinds l (kinds_of s.probe) (sym n ∙ k);
        infos = i;
        desk = u.desk ∙ sym (desk_of-none l) ∙ ap (desk_of l) (sym u.done_none);
        idle = λ h. u.done_none;
      };
}
  where
    by : done ++ s.waiting ≡ s.waiting → ((is_decided s.probe ≡ true) ⊎ ((s.reader.ended ≡ true) × ((reading_of fed).tags ≡ done ++ s.waiting) × IsReadable fed)) → (is_decided s.probe ≡ true) ⊎ ((s.reader.ended ≡ true) × ((reading_of fed).tags ≡ s.waiting) × IsReadable fed)
    by e (inl d) = inl d
    by e (inr d) = inr (d.0, d.1 ∙ e, d.2)

-- a waiting tag was dealt with
pub dealt_one : (fed : List ℕ) (done : List Tag) (s : Core) (k : Kinds) (packet : Option Packet) (rest : List Tag) (desk : Desk) → s.known ≡ Some k → has_stream k ≡ true → Demuxed fed done s → (x : DealsFirst k packet s.waiting rest s.desk desk) →
    Demuxed fed (done ++ x.tag ∷ []) (record s { waiting = rest; desk = desk }) × (packets_by k (done ++ x.tag ∷ []) ≡ packets_by k done ++ option_to_list packet)
dealt_one fed done s k packet rest desk known some m x =
    let d = m.known k known in
    let moved : done ++ s.waiting ≡ (done ++ x.tag ∷ []) ++ rest = ap (λ (l : List Tag). done ++ l) x.first ∙ sym (append_assoc done (x.tag ∷ []) rest) in
    let now : desk ≡ desk_of k (done ++ x.tag ∷ []) = x.desk ∙ ap (λ (e : Desk). dealt k e x.tag) d.desk ∙ sym (desk_of-one k done x.tag) in (
      record {
        read = subst (λ (ts : List Tag). HasRead fed ts s.reader) moved m.read;
        begins = subst (Begins fed) moved m.begins;
        unknown = λ n. absurd (some_none k (sym known ∙ n));
        known = λ l n. subst (λ (j : Kinds). Deals j fed (done ++ x.tag ∷ []) (record s { waiting = rest; desk = desk })) (same_kinds k l (sym known ∙ n)) record {
          sure = d.sure;
          kinds = d.kinds;
          infos = d.infos;
          desk = now;
          idle = λ h. absurd (false_true (sym h ∙ some));
        };
      },
      packets_by-one k done x.tag ∙ ap (λ (o : Option Packet). packets_by k done ++ option_to_list o) (ap (λ (e : Desk). packet_in (outcome_of k e x.tag)) (sym d.desk) ∙ sym x.packet_is),
    )

pub dealt_none : (fed : List ℕ) (done : List Tag) (s : Core) (k : Kinds) (rest : List Tag) (desk : Desk) → s.known ≡ Some k → has_stream k ≡ true → Demuxed fed done s → DealsFirst k None s.waiting rest s.desk desk → PassesOn fed done (record s { waiting = rest; desk = desk })
dealt_none fed done s k rest desk known some m x =
    let r = dealt_one fed done s k None rest desk known some m x in
    record {
      more = x.tag ∷ [];
      dealt = r.0;
      none = λ l n. subst (λ (j : Kinds). packets_by j (done ++ x.tag ∷ []) ≡ packets_by j done) (same_kinds k l (sym known ∙ n)) (r.1 ∙ append-nil (packets_by k done));
    }

in_order : (k : Kinds) (d : Desk) (tag : Tag) (p : Packet) → IsSoundGift (Some p) (outcome_of k d tag) → IsOfStream k p × InOrder k d p
in_order k d tag p g =
    let o : Ordered k d (outcome.Gives g.0 p) = subst (Ordered k d) g.1 (ordered k d tag) in
    (record { kind = g.0; there = o.0; number = o.1; sound = g.2 }, record { kind = g.0; there = o.0; stream = o.1; order = o.2 })

pub dealt_packet : (fed : List ℕ) (done : List Tag) (s : Core) (k : Kinds) (p : Packet) (rest : List Tag) (desk : Desk) → s.known ≡ Some k → has_stream k ≡ true → Demuxed fed done s → DealsFirst k (Some p) s.waiting rest s.desk desk → GivesOne p fed done (record s { waiting = rest; desk = desk })
dealt_packet fed done s k p rest desk known some m x =
    let r = dealt_one fed done s k (Some p) rest desk known some m x in
    let i = in_order k s.desk x.tag p x.gift in
    record {
      kinds = k;
      tag = x.tag;
      known = known;
      dealt = r.0;
      one = r.1;
      rising = rises k done p (subst (λ (d : Desk). InOrder k d p) (m.known k known).desk i.1);
      stream = i.0;
    }

-- the probe is that of all tags of the bytes fed
pub sure_all : (probe : Probe) (fed : List ℕ) (ended : Bool) → IsSure probe fed ended → probe ≡ probe_of (reading_of fed).tags
sure_all probe fed ended s = by s.why
  where
    by : (is_decided probe ≡ true) ⊎ ((ended ≡ true) × ((reading_of fed).tags ≡ s.looked) × IsReadable fed) → probe ≡ probe_of (reading_of fed).tags
    by (inl d) = s.probe_is ∙ sym (ap probe_of s.begins.1 ∙ probe_stays s.looked s.begins.0 (ap is_decided (sym s.probe_is) ∙ d))
    by (inr d) = s.probe_is ∙ ap probe_of (sym d.1)

pub sure_decided : (probe : Probe) (fed : List ℕ) (ended : Bool) → IsSure probe fed ended → IsDecided fed ended
sure_decided probe fed ended s = by s.why
  where
    by : (is_decided probe ≡ true) ⊎ ((ended ≡ true) × ((reading_of fed).tags ≡ s.looked) × IsReadable fed) → IsDecided fed ended
    by (inl d) = inl (ap is_decided (sym (sure_all probe fed ended s)) ∙ d)
    by (inr d) = inr (d.0, d.2)

no_head : (xs ys : List Tag) → [] ≡ xs ++ ys → xs ≡ []
no_head [] ys e = refl
no_head (x ∷ xs) ys e = cc

-- a text with known streams is an FLV text
pub sure_readable : {X : Type 0} (f : TagFault) (probe : Probe) (fed : List ℕ) (ended : Bool) → (f ≡ fault.NotFlv) ⊎ (f ≡ fault.BadOffset) → (reading_of fed).verdict ≡ Some f → IsSure probe fed ended → X
sure_readable f probe fed ended h v s = absurd (by s.why)
  where
    none : (reading_of fed).tags ≡ []
    none = no_tags f fed h v

    undecided : (p : Probe) → p ≡ probe_of [] → is_decided p ≡ true → ⊥
    undecided p e d = false_true (sym (ap is_decided (e ∙ probe_of-none)) ∙ d)

    not_none : (f : TagFault) → None ≡ Some f → ⊥
    not_none f e = cc

    not_cut : (f : TagFault) → (f ≡ fault.NotFlv) ⊎ (f ≡ fault.BadOffset) → Some fault.CutTag ≡ Some f → ⊥
    not_cut f (inl h) e = cut_flv (e ∙ ap Some h)
      where
        cut_flv : Some fault.CutTag ≡ Some fault.NotFlv → ⊥
        cut_flv e = cc
    not_cut f (inr h) e = cut_offset (e ∙ ap Some h)
      where
        cut_offset : Some fault.CutTag ≡ Some fault.BadOffset → ⊥
        cut_offset e = cc

    readable : IsReadable fed → ⊥
    readable (inl n) = not_none f (sym n ∙ v)
    readable (inr c) = not_cut f h (sym c ∙ v)

    by : (is_decided probe ≡ true) ⊎ ((ended ≡ true) × ((reading_of fed).tags ≡ s.looked) × IsReadable fed) → ⊥
    by (inl d) = undecided probe (s.probe_is ∙ ap probe_of (no_head s.looked s.begins.0 (sym none ∙ s.begins.1))) d
    by (inr d) = readable d.2

-- more was fed
begins_fed : (fed more : List ℕ) (ts : List Tag) → Begins fed ts → Begins (fed ++ more) ts
begins_fed fed more ts f =
    let g = tags_grow fed more in
    (f.0 ++ g.0, g.1 ∙ ap (λ (l : List Tag). l ++ g.0) f.1 ∙ append_assoc ts f.0 g.0)

sure_fed : (probe : Probe) (fed more : List ℕ) (a b : Bool) → a ≡ false → IsSure probe fed a → IsSure probe (fed ++ more) b
sure_fed probe fed more a b e s = record { looked = s.looked; begins = begins_fed fed more s.looked s.begins; probe_is = s.probe_is; why = by s.why }
  where
    by : (is_decided probe ≡ true) ⊎ ((a ≡ true) × ((reading_of fed).tags ≡ s.looked) × IsReadable fed) → (is_decided probe ≡ true) ⊎ ((b ≡ true) × ((reading_of (fed ++ more)).tags ≡ s.looked) × IsReadable (fed ++ more))
    by (inl d) = inl d
    by (inr d) = absurd (false_true (sym e ∙ d.0))

pub demuxed_fed : (fed more : List ℕ) (done : List Tag) (s : Core) (reader : ReaderState) → s.reader.ended ≡ false → HasRead (fed ++ more) (done ++ s.waiting) reader → Demuxed fed done s → Demuxed (fed ++ more) done (record s { reader = reader })
demuxed_fed fed more done s reader e r m = record {
  read = r;
  begins = begins_fed fed more (done ++ s.waiting) m.begins;
  unknown = λ n. let u = m.unknown n in record { done_none = u.done_none; desk = u.desk; within = u.within; probe = u.probe };
  known = λ k n. let d = m.known k n in record { sure = sure_fed s.probe fed more s.reader.ended reader.ended e d.sure; kinds = d.kinds; infos = d.infos; desk = d.desk; idle = d.idle };
}

-- the end was told
pub demuxed_ended : (fed : List ℕ) (done : List Tag) (s : Core) (reader : ReaderState) → reader.ended ≡ true → HasRead fed (done ++ s.waiting) reader → Demuxed fed done s → Demuxed fed done (record s { reader = reader })
demuxed_ended fed done s reader e r m = record {
  read = r;
  begins = m.begins;
  unknown = λ n. let u = m.unknown n in record { done_none = u.done_none; desk = u.desk; within = u.within; probe = u.probe };
  known = λ k n. let d = m.known k n in record { sure = at_end d.sure; kinds = d.kinds; infos = d.infos; desk = d.desk; idle = d.idle };
}
  where
    at_end : IsSure s.probe fed s.reader.ended → IsSure s.probe fed reader.ended
    at_end x = record { looked = x.looked; begins = x.begins; probe_is = x.probe_is; why = by x.why }
      where
        by : (is_decided s.probe ≡ true) ⊎ ((s.reader.ended ≡ true) × ((reading_of fed).tags ≡ x.looked) × IsReadable fed) → (is_decided s.probe ≡ true) ⊎ ((reader.ended ≡ true) × ((reading_of fed).tags ≡ x.looked) × IsReadable fed)
        by (inl d) = inl d
        by (inr d) = inr (e, d.1, d.2)
