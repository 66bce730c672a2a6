-- What a reader has left, with more behind it.
use Rattle.std.proofs.Common.{◌≡◌, List, ℕ, ◌≤◌, ◌<◌, ◌-◌, [], ◌++◌, length, drop, true, false, None, Some, ◌∙◌, ap, sym, refl, append-nil, append_assoc, arith, Bool, Result, Ok, Err, Option, ◌∷◌, ◌⊎◌, inl, inr, length-append}
use Rattle.std.specs.Prelude.{is_some, if◌then◌else◌}
use Rattle.std.proofs.lemmas.Bool.{false≢true}
use Rattle.std.proofs.lemmas.List.{drop-append-le}
use Rattle.flv_tags.specs.declared.tag.Tag.{Tag}
use Rattle.flv_tags.specs.declared.tag.TagFault.TheVariants.{NotFlv, BadOffset, CutTag, NoMemory}
use Rattle.flv_tags.specs.declared.tag.TagFault.{TagFault}
use Rattle.flv_tags.specs.declared.tag.TagStep.{TagStep}
use Rattle.flv_tags.specs.declared.tag.TagStep.TheVariants.{Tag as Answered, NeedMore, End}
use Rattle.flv_tags.specs.Front.{Front, Nothing, Part, One, front_of}
use Rattle.flv_tags.specs.Tags.{Reading, only, with_tag, with_tags, reading_by, reading_of, reading_of_tags, reading_past, is_flv, offset_of}
use Rattle.flv_tags.specs.Reader.{ReaderState, reading_with, reading_left, IsSame, ReadsTag, Faults, IsShort, Steps, HasRead, HasNoFault, Answers}
use Rattle.flv_tags.proofs.HeadLemmas.{reading_past_more, past_dropped, past_long, reading_not_flv, reading_not_flv_more, reading_bad_offset, reading_bad_offset_more, short_is_no_flv}
use Rattle.flv_tags.proofs.Walk.{reading_of_tags-step}
use Rattle.flv_tags.proofs.More.{front_of_more}

pub differ : {X : Type 0} {b : Bool} → b ≡ false → b ≡ true → X
differ f t = absurd (false≢true (sym f ∙ t))

pub reading_at_offset : (s : ReaderState) (more : List ℕ) → s.past_head ≡ true → s.fault ≡ None → reading_with s more ≡ reading_past s.skip (s.text ++ more)
reading_at_offset s more h f = rw (f, h) refl

pub reading_at_head : (s : ReaderState) (more : List ℕ) → s.past_head ≡ false → s.fault ≡ None → reading_with s more ≡ reading_of (s.text ++ more)
reading_at_head s more h f = rw (f, h) refl

pub reading_at_size : (s : ReaderState) (more : List ℕ) → s.past_head ≡ true → s.skip ≡ 0 → s.fault ≡ None → reading_with s more ≡ reading_of_tags (s.text ++ more)
reading_at_size s more h k f = reading_at_offset s more h f ∙ ap (λ (n : ℕ). reading_past n (s.text ++ more)) k ∙ past_long 0 (s.text ++ more) (omega arith)

pub reading_at_fault : (s : ReaderState) (fault : TagFault) (more : List ℕ) → s.fault ≡ Some fault → reading_with s more ≡ only (Some fault)
reading_at_fault s fault more f = rw f refl

-- passing the head changes nothing of what is left
pub head_passed : (s : ReaderState) (offset : ℕ) → s.past_head ≡ false → s.fault ≡ None → offset ≡ offset_of s.text → is_flv s.text ≡ true → 9 ≤ offset → IsSame s (record s { past_head = true; skip = offset })
head_passed s offset h f o e n =
    let n' : 9 ≤ offset_of s.text = omega arith in
    record {
      reading = λ more.
          reading_at_offset (record s { past_head = true; skip = offset }) more refl f
          ∙ ap (λ (k : ℕ). reading_past k (s.text ++ more)) o
          ∙ sym (reading_past_more s.text more e n')
          ∙ sym (reading_at_head s more h f);
      ended = refl;
      fault = refl;
      head = λ p. absurd (false≢true (sym p));
    }

-- nor does dropping what stands before the first size field
pub skipped : (s : ReaderState) (k : ℕ) → s.past_head ≡ true → s.fault ≡ None → k ≤ s.skip → k ≤ length s.text → IsSame s (record s { text = drop k s.text; skip = s.skip - k })
skipped s k h f n l = record {
  reading = λ more.
      let l' : k ≤ length (s.text ++ more) = omega (arith, length-append s.text more) in
      reading_at_offset (record s { text = drop k s.text; skip = s.skip - k }) more h f
      ∙ ap (reading_past (s.skip - k)) (sym (drop-append-le k s.text more l))
      ∙ past_dropped k s.skip (s.text ++ more) n l'
      ∙ sym (reading_at_offset s more h f);
  ended = refl;
  fault = refl;
  head = λ p. differ p h;
}

left_front : (s : ReaderState) (front : Front) → s.past_head ≡ true → s.skip ≡ 0 → s.fault ≡ None → front_of s.text ≡ front → reading_left s ≡ reading_by front reading_of_tags
left_front s front h k f e =
    reading_at_size s [] h k f ∙ ap reading_of_tags (append-nil s.text) ∙ reading_of_tags-step s.text ∙ ap (λ (g : Front). reading_by g reading_of_tags) e

pub left_end : (s : ReaderState) → s.past_head ≡ true → s.skip ≡ 0 → s.fault ≡ None → front_of s.text ≡ Nothing → reading_left s ≡ only None
left_end s h k f e = left_front s Nothing h k f e

pub left_part : (s : ReaderState) → s.past_head ≡ true → s.skip ≡ 0 → s.fault ≡ None → front_of s.text ≡ Part → reading_left s ≡ only (Some CutTag)
left_part s h k f e = left_front s Part h k f e

pub step_one : (s : ReaderState) (tag : Tag) (rest : List ℕ) → length tag.body < 16777216 → s.past_head ≡ true → s.skip ≡ 0 → s.fault ≡ None → front_of s.text ≡ One tag rest → ReadsTag tag s (record s { text = rest })
step_one s tag rest small h k f e = record {
  reading = λ more.
      reading_at_size s more h k f ∙ reading_of_tags-step (s.text ++ more)
      ∙ ap (λ (g : Front). reading_by g reading_of_tags) (front_of_more s.text more tag rest e)
      ∙ ap (with_tag tag) (sym (reading_at_size (record s { text = rest }) more h k f));
  ended = refl;
  fault = f;
  head = h;
  small = small;
}

-- the faults at the head
pub not_flv : (s : ReaderState) → s.past_head ≡ false → s.fault ≡ None → is_flv s.text ≡ false → (s.ended ≡ false → 9 ≤ length s.text) → Steps (Err NotFlv) s (record s { fault = Some NotFlv })
not_flv s h f e l = (
  record {
    now = reading_at_head s [] h f ∙ ap reading_of (append-nil s.text) ∙ reading_not_flv s.text e;
    later = λ d more. reading_at_head s more h f ∙ reading_not_flv_more s.text more e (l d);
    ended = refl;
    stays = refl;
  },
  h,
  l,
)

pub bad_offset : (s : ReaderState) → s.past_head ≡ false → s.fault ≡ None → is_flv s.text ≡ true → offset_of s.text < 9 → Steps (Err BadOffset) s (record s { fault = Some BadOffset })
bad_offset s h f e l = record {
  now = reading_at_head s [] h f ∙ ap reading_of (append-nil s.text) ∙ reading_bad_offset s.text e l;
  later = λ d more. reading_at_head s more h f ∙ reading_bad_offset_more s.text more e l;
  ended = refl;
  stays = refl;
}

-- the ends of what is left
pub cut : (s : ReaderState) → reading_left s ≡ only (Some CutTag) → s.ended ≡ true → Steps (Err CutTag) s (record s { fault = Some CutTag })
cut s e h = (record { now = e; later = λ d. differ d h; ended = refl; stays = refl }, h)

join_same : (a b c : ReaderState) → IsSame a b → IsSame b c → IsSame a c
join_same a b c s t = record {
  reading = λ more. t.reading more ∙ s.reading more;
  ended = t.ended ∙ s.ended;
  fault = t.fault ∙ s.fault;
  head = λ h. let p = t.head h in let q = s.head p.0 in (q.0, p.1 ∙ q.1);
}

faults_after : (fault : TagFault) (old mid new : ReaderState) → IsSame old mid → Faults fault mid new → Faults fault old new
faults_after fault old mid new s h = record {
  now = sym (s.reading []) ∙ h.now;
  later = λ e more. sym (s.reading more) ∙ h.later (s.ended ∙ e) more;
  ended = h.ended ∙ s.ended;
  stays = h.stays;
}

-- a step of what is the same, where the head was passed on the way
pub steps_after : (r : Result TagStep TagFault) (old mid new : ReaderState) → IsSame old mid → mid.past_head ≡ true → mid.fault ≡ None → Steps r mid new → Steps r old new
steps_after (Ok (Answered tag)) old mid new s p f h = record { reading = λ more. sym (s.reading more) ∙ h.reading more; ended = h.ended ∙ s.ended; fault = h.fault; head = h.head; small = h.small }
steps_after (Ok NeedMore) old mid new s p f h = (sym s.ended ∙ h.0, join_same old mid new s h.1, ap (λ (r : Reading). r.tags) (sym (s.reading [])) ∙ h.2, inr (by h.3))
  where
    by : IsShort mid ⊎ (((reading_left mid).verdict ≡ None) ⊎ ((reading_left mid).verdict ≡ Some CutTag)) → ((reading_left old).verdict ≡ None) ⊎ ((reading_left old).verdict ≡ Some CutTag)
    by (inl short) = differ short.head p
    by (inr (inl e)) = inl (ap (λ (r : Reading). r.verdict) (sym (s.reading [])) ∙ e)
    by (inr (inr e)) = inr (ap (λ (r : Reading). r.verdict) (sym (s.reading [])) ∙ e)
steps_after (Ok End) old mid new s p f h = (sym s.ended ∙ h.0, join_same old mid new s h.1, sym (s.reading []) ∙ h.2)
steps_after (Err NoMemory) old mid new s p f h = join_same old mid new s h
steps_after (Err NotFlv) old mid new s p f h = differ h.1 p
steps_after (Err BadOffset) old mid new s p f h = faults_after BadOffset old mid new s h
steps_after (Err CutTag) old mid new s p f h = (faults_after CutTag old mid new s h.0, sym s.ended ∙ h.1)

-- what was read before, and what the same reader reads
kept : (fed : List ℕ) (tags : List Tag) (old new : ReaderState) → old.fault ≡ None → HasRead fed tags old → IsSame old new → HasRead fed tags new
kept fed tags old new f r s = record {
  now = r.now ∙ ap (with_tags tags) (sym (s.reading []));
  later = λ e more. r.later (sym s.ended ∙ e) more ∙ ap (with_tags tags) (sym (s.reading more));
  head = λ g h. let p = s.head h in p.1 ∙ r.head f p.0;
  told = λ g e. absurd (some_none NotFlv (sym g ∙ s.fault ∙ f));
  cut = λ g. absurd (some_none CutTag (sym g ∙ s.fault ∙ f));
}
  where
    some_none : (fault : TagFault) → Some fault ≡ None → ⊥
    some_none fault e = cc

tags_more : (tags : List Tag) (tag : Tag) (all left : Reading) → all ≡ with_tags tags (with_tag tag left) → all ≡ with_tags (tags ++ tag ∷ []) left
tags_more tags tag all left e = e ∙ ap (λ (ts : List Tag). record { tags = ts; verdict = left.verdict }) (sym (append_assoc tags (tag ∷ []) left.tags))

tags_none : (tags : List Tag) → tags ++ [] ≡ tags
tags_none [] = refl
tags_none (tag ∷ tags) = ap (λ (ts : List Tag). tag ∷ ts) (tags_none tags)

-- nothing but a verdict is left
no_more : (fed : List ℕ) (tags : List Tag) (s : ReaderState) (verdict : Option TagFault) → HasRead fed tags s → reading_left s ≡ only verdict → reading_of fed ≡ record { tags = tags; verdict = verdict }
no_more fed tags s verdict r e = r.now ∙ ap (with_tags tags) e ∙ ap (λ (ts : List Tag). record { tags = ts; verdict = verdict }) (tags_none tags)

faulted : (fed : List ℕ) (tags : List Tag) (fault : TagFault) (old new : ReaderState) → HasRead fed tags old → Faults fault old new → (fault ≡ NotFlv → old.ended ≡ false → 9 ≤ length fed) → (fault ≡ CutTag → old.ended ≡ true) → HasRead fed tags new
faulted fed tags fault old new r h told cut = record {
  now = r.now ∙ ap (with_tags tags) (h.now ∙ sym (reading_at_fault new fault [] h.stays));
  later = λ e more. r.later (sym h.ended ∙ e) more ∙ ap (with_tags tags) (h.later (sym h.ended ∙ e) more ∙ sym (reading_at_fault new fault more h.stays));
  head = λ g. absurd (some_none fault (sym h.stays ∙ g));
  told = λ g e. told (same_fault fault NotFlv (sym h.stays ∙ g)) (sym h.ended ∙ e);
  cut = λ g. h.ended ∙ cut (same_fault fault CutTag (sym h.stays ∙ g));
}
  where
    some_none : (fault : TagFault) → Some fault ≡ None → ⊥
    some_none fault e = cc

    same_fault : (a b : TagFault) → Some a ≡ Some b → a ≡ b
    same_fault a b e = cc

-- the answers, from the steps
pub answers : (r : Result TagStep TagFault) (fed : List ℕ) (tags : List Tag) (old new : ReaderState) → old.fault ≡ None → Steps r old new → HasRead fed tags old → Answers r fed tags old.ended new
answers (Ok (Answered tag)) fed tags old new f h r = (
  record {
    now = tags_more tags tag _ (reading_left new) (r.now ∙ ap (with_tags tags) (h.reading []));
    later = λ e more. tags_more tags tag _ (reading_with new more) (r.later (sym h.ended ∙ e) more ∙ ap (with_tags tags) (h.reading more));
    head = λ g p. differ p h.head;
    told = λ g e. absurd (none_some NotFlv (sym h.fault ∙ g));
    cut = λ g. absurd (none_some CutTag (sym h.fault ∙ g));
  },
  ((reading_left new).tags, ap (λ (x : Reading). x.tags) (tags_more tags tag _ (reading_left new) (r.now ∙ ap (with_tags tags) (h.reading [])))),
)
  where
    none_some : (fault : TagFault) → None ≡ Some fault → ⊥
    none_some fault e = cc
answers (Ok NeedMore) fed tags old new f h r = (
  kept fed tags old new f r h.1,
  h.0,
  ap (λ (x : Reading). x.tags) r.now ∙ ap (λ (ts : List Tag). tags ++ ts) h.2 ∙ tags_none tags,
  by h.3,
)
  where
    verdict_is : (v : Option TagFault) → (reading_left old).verdict ≡ v → (reading_of fed).verdict ≡ v
    verdict_is v e = ap (λ (x : Reading). x.verdict) r.now ∙ e

    by : IsShort old ⊎ (((reading_left old).verdict ≡ None) ⊎ ((reading_left old).verdict ≡ Some CutTag)) → HasNoFault fed
    by (inl short) =
        let l : length fed < 9 = rw (← r.head f short.head) short.length in
        record { not_flv = λ e. l; bad_offset = λ e. not_both (sym e ∙ ap (λ (x : Reading). x.verdict) (reading_not_flv fed (short_is_no_flv fed l))) }
      where
        not_both : Some BadOffset ≡ Some NotFlv → ⊥
        not_both e = cc
    by (inr (inl e)) = record { not_flv = λ g. absurd (no NotFlv (sym (verdict_is None e) ∙ g)); bad_offset = λ g. no BadOffset (sym (verdict_is None e) ∙ g) }
      where
        no : (fault : TagFault) → None ≡ Some fault → ⊥
        no fault e = cc
    by (inr (inr e)) = record { not_flv = λ g. absurd (a (sym (verdict_is (Some CutTag) e) ∙ g)); bad_offset = λ g. b (sym (verdict_is (Some CutTag) e) ∙ g) }
      where
        a : Some CutTag ≡ Some NotFlv → ⊥
        a e = cc

        b : Some CutTag ≡ Some BadOffset → ⊥
        b e = cc
answers (Ok End) fed tags old new f h r = (kept fed tags old new f r h.1, h.0, no_more fed tags old None r h.2)
answers (Err NoMemory) fed tags old new f h r = kept fed tags old new f r h
answers (Err NotFlv) fed tags old new f h r =
    let nine = λ (e : old.ended ≡ false). ap9 fed old.text (r.head f h.1) (h.2 e) in
    (faulted fed tags NotFlv old new r h.0 (λ g. nine) (λ g. absurd (no g)), no_more fed tags old (Some NotFlv) r h.0.now, nine)
  where
    no : NotFlv ≡ CutTag → ⊥
    no e = cc

    ap9 : (a b : List ℕ) → b ≡ a → 9 ≤ length b → 9 ≤ length a
    ap9 a b e h = rw (← e) h
answers (Err BadOffset) fed tags old new f h r = (faulted fed tags BadOffset old new r h (λ g. absurd (a g)) (λ g. absurd (b g)), no_more fed tags old (Some BadOffset) r h.now)
  where
    a : BadOffset ≡ NotFlv → ⊥
    a e = cc

    b : BadOffset ≡ CutTag → ⊥
    b e = cc
answers (Err CutTag) fed tags old new f h r = (faulted fed tags CutTag old new r h.0 (λ g. absurd (a g)) (λ g. h.1), h.1, no_more fed tags old (Some CutTag) r h.0.now)
  where
    a : CutTag ≡ NotFlv → ⊥
    a e = cc

-- more was fed
pub more_fed : (fed : List ℕ) (tags : List Tag) (s : ReaderState) (piece : List ℕ) → s.ended ≡ false → s.fault ≡ None → HasRead fed tags s → HasRead (fed ++ piece) tags (record s { text = s.text ++ piece })
more_fed fed tags s piece e f r = record {
  now = r.later e piece ∙ ap (λ (m : List ℕ). with_tags tags (reading_with s m)) (sym (append-nil piece)) ∙ ap (with_tags tags) (sym (moved []));
  later = λ d more. ap reading_of (append_assoc fed piece more) ∙ r.later e (piece ++ more) ∙ ap (with_tags tags) (sym (moved more));
  head = λ g h. ap (λ (t : List ℕ). t ++ piece) (r.head g h);
  told = λ g d. absurd (none_some NotFlv (sym f ∙ g));
  cut = λ g. absurd (none_some CutTag (sym f ∙ g));
}
  where
    none_some : (fault : TagFault) → None ≡ Some fault → ⊥
    none_some fault e = cc

    at : List ℕ → Reading
    at text = elim s.fault [ Some fault ↦ only (Some fault) | None ↦ if s.past_head then reading_past s.skip text else reading_of text ]

    moved : (more : List ℕ) → reading_with (record s { text = s.text ++ piece }) more ≡ reading_with s (piece ++ more)
    moved more = ap (λ (text : List ℕ). elim s.fault [ Some fault ↦ only (Some fault) | None ↦ if s.past_head then reading_past s.skip text else reading_of text ]) (append_assoc s.text piece more)

-- what is fed after a fault says nothing
pub fed_after : (fed : List ℕ) (tags : List Tag) (s : ReaderState) (piece : List ℕ) → s.ended ≡ false → is_some s.fault ≡ true → HasRead fed tags s → HasRead (fed ++ piece) tags s
fed_after fed tags s piece e f r = by s.fault refl
  where
    by : (o : Option TagFault) → s.fault ≡ o → HasRead (fed ++ piece) tags s
    by None g = differ (ap is_some g) f
    by (Some fault) g = record {
      now = r.later e piece ∙ ap (with_tags tags) (reading_at_fault s fault piece g ∙ sym (reading_at_fault s fault [] g));
      later = λ d more. ap reading_of (append_assoc fed piece more) ∙ r.later e (piece ++ more) ∙ ap (with_tags tags) (reading_at_fault s fault (piece ++ more) g ∙ sym (reading_at_fault s fault more g));
      head = λ h. absurd (some_none fault (sym g ∙ h));
      told = λ h d. let n : 9 ≤ length fed = r.told h d in omega (arith, length-append fed piece);
      cut = λ h. r.cut h;
    }
      where
        some_none : (fault : TagFault) → Some fault ≡ None → ⊥
        some_none fault e = cc

pub none_of : (o : Option TagFault) → is_some o ≡ false → o ≡ None
none_of None e = refl
none_of (Some fault) e = cc
