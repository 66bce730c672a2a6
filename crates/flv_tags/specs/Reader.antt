-- A reader of tags: what it has left to read, and what its answers say.
use Rattle.std.specs.Prelude.{◌≡◌, ℕ, ◌≤◌, ◌<◌, ◌⊎◌, Bool, true, false, List, [], ◌∷◌, ◌++◌, length, Option, Some, None, if◌then◌else◌, Result, Ok, Err}
use Rattle.flv_tags.specs.declared.tag.Tag.{Tag}
use Rattle.flv_tags.specs.declared.tag.TagFault.{TagFault}
use Rattle.flv_tags.specs.declared.tag.TagFault.TheVariants.{NotFlv, BadOffset, CutTag, NoMemory}
use Rattle.flv_tags.specs.declared.tag.TagStep.{TagStep}
use Rattle.flv_tags.specs.declared.tag.TagStep.TheVariants.{Tag as Answered, NeedMore, End}
use Rattle.flv_tags.specs.Tags.{Reading, only, with_tag, with_tags, reading_of, reading_past, Begins}

pub record ReaderState : Type 0 where
  -- what was fed and not yet passed
  pub text : List ℕ
  -- the file's head was passed
  pub past_head : Bool
  -- how many bytes of the text stand before the first size field, where the head was passed
  pub skip : ℕ
  -- the end of the input was told
  pub ended : Bool
  -- the fault that every call answers
  pub fault : Option TagFault

-- the reading of what is left, where this comes next and then the end
abbrev pub reading_with : ReaderState → List ℕ → Reading
reading_with s more = elim s.fault [
  | Some fault ↦ only (Some fault)
  | None ↦ if s.past_head then reading_past s.skip (s.text ++ more) else reading_of (s.text ++ more)
]

-- the reading of what is left, where nothing more comes
abbrev pub reading_left : ReaderState → Reading
reading_left s = reading_with s []

-- for how many tags the bytes fed are enough
abbrev pub left_of : ReaderState → ℕ
left_of s = length (reading_left s).tags

-- the two read the same, whatever comes next
pub record IsSame (old new : ReaderState) : Type 0 where
  pub reading : (more : List ℕ) → reading_with new more ≡ reading_with old more
  pub ended : new.ended ≡ old.ended
  pub fault : new.fault ≡ old.fault
  pub head : new.past_head ≡ false → (old.past_head ≡ false) × (new.text ≡ old.text)

-- whatever comes next, the old one reads this tag and then what the new one reads
pub record ReadsTag (tag : Tag) (old new : ReaderState) : Type 0 where
  pub reading : (more : List ℕ) → reading_with old more ≡ with_tag tag (reading_with new more)
  pub ended : new.ended ≡ old.ended
  pub fault : new.fault ≡ None
  pub head : new.past_head ≡ true
  pub small : length tag.body < 16777216

-- the reading of what is left has no tag and this verdict, and so has that of whatever comes where the end wasn't told
pub record Faults (fault : TagFault) (old new : ReaderState) : Type 0 where
  pub now : reading_left old ≡ only (Some fault)
  pub later : old.ended ≡ false → (more : List ℕ) → reading_with old more ≡ only (Some fault)
  pub ended : new.ended ≡ old.ended
  pub stays : new.fault ≡ Some fault

-- fewer bytes came than a head has
pub record IsShort (s : ReaderState) : Type 0 where
  pub fault : s.fault ≡ None
  pub head : s.past_head ≡ false
  pub length : length s.text < 9

-- what a step says, by its answer, where no fault was answered before
abbrev pub Steps : Result TagStep TagFault → ReaderState → ReaderState → Type 0
Steps (Ok (Answered tag)) old new = ReadsTag tag old new
Steps (Ok NeedMore) old new = (old.ended ≡ false) × IsSame old new × ((reading_left old).tags ≡ []) × (IsShort old ⊎ (((reading_left old).verdict ≡ None) ⊎ ((reading_left old).verdict ≡ Some CutTag)))
Steps (Ok End) old new = (old.ended ≡ true) × IsSame old new × (reading_left old ≡ only None)
Steps (Err NoMemory) old new = IsSame old new
Steps (Err NotFlv) old new = Faults NotFlv old new × (old.past_head ≡ false) × (old.ended ≡ false → 9 ≤ length old.text)
Steps (Err BadOffset) old new = Faults BadOffset old new
Steps (Err CutTag) old new = Faults CutTag old new × (old.ended ≡ true)

-- these bytes were fed and these tags answered: whatever comes next, the tags are those and then what the reader has left
pub record HasRead (fed : List ℕ) (tags : List Tag) (s : ReaderState) : Type 0 where
  pub now : reading_of fed ≡ with_tags tags (reading_left s)
  pub later : s.ended ≡ false → (more : List ℕ) → reading_of (fed ++ more) ≡ with_tags tags (reading_with s more)
  -- nothing of the head is dropped before it was passed
  pub head : s.fault ≡ None → s.past_head ≡ false → s.text ≡ fed
  -- NotFlv is told of nine bytes, or at the end, and CutTag at the end
  pub told : s.fault ≡ Some NotFlv → s.ended ≡ false → 9 ≤ length fed
  pub cut : s.fault ≡ Some CutTag → s.ended ≡ true

-- no fault that stays, whatever comes: NotFlv of fewer than nine bytes doesn't
pub record HasNoFault (fed : List ℕ) : Type 0 where
  pub not_flv : (reading_of fed).verdict ≡ Some NotFlv → length fed < 9
  pub bad_offset : (reading_of fed).verdict ≡ Some BadOffset → ⊥

-- what an answer says of the bytes fed and the tags answered before it
abbrev pub Answers : Result TagStep TagFault → List ℕ → List Tag → Bool → ReaderState → Type 0
Answers (Ok (Answered tag)) fed tags ended new = HasRead fed (tags ++ tag ∷ []) new × Begins fed (tags ++ tag ∷ [])
Answers (Ok NeedMore) fed tags ended new = HasRead fed tags new × (ended ≡ false) × ((reading_of fed).tags ≡ tags) × HasNoFault fed
Answers (Ok End) fed tags ended new = HasRead fed tags new × (ended ≡ true) × (reading_of fed ≡ record { tags = tags; verdict = None })
Answers (Err NoMemory) fed tags ended new = HasRead fed tags new
Answers (Err NotFlv) fed tags ended new = HasRead fed tags new × (reading_of fed ≡ record { tags = tags; verdict = Some NotFlv }) × (ended ≡ false → 9 ≤ length fed)
Answers (Err BadOffset) fed tags ended new = HasRead fed tags new × (reading_of fed ≡ record { tags = tags; verdict = Some BadOffset })
Answers (Err CutTag) fed tags ended new = HasRead fed tags new × (ended ≡ true) × (reading_of fed ≡ record { tags = tags; verdict = Some CutTag })

-- a body is as long as three bytes can say
abbrev pub HasSmallBody : TagStep → Type 0
HasSmallBody (Answered tag) = length tag.body < 16777216
HasSmallBody NeedMore = Unit {0}
HasSmallBody End = Unit {0}

abbrev pub is_tag : TagStep → Bool
is_tag (Answered tag) = true
is_tag NeedMore = false
is_tag End = false
