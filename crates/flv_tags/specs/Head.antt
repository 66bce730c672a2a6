-- What the head of a text says.
use Rattle.std.specs.Prelude.{◌≡◌, ℕ, ◌≤◌, ◌<◌, Bool, true, false, List, length}
use Rattle.flv_tags.specs.declared.head.HeadStep.{HeadStep}
use Rattle.flv_tags.specs.declared.head.HeadStep.TheVariants as head
use Rattle.flv_tags.specs.Tags.{is_flv, offset_of}

-- that too few bytes are no file is told at the end alone
abbrev pub IsHeadStep : HeadStep → List ℕ → Bool → Type 0
IsHeadStep head.NeedMore text ended = (ended ≡ false) × (length text < 9)
IsHeadStep head.NotFlv text ended = (is_flv text ≡ false) × (ended ≡ false → 9 ≤ length text)
IsHeadStep head.BadOffset text ended = (is_flv text ≡ true) × (offset_of text < 9)
IsHeadStep (head.Past offset) text ended = (offset ≡ offset_of text) × (is_flv text ≡ true) × (9 ≤ offset)
