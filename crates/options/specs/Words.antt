-- The words of a command line.
use Rattle.std.specs.Prelude.{◌≡◌, ◌⊎◌, ℕ, ◌+◌, ◌^◌, min, List, [], ◌∷◌, Bool, false, not, Option, Some, None, is_some, is_none, unwrap_or, Result, Ok, Err, map, length, ◌==◌, if◌then◌else◌, codes}
use Rattle.std.specs.Option.{option_map}
use Rattle.std.specs.Str.{bytes_eq, chars}
use Rattle.options.specs.declared.fault.WordKind.{WordKind}
use Rattle.options.specs.declared.fault.WordKind.TheVariants as fault
use Rattle.options.specs.declared.fault.WordFault.{WordFault}
use Rattle.options.specs.declared.words.WordOption.{WordOption}
use Rattle.options.specs.declared.words.WordOption.TheVariants as option
use Rattle.options.specs.declared.words.Target.{Target}
use Rattle.options.specs.declared.words.Target.TheVariants.{Tee, One}
use Rattle.options.specs.declared.words.WordError.{WordError}
use Rattle.options.specs.declared.words.WordError.TheVariants as errors
use Rattle.options.specs.declared.words.Said.{Said}
use Rattle.options.specs.declared.words.Source.{Source}
use Rattle.options.specs.declared.words.Source.TheVariants.{Named, Generated}
use Rattle.options.specs.declared.words.Plan.{Plan}
use Rattle.options.specs.Read.{◌>>=◌, or_bad}
use Rattle.options.specs.Keyword.{format_named}
use Rattle.options.specs.Number.{number}
use Rattle.options.specs.Name.{checked_name}
use Rattle.options.specs.Draft.{no_options}
use Rattle.options.specs.Slave.{Slave, view, checked}
use Rattle.options.specs.Tee.{slaves}

-- a fault and the number of its word
abbrev pub Placed : Type 0 → Type 0
Placed A = Result A (WordKind × ℕ)

-- what a function returned, seen by view, is what the definition gives, unless memory ran out
abbrev pub GivesAt : {X Y : Type 0} → (X → Y) → Result X WordError → Placed Y → Type 0
GivesAt view (Ok x) read = read ≡ Ok (view x)
GivesAt view (Err errors.Memory) read = Unit {0}
GivesAt view (Err (errors.Fault f at)) read = read ≡ Err (f, at)

-- what a function returned that takes no memory
abbrev pub Shows : {X Y : Type 0} → (X → Y) → Result X WordKind → Result Y WordKind → Type 0
Shows view (Ok x) read = read ≡ Ok (view x)
Shows view (Err f) read = read ≡ Err f

abbrev pub and_then : {A B : Type 0} → Placed A → (A → Placed B) → Placed B
and_then (Ok x) f = f x
and_then (Err e) f = Err e

-- a fault at that word
abbrev pub at_word : {A : Type 0} → ℕ → Result A WordKind → Placed A
at_word at (Ok x) = Ok x
at_word at (Err f) = Err (f, at)

-- what the options have said so far, without where it lies in memory
pub record Sayings : Type 0 where
  pub input : Option (List ℕ)
  pub target : Option Target
  pub delta_us : Option ℕ
  pub max_bytes : Option ℕ

abbrev pub nothing_said : Sayings
nothing_said = record { input = None; target = None; delta_us = None; max_bytes = None }

abbrev pub said_view : Said → Sayings
said_view s = record { input = option_map (λ i. i.now) s.input; target = s.target; delta_us = s.delta_us; max_bytes = s.max_bytes }

abbrev pub word_option_named : List ℕ → Option WordOption
word_option_named word =
    if bytes_eq word (codes "-i") then Some option.Input
    else if bytes_eq word (codes "-f") then Some option.Format
    else if bytes_eq word (codes "-max_interleave_delta") then Some option.MaxInterleaveDelta
    else if bytes_eq word (codes "-max_input_bytes") then Some option.MaxInputBytes
    else None

abbrev pub target_named : List ℕ → Option Target
target_named word = if bytes_eq word (codes "tee") then Some Tee else option_map One (format_named word)

abbrev pub or_unknown : {A : Type 0} → Option A → Result A WordKind
or_unknown None = Err fault.UnknownFormat
or_unknown (Some x) = Ok x

abbrev pub is_said : WordOption → Sayings → Bool
is_said option.Input s = is_some s.input
is_said option.Format s = is_some s.target
is_said option.MaxInterleaveDelta s = is_some s.delta_us
is_said option.MaxInputBytes s = is_some s.max_bytes

-- what the value of an option says
abbrev pub said_by : WordOption → List ℕ → Sayings → Result Sayings WordKind
said_by option.Input value s = checked_name value >>= λ v. Ok (record s { input = Some v })
said_by option.Format value s = or_unknown (target_named value) >>= λ v. Ok (record s { target = Some v })
said_by option.MaxInterleaveDelta value s = or_bad (number 0 1000000000000000 value) >>= λ v. Ok (record s { delta_us = Some v })
said_by option.MaxInputBytes value s = or_bad (number 9 (2 ^ 40) value) >>= λ v. Ok (record s { max_bytes = Some v })

-- an option that comes twice is at fault itself, and else its value may be
unfoldable pub with_value : WordOption → ℕ → List ℕ → Sayings → Placed Sayings
with_value o at value s = if is_said o s then Err (fault.BadValue, at) else at_word (at + 1) (said_by o value s)

-- a plan without where its lists lie in memory
pub record Planned : Type 0 where
  pub source : Source
  pub delta_us : ℕ
  pub max_bytes : ℕ
  pub slaves : List Slave

abbrev pub plan_view : Plan → Planned
plan_view p = record { source = p.source; delta_us = p.delta_us; max_bytes = p.max_bytes; slaves = map view p.slaves.items }

abbrev pub begins_with_dash : List ℕ → Bool
begins_with_dash [] = false
begins_with_dash (c ∷ cs) = c == 45

-- the outputs that a target says
unfoldable pub target_slaves : Target → List ℕ → Result (List Slave) WordKind
target_slaves Tee word = if length word == 0 then Err fault.BadValue else slaves (chars word)
target_slaves (One format) word = checked format no_options word >>= λ s. Ok (s ∷ [])

abbrev pub plan_with : Option (List ℕ) → ℕ → Sayings → List Slave → Placed Planned
plan_with None at s slaves = Err (fault.NoInput, at)
plan_with (Some input) at s slaves = Ok (record {
  source = Named input;
  delta_us = unwrap_or s.delta_us 10000000;
  max_bytes = unwrap_or s.max_bytes (2 ^ 40);
  slaves = slaves;
})

-- the plan of these outputs, of so many words
abbrev pub plan_of : ℕ → Sayings → List Slave → Placed Planned
plan_of at s slaves = plan_with s.input at s slaves

-- the target, which has to be the last word
abbrev pub target_for : Option Target → ℕ → ℕ → List ℕ → Sayings → Placed Planned
target_for None at left word s = Err (fault.UnknownFormat, at)
target_for (Some t) at left word s =
    and_then (at_word at (target_slaves t word)) (λ slaves.
    if not (left == 0) then Err (fault.UnknownWord, at + 1) else plan_of (at + 1) s slaves)

unfoldable pub target : ℕ → ℕ → List ℕ → Sayings → Placed Planned
target at left word s = target_for s.target at left word s

abbrev pub other_word : ℕ → ℕ → List ℕ → Sayings → Placed Planned
other_word at left word s = if begins_with_dash word then Err (fault.UnknownWord, at) else target at left word s

-- a word with none behind it
abbrev pub last_word : Option WordOption → ℕ → List ℕ → Sayings → Placed Planned
last_word None at word s = other_word at 0 word s
last_word (Some o) at word s = Err (fault.MissingValue, at)

-- a word, with what is behind it as a target's followers and as an option's value
abbrev pub word_before : Option WordOption → ℕ → ℕ → List ℕ → List ℕ → Sayings → (Sayings → Placed Planned) → Placed Planned
word_before None at left word value s more = other_word at left word s
word_before (Some o) at left word value s more = and_then (with_value o at value s) more

-- the words from the number at on
unfoldable pub words_from : ℕ → Sayings → List (List ℕ) → Placed Planned
words_from at s [] = if is_none s.input then Err (fault.NoInput, at) else Err (fault.NoOutput, at)
words_from at s (word ∷ []) = last_word (word_option_named word) at word s
words_from at s (word ∷ value ∷ words) =
    word_before (word_option_named word) at (length (value ∷ words)) word value s (λ t. words_from (at + 2) t words)

abbrev pub generated_text : List ℕ
generated_text = codes "[f=flv]g.flv|[f=mpegts]g.ts|[f=segment]g%d.ts"

abbrev pub with_count : Option ℕ → List (List ℕ) → Placed Planned
with_count None more = Err (fault.BadValue, 1)
with_count (Some count) (word ∷ words) = Err (fault.UnknownWord, 2)
with_count (Some count) [] = and_then (at_word 1 (target_slaves Tee generated_text)) (λ slaves.
    Ok (record { source = Generated count; delta_us = 10000000; max_bytes = 2 ^ 40; slaves = slaves }))

-- the words behind generate
abbrev pub generated : List (List ℕ) → Placed Planned
generated [] = Err (fault.MissingValue, 0)
generated (count ∷ more) = with_count (number 1 20000 count) more

-- the plan of the words, or their first fault from the left and the number of its word
abbrev pub plan : List (List ℕ) → Placed Planned
plan [] = words_from 0 nothing_said []
plan (word ∷ words) = if bytes_eq word (codes "generate") then generated words else words_from 0 nothing_said (word ∷ words)

-- memory was refused, or the words are at fault, at this word
abbrev pub Refuses : WordFault → Placed Planned → Type 0
Refuses f read = (f.kind ≡ fault.NoMemory) ⊎ ((at : ℕ) × (read ≡ Err (f.kind, at)) × (f.word ≡ min at 4294967295))

abbrev pub Answers : Result Plan WordFault → Placed Planned → Type 0
Answers (Ok p) read = read ≡ Ok (plan_view p)
Answers (Err f) read = Refuses f read
