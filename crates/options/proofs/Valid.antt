-- Each plan that words say keeps all limits.
use Rattle.std.proofs.Common.{◌≡◌, ◌<◌, ◌≤◌, ◌+◌, ℕ, zero, suc, List, [], ◌∷◌, length, length-append, Bool, true, false, cond, Option, Some, None, Result, Ok, Err, refl, sym, ◌∙◌, ap, subst, arith, lit≤}
use Rattle.std.specs.Prelude.{◌==◌, ◌&&◌, ◌||◌, ◌^◌, not, nat_lt, if◌then◌else◌, is_some, is_none, unwrap_or, All, encode_utf8_all, codes}
use Rattle.std.specs.Option.{ok_or}
use Rattle.std.specs.Str.{chars, bytes_eq}
use Rattle.std.proofs.lemmas.List.Elements.{All-nil, All-append}
use Rattle.std.proofs.lemmas.Bool.Decides.{nat_tests}
use Rattle.rmx_media.specs.declared.packet.Format.{Format}
use Rattle.rmx_media.specs.declared.packet.Format.TheVariants.{Flv, Adts, Mpegts, Segment}
use Rattle.playlist.specs.declared.seg_options.SegOptions.{SegOptions}
use Rattle.playlist.specs.Template.{TemplateParts, template}
use Rattle.options.specs.declared.escape.Place.TheVariants.{Bare}
use Rattle.options.specs.declared.fault.WordKind.{WordKind}
use Rattle.options.specs.declared.fault.WordKind.TheVariants as fault
use Rattle.options.specs.declared.fifo.FifoKey.{FifoKey}
use Rattle.options.specs.declared.fifo.FifoKey.TheVariants as fifo_key
use Rattle.options.specs.declared.fifo.FifoDraft.{FifoDraft}
use Rattle.options.specs.declared.key.Key.{Key}
use Rattle.options.specs.declared.key.Key.TheVariants as key
use Rattle.options.specs.declared.segment.SegDraft.{SegDraft}
use Rattle.options.specs.declared.words.Target.{Target}
use Rattle.options.specs.declared.words.Target.TheVariants.{Tee, One}
use Rattle.options.specs.declared.words.WordOption.{WordOption}
use Rattle.options.specs.Read.{◌>>=◌, or_bad}
use Rattle.options.specs.Number.{is_number, value_on, number}
use Rattle.options.specs.Name.{name_fault, unless, checked_name}
use Rattle.options.specs.Escape.{piece}
use Rattle.options.specs.Repeat.{Turn, More, Last, turn, behind, parts, all_parts}
use Rattle.options.specs.Block.{key_at, value_at, bare_value_at}
use Rattle.options.specs.Fifo as fifo
use Rattle.options.specs.Fifos.{fifo_part, fifo_text, fifo_options}
use Rattle.options.specs.Keyword.{flag, format_named, inner_named, on_fail_named, list_kind_named}
use Rattle.options.specs.Select.{specs}
use Rattle.options.specs.Time.{time}
use Rattle.options.specs.Key.{key_named}
use Rattle.options.specs.Segment as segment
use Rattle.options.specs.Draft.{Kept, no_options, is_set, segment_with, with_segment, with_chain, with_value, with_known, with_named}
use Rattle.options.specs.Options.{option_part, behind_bracket, block}
use Rattle.options.specs.Slave.{Slave, is_segment, segments_of, writes_flv, with_chains, slave_of, checked, with_format, finished, plan_slave}
use Rattle.options.specs.Tee.{list_of, clashes, next_slave, with_slave, slave_part, slaves_behind, slaves}
use Rattle.options.specs.Words.{Placed, Sayings, Planned, nothing_said, and_then, at_word, word_option_named, begins_with_dash, target_slaves, plan_with, target_for, target, other_word, last_word, word_before, words_from, generated_text, with_count, generated, plan}
use Rattle.options.specs.Words.{with_value as with_value_at}
use Rattle.options.specs.Filters.{chain, are_native, are_short}
use Rattle.options.specs.declared.select.Spec.{Spec}
use Rattle.options.specs.declared.select.Spec.TheVariants.{All as AllStreams, Video, Audio, Index}
use Rattle.options.specs.Valid.{IsNameIfAny, StartFits, AreFiles, writes, IsValid, IsValidPlan}

-- what holds of an answer, where there is one
abbrev pub On : {A : Type 0} → (A → Type 0) → Result A WordKind → Type 0
On P (Ok x) = P x
On P (Err e) = Unit {0}

on_bind : {A B : Type 0} (P : A → Type 0) (Q : B → Type 0) (r : Result A WordKind) (f : A → Result B WordKind) → On P r → ((x : A) → P x → On Q (f x)) → On Q (r >>= f)
on_bind P Q (Ok x) f h g = g x h
on_bind P Q (Err e) f h g = tt

abbrev Anything : {A : Type 0} → A → Type 0
Anything x = Unit {0}

on_any : {A : Type 0} (r : Result A WordKind) → On Anything r
on_any (Ok x) = tt
on_any (Err e) = tt

on_cond : {A : Type 0} (P : A → Type 0) (b : Bool) (x y : Result A WordKind) → On P x → On P y → On P (cond b x y)
on_cond P true x y p q = p
on_cond P false x y p q = q

-- a number lies within its limits
abbrev Within : ℕ → ℕ → ℕ → Type 0
Within least most v = (least ≤ v) × (v ≤ most)

limited : (least most v : ℕ) (b x y : Bool) → x ≡ nat_lt v least → y ≡ nat_lt most v → On (Within least most) (or_bad (cond b None (cond (x || y) None (Some v))))
limited least most v true x y p q = tt
limited least most v false true y p q = tt
limited least most v false false true p q = tt
limited least most v false false false p q = (grind (arith, nat_tests), grind (arith, nat_tests))

number_on : (least most : ℕ) (text : List ℕ) → On (Within least most) (or_bad (number least most text))
number_on least most text =
    limited least most (value_on 0 text) (not (is_number text) || nat_lt 19 (length text)) (nat_lt (value_on 0 text) least) (nat_lt most (value_on 0 text)) refl refl

-- the size of a queue, where it is said
abbrev QueueFits : Option ℕ → Type 0
QueueFits None = Unit {0}
QueueFits (Some size) = Within 1 256 size

abbrev FifoFits : FifoDraft → Type 0
FifoFits d = QueueFits d.queue_size

fifo_value_keeps : (k : FifoKey) (value : List ℕ) (d : FifoDraft) → FifoFits d → On FifoFits (fifo.with_value k value d)
fifo_value_keeps fifo_key.QueueSize value d h = on_bind (Within 1 256) FifoFits (or_bad (number 1 256 value)) _ (number_on 1 256 value) (λ v w. w)
fifo_value_keeps fifo_key.QueueBytes value d h = on_bind Anything FifoFits (or_bad (number 0 (2 ^ 40) value)) _ (on_any _) (λ v w. h)
fifo_value_keeps fifo_key.DropOnOverflow value d h = on_bind Anything FifoFits (or_bad (flag value)) _ (on_any _) (λ v w. h)
fifo_value_keeps fifo_key.AttemptRecovery value d h = on_bind Anything FifoFits (or_bad (flag value)) _ (on_any _) (λ v w. h)
fifo_value_keeps fifo_key.MaxRecoveryAttempts value d h = on_bind Anything FifoFits (or_bad (number 0 4294967295 value)) _ (on_any _) (λ v w. h)
fifo_value_keeps fifo_key.RecoveryWaitTime value d h = on_bind Anything FifoFits (or_bad (number 0 1000000000 value)) _ (on_any _) (λ v w. h)
fifo_value_keeps fifo_key.RestartWithKeyframe value d h = on_bind Anything FifoFits (or_bad (flag value)) _ (on_any _) (λ v w. h)

fifo_known_keeps : (k : Option FifoKey) (value : List ℕ) (d : FifoDraft) → FifoFits d → On FifoFits (fifo.with_known k value d)
fifo_known_keeps None value d h = tt
fifo_known_keeps (Some k) value d h = on_cond FifoFits (fifo.is_set k d) (Err fault.BadValue) _ tt (fifo_value_keeps k value d h)

fifo_named_keeps : (name value : List ℕ) (d : FifoDraft) → FifoFits d → On FifoFits (fifo.with_named name value d)
unfolding fifo.with_named
fifo_named_keeps name value d h = fifo_known_keeps (fifo.key_named name) value d h

-- what holds of a turn: P where others follow, Q of the last
abbrev TurnOn : {S : Type 0} → (S → Type 0) → (S → Type 0) → Turn S → Type 0
TurnOn P Q (More s rest) = P s
TurnOn P Q (Last s rest) = Q s

turn_on : {S : Type 0} (P : S → Type 0) (last : Bool) (s : S) (rest : List ℕ) → P s → TurnOn P P (turn last s rest)
turn_on P true s rest h = h
turn_on P false s rest h = h

abbrev First : {S : Type 0} → (S → Type 0) → S × List ℕ → Type 0
First Q x = Q x.0

behind_keeps : {S : Type 0} (P Q : S → Type 0) (others : S → List ℕ → Result (S × List ℕ) WordKind) → ((s : S) (text : List ℕ) → P s → On (First Q) (others s text)) → (t : Turn S) → TurnOn P Q t → On (First Q) (behind others t)
behind_keeps P Q others h (More s rest) k = h s rest k
behind_keeps P Q others h (Last s rest) k = k

parts_keep : {S : Type 0} (P Q : S → Type 0) (part : S → List ℕ → Result (Turn S) WordKind) (many : WordKind) → ((s : S) (text : List ℕ) → P s → On (TurnOn P Q) (part s text)) → (n : ℕ) (s : S) (text : List ℕ) → P s → On (First Q) (parts part many n s text)
unfolding parts
parts_keep P Q part many h zero s text k = tt
parts_keep P Q part many h (suc n) s text k =
    on_bind (TurnOn P Q) (First Q) (part s text) (behind (parts part many n)) (h s text k)
    (behind_keeps P Q (parts part many n) (parts_keep P Q part many h n))

fifo_part_keeps : (d : FifoDraft) (text : List ℕ) → FifoFits d → On (TurnOn FifoFits FifoFits) (fifo_part d text)
unfolding fifo_part
fifo_part_keeps d text h =
    on_bind Anything _ (key_at fault.UnknownOption [] text) _ (on_any _) (λ k u.
    on_bind Anything _ (bare_value_at k.1) _ (on_any _) (λ v w.
    on_bind FifoFits _ (fifo.with_named k.0 v.0 d) _ (fifo_named_keeps k.0 v.0 d h) (λ more keeps.
    turn_on FifoFits v.1 more v.2 keeps)))

fifo_text_keeps : (text : List ℕ) → On FifoFits (fifo_text text)
fifo_text_keeps [] = tt
fifo_text_keeps (c ∷ cs) =
    on_bind (First FifoFits) FifoFits (all_parts fifo_part fault.UnknownOption fifo.no_fifo (c ∷ cs)) _
    (parts_keep FifoFits FifoFits fifo_part fault.UnknownOption fifo_part_keeps (suc (length (c ∷ cs))) fifo.no_fifo (c ∷ cs) tt) (λ x k. k)

fifo_options_keep : (value : List ℕ) → On FifoFits (fifo_options value)
unfolding fifo_options
fifo_options_keep value = fifo_text_keeps (chars value)

-- the draft of an output
abbrev StartIfAny : Option ℕ → Type 0
StartIfAny None = Unit {0}
StartIfAny (Some start) = start ≤ 4294967295

abbrev IsOneFile : Format → Type 0
IsOneFile format = is_segment format ≡ false

abbrev InnerIfAny : Option Format → Type 0
InnerIfAny None = Unit {0}
InnerIfAny (Some format) = IsOneFile format

record SegFits (d : SegDraft) : Type 0 where
  inner : InnerIfAny d.inner
  list : IsNameIfAny d.list
  start : StartIfAny d.start

abbrev FifoIfAny : Option FifoDraft → Type 0
FifoIfAny None = Unit {0}
FifoIfAny (Some d) = FifoFits d

record Fits (d : Kept) : Type 0 where
  segment : SegFits d.segment
  fifo : FifoIfAny d.fifo

abbrev IsName : List ℕ → Type 0
IsName name = name_fault name ≡ None

unless_on : (o : Option WordKind) (name : List ℕ) → o ≡ name_fault name → On IsName (unless o name)
unless_on None name e = sym e
unless_on (Some f) name e = tt

name_on : (name : List ℕ) → On IsName (checked_name name)
name_on name = unless_on (name_fault name) name refl

inner_by : (flv adts mpegts : Bool) → On IsOneFile (ok_or (if flv then Some Flv else if adts then Some Adts else if mpegts then Some Mpegts else None) fault.UnknownFormat)
inner_by true adts mpegts = refl
inner_by false true mpegts = refl
inner_by false false true = refl
inner_by false false false = tt

inner_on : (value : List ℕ) → On IsOneFile (ok_or (inner_named value) fault.UnknownFormat)
inner_on value = inner_by (bytes_eq value (codes "flv")) (bytes_eq value (codes "adts")) (bytes_eq value (codes "mpegts"))

segment_keeps : (k : Key) (value : List ℕ) (d : SegDraft) → SegFits d → On SegFits (segment_with k value d)
segment_keeps key.SegmentFormat value d h = on_bind IsOneFile SegFits (ok_or (inner_named value) fault.UnknownFormat) _ (inner_on value) (λ v w. record { inner = w; list = h.list; start = h.start })
segment_keeps key.SegmentTime value d h = on_bind Anything SegFits (or_bad (time value)) _ (on_any _) (λ v w. record { inner = h.inner; list = h.list; start = h.start })
segment_keeps key.SegmentList value d h = on_bind IsName SegFits (checked_name value) _ (name_on value) (λ v w. record { inner = h.inner; list = w; start = h.start })
segment_keeps key.SegmentListType value d h = on_bind Anything SegFits (or_bad (list_kind_named value)) _ (on_any _) (λ v w. record { inner = h.inner; list = h.list; start = h.start })
segment_keeps key.SegmentStart value d h = on_bind (Within 0 4294967295) SegFits (or_bad (number 0 4294967295 value)) _ (number_on 0 4294967295 value) (λ v w. record { inner = h.inner; list = h.list; start = w.1 })
segment_keeps key.ResetTimestamps value d h = on_bind Anything SegFits (or_bad (flag value)) _ (on_any _) (λ v w. record { inner = h.inner; list = h.list; start = h.start })
segment_keeps key.BreakNonKeyframes value d h = on_bind Anything SegFits (or_bad (flag value)) _ (on_any _) (λ v w. record { inner = h.inner; list = h.list; start = h.start })
segment_keeps key.Format value d h = h
segment_keeps key.Select value d h = h
segment_keeps key.OnFail value d h = h
segment_keeps key.UseFifo value d h = h
segment_keeps key.FifoOptions value d h = h
segment_keeps key.Filters value d h = h
segment_keeps key.VideoFilters value d h = h
segment_keeps key.AudioFilters value d h = h
segment_keeps key.FirstFilters value d h = h
segment_keeps key.SecondFilters value d h = h

in_segment : (k : Key) (value : List ℕ) (d : Kept) → Fits d → On Fits (with_segment k value d)
in_segment k value d h = on_bind SegFits Fits (segment_with k value d.segment) _ (segment_keeps k value d.segment h.segment) (λ s w. record { segment = w; fifo = h.fifo })

in_chains : (spec : Spec) (value : List ℕ) (d : Kept) → Fits d → On Fits (with_chain spec value d)
in_chains spec value d h = on_bind Anything Fits (chain value) _ (on_any _) (λ v w. record { segment = h.segment; fifo = h.fifo })

value_keeps : (k : Key) (value : List ℕ) (d : Kept) → Fits d → On Fits (with_value k value d)
unfolding with_value
value_keeps key.Format value d h = on_bind Anything Fits (ok_or (format_named value) fault.UnknownFormat) _ (on_any _) (λ v w. record { segment = h.segment; fifo = h.fifo })
value_keeps key.Select value d h = on_bind Anything Fits (specs value) _ (on_any _) (λ v w. record { segment = h.segment; fifo = h.fifo })
value_keeps key.OnFail value d h = on_bind Anything Fits (or_bad (on_fail_named value)) _ (on_any _) (λ v w. record { segment = h.segment; fifo = h.fifo })
value_keeps key.UseFifo value d h = on_bind Anything Fits (or_bad (flag value)) _ (on_any _) (λ v w. record { segment = h.segment; fifo = h.fifo })
value_keeps key.FifoOptions value d h = on_bind FifoFits Fits (fifo_options value) _ (fifo_options_keep value) (λ v w. record { segment = h.segment; fifo = w })
value_keeps key.Filters value d h = in_chains AllStreams value d h
value_keeps key.VideoFilters value d h = in_chains Video value d h
value_keeps key.AudioFilters value d h = in_chains Audio value d h
value_keeps key.FirstFilters value d h = in_chains (Index 0) value d h
value_keeps key.SecondFilters value d h = in_chains (Index 1) value d h
value_keeps key.SegmentFormat value d h = in_segment key.SegmentFormat value d h
value_keeps key.SegmentTime value d h = in_segment key.SegmentTime value d h
value_keeps key.SegmentList value d h = in_segment key.SegmentList value d h
value_keeps key.SegmentListType value d h = in_segment key.SegmentListType value d h
value_keeps key.SegmentStart value d h = in_segment key.SegmentStart value d h
value_keeps key.ResetTimestamps value d h = in_segment key.ResetTimestamps value d h
value_keeps key.BreakNonKeyframes value d h = in_segment key.BreakNonKeyframes value d h

known_keeps : (k : Option Key) (value : List ℕ) (d : Kept) → Fits d → On Fits (with_known k value d)
known_keeps None value d h = tt
known_keeps (Some k) value d h = on_cond Fits (is_set k d) (Err fault.BadValue) _ tt (value_keeps k value d h)

named_keeps : (name value : List ℕ) (d : Kept) → Fits d → On Fits (with_named name value d)
unfolding with_named
named_keeps name value d h = known_keeps (key_named name) value d h

option_part_keeps : (d : Kept) (text : List ℕ) → Fits d → On (TurnOn Fits Fits) (option_part d text)
unfolding option_part
option_part_keeps d text h =
    on_bind Anything _ (key_at fault.UnclosedBlock [] text) _ (on_any _) (λ k u.
    on_bind Anything _ (value_at k.1) _ (on_any _) (λ v w.
    on_bind Fits _ (with_named k.0 v.0 d) _ (named_keeps k.0 v.0 d h) (λ more keeps.
    turn_on Fits v.1 more v.2 keeps)))

none_fits : Fits no_options
none_fits = record { segment = record { inner = tt; list = tt; start = tt }; fifo = tt }

bracket_keeps : (text : List ℕ) → On (First Fits) (behind_bracket text)
bracket_keeps [] = tt
bracket_keeps (c ∷ cs) =
    on_cond (First Fits) (c == 93) (Ok (no_options, cs)) _ none_fits
    (parts_keep Fits Fits option_part fault.UnclosedBlock option_part_keeps (suc (length (c ∷ cs))) no_options (c ∷ cs) none_fits)

block_keeps : (text : List ℕ) → On (First Fits) (block text)
unfolding block
block_keeps [] = none_fits
block_keeps (c ∷ cs) = on_cond (First Fits) (c == 91) _ (Ok (no_options, c ∷ cs)) (bracket_keeps cs) none_fits

-- an output's plan
size_within : (size : Option ℕ) → QueueFits size → Within 1 256 (unwrap_or size 60)
size_within None h = (lit≤ tt, lit≤ tt)
size_within (Some size) h = h

queue_within : (d : Option FifoDraft) → FifoIfAny d → Within 1 256 (unwrap_or (unwrap_or d fifo.no_fifo).queue_size 60)
queue_within None h = (lit≤ tt, lit≤ tt)
queue_within (Some d) h = size_within d.queue_size h

start_within : (start : Option ℕ) → StartIfAny start → unwrap_or start 0 ≤ 4294967295
start_within None h = lit≤ tt
start_within (Some start) h = h

inner_within : (inner : Option Format) → InnerIfAny inner → IsOneFile (unwrap_or inner Mpegts)
inner_within None h = refl
inner_within (Some format) h = h

-- what is known of chains that no check refused
chains_on : (flv native short : Bool) (s : Slave) → ((flv ≡ true → native ≡ true) → short ≡ true → IsValid s) → On IsValid (cond ((flv && not native) || not short) (Err fault.BadFilter) (Ok s))
chains_on true true true s h = h (λ e. refl) refl
chains_on true true false s h = tt
chains_on true false short s h = tt
chains_on false native true s h = h (λ e. absurd cc) refl
chains_on false native false s h = tt

segment_valid : (d : Kept) (name : List ℕ) → Fits d → IsName name → (o : Option TemplateParts) → o ≡ template name → On IsValid (cond (is_none o) (Err fault.BadTemplate) (with_chains Segment d name))
segment_valid d name h n None e = tt
segment_valid d name h n (Some t) e = chains_on (writes_flv Segment d.segment) (are_native d.chains) (are_short d.chains) (slave_of Segment d name) (λ native short. record {
  name = n;
  list = h.segment.list;
  start = start_within d.segment.start h.segment.start;
  files = inner_within d.segment.inner h.segment.inner;
  queue_some = (queue_within d.fifo h.fifo).0;
  queue_few = (queue_within d.fifo h.fifo).1;
  segments = refl;
  template = λ s. sym (ap is_some e);
  short = short;
  native = native;
})

whole_valid : (format : Format) (d : Kept) (name : List ℕ) → Fits d → IsName name → is_segment format ≡ false → segments_of format d.segment ≡ None → writes format (segments_of format d.segment) ≡ writes_flv format d.segment → On IsValid (with_chains format d name)
whole_valid format d name h n whole none flv = chains_on (writes_flv format d.segment) (are_native d.chains) (are_short d.chains) (slave_of format d name) (λ native short. record {
  name = n;
  list = subst (λ (o : Option SegOptions). IsNameIfAny (list_of o)) (sym none) tt;
  start = subst StartFits (sym none) tt;
  files = subst AreFiles (sym none) tt;
  queue_some = (queue_within d.fifo h.fifo).0;
  queue_few = (queue_within d.fifo h.fifo).1;
  segments = ap is_some none ∙ sym whole;
  template = λ s. absurd (cc (s, whole));
  short = short;
  native = λ w. native (sym flv ∙ w);
})

slave_valid : (format : Format) (d : Kept) (name : List ℕ) → Fits d → IsName name → On IsValid (cond (is_segment format && is_none (template name)) (Err fault.BadTemplate) (with_chains format d name))
slave_valid Segment d name h n = segment_valid d name h n (template name) refl
slave_valid Flv d name h n = whole_valid Flv d name h n refl refl refl
slave_valid Adts d name h n = whole_valid Adts d name h n refl refl refl
slave_valid Mpegts d name h n = whole_valid Mpegts d name h n refl refl refl

checked_valid : (format : Format) (d : Kept) (name : List ℕ) → Fits d → On IsValid (checked format d name)
checked_valid format d name h =
    on_cond IsValid (not (is_segment format) && segment.has_any d.segment) (Err fault.UnknownOption) _ tt
    (on_bind IsName IsValid (checked_name name) _ (name_on name) (λ n k. slave_valid format d n h k))

format_valid : (format : Option Format) (d : Kept) (name : List ℕ) → Fits d → On IsValid (with_format format d name)
format_valid None d name h = tt
format_valid (Some format) d name h = checked_valid format d name h

finished_valid : (d : Kept) (name : List ℕ) → Fits d → On IsValid (finished d name)
unfolding finished
finished_valid d name h = format_valid d.format d name h

plan_slave_valid : (text : List ℕ) → On IsValid (plan_slave text)
unfolding plan_slave
plan_slave_valid text = on_bind (First Fits) IsValid (block text) _ (block_keeps text) (λ b h. finished_valid b.0 (encode_utf8_all b.1) h)

-- the outputs of a plan
record AreSome (slaves : List Slave) : Type 0 where
  few : length slaves ≤ 16
  each : All IsValid slaves

record AreValid (slaves : List Slave) : Type 0 where
  some : 0 < length slaves
  few : length slaves ≤ 16
  each : All IsValid slaves

one_valid : (s : Slave) → IsValid s → All IsValid (s ∷ [])
one_valid s h zero d k = h
one_valid s h (suc n) d k = absurd (omega arith)

not_full : (n : ℕ) → (n == 16) ≡ false → n ≤ 16 → n + 1 ≤ 16
not_full n e h = grind (arith, nat_tests)

with_slave_valid : (before : List Slave) (s : Slave) (rest : List ℕ) → length before + 1 ≤ 16 → AreSome before → IsValid s → TurnOn AreSome AreValid (with_slave before s rest)
with_slave_valid before s [] lt h k = record {
  some = omega (arith, length-append before (s ∷ []));
  few = omega (arith, length-append before (s ∷ []));
  each = All-append IsValid before (s ∷ []) h.each (one_valid s k);
}
with_slave_valid before s (c ∷ cs) lt h k = record {
  few = omega (arith, length-append before (s ∷ []));
  each = All-append IsValid before (s ∷ []) h.each (one_valid s k);
}

abbrev Second : Slave × List ℕ → Type 0
Second x = IsValid x.0

abbrev one_more : List Slave → List ℕ → Result (Slave × List ℕ) WordKind
one_more before text = piece (124 ∷ []) Bare text >>= λ p. plan_slave p.0 >>= λ s. if clashes before s then Err fault.SameTarget else Ok (s, p.1)

part_by : (before : List Slave) (text : List ℕ) (b : Bool) → b ≡ (length before == 16) → AreSome before → On (TurnOn AreSome AreValid) (cond b (Err fault.TooManySlaves) (one_more before text) >>= λ x. Ok (with_slave before x.0 x.1))
part_by before text true e h = tt
part_by before text false e h =
    on_bind Second (TurnOn AreSome AreValid) (one_more before text) (λ x. Ok (with_slave before x.0 x.1))
    (on_bind Anything Second (piece (124 ∷ []) Bare text) _ (on_any _) (λ p u.
    on_bind IsValid Second (plan_slave p.0) _ (plan_slave_valid p.0) (λ s v.
    on_cond Second (clashes before s) (Err fault.SameTarget) (Ok (s, p.1)) tt v)))
    (λ x v. with_slave_valid before x.0 x.1 (not_full (length before) (sym e) h.few) h v)

part_keeps : (before : List Slave) (text : List ℕ) → AreSome before → On (TurnOn AreSome AreValid) (slave_part before text)
unfolding next_slave
part_keeps before text h = part_by before text (length before == 16) refl h

none_yet : AreSome []
none_yet = record { few = omega arith; each = All-nil IsValid }

slaves_valid : (text : List ℕ) → On AreValid (slaves text)
unfolding slaves
slaves_valid text =
    on_bind (First AreValid) AreValid (slaves_behind [] text) _
    (parts_keep AreSome AreValid slave_part fault.TooManySlaves part_keeps (suc (length text)) [] text none_yet) (λ x k. k)

target_valid : (t : Target) (word : List ℕ) → On AreValid (target_slaves t word)
unfolding target_slaves
target_valid Tee word = on_cond AreValid (length word == 0) (Err fault.BadValue) _ tt (slaves_valid (chars word))
target_valid (One format) word =
    on_bind IsValid AreValid (checked format no_options word) _ (checked_valid format no_options word none_fits)
    (λ s v. record { some = omega arith; few = omega arith; each = one_valid s v })

-- what holds of an answer of words, where there is one
abbrev OnAt : {A : Type 0} → (A → Type 0) → Placed A → Type 0
OnAt P (Ok x) = P x
OnAt P (Err e) = Unit {0}

at_cond : {A : Type 0} (P : A → Type 0) (b : Bool) (x y : Placed A) → OnAt P x → OnAt P y → OnAt P (cond b x y)
at_cond P true x y p q = p
at_cond P false x y p q = q

then_on : {A B : Type 0} (P : A → Type 0) (Q : B → Type 0) (r : Placed A) (f : A → Placed B) → OnAt P r → ((x : A) → P x → OnAt Q (f x)) → OnAt Q (and_then r f)
then_on P Q (Ok x) f h g = g x h
then_on P Q (Err e) f h g = tt

placed_on : {A : Type 0} (P : A → Type 0) (at : ℕ) (r : Result A WordKind) → On P r → OnAt P (at_word at r)
placed_on P at (Ok x) h = h
placed_on P at (Err e) h = tt

at_any : {A : Type 0} (r : Placed A) → OnAt Anything r
at_any (Ok x) = tt
at_any (Err e) = tt

with_valid : (input : Option (List ℕ)) (at : ℕ) (s : Sayings) (slaves : List Slave) → AreValid slaves → OnAt IsValidPlan (plan_with input at s slaves)
with_valid None at s slaves h = tt
with_valid (Some input) at s slaves h = record { some = h.some; few = h.few; each = h.each }

for_valid : (t : Option Target) (at left : ℕ) (word : List ℕ) (s : Sayings) → OnAt IsValidPlan (target_for t at left word s)
for_valid None at left word s = tt
for_valid (Some t) at left word s =
    then_on AreValid IsValidPlan (at_word at (target_slaves t word)) _ (placed_on AreValid at (target_slaves t word) (target_valid t word)) (λ slaves h.
    at_cond IsValidPlan (not (left == 0)) (Err (fault.UnknownWord, at + 1)) _ tt (with_valid s.input (at + 1) s slaves h))

other_valid : (at left : ℕ) (word : List ℕ) (s : Sayings) → OnAt IsValidPlan (other_word at left word s)
unfolding target
other_valid at left word s = at_cond IsValidPlan (begins_with_dash word) (Err (fault.UnknownWord, at)) _ tt (for_valid s.target at left word s)

last_valid : (o : Option WordOption) (at : ℕ) (word : List ℕ) (s : Sayings) → OnAt IsValidPlan (last_word o at word s)
last_valid None at word s = other_valid at 0 word s
last_valid (Some o) at word s = tt

before_valid : (o : Option WordOption) (at left : ℕ) (word value : List ℕ) (s : Sayings) (more : Sayings → Placed Planned) → ((t : Sayings) → OnAt IsValidPlan (more t)) → OnAt IsValidPlan (word_before o at left word value s more)
before_valid None at left word value s more h = other_valid at left word s
before_valid (Some o) at left word value s more h = then_on Anything IsValidPlan (with_value_at o at value s) more (at_any _) (λ t u. h t)

words_valid : (at : ℕ) (s : Sayings) (words : List (List ℕ)) → OnAt IsValidPlan (words_from at s words)
unfolding words_from
words_valid at s [] = at_cond IsValidPlan (is_none s.input) (Err (fault.NoInput, at)) (Err (fault.NoOutput, at)) tt tt
words_valid at s (word ∷ []) = last_valid (word_option_named word) at word s
words_valid at s (word ∷ value ∷ words) =
    before_valid (word_option_named word) at (length (value ∷ words)) word value s (λ t. words_from (at + 2) t words) (λ t. words_valid (at + 2) t words)

count_valid : (count : Option ℕ) (more : List (List ℕ)) → OnAt IsValidPlan (with_count count more)
count_valid None more = tt
count_valid (Some count) (word ∷ words) = tt
count_valid (Some count) [] =
    then_on AreValid IsValidPlan (at_word 1 (target_slaves Tee generated_text)) _ (placed_on AreValid 1 (target_slaves Tee generated_text) (target_valid Tee generated_text)) (λ slaves h.
    record { some = h.some; few = h.few; each = h.each })

generated_valid : (words : List (List ℕ)) → OnAt IsValidPlan (generated words)
generated_valid [] = tt
generated_valid (count ∷ more) = count_valid (number 1 20000 count) more

plan_on : (words : List (List ℕ)) → OnAt IsValidPlan (plan words)
plan_on [] = words_valid 0 nothing_said []
plan_on (word ∷ words) = at_cond IsValidPlan (bytes_eq word (codes "generate")) (generated words) _ (generated_valid words) (words_valid 0 nothing_said (word ∷ words))

pub plan_valid : (words : List (List ℕ)) (p : Planned) → plan words ≡ Ok p → IsValidPlan p
plan_valid words p e = subst (λ (r : Placed Planned). OnAt IsValidPlan r) e (plan_on words)
