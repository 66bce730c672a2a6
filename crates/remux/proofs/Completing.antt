-- A run in which nothing fails comes to its end.
use Rattle.std.proofs.Common.{◌≡◌, ℕ, ◌+◌, ◌<◌, ◌≤◌, ◌⊎◌, inl, inr, Bool, true, false, List, [], ◌∷◌, ◌++◌, length, map, Option, Some, None, is_some, refl, ap, sym, ◌∙◌, subst, arith, length-append, Ok, Err}
use Rattle.std.specs.Prelude.{zero, suc, ◌&&◌, IfSome, IsSomeAnd, drop, nat_lt, if◌then◌else◌}
use Rattle.std.proofs.lemmas.Bool.{both_ways}
use Rattle.std.proofs.lemmas.List.{append-nil}
use Rattle.std.specs.List.{list_all}
use Rattle.fifo_core.specs.declared.types.EndState.{EndState}
use Rattle.fifo_core.specs.declared.types.EndState.TheVariants as ends
use Rattle.fifo_core.specs.declared.types.PacketFacts.{PacketFacts}
use Rattle.fifo_core.specs.History.{History}
use Rattle.fifo_core.specs.Laws.{all_written}
use Rattle.flv_demux.specs.Probe.{probe_of, infos_of, streams}
use Rattle.flv_demux.proofs.Probing.{probe_stays}
use Rattle.flv_tags.specs.declared.tag.Tag.{Tag}
use Rattle.flv_tags.specs.declared.tag.TagFault.{TagFault}
use Rattle.flv_tags.specs.declared.tag.TagFault.TheVariants as fault
use Rattle.flv_tags.specs.Front.{Front, Nothing, Part, One, front_of}
use Rattle.flv_tags.specs.Tags.{Reading, reading_by, walk, reading_of_tags, reading_of, is_flv, offset_of, reading_past, only}
use Rattle.flv_tags.proofs.Grow.{tags_grow}
use Rattle.flv_tags.proofs.HeadLemmas.{is_flv_more, offset_of_more}
use Rattle.options.specs.Slave.{Slave}
use Rattle.options.specs.declared.fault.WordKind.{WordKind}
use Rattle.options.specs.declared.fault.WordFault.{WordFault}
use Rattle.options.specs.Words.{Planned, Placed, Refuses}
use Rattle.options.specs.declared.words.Source.{Source}
use Rattle.options.specs.declared.words.Source.TheVariants.{Named, Generated}
use Rattle.rmx_edge.specs.Count.{Rose}
use Rattle.rmx_edge.specs.Inputs.{InputView, InputState}
use Rattle.rmx_edge.specs.Shelf.{ShelfState}
use Rattle.rmx_edge.specs.Sink.{SinkState}
use Rattle.rmx_media.specs.declared.packet.Packet.{Packet}
use Rattle.rmx_media.specs.declared.streams.StreamInfo.{StreamInfo}
use Rattle.slave.specs.declared.job.SlaveEnd.{SlaveEnd}
use Rattle.slave.specs.End.{EndView, EndedBy, end_view}
use Rattle.slave.specs.Headline.{HoldsAll}
use Rattle.slave.specs.Origin.{facts_of}
use Rattle.slave.specs.Runs.{expand}
use Rattle.slave.specs.Segments.{asks_list}
use Rattle.slave.proofs.Sound.{failures_noted}
use Rattle.tee.specs.Each.{Each3}
use Rattle.tee.specs.Ends.{AllEnded, EndsAll}
use Rattle.tee.specs.Fails.{failed_slave, failed_in, first_failed_from, is_failed, any_want}
use Rattle.tee.specs.RunEnds.{EndsOn, EndsAllRun}
use Rattle.tee.specs.Seat.{Seat, AreSeats, IsSeat, aborts, chosen, first_without}
use Rattle.tee.specs.Tracks.{Track, Here, There}
use Rattle.tee.specs.Schedule.{IsBlocking}
use Rattle.remux.specs.Asked.{Asked, asked_of, asked_with, name_of, pictures_of}
use Rattle.remux.specs.Came.{CameTo}
use Rattle.remux.specs.Complete.{IsThere, IsGood, NoneFaulted, AllWrittenFirst, Waits, EndsDuly, EachEndsDuly, IsDoneOrWants, Completes}
use Rattle.remux.specs.Demuxed.{is_refused}
use Rattle.remux.specs.Ending.{status_by}
use Rattle.remux.specs.Generated.{generated, telling}
use Rattle.remux.specs.Kept.{IsKept, AreKept}
use Rattle.remux.specs.KeptRun.{IsKeptRun, AreKeptRun}
use Rattle.remux.specs.Outcome.{Taken, IsSettled, EndsEarly, IsNothing, OfAll, OfEach, ComesToBy, ComesFromBy, IsReported, with_status, word_status, word_status_by, states_of}
use Rattle.remux.specs.Report.{Reports, ReportsBy, report}
use Rattle.remux.specs.Took.{SawEnd}
use Rattle.remux.specs.declared.read.ReadEnd.{ReadEnd}
use Rattle.remux.specs.declared.read.ReadEnd.TheVariants as read_end
use Rattle.remux.specs.declared.run.Outcome.{Outcome}
use Rattle.remux.specs.declared.status.Status.{Status}
use Rattle.remux.specs.declared.status.Status.TheVariants as status
use Rattle.remux.specs.declared.status.Refusal.TheVariants as refusal

-- Each output.

first_session : (n : ℕ) (fs : List PacketFacts) → AllWrittenFirst (all_written n fs)
first_session n [] = tt
first_session n (f ∷ fs) = (refl, first_session (n + 1) fs)

-- an output that holds all is closed, and all was written in its first session
holds_closed : (seat : Seat) (given : List Packet) (e : EndView) → HoldsAll seat.origin (chosen seat given) e → (e.state ≡ ends.Closed) × AllWrittenFirst (expand e.fates)
holds_closed seat given e h = (h.closed, rw h.fates (first_session 0 (map (facts_of seat.origin) (chosen seat given))))

-- an output that the reader wrote
duly_here : (s : Slave) (infos : List StreamInfo) (script : Option (List ℕ)) (before : ShelfState) (seat : Seat) (given : List Packet) (h : History) (e : EndView)
    → IsSeat s infos script before seat → EndedBy seat.origin seat.slave.fifo (chosen seat given) h e → IsKept seat given e → EndsDuly s before e
duly_here s infos script before seat given h e is ended k = record {
  failed = λ f. rw (ap (λ (x : ShelfState). x.faults) is.shelf_is) at
      (failures_noted.0 seat.origin seat.slave.fifo (chosen seat given) e ended.0 f).1;
  closed = λ waits listless nf nw. holds_closed seat given e
      (k.whole (λ r. nf (rw (ap (λ (x : ShelfState). x.faults) is.shelf_is) at r)) (λ r. nw (rw (ap (λ (x : ShelfState). x.wants) is.shelf_is) at r))
      (λ w. both_ways (asks_list seat.origin.seg) (ap asks_list is.seg ∙ listless) w.0));
  sound = λ so. k.sound (ap (λ (x : ShelfState). x.sound) is.shelf_is ∙ so) ∙ ap (λ (x : ShelfState). x.faults) is.shelf_is;
}

pub all_here : {S : Type 0} (state : S → ShelfState) (infos : List StreamInfo) (script : Option (List ℕ)) (slaves : List Slave) (shelves : List S) (seats : List Seat) (rest : List S) (given : List Packet) (hs : List History) (es : List EndView)
    → AreSeats state infos script slaves shelves seats rest → AllEnded seats given hs es → AreKept seats given es → EachEndsDuly es slaves (map state shelves) × (length es ≡ length slaves)
all_here state infos script [] shelves [] rest given [] [] a e k = (tt, refl)
all_here state infos script [] shelves [] rest given [] (x ∷ es) a e k = absurd e
all_here state infos script [] shelves [] rest given (h ∷ hs) es a e k = absurd e
all_here state infos script [] shelves (seat ∷ seats) rest given hs es a e k = absurd a
all_here state infos script (s ∷ ss) [] seats rest given hs es a e k = absurd a
all_here state infos script (s ∷ ss) (x ∷ xs) [] rest given hs es a e k = absurd a
all_here state infos script (s ∷ ss) (x ∷ xs) (seat ∷ seats) rest given [] es a e k = absurd e
all_here state infos script (s ∷ ss) (x ∷ xs) (seat ∷ seats) rest given (h ∷ hs) [] a e k = absurd e
all_here state infos script (s ∷ ss) (x ∷ xs) (seat ∷ seats) rest given (h ∷ hs) (y ∷ es) a e k =
    let r = all_here state infos script ss xs seats rest given hs es a.1 e.1 k.1 in
    ((duly_here s infos script (state x) seat given h y a.0 e.0 k.0, r.0), omega (arith, r.1))

-- where its thread left it failed, an output failed
left_failed : (short : Bool) (s : EndState) → (if short then ends.NoMemory else s) ≡ ends.Failed → s ≡ ends.Failed
left_failed true s e = cc e
left_failed false s e = e

-- an output failed only where its count rose, with a thread or without
track_failed : (given : List Packet) (seat : Seat) (t : Track) (e : EndView) → EndsOn given seat t e → e.state ≡ ends.Failed → Rose seat.origin.shelf.faults e.shelf.faults
track_failed given seat (Here h) e on f = (failures_noted.0 seat.origin seat.slave.fifo (chosen seat given) (record e { inline = false }) on.ended.0 f).1
track_failed given seat (There told) e on f =
    subst (λ (x : ShelfState). Rose seat.origin.shelf.faults x.faults) (sym on.adds.shelf)
    (failures_noted.1 seat.origin seat.slave.fifo on.turns on.left on.ends (left_failed on.short on.left.state (sym on.adds.state ∙ f))).1

blocks_by : (s : Slave) (seat : Seat) (e : EndView) → seat.slave ≡ s → Waits s e → IsBlocking seat e
blocks_by s seat e is (inl w) = inl (ap (λ (x : Slave). x.fifo.use_fifo) is ∙ w)
blocks_by s seat e is (inr (inl w)) = inr (inl (ap (λ (x : Slave). x.fifo.dropping) is ∙ w))
blocks_by s seat e is (inr (inr w)) = inr (inr w)

duly_run : (s : Slave) (infos : List StreamInfo) (script : Option (List ℕ)) (before : ShelfState) (seat : Seat) (given : List Packet) (t : Track) (e : EndView)
    → IsSeat s infos script before seat → EndsOn given seat t e → IsKeptRun seat given e → EndsDuly s before e
duly_run s infos script before seat given t e is on k = record {
  failed = λ f. rw (ap (λ (x : ShelfState). x.faults) is.shelf_is) at (track_failed given seat t e on f);
  closed = λ waits listless nf nw. holds_closed seat given e
      (k.whole (blocks_by s seat e is.slave waits) (λ r. nf (rw (ap (λ (x : ShelfState). x.faults) is.shelf_is) at r)) (λ r. nw (rw (ap (λ (x : ShelfState). x.wants) is.shelf_is) at r))
      (λ w. both_ways (asks_list seat.origin.seg) (ap asks_list is.seg ∙ listless) w.0));
  sound = λ so. k.sound (ap (λ (x : ShelfState). x.sound) is.shelf_is ∙ so) ∙ ap (λ (x : ShelfState). x.faults) is.shelf_is;
}

pub all_run : {S : Type 0} (state : S → ShelfState) (infos : List StreamInfo) (script : Option (List ℕ)) (slaves : List Slave) (shelves : List S) (seats : List Seat) (rest : List S) (given : List Packet) (ts : List Track) (es : List EndView)
    → AreSeats state infos script slaves shelves seats rest → Each3 (EndsOn given) seats ts es → AreKeptRun seats given es → EachEndsDuly es slaves (map state shelves) × (length es ≡ length slaves)
all_run state infos script [] shelves [] rest given [] [] a e k = (tt, refl)
all_run state infos script [] shelves [] rest given [] (x ∷ es) a e k = absurd e
all_run state infos script [] shelves [] rest given (t ∷ ts) es a e k = absurd e
all_run state infos script [] shelves (seat ∷ seats) rest given ts es a e k = absurd a
all_run state infos script (s ∷ ss) [] seats rest given ts es a e k = absurd a
all_run state infos script (s ∷ ss) (x ∷ xs) [] rest given ts es a e k = absurd a
all_run state infos script (s ∷ ss) (x ∷ xs) (seat ∷ seats) rest given [] es a e k = absurd e
all_run state infos script (s ∷ ss) (x ∷ xs) (seat ∷ seats) rest given (t ∷ ts) [] a e k = absurd e
all_run state infos script (s ∷ ss) (x ∷ xs) (seat ∷ seats) rest given (t ∷ ts) (y ∷ es) a e k =
    let r = all_run state infos script ss xs seats rest given ts es a.1 e.1 k.1 in
    ((duly_run s infos script (state x) seat given t y a.0 e.0 k.0, r.0), omega (arith, r.1))

-- what is known of all ends of a run
abbrev pub Knows : OfAll → OfEach → Type 1
Knows E A = (S : Type 0) (state : S → ShelfState) (infos : List StreamInfo) (script : Option (List ℕ)) (slaves : List Slave) (shelves : List S) (seats : List Seat) (rest : List S) (given : List Packet) (dead : ℕ → Bool) (es : List EndView)
    → AreSeats state infos script slaves shelves seats rest → E seats given dead es → A seats given es → EachEndsDuly es slaves (map state shelves) × (length es ≡ length slaves)

pub knows_here : Knows EndsAll AreKept
knows_here S state infos script slaves shelves seats rest given dead es a e k = all_here state infos script slaves shelves seats rest given e.histories es a e.each k

pub knows_run : Knows EndsAllRun AreKeptRun
knows_run S state infos script slaves shelves seats rest given dead es a e k = all_run state infos script slaves shelves seats rest given e.tracks es a e.each k

-- The status.

unfailed_state : (s : EndState) → (s ≡ ends.Failed → ⊥) → is_failed s ≡ false
unfailed_state ends.Closed f = refl
unfailed_state ends.Failed f = absurd (f refl)
unfailed_state ends.NoMemory f = refl

-- where no count rose, no output failed
pub none_failed : (es : List EndView) (slaves : List Slave) (shelves : List ShelfState) → EachEndsDuly es slaves shelves → NoneFaulted es shelves → (n : ℕ) (marks : List Bool) → first_failed_from n marks (states_of es) ≡ None
none_failed [] slaves shelves d c n [] = refl
none_failed [] slaves shelves d c n (a ∷ marks) = refl
none_failed (e ∷ es) [] shelves d c n marks = absurd d
none_failed (e ∷ es) (s ∷ ss) [] d c n marks = absurd d
none_failed (e ∷ es) (s ∷ ss) (x ∷ xs) d c n [] = refl
none_failed (e ∷ es) (s ∷ ss) (x ∷ xs) d c n (a ∷ marks) =
    let calm = unfailed_state e.state (λ f. c.0 (d.0.failed f)) in
    by a (is_failed e.state) calm (none_failed es ss xs d.1 c.1 (n + 1) marks)
  where
    by : (a b : Bool) → b ≡ false → first_failed_from (n + 1) marks (states_of es) ≡ None → (if a && b then Some n else first_failed_from (n + 1) marks (states_of es)) ≡ None
    by true false f rest = rest
    by true true f rest = absurd (cc f)
    by false b f rest = rest

one_stands : (es : List EndView) (slaves : List Slave) (shelves : List ShelfState) → EachEndsDuly es slaves shelves → NoneFaulted es shelves → 0 < length es → list_all is_failed (states_of es) ≡ false
one_stands [] slaves shelves d c some = absurd (omega (arith, some))
one_stands (e ∷ es) [] shelves d c some = absurd d
one_stands (e ∷ es) (s ∷ ss) [] d c some = absurd d
one_stands (e ∷ es) (s ∷ ss) (x ∷ xs) d c some = ap (λ (b : Bool). b && list_all is_failed (states_of es)) (unfailed_state e.state (λ f. c.0 (d.0.failed f)))

pub no_slave_failed : (es : List EndView) (slaves : List Slave) (shelves : List ShelfState) (marks : List Bool) → EachEndsDuly es slaves shelves → NoneFaulted es shelves → 0 < length es → failed_slave marks (states_of es) ≡ None
no_slave_failed es slaves shelves marks d c some =
    ap (λ (f : Option ℕ). failed_in f (list_all is_failed (states_of es))) (none_failed es slaves shelves d c 0 marks) ∙ ap (failed_in None) (one_stands es slaves shelves d c some)

-- The text.

-- what was taken of it, and what is left
record Cut (text bytes : List ℕ) (new : InputState) : Type 0 where
  rest : List ℕ
  whole : text ≡ bytes ++ rest
  ended : SawEnd new → rest ≡ []

same_text : (a b : List ℕ) → Some a ≡ Some b → a ≡ b
same_text a b e = cc

cut_by : (name text bytes : List ℕ) (u v : Option InputView) → IsSomeAnd u (λ a. a.bytes_of name ≡ Some text) → IfSome u (λ a. IsSomeAnd v (λ b. a.bytes_of name ≡ Some (bytes ++ b.left)))
    → (rest : List ℕ) × (text ≡ bytes ++ rest) × (IfSome v (λ b. (b.left ≡ []) × (b.ended ≡ true)) → rest ≡ [])
cut_by name text bytes None v t k = absurd t
cut_by name text bytes (Some a) None t k = absurd k
cut_by name text bytes (Some a) (Some b) t k = (b.left, same_text text (bytes ++ b.left) (sym t ∙ k), λ e. e.0)

cut_of : (name text : List ℕ) (max : ℕ) (bytes : List ℕ) (old new : InputState) → IsSomeAnd old.view (λ a. a.bytes_of name ≡ Some text) → Taken name max bytes old new → Cut text bytes new
cut_of name text max bytes old new t k =
    let c = cut_by name text bytes old.view new.view t k.told in
    record { rest = c.0; whole = c.1; ended = c.2 }

-- behind the head a text is whole or cut
IsBehind : Option TagFault → Type 0
IsBehind v = (v ≡ None) ⊎ (v ≡ Some fault.CutTag)

behind_front : (f : Front) (later : List ℕ → Reading) → ((text : List ℕ) → IsBehind (later text).verdict) → IsBehind (reading_by f later).verdict
unfolding IsBehind
behind_front Nothing later h = inl refl
behind_front Part later h = inr refl
behind_front (One tag rest) later h = h rest

behind_walk : (n : ℕ) (text : List ℕ) → IsBehind (walk n text).verdict
unfolding IsBehind
behind_walk zero text = inr refl
behind_walk (suc n) text = behind_front (front_of text) (walk n) (behind_walk n)

behind_tags : (text : List ℕ) → IsBehind (reading_of_tags text).verdict
unfolding reading_of_tags
behind_tags text = behind_walk (suc (length text)) text

behind_past : (b : Bool) (r : Reading) → IsBehind r.verdict → IsBehind (if b then only (Some fault.CutTag) else r).verdict
unfolding IsBehind
behind_past true r h = inr refl
behind_past false r h = h

unrefused : (v : Option TagFault) → is_refused v ≡ true → IsBehind v → ⊥
unfolding IsBehind
unrefused v e (inl n) = (let x : false ≡ true = rw n at e in cc x)
unrefused v e (inr c) = (let x : false ≡ true = rw c at e in cc x)

-- a text whose head is good isn't refused, nor is any beginning of it that has a head
refused_by : (a o : Bool) (r s : Reading) → IsBehind r.verdict → is_refused (if a then (if o then only (Some fault.BadOffset) else r) else only (Some fault.NotFlv)).verdict ≡ true
    → (if a then (if o then only (Some fault.BadOffset) else s) else only (Some fault.NotFlv)).verdict ≡ None → ⊥
refused_by true true r s h e w = cc w
refused_by true false r s h e w = unrefused r.verdict e h
refused_by false o r s h e w = cc w

not_refused_long : (b more : List ℕ) → 9 ≤ length b → is_refused (reading_of b).verdict ≡ true → (reading_of (b ++ more)).verdict ≡ None → ⊥
not_refused_long b more long e w =
    refused_by (is_flv b) (nat_lt (offset_of b) 9) (reading_past (offset_of b) b) (reading_past (offset_of (b ++ more)) (b ++ more))
    (behind_past (nat_lt (length b) (offset_of b)) (reading_of_tags (drop (offset_of b) b)) (behind_tags (drop (offset_of b) b))) e
    (ap (λ (f : Bool). (if f then (if nat_lt (offset_of b) 9 then only (Some fault.BadOffset) else reading_past (offset_of (b ++ more)) (b ++ more)) else only (Some fault.NotFlv)).verdict) (sym (is_flv_more b more long))
    ∙ ap (λ (n : ℕ). (if is_flv (b ++ more) then (if nat_lt n 9 then only (Some fault.BadOffset) else reading_past (offset_of (b ++ more)) (b ++ more)) else only (Some fault.NotFlv)).verdict) (sym (offset_of_more b more long))
    ∙ w)

-- all was taken
all_taken : (text bytes : List ℕ) (new : InputState) → Cut text bytes new → SawEnd new → text ≡ bytes
all_taken text bytes new c end = c.whole ∙ ap (λ (l : List ℕ). bytes ++ l) (c.ended end) ∙ append-nil bytes

not_refused : (text bytes : List ℕ) (new : InputState) → Cut text bytes new → (9 ≤ length bytes) ⊎ SawEnd new → is_refused (reading_of bytes).verdict ≡ true → (reading_of text).verdict ≡ None → ⊥
not_refused text bytes new c (inl long) e w = not_refused_long bytes c.rest long e (ap (λ (l : List ℕ). (reading_of l).verdict) (sym c.whole) ∙ w)
not_refused text bytes new c (inr end) e w = (let x : false ≡ true = rw (ap (λ (l : List ℕ). (reading_of l).verdict) (sym (all_taken text bytes new c end)) ∙ w) at e in cc x)

-- where it is settled which streams there are, they are those of the text
same_streams : (text bytes : List ℕ) (max : ℕ) (new : InputState) → Cut text bytes new → length text < max → IsSettled max bytes new → streams (reading_of bytes).tags ≡ streams (reading_of text).tags
same_streams text bytes max new c short (inl sure) =
    let g = tags_grow bytes c.rest in
    sym (ap infos_of (ap (λ (l : List ℕ). probe_of (reading_of l).tags) c.whole ∙ ap probe_of g.1 ∙ probe_stays (reading_of bytes).tags g.0 sure))
same_streams text bytes max new c short (inr (inl end)) = ap (λ (l : List ℕ). streams (reading_of l).tags) (sym (all_taken text bytes new c end))
same_streams text bytes max new c short (inr (inr full)) = absurd (omega (arith, short, full, ap length c.whole, length-append bytes c.rest))

-- an output takes no stream where there is none
none_takes : (slaves : List Slave) → 0 < length slaves → first_without [] slaves ≡ None → ⊥
none_takes [] some e = omega (arith, some)
none_takes (s ∷ ss) some e = cc e

-- how a run ends that made no output
early_well : (s : Status) (asked : Asked) (text : List ℕ) (old new : InputState) → 0 < length asked.slaves → IsSomeAnd old.view (λ v. v.bytes_of asked.source ≡ Some text) → IsGood asked text → (Rose old.faults new.faults → ⊥)
    → EndsEarly s asked old new → IsDoneOrWants s
early_well status.Done asked text old new some there good calm e = absurd e
early_well (status.Words f) asked text old new some there good calm e = absurd e
early_well status.InputFault asked text old new some there good calm e = absurd (calm e.0)
early_well (status.InputRefused refusal.NotFlv) asked text old new some there good calm e =
    absurd (not_refused text e.bytes new (cut_of asked.source text asked.max_bytes e.bytes old new there e.taken) e.enough (ap is_refused e.verdict) good.whole)
early_well (status.InputRefused refusal.BadOffset) asked text old new some there good calm e =
    absurd (not_refused text e.bytes new (cut_of asked.source text asked.max_bytes e.bytes old new there e.taken) e.enough (ap is_refused e.verdict) good.whole)
early_well (status.InputRefused refusal.NoStreams) asked text old new some there good calm e =
    let c = cut_of asked.source text asked.max_bytes e.bytes old new there e.taken in
    let none = sym (same_streams text e.bytes asked.max_bytes new c good.short e.settled) ∙ e.streams_are in
    absurd (none_takes asked.slaves some (ap (λ (l : List StreamInfo). first_without l asked.slaves) (sym none) ∙ good.each_takes))
early_well (status.InputRefused (refusal.NoneSelected k)) asked text old new some there good calm e =
    let s = e.settled in
    let c = cut_of asked.source text asked.max_bytes s.bytes old new there s.taken in
    let all = sym s.streams_are ∙ same_streams text s.bytes asked.max_bytes new c good.short s.settled in
    absurd (found (sym e.first ∙ ap (λ (l : List StreamInfo). first_without l asked.slaves) all ∙ good.each_takes))
  where
    found : Some k ≡ None → ⊥
    found h = cc h
early_well (status.InputEnded e) asked text old new some there good calm h = absurd h
early_well (status.SlaveFailed k) asked text old new some there good calm e = absurd e
early_well status.NoMemory asked text old new some there good calm e = inr refl
early_well status.ReportFault asked text old new some there good calm e = absurd e

-- a reading that stopped early found an output dead
stopped_dies : (e : ReadEnd) → e ≡ read_end.Stop → (limit delta : ℕ) (old new : InputState) (bytes : List ℕ) (given rest : List Packet) (done : List Tag) (dead : ℕ → Bool) → CameTo e limit delta old new bytes given rest done dead → dead (length given) ≡ true
stopped_dies e s limit delta old new bytes given rest done dead c = (subst (λ (z : ReadEnd). CameTo z limit delta old new bytes given rest done dead) s c).dies

-- how a run ends that made outputs, of which none failed
came_well : (e : ReadEnd) (want : Bool) (text bytes : List ℕ) (max delta : ℕ) (old new : InputState) (given rest : List Packet) (done : List Tag) (dead : ℕ → Bool) → Cut text bytes new → (reading_of text).verdict ≡ None → length text < max
    → (Rose old.faults new.faults → ⊥) → CameTo e max delta old new bytes given rest done dead → (e ≡ read_end.Stop → want ≡ false → false ≡ true) → IsDoneOrWants (status_by e None want)
came_well e true text bytes max delta old new given rest done dead c whole short calm came stops = inr refl
came_well read_end.Whole false text bytes max delta old new given rest done dead c whole short calm came stops = inl refl
came_well read_end.Cut false text bytes max delta old new given rest done dead c whole short calm came stops =
    absurd (cut (sym whole ∙ ap (λ (l : List ℕ). (reading_of l).verdict) (all_taken text bytes new c came.1) ∙ came.2))
  where
    cut : None ≡ Some fault.CutTag → ⊥
    cut h = cc h
came_well read_end.Limit false text bytes max delta old new given rest done dead c whole short calm came stops =
    absurd (omega (arith, short, came.1, ap length c.whole, length-append bytes c.rest))
came_well read_end.InputFault false text bytes max delta old new given rest done dead c whole short calm came stops = absurd (calm came.1)
came_well read_end.Stop false text bytes max delta old new given rest done dead c whole short calm came stops = absurd (let x : false ≡ true = stops refl refl in cc x)
came_well read_end.NoMemory false text bytes max delta old new given rest done dead c whole short calm came stops = inr refl

-- what is asked comes to its end
comes_well : (E : OfAll) (A : OfEach) → Knows E A → {S : Type 0} (state : S → ShelfState) (asked : Asked) (text : List ℕ) (old new : InputState) (shelves : List S) (o : Outcome S) → 0 < length asked.slaves
    → IsSomeAnd old.view (λ v. v.bytes_of asked.source ≡ Some text) → IsGood asked text → (Rose old.faults new.faults → ⊥) → NoneFaulted (map (end_view state) o.ends.items) (map state shelves)
    → ComesToBy E A state asked old new shelves o → IsDoneOrWants o.status
comes_well E A knows {S} state asked text old new shelves o some there good calm still (inl c) = early_well o.status asked text old new some there good calm c.1
comes_well E A knows {S} state asked text old new shelves o some there good calm still (inr w) =
    let es = map (end_view state) o.ends.items in
    let k = knows S state (streams (reading_of w.bytes).tags) _ asked.slaves shelves w.seats o.spare.items w.given w.dead es w.are_seats w.ends w.kept in
    let none = no_slave_failed es asked.slaves (map state shelves) (aborts w.seats) k.0 still (omega (arith, k.1, some)) in
    let c = cut_of asked.source text asked.max_bytes w.bytes old new there w.taken in
    subst IsDoneOrWants (sym (w.status_is ∙ ap (λ (f : Option ℕ). status_by w.reading f (any_want (states_of es))) none))
    (came_well w.reading (any_want (states_of es)) text w.bytes asked.max_bytes asked.delta_us old new w.given w.rest w.done w.dead c good.whole good.short calm w.came
    (λ e u. ap is_some (sym none) ∙ w.stops (stopped_dies w.reading e asked.max_bytes asked.delta_us old new w.bytes w.given w.rest w.done w.dead w.came) u))

no_ends : {S : Type 0} (state : S → ShelfState) (slaves : List Slave) (shelves : List ShelfState) (ends : List (SlaveEnd S)) → ends ≡ [] → EachEndsDuly (map (end_view state) ends) slaves shelves
no_ends state slaves shelves [] e = tt
no_ends state slaves shelves (x ∷ xs) e = absurd (cc e)

comes_duly : (E : OfAll) (A : OfEach) → Knows E A → {S : Type 0} (state : S → ShelfState) (asked : Asked) (old new : InputState) (shelves : List S) (o : Outcome S)
    → ComesToBy E A state asked old new shelves o → EachEndsDuly (map (end_view state) o.ends.items) asked.slaves (map state shelves)
comes_duly E A knows {S} state asked old new shelves o (inl c) = no_ends state asked.slaves (map state shelves) o.ends.items c.0.ends
comes_duly E A knows {S} state asked old new shelves o (inr w) =
    (knows S state (streams (reading_of w.bytes).tags) _ asked.slaves shelves w.seats o.spare.items w.given w.dead (map (end_view state) o.ends.items) w.are_seats w.ends w.kept).0

from_well : (E : OfAll) (A : OfEach) → Knows E A → {S : Type 0} (state : S → ShelfState) (source : Source) (p : Planned) (text : List ℕ) (old new : InputState) (shelves : List S) (o : Outcome S) → 0 < length p.slaves
    → IsThere source old text → IsGood (asked_with (name_of source) p) text → (Rose old.faults new.faults → ⊥) → NoneFaulted (map (end_view state) o.ends.items) (map state shelves)
    → ComesFromBy E A state source (asked_with (name_of source) p) old new shelves o → IsDoneOrWants o.status
from_well E A knows state (Named name) p text old new shelves o some there good calm still c = comes_well E A knows state (asked_with name p) text old new shelves o some there good calm still c
from_well E A knows state (Generated count) p text old new shelves o some there good calm still c =
    comes_well E A knows state (asked_with [] p) text (telling (generated (pictures_of count)) (generated (pictures_of count)) false false) c.after shelves o some
    (ap (λ (l : List ℕ). Some l) (sym there)) good (λ r. unrisen c.after.faults c.faultless r) still c.comes
  where
    unrisen : (n : ℕ) → n ≡ 0 → Rose 0 n → ⊥
    unrisen n e (inl lt) = omega (arith, e, lt)
    unrisen n e (inr le) = omega (arith, e, le)

from_duly : (E : OfAll) (A : OfEach) → Knows E A → {S : Type 0} (state : S → ShelfState) (source : Source) (p : Planned) (old new : InputState) (shelves : List S) (o : Outcome S)
    → ComesFromBy E A state source (asked_with (name_of source) p) old new shelves o → EachEndsDuly (map (end_view state) o.ends.items) p.slaves (map state shelves)
from_duly E A knows state (Named name) p old new shelves o c = comes_duly E A knows state (asked_with name p) old new shelves o c
from_duly E A knows state (Generated count) p old new shelves o c =
    comes_duly E A knows state (asked_with [] p) (telling (generated (pictures_of count)) (generated (pictures_of count)) false false) c.after shelves o c.comes

-- the report changes that only where it could not be written
reported_well : (s t : Status) (text : List ℕ) (old new : SinkState) → IsReported s t → ReportsBy t text old new → (Rose old.faults new.faults → ⊥) → IsDoneOrWants s → IsDoneOrWants t
reported_well s t text old new (inl e) r calm w = subst IsDoneOrWants (sym e) w
reported_well s t text old new (inr e) r calm w = absurd (calm ((subst (λ (x : Status). ReportsBy x text old new) e.1 r).failed refl))

pub completes : (E : OfAll) (A : OfEach) → Knows E A → {S : Type 0} (state : S → ShelfState) (words : Placed Planned) (q : Planned) (old new : InputState) (shelves : List S) (out_old out_new : SinkState) (o p : Outcome S) → words ≡ Ok q → 0 < length q.slaves
    → ComesFromBy E A state q.source (asked_of q) old new shelves o → with_status o.status p ≡ o → IsReported o.status p.status → Reports p out_old out_new → Completes state words old new shelves out_old out_new p
completes E A knows state words q old new shelves out_old out_new o p e some c same r reports = subst (λ (w : Placed Planned). Completes state w old new shelves out_old out_new p) (sym e) (record {
  each = subst (λ (l : List _). EachEndsDuly (map (end_view state) l) q.slaves (map state shelves)) (sym ends_same) (from_duly E A knows state q.source q old new shelves o c);
  well = λ text there good calm still quiet. reported_well o.status p.status (report p) out_old out_new r reports quiet
      (from_well E A knows state q.source q text old new shelves o some there good calm (subst (λ (l : List _). NoneFaulted (map (end_view state) l) (map state shelves)) ends_same still) c);
})
  where
    ends_same : p.ends.items ≡ o.ends.items
    ends_same = ap (λ (x : Outcome _). x.ends.items) same

-- words that are refused, or for which memory was wanted
pub completes_refused : {S : Type 0} (state : S → ShelfState) (words : Placed Planned) (f : WordFault) (old new : InputState) (shelves : List S) (out_old out_new : SinkState) (o p : Outcome S) → Refuses f words
    → IsNothing (word_status f) shelves o → with_status o.status p ≡ o → IsReported o.status p.status → Completes state words old new shelves out_old out_new p
completes_refused state (Err e) f old new shelves out_old out_new o p r n same said = tt
completes_refused state (Ok q) f old new shelves out_old out_new o p (inr x) n same said = absurd (cc x.1)
completes_refused state (Ok q) f old new shelves out_old out_new o p (inl memory) n same said =
    let wants : o.status ≡ status.NoMemory = n.status_is ∙ ap (λ (k : WordKind). word_status_by k f) memory in
    record {
      each = no_ends state q.slaves (map state shelves) p.ends.items (ap (λ (x : Outcome _). x.ends.items) same ∙ n.ends);
      well = λ text there good calm still quiet. unchanged o.status p.status wants said;
    }
  where
    unchanged : (s t : Status) → s ≡ status.NoMemory → IsReported s t → IsDoneOrWants t
    unchanged s t e (inl k) = inr (k ∙ e)
    unchanged s t e (inr k) = absurd (done (sym e ∙ k.0))
      where
        done : status.NoMemory ≡ status.Done → ⊥
        done h = cc h
