-- How many packets there are.
use Rattle.std.proofs.Common.{◌≡◌, ℕ, ◌+◌, ◌<◌, ◌≤◌, Bool, true, false, List, [], ◌∷◌, ◌++◌, length, drop, zero, suc, arith, ap, ◌∙◌, sym, refl, subst, length-append, length-drop, Some, None, Option}
use Rattle.std.specs.Prelude.{if◌then◌else◌, fold, ◌^◌, nat_lt}
use Rattle.std.specs.Option.{option_to_list}
use Rattle.rmx_media.specs.declared.packet.Packet.{Packet}
use Rattle.flv_tags.specs.declared.tag.Tag.{Tag}
use Rattle.flv_tags.specs.declared.tag.TagFault.TheVariants.{NotFlv, BadOffset, CutTag}
use Rattle.flv_tags.specs.Front.{Front, Nothing, Part, One, front_of}
use Rattle.flv_tags.specs.Tags.{Reading, only, reading_by, reading_of_tags, reading_of, is_flv, offset_of}
use Rattle.flv_tags.proofs.Walk.{reading_of_tags-step, front_shorter}
use Rattle.flv_demux.specs.declared.deal.Kinds.{Kinds}
use Rattle.flv_demux.specs.declared.deal.Desk.{Desk}
use Rattle.flv_demux.specs.Deal.{packets_by, packets_from, packet_in, outcome_of, dealt, new_desk}
use Rattle.flv_tags.specs.Tags.{Begins}
use Rattle.interleaver.specs.Interleave.{Line, put_in, is_before, release, arrive, line_of, no_line}
use Rattle.interleaver.specs.Queues.{Pending}
use Rattle.interleaver.proofs.Steps.{release_whole}
use Rattle.remux.specs.Lineup.{Lineup}
use Rattle.remux.specs.Fed.{Takes}
use Rattle.remux.specs.Flow.{Flow}
use Rattle.remux.specs.Demuxed.{Gives}

total : Line → ℕ
total l = length l.out + length l.pending

put_by : (b : Bool) (p x : Packet) (xs ys : List Packet) → length ys ≡ length xs + 1 → length (if b then p ∷ x ∷ xs else x ∷ ys) ≡ length xs + 2
put_by true p x xs ys e = omega arith
put_by false p x xs ys e = omega (arith, e)

pub put_length : (p : Packet) (xs : List Packet) → length (put_in p xs) ≡ length xs + 1
put_length p [] = refl
put_length p (x ∷ xs) =
    let e : length (put_in p (x ∷ xs)) ≡ length xs + 2 = put_by (is_before p x) p x xs (put_in p xs) (put_length p xs) in
    omega (arith, e)

release_total : (n delta : ℕ) (out pending : List Packet) → total (release n delta out pending) ≡ length out + length pending
unfolding total
release_total n delta out pending =
    let r = release n delta out pending in
    omega (arith, ap length (release_whole n delta out pending), length-append r.out r.pending, length-append out pending)

arrive_total : (n delta : ℕ) (l : Line) (p : Packet) → total (arrive n delta l p) ≡ total l + 1
unfolding total
arrive_total n delta l p = omega (arith, release_total n delta l.out (put_in p l.pending), put_length p l.pending)

folds_total : (n delta : ℕ) (l : Line) (packets : List Packet) → total (fold (arrive n delta) l packets) ≡ total l + length packets
folds_total n delta l [] = omega arith
folds_total n delta l (p ∷ packets) = omega (arith, folds_total n delta (arrive n delta l p) packets, arrive_total n delta l p)

line_total : (n delta : ℕ) (packets : List Packet) → total (line_of n delta packets) ≡ length packets
unfolding line_of total
line_total n delta packets = omega (arith, folds_total n delta no_line packets)

-- what was given and what is pending are together what was pushed
pub few_packets : (packets given : List Packet) (v : Pending) → Flow packets given v → length given + length v.pending ≡ length packets
few_packets packets given v f = sym (release_total v.streams v.delta given v.pending) ∙ ap total f.lined ∙ line_total v.streams v.delta packets

at_most_one : (o : Option Packet) → length (option_to_list o) ≤ 1
at_most_one None = omega arith
at_most_one (Some p) = omega arith

from_few : (s : Kinds) (d : Desk) (tags : List Tag) → length (packets_from s d tags) ≤ length tags
from_few s d [] = omega arith
from_few s d (tag ∷ tags) =
    omega (arith, length-append (option_to_list (packet_in (outcome_of s d tag))) (packets_from s (dealt s d tag) tags), at_most_one (packet_in (outcome_of s d tag)), from_few s (dealt s d tag) tags)

pub packets_few : (s : Kinds) (tags : List Tag) → length (packets_by s tags) ≤ length tags
unfolding packets_by
packets_few s tags = from_few s new_desk tags

front_few : (n : ℕ) (text : List ℕ) (f : Front) → length text < suc n → front_of text ≡ f → ((r : List ℕ) → length r < n → length (reading_of_tags r).tags ≤ length r) → length (reading_by f reading_of_tags).tags ≤ length text
front_few n text Nothing h e ih = omega arith
front_few n text Part h e ih = omega arith
front_few n text (One tag r) h e ih =
    let s : length r < length text = front_shorter text tag r e in
    let k = ih r (omega arith) in
    omega (arith, s, k)

tags_few_by : (n : ℕ) (text : List ℕ) → length text < n → length (reading_of_tags text).tags ≤ length text
tags_few_by zero text h = absurd (omega arith)
tags_few_by (suc n) text h = subst (λ (r : Reading). length r.tags ≤ length text) (sym (reading_of_tags-step text)) (front_few n text (front_of text) h refl (λ r l. tags_few_by n r l))

-- a text has no more tags than bytes
pub tags_few : (b : List ℕ) → length (reading_of b).tags ≤ length b
tags_few b = by (is_flv b) (nat_lt (offset_of b) 9) (nat_lt (length b) (offset_of b))
  where
    by : (x y z : Bool) → length (if x then (if y then only (Some BadOffset) else if z then only (Some CutTag) else reading_of_tags (drop (offset_of b) b)) else only (Some NotFlv)).tags ≤ length b
    by true true z = omega arith
    by true false true = omega arith
    by true false false = omega (arith, tags_few_by (suc (length (drop (offset_of b) b))) (drop (offset_of b) b) (omega arith), length-drop (offset_of b) b)
    by false y z = omega arith

pub begin_few : (b : List ℕ) (tags : List Tag) → Begins b tags → length tags ≤ length b
begin_few b tags f = omega (arith, ap length f.1, length-append tags f.0, tags_few b)

-- one more packet has a number
pub ready_for : (s : Kinds) (b : List ℕ) (given : List Packet) (v : Pending) (p : Packet) (tags : List Tag) (has : List Tag → Type 0) → length b < 2 ^ 61 → Flow (packets_by s tags) given v → Gives s b tags p has →
    length given + length v.pending + 1 < 2 ^ 61
ready_for s b given v p tags has small f gv =
    let all = gv.before ++ gv.tag ∷ [] in
    omega (arith, few_packets (packets_by s tags) given v f, ap length gv.one, length-append (packets_by s tags) (p ∷ []), packets_few s all, begin_few b all gv.begin, small)

pub ready_all : (s : Kinds) (b : List ℕ) (given : List Packet) (v : Pending) (tags : List Tag) → length b < 2 ^ 61 → Flow (packets_by s tags) given v → Begins b tags →
    length given + length v.pending < 2 ^ 61
ready_all s b given v tags small f g = omega (arith, few_packets (packets_by s tags) given v f, packets_few s tags, begin_few b tags g, small)

-- a packet of those that are pending has one too
pub fewer_still : (given : List Packet) (p : Packet) (xs ys : List Packet) → xs ≡ p ∷ ys → length given + length xs < 2 ^ 61 → length given < 2 ^ 61
fewer_still given p xs ys e h = omega (arith, ap length e, h)

pub ready_next : (stopped : Bool) (p : Packet) (xs ys : List Packet) (kept keeps : Lineup → List Packet → Type 0) (d0 d1 : ℕ → Bool) (start : Lineup) (given : List Packet) → kept start given → xs ≡ p ∷ ys → length given + length xs < 2 ^ 61 → Takes stopped p (kept start) (keeps start) d0 d1 →
    (start : Lineup) × (given : List Packet) × keeps start given × (length given + length ys < 2 ^ 61)
ready_next stopped p xs ys kept keeps d0 d1 start given k e h t =
    (start, given ++ p ∷ [], t.keeps_all given k, omega (arith, ap length e, h, length-append given (p ∷ [])))

pub pushed_few : (given : List Packet) (p : Packet) (old new : List Packet) → new ≡ put_in p old → length given + length old + 1 < 2 ^ 61 → length given + length new < 2 ^ 61
pushed_few given p old new e h = omega (arith, ap length e, put_length p old, h)
