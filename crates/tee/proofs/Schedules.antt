-- The schedule plays no part where nothing is dropped.
use Rattle.std.proofs.Common.{inl, inr, List, sym, subst}
use Rattle.std.proofs.lemmas.Bool.{both_ways}
use Rattle.rmx_media.specs.declared.packet.Packet.{Packet}
use Rattle.slave.specs.End.{EndView}
use Rattle.slave.specs.Schedule.{EndsBlocking, FaultsDecide}
use Rattle.tee.specs.RunEnds.{EndsOn}
use Rattle.tee.specs.Schedule.{IsBlocking, SchedulePlaysNoPart}
use Rattle.tee.specs.Seat.{Seat, chosen}
use Rattle.tee.specs.Tracks.{Track, Here, There}

-- the end of an output that blocked: one with a thread and none in its place has a lane that waits
blocking : (seat : Seat) (given : List Packet) (t : Track) (e : EndView) → IsBlocking seat e → EndsOn given seat t e
    → EndsBlocking seat.origin seat.slave.fifo (chosen seat given) e
blocking seat given (Here h) e b k = inl k.ended.0
blocking seat given (There told) e (inl here) k = absurd (both_ways seat.slave.fifo.use_fifo here k.noted.threaded)
blocking seat given (There told) e (inr (inl waits)) k = inr (record {
  turns = k.turns;
  numbers = k.numbers;
  left = k.left;
  ended = k.ends;
  note = k.note;
  dealt = k.dealt;
  short = k.short;
  adds = k.adds;
  blocks = k.noted.blocks waits;
})
blocking seat given (There told) e (inr (inr inline)) k = absurd (both_ways e.inline k.inline inline)

pub plays_no_part : FaultsDecide → SchedulePlaysNoPart
plays_no_part decide seat s given more t u d e b c same x y one two places =
    decide seat.origin s seat.slave.fifo (chosen seat given) d e
    (blocking seat given t d b x)
    (subst (λ (L : List Packet). EndsBlocking (record seat.origin { shelf = s }) seat.slave.fifo L e) (sym same)
    (blocking (record seat { origin = record seat.origin { shelf = s } }) more u e c y))
    one two places
