-- What clauses see of an interleaver.
use Rattle.std.specs.Prelude.{◌<◌}
use Rattle.interleaver.specs.Queues.{IsQueue, lined, Pending}
use Rattle.interleaver.specs.declared.Interleaver.TheInside.{Inside}

abbrev pub view_of : Inside → Pending
view_of s = record {
  streams = s.streams;
  delta = s.delta_us;
  pending = lined s.first.items s.second.items;
  first_last = s.first_last;
  second_last = s.second_last;
  finished = s.finished;
}

pub record IsWhole (s : Inside) : Type 0 where
  pub some_stream : 0 < s.streams
  pub most : s.streams < 3
  pub first : IsQueue 0 s.first_last s.first.items
  pub second : IsQueue 1 s.second_last s.second.items
