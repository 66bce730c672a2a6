-- Where the streams are known and no packet was given.
use Rattle.std.proofs.Common.{◌≡◌, ℕ, [], refl}
use Rattle.flv_demux.specs.declared.deal.Kinds.{Kinds}
use Rattle.flv_demux.specs.Deal.{packets_by}
use Rattle.interleaver.proofs.Steps.{lined_none}
use Rattle.remux.specs.Flow.{Flow}
use Rattle.remux.specs.Starting.{new_line}

pub no_packets : (s : Kinds) → packets_by s [] ≡ []
unfolding packets_by
no_packets s = refl

pub start_flow : (n delta : ℕ) → Flow [] [] (new_line n delta)
start_flow n delta = record { lined = lined_none n delta; first = refl; second = refl; unfinished = refl }
