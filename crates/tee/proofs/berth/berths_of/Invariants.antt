use Rattle.std.proofs.Common.{◌≡◌, drop, map, take}
use Rattle.std.specs.List.{AllZip}
use Rattle.std.specs.Option.{option_map}
use Rattle.options.specs.Slave.{view}
use Rattle.tee.specs.Berths.{IsBerth}
use Rattle.tee.specs.Seat.{first_without, first_without_from}
use Rattle.tee.proofs.berth.berths_of.Given as goal

abbrev pub invariant-loop-number : goal.invariant-loop-number
invariant-loop-number g l = record {
  made : AllZip (λ plan draft. IsBerth l.infos (option_map (λ body. body.now) l.script) (view plan) draft) (take l.number l.slaves) l.berths.items;
  left : first_without_from l.number l.infos (map view (drop l.number l.slaves)) ≡ first_without l.infos (map view l.slaves);
}
