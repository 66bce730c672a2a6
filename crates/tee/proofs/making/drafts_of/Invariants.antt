use Rattle.std.proofs.Common.{◌≡◌, drop, map, take}
use Rattle.std.specs.List.{AllZip}
use Rattle.std.specs.Option.{option_map}
use Rattle.options.specs.Slave.{view}
use Rattle.tee.specs.Draft.{IsDraft}
use Rattle.tee.specs.Seat.{first_without, first_without_from}
use Rattle.tee.proofs.making.drafts_of.Given as goal

abbrev pub invariant-loop-number : goal.invariant-loop-number
invariant-loop-number l = record {
  made : AllZip (λ plan draft. IsDraft l.infos (option_map (λ body. body.now) l.script) (view plan) draft) (take l.number l.slaves) l.drafts.items;
  left : first_without_from l.number l.infos (map view (drop l.number l.slaves)) ≡ first_without l.infos (map view l.slaves);
}
