use Rattle.std.proofs.Common.{◌≡◌, ◌-◌}
use Rattle.rmx_media.specs.Avc.{run_of, rest_alone}
use Rattle.rmx_media.proofs.avc.after_sets.Given as goal

-- what follows the sets that are left follows all of them
abbrev pub invariant-loop : goal.invariant-loop
invariant-loop l = rest_alone (run_of l.fn.count l.fn.bytes) ≡ rest_alone (run_of (l.count - l.counter) l.rest)
