use Rattle.std.proofs.Common.{arith, sym, refl, subst, Bool}
use Rattle.remux.specs.Demuxed.{Waits}
use Rattle.remux.proofs.Probing.{seek_start, found_by, unfound_by, sought}
use Rattle.remux.proofs.probe.find_streams.Goals as goal

pub loop-init : goal.loop-init
loop-init g c = record {
  faults = omega arith;
  sound = λ h. (refl, h);
  seeks = seek_start _ _ _ _ _ c.requires.readable c.requires.unended c.requires.unknown c.requires.fresh;
}

pub look-requires : goal.look-requires
look-requires g c = let k = c.loop.invariant.seeks in record { unknown = k.unknown; some = (k.bytes, k.dealt) }

pub returns-in-Ok-Found-clause-finding : goal.returns-in-Ok-Found-clause-finding
returns-in-Ok-Found-clause-finding g c =
    let k = c.loop.invariant.seeks in
    found_by _ _ _ _ _ _ _ _ _ _ _ _ k c.look.ensures.ended ((rw c.in-Ok-Found.field-0-is at c.in-Ok-Found.ensures.looks) k.bytes k.dealt)

pub returns-in-Err-clause-finding : goal.returns-in-Err-clause-finding
returns-in-Err-clause-finding g c =
    let k = c.loop.invariant.seeks in
    unfound_by c.in-Err.fault _ _ _ _ _ _ _ _ _ _ _ c.requires.nine k (c.in-Err.ensures.looks k.bytes k.dealt)

pub returns-in-Err-seek_on-clause-finding : goal.returns-in-Err-seek_on-clause-finding
returns-in-Err-seek_on-clause-finding g c =
    let k = c.loop.invariant.seeks in
    let q = (rw c.in-Ok-Wait.field-0-is at c.in-Ok-Wait.ensures.looks) k.bytes k.dealt in
    sought c.in-Err-seek_on.fault _ _ _ _ _ _ (c.in-Err-seek_on.ensures.seeks _ _ k.bytes k.long k.took k.late
    (subst (λ (x : Bool). Waits k.bytes x (g.D.Demux.known c.look.new.demux) (g.D.Demux.has c.look.new.demux k.bytes)) (sym c.look.ensures.ended) q) c.loop.invariant.faults)
