use Rattle.std.proofs.Common.{refl}
use Rattle.slave.proofs.CallsLemmas.{flushed_numbers}
use Rattle.slave.proofs.mux.Mux.put.Goals as goal

pub returns-in-Ok-clause-run : goal.returns-in-Ok-clause-run
returns-in-Ok-clause-run g c = λ h first before is stands.
    flushed_numbers h.seg _ c.flush.result _ _ _ _ _ (c.write.ensures.ends h first before is) (rw c.in-Ok.is at (c.write.ensures.run h first before is stands)) c.flush.ensures.flushed

pub returns-in-Ok-clause-after : goal.returns-in-Ok-clause-after
returns-in-Ok-clause-after g c = λ h first before is stands ok. c.in-Ok.ensures.after h first before is stands refl
