use Rattle.std.proofs.Common.{◌∙◌, ap}
use Rattle.fifo_core.specs.History.{History}
use Rattle.tee.specs.Seat.{chosen}
use Rattle.tee.specs.Sits.{is_dead}
use Rattle.tee.proofs.output.TeeSlave.finish.Goals as goal

pub returns : goal.returns
returns g c = λ infos given seat history sits.
    let ended = c.finish_direct.ensures.ended seat.origin seat.slave.fifo (chosen seat given) sits.keeps in
    record {
      ended = (ended.0, ended.1 ∙ sits.history_is);
      given_up = λ dead. c.finish_direct.ensures.given_up seat.origin seat.slave.fifo (chosen seat given) sits.keeps (ap (λ (h : History). is_dead seat h) sits.history_is ∙ dead);
    }
