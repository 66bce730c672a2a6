use mathlib.Core.List.{[], ◌∷◌}
use mir.Syntax.{of_param}
use denote.Param.{param}
use denote.Param.Send.{Quiet-if}
use denote.Struct.Tuple.{TupleAt}
use denote.Exit.{no, unseen}
use Rattle.slave.proofs.Crosses.{start_send, begun_send, capture_send}
use Rattle.slave.specs.contracts.task.Begun as Begun
use Rattle.slave.specs.contracts.errand.Start as Start
use Rattle.slave.proofs.spawner.spawn.Goals as goal

pub spawn_with-requires-send-F : goal.spawn_with-requires-send-F
spawn_with-requires-send-F g c κs within = let b = c.type_bounds in
    let e = start_send _ _ _ _ b.send-S b.send-G b.sync-G b.send-R in record {
      owned = λ x vs xs. (tt, (e.owned x.0 xs.0, tt));
      leaving = λ k. Quiet-if (k (of_param 2)) ((TupleAt [] (Start.the_row (param 0 g.row.S) (param 1 g.row.G) (param 2 g.row.R) g.S.Shelf ∷ [])).exit no) unseen
          ((capture_send [] (Start.the_row (param 0 g.row.S) (param 1 g.row.G) (param 2 g.row.R) g.S.Shelf) e).leaving no) (λ x w. tt);
    }

pub spawn_with-requires-send-T : goal.spawn_with-requires-send-T
spawn_with-requires-send-T g c κs within = let b = c.type_bounds in
    let e = begun_send _ _ _ b.send-S b.send-G b.sync-G in
    record { owned = e.owned; leaving = λ k. Quiet-if (k (of_param 3)) ((Begun.the_row (param 0 g.row.S) (param 1 g.row.G) g.S.Shelf).exit no) unseen (e.leaving no) (λ x w. tt) }
