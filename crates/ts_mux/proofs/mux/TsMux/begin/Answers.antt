use Rattle.std.proofs.Common.{◌≡◌, List, subst, refl, None}
use Rattle.std.proofs.lemmas.Result.{on_ok_weaker}
use Rattle.rmx_edge.specs.Shelf.{ShelfCall}
use Rattle.rmx_edge.specs.Run.{Runs}
use Rattle.rmx_edge.proofs.Run.{runs_one, runs_then, runs_stopped}
use Rattle.ts_mux.specs.declared.track.Track.{Track}
use Rattle.ts_mux.specs.File.{table_calls}
use Rattle.ts_mux.specs.TsMux.{Shows, list_of}
use Rattle.ts_mux.proofs.Steps.{same_past}
use Rattle.ts_mux.proofs.TableLemmas.{calls_are}
use Rattle.ts_mux.proofs.mux.TsMux.begin.Goals as goal

pub returns-in-Err-clause-run : goal.returns-in-Err-clause-run
returns-in-Err-clause-run g c = runs_stopped (table_calls (list_of c.args.self.now) 0) (runs_one c.in-Err.ensures.made)

pub returns-in-Ok-clause-run : goal.returns-in-Ok-clause-run
returns-in-Ok-clause-run g c =
    runs_then (runs_one c.in-Ok.ensures.made)
    (subst (λ (calls : List ShelfCall). Runs calls c.write.result (g.S.Shelf.state c.create.new.self) (g.S.Shelf.state c.write.new.shelf))
    (calls_are (list_of c.args.self.now) c.args.self.now.tables 0 c.args.self.now.ready) c.write.ensures.run)

pub returns-in-Ok-clause-shows : goal.returns-in-Ok-clause-shows
unfolding Shows
returns-in-Ok-clause-shows g c =
    let none : Track = record { cells = 0; version = 0 } in
    on_ok_weaker c.write.result
    (λ (e : c.write.new.self.counter ≡ 1). same_past None None c.write.new.self.counter 1 c.new-self.result none c.new-self-2.result none refl e c.new-self.ensures c.new-self-2.ensures)
    c.write.ensures.counted
