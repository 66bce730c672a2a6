use Rattle.std.proofs.Common.{◌≡◌, ℕ, true, ◌==◌, not, List, ap, sym, ◌∙◌, subst}
use Rattle.rmx_media.specs.declared.packet.Packet.{Packet}
use Rattle.rmx_media.specs.declared.streams.MuxStream.{MuxStream}
use Rattle.rmx_edge.specs.Shelf.{ShelfCall}
use Rattle.rmx_edge.specs.Run.{Runs}
use Rattle.ts_mux.specs.declared.track.Track.{Track}
use Rattle.ts_mux.specs.File.{table_calls, tables_due}
use Rattle.ts_mux.specs.Past.{is_new}
use Rattle.ts_mux.specs.TsMux.{list_of, past_of}
use Rattle.ts_mux.specs.Timed.{packet_of}
use Rattle.ts_mux.proofs.MuxLemmas.{calls_shown}
use Rattle.ts_mux.proofs.TableLemmas.{calls_are}
use Rattle.ts_mux.proofs.mux.TsMux.put_tables.Goals as goal

pub returns-then-due-clause-run : goal.returns-then-due-clause-run
returns-then-due-clause-run g c =
    let streams : List MuxStream = list_of c.args.self.now in
    let p : Packet = packet_of c.args.timed.now in
    let counter : ℕ = c.args.self.now.tables.counter in
    let shown : tables_due c.args.self.now.last (is_new streams (past_of c.args.self.now) p) p ≡ true =
    ap (λ (t : Track). tables_due c.args.self.now.last (not (p.version == t.version)) p) (sym c.track.ensures) ∙ sym c.tables_due-due.ensures ∙ c.if-due.true in
    subst (λ (calls : List ShelfCall). Runs calls c.write.result (g.S.Shelf.state c.args.shelf.now) (g.S.Shelf.state c.write.new.shelf))
    (calls_are streams c.args.self.now.tables counter c.args.self.now.ready
    ∙ sym (calls_shown (tables_due c.args.self.now.last (is_new streams (past_of c.args.self.now) p) p) (table_calls streams counter) shown))
    c.write.ensures.run
