use Rattle.std.proofs.Common.{List, ap, ◌∙◌, subst}
use Rattle.rmx_media.specs.declared.packet.Packet.{Packet}
use Rattle.rmx_media.specs.declared.streams.MuxStream.{MuxStream}
use Rattle.rmx_media.specs.declared.streams.MuxStreams.{MuxStreams}
use Rattle.rmx_edge.specs.Shelf.{ShelfCall}
use Rattle.rmx_edge.specs.Run.{Runs}
use Rattle.rmx_edge.proofs.Run.{runs_then}
use Rattle.ts_mux.specs.Past.{Past, cells_calls}
use Rattle.ts_mux.specs.TsMux.{list_of, past_of}
use Rattle.ts_mux.specs.Timed.{packet_of}
use Rattle.ts_mux.proofs.mux.TsMux.put_packet.Goals as goal

pub returns-in-Avc-clause-run : goal.returns-in-Avc-clause-run
returns-in-Avc-clause-run g c =
    let streams : List MuxStream = list_of c.args.self.now in
    let p : Packet = packet_of c.args.timed.now in
    runs_then c.in-Ok.ensures.run
    (subst (λ (calls : List ShelfCall). Runs calls c.put_video.result (g.S.Shelf.state c.put_tables.new.shelf) (g.S.Shelf.state c.put_video.new.shelf))
    (ap (λ (s : MuxStreams). cells_calls s.streams.items (past_of c.put_tables.new.self) p) c.in-Ok.ensures.streams
    ∙ ap (λ (x : Past). cells_calls streams x p) c.in-Ok.ensures.past)
    c.put_video.ensures.run)

pub returns-in-Aac-clause-run : goal.returns-in-Aac-clause-run
returns-in-Aac-clause-run g c =
    let streams : List MuxStream = list_of c.args.self.now in
    let p : Packet = packet_of c.args.timed.now in
    runs_then c.in-Ok.ensures.run
    (subst (λ (calls : List ShelfCall). Runs calls c.put_audio.result (g.S.Shelf.state c.put_tables.new.shelf) (g.S.Shelf.state c.put_audio.new.shelf))
    (ap (λ (s : MuxStreams). cells_calls s.streams.items (past_of c.put_tables.new.self) p) c.in-Ok.ensures.streams
    ∙ ap (λ (x : Past). cells_calls streams x p) c.in-Ok.ensures.past)
    c.put_audio.ensures.run)
