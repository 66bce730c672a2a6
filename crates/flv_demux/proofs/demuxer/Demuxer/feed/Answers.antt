use Rattle.std.proofs.Common.{◌≡◌, false, sym, subst}
use Rattle.flv_demux.specs.State.{DemuxState, HasDealt}
use Rattle.flv_tags.specs.TagReader.{state_of}
use Rattle.flv_demux.proofs.Telling.{fed_dealt, on_ok}
use Rattle.flv_demux.proofs.demuxer.Demuxer.feed.Goals as goal

pub returns-clause-fed : goal.returns-clause-fed
returns-clause-fed c = on_ok c.feed.result (λ r fed done h.
    fed_dealt fed c.args.piece.now done _ (state_of c.feed.new.self) (subst (λ (v : DemuxState). v.core.reader.ended ≡ false) (sym c.self.view_is) c.requires) (r fed) (subst (HasDealt fed done) (sym c.self.view_is) h)) c.feed.ensures.fed
