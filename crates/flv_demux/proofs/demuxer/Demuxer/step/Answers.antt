use Rattle.std.proofs.Common.{◌≡◌, ◌<◌, true, subst}
use Rattle.std.specs.Prelude.{IfOk}
use Rattle.flv_tags.specs.TagReader.{state_of}
use Rattle.flv_demux.specs.State.{DemuxState, left_in}
use Rattle.flv_demux.specs.Steps.{core_at, is_on}
use Rattle.flv_demux.proofs.demuxer.Demuxer.step.Goals as goal

pub returns-in-None-clause-fewer : goal.returns-in-None-clause-fewer
returns-in-None-clause-fewer c =
    subst (λ (v : DemuxState). IfOk c.step_unknown.result (λ x. is_on x ≡ true → left_in (core_at (state_of c.step_unknown.new.reader) c.step_unknown.new.waiting.items c.step_unknown.new.streams c.self.inside.desk) < left_in v.core))
    c.self.view_is (c.step_unknown.ensures.fewer c.self.inside.desk)
