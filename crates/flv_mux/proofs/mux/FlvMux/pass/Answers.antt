use Rattle.std.proofs.Common.{rules, ◌∙◌, ap, ℤ}
use Rattle.std.specs.Prelude.{if◌then◌else◌}
use Rattle.std.specs.Int.{w64}
use Rattle.std.proofs.lemmas.Int.{to_z-of_z}
use mir.Val.{SFits}
use Rattle.rmx_media.specs.Config.{kind_of}
use Rattle.flv_mux.specs.Flv.{is_video}
use Rattle.flv_mux.specs.Timed.{packet_of}
use Rattle.flv_mux.proofs.History.{track_past, time_past}
use Rattle.flv_mux.proofs.mux.FlvMux.pass.Goals as goal

pub returns-clause-shows : goal.returns-clause-shows
returns-clause-shows c = λ before shows. record {
  first = track_past c.args.self.now.first.stream c.args.self.now.first.version before (packet_of c.args.p.now) _ _ shows.first c.past-self.ensures.stream c.past-self.ensures.version;
  second = track_past c.args.self.now.second.stream c.args.self.now.second.version before (packet_of c.args.p.now) _ _ shows.second c.past-self-2.ensures.stream c.past-self-2.ensures.version;
  time =
      let now : SFits w64 c.time_past-self.result = search rules in
      let old : SFits w64 c.args.self.now.video_time = search rules in
      to_z-of_z w64 c.time_past-self.result now
      ∙ time_past c.args.self.now.video_time before (packet_of c.args.p.now) c.time_past-self.result shows.time
      (c.time_past-self.ensures ∙ ap (λ (z : ℤ). if is_video (kind_of (packet_of c.args.p.now).config) then (packet_of c.args.p.now).dts else z) (to_z-of_z w64 c.args.self.now.video_time old));
}
