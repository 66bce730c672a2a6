use Rattle.std.proofs.Common.{ap, ◌∙◌}
use Rattle.rmx_media.specs.Adts.{adts_head}
use Rattle.ts_mux.specs.Timed.{packet_of}
use Rattle.ts_mux.proofs.FrontPartLemmas.{native_front, frame_front}
use Rattle.ts_mux.proofs.fronts.audio_front.Goals as goal

pub returns-in-Native-clause-items : goal.returns-in-Native-clause-items
returns-in-Native-clause-items c =
    native_front c.args.config.now (packet_of c.args.timed.now) c.append.new.front.items c.head-front.result.items c.adts_head.result c.len-size.result c.size_of_times-after.result
    c.in-Native.is c.requires.pts c.requires.dts c.size_of_times-after.ensures c.len-size.ensures.value c.head-front.ensures.items c.append.ensures.items
    (c.adts_head.ensures ∙ ap (adts_head c.args.config.now) c.from.ensures)

pub returns-in_default-clause-items : goal.returns-in_default-clause-items
returns-in_default-clause-items c =
    frame_front c.args.config.now (packet_of c.args.timed.now) c.head.result.items c.len-size.result c.size_of_times-after.result
    c.in_default.not-Native c.requires.pts c.requires.dts c.size_of_times-after.ensures c.len-size.ensures.value c.head.ensures.items
