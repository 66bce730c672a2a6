use Rattle.ts_mux.proofs.MuxLemmas.{audio_size}
use Rattle.ts_mux.proofs.mux.TsMux.put_audio.Goals as goal

pub audio_front-front-requires-clause-size : goal.audio_front-front-requires-clause-size
audio_front-front-requires-clause-size g c = audio_size c.args.config.now c.args.timed.now.packet.now.form c.args.timed.now.packet.now.payload c.requires.payload
