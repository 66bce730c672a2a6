-- Outputs of tests.
use Rattle.rmx_media.specs.declared.packet.Format.{Format}
use Rattle.rmx_media.specs.declared.packet.Format.TheVariants as format
use Rattle.rmx_media.specs.declared.streams.Kind.{Kind}
use Rattle.rmx_media.specs.declared.streams.Kind.TheVariants.{Video, Audio}

abbrev pub format_for : Kind → Format
format_for Video = format.Mpegts
format_for Audio = format.Adts
