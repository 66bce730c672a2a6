use Rattle.std.specs.Str.{chars}
use Rattle.options.proofs.Binds.{until_is}
use Rattle.options.proofs.block.value_until.Goals as goal

pub returns : goal.returns
returns c = until_is c.args.stops.now (chars c.args.text.now) c.piece_at.result c.piece_at.ensures
