use Rattle.std.proofs.Common.{arith}
use Rattle.options.proofs.Numbers.{parsed}
use Rattle.options.proofs.number.value.Goals as goal

pub unwrap-requires : goal.unwrap-requires
unwrap-requires c = let p = parsed c.args.text.now _ c.parse.ensures.value.0 c.requires.number c.requires.fits in grind arith

pub returns : goal.returns
returns c = let p = parsed c.args.text.now _ c.parse.ensures.value.0 c.requires.number c.requires.fits in cc
