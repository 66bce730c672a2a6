use Rattle.std.proofs.Common.{sym, ◌∙◌, ap, ◌*◌, ◌%◌, ◌^◌}
use Rattle.std.specs.Prelude.{bit_xor}
use Rattle.ts_psi.proofs.Steps.{by_word}
use Rattle.ts_psi.proofs.checksum.step.Goals as goal

pub returns : goal.returns
returns c =
    ap (bit_xor (c.args.register * 256 % 2 ^ 32)) c.word_at.ensures
    ∙ sym (by_word c.args.register c.args.byte c.ranges.register.fits c.ranges.byte.fits)
