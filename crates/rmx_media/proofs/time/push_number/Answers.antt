use Rattle.std.proofs.Common.{◌≤◌, length, ap, arith}
use Rattle.std.specs.Prelude.{decimal}
use Rattle.std.proofs.lemmas.Fmt.{length-decimal-le}
use Rattle.rmx_media.proofs.time.push_number.Goals as goal

pub returns-clause-len : goal.returns-clause-len
returns-clause-len c =
    let digits : length (decimal c.args.n) ≤ 13 = length-decimal-le 13 c.args.n (omega arith) c.requires.small (omega arith) in
    omega (arith, ap length c.format.ensures.text, c.push_str.ensures.len)
