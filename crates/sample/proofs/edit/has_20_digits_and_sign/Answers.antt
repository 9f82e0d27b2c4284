use Rattle.std.proofs.Common.{arith}
use Rattle.std.proofs.lemmas.Fmt.{length_signed_le}
use Rattle.sample.proofs.edit.has_20_digits_and_sign.Goals as goal

pub returns : goal.returns
returns c = length_signed_le 20 c.args.number (omega (arith, c.ranges.number.sfits)) (omega (arith, c.ranges.number.sfits))
