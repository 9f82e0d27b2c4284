use Rattle.std.proofs.Common.{arith}
use Rattle.std.proofs.lemmas.Fmt.{length-decimal-le}
use Rattle.sample.proofs.edit.has_20_digits.Goals as goal

pub returns : goal.returns
returns c = let n = c.ranges.number.fits in length-decimal-le 20 c.args.number (omega arith) (omega (arith, n)) (omega (arith, n))
