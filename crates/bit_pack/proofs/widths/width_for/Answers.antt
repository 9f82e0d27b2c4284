use Rattle.std.proofs.Common.{◌≤◌, ◌∙◌, to_z, of_z, FitsSigned, arith, rules}
use Rattle.std.specs.Int.{w64}
use Rattle.std.proofs.lemmas.Int.{to_z-of_z}
use Rattle.bit_pack.specs.Width.{bit_count}
use Rattle.bit_pack.proofs.LeastWidth.{least_by_range, Holds-wider}
use Rattle.bit_pack.proofs.Least.{least_is}
use Rattle.bit_pack.proofs.widths.width_for.Goals as goal

pub returns-clause-least : goal.returns-clause-least
returns-clause-least c =
    let low = c.range_of-low.result.0 in
    let high = c.range_of-low.result.1 in
    let low_fits : FitsSigned w64 low = search rules in
    let high_fits : FitsSigned w64 high = search rules in
    let below : bit_count c.of.result ≤ bit_count c.wider.result = omega (arith, c.wider.ensures) in
    let above : bit_count c.of-2.result ≤ bit_count c.wider.result = omega (arith, c.wider.ensures) in
    least_by_range c.wider.result (to_z w64 (of_z w64 low)) (to_z w64 (of_z w64 high)) c.args.values.now
    (to_z-of_z w64 low low_fits ∙ c.range_of-low.ensures.low)
    (to_z-of_z w64 high high_fits ∙ c.range_of-low.ensures.high)
    (Holds-wider c.of.result c.wider.result (to_z w64 (of_z w64 low)) below c.of.ensures.holds)
    (Holds-wider c.of-2.result c.wider.result (to_z w64 (of_z w64 high)) above c.of-2.ensures.holds)
    (λ u h k. let first = c.of.ensures.least u h in let second = c.of-2.ensures.least u k in omega (arith, c.wider.ensures, first, second))

pub returns-clause-value : goal.returns-clause-value
returns-clause-value c = least_is c.wider.result c.args.values.now (returns-clause-least c)
