use Rattle.std.proofs.Common.{◌≡◌, take, map}
use Rattle.mk_value.specs.Buffer.{Buffer}
use Rattle.restructure.specs.Restructuring.{text_or_empty}
use Rattle.restructure.proofs.conversion.texts_of.Given as goal

abbrev pub invariant-loop-at : goal.invariant-loop-at
invariant-loop-at l = map (λ (value : Buffer). value.bytes) l.values.items ≡ map text_or_empty (take l.at l.strings.values)
