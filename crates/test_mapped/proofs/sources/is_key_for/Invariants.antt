use Rattle.std.proofs.Common.{ℕ, ◌<◌, get_or, pos}
use Rattle.mk_value.specs.Data.{integer}
use Rattle.mk_value.specs.Tables.{IsComparable, domain_at}
use Rattle.test_mapped.proofs.sources.is_key_for.Given as goal

abbrev pub invariant-loop-at : goal.invariant-loop-at
invariant-loop-at l = (i : ℕ) → i < l.at → IsComparable (get_or l.key i (integer (pos 0))) (domain_at l.schema i)
