use Rattle.std.proofs.Common.{length, ◌-◌}
use Rattle.mk_value.specs.Tokens.{hex_pair}
use Rattle.tokens.specs.Finding.{IsByte}
use Rattle.tokens.proofs.Quotes.{SpelledTo}
use Rattle.tokens.proofs.quoted.pairs_end.Given as goal

abbrev pub invariant-loop-len : goal.invariant-loop-len
invariant-loop-len l = SpelledTo hex_pair IsByte l.bytes l.at

abbrev pub decreases-loop-len : goal.decreases-loop-len
decreases-loop-len l = length l.bytes - l.at
