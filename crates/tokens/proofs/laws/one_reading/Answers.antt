use Rattle.tokens.specs.Literals.{LiteralTokens}
use Rattle.tokens.proofs.Offending.{offence_once, read_once, whole_no_offence}
use Rattle.tokens.proofs.laws.one_reading.Goals as goal

pub returns-clause-one_literal : goal.returns-clause-one_literal
returns-clause-one_literal c = read_once

pub returns-clause-one_offence : goal.returns-clause-one_offence
returns-clause-one_offence c = offence_once LiteralTokens

pub returns-clause-not_both : goal.returns-clause-not_both
returns-clause-not_both c = λ content d place reads offence. whole_no_offence LiteralTokens content reads.0 place reads.1 (d, reads.2) offence
