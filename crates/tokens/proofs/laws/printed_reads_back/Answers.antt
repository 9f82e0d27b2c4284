use Rattle.tokens.proofs.ReadBack.{row_reads_back, value_reads_back}
use Rattle.tokens.proofs.laws.printed_reads_back.Goals as goal

pub returns-clause-value : goal.returns-clause-value
returns-clause-value c = value_reads_back

pub returns-clause-row : goal.returns-clause-row
returns-clause-row c = row_reads_back
