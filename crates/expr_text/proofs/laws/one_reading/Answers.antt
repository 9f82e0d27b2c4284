use Rattle.expr_text.proofs.Outcomes.{offence_once, reads_no_offence}
use Rattle.expr_text.proofs.Unique.{reads_once}
use Rattle.expr_text.proofs.laws.one_reading.Goals as goal

pub returns : goal.returns
returns c = record { one_expression = reads_once; one_offence = offence_once; not_both = reads_no_offence }
