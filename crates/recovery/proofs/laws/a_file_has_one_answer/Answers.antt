use Rattle.recovery.proofs.OneAnswer.{one_answer, one_before}
use Rattle.recovery.proofs.laws.a_file_has_one_answer.Goals as goal

pub returns-clause-found : goal.returns-clause-found
returns-clause-found c = one_answer

pub returns-clause-before : goal.returns-clause-before
returns-clause-before c = one_before
