use Rattle.cmd_text.proofs.Offences.{one_error, not_both}
use Rattle.cmd_text.proofs.laws.one_offence.Goals as goal

pub returns-clause-one_offence : goal.returns-clause-one_offence
returns-clause-one_offence c = one_error (record { one_offence = c.one_first_offence.ensures; clean = c.one_structure.ensures.clean })

pub returns-clause-not_both : goal.returns-clause-not_both
returns-clause-not_both c = not_both (record { one_offence = c.one_first_offence.ensures; clean = c.one_structure.ensures.clean })
