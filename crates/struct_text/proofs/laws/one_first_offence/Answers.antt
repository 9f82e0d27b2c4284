use Rattle.struct_text.proofs.Whole.{one_first}
use Rattle.struct_text.proofs.laws.one_first_offence.Goals as goal

pub returns : goal.returns
returns c = one_first
