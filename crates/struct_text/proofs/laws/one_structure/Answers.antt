use Rattle.struct_text.proofs.Unique as unique
use Rattle.struct_text.proofs.Whole.{loose_text, no_offence}
use Rattle.struct_text.proofs.laws.one_structure.Goals as goal

pub returns-clause-unique : goal.returns-clause-unique
returns-clause-unique c = λ text one two ones twos h k. unique.one_structure text one two ones twos h k

pub returns-clause-loose : goal.returns-clause-loose
returns-clause-loose c = loose_text

pub returns-clause-clean : goal.returns-clause-clean
returns-clause-clean c = no_offence
