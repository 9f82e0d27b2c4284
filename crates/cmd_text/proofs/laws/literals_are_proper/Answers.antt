use Rattle.cmd_text.proofs.Proper.{proper_line}
use Rattle.cmd_text.proofs.laws.literals_are_proper.Goals as goal

pub returns : goal.returns
returns c = proper_line
