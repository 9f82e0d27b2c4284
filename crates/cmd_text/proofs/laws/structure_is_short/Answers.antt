use Rattle.cmd_text.proofs.Proper.{short_line}
use Rattle.cmd_text.proofs.laws.structure_is_short.Goals as goal

pub returns : goal.returns
returns c = short_line
