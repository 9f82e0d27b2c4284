use Rattle.cmd_text.proofs.Meanings.{reads_once}
use Rattle.cmd_text.proofs.laws.one_meaning.Goals as goal

pub returns : goal.returns
returns c = reads_once c.one_structure.ensures.unique
