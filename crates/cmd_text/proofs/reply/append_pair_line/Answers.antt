use Rattle.mk_value.proofs.Appending.{writes_then}
use Rattle.cmd_text.proofs.reply.append_pair_line.Goals as goal

pub returns : goal.returns
returns c = writes_then _ _ _ _ _ _ c.in_ok-append_pair.ensures c.append.ensures
