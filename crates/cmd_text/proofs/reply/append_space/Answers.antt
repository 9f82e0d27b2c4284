use Rattle.std.proofs.Common.{append_assoc}
use Rattle.mk_value.proofs.Appending.{writes_then, writes_along}
use Rattle.cmd_text.proofs.reply.append_space.Goals as goal

pub returns : goal.returns
returns c =
    writes_along _ _ _ _ _ (simp append_assoc)
    (writes_then _ _ _ _ _ _ c.in_ok-append_pair.ensures c.append_numbered_line.ensures)
