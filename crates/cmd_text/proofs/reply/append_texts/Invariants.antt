use Rattle.std.proofs.Common.{take}
use Rattle.std.specs.List.{flat_map}
use Rattle.mk_value.specs.Appending.{Appends}
use Rattle.cmd_text.proofs.Texts.{line_of}
use Rattle.cmd_text.proofs.reply.append_texts.Given as goal

abbrev pub invariant-loop-text : goal.invariant-loop-text
invariant-loop-text l = Appends l.fn.out (flat_map line_of (take l.text-index l.texts)) l.out
