use Rattle.std.proofs.Common.{take}
use Rattle.std.specs.List.{flat_map}
use Rattle.mk_value.specs.Appending.{Appends}
use Rattle.mk_value.specs.Tokens.{hex_pair}
use Rattle.expr_text.proofs.literals.append_pairs.Given as goal

abbrev pub invariant-loop-byte : goal.invariant-loop-byte
invariant-loop-byte l = Appends l.fn.out (flat_map hex_pair (take l.byte-index l.bytes)) l.out
