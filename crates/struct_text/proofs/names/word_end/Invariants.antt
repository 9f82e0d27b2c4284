use Rattle.std.proofs.Common.{length, ◌-◌, ◌≡◌, ◌+◌, ◌≤◌, drop}
use Rattle.std.specs.List.{prefix_len}
use Rattle.mk_value.specs.Names.{is_name_byte}
use Rattle.struct_text.proofs.names.word_end.Given as goal

abbrev pub invariant-loop-end : goal.invariant-loop-end
invariant-loop-end l = record {
  within : l.end ≤ length l.bytes;
  run : l.end + prefix_len is_name_byte (drop l.end l.bytes) ≡ l.at + prefix_len is_name_byte (drop l.at l.bytes);
}

abbrev pub decreases-loop-end : goal.decreases-loop-end
decreases-loop-end l = length l.bytes - l.end
