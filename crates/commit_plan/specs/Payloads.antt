-- The bytes of what is due.
use Rattle.std.specs.Prelude.{ℕ, List, [], slice_index_or}
use Rattle.bit_pack.specs.Packed.{packed}
use Rattle.bytes_col.specs.Strings.{short_bytes}
use Rattle.commit_plan.specs.declared.payload.MemoValue.{MemoValue}
use Rattle.commit_plan.specs.declared.payload.Payload.{Payload}
use Rattle.commit_plan.specs.declared.payload.Payload.TheVariants.{Numbers, Short, Memo, Directory}

abbrev pub memo_bytes : MemoValue → List ℕ
memo_bytes m = slice_index_or m.column.values m.row []

abbrev pub payload_bytes : Payload → List ℕ
payload_bytes (Numbers c) = packed c.values
payload_bytes (Short c) = short_bytes c.values
payload_bytes (Memo m) = memo_bytes m
payload_bytes (Directory bytes) = bytes.bytes
