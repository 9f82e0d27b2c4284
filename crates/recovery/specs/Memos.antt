-- The blocks of memos in an image.
use Rattle.std.specs.Prelude.{ℕ, ◌+◌, ◌≤◌, List, map, All}
use Rattle.host_io.specs.Ranges.{bytes_in}
use Rattle.commit_writes.specs.Blocks.{span_range}
use Rattle.dir_codec.specs.declared.dir.Memo.{Memo}

abbrev pub memo_bytes : List ℕ → List Memo → List (List ℕ)
memo_bytes image memos = map (λ m. bytes_in image (span_range m.span)) memos

-- each block of the memos ends within so many bytes
abbrev pub EndWithin : ℕ → List Memo → Type 0
EndWithin len memos = All (λ m. m.span.place + m.span.len ≤ len) memos
