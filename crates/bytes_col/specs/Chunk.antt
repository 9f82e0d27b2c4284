-- How a chunk keeps its values: each has a cell, and the short ones have their bytes in the chunk's own.
use Rattle.std.specs.Prelude.{◌≡◌, ℕ, ◌+◌, ◌<◌, ◌≤◌, ◌⊎◌, pos, List, [], ◌∷◌, ◌++◌, length, map, take, drop, slice_get, Some, None}
use Rattle.std.specs.List.{All}
use Rattle.bytes_col.specs.declared.cell.Cell.{Cell}
use Rattle.bytes_col.specs.declared.cell.Piece.{Piece}
use Rattle.int_col.specs.Numbers.{Numbers}
use Rattle.bytes_col.specs.Strings.{short_bytes}

-- the value of a cell of a chunk that has these bytes
abbrev pub cell_value : List ℕ → Cell → List ℕ
cell_value bytes (Cell.Short piece) = take piece.len (drop piece.start bytes)
cell_value bytes (Cell.Memo memo) = memo

-- the bytes of a short value are there, and a memo is long
abbrev pub IsCell : List ℕ → Cell → Type 0
IsCell bytes (Cell.Short piece) = (piece.len ≤ 512) × (piece.start + piece.len ≤ length bytes)
IsCell bytes (Cell.Memo memo) = 512 < length memo

-- the values of the cells
abbrev pub cell_values : List ℕ → List Cell → List (List ℕ)
cell_values bytes cells = map (cell_value bytes) cells

-- no byte belongs to both cells
abbrev pub IsApart : Cell → Cell → Type 0
IsApart (Cell.Short p) (Cell.Short q) = (p.start + p.len ≤ q.start) ⊎ (q.start + q.len ≤ p.start)
IsApart (Cell.Short p) (Cell.Memo m) = Unit {0}
IsApart (Cell.Memo m) c = Unit {0}

-- no byte belongs to two cells
abbrev pub AreApart : List Cell → Type 0
AreApart [] = Unit {0}
AreApart (c ∷ cs) = All (IsApart c) cs × AreApart cs

-- the cell has none of the first n bytes
abbrev pub IsBehind : ℕ → Cell → Type 0
IsBehind n (Cell.Short p) = n ≤ p.start
IsBehind n (Cell.Memo m) = Unit {0}

-- the bytes with a value in place of a part of them
abbrev pub overwritten : List ℕ → Piece → List ℕ → List ℕ
overwritten bytes piece value = take piece.start bytes ++ (value ++ drop (piece.start + piece.len) bytes)

-- there are few cells, each is as it has to be, no byte belongs to two, and `short` counts the bytes of the short values
pub record IsChunk (cells : List Cell) (bytes : List ℕ) (short : ℕ) : Type 0 where
  pub few : length cells ≤ 512
  pub each : All (IsCell bytes) cells
  pub apart : AreApart cells
  pub count : short ≡ length (short_bytes (cell_values bytes cells))

-- the value's size is that of this row
pub record HasSize (sizes : Numbers) (row : ℕ) (value : List ℕ) : Type 0 where
  pub size : slice_get sizes.values row ≡ Some (pos (length value))
  pub nowhere : sizes.home ≡ None
