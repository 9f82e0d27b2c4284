-- The two rooms that a run works in: one for the line that has not ended, one for the answer.
use Rattle.std.specs.Prelude.{◌≡◌, ◌+◌, ◌≤◌, [], length}
use Rattle.mk_value.specs.Buffer.{Buffer}
use Rattle.lines.specs.Lines.{max_line}

-- the line room: the front of a line that has not ended, cut where the line is too long, and room for the rest of it
pub record HasLineRoom (room : Buffer) : Type 0 where
  pub short : length room.bytes ≤ max_line + 1
  pub spare : max_line + 1 ≤ room.spare + length room.bytes

-- a room that is empty, with place for a whole line and its newline
pub record IsClear (room : Buffer) : Type 0 where
  pub empty : room.bytes ≡ []
  pub spare : max_line + 1 ≤ room.spare
