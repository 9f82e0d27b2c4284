-- Replies, and the room for them.
use Rattle.std.specs.Prelude.{◌⊎◌, ℕ, ◌+◌, ◌≤◌, length}
use Rattle.mk_value.specs.Buffer.{Buffer}
use Rattle.cmd_text.specs.Replies.{reply_bytes}
use Rattle.cmd_text.specs.declared.reply.Reply.{Reply}
use Rattle.cmd_text.specs.declared.reply.Reply.TheVariants.{Lines, Row, Silent}

-- The room that was made for a reply, what the reply has taken of it counted, does not shrink.
abbrev pub KeepsRoom : Buffer → Buffer → Type 0
KeepsRoom old new = old.spare + length old.bytes ≤ new.spare + length new.bytes

-- a reply of lines or of a row, which may be of any length
abbrev pub IsUnbounded : Reply → Type 0
IsUnbounded (Lines count lines) = Unit {0}
IsUnbounded (Row text) = Unit {0}
IsUnbounded _ = ⊥

-- any other reply is no longer than the room
abbrev pub FitsIn : ℕ → Reply → Type 0
FitsIn room reply = IsUnbounded reply ⊎ (length (reply_bytes reply) ≤ room)

-- a reply of one line that is no row
abbrev pub IsOneLine : Reply → Type 0
IsOneLine Silent = ⊥
IsOneLine (Lines count lines) = ⊥
IsOneLine (Row text) = ⊥
IsOneLine _ = Unit {0}
