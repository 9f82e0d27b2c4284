use Rattle.std.proofs.Common.{◌≡◌, ◌≤◌, ◌++◌, cond, drop, length}
use Rattle.tokens.specs.Meanings.{behind_backslash, characters_of}
use Rattle.cmd_text.specs.Notes.{max_note}
use Rattle.cmd_text.proofs.note.few_characters.Given as goal

abbrev pub invariant-loop-byte : goal.invariant-loop-byte
invariant-loop-byte l = record {
  read : l.content.bytes ++ cond l.escapes (behind_backslash (drop l.byte-index l.written)) (characters_of (drop l.byte-index l.written)) ≡ characters_of l.written;
  few : length l.content.bytes ≤ max_note;
}
