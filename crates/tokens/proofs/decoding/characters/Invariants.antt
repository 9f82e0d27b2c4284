use Rattle.std.proofs.Common.{◌≡◌, ◌++◌, cond, drop}
use Rattle.tokens.specs.Meanings.{behind_backslash, characters_of}
use Rattle.tokens.proofs.decoding.characters.Given as goal

abbrev pub invariant-loop-byte : goal.invariant-loop-byte
invariant-loop-byte l =
    l.content.bytes ++ cond l.escapes (behind_backslash (drop l.byte-index l.written)) (characters_of (drop l.byte-index l.written)) ≡ characters_of l.written
