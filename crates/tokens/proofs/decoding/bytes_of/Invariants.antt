use Rattle.std.proofs.Common.{◌≡◌, ◌++◌, drop}
use Rattle.std.specs.List.{All}
use Rattle.tokens.specs.Finding.{IsByte}
use Rattle.tokens.specs.Meanings.{pairs_of}
use Rattle.tokens.proofs.Decoded.{pairs_behind}
use Rattle.tokens.proofs.decoding.bytes_of.Given as goal

abbrev pub invariant-loop-digit : goal.invariant-loop-digit
invariant-loop-digit l = record {
  read : l.content.bytes ++ pairs_behind l.high (drop l.digit-index l.digits) ≡ pairs_of l.digits;
  bytes : All IsByte l.content.bytes;
}
