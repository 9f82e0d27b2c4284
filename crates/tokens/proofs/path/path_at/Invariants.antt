use Rattle.std.proofs.Common.{◌≡◌, ◌≤◌, ◌-◌, length, take}
use Rattle.tokens.specs.Meanings.{tokens_of_pieces}
use Rattle.tokens.specs.Paths.{IsPath, path_tokens}
use Rattle.tokens.proofs.path.path_at.Given as goal

abbrev pub invariant-loop-path : goal.invariant-loop-path
invariant-loop-path l = record {
  within : l.at ≤ length l.pieces;
  whole : IsPath l.path;
  read : take l.at (tokens_of_pieces l.pieces) ≡ path_tokens l.path;
}

abbrev pub decreases-loop-path : goal.decreases-loop-path
decreases-loop-path l = length l.pieces - l.at
