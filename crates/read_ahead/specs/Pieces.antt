-- A piece of a file that is at hand.
use Rattle.std.specs.Prelude.{ℕ, ◌≡◌, ◌+◌, ◌≤◌, List, length, take, drop}

-- the piece is what the file has from a place on, where the file's bytes are known
pub record Holds (known : Type 0) (file : List ℕ) (start : ℕ) (piece : List ℕ) : Type 0 where
  pub there : known → start + length piece ≤ length file
  pub bytes : known → piece ≡ take (length piece) (drop start file)
