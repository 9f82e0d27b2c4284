-- What a function does that appends to a text.
use Rattle.std.specs.Prelude.{◌≡◌, ℕ, ◌+◌, ◌<◌, ◌≤◌, List, ◌++◌, length, take, Result, MatchResult}
use Rattle.mk_value.specs.Buffer.{Buffer}

-- the piece was appended, and no room was lost but what it took
pub record Appends (old : Buffer) (piece : List ℕ) (new : Buffer) : Type 0 where
  pub bytes : new.bytes ≡ old.bytes ++ piece
  pub room : old.spare ≤ new.spare + length piece

-- there was no room for the piece; the bytes that were there stand at the front
pub record FellShort (old : Buffer) (piece : List ℕ) (new : Buffer) : Type 0 where
  pub front : take (length old.bytes) new.bytes ≡ old.bytes
  pub longer : length old.bytes ≤ length new.bytes
  pub room : old.spare + length old.bytes ≤ new.spare + length new.bytes + length piece
  pub short : old.spare < length piece

-- the piece was appended, or there was no room for it and the result is an error
abbrev pub Writes : {T E : Type 0} → Result T E → Buffer → List ℕ → Buffer → Type 0
Writes result old piece new = MatchResult result (λ _. Appends old piece new) (λ _. FellShort old piece new)
