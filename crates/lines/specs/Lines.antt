-- How bytes are cut into lines.
use Rattle.std.specs.Prelude.{◌≡◌, ◌≢◌, ℕ, ◌^◌, ◌<◌, List, [], ◌∷◌, ◌++◌, length, flat_map}

-- the byte that ends a line
abbrev pub newline : ℕ
newline = 10

-- the most bytes of a line, its newline not counted
abbrev pub max_line : ℕ
max_line = 1_048_576

-- the most bytes that a run takes
abbrev pub max_budget : ℕ
max_budget = 2 ^ 40

abbrev pub IsTooLong : List ℕ → Type 0
IsTooLong line = max_line < length line

abbrev pub ended : List ℕ → List ℕ
ended line = line ++ newline ∷ []

abbrev pub HasNoNewline : List ℕ → Type 0
HasNoNewline [] = Unit {0}
HasNoNewline (byte ∷ bytes) = (byte ≢ newline) × HasNoNewline bytes

abbrev pub AreLines : List (List ℕ) → Type 0
AreLines [] = Unit {0}
AreLines (line ∷ lines) = HasNoNewline line × AreLines lines

-- the bytes are these lines, each ended by a newline, and then the front of a line
pub record Splits (bytes : List ℕ) (lines : List (List ℕ)) (rest : List ℕ) : Type 0 where
  pub whole : bytes ≡ flat_map ended lines ++ rest
  pub each : AreLines lines
  pub front : HasNoNewline rest

-- what stands behind the last newline is a line too where the input has ended, unless it is empty
abbrev pub last_line : List ℕ → List (List ℕ)
last_line [] = []
last_line (byte ∷ bytes) = (byte ∷ bytes) ∷ []

-- the lines of all the bytes of an input that has ended
abbrev pub AreLinesOf : List ℕ → List (List ℕ) → Type 0
AreLinesOf bytes lines = (front : List (List ℕ)) × (rest : List ℕ) × Splits bytes front rest × (lines ≡ front ++ last_line rest)

-- the lines that have ended so far
abbrev pub AreEndedLinesOf : List ℕ → List (List ℕ) → Type 0
AreEndedLinesOf bytes lines = (rest : List ℕ) × Splits bytes lines rest
