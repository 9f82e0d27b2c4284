-- A session as a machine that answers lines, and its runs.
use Rattle.std.specs.Prelude.{◌≡◌, ℕ, Bool, true, List, [], ◌∷◌, ◌++◌, codes, ◌⊎◌}
use Rattle.host_io.specs.Disk.{DiskState}
use Rattle.lines.specs.Lines.{IsTooLong, newline}

-- a world over a disk, and how often that had failed when it came
pub record State (W : Type 0) : Type 0 where
  pub world : W
  pub disk : DiskState
  pub disk_faults : ℕ

pub record Machine (W : Type 0) : Type 1 where
  -- in this state the line may be answered by these bytes, and leave that state
  pub answers : State W → List ℕ → List ℕ → State W → Type 0
  -- the line ends the session
  pub ends : List ℕ → Bool
  -- in this state a crash may leave this image
  pub allowed : State W → List ℕ → Type 0
  -- while this line is being answered in this state, a crash may leave this image too
  pub under_way : State W → List ℕ → List ℕ → Type 0
  -- the state is as its next line needs it
  pub ready : State W → Type 0

-- a line that was answered, the bytes of the answer, and what it left
pub record Turn (W : Type 0) : Type 0 where
  pub line : List ℕ
  pub reply : List ℕ
  pub after : State W

-- the answer to a line that is too long
abbrev pub limit_reply : List ℕ
limit_reply = codes "err 8 limit" ++ newline ∷ []

-- A line that is too long is answered before anything else of it is looked at, and changes nothing.
abbrev pub Answers : {W : Type 0} → Machine W → State W → List ℕ → List ℕ → State W → Type 0
Answers machine old line reply new =
    (IsTooLong line × (reply ≡ limit_reply) × (new ≡ old))
    ⊎ ((¬ IsTooLong line) × machine.answers old line reply new)

-- the session is over with this line
abbrev pub IsLast : {W : Type 0} → Machine W → List ℕ → Type 0
IsLast machine line = (¬ IsTooLong line) × (machine.ends line ≡ true)

-- These turns answer the lines in order, each in the state that the turn before left, up to the line that ends the
-- session, and leave the state `last`.
abbrev pub Run : {W : Type 0} → Machine W → State W → List (List ℕ) → List (Turn W) → State W → Type 0
Run machine old [] [] last = last ≡ old
Run machine old [] (turn ∷ turns) last = ⊥
Run machine old (line ∷ lines) [] last = ⊥
Run machine old (line ∷ lines) (turn ∷ turns) last =
    (turn.line ≡ line) × Answers machine old line turn.reply turn.after
    × ((IsLast machine line × (turns ≡ []) × (last ≡ turn.after))
    ⊎ ((¬ IsLast machine line) × Run machine turn.after lines turns last))

-- the bytes of all replies
abbrev pub replies : {W : Type 0} → List (Turn W) → List ℕ
replies [] = []
replies (turn ∷ turns) = turn.reply ++ replies turns

-- some turn ended the session
abbrev pub HasEnded : {W : Type 0} → Machine W → List (Turn W) → Type 0
HasEnded machine [] = ⊥
HasEnded machine (turn ∷ turns) = IsLast machine turn.line ⊎ HasEnded machine turns
