-- What the end of a run says of the bytes taken, the lines answered and the bytes said.
use Rattle.std.specs.Prelude.{◌≡◌, ℕ, ◌<◌, ◌≤◌, List, [], ◌∷◌, ◌++◌, length, take, ◌⊎◌}
use Rattle.host_io.specs.Outside.{Outside, moment}
use Rattle.lines.specs.declared.serving.End.{End}
use Rattle.lines.specs.declared.serving.End.TheVariants.{Done, TakeFault, SayFault, TooMuch}
use Rattle.lines.specs.Later.{Advances}
use Rattle.lines.specs.Lines.{AreLinesOf, AreEndedLinesOf}
use Rattle.lines.specs.Machine.{Machine, State, Turn, Run, replies, HasEnded}
use Rattle.lines.specs.Crash.{IsCrashSafe}

-- the state of a world over a host
abbrev pub state_of : {W : Type 0} → W → Outside → State W
state_of world outside = record { world = world; disk = outside.now.disk; disk_faults = outside.disk_faults }

-- All of the input was taken and every line of it was answered and said, or a line that had ended ended the session.
pub record IsDone {W : Type 0} (machine : Machine W) (budget : ℕ) (old last : State W) (taken left said : List ℕ) (turns : List (Turn W)) : Type 0 where
  pub within : length taken ≤ budget
  pub lines : List (List ℕ)
  pub whole : ((left ≡ []) × AreLinesOf taken lines) ⊎ (HasEnded machine turns × AreEndedLinesOf taken lines)
  pub answered : Run machine old lines turns last
  pub spoken : said ≡ replies turns

-- The input failed. The lines that had ended were answered and said.
pub record IsCutOff {W : Type 0} (machine : Machine W) (budget : ℕ) (old last : State W) (taken said : List ℕ) (turns : List (Turn W)) : Type 0 where
  pub within : length taken ≤ budget
  pub lines : List (List ℕ)
  pub whole : AreEndedLinesOf taken lines
  pub answered : Run machine old lines turns last
  pub spoken : said ≡ replies turns
  pub goes_on : ¬ HasEnded machine turns

-- One byte more than the budget came. The lines that had ended before it were answered and said.
pub record IsTooMuch {W : Type 0} (machine : Machine W) (budget : ℕ) (old last : State W) (taken said : List ℕ) (turns : List (Turn W)) : Type 0 where
  pub front : List ℕ
  pub byte : ℕ
  pub more : taken ≡ front ++ byte ∷ []
  pub full : length front ≡ budget
  pub lines : List (List ℕ)
  pub whole : AreEndedLinesOf front lines
  pub answered : Run machine old lines turns last
  pub spoken : said ≡ replies turns
  pub goes_on : ¬ HasEnded machine turns

-- The output failed within the reply to the last line that was answered, and the replies before it stand whole.
pub record IsUnsaid {W : Type 0} (machine : Machine W) (budget : ℕ) (old last : State W) (taken left said : List ℕ) (turns : List (Turn W)) : Type 0 where
  pub within : length taken ≤ budget
  pub lines : List (List ℕ)
  pub later : List (List ℕ)
  pub whole : ((left ≡ []) × AreLinesOf taken (lines ++ later)) ⊎ AreEndedLinesOf taken (lines ++ later)
  pub answered : Run machine old lines turns last
  pub before : List (Turn W)
  pub final : Turn W
  pub split : turns ≡ before ++ final ∷ []
  pub part : ℕ
  pub short : part < length final.reply
  pub spoken : said ≡ replies before ++ take part final.reply

abbrev pub EndsAs : {W : Type 0} → End → Machine W → ℕ → State W → State W → List ℕ → List ℕ → List ℕ → List (Turn W) → Type 0
EndsAs Done machine budget old last taken left said turns = IsDone machine budget old last taken left said turns
EndsAs TakeFault machine budget old last taken left said turns = IsCutOff machine budget old last taken said turns
EndsAs TooMuch machine budget old last taken left said turns = IsTooMuch machine budget old last taken said turns
EndsAs SayFault machine budget old last taken left said turns = IsUnsaid machine budget old last taken left said turns

-- A whole run: which bytes were taken, which turns answered their lines, what was said, that the one outside went on to the other, and what
-- a crash at any moment of it would have left.
pub record Serves {W : Type 0} (machine : Machine W) (budget : ℕ) (end : End) (world after : W) (old new : Outside) : Type 0 where
  pub taken : List ℕ
  pub came : old.input ≡ taken ++ new.input
  pub said : List ℕ
  pub spoke : new.now.said ≡ old.now.said ++ said
  pub turns : List (Turn W)
  pub ends : EndsAs end machine budget (state_of world old) (state_of after new) taken new.input said turns
  pub later : Advances old new
  pub crash : IsCrashSafe machine (state_of world old) turns (moment old) (length old.now.said) new
