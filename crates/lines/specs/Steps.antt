-- What the parts of the loop do to the outside and to the session.
use Rattle.std.specs.Prelude.{◌≡◌, ℕ, ◌+◌, ◌<◌, ◌≤◌, ◌↔◌, List, [], ◌∷◌, ◌++◌, length, take, Result, Ok, Err, IfOk, OnOk, OnErr}
use Rattle.host_io.specs.Disk.{IsImage}
use Rattle.host_io.specs.Outside.{Moment, Outside, Left, moment, Goes}
use Rattle.lines.specs.declared.session.Flow.{Flow}
use Rattle.lines.specs.declared.session.Flow.TheVariants.{Goes as GoesOn, Ends}
use Rattle.lines.specs.declared.serving.End.TheVariants.{Done, SayFault}
use Rattle.lines.specs.Later.{Advances}
use Rattle.lines.specs.Lines.{Splits, max_line}
use Rattle.lines.specs.Machine.{Machine, State, Turn, Answers, IsLast, Run, replies, HasEnded}
use Rattle.lines.specs.Crash.{MayStand, IsCrashSafe}
use Rattle.lines.specs.Served.{state_of, Serves}

-- a moment while a turn in this state goes on
pub record IsTurning {W : Type 0} (machine : Machine W) (state : State W) (turn : Turn W) (old at : Moment) : Type 0 where
  pub part : ℕ
  pub within : part ≤ length turn.reply
  pub said : length at.said ≡ length old.said + part
  pub images : (image : List ℕ) → IsImage at.disk image → MayStand machine state (turn ∷ []) part image

-- A line is answered and its reply is said, whole where the output did not fail.
pub record AnswersLine {W E : Type 0} (machine : Machine W) (line : List ℕ) (world after : W) (old new : Outside) (result : Result Flow E) : Type 0 where
  pub turn : Turn W
  pub asked : turn.line ≡ line
  pub answers : Answers machine (state_of world old) line turn.reply turn.after
  pub left : turn.after ≡ state_of after new
  pub ends : IfOk result (λ flow. (flow ≡ Ends) ↔ IsLast machine line)
  pub part : ℕ
  pub spoke : new.now.said ≡ old.now.said ++ take part turn.reply
  pub ok : OnOk result (part ≡ length turn.reply)
  pub err : OnErr result (part < length turn.reply)
  pub input : new.input ≡ old.input
  pub moments : Goes (IsTurning machine (state_of world old) turn old.now) old new
  pub later : Advances old new
  -- what stood before the line may stand at its beginning
  pub before : (image : List ℕ) → machine.allowed (state_of world old) image → MayStand machine (state_of world old) (turn ∷ []) 0 image

-- Where a run stands that goes on: the bytes that it has looked at, the lines among them and their answers, the front
-- of the line that has not ended, which the room holds, and the bytes that were taken and not looked at yet.
pub record SoFar {W : Type 0} (machine : Machine W) (start : W) (begin : Outside) (world : W) (outside : Outside) (room ahead : List ℕ) (count : ℕ) : Type 0 where
  pub looked : List ℕ
  pub came : begin.input ≡ looked ++ (ahead ++ outside.input)
  pub counted : length looked ≡ count
  pub lines : List (List ℕ)
  pub rest : List ℕ
  pub splits : Splits looked lines rest
  pub held : room ≡ take (max_line + 1) rest
  pub turns : List (Turn W)
  pub answered : Run machine (state_of start begin) lines turns (state_of world outside)
  pub goes_on : ¬ HasEnded machine turns
  pub spoke : outside.now.said ≡ begin.now.said ++ replies turns
  pub later : Advances begin outside
  pub most : (image : List ℕ) (n : ℕ) → Left (moment begin) outside image n → n ≤ length outside.now.said
  pub crash : IsCrashSafe machine (state_of start begin) turns (moment begin) (length begin.now.said) outside

-- what came of a run: it goes on, or it has ended
abbrev pub Comes : {W E : Type 0} → Machine W → ℕ → W → Outside → W → Outside → List ℕ → List ℕ → ℕ → Result Flow E → Type 0
Comes machine budget start begin world outside room ahead count (Ok GoesOn) = SoFar machine start begin world outside room ahead count
Comes machine budget start begin world outside room ahead count (Ok Ends) = Serves machine budget Done start world begin outside
Comes machine budget start begin world outside room ahead count (Err error) = Serves machine budget SayFault start world begin outside
