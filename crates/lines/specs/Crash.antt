-- What a crash may leave of a run, by how many bytes had been said.
use Rattle.std.specs.Prelude.{◌≡◌, ℕ, ◌-◌, ◌<◌, ◌≤◌, List, [], ◌∷◌, length, ◌⊎◌}
use Rattle.host_io.specs.Disk.{IsImage}
use Rattle.host_io.specs.Outside.{Moment, Outside, Left}
use Rattle.lines.specs.Lines.{IsTooLong}
use Rattle.lines.specs.Machine.{Machine, State, Turn}

-- While a line is being answered, an image may stand that the state before it allows, or one that the line may leave.
-- A line that is too long leaves none.
abbrev pub MayStandWithin : {W : Type 0} → Machine W → State W → List ℕ → List ℕ → Type 0
MayStandWithin machine state line image = machine.allowed state image ⊎ ((¬ IsTooLong line) × machine.under_way state line image)

-- When n bytes of the replies had been said, let k be the greatest number of turns whose replies stand whole in them.
-- The image is one that the state after those k turns allows, or one that the line under way then may leave.
abbrev pub MayStand : {W : Type 0} → Machine W → State W → List (Turn W) → ℕ → List ℕ → Type 0
MayStand machine state [] n image = machine.allowed state image
MayStand machine state (turn ∷ turns) n image =
    ((length turn.reply ≤ n) × MayStand machine turn.after turns (n - length turn.reply) image)
    ⊎ ((n < length turn.reply) × MayStandWithin machine state turn.line image)

-- A crash at any moment since the number `since`, when `said` bytes had been said, leaves what may stand then.
abbrev pub IsCrashSafe : {W : Type 0} → Machine W → State W → List (Turn W) → ℕ → ℕ → Outside → Type 0
IsCrashSafe machine state turns since said outside =
    (image : List ℕ) (n : ℕ) → Left since outside image n → MayStand machine state turns (n - said) image

-- the state is as its next line needs it, and each image that a crash may leave now is allowed
pub record IsReady {W : Type 0} (machine : Machine W) (state : State W) : Type 0 where
  pub allowed : (image : List ℕ) → IsImage state.disk image → machine.allowed state image
  pub ready : machine.ready state

-- A moment while a line is being answered: nothing is said, and each image that a crash may leave is allowed in the
-- state before the line, or is one that the line may leave.
pub record IsWithin {W : Type 0} (machine : Machine W) (state : State W) (line : List ℕ) (said : List ℕ) (at : Moment) : Type 0 where
  pub silent : at.said ≡ said
  pub images : (image : List ℕ) → IsImage at.disk image → machine.allowed state image ⊎ machine.under_way state line image

-- An empty reply stands whole at once: what a crash may have left before its line and while that was being answered is
-- allowed after it too.
abbrev pub KeepsImages : {W : Type 0} → Machine W → State W → List ℕ → State W → Type 0
KeepsImages machine state line after = (image : List ℕ) → machine.allowed state image ⊎ machine.under_way state line image → machine.allowed after image
