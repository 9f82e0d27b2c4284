-- What a crash may leave of a run, by how many bytes had been said when it came.
use Rattle.std.specs.Prelude.{ℕ, ◌-◌, ◌<◌, ◌≤◌, List}
use Rattle.host_io.specs.Outside.{Left, Outside}
use Rattle.lines.specs.Crash.{MayStand}
use Rattle.lines.specs.Machine.{State, Turn}
use Rattle.session.specs.Disk.{IsAllowed}
use Rattle.session.specs.Step.{machine}
use Rattle.session.specs.World.{World}
use Rattle.viewers.specs.Meanings.{Meaning}

-- A run began at the moment number `since`, when `said` bytes had been said, and opened its file by the moment number `opened`. Until so many
-- bytes stood whole, its greeting the last of them, each image that a crash may have left is one that the opening state allows: at each moment
-- from the opening on, and when any byte of the greeting had been said.
pub record IsSafeGreeting (state : State World) (since said opened whole : ℕ) (new : Outside) : Type 0 where
  pub from_opening : (image : List ℕ) (n : ℕ) → Left opened new image n → n < whole → IsAllowed state image
  pub from_greeting : (image : List ℕ) (n : ℕ) → Left since new image n → said < n → n < whole → IsAllowed state image

-- A crash when the greeting stood whole leaves what may stand over the turns of the run, by how many bytes of their replies had been said.
abbrev pub IsSafeServing : List Meaning → State World → List (Turn World) → ℕ → ℕ → Outside → Type 0
IsSafeServing viewers state turns since whole new =
    (image : List ℕ) (n : ℕ) → Left since new image n → whole ≤ n → MayStand (machine viewers) state turns (n - whole) image

-- A crash when a byte had been said of the line of a sample leaves what the last state allows.
abbrev pub IsSafeSample : State World → ℕ → ℕ → Outside → Type 0
IsSafeSample state since said new = (image : List ℕ) (n : ℕ) → Left since new image n → said < n → IsAllowed state image
