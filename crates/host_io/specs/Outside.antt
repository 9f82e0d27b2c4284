-- All that a program can tell of the outside, and the moments that it went through.
use Rattle.std.specs.Prelude.{◌≡◌, ℕ, ◌≤◌, List, [], ◌∷◌, ◌++◌, length, ◌⊎◌}
use Rattle.host_io.specs.Disk.{DiskState, IsImage}

-- the disk, and the bytes said so far, at one moment
pub record Moment : Type 0 where
  pub disk : DiskState
  pub said : List ℕ

pub record Outside : Type 0 where
  pub now : Moment
  -- the moments before this one, the newest first
  pub past : List Moment
  -- the bytes that are left to take
  pub input : List ℕ
  -- how often calls of the disk, takes and pieces said have failed
  pub disk_faults : ℕ
  pub take_faults : ℕ
  pub say_faults : ℕ
  -- what it stands over, where that is something that its caller lent: no call changes it
  pub source : List ℕ

abbrev pub moments : Outside → List Moment
moments outside = outside.now ∷ outside.past

-- the number of this moment, the first one being 0
abbrev pub moment : Outside → ℕ
moment outside = length outside.past

-- A crash at one of these moments, of which the oldest has the number 0, but at none before number `since`, may have
-- left this image when n bytes had been said.
abbrev pub LeftAt : ℕ → List Moment → List ℕ → ℕ → Type 0
LeftAt since [] image n = ⊥
LeftAt since (at ∷ before) image n =
    (since ≤ length before) × ((IsImage at.disk image × (n ≡ length at.said)) ⊎ LeftAt since before image n)

-- a crash from moment number `since` on may have left this image when n bytes had been said
abbrev pub Left : ℕ → Outside → List ℕ → ℕ → Type 0
Left since outside image n = LeftAt since (moments outside) image n

abbrev pub Each : (Moment → Type 0) → List Moment → Type 0
Each P [] = Unit {0}
Each P (at ∷ before) = P at × Each P before

-- time went on, and each moment that came has P
pub record Goes (P : Moment → Type 0) (old new : Outside) : Type 0 where
  pub added : List Moment
  pub follows : moments new ≡ added ++ moments old
  pub each : Each P added
