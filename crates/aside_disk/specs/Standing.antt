-- What an aside disk keeps from call to call, and what a program learns of the two disks.
use Rattle.std.specs.Prelude.{◌≡◌, ℕ, ◌+◌, ◌-◌, ◌^◌, ◌<◌, ◌⊎◌, List, [], length, Option}
use Rattle.host_io.specs.Disk.{IsSettled, settled}
use Rattle.host_io.specs.Outside.{Outside, moment}
use Rattle.host_io.specs.Calls.{Looks}
use Rattle.commit_marks.specs.declared.mark.Mark.{Mark}
use Rattle.commit_marks.specs.Marks.{Chooses}
use Rattle.aside_disk.specs.declared.log.Log.{Log}
use Rattle.aside_disk.specs.Records.{applied}
use Rattle.aside_disk.specs.Logical.{Logical, entries_of, record_of}
use Rattle.aside_disk.specs.Opening.{new_bytes}
use Rattle.aside_disk.specs.Tie.{Tie}
use Rattle.aside_disk.specs.Shown.{Seen, bare, source_of}
use Rattle.aside_disk.specs.Told.{IsSpent, IsTold, IsWell}

pub record Stands (tells : Type 0) (name : ℕ) (base : List ℕ) (number : ℕ) (log : Log) (own : ℕ) (lower : Outside) (seen : Seen) : Type 0 where
  pub lower_since : ℕ
  pub upper_since : ℕ
  pub source : seen.source ≡ source_of name lower_since upper_since number base
  pub well : IsWell log
  pub told : tells → IsTold base number log lower_since upper_since lower seen
  pub spent : tells → 0 < own → IsSpent log.marks.chosen.number (length base) (length lower.now.disk.seen)

-- the first moment of an upper disk
abbrev pub first_seen : ℕ → ℕ → List ℕ → ℕ → Outside → Seen
first_seen name number base end lower = record {
  now = record { disk = settled (applied base (entries_of lower.now.disk.seen end)); said = lower.now.said };
  past = [];
  source = source_of name (moment lower) 0 number base;
}

-- The file is worn out: its chosen mark has the last number, or it and its base are so long that a record more might not fit.
abbrev pub IsWornOut : List ℕ → List ℕ → Type 0
IsWornOut base image =
    ((slot : ℕ) × (chosen : Mark) × (other : Option Mark) × Chooses image slot chosen other × (chosen.number ≡ 2 ^ 63 - 1))
    ⊎ (2 ^ 63 - 8192 < length base + length image)

-- What a program learns of the two disks. Its own faults rise over a disk that tells its bytes only where the file is worn out.
pub record IsOver (tells : Type 0) (name : ℕ) (lower : Outside) (seen : Seen) (own : ℕ) : Type 0 where
  pub base : List ℕ
  pub number : ℕ
  pub lower_since : ℕ
  pub upper_since : ℕ
  pub source : seen.source ≡ source_of name lower_since upper_since number base
  pub tie : tells → Tie (Logical base number) lower_since upper_since lower (bare seen)
  pub worn : tells → 0 < own → IsWornOut base lower.now.disk.seen

-- What an aside disk begins with: nothing is pending, its bytes are the file that the aside file stands for, and the same was said. An
-- empty file was made one of this base; any other was only looked at.
pub record Begins (base : List ℕ) (number : ℕ) (old new : Outside) (seen : Seen) : Type 0 where
  pub rests : IsSettled new.now.disk
  pub logical : Logical base number new.now.disk.seen seen.now.disk.seen
  pub rests_too : IsSettled seen.now.disk
  pub past : seen.past ≡ []
  pub said : seen.now.said ≡ old.now.said
  pub lower_said : new.now.said ≡ old.now.said
  pub input : new.input ≡ old.input
  pub made : ((old.now.disk.seen ≡ []) × (new.now.disk.seen ≡ new_bytes (record_of base number))) ⊎ Looks old new
