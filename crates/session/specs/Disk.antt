-- What a line may do to the disk, and how the disk is between lines. What is said of its bytes is said where they are known.
use Rattle.std.specs.Prelude.{◌≡◌, ◌⊎◌, ℕ, ◌≤◌, List, Some, IsSome, true, false}
use Rattle.commit_plan.specs.Plans.{IsPlanOf, Planned}
use Rattle.commit_writes.specs.Carrying.{file_after}
use Rattle.commit_writes.specs.Phases.{commit_ranges}
use Rattle.host_io.specs.Disk.{IsImage, IsSound, settled}
use Rattle.host_io.specs.Ranges.{ChangesOnly}
use Rattle.lines.specs.Machine.{State}
use Rattle.recovery.specs.Commits.{Commit, mark_of}
use Rattle.recovery.specs.Refusals.{IsBefore, Older, whole}
use Rattle.recovery.specs.Standing.{StandsFor}
use Rattle.storage.specs.Stored.{Stored, Rests, floor_of, is_shut}
use Rattle.session.specs.World.{World}

-- the line reaches no disk
pub record LeavesDisk (known : Type 0) (old new : State World) : Type 0 where
  pub bytes : known → new.disk ≡ old.disk
  pub faults : new.disk_faults ≡ old.disk_faults

-- the disk is read, and no byte of it is changed
pub record ReadsDisk (known : Type 0) (old new : State World) : Type 0 where
  pub bytes : known → new.disk ≡ old.disk
  pub later : old.disk_faults ≤ new.disk_faults

-- The disk is read. Where the session is shut, what was pending may be settled before.
pub record SettlesAtMost (known : Type 0) (old new : State World) : Type 0 where
  pub bytes : known → (new.disk ≡ old.disk) ⊎ ((is_shut old.world.store ≡ true) × (new.disk ≡ settled old.disk.seen))
  pub later : old.disk_faults ≤ new.disk_faults

-- the commit that follows the one that is kept, with the views that are edited and this note, and its blocks
abbrev pub IsNext : Stored → List ℕ → Planned → Type 0
IsNext s note planned = IsPlanOf (floor_of s.mode s.kept.end) s.kept s.views note planned

-- The bytes of a file where the commit that is planned of a store was made: the blocks and the slot of the mark that was not chosen are
-- written, and every other byte is as it was.
abbrev pub committed_file : Stored → Planned → List ℕ → List ℕ
committed_file s planned file = file_after s.slot s.other planned.writes (mark_of planned.next) file

-- the commit was written whole, and nothing is pending
pub record WritesCommit (known : Type 0) (planned : Planned) (old new : State World) : Type 0 where
  pub bytes : known → new.disk ≡ settled (committed_file old.world.store planned old.disk.seen)
  pub later : old.disk_faults ≤ new.disk_faults

-- no byte was changed but where the commit writes
pub record WritesInPart (known : Type 0) (planned : Planned) (old new : State World) : Type 0 where
  pub bytes : known → ChangesOnly (commit_ranges old.world.store.slot planned.writes) old.disk.seen new.disk.seen
  pub later : old.disk_faults ≤ new.disk_faults

-- The image stands for the commit that is kept. Where the session is not shut and there is a commit before, the image has it as the
-- file does.
pub record IsKept (state : State World) (image : List ℕ) : Type 0 where
  pub stands : StandsFor image state.world.store.kept
  pub before : is_shut state.world.store ≡ false → IsSome state.world.store.before
      → (older : Older) → IsBefore state.disk.seen older → IsBefore image older

-- the image stands for the commit that failed under way, and has the one that is kept as the commit before
pub record IsAttempted (state : State World) (image : List ℕ) : Type 0 where
  pub next : Commit
  pub attempted : state.world.store.attempted ≡ Some next
  pub stands : StandsFor image next
  pub before : IsBefore image (whole state.world.store.kept)

-- what a crash may leave between two lines
abbrev pub IsAllowed : State World → List ℕ → Type 0
IsAllowed state image = IsKept state image ⊎ IsAttempted state image

-- The disk is as the next line needs it: what is read is what a crash might leave, and where the session is not shut all is settled and
-- as the store knows it.
pub record IsInOrder (state : State World) : Type 0 where
  pub sound : IsSound state.disk
  pub rests : is_shut state.world.store ≡ false → Rests state.world.store state.disk

-- the state is as its next line needs it, whatever may be asked then, and each image that a crash may leave now is allowed
pub record IsSteady (state : State World) : Type 0 where
  pub allowed : (image : List ℕ) → IsImage state.disk image → IsAllowed state image
  pub ready : IsInOrder state
