-- What a session starts with, and why none does.
use Rattle.std.specs.Prelude.{◌≡◌, ◌≢◌, ℕ, List, [], ◌∷◌, Option}
use Rattle.commit_marks.specs.declared.mark.Mark.{Mark}
use Rattle.host_io.specs.Calls.{Looks}
use Rattle.host_io.specs.Disk.{settled}
use Rattle.host_io.specs.Outside.{Outside}
use Rattle.lines.specs.Machine.{State}
use Rattle.recovery.specs.Commits.{Commit}
use Rattle.recovery.specs.Refusals.{IsDamagedAt, IsNoStore}
use Rattle.recovery.specs.Standing.{StandsFor}
use Rattle.recovery.specs.declared.error.OpenError.{OpenError}
use Rattle.recovery.specs.declared.error.OpenError.TheVariants as opening
use Rattle.storage.specs.NewStore.{new_file}
use Rattle.storage.specs.Stored.{Rests, new_store, opened_store}
use Rattle.storage.specs.declared.mode.Mode.{Mode}
use Rattle.storage.specs.declared.mode.Mode.TheVariants.{Read}
use Rattle.session.specs.World.{World, world_over}
use Rattle.session.specs.declared.starting.StartError.{StartError}
use Rattle.session.specs.declared.starting.StartError.TheVariants.{Empty, NotAStore, Damaged, Failed, Memory}

-- The file stands for the commit that is kept, and its marks are those that the store knows.
pub record StartsFrom (mode : Mode) (cap : ℕ) (file : List ℕ) (new : State World) : Type 0 where
  pub kept : Commit
  pub slot : ℕ
  pub other : Option Mark
  pub stands : StandsFor file kept
  pub store : new.world ≡ world_over (opened_store kept slot other mode cap)
  pub rests : Rests new.world.store new.disk
  pub same : new.disk.seen ≡ file

-- a store without views was made, where it may be written, and it is on the disk
pub record StartsAnew (mode : Mode) (cap : ℕ) (new : State World) : Type 0 where
  pub writes : mode ≢ Read
  pub store : new.world ≡ world_over (new_store mode cap)
  pub made : new.disk ≡ settled new_file
  pub rests : Rests new.world.store new.disk

-- An empty file becomes one of a store without views; any other is opened.
abbrev pub StartsAs : Mode → ℕ → List ℕ → State World → Type 0
StartsAs mode cap [] new = StartsAnew mode cap new
StartsAs mode cap (byte ∷ bytes) new = StartsFrom mode cap (byte ∷ bytes) new

-- Why no session is started. The disk is as before, but where it failed.
abbrev pub IsStartRefusal : Mode → Outside → Outside → StartError → Type 0
IsStartRefusal mode old new Empty = (mode ≡ Read) × (old.now.disk.seen ≡ []) × Looks old new
IsStartRefusal mode old new NotAStore = (old.now.disk.seen ≢ []) × IsNoStore old.now.disk.seen × Looks old new
IsStartRefusal mode old new (Damaged place) = (old.now.disk.seen ≢ []) × IsDamagedAt old.now.disk.seen place × Looks old new
IsStartRefusal mode old new Failed = Unit {0}
IsStartRefusal mode old new Memory = Looks old new

-- how a file that is not opened is refused
abbrev pub cause_of_opening : OpenError → StartError
cause_of_opening opening.NotAStore = NotAStore
cause_of_opening (opening.Damaged place) = Damaged place
cause_of_opening opening.Failed = Failed
cause_of_opening opening.Memory = Memory
