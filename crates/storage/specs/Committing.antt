-- What a commit does to the disk, and what it leaves there.
use Rattle.std.specs.Prelude.{◌≡◌, ℕ, List, Result, OnOk}
use Rattle.commit_plan.specs.Plans.{Planned}
use Rattle.commit_writes.specs.Carrying.{file_after}
use Rattle.commit_writes.specs.Phases.{commit_ranges}
use Rattle.host_io.specs.Disk.{IsImage, IsSound, settled}
use Rattle.host_io.specs.Outside.{Goes, Moment, Outside}
use Rattle.host_io.specs.Ranges.{ChangesOnly}
use Rattle.recovery.specs.Commits.{mark_of}
use Rattle.recovery.specs.Refusals.{IsBefore, MayStand, whole}
use Rattle.recovery.specs.Standing.{StandsFor}
use Rattle.storage.specs.Stored.{Stored}

-- A moment of the commit that is planned of a store: nothing is said, only where the commit writes have bytes changed, and a crash leaves
-- the commit that is kept, or the next one with that as the one before it.
pub record IsUnderWay (s : Stored) (p : Planned) (from : Outside) (at : Moment) : Type 0 where
  pub silent : at.said ≡ from.now.said
  pub changes : ChangesOnly (commit_ranges s.slot p.writes) from.now.disk.seen at.disk.seen
  pub images : (image : List ℕ) → IsImage at.disk image → MayStand s.kept p.next image

-- The commit that is planned of a store is made after the one that is kept.
pub record Commits {T E : Type 0} (s : Stored) (p : Planned) (from to : Outside) (result : Result T E) : Type 0 where
  pub moments : Goes (IsUnderWay s p from) from to
  -- after the call too a crash leaves one of the two, also where it failed
  pub left : (image : List ℕ) → IsImage to.now.disk image → MayStand s.kept p.next image
  pub sound : IsSound to.now.disk
  -- a commit that is answered stands, and the one that was kept is the one before it
  pub stands : OnOk result (StandsFor to.now.disk.seen p.next)
  pub before : OnOk result (IsBefore to.now.disk.seen (whole s.kept))
  -- each byte of the file is then known
  pub file : OnOk result (to.now.disk ≡ settled (file_after s.slot s.other p.writes (mark_of p.next) from.now.disk.seen))
  -- only where the commit writes were bytes changed, also where it failed
  pub changes : ChangesOnly (commit_ranges s.slot p.writes) from.now.disk.seen to.now.disk.seen
  pub said : to.now.said ≡ from.now.said
  pub input : to.input ≡ from.input
