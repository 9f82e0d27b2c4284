-- What may come of a command: the one reply and world that it is due, or what the disk or want of memory makes of it, each with its cause.
use Rattle.std.specs.Prelude.{◌≡◌, ◌⊎◌, ℕ, ◌<◌, ◌≤◌, List, None, Option, true}
use Rattle.cmd_text.specs.Replies.{reply_bytes}
use Rattle.cmd_text.specs.declared.command.Command.{Command}
use Rattle.cmd_text.specs.declared.refusal.Refusal.TheVariants.{Damaged, Disk, Full, Memory}
use Rattle.cmd_text.specs.declared.reply.Reply.TheVariants.{Commit as committed_as, Refused, Reopen as reopened_as, Revert as reverted_to}
use Rattle.commit_marks.specs.declared.mark.Mark.{Mark}
use Rattle.commit_plan.specs.Plans.{EndsAt, Planned}
use Rattle.host_io.specs.Calls.{Rose}
use Rattle.lines.specs.Machine.{State}
use Rattle.recovery.specs.Commits.{Commit}
use Rattle.recovery.specs.Refusals.{IsBefore, broken, whole}
use Rattle.recovery.specs.Standing.{StandsFor}
use Rattle.storage.specs.Reverting.{views_without_homes}
use Rattle.storage.specs.Stored.{Rests, committed, failed, floor_of, reopened}
use Rattle.viewers.specs.Meanings.{Meaning}
use Rattle.session.specs.Commands.{Outcome, Reach, commit_due, gives, commits, opens_disk, outcome_of, reach_of, reads_disk, reopens, reverts, takes_memory}
use Rattle.session.specs.Disk.{IsNext, LeavesDisk, ReadsDisk, SettlesAtMost, WritesCommit, WritesInPart}
use Rattle.session.specs.World.{World, with_store, with_tables, without_followers}

-- This is said, and this world is left.
pub record Gives (known : Type 0) (said : List ℕ) (left : World) (old : State World) (reply : List ℕ) (new : State World) : Type 0 where
  pub answer : reply ≡ said
  pub world : new.world ≡ left
  pub disk : LeavesDisk known old new

-- The commit is acknowledged: the file stands for it, and the one that was kept is the one before it.
pub record Acknowledges (known : Type 0) (note : List ℕ) (old : State World) (reply : List ℕ) (new : State World) : Type 0 where
  pub planned : Planned
  pub due : commit_due old.world.store ≡ None
  pub next : IsNext old.world.store note planned
  pub within : planned.next.end ≤ old.world.store.cap
  pub answer : reply ≡ reply_bytes (committed_as planned.next.number)
  pub world : new.world ≡ with_store old.world (committed old.world.store planned.next)
  pub stands : known → StandsFor new.disk.seen planned.next
  pub before : known → IsBefore new.disk.seen (whole old.world.store.kept)
  pub writes : WritesCommit known planned old new

-- The disk failed under way. The file may stand for the next commit or for the one that is kept, and the session is shut.
pub record FailsUnderWay (known : Type 0) (note : List ℕ) (old : State World) (reply : List ℕ) (new : State World) : Type 0 where
  pub planned : Planned
  pub due : commit_due old.world.store ≡ None
  pub next : IsNext old.world.store note planned
  pub within : planned.next.end ≤ old.world.store.cap
  pub answer : reply ≡ reply_bytes (Refused Disk)
  pub world : new.world ≡ with_store old.world (failed old.world.store planned.next)
  pub rose : Rose old.disk_faults new.disk_faults
  pub writes : WritesInPart known planned old new

-- The file would end past the cap, and nothing changed.
pub record IsFull (known : Type 0) (note : List ℕ) (old : State World) (reply : List ℕ) (new : State World) : Type 0 where
  pub end : ℕ
  pub ends : EndsAt (floor_of old.world.store.mode old.world.store.kept.end) old.world.store.kept old.world.store.views note end
  pub past : old.world.store.cap < end
  pub gives : Gives known (reply_bytes (Refused (Full end old.world.store.cap))) old.world old reply new

-- The file was opened anew. What it stands for is kept, and is as the store says.
pub record Reopens (known : Type 0) (old : State World) (reply : List ℕ) (new : State World) : Type 0 where
  pub kept : Commit
  pub slot : ℕ
  pub other : Option Mark
  pub stands : known → StandsFor old.disk.seen kept
  pub rests : known → Rests new.world.store new.disk
  pub answer : reply ≡ reply_bytes (reopened_as kept.number)
  pub world : new.world ≡ without_followers (with_store old.world (reopened old.world.store kept slot other))
  pub disk : SettlesAtMost known old new

-- the disk failed while the file was being opened anew, and the session is as it was
pub record FailsToReopen (known : Type 0) (old : State World) (reply : List ℕ) (new : State World) : Type 0 where
  pub answer : reply ≡ reply_bytes (Refused Disk)
  pub world : new.world ≡ old.world
  pub rose : Rose old.disk_faults new.disk_faults
  pub disk : SettlesAtMost known old new

-- The file stands for no commit any more. A disk that keeps what it was given never shows that.
pub record FindsNoCommit (known : Type 0) (old : State World) (reply : List ℕ) (new : State World) : Type 0 where
  pub place : ℕ
  pub unknown : ¬ known
  pub answer : reply ≡ reply_bytes (Refused (Damaged place))
  pub world : new.world ≡ old.world
  pub disk : SettlesAtMost known old new

-- The views of the commit before are edited now, and no column of them has a home.
pub record BringsBack (known : Type 0) (old : State World) (reply : List ℕ) (new : State World) : Type 0 where
  pub older : Commit
  pub before : known → IsBefore old.disk.seen (whole older)
  pub answer : reply ≡ reply_bytes (reverted_to older.number)
  pub world : new.world ≡ without_followers (with_tables old.world (views_without_homes older.views))
  pub disk : ReadsDisk known old new

-- no commit stands any more where the one before did, and this place is why
pub record FindsDamage (known : Type 0) (old : State World) (reply : List ℕ) (new : State World) : Type 0 where
  pub place : ℕ
  pub damaged : known → IsBefore old.disk.seen (broken place)
  pub answer : reply ≡ reply_bytes (Refused (Damaged place))
  pub world : new.world ≡ old.world
  pub disk : ReadsDisk known old new

-- the disk failed while the commit before was being read
pub record FailsToRevert (known : Type 0) (old : State World) (reply : List ℕ) (new : State World) : Type 0 where
  pub answer : reply ≡ reply_bytes (Refused Disk)
  pub world : new.world ≡ old.world
  pub rose : Rose old.disk_faults new.disk_faults
  pub disk : ReadsDisk known old new

abbrev pub Comes : Type 0 → Outcome → State World → List ℕ → State World → Type 0
Comes known (gives said left) old reply new = Gives known said left old reply new
Comes known (commits note) old reply new = Acknowledges known note old reply new ⊎ (FailsUnderWay known note old reply new ⊎ IsFull known note old reply new)
Comes known reopens old reply new = Reopens known old reply new ⊎ (FailsToReopen known old reply new ⊎ FindsNoCommit known old reply new)
Comes known reverts old reply new = BringsBack known old reply new ⊎ (FindsDamage known old reply new ⊎ FailsToRevert known old reply new)

-- the disk where memory was wanting: only a command that opens or reads the file came to it
abbrev pub LeavesDiskBy : Type 0 → Reach → State World → State World → Type 0
LeavesDiskBy known opens_disk old new = SettlesAtMost known old new
LeavesDiskBy known reads_disk old new = ReadsDisk known old new
LeavesDiskBy known _ old new = LeavesDisk known old new

abbrev pub LeavesDiskFor : Type 0 → Command → State World → State World → Type 0
LeavesDiskFor known command old new = LeavesDiskBy known (reach_of command) old new

-- Memory was wanting, and the session is as it was. A command that takes none is never answered so.
pub record WantsMemory (known : Type 0) (command : Command) (old : State World) (reply : List ℕ) (new : State World) : Type 0 where
  pub takes : takes_memory command ≡ true
  pub answer : reply ≡ reply_bytes (Refused Memory)
  pub world : new.world ≡ old.world
  pub disk : LeavesDiskFor known command old new

-- what may come of the command, where these viewers may be asked
abbrev pub Carried : Type 0 → List Meaning → Command → State World → List ℕ → State World → Type 0
Carried known viewers command old reply new = Comes known (outcome_of viewers old.world command) old reply new ⊎ WantsMemory known command old reply new

-- A reply of lines may want memory to be said, so nothing changed before.
pub record ChangesNothing (known : Type 0) (command : Command) (old new : State World) : Type 0 where
  pub takes : takes_memory command ≡ true
  pub world : new.world ≡ old.world
  pub disk : LeavesDisk known old new
