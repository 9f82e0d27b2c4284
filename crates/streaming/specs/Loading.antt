-- A store made of an input.
use Rattle.std.specs.Prelude.{◌≡◌, ℕ, ◌<◌, ◌≤◌, ◌⊎◌, List, [], length, Result, Ok, Err, None}
use Rattle.commit_plan.specs.Plans.{EndsAt, IsPlanOf, Planned}
use Rattle.commit_writes.specs.Carrying.{file_after}
use Rattle.free_space.specs.Sites.{first_place}
use Rattle.host_io.specs.Disk.{settled}
use Rattle.host_io.specs.Outside.{Outside}
use Rattle.recovery.specs.Commits.{mark_of}
use Rattle.recovery.specs.Standing.{StandsFor}
use Rattle.storage.specs.NewStore.{new_commit, new_file}
use Rattle.stream_codec.specs.Stream.{IsStream}
use Rattle.view_store.specs.Views.{NamedTable}
use Rattle.streaming.specs.Silence.{GoesInSilence}
use Rattle.streaming.specs.Taking.{ComesOfInput, StopsTaking, TakesStream}
use Rattle.streaming.specs.declared.error.LoadFault.{LoadFault}
use Rattle.streaming.specs.declared.error.LoadFault.TheVariants.{BadStream, TooMuch, TakeFailed, Full, DiskFailed, Memory}

-- A store was made in silence, and its first commit has these views, each block at its least place. The commit stands in the file, every
-- byte of which is known and outlasts a crash.
pub record MakesStore (cap : ℕ) (views : List NamedTable) (old new : Outside) : Type 0 where
  pub first : Planned
  pub follows : IsPlanOf first_place new_commit views [] first
  pub within : first.next.end ≤ cap
  pub silence : GoesInSilence old new
  pub disk : new.now.disk ≡ settled (file_after 0 None first.writes (mark_of first.next) new_file)
  pub stands : StandsFor new.now.disk.seen first.next

-- The views would not go into a file of the cap: each first commit of them ends here. What is left is a store without views.
pub record FindsNoRoom (cap end limit : ℕ) (views : List NamedTable) (old new : Outside) : Type 0 where
  pub limit_is : limit ≡ cap
  pub past : cap < end
  pub ends : EndsAt first_place new_commit views [] end
  pub silence : GoesInSilence old new
  pub made : new.now.disk ≡ settled new_file

-- memory was wanting: the file is as before, or it is that of a store without views
pub record LacksMemory (old new : Outside) : Type 0 where
  pub silence : GoesInSilence old new
  pub left : (new.now.disk ≡ old.now.disk) ⊎ (new.now.disk ≡ settled new_file)

-- what comes of views for which a store is made: how many they are, or why it was not
abbrev pub ComesOfViews : ℕ → List NamedTable → Outside → Outside → Result ℕ LoadFault → Type 0
ComesOfViews cap views old new (Ok count) = MakesStore cap views old new × (count ≡ length views)
ComesOfViews cap views old new (Err (Full end limit)) = FindsNoRoom cap end limit views old new
ComesOfViews cap views old new (Err DiskFailed) = GoesInSilence old new
ComesOfViews cap views old new (Err Memory) = LacksMemory old new
ComesOfViews cap views old new (Err _) = ⊥

-- an input was taken whole, as the stream of these views, and this came of them
pub record LoadsViews (budget cap : ℕ) (old new : Outside) (result : Result ℕ LoadFault) : Type 0 where
  pub views : List NamedTable
  pub took : Outside
  pub takes : TakesStream budget views old took
  pub comes : ComesOfViews cap views took new result

-- what comes of an input of which a store is to be made
abbrev pub Loads : ℕ → ℕ → Outside → Outside → Result ℕ LoadFault → Type 0
Loads budget cap old new (Ok count) = LoadsViews budget cap old new (Ok count)
Loads budget cap old new (Err (Full end limit)) = LoadsViews budget cap old new (Err (Full end limit))
Loads budget cap old new (Err DiskFailed) = LoadsViews budget cap old new (Err DiskFailed)
Loads budget cap old new (Err Memory) = StopsTaking old new ⊎ LoadsViews budget cap old new (Err Memory)
Loads budget cap old new (Err (BadStream place)) = ComesOfInput budget old new (Err (BadStream place))
Loads budget cap old new (Err TooMuch) = ComesOfInput budget old new (Err TooMuch)
Loads budget cap old new (Err TakeFailed) = ComesOfInput budget old new (Err TakeFailed)

-- An input that goes into a file: it is the stream of views, is not longer than the budget, and some first commit of them ends within the cap.
pub record MayLoad (budget cap : ℕ) (input : List ℕ) : Type 0 where
  pub views : List NamedTable
  pub stream : IsStream input views
  pub short : length input ≤ budget
  pub planned : Planned
  pub follows : IsPlanOf first_place new_commit views [] planned
  pub within : planned.next.end ≤ cap
