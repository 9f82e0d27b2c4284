-- What each status of a run says of the bytes taken and said, and of what a crash would have left.
use Rattle.std.specs.Prelude.{◌≡◌, ◌≢◌, ℕ, ◌+◌, ◌<◌, ◌≤◌, List, [], length, ◌⊎◌, None, Ok, Err, codes}
use Rattle.command_line.specs.Words.{AsksFor, AsksForPlain}
use Rattle.command_line.specs.declared.job.Job.{Job}
use Rattle.command_line.specs.declared.job.Task.{Task}
use Rattle.command_line.specs.declared.job.Task.TheVariants.{Serve, Check, Sample, Save, Load}
use Rattle.host_io.specs.Calls.{Rose, StandsStill}
use Rattle.host_io.specs.Outside.{Left, Outside, moment}
use Rattle.lines.specs.declared.serving.End.{End}
use Rattle.lines.specs.declared.serving.End.TheVariants.{Done as all_done, TakeFault as take_fault, SayFault as say_fault, TooMuch as too_much}
use Rattle.lines.specs.Lines.{max_budget}
use Rattle.lines.specs.Machine.{State}
use Rattle.lines.specs.Served.{Serves, state_of}
use Rattle.recovery.specs.Commits.{Commit}
use Rattle.recovery.specs.Standing.{StandsFor}
use Rattle.sample.specs.Lines.{sample_lines}
use Rattle.session.specs.Disk.{IsAllowed}
use Rattle.session.specs.Starting.{StartsAs}
use Rattle.session.specs.Step.{machine}
use Rattle.session.specs.World.{World, view_size}
use Rattle.storage.specs.Spaces.{Reports}
use Rattle.storage.specs.declared.mode.Mode.{Mode}
use Rattle.storage.specs.declared.mode.Mode.TheVariants.{Read}
use Rattle.storage.specs.declared.space.Report.{Report}
use Rattle.viewers.specs.Meanings.{Meaning}
use Rattle.shell.specs.Crashes.{IsSafeGreeting, IsSafeSample, IsSafeServing}
use Rattle.streaming.specs.Loading.{Loads, LoadsViews, MayLoad}
use Rattle.streaming.specs.Saving.{IsSavedOf}
use Rattle.streaming.specs.declared.error.LoadFault.{LoadFault}
use Rattle.streaming.specs.declared.error.LoadFault.TheVariants as load_fault
use Rattle.shell.specs.Faults.{IsFault, fault_of_load}
use Rattle.shell.specs.Said.{IsSilent, SaysOnly, Speaks, check_line, fault_line, greeting_line, load_line, sample_line, usage_line}
use Rattle.streaming.specs.Silence.{GoesInSilence}
use Rattle.shell.specs.Sampled.{AcceptsAll, RefusesOne}
use Rattle.shell.specs.declared.fault.FileFault.{FileFault}
use Rattle.shell.specs.declared.fault.FileFault.TheVariants.{NotEmpty}
use Rattle.shell.specs.declared.status.Status.{Status}
use Rattle.shell.specs.declared.status.Status.TheVariants.{Done, Usage, Refused, TakeFault, SayFault, Memory, TooMuch, DiskFault}

-- The file is attached and opened in silence, and one that is not empty is read alone.
pub record Opens (old opened : Outside) : Type 0 where
  pub silence : GoesInSilence old opened
  pub untouched : old.now.disk.seen ≢ [] → StandsStill old opened

-- A session was started from what the file stands for, or from a store that was made in an empty file.
pub record Starts (mode : Mode) (cap : ℕ) (old opened : Outside) (world : World) : Type 0 where
  pub opens : Opens old opened
  pub starts : StartsAs mode cap old.now.disk.seen (state_of world opened)

-- the bytes that have been said when the greeting of a run stands whole, which names the commit that is kept
abbrev pub greeted_length : World → Outside → ℕ
greeted_length world old = length old.now.said + length (greeting_line world.store.kept.number)

-- The greeting was said whole, and names the commit that is kept. From then on lines were served, up to this end: what was taken, answered
-- and said are those of a run of the session over the lines of the bytes taken. What a crash would have left is said over the whole run, from
-- its first call on.
pub record ServesFrom (viewers : List Meaning) (world : World) (end : End) (old opened new : Outside) : Type 0 where
  pub greeted : Outside
  pub greeting : Speaks (greeting_line world.store.kept.number) (greeting_line world.store.kept.number) opened greeted
  pub last : World
  pub serves : Serves (machine viewers) max_budget end world last greeted new
  pub greets : IsSafeGreeting (state_of world opened) (moment old) (length old.now.said) (moment opened) (greeted_length world old) new
  pub crash : IsSafeServing viewers (state_of world opened) serves.turns (moment old) (greeted_length world old) new

-- the output failed within the greeting
pub record GreetsInPart (world : World) (old opened new : Outside) : Type 0 where
  pub said : List ℕ
  pub part : Speaks (greeting_line world.store.kept.number) said opened new
  pub short : length said < length (greeting_line world.store.kept.number)
  pub greets : IsSafeGreeting (state_of world opened) (moment old) (length old.now.said) (moment opened) (greeted_length world old) new

-- what each status says of a run that opened its file so, and began with this world
abbrev pub RanFrom : List Meaning → World → Status → Outside → Outside → Outside → Type 0
RanFrom viewers world Done old opened new = ServesFrom viewers world all_done old opened new
RanFrom viewers world TakeFault old opened new = ServesFrom viewers world take_fault old opened new
RanFrom viewers world TooMuch old opened new = ServesFrom viewers world too_much old opened new
RanFrom viewers world SayFault old opened new = GreetsInPart world old opened new ⊎ ServesFrom viewers world say_fault old opened new
RanFrom viewers world Usage old opened new = ⊥
RanFrom viewers world Refused old opened new = ⊥
RanFrom viewers world Memory old opened new = ⊥
RanFrom viewers world DiskFault old opened new = ⊥

-- The file was opened, and a run began with what it stands for.
pub record Answers (viewers : List Meaning) (mode : Mode) (cap : ℕ) (status : Status) (old new : Outside) : Type 0 where
  pub opened : Outside
  pub world : World
  pub starts : Starts mode cap old opened world
  pub ran : RanFrom viewers world status old opened new

-- the line that a run ends with was said, or a front of it where the output failed
abbrev pub SaysLine : List ℕ → Status → Outside → Outside → Type 0
SaysLine line Done old new = Speaks line line old new
SaysLine line SayFault old new = (said : List ℕ) × Speaks line said old new × (length said < length line)
SaysLine line _ old new = ⊥

-- a report was said, or a front of it where the output failed
abbrev pub SaysReport : Report → Status → Outside → Outside → Type 0
SaysReport report status old new = SaysLine (check_line report) status old new

-- the file was looked at as a whole, and then a report on it was said
pub record Checks (status : Status) (old new : Outside) : Type 0 where
  pub report : Report
  pub reports : Reports old.now.disk.seen report
  pub looked : Outside
  pub looks : IsSilent old looked
  pub says : SaysReport report status looked new

-- Lines were served from this world up to the end that the status tells.
abbrev pub ServesAs : List Meaning → Status → ℕ → World → World → Outside → Outside → Type 0
ServesAs viewers Done budget world after old new = Serves (machine viewers) budget all_done world after old new
ServesAs viewers TakeFault budget world after old new = Serves (machine viewers) budget take_fault world after old new
ServesAs viewers SayFault budget world after old new = Serves (machine viewers) budget say_fault world after old new
ServesAs viewers TooMuch budget world after old new = Serves (machine viewers) budget too_much world after old new
ServesAs viewers Usage budget world after old new = ⊥
ServesAs viewers Refused budget world after old new = ⊥
ServesAs viewers Memory budget world after old new = ⊥
ServesAs viewers DiskFault budget world after old new = ⊥

-- the file is refused, and the line that is said names why
abbrev pub RefusesFile : Mode → Outside → Outside → Type 0
RefusesFile mode old new = (fault : FileFault) × IsFault mode old.now.disk.seen fault × SaysOnly (fault_line fault) old new

-- a run that serves lines
abbrev pub RanServing : List Meaning → Mode → ℕ → Status → Outside → Outside → Type 0
RanServing viewers mode cap Usage old new = ⊥
RanServing viewers mode cap Refused old new = RefusesFile mode old new
RanServing viewers mode cap Memory old new = IsSilent old new
RanServing viewers mode cap DiskFault old new = Opens old new
RanServing viewers mode cap Done old new = Answers viewers mode cap Done old new
RanServing viewers mode cap TakeFault old new = Answers viewers mode cap TakeFault old new
RanServing viewers mode cap TooMuch old new = Answers viewers mode cap TooMuch old new
RanServing viewers mode cap SayFault old new = Answers viewers mode cap SayFault old new

-- a run that looks at the file as a whole, and leaves it as it is
abbrev pub RanChecking : Status → Outside → Outside → Type 0
RanChecking Usage old new = ⊥
RanChecking Refused old new = RefusesFile Read old new
RanChecking Memory old new = IsSilent old new
RanChecking DiskFault old new = IsSilent old new
RanChecking Done old new = Checks Done old new
RanChecking TakeFault old new = ⊥
RanChecking TooMuch old new = ⊥
RanChecking SayFault old new = Checks SayFault old new

-- the view that the lines of a sample edit
abbrev pub sample_view : List ℕ
sample_view = codes "item"

-- The line that is said of a sample: that all its lines were answered, with the rows that its view has in the last world; or the reply to the first
-- that was refused.
abbrev pub IsSampleLine : List Meaning → ℕ → ℕ → State World → State World → List ℕ → Type 0
IsSampleLine viewers number edits old last line =
    (AcceptsAll (machine viewers) old last (sample_lines number edits) × (line ≡ sample_line edits (view_size last.world sample_view) last.world.store.kept.number))
    ⊎ RefusesOne (machine viewers) old last (sample_lines number edits) line

-- The lines of a sample were answered in silence, up to the first that was refused, and then one line was said of them. From the last answer
-- on, and so when any byte of that line had been said, each image that a crash would have left is one that the last state allows.
pub record SamplesFrom (viewers : List Meaning) (number edits : ℕ) (world : World) (status : Status) (old opened new : Outside) : Type 0 where
  pub answered : Outside
  pub last : World
  pub line : List ℕ
  pub outcome : IsSampleLine viewers number edits (state_of world opened) (state_of last answered) line
  pub silence : GoesInSilence opened answered
  pub says : SaysLine line status answered new
  pub told : IsSafeSample (state_of last new) (moment old) (length old.now.said) new
  pub crash : (image : List ℕ) (n : ℕ) → Left (moment answered) new image n → IsAllowed (state_of last answered) image

-- a store was made in the empty file, and the lines of the sample were answered over it
pub record Samples (viewers : List Meaning) (number edits : ℕ) (mode : Mode) (cap : ℕ) (status : Status) (old new : Outside) : Type 0 where
  pub empty : old.now.disk.seen ≡ []
  pub opened : Outside
  pub world : World
  pub starts : Starts mode cap old opened world
  pub sampled : SamplesFrom viewers number edits world status old opened new

-- a run that makes a store of the lines of a sample, in an empty file and in no other
abbrev pub RanSampling : List Meaning → ℕ → ℕ → Mode → ℕ → Status → Outside → Outside → Type 0
RanSampling viewers number edits mode cap Usage old new = ⊥
RanSampling viewers number edits mode cap Refused old new = (old.now.disk.seen ≢ []) × SaysOnly (fault_line NotEmpty) old new
RanSampling viewers number edits mode cap Memory old new = IsSilent old new
RanSampling viewers number edits mode cap DiskFault old new = Opens old new
RanSampling viewers number edits mode cap Done old new = Samples viewers number edits mode cap Done old new
RanSampling viewers number edits mode cap TakeFault old new = ⊥
RanSampling viewers number edits mode cap TooMuch old new = ⊥
RanSampling viewers number edits mode cap SayFault old new = Samples viewers number edits mode cap SayFault old new

-- the stream of the store in the file was said, or a front of it where the output failed
pub record Saves (status : Status) (old new : Outside) : Type 0 where
  pub stream : List ℕ
  pub saved : IsSavedOf old.now.disk.seen stream
  pub looked : Outside
  pub looks : IsSilent old looked
  pub says : SaysLine stream status looked new

-- a run that says the stream of the file's store, and leaves the file as it is
abbrev pub RanSaving : Status → Outside → Outside → Type 0
RanSaving Usage old new = ⊥
RanSaving Refused old new = RefusesFile Read old new
RanSaving Memory old new = IsSilent old new
RanSaving DiskFault old new = IsSilent old new
RanSaving Done old new = Saves Done old new
RanSaving TakeFault old new = ⊥
RanSaving TooMuch old new = ⊥
RanSaving SayFault old new = Saves SayFault old new

-- The file is empty, and the input was taken for it, which ended so.
pub record StopsLoading (cap : ℕ) (cause : LoadFault) (old stopped : Outside) : Type 0 where
  pub empty : old.now.disk.seen ≡ []
  pub looked : Outside
  pub looks : IsSilent old looked
  pub stops : Loads max_budget cap looked stopped (Err cause)

-- no store is made of the input, and the line that is said names why
pub record RefusesInput (cap : ℕ) (old new : Outside) : Type 0 where
  pub cause : LoadFault
  pub fault : FileFault
  pub names : fault_of_load cause ≡ Ok fault
  pub stopped : Outside
  pub stops : StopsLoading cap cause old stopped
  pub says : SaysOnly (fault_line fault) stopped new

-- A store was made of the input in the empty file, and then one line was said. From the last byte written on, and so when any byte of that line
-- had been said, each image that a crash would have left stands for the first commit, which has the views of the stream.
pub record LoadsFile (cap : ℕ) (status : Status) (old new : Outside) : Type 0 where
  pub empty : old.now.disk.seen ≡ []
  pub looked : Outside
  pub looks : IsSilent old looked
  pub count : ℕ
  pub made : Outside
  pub loads : LoadsViews max_budget cap looked made (Ok count)
  pub says : SaysLine (load_line count 1) status made new
  pub told : (image : List ℕ) (n : ℕ) → Left (moment old) new image n → length old.now.said < n → StandsFor image loads.comes.0.first.next
  pub crash : (image : List ℕ) (n : ℕ) → Left (moment made) new image n → StandsFor image loads.comes.0.first.next

-- a run that makes a store of the input, in an empty file and in no other
abbrev pub RanLoading : ℕ → Status → Outside → Outside → Type 0
RanLoading cap Usage old new = ⊥
RanLoading cap Refused old new = ((old.now.disk.seen ≢ []) × SaysOnly (fault_line NotEmpty) old new) ⊎ RefusesInput cap old new
RanLoading cap Memory old new = IsSilent old new ⊎ StopsLoading cap load_fault.Memory old new
RanLoading cap DiskFault old new = IsSilent old new ⊎ StopsLoading cap load_fault.DiskFailed old new
RanLoading cap Done old new = LoadsFile cap Done old new
RanLoading cap TakeFault old new = StopsLoading cap load_fault.TakeFailed old new
RanLoading cap TooMuch old new = StopsLoading cap load_fault.TooMuch old new
RanLoading cap SayFault old new = LoadsFile cap SayFault old new

abbrev pub RanAs : List Meaning → Task → Mode → ℕ → Status → Outside → Outside → Type 0
RanAs viewers Serve mode cap status old new = RanServing viewers mode cap status old new
RanAs viewers Check mode cap status old new = RanChecking status old new
RanAs viewers (Sample number edits) mode cap status old new = RanSampling viewers number edits mode cap status old new
RanAs viewers Save mode cap status old new = RanSaving status old new
RanAs viewers Load mode cap status old new = RanLoading cap status old new

-- the words ask for a job and name no base, and this is what came of it
pub record RanFor (viewers : List Meaning) (words : List (List ℕ)) (status : Status) (old new : Outside) : Type 0 where
  pub job : Job
  pub asks : AsksFor words job
  pub plain : job.aside ≡ None
  pub ran : RanAs viewers job.task job.mode job.cap status old new

-- Words that name a base ask for nothing here. Where memory is wanting nothing is said, whatever the words: nothing was done, or an input had
-- been taken of which a store is made.
abbrev pub Ran : List Meaning → List (List ℕ) → Status → Outside → Outside → Type 0
Ran viewers words Usage old new = (¬ AsksForPlain words) × SaysOnly usage_line old new
Ran viewers words Memory old new = IsSilent old new ⊎ RanFor viewers words Memory old new
Ran viewers words Refused old new = RanFor viewers words Refused old new
Ran viewers words DiskFault old new = RanFor viewers words DiskFault old new
Ran viewers words Done old new = RanFor viewers words Done old new
Ran viewers words TakeFault old new = RanFor viewers words TakeFault old new
Ran viewers words TooMuch old new = RanFor viewers words TooMuch old new
Ran viewers words SayFault old new = RanFor viewers words SayFault old new

-- A file with which nothing is wrong: one that stands for a commit, or to serve lines from an empty one that may be written. A sample, and
-- the store of a stream, are made in an empty one.
abbrev pub MayOpen : Task → Mode → List ℕ → Type 0
MayOpen Serve mode file = ((file ≡ []) × (mode ≢ Read)) ⊎ ((c : Commit) × StandsFor file c)
MayOpen Check mode file = (c : Commit) × StandsFor file c
MayOpen (Sample number edits) mode file = file ≡ []
MayOpen Save mode file = (c : Commit) × StandsFor file c
MayOpen Load mode file = file ≡ []

-- an input with which nothing is wrong: any, but where a store is made of it
abbrev pub MayTake : Task → ℕ → List ℕ → Type 0
MayTake Load cap input = MayLoad max_budget cap input
MayTake _ cap input = Unit {0}

-- a sample is made in a store that may be written
abbrev pub IsWritten : Task → Mode → Type 0
IsWritten Serve mode = Unit {0}
IsWritten Check mode = Unit {0}
IsWritten (Sample number edits) mode = mode ≢ Read
IsWritten Save mode = Unit {0}
IsWritten Load mode = Unit {0}

-- A run in which nothing can go wrong but memory: the words are right, the file may be opened, no call fails, and no more bytes come
-- than may be taken.
pub record GoesWell (words : List (List ℕ)) (old new : Outside) : Type 0 where
  pub job : Job
  pub right : AsksFor words job
  pub plain : job.aside ≡ None
  pub opens : MayOpen job.task job.mode old.now.disk.seen
  pub comes : MayTake job.task job.cap old.input
  pub disk : ¬ Rose old.disk_faults new.disk_faults
  pub takes : ¬ Rose old.take_faults new.take_faults
  pub says : ¬ Rose old.say_faults new.say_faults
  pub short : length old.input ≤ max_budget

-- the statuses of a run that was served
abbrev pub IsServed : Status → Type 0
IsServed Done = Unit {0}
IsServed TakeFault = Unit {0}
IsServed SayFault = Unit {0}
IsServed TooMuch = Unit {0}
IsServed Usage = ⊥
IsServed Refused = ⊥
IsServed Memory = ⊥
IsServed DiskFault = ⊥
