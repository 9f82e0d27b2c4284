-- What it is to open an aside file.
use Rattle.std.specs.Prelude.{◌≡◌, ◌≢◌, ℕ, ◌+◌, ◌<◌, ◌≤◌, ◌⊎◌, false, List, [], ◌∷◌, ◌++◌, replicate, Result, Ok, Err}
use Rattle.host_io.specs.Disk.{IsSettled}
use Rattle.host_io.specs.Outside.{Outside, moment}
use Rattle.host_io.specs.Calls.{Looks}
use Rattle.host_io.specs.Ranges.{bytes_in}
use Rattle.commit_marks.specs.declared.mark.Mark.{Mark}
use Rattle.commit_marks.specs.declared.mark.Marks.{Marks}
use Rattle.commit_marks.specs.Marks.{body_bytes, header, open_byte}
use Rattle.aside_disk.specs.declared.error.AsideError.{AsideError}
use Rattle.aside_disk.specs.declared.error.AsideError.TheVariants.{At, OtherBase, Failed}
use Rattle.aside_disk.specs.declared.error.BaseRecord.{BaseRecord}
use Rattle.aside_disk.specs.declared.log.Log.{Log}
use Rattle.aside_disk.specs.Records.{Entry, Fit, IsRecordAt, Spells, grown}
use Rattle.aside_disk.specs.Logical.{HasLog, base_bytes, records_range}
use Rattle.aside_disk.specs.Refusals.{AreLogMarks, HasNoLogMark, HasNoMarks, IsAsideRefusal}

-- the first mark of an aside file
abbrev pub first_mark : Mark
first_mark = record { version = 1; number = 0; place = 192; len = 64; end = 256 }

-- a new aside file: its header, its first mark in an open slot, a slot of zeros, and the record of its base
abbrev pub new_bytes : BaseRecord → List ℕ
new_bytes kept = header ++ ((open_byte ∷ body_bytes first_mark) ++ (replicate 64 0 ++ base_bytes kept))

-- the moments in which a file is opened: an empty one is made by a write and a sync, any other is only looked at
abbrev pub opening_moments : List ℕ → ℕ
opening_moments [] = 2
opening_moments (byte ∷ bytes) = 0

-- the number of the moment from which on the log of a file is open
abbrev pub opened_at : Outside → ℕ
opened_at old = moment old + opening_moments old.now.disk.seen

-- What reading the marks of a log gives.
abbrev pub GivesLogMarks : List ℕ → Result Marks AsideError → Type 0
GivesLogMarks image (Ok marks) = AreLogMarks image marks.slot marks.chosen marks.other
GivesLogMarks image (Err (At place)) = HasNoMarks image place ⊎ HasNoLogMark image place
GivesLogMarks image (Err (OtherBase kept given)) = ⊥
GivesLogMarks image (Err Failed) = Unit {0}

-- What walking over the records of a log gives, into a file of this length: the length with all of them, or the place where none stands.
abbrev pub Walks : List ℕ → ℕ → ℕ → Result ℕ AsideError → Type 0
Walks image start end (Ok len) = (entries : List Entry) × Spells entries (bytes_in image (records_range end)) × Fit start entries × (len ≡ grown start entries)
Walks image start end (Err (At place)) = (before : List Entry) × (256 ≤ place) × (place < end) × Spells before (bytes_in image (records_range place)) × Fit start before
    × ((entry : Entry) → ¬ IsRecordAt image end place (grown start before) entry)
Walks image start end (Err (OtherBase kept given)) = ⊥
Walks image start end (Err Failed) = Unit {0}

-- Nothing is pending, and the log is that of an aside file of this base.
pub record IsOpened (kept : BaseRecord) (log : Log) (lower : Outside) : Type 0 where
  pub rests : IsSettled lower.now.disk
  pub entries : List Entry
  pub has : HasLog kept lower.now.disk.seen log.marks.slot log.marks.chosen log.marks.other entries
  pub end_is : log.end ≡ log.marks.chosen.end
  pub len_is : log.len ≡ grown kept.length entries
  pub sure : log.unsure ≡ false

-- What reading the log of a file that is not empty gives.
abbrev pub ReadsLog : List ℕ → BaseRecord → Result Log AsideError → Type 0
ReadsLog image given (Ok log) = (entries : List Entry) × HasLog given image log.marks.slot log.marks.chosen log.marks.other entries × (log.end ≡ log.marks.chosen.end)
    × (log.len ≡ grown given.length entries) × (log.unsure ≡ false)
ReadsLog image given (Err error) = IsAsideRefusal image given error

-- Opening a log. A file that is empty is made; any other is only looked at, and refused exactly by its cause.
abbrev pub Opens : BaseRecord → Outside → Outside → Result Log AsideError → Type 0
Opens given old new (Ok log) = IsOpened given log new × (new.now.said ≡ old.now.said) × (new.input ≡ old.input)
    × (((old.now.disk.seen ≡ []) × (new.now.disk.seen ≡ new_bytes given)) ⊎ Looks old new)
Opens given old new (Err error) = (error ≡ Failed) ⊎ (Looks old new × (old.now.disk.seen ≢ []) × IsAsideRefusal old.now.disk.seen given error)
