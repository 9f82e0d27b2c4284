-- What the options and the file ask for that were found in words: the tests that the words have to pass, and the job.
use Rattle.std.specs.Prelude.{◌≡◌, ◌≢◌, ℕ, ◌≤◌, ◌<◌, ◌^◌, ◌||◌, Bool, true, false, if◌then◌else◌, List, [], Option, Some, None, codes, decimal, find, is_some, option_and_then, option_map}
use Rattle.std.specs.Str.{bytes_eq}
use Rattle.clap.specs.Matches.{found_of}
use Rattle.clap.specs.Walk.{Row, first_of, rows_of}
use Rattle.clap.specs.declared.parser.matches.ArgMatches.{ArgMatches}
use Rattle.clap.specs.declared.parser.matches.ValueSource.{ValueSource}
use Rattle.clap.specs.declared.parser.matches.ValueSource.TheVariants.{CommandLine, DefaultValue}
use Rattle.mk_value.specs.Buffer.{Buffer}
use Rattle.command_line.specs.declared.job.Job.{Job}
use Rattle.command_line.specs.declared.job.Task.{Task}
use Rattle.command_line.specs.declared.job.Task.TheVariants.{Serve, Check, Sample, Save, Load}
use Rattle.storage.specs.declared.mode.Mode.{Mode}
use Rattle.storage.specs.declared.mode.Mode.TheVariants.{Write, Extend, Read}

-- what was found, a row for each option and for the file
abbrev pub found_rows : ArgMatches → List Row
found_rows matches = rows_of (found_of matches)

-- a value that comes from the words, and is no default
abbrev pub is_of_words : Option ValueSource → Bool
is_of_words (Some CommandLine) = true
is_of_words (Some DefaultValue) = false
is_of_words None = false

-- the words give it themselves, be it an option or the file
abbrev pub is_given : List ℕ → List Row → Bool
is_given name rows = is_of_words (option_and_then (λ row. row.source) (find (λ row. bytes_eq row.id name) rows))

-- the file is named, and its name is not empty
pub record IsFile (rows : List Row) (file : List ℕ) : Type 0 where
  pub given : first_of (codes "file") rows ≡ Some file
  pub named : file ≢ []

abbrev pub least_cap : ℕ
least_cap = 208

abbrev pub most_cap : ℕ
most_cap = 2147483632

-- a cap is spelled by decimal digits, with no sign and no leading zero; where none is given the greatest is meant
abbrev pub MeansCap : Option (List ℕ) → ℕ → Type 0
MeansCap (Some text) cap = text ≡ decimal cap
MeansCap None cap = cap ≡ most_cap

pub record IsCap (rows : List Row) (cap : ℕ) : Type 0 where
  pub means : MeansCap (first_of (codes "cap") rows) cap
  pub least : least_cap ≤ cap
  pub most : cap ≤ most_cap

-- a store is only looked at where `--check` or `--save` is given
abbrev pub looks : List Row → Bool
looks rows = is_given (codes "check") rows || is_given (codes "save") rows

-- how the store is used, by whether `--extend` and `--read` are given and it is only looked at
abbrev pub mode_of : Bool → Bool → Bool → Mode
mode_of extends reads looks = if extends then Extend else (if reads || looks then Read else Write)

-- `--check` and `--save` go with none of `--cap`, `--extend` and `--read`, `--load` with none of `--extend` and `--read`, and `--read` not with
-- `--extend`.
pub record IsMode (rows : List Row) (mode : Mode) : Type 0 where
  pub alone : looks rows ≡ true
      → (is_given (codes "cap") rows ≡ false) × (is_given (codes "extend") rows ≡ false) × (is_given (codes "read") rows ≡ false)
  pub new : is_given (codes "load") rows ≡ true → (is_given (codes "extend") rows ≡ false) × (is_given (codes "read") rows ≡ false)
  pub apart : is_given (codes "extend") rows ≡ true → is_given (codes "read") rows ≡ false
  pub used : mode ≡ mode_of (is_given (codes "extend") rows) (is_given (codes "read") rows) (looks rows)

abbrev pub most_edits : ℕ
most_edits = 1000000

-- the number of a sample and its count are spelled by decimal digits, with no sign and no leading zero
pub record MeansSample (number count : List ℕ) (task : Task) : Type 0 where
  pub made_by : ℕ
  pub edits : ℕ
  pub spelled : number ≡ decimal made_by
  pub small : made_by < 2 ^ 64
  pub counted : count ≡ decimal edits
  pub most : edits ≤ most_edits
  pub done : task ≡ Sample made_by edits

-- what is done, by whether `--check`, `--save` and `--load` are given: no two of them go together
abbrev pub task_of : Bool → Bool → Bool → Option Task
task_of false false false = Some Serve
task_of true false false = Some Check
task_of false true false = Some Save
task_of false false true = Some Load
task_of _ _ _ = None

abbrev pub flagged_task : List Row → Option Task
flagged_task rows = task_of (is_given (codes "check") rows) (is_given (codes "save") rows) (is_given (codes "load") rows)

-- one of the three is given
abbrev pub is_flagged : List Row → Bool
is_flagged rows = looks rows || is_given (codes "load") rows

-- What is done, by the values of `--sample` and `--count`: they are given together or not at all, and not with `--read`, `--check`, `--save` or
-- `--load`.
abbrev pub MeansTask : List Row → Option (List ℕ) → Option (List ℕ) → Task → Type 0
MeansTask rows None None task = flagged_task rows ≡ Some task
MeansTask rows (Some number) (Some count) task =
    MeansSample number count task × (is_given (codes "read") rows ≡ false) × (is_flagged rows ≡ false)
MeansTask rows (Some number) None task = ⊥
MeansTask rows None (Some count) task = ⊥

abbrev pub IsTask : List Row → Task → Type 0
IsTask rows task = MeansTask rows (first_of (codes "sample") rows) (first_of (codes "count") rows) task

-- the options go together
pub record IsUse (rows : List Row) (mode : Mode) (task : Task) : Type 0 where
  pub used : IsMode rows mode
  pub done : IsTask rows task

-- something is given besides `--aside`, `--cap`, `--extend` and the file
abbrev pub goes_without_base : List Row → Bool
goes_without_base rows = is_given (codes "read") rows || (is_flagged rows || (is_some (first_of (codes "sample") rows) || is_some (first_of (codes "count") rows)))

-- the base that is named, be its name empty or not
abbrev pub name_of : Option Buffer → Option (List ℕ)
name_of aside = option_map (λ name. name.bytes) aside

-- `--aside` goes with `--cap` and `--extend` alone
pub record IsAside (rows : List Row) (aside : Option Buffer) : Type 0 where
  pub named : name_of aside ≡ first_of (codes "aside") rows
  pub alone : is_some (first_of (codes "aside") rows) ≡ true → goes_without_base rows ≡ false

-- what was found asks for this job
pub record Asks (rows : List Row) (job : Job) : Type 0 where
  pub file : IsFile rows job.file.bytes
  pub cap : IsCap rows job.cap
  pub options : IsUse rows job.mode job.task
  pub aside : IsAside rows job.aside

-- two jobs ask for one thing; their texts may have other room
pub record IsSameJob (one other : Job) : Type 0 where
  pub file : one.file.bytes ≡ other.file.bytes
  pub mode : one.mode ≡ other.mode
  pub cap : one.cap ≡ other.cap
  pub task : one.task ≡ other.task
  pub aside : name_of one.aside ≡ name_of other.aside

-- lines are answered over a store in this file, and nothing else is asked for
pub record IsServed (name : List ℕ) (job : Job) : Type 0 where
  pub file : job.file.bytes ≡ name
  pub mode : job.mode ≡ Write
  pub cap : job.cap ≡ most_cap
  pub task : job.task ≡ Serve
  pub alone : job.aside ≡ None
