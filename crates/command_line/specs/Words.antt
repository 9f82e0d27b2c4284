-- What words ask for: `clap` reads them as the one command without a fault, and what it finds passes the tests.
use Rattle.std.specs.Prelude.{◌≡◌, ℕ, List, [], map, Some, None}
use Rattle.std.specs.Borrow.{Bor}
use Rattle.clap.specs.Faults.{fault_of}
use Rattle.clap.specs.Simple.{matches_of}
use Rattle.mk_value.specs.Buffer.{Buffer}
use Rattle.command_line.specs.Asking.{Asks}
use Rattle.command_line.specs.Command.{the_command}
use Rattle.command_line.specs.declared.job.Job.{Job}

-- what the words say
abbrev pub texts_of : List (Bor (List ℕ)) → List (List ℕ)
texts_of words = map (λ word. word.now) words

-- the words, of which the first is the program's own name, ask for this job
pub record AsksFor (words : List (List ℕ)) (job : Job) : Type 0 where
  pub right : fault_of the_command words ≡ []
  pub asks : Asks (matches_of the_command words) job

-- the words ask for a job
abbrev pub AsksForSome : List (List ℕ) → Type 0
AsksForSome words = (job : Job) × AsksFor words job

-- they ask for a job, and name no base
abbrev pub AsksForPlain : List (List ℕ) → Type 0
AsksForPlain words = (job : Job) × AsksFor words job × (job.aside ≡ None)

-- they ask for a job over this base
pub record AsksOver (words : List (List ℕ)) (job : Job) (base : Buffer) : Type 0 where
  pub asks : AsksFor words job
  pub over : job.aside ≡ Some base

-- they ask for a job over a base
abbrev pub AsksForAside : List (List ℕ) → Type 0
AsksForAside words = (job : Job) × (base : Buffer) × AsksOver words job base
