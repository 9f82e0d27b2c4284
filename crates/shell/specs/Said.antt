-- Lines that the program says by itself, and how they are said.
use Rattle.std.specs.Prelude.{◌≡◌, ℕ, ◌≤◌, List, [], ◌∷◌, ◌++◌, codes, decimal, ◌⊎◌}
use Rattle.host_io.specs.Outside.{Goes, Outside}
use Rattle.host_io.specs.Calls.{Rose}
use Rattle.lines.specs.Lines.{newline}
use Rattle.lines.specs.Spoken.{IsSaying}
use Rattle.storage.specs.declared.space.Report.{Report}
use Rattle.aside_disk.specs.declared.error.BaseRecord.{BaseRecord}
use Rattle.shell.specs.declared.fault.FileFault.{FileFault}
use Rattle.shell.specs.declared.fault.FileFault.TheVariants.{Empty, NotEmpty, NotAStore, Damaged, BadStream, Full, BadBase, NoAside, OtherBase}

abbrev pub usage_line : List ℕ
usage_line = codes "usage mkshell [--cap N] [--extend] [--read] [--check] [--sample X --count N] [--save] [--load] [--aside BASE] FILE" ++ newline ∷ []

-- numbers, each behind a space
abbrev pub spaced : List ℕ → List ℕ
spaced [] = []
spaced (number ∷ numbers) = codes " " ++ (decimal number ++ spaced numbers)

-- a store that would end past its cap
abbrev pub full_line : ℕ → ℕ → List ℕ
full_line end cap = codes "refused full" ++ (spaced (end ∷ cap ∷ []) ++ newline ∷ [])

-- an aside file of another base: what it keeps of that one, and what was given
abbrev pub other_base_line : BaseRecord → BaseRecord → List ℕ
other_base_line kept given = codes "refused otherbase" ++ (spaced (kept.length ∷ kept.number ∷ given.length ∷ given.number ∷ []) ++ newline ∷ [])

-- why a file is not served
abbrev pub fault_line : FileFault → List ℕ
fault_line Empty = codes "refused empty" ++ newline ∷ []
fault_line NotEmpty = codes "refused notempty" ++ newline ∷ []
fault_line NotAStore = codes "refused notastore" ++ newline ∷ []
fault_line (Damaged place) = codes "refused damaged " ++ (decimal place ++ newline ∷ [])
fault_line (BadStream place) = codes "refused badstream " ++ (decimal place ++ newline ∷ [])
fault_line (Full end cap) = full_line end cap
fault_line BadBase = codes "refused badbase" ++ newline ∷ []
fault_line (NoAside place) = codes "refused aside " ++ (decimal place ++ newline ∷ [])
fault_line (OtherBase kept given) = other_base_line kept given

-- the greeting names the number of the commit that was opened
abbrev pub greeting_line : ℕ → List ℕ
greeting_line number = codes "ok mkshell " ++ (decimal number ++ newline ∷ [])

-- what a file was found to have: the number of its commit, its end, the bytes in use, its views and its blocks
abbrev pub check_line : Report → List ℕ
check_line r = codes "ok check" ++ (spaced (r.space.number ∷ r.space.end ∷ r.space.used ∷ r.views ∷ r.blocks ∷ []) ++ newline ∷ [])

-- a sample whose lines were all answered: its edits, the rows of its view, and the number of the last commit
abbrev pub sample_line : ℕ → ℕ → ℕ → List ℕ
sample_line edits size number = codes "ok sample" ++ (spaced (edits ∷ size ∷ number ∷ []) ++ newline ∷ [])

-- a store that was made of a stream: its views, and the number of its commit
abbrev pub load_line : ℕ → ℕ → List ℕ
load_line views number = codes "ok load" ++ (spaced (views ∷ number ∷ []) ++ newline ∷ [])

-- This front of a line was said and nothing else. At each moment that came a front of the line stood behind what had been said before, and
-- the disk was as it is. Nothing was taken, and no call failed but one that says.
pub record Speaks (line front : List ℕ) (old new : Outside) : Type 0 where
  pub prefix : (rest : List ℕ) × (line ≡ front ++ rest)
  pub spoke : new.now.said ≡ old.now.said ++ front
  pub disk : new.now.disk ≡ old.now.disk
  pub input : new.input ≡ old.input
  pub moments : Goes (IsSaying line old.now) old new
  pub disk_faults : new.disk_faults ≡ old.disk_faults
  pub take_faults : new.take_faults ≡ old.take_faults
  pub say_faults : old.say_faults ≤ new.say_faults

-- no moment came: nothing was said, taken or written, and no call failed but one that reads the disk
pub record IsSilent (old new : Outside) : Type 0 where
  pub now : new.now ≡ old.now
  pub past : new.past ≡ old.past
  pub input : new.input ≡ old.input
  pub disk_faults : old.disk_faults ≤ new.disk_faults
  pub take_faults : new.take_faults ≡ old.take_faults
  pub say_faults : new.say_faults ≡ old.say_faults

-- The disk was read at most, and then the line was said whole, or a front of it where the output failed.
pub record SaysOnly (line : List ℕ) (old new : Outside) : Type 0 where
  pub looked : Outside
  pub looks : IsSilent old looked
  pub said : List ℕ
  pub part : Speaks line said looked new
  pub whole : (said ≡ line) ⊎ Rose old.say_faults new.say_faults
