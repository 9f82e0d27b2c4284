-- A base that is refused, and a run over a base in which nothing goes wrong.
use Rattle.std.proofs.Common.{◌≡◌, ◌≢◌, ℕ, ◌<◌, ◌≤◌, ◌^◌, ◌⊎◌, List, [], ◌∷◌, length, refl, sym, ap, ◌∙◌, subst, inl, inr, Result, Err, arith}
use Rattle.command_line.specs.declared.job.Task.TheVariants.{Serve}
use Rattle.host_io.specs.Calls.{Rose}
use Rattle.host_io.specs.Disk.{DiskState}
use Rattle.host_io.specs.Outside.{Outside}
use Rattle.aside_disk.specs.Logical.{IsAsideOf, Logical, record_of}
use Rattle.aside_disk.specs.Refusals.{IsNoAside}
use Rattle.aside_disk.proofs.Parsed.{logical_unique}
use Rattle.aside_disk.proofs.Refused.{aside_stands, based_once}
use Rattle.aside_disk.specs.declared.error.BaseRecord.{BaseRecord}
use Rattle.lines.specs.Lines.{max_budget}
use Rattle.recovery.proofs.Undamaged.{no_cause}
use Rattle.recovery.specs.Commits.{Commit}
use Rattle.recovery.specs.Opening.{NamesCause}
use Rattle.recovery.specs.Standing.{StandsFor}
use Rattle.recovery.specs.declared.error.OpenError.{OpenError}
use Rattle.recovery.specs.declared.error.OpenError.TheVariants as opening
use Rattle.storage.specs.declared.mode.Mode.{Mode}
use Rattle.viewers.specs.Meanings.{Meaning}
use Rattle.shell.proofs.Completing.{stands_well, within_budget}
use Rattle.shell.specs.declared.fault.FileFault.{FileFault}
use Rattle.shell.specs.declared.fault.FileFault.TheVariants.{Empty, NotEmpty, NotAStore, Damaged, BadStream, Full, BadBase, NoAside, OtherBase}
use Rattle.shell.specs.declared.status.Status.{Status}
use Rattle.shell.specs.declared.status.Status.TheVariants.{Done, Usage, Refused, TakeFault, SayFault, Memory, TooMuch, DiskFault}
use Rattle.aside_run.specs.Bases.{IsAsideFault, IsBadBase, IsBase, StandsFirst, cause_of_opening}
use Rattle.aside_run.specs.Complete.{GoesWellOver, IsGoodAside}
use Rattle.aside_run.specs.RanOver.{RanOver, RefusesAside, ServesOver}
use Rattle.aside_run.specs.Steps.{IsBaseCause, WearsOut}
use Rattle.aside_run.specs.declared.base.BaseError.{BaseError}
use Rattle.aside_run.specs.declared.base.BaseError.TheVariants as base_error

-- a base that stands for a commit has no cause to be refused
pub no_bad : (file : List ℕ) (c : Commit) (error : OpenError) → StandsFor file c → NamesCause file error → cause_of_opening error ≡ base_error.Bad → ⊥
no_bad file c error stands names is = elim (no_cause file c error stands names) [
  | inl failed ↦ let f : ◌≡◌ {A = BaseError} base_error.Failed base_error.Bad = sym (ap cause_of_opening failed) ∙ is in cc
  | inr memory ↦ let f : ◌≡◌ {A = BaseError} base_error.Memory base_error.Bad = sym (ap cause_of_opening memory) ∙ is in cc
]

pub base_cause : {T : Type 0} (base : List ℕ) (error : BaseError) → (◌≡◌ {A = Result T BaseError} (Err error) (Err base_error.Bad) → IsBadBase base) → IsBaseCause base error
base_cause base base_error.Bad bad = bad refl
base_cause base base_error.Failed bad = tt
base_cause base base_error.Memory bad = tt

-- a base has bytes
pub base_some : (base : List ℕ) (number : ℕ) → IsBase base number → base ≢ []
base_some base number is none = let long = is.stands.3.headed.long in let short = ap length none in omega (arith, long, short)

abbrev pub IsOneCommit : Type 0
IsOneCommit = (image : List ℕ) (one other : Commit) → StandsFor image one → StandsFor image other → one ≡ other

one_number : IsOneCommit → (base : List ℕ) (one other : ℕ) → IsBase base one → IsBase base other → one ≡ other
one_number law base one other is is_too = is.number_is ∙ ap (λ (c : Commit). c.number) (law base is.commit is_too.commit is.stands is_too.stands) ∙ sym is_too.number_is

good_aside : (base : List ℕ) (number : ℕ) (image : List ℕ) → IsGoodAside base number image → IsAsideOf (record_of base number) image
good_aside base number image good = let l = good.logical in record { slot = l.slot; chosen = l.chosen; other = l.other; entries = l.entries; has = l.has }

no_fault : (base : List ℕ) (number : ℕ) (image : List ℕ) (fault : FileFault) → IsGoodAside base number image → IsAsideFault image (record_of base number) fault → ⊥
no_fault base number image (NoAside place) good cause = aside_stands image (record_of base number) place (good_aside base number image good) cause
no_fault base number image (OtherBase kept given) good (is, same, other) = other (based_once image kept (record_of base number) is.has.based (good_aside base number image good).has.based)
no_fault base number image Empty good cause = cause
no_fault base number image NotEmpty good cause = cause
no_fault base number image NotAStore good cause = cause
no_fault base number image (Damaged place) good cause = cause
no_fault base number image (BadStream place) good cause = cause
no_fault base number image (Full end limit) good cause = cause
no_fault base number image BadBase good cause = cause

first_stands : (base : List ℕ) (number : ℕ) (image file : List ℕ) → IsBase base number → (image ≡ []) ⊎ IsGoodAside base number image → StandsFirst base number image file → (c : Commit) × StandsFor file c
first_stands base number [] file is opens first = (is.commit, subst (λ (f : List ℕ). StandsFor f is.commit) (sym first) is.stands)
first_stands base number (byte ∷ bytes) file is (inl none) first = absurd (cc)
first_stands base number (byte ∷ bytes) file is (inr good) first =
    (good.commit, subst (λ (f : List ℕ). StandsFor f good.commit) (logical_unique base number (byte ∷ bytes) good.file file good.logical first) good.stands)

module _ (law : IsOneCommit) (viewers : List Meaning) (words : List (List ℕ)) (base : List ℕ) (faults faults_after : ℕ) (old new : Outside) (well : GoesWellOver words base faults faults_after old new) (mode : Mode) (cap : ℕ) where
  opens_at : (number : ℕ) → IsBase base number → (old.now.disk.seen ≡ []) ⊎ IsGoodAside base number old.now.disk.seen
  opens_at number is = subst (λ (k : ℕ). (old.now.disk.seen ≡ []) ⊎ IsGoodAside base k old.now.disk.seen) (one_number law base well.number number well.is is) well.opens

  not_refused : RanOver viewers mode cap Refused base old new → ⊥
  not_refused (inl (bad, says)) = bad well.is.commit well.is.stands
  not_refused (inr (number, is, inl refused)) = elim (opens_at number is) [
    | inl none ↦ refused.some none
    | inr good ↦ no_fault base number old.now.disk.seen refused.fault good refused.cause
  ]
  not_refused (inr (number, is, inr serves)) =
      let stands = first_stands base number old.now.disk.seen serves.file is (opens_at number is) serves.stands in
      stands_well mode serves.begin.now.disk.seen stands.0 serves.ran.0
      (subst (λ (f : List ℕ). StandsFor f stands.0) (sym (ap (λ (d : DiskState). d.seen) serves.begins.disk)) stands.1) serves.ran.1

  not_too_much : RanOver viewers mode cap TooMuch base old new → ⊥
  not_too_much (inl none) = none
  not_too_much (inr (number, is, inl none)) = none
  not_too_much (inr (number, is, inr serves)) =
      within_budget viewers Serve mode cap serves.begin serves.end (let same = ap length serves.begins.input in let short = well.short in omega (arith, same, short)) serves.ran

  pub completes_over : (status : Status) → RanOver viewers mode cap status base old new → status ≢ Usage → (status ≡ TakeFault → Rose old.take_faults new.take_faults) → (status ≡ SayFault → Rose old.say_faults new.say_faults)
      → (tells : Type 0) → tells → (status ≡ DiskFault → Rose old.disk_faults new.disk_faults ⊎ (Rose faults faults_after ⊎ WearsOut tells old.disk_faults base new.now.disk.seen)) → (status ≡ Done) ⊎ (status ≡ Memory)
  completes_over Done ran right takes says tells t disk = inl refl
  completes_over Memory ran right takes says tells t disk = inr refl
  completes_over Usage ran right takes says tells t disk = absurd (right refl)
  completes_over Refused ran right takes says tells t disk = absurd (not_refused ran)
  completes_over TooMuch ran right takes says tells t disk = absurd (not_too_much ran)
  completes_over TakeFault ran right takes says tells t disk = absurd (well.takes (takes refl))
  completes_over SayFault ran right takes says tells t disk = absurd (well.says (says refl))
  completes_over DiskFault ran right takes says tells t disk = elim (disk refl) [
    | inl rose ↦ absurd (well.disk rose)
    | inr (inl rose) ↦ absurd (well.base_calls rose)
    | inr (inr worn) ↦ absurd (well.unworn (worn well.counted t))
  ]
