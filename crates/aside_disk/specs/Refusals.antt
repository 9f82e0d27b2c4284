-- Why an image is no aside file, and the place that says so: the first of four tests that refuses decides.
use Rattle.std.specs.Prelude.{◌≡◌, ◌≢◌, ℕ, ◌<◌, ◌≤◌, ◌⊎◌, List, Option}
use Rattle.host_io.specs.Ranges.{bytes_in}
use Rattle.commit_marks.specs.declared.mark.Mark.{Mark}
use Rattle.commit_marks.specs.declared.error.MarkError.TheVariants.{NotAStore, NoOpenMark, BadMark}
use Rattle.commit_marks.specs.Marks.{AreMarks, IsMarkRefusal, slot_place}
use Rattle.aside_disk.specs.declared.error.AsideError.{AsideError}
use Rattle.aside_disk.specs.declared.error.AsideError.TheVariants.{At, OtherBase, Failed}
use Rattle.aside_disk.specs.declared.error.BaseRecord.{BaseRecord}
use Rattle.aside_disk.specs.Records.{Entry, Fit, IsRecordAt, Spells, grown}
use Rattle.aside_disk.specs.Logical.{IsAsideOf, IsBased, IsLogMark, records_range}

-- 1. It has no marks. The place is 0 where it has no header, 64 where no mark is open, and that of the slot that is wrong.
abbrev pub HasNoMarks : List ℕ → ℕ → Type 0
HasNoMarks image place =
    (IsMarkRefusal image NotAStore × (place ≡ 0)) ⊎ ((IsMarkRefusal image NoOpenMark × (place ≡ 64)) ⊎ IsMarkRefusal image (BadMark place))

-- 2. Its chosen mark is none of a log: the place of its slot.
pub record HasNoLogMark (image : List ℕ) (place : ℕ) : Type 0 where
  pub slot : ℕ
  pub chosen : Mark
  pub other : Option Mark
  pub marks : AreMarks image slot chosen other
  pub breaks : ¬ IsLogMark chosen
  pub place_is : place ≡ slot_place slot

-- it has the marks of a log
pub record AreLogMarks (image : List ℕ) (slot : ℕ) (chosen : Mark) (other : Option Mark) : Type 0 where
  pub marks : AreMarks image slot chosen other
  pub rules : IsLogMark chosen

-- 3. Its log does not begin with the record of a base: where that should stand.
pub record HasNoBase (image : List ℕ) (place : ℕ) : Type 0 where
  pub slot : ℕ
  pub chosen : Mark
  pub other : Option Mark
  pub marks : AreLogMarks image slot chosen other
  pub breaks : (kept : BaseRecord) → ¬ IsBased kept image
  pub place_is : place ≡ 192

-- 4. The records that its log begins with stand up to this place, before the end of the log, and here stands none.
pub record HasNoRecord (image : List ℕ) (place : ℕ) : Type 0 where
  pub slot : ℕ
  pub chosen : Mark
  pub other : Option Mark
  pub marks : AreLogMarks image slot chosen other
  pub kept : BaseRecord
  pub based : IsBased kept image
  pub before : List Entry
  pub behind : 256 ≤ place
  pub early : place < chosen.end
  pub spells : Spells before (bytes_in image (records_range place))
  pub fit : Fit kept.length before
  pub breaks : (entry : Entry) → ¬ IsRecordAt image chosen.end place (grown kept.length before) entry

abbrev pub IsNoAside : List ℕ → ℕ → Type 0
IsNoAside image place = HasNoMarks image place ⊎ (HasNoLogMark image place ⊎ (HasNoBase image place ⊎ HasNoRecord image place))

-- The cause of each refusal. No two of them are met together, and none where the image is an aside file of the given base.
abbrev pub IsAsideRefusal : List ℕ → BaseRecord → AsideError → Type 0
IsAsideRefusal image given (At place) = IsNoAside image place
IsAsideRefusal image given (OtherBase kept other) = IsAsideOf kept image × (other ≡ given) × (kept ≢ given)
IsAsideRefusal image given Failed = Unit {0}
