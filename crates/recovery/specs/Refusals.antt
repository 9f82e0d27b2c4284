-- Why an image stands for no commit, and the place that is named; and the commit before.
use Rattle.std.specs.Prelude.{◌≡◌, ℕ, ◌+◌, ◌⊎◌, List, length, Option, None, Some}
use Rattle.mk_value.specs.declared.span.Span.{Span}
use Rattle.free_space.specs.Extents.{AreApart}
use Rattle.free_space.specs.Overlaps.{AreFirstToMeet}
use Rattle.host_io.specs.Ranges.{bytes_in}
use Rattle.commit_marks.specs.declared.mark.Mark.{Mark}
use Rattle.commit_marks.specs.declared.error.MarkError.TheVariants as mark_error
use Rattle.commit_marks.specs.Marks.{Chooses, FitsFile, IsMarkRefusal, dir_span, other_slot, slot_place}
use Rattle.commit_writes.specs.Blocks.{span_range}
use Rattle.dir_codec.specs.Dir.{Dir, IsDir, spelled}
use Rattle.dir_codec.specs.Columns.{PlainEntry, dir_columns}
use Rattle.dir_codec.specs.Fields.{IsFirstFlaw}
use Rattle.recovery.specs.Commits.{Commit}
use Rattle.recovery.specs.Standing.{Stands, StandsFor}
use Rattle.recovery.specs.Reading.{IsFirstUnreadable, all_spans}

-- the mark fits the file, and this directory stands where it says
pub record HasDir (image : List ℕ) (m : Mark) (d : Dir) : Type 0 where
  pub fits : FitsFile (length image) m
  pub good : IsDir m.version m.number m.end d
  pub spells : bytes_in image (span_range (dir_span m)) ≡ spelled d

-- the bytes where a directory should stand are none: this is the offset of their first flaw
pub record HasFlaw (image : List ℕ) (m : Mark) (offset : ℕ) : Type 0 where
  pub fits : FitsFile (length image) m
  pub first : IsFirstFlaw m.version m.number m.end (bytes_in image (span_range (dir_span m))) offset

-- two extents of the directory meet, and this one is named
pub record HasOverlap (image : List ℕ) (m : Mark) (named : Span) : Type 0 where
  pub dir : Dir
  pub has : HasDir image m dir
  pub one : Span
  pub first : AreFirstToMeet (all_spans dir (dir_span m)) one named

-- the blocks of this column, the first such, are those of no values
pub record HasUnreadable (image : List ℕ) (m : Mark) (e : PlainEntry) : Type 0 where
  pub dir : Dir
  pub has : HasDir image m dir
  pub apart : AreApart (all_spans dir (dir_span m))
  pub first : IsFirstUnreadable image (dir_columns dir) e

-- Why the image stands for no commit under the mark of this slot, and the place that is named: the mark's own, a field of the
-- directory, an extent that meets another, or a column in the directory.
abbrev pub IsRefusedAt : List ℕ → ℕ → Mark → ℕ → Type 0
IsRefusedAt image slot m place =
    ((¬ FitsFile (length image) m) × (place ≡ slot_place slot))
    ⊎ (((offset : ℕ) × HasFlaw image m offset × (place ≡ m.place + offset))
    ⊎ (((named : Span) × HasOverlap image m named × (place ≡ named.place))
    ⊎ ((e : PlainEntry) × HasUnreadable image m e × (place ≡ m.place + e.start))))

-- a file that is no store has no place
abbrev pub IsNoStore : List ℕ → Type 0
IsNoStore image = IsMarkRefusal image mark_error.NotAStore

-- A store's file is damaged, and this place is named: that of a mark, the first slot's where no gate is open, or one under the
-- chosen mark.
abbrev pub IsDamagedAt : List ℕ → ℕ → Type 0
IsDamagedAt image place =
    IsMarkRefusal image (mark_error.BadMark place)
    ⊎ ((IsMarkRefusal image mark_error.NoOpenMark × (place ≡ slot_place 0))
    ⊎ ((slot : ℕ) × (m : Mark) × (other : Option Mark) × Chooses image slot m other × IsRefusedAt image slot m place))

-- What stands under the mark of the other slot: nothing where it has none, the commit before, or none any more.
pub data Older : Type 0 where
  no_older : Older
  whole : Commit → Older
  broken : ℕ → Older

abbrev pub IsOlder : List ℕ → ℕ → Option Mark → Older → Type 0
IsOlder image slot None older = older ≡ no_older
IsOlder image slot (Some m) no_older = ⊥
IsOlder image slot (Some m) (whole c) = Stands image m c
IsOlder image slot (Some m) (broken place) = IsRefusedAt image slot m place

-- the commit before, in an image that chooses a mark
abbrev pub IsBefore : List ℕ → Older → Type 0
IsBefore image older =
    (slot : ℕ) × (m : Mark) × (other : Option Mark) × Chooses image slot m other × IsOlder image (other_slot slot) other older

-- While a commit is made, and after one that failed: the image stands for the old commit, or for the next one with the old one before it.
abbrev pub MayStand : Commit → Commit → List ℕ → Type 0
MayStand kept next image = StandsFor image kept ⊎ (StandsFor image next × IsBefore image (whole kept))

-- what a file stands for: one commit, or the cause why there is none
pub data Found : Type 0 where
  commit : Commit → Found
  no_store : Found
  damaged : ℕ → Found

abbrev pub Finds : List ℕ → Found → Type 0
Finds image (commit c) = StandsFor image c
Finds image no_store = IsNoStore image
Finds image (damaged place) = IsDamagedAt image place
