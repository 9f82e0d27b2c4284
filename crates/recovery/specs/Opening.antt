-- What opening a file gives, and why it does not.
use Rattle.std.specs.Prelude.{◌≡◌, ℕ, ◌+◌, ◌-◌, ◌^◌, min, List, map, Option, Some, None}
use Rattle.mk_value.specs.declared.span.Span.{Span}
use Rattle.free_space.specs.Overlaps.{AreFirstToMeet}
use Rattle.commit_marks.specs.declared.error.MarkError.{MarkError}
use Rattle.commit_marks.specs.declared.error.MarkError.TheVariants as mark_error
use Rattle.commit_marks.specs.declared.mark.Mark.{Mark}
use Rattle.commit_marks.specs.Marks.{dir_span, slot_place}
use Rattle.dir_codec.specs.Columns.{dir_columns}
use Rattle.dir_codec.specs.Dir.{Dir}
use Rattle.dir_codec.specs.Values.{note_of}
use Rattle.recovery.specs.Found.{AreViewsFormed, IsUnreadableAt}
use Rattle.recovery.specs.Keeping.{commit_in}
use Rattle.recovery.specs.Refusals.{IsDamagedAt, IsNoStore, IsOlder, IsRefusedAt, Older, broken, no_older, whole}
use Rattle.recovery.specs.declared.directory.DirectoryError.{DirectoryError}
use Rattle.recovery.specs.declared.directory.DirectoryError.TheVariants as directory_error
use Rattle.recovery.specs.declared.error.ColumnsError.{ColumnsError}
use Rattle.recovery.specs.declared.error.ColumnsError.TheVariants as columns_error
use Rattle.recovery.specs.declared.kept.Kept.{Kept}
use Rattle.recovery.specs.declared.error.OpenError.{OpenError}
use Rattle.recovery.specs.declared.error.OpenError.TheVariants.{NotAStore, Damaged, Failed, Memory}

-- the cause of each refusal, that of a file
abbrev pub NamesCause : List ℕ → OpenError → Type 0
NamesCause image NotAStore = IsNoStore image
NamesCause image (Damaged place) = IsDamagedAt image place
NamesCause image _ = Unit {0}

-- that of the commit under the mark of a slot
abbrev pub NamesPlace : List ℕ → ℕ → Mark → OpenError → Type 0
NamesPlace image slot m NotAStore = ⊥
NamesPlace image slot m (Damaged place) = IsRefusedAt image slot m place
NamesPlace image slot m _ = Unit {0}

-- that of the commit before
abbrev pub NamesBroken : List ℕ → ℕ → Option Mark → OpenError → Type 0
NamesBroken image slot other NotAStore = ⊥
NamesBroken image slot other (Damaged place) = IsOlder image slot other (broken place)
NamesBroken image slot other _ = Unit {0}

-- the commit before, where there is one
abbrev pub older_in : Option Kept → Older
older_in None = no_older
older_in (Some kept) = whole (commit_in kept)

-- an offset of the directory is a place of the file; a sum past the greatest place stands at it
abbrev pub place_in : ℕ → ℕ → ℕ
place_in place offset = min (place + offset) (2 ^ 64 - 1)

abbrev pub cause_of_directory : ℕ → DirectoryError → OpenError
cause_of_directory place (directory_error.At offset) = Damaged (place_in place offset)
cause_of_directory place directory_error.Failed = Failed
cause_of_directory place directory_error.Memory = Memory

abbrev pub cause_of_columns : ℕ → ColumnsError → OpenError
cause_of_columns place (columns_error.At offset) = Damaged (place_in place offset)
cause_of_columns place columns_error.Failed = Failed
cause_of_columns place columns_error.Memory = Memory

-- a file none of whose marks is open is damaged at the first
abbrev pub cause_of_marks : MarkError → OpenError
cause_of_marks mark_error.NotAStore = NotAStore
cause_of_marks mark_error.NoOpenMark = Damaged (slot_place 0)
cause_of_marks (mark_error.BadMark place) = Damaged place
cause_of_marks mark_error.Failed = Failed

-- the place of the later of the first two of these spans that meet
abbrev pub NamesMeeting : List Span → OpenError → Type 0
NamesMeeting spans (Damaged place) = (named : Span) × (one : Span) × AreFirstToMeet spans one named × (place ≡ named.place)
NamesMeeting spans Memory = Unit {0}
NamesMeeting spans _ = ⊥

-- the place of the first unreadable column of a directory
abbrev pub NamesColumn : List ℕ → Mark → Dir → OpenError → Type 0
NamesColumn image m d NotAStore = ⊥
NamesColumn image m d (Damaged place) = (offset : ℕ) × IsUnreadableAt image (dir_columns d) offset × (place ≡ place_in m.place offset)
NamesColumn image m d _ = Unit {0}

-- what is kept of the directory under a mark
pub record IsKeptOf (m : Mark) (d : Dir) (kept : Kept) : Type 0 where
  pub number : kept.number ≡ m.number
  pub notes : map note_of kept.notes ≡ d.notes
  pub dir : kept.dir ≡ dir_span m
  pub end : kept.end ≡ m.end
  pub formed : AreViewsFormed d.views kept.views
