-- The marks that a store's file has.
use Rattle.commit_marks.specs.declared.mark.Marks.{Marks}
use Rattle.recovery.specs.Commits.{mark_of}
use Rattle.storage.specs.Stored.{Stored}

abbrev pub marks_of : Stored → Marks
marks_of s = record { chosen = mark_of s.kept; slot = s.slot; other = s.other }
