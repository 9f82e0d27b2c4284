-- The marks of a log, and why a file has none.
use Rattle.commit_marks.specs.declared.error.MarkError.{MarkError}
use Rattle.commit_marks.specs.declared.error.MarkError.TheVariants.{NotAStore, NoOpenMark, BadMark, Failed}
use Rattle.aside_disk.specs.declared.error.AsideError.{AsideError}
use Rattle.aside_disk.specs.declared.error.AsideError.TheVariants.{At, OtherBase}
use Rattle.aside_disk.specs.declared.error.AsideError.TheVariants as aside

-- the refusal of a file that has no marks
abbrev pub refusal_of : MarkError → AsideError
refusal_of NotAStore = At 0
refusal_of NoOpenMark = At 64
refusal_of (BadMark place) = At place
refusal_of Failed = aside.Failed
