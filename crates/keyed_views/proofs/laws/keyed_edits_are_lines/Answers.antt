use Rattle.std.proofs.Common.{length, refl}
use Rattle.row_edits.specs.Edits.{edited_by}
use Rattle.keyed_views.specs.Keyed.{edits_of, home_of}
use Rattle.keyed_views.proofs.Homing.{keyed_home, keyed_range}
use Rattle.keyed_views.proofs.laws.keyed_edits_are_lines.Goals as goal

pub returns : goal.returns
returns c = λ e row rows few h.
    c.lines_are_edits.ensures (edits_of e) (home_of e) row rows (edited_by row (edits_of e) rows) (keyed_range e (length rows) few h) refl (keyed_home e row rows h)
