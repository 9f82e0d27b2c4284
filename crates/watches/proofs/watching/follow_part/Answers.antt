use Rattle.std.proofs.Common.{◌≡◌, List, length, ap, sym, subst, ◌∙◌}
use Rattle.mk_value.specs.Data.{Datum}
use Rattle.row_edits.specs.Edits.{IsInRange, edited}
use Rattle.row_edits.specs.Lines.{edit_at, row_at, rows_at_event, rows_between}
use Rattle.watches.proofs.Eventful.{edit_here, edit_made, same_shown}
use Rattle.watches.proofs.watching.follow_part.Given.{Over}
use Rattle.watches.proofs.watching.follow_part.Goals as goal

-- the rows that are shown before the edit and after it
first : (g : Over) (c : goal.After-follow-arg-4-1 g) → rows_between c.between-before.result.whole.now c.between-before.result.part c.between-before.result.home (g.T.TableRead.rows c.between-before.result.before.now) (g.T.TableRead.rows c.between-before.result.after.now)
    ≡ rows_at_event c.args.line.now.edits.now c.args.line.now.home c.args.edit 0 (g.T.TableRead.rows c.args.line.now.before.now) (g.T.TableRead.rows c.args.line.now.after.now)
first g c =
    let line = c.args.line.now in
    let b = c.between-before.result in
    let e = c.between-before.ensures in
    same_shown b.whole.now _ b.part _ b.home line.home (g.T.TableRead.rows b.before.now) (g.T.TableRead.rows line.before.now) (g.T.TableRead.rows b.after.now) (g.T.TableRead.rows line.after.now) e.whole e.part e.home (ap g.T.TableRead.rows e.before) (ap g.T.TableRead.rows e.after)

last : (g : Over) (c : goal.After-follow-arg-4-1 g) → rows_between c.between-after.result.whole.now c.between-after.result.part c.between-after.result.home (g.T.TableRead.rows c.between-after.result.before.now) (g.T.TableRead.rows c.between-after.result.after.now)
    ≡ rows_at_event c.args.line.now.edits.now c.args.line.now.home c.args.edit c.count.result (g.T.TableRead.rows c.args.line.now.before.now) (g.T.TableRead.rows c.args.line.now.after.now)
last g c =
    let line = c.args.line.now in
    let b = c.between-after.result in
    let e = c.between-after.ensures in
    same_shown b.whole.now _ b.part _ b.home line.home (g.T.TableRead.rows b.before.now) (g.T.TableRead.rows line.before.now) (g.T.TableRead.rows b.after.now) (g.T.TableRead.rows line.after.now) e.whole e.part e.home (ap g.T.TableRead.rows e.before) (ap g.T.TableRead.rows e.after)

pub follow-requires-clause-range : goal.follow-requires-clause-range
follow-requires-clause-range g c =
    let line = c.args.line.now in
    subst (λ (rows : List (List Datum)). IsInRange (edit_at line.edits.now c.args.edit) (length rows)) (sym (first g c)) (edit_here line.edits.now line.home (g.T.TableRead.rows line.before.now) (g.T.TableRead.rows line.after.now) line.line c.args.edit c.requires.edit_in)

pub follow-requires-clause-made : goal.follow-requires-clause-made
follow-requires-clause-made g c =
    let line = c.args.line.now in
    let before = g.T.TableRead.rows line.before.now in
    let after = g.T.TableRead.rows line.after.now in
    let row : List Datum = row_at after line.home in (
      row,
      last g c ∙ ap (λ n. rows_at_event line.edits.now line.home c.args.edit n before after) c.count.ensures
          ∙ edit_made line.edits.now line.home before after line.line c.args.edit c.requires.edit_in
          ∙ ap (edited row (edit_at line.edits.now c.args.edit)) (sym (first g c)),
    )
