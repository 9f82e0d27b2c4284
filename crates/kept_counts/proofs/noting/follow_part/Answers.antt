use Rattle.std.proofs.Common.{◌≡◌, List, length, Some, ap, sym, subst, ◌∙◌}
use Rattle.live.specs.Putting.{IsPlace}
use Rattle.live.specs.Watching.{IsTurn, root_turn}
use Rattle.live_counts.specs.Counting.{AreCounts, AreDue}
use Rattle.mk_value.specs.Data.{Datum}
use Rattle.mk_value.specs.Heading.{Attribute}
use Rattle.row_edits.specs.Lines.{edit_at, row_at, rows_at_event, rows_between}
use Rattle.tables.specs.Tables.{StoredTable}
use Rattle.watches.proofs.Eventful.{edit_here, edit_made, same_shown}
use Rattle.kept_counts.specs.Keeping.{single}
use Rattle.kept_counts.proofs.Marking.{is_one}
use Rattle.kept_counts.proofs.noting.follow_part.Goals as goal

pub before-requires-clause-place : goal.before-requires-clause-place
before-requires-clause-place g c =
    let line = c.args.line.now in
    let before = line.before.now.rows in
    let after = line.after.now.rows in
    let b = c.between-before.result in
    let e = c.between-before.ensures in
    let rows = rows_at_event line.edits.now line.home c.args.edit 0 before after in
    let shown : rows_between b.whole.now b.part b.home b.before.now.rows b.after.now.rows ≡ rows =
    same_shown b.whole.now _ b.part _ b.home line.home b.before.now.rows before b.after.now.rows after e.whole e.part e.home (ap (λ (t : StoredTable). t.rows) e.before) (ap (λ (t : StoredTable). t.rows) e.after) in
    let one : single (edit_at line.edits.now c.args.edit) ≡ Some c.in-Some.event = sym c.single.ensures ∙ c.in-Some.is in
    subst (λ (rs : List (List Datum)). IsPlace c.in-Some.event (length rs)) (sym shown)
    ((is_one (edit_at line.edits.now c.args.edit) c.in-Some.event rows one (edit_here line.edits.now line.home before after line.line c.args.edit c.requires.edit_in)).place)

pub after-requires-clause-due : goal.after-requires-clause-due
after-requires-clause-due g c =
    let line = c.args.line.now in
    let before = line.before.now.rows in
    let after = line.after.now.rows in
    let event = c.in-Some.event in
    let counts = c.before-2.new.self in
    let edit = edit_at line.edits.now c.args.edit in
    let rows = rows_at_event line.edits.now line.home c.args.edit 0 before after in
    let b = c.between-before.result in
    let e = c.between-before.ensures in
    let a = c.between-after.result in
    let f = c.between-after.ensures in
    let first : rows_between b.whole.now b.part b.home b.before.now.rows b.after.now.rows ≡ rows =
    same_shown b.whole.now _ b.part _ b.home line.home b.before.now.rows before b.after.now.rows after e.whole e.part e.home (ap (λ (t : StoredTable). t.rows) e.before) (ap (λ (t : StoredTable). t.rows) e.after) in
    let last : rows_between a.whole.now a.part a.home a.before.now.rows a.after.now.rows ≡ rows_at_event line.edits.now line.home c.args.edit c.count.result before after =
    same_shown a.whole.now _ a.part _ a.home line.home a.before.now.rows before a.after.now.rows after f.whole f.part f.home (ap (λ (t : StoredTable). t.rows) f.before) (ap (λ (t : StoredTable). t.rows) f.after) in
    let made = ap (λ n. rows_at_event line.edits.now line.home c.args.edit n before after) c.count.ensures ∙ edit_made line.edits.now line.home before after line.line c.args.edit c.requires.edit_in in
    let one : single edit ≡ Some event = sym c.single.ensures ∙ c.in-Some.is in
    let turn = (is_one edit event rows one (edit_here line.edits.now line.home before after line.line c.args.edit c.requires.edit_in)).turn (row_at after line.home) in
    let now : AreCounts line.before.now.schema rows counts =
    subst (λ (s : List Attribute). AreCounts s rows counts) (ap (λ (t : StoredTable). t.schema) e.before) (subst (λ (rs : List (List Datum)). AreCounts b.before.now.schema rs counts) first c.before-2.ensures.now) in
    subst (λ (s : List Attribute). AreDue s counts event (rows_between a.whole.now a.part a.home a.before.now.rows a.after.now.rows)) (sym (ap (λ (t : StoredTable). t.schema) f.before))
    (record { before = rows; now = now; made = subst (IsTurn (root_turn event) rows) (sym (last ∙ made)) turn })
