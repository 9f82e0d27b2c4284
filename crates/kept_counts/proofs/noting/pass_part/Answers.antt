use Rattle.std.proofs.Common.{◌≡◌, List, length, Some, ap, sym, subst, ◌∙◌}
use Rattle.live.specs.Watching.{IsTurn, root_turn}
use Rattle.live_counts.specs.Filtering.{IsFiltered}
use Rattle.mk_value.specs.Data.{Datum}
use Rattle.mk_value.specs.Heading.{Attribute}
use Rattle.relations.specs.Refusals.{absent}
use Rattle.row_edits.specs.Events.{count_of}
use Rattle.row_edits.specs.Lines.{edit_at, row_at, rows_at_event, rows_between}
use Rattle.tables.specs.Tables.{StoredTable}
use Rattle.watches.proofs.Eventful.{edit_here, edit_made, same_shown}
use Rattle.kept_counts.specs.Keeping.{is_kept_by, single}
use Rattle.kept_counts.proofs.Marking.{is_one}
use Rattle.kept_counts.proofs.noting.pass_part.Goals as goal

pub pass-requires-clause-present : goal.pass-requires-clause-present
pass-requires-clause-present c = ap (λ (t : StoredTable). absent t.schema c.args.props.now) c.between-after.ensures.before ∙ c.requires.present

pub pass-requires-clause-due : goal.pass-requires-clause-due
pass-requires-clause-due c =
    let line = c.args.line.now in
    let before = line.before.now.rows in
    let after = line.after.now.rows in
    let law = c.args.law in
    let props = c.args.props.now in
    let event = c.in-Some.event in
    let kept = c.reserve.new.self.kept in
    let edit = edit_at line.edits.now c.args.edit in
    let rows = rows_at_event line.edits.now line.home c.args.edit 0 before after in
    let a = c.between-after.result in
    let f = c.between-after.ensures in
    let last : rows_between a.whole.now a.part a.home a.before.now.rows a.after.now.rows ≡ rows_at_event line.edits.now line.home c.args.edit c.count.result before after =
    same_shown a.whole.now _ a.part _ a.home line.home a.before.now.rows before a.after.now.rows after f.whole f.part f.home (ap (λ (t : StoredTable). t.rows) f.before) (ap (λ (t : StoredTable). t.rows) f.after) in
    let made = ap (λ n. rows_at_event line.edits.now line.home c.args.edit n before after) c.count.ensures ∙ edit_made line.edits.now line.home before after line.line c.args.edit c.requires.edit_in in
    let one : single edit ≡ Some event = sym c.single.ensures ∙ c.in-Some.is in
    let turn = (is_one edit event rows one (edit_here line.edits.now line.home before after line.line c.args.edit c.requires.edit_in)).turn (row_at after line.home) in
    let now : IsFiltered (is_kept_by line.before.now.schema law props) rows kept = subst (IsFiltered (is_kept_by line.before.now.schema law props) rows) (sym c.reserve.ensures.kept) c.requires.now in (
      rows,
      subst (λ (s : List Attribute). IsFiltered (is_kept_by s law props) rows kept) (sym (ap (λ (t : StoredTable). t.schema) f.before)) now,
      subst (IsTurn (root_turn event) rows) (sym (last ∙ made)) turn,
    )

pub returns : goal.returns
returns c = λ _.
    let line = c.args.line.now in
    let before = line.before.now.rows in
    let after = line.after.now.rows in
    let law = c.args.law in
    let props = c.args.props.now in
    let kept = c.pass.new.filter.kept in
    let a = c.between-after.result in
    let f = c.between-after.ensures in
    let last : rows_between a.whole.now a.part a.home a.before.now.rows a.after.now.rows ≡ rows_at_event line.edits.now line.home c.args.edit c.count.result before after =
    same_shown a.whole.now _ a.part _ a.home line.home a.before.now.rows before a.after.now.rows after f.whole f.part f.home (ap (λ (t : StoredTable). t.rows) f.before) (ap (λ (t : StoredTable). t.rows) f.after) in
    let all = last ∙ ap (λ n. rows_at_event line.edits.now line.home c.args.edit n before after) c.count.ensures in
    subst (λ (s : List Attribute). IsFiltered (is_kept_by s law props) (rows_at_event line.edits.now line.home c.args.edit (count_of (edit_at line.edits.now c.args.edit)) before after) kept) (ap (λ (t : StoredTable). t.schema) f.before)
    (subst (λ (rs : List (List Datum)). IsFiltered (is_kept_by a.before.now.schema law props) rs kept) all c.pass.ensures)
