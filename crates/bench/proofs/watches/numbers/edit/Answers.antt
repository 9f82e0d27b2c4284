use Rattle.std.proofs.Common.{◌++◌, List, take, drop, ap, sym, subst, ◌∙◌, add-one}
use Rattle.std.specs.List.{insert}
use Rattle.std.proofs.lemmas.Result.{on_ok_weaker}
use Rattle.mk_value.specs.Data.{Datum}
use Rattle.tables.specs.Tables.{StoredTable}
use Rattle.live.specs.Watching.{IsTurn, root_turn}
use Rattle.row_edits.specs.declared.event.Event.{Event}
use Rattle.live.specs.declared.turn.Turn.TheVariants.{Comes, Changes}
use Rattle.live.proofs.Edits.{inserted_turn, replaced_turn}
use Rattle.bench.proofs.watches.numbers.edit.Goals as goal

pub returns-in-Insert-clause-rows : goal.returns-in-Insert-clause-rows
returns-in-Insert-clause-rows c =
    let rows = c.args.table.now.rows in
    let at = c.in-Insert.at in
    let is = c.in-Insert.is in
    on_ok_weaker c.insert.result (λ new.
    subst (λ (e : Event). IsTurn (root_turn e) rows c.insert.new.table.rows) (sym is)
    (subst (λ (xs : List (List Datum)). IsTurn (Comes at) rows xs) (sym new) (inserted_turn rows at c.args.row.now (rw is at c.requires)))) c.insert.ensures.rows

pub returns-in_ok-remove_rows-in-Change-clause-rows : goal.returns-in_ok-remove_rows-in-Change-clause-rows
returns-in_ok-remove_rows-in-Change-clause-rows c =
    let rows = c.args.table.now.rows in
    let at = c.in-Change.at in
    let is = c.in-Change.is in
    let gone = ap (λ (t : StoredTable). t.rows) c.in_ok-remove_rows-in-Change.ensures.ok ∙ ap (λ n. take at rows ++ drop n rows) (add-one at) in
    on_ok_weaker c.insert-in-Change.result (λ new.
    subst (λ (e : Event). IsTurn (root_turn e) rows c.insert-in-Change.new.table.rows) (sym is)
    (subst (λ (xs : List (List Datum)). IsTurn (Changes at) rows xs) (sym (new ∙ ap (λ (xs : List (List Datum)). insert xs at c.args.row.now) gone))
    (replaced_turn rows at c.args.row.now (rw is at c.requires)))) c.insert-in-Change.ensures.rows
