use Rattle.std.proofs.Common.{◌++◌, List, take, drop, ap, sym, subst, ◌∙◌, add-one}
use Rattle.std.specs.List.{insert}
use Rattle.std.proofs.lemmas.Result.{on_ok_weaker}
use Rattle.mk_value.specs.Data.{Datum}
use Rattle.live.specs.Watching.{IsTurn, root_turn}
use Rattle.row_edits.specs.declared.event.Event.{Event}
use Rattle.live.specs.declared.turn.Turn.TheVariants.{Comes, Changes}
use Rattle.live.proofs.Edits.{inserted_turn, replaced_turn}
use Rattle.test_following.proofs.followed.edit.Goals as goal

pub returns-in-Insert : goal.returns-in-Insert
returns-in-Insert c =
    let rows = c.args.rows.now in
    let at = c.in-Insert.at in
    let is = c.in-Insert.is in
    on_ok_weaker c.insert.result (λ new.
    subst (λ (e : Event). IsTurn (root_turn e) rows c.insert.new.self) (sym is)
    (subst (λ (xs : List (List Datum)). IsTurn (Comes at) rows xs) (sym new) (inserted_turn rows at c.args.row.now (rw is at c.requires)))) c.insert.ensures.ok

pub returns-in-Change : goal.returns-in-Change
returns-in-Change c =
    let rows = c.args.rows.now in
    let at = c.in-Change.at in
    let is = c.in-Change.is in
    on_ok_weaker c.insert-in-Change.result (λ new.
    subst (λ (e : Event). IsTurn (root_turn e) rows c.insert-in-Change.new.self) (sym is)
    (subst (λ (xs : List (List Datum)). IsTurn (Changes at) rows xs) (sym (new ∙ ap (λ (xs : List (List Datum)). insert xs at c.args.row.now) (c.remove-in-Change.ensures ∙ ap (λ n. take at rows ++ drop n rows) (add-one at))))
    (replaced_turn rows at c.args.row.now (rw is at c.requires)))) c.insert-in-Change.ensures.ok
