use Rattle.std.proofs.Common.{◌≡◌, List, [], subst, ◌∙◌}
use Rattle.std.specs.Prelude.{IfOk}
use Rattle.mk_value.specs.Data.{Datum}
use Rattle.relations.specs.Positions.{passing}
use Rattle.joins.specs.Sets.{is_kept}
use Rattle.joins.proofs.sets.kept_positions.Goals as goal

pub returns-clause-kept : goal.returns-clause-kept
returns-clause-kept g c =
    subst (λ (rows : List (List Datum)). IfOk c.positions_by.result (λ positions. positions ≡ passing (is_kept c.args.among rows) [] c.args.a.now.rows))
    (c.in_ok-index.ensures ∙ c.in_ok-rows.ensures.value) c.positions_by.ensures.kept
