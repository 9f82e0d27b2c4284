use Rattle.std.proofs.Common.{None, length, refl, sym, ◌∙◌}
use Rattle.std.proofs.lemmas.Result.{err_from_is_err_and}
use Rattle.derived.specs.Layers.{table_of}
use Rattle.derived.specs.Operators.{union}
use Rattle.relations.specs.Refusals.{other_schema}
use Rattle.derived.specs.Refusals.{union_due}
use Rattle.joins.proofs.Counting.{refused_due, result_due, alone}
use Rattle.joins.proofs.sets.union.Goals as goal

pub united-requires : goal.united-requires
united-requires g c = sym c.in_ok-check_same.ensures

pub returns-in_err-check_same-clause-due : goal.returns-in_err-check_same-clause-due
returns-in_err-check_same-clause-due g c =
    let a = table_of c.args.a in
    let b = table_of c.args.b in
    let p = err_from_is_err_and c.from_residual.result c.from_residual.ensures.1 in
    rw (p.1, p.2) (refused_due (other_schema a b) None (union_due a b) (length (union a b).rows) refl _ c.in_err-check_same.field-0.0 (c.in_err-check_same.ensures ∙ alone (other_schema a b)))

pub returns : goal.returns
returns g c =
    let a = table_of c.args.a in
    let b = table_of c.args.b in
    record {
      due = result_due (other_schema a b) None (union_due a b) (length (union a b).rows) refl c.united.result (c.in_ok-check_same.ensures ∙ alone (other_schema a b)) c.united.ensures.few c.united.ensures.err;
      ok = c.united.ensures.ok;
    }
