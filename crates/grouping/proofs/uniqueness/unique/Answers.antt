use Rattle.std.proofs.Common.{◌<◌, ℕ, All, List, length, ap, sym, subst, ◌∙◌, arith}
use Rattle.mk_value.specs.Data.{Datum}
use Rattle.relations.specs.Rows.{rows_at}
use Rattle.grouping.proofs.Positions.{firsts_few, firsts_in, rows_at_firsts}
use Rattle.grouping.proofs.uniqueness.unique.Goals as goal

pub gather-requires : goal.gather-requires
gather-requires g c =
    let firsts = c.in_ok-firsts.ensures in
    let few = firsts_few c.args.base.rows in
    let all = c.size-size.ensures.whole.few in
    let long = ap (λ (ns : List ℕ). length ns) firsts in
    record { few = omega arith; in_range = subst (All (λ i. i < length c.args.base.rows)) (sym firsts) (firsts_in c.args.base.rows) }

pub returns : goal.returns
returns g c =
    let firsts = c.in_ok-firsts.ensures in
    record {
      due = tt;
      ok = c.in_ok-gather.ensures ∙ ap (λ (rs : List (List Datum)). record { schema = c.args.base.schema; rows = rs }) (ap (rows_at c.args.base.rows) firsts ∙ rows_at_firsts c.args.base.rows);
    }
