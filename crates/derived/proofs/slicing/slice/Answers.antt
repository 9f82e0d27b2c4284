use Rattle.std.proofs.Common.{List, length, min, cond, Some, None, ap, ◌∙◌, arith}
use Rattle.std.specs.Int.{w64, cast_unsigned}
use Rattle.std.specs.Prelude.{unsigned_abs}
use Rattle.std.proofs.lemmas.Int.{to_z-of_z}
use Rattle.mk_value.specs.Data.{Datum}
use Rattle.relations.specs.declared.error.DerivedError.TheVariants.{ZeroStep}
use Rattle.relations.specs.Positions.{numbers}
use Rattle.derived.specs.Operators.{every, is_backwards, turned_if}
use Rattle.derived.specs.Refusals.{is_zero, slice_due}
use Rattle.relations.specs.Rows.{rows_at}
use Rattle.derived.proofs.Steps.{not_zero, slice_rows, slice_in, slice_few}
use Rattle.relations.proofs.Faults.{done_due}
use Rattle.derived.proofs.slicing.slice.Goals as goal

pub positions_at_steps-requires : goal.positions_at_steps-requires
positions_at_steps-requires g c =
    let size = c.size.ensures.value in
    let few = c.size.ensures.whole.few in
    let round = to_z-of_z w64 c.args.step c.ranges.step in
    record { few = omega arith; some = ap is_zero round ∙ not_zero c.args.step (λ z. c.if-step-eq0.false (ap (cast_unsigned w64) z)) }

pub gather-requires : goal.gather-requires
gather-requires g c =
    let round = to_z-of_z w64 c.args.step c.ranges.step in
    let e = c.from.ensures ∙ c.in_ok-positions.ensures
    ∙ ap (λ z. turned_if (is_backwards z) (every (unsigned_abs z) c.args.first (numbers (min c.args.limit c.size.result)))) round
    ∙ ap (λ n. turned_if (is_backwards c.args.step) (every (unsigned_abs c.args.step) c.args.first (numbers (min c.args.limit n)))) c.size.ensures.value in
    let few = c.size.ensures.whole.few in
    let short = slice_few c.args.first c.args.limit (unsigned_abs c.args.step) (length c.args.base.rows) (is_backwards c.args.step) c.from.result e in
    record { few = omega arith; in_range = slice_in c.args.first c.args.limit (unsigned_abs c.args.step) (length c.args.base.rows) (is_backwards c.args.step) c.from.result e }

pub returns : goal.returns
returns g c =
    let round = to_z-of_z w64 c.args.step c.ranges.step in
    let e = c.from.ensures ∙ c.in_ok-positions.ensures
    ∙ ap (λ z. turned_if (is_backwards z) (every (unsigned_abs z) c.args.first (numbers (min c.args.limit c.size.result)))) round
    ∙ ap (λ n. turned_if (is_backwards c.args.step) (every (unsigned_abs c.args.step) c.args.first (numbers (min c.args.limit n)))) c.size.ensures.value in
    record {
      due = done_due (slice_due c.args.step) c.in_ok-gather.field-0 (ap (λ b. cond b (Some ZeroStep) None) (not_zero c.args.step (λ z. c.if-step-eq0.false (ap (cast_unsigned w64) z))));
      ok = c.in_ok-gather.ensures ∙ ap (λ (rows : List (List Datum)). record { schema = c.args.base.schema; rows = rows })
          (ap (rows_at c.args.base.rows) e ∙ slice_rows c.args.base.rows c.args.first c.args.limit (unsigned_abs c.args.step) (is_backwards c.args.step));
    }
