-- The distinct rows of one table under those that another has alone are their union.
use Rattle.std.proofs.Common.{◌≡◌, List, ◌++◌, None, false, length, ap, sym, ◌∙◌}
use Rattle.std.specs.List.{filter}
use Rattle.std.specs.Option.{option_or}
use Rattle.std.specs.Prelude.{nat_lt}
use Rattle.mk_value.specs.Data.{Datum}
use Rattle.mk_value.specs.Limits.{max_rows}
use Rattle.mk_value.specs.Tables.{Table}
use Rattle.relations.specs.declared.error.DerivedError.TheVariants.{TooManyRows}
use Rattle.relations.specs.Refusals.{other_schema, where_so}
use Rattle.derived.specs.Operators.{concat, distinct, union, unique, with_rows}
use Rattle.derived.specs.Refusals.{concat_due}
use Rattle.joins.specs.Sets.{is_kept}
use Rattle.joins.proofs.Rows.{distinct_append, new_among_distinct}

module _ (a b first second : Table) (one : first ≡ unique a) (two : second ≡ with_rows b (filter (is_kept false a.rows) (distinct b.rows))) where
  rows : distinct a.rows ++ filter (is_kept false a.rows) (distinct b.rows) ≡ distinct (a.rows ++ b.rows)
  rows = sym (distinct_append a.rows b.rows ∙ ap (λ (rs : List (List Datum)). distinct a.rows ++ rs) (new_among_distinct a.rows (distinct b.rows)))

  abbrev new : Table
  new = with_rows b (filter (is_kept false a.rows) (distinct b.rows))

  pub parts_united : concat first second ≡ union a b
  parts_united = ap (λ (x : Table). concat x second) one ∙ ap (concat (unique a)) two ∙ ap (with_rows a) rows

  pub parts_due : other_schema a b ≡ None → concat_due first second ≡ option_or (where_so (nat_lt max_rows (length (union a b).rows)) TooManyRows) None
  parts_due same =
      ap (λ (x : Table). concat_due x second) one ∙ ap (concat_due (unique a)) two
      ∙ ap (λ (rs : List (List Datum)). option_or (other_schema a b) (option_or (where_so (nat_lt max_rows (length rs)) TooManyRows) None)) rows
      ∙ ap (λ o. option_or o (option_or (where_so (nat_lt max_rows (length (union a b).rows)) TooManyRows) None)) same
