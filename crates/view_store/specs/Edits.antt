-- Edits of the program: what one leaves of the table to which its steps lead.
use Rattle.std.specs.Prelude.{ℕ, List, [], ◌∷◌}
use Rattle.mk_value.specs.declared.path.Step.{Step}
use Rattle.mk_value.specs.Data.{Datum}
use Rattle.mk_value.specs.Tables.{domain_at}
use Rattle.tables.specs.Homes.{empty_homes_in}
use Rattle.tables.specs.Tables.{StoredTable, place_of_property, inner_table, with_value, with_inner}
use Rattle.tables.specs.Rows.{completed, with_rows_inserted, with_rows_removed}

-- An edit of a list of rows: put a row, so many times, before the row at a place; give the property of a row another value;
-- remove so many rows from a place on.
pub data Edit : Type 0 where
  insert : ℕ → List Datum → ℕ → Edit
  set : ℕ → List ℕ → Datum → Edit
  remove : ℕ → ℕ → Edit

-- a table after an edit of its own rows
abbrev pub edited_here : Edit → StoredTable → StoredTable
edited_here (insert at row n) t = with_rows_inserted at (completed t.schema row) n t
edited_here (set i prop d) t =
    let k = place_of_property t.schema prop in with_value t i k d (empty_homes_in (domain_at t.schema k) d)
edited_here (remove at n) t = with_rows_removed at n t

-- a table after an edit of the rows to which the steps lead; all else in it is as before
abbrev pub edited : List Step → Edit → StoredTable → StoredTable
edited [] edit t = edited_here edit t
edited (s ∷ steps) edit t =
    let k = place_of_property t.schema s.prop in with_inner t s.row k (edited steps edit (inner_table t s.row k))

-- the table to which the steps lead
abbrev pub table_at : List Step → StoredTable → StoredTable
table_at [] t = t
table_at (s ∷ steps) t = table_at steps (inner_table t s.row (place_of_property t.schema s.prop))
