-- Rows that other rows have or have not.
use Rattle.std.specs.Prelude.{Bool, true, false, not, List}
use Rattle.mk_value.specs.Data.{Datum}
use Rattle.relations.specs.Equality.{is_row_among}

-- a mark is as wanted
abbrev pub is_wanted : Bool → Bool → Bool
is_wanted true mark = mark
is_wanted false mark = not mark

-- whether a row is kept: where it is one of these, or where it is none of them
abbrev pub is_kept : Bool → List (List Datum) → List Datum → Bool
is_kept true rows row = is_row_among rows row
is_kept false rows row = not (is_row_among rows row)
