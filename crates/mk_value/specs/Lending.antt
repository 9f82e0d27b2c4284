-- Values of a table as they are lent.
use Rattle.std.specs.Prelude.{◌≡◌, ℤ, pos, length}
use Rattle.mk_value.specs.Data.{Datum, integer, long, text, bytes, relation, rows_of}
use Rattle.mk_value.specs.declared.table.Lent.{Lent}
use Rattle.mk_value.specs.declared.table.Lent.TheVariants.{I, L, S, B, V}

-- what is lent of a value: the number, the bytes, or how many rows there are
abbrev pub Lends : Lent → Datum → Type 0
Lends (I n) (integer z) = n ≡ z
Lends (L n) (long z) = n ≡ z
Lends (S lent) (text content) = lent.now ≡ content
Lends (B lent) (bytes content) = lent.now ≡ content
Lends (V count) (relation r) = count ≡ length (rows_of r)
Lends _ _ = ⊥

-- the number that is lent, or 0 where none is
abbrev pub number_lent : Lent → ℤ
number_lent (I n) = n
number_lent (L n) = n
number_lent _ = pos 0
