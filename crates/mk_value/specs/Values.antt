-- What a value of the program means.
use Rattle.mk_value.specs.Data.{Datum, relation_of}
use Rattle.mk_value.specs.declared.value.Value.{Value}
use Rattle.mk_value.specs.declared.value.Value.TheVariants.{I, L, S, B, V}

-- the plain value
abbrev pub datum_of : Value → Datum
datum_of (I n) = Datum.integer n
datum_of (L n) = Datum.long n
datum_of (S content) = Datum.text content.bytes
datum_of (B content) = Datum.bytes content.bytes
datum_of (V rows) = Datum.relation (relation_of rows)
