-- What a literal of the program means.
use Rattle.mk_value.specs.Data.{Datum, relation_of}
use Rattle.mk_value.specs.declared.literal.Literal.{Literal}
use Rattle.mk_value.specs.declared.literal.Literal.TheVariants.{Number, Text, Bytes, View}

-- the plain value, whose numbers are long
abbrev pub literal_of : Literal → Datum
literal_of (Number n) = Datum.long n
literal_of (Text content) = Datum.text content.bytes
literal_of (Bytes content) = Datum.bytes content.bytes
literal_of (View rows) = Datum.relation (relation_of rows)
