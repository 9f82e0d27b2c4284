-- The worked stream of one view with one row, computed.
use Rattle.std.proofs.Common.{◌≡◌, refl, List, [], ◌∷◌, ◌++◌, length, codes, pos, negsuc}
use Rattle.mk_value.specs.Data.{Datum, Relation, no_tuples, tuple, no_values, value}
use Rattle.mk_value.specs.Heading.{Domain, no_attributes, attribute, Attribute}
use Rattle.tables.specs.Tables.{table_without_homes}
use Rattle.view_store.specs.Views.{NamedTable}
use Rattle.stream_codec.specs.Stream.{spelled}

abbrev schema : List Attribute
schema =
    record { name = codes "name"; domain = Domain.text } ∷ record { name = codes "age"; domain = Domain.integer } ∷ record { name = codes "born"; domain = Domain.long }
    ∷ record { name = codes "photo"; domain = Domain.bytes } ∷ record { name = codes "phones"; domain = Domain.relation (attribute (codes "kind") Domain.text no_attributes) } ∷ []

abbrev phones : Relation
phones = tuple (value (Datum.text (codes "home")) no_values) no_tuples

abbrev row : List Datum
row = Datum.text (codes "Ann") ∷ Datum.integer (pos 31) ∷ Datum.long (negsuc 1) ∷ Datum.bytes (255 ∷ 0 ∷ []) ∷ Datum.relation phones ∷ []

abbrev people : NamedTable
people = record { name = codes "people"; table = table_without_homes schema (row ∷ []) }

stream : spelled (people ∷ []) ≡
    codes "MKST" ++ (1 ∷ 0 ∷ 0 ∷ 0 ∷ 1 ∷ 0 ∷ 0 ∷ 0
    ∷ 50 ∷ 0 ∷ 0 ∷ 0 ∷ (codes "people[name:S,age:I,born:L,photo:B,phones[kind:S]]" ++ (1 ∷ 0 ∷ 0 ∷ 0
    ∷ 3 ∷ 0 ∷ 0 ∷ 0 ∷ (codes "Ann" ++ (31 ∷ 0 ∷ 0 ∷ 0
    ∷ 254 ∷ 255 ∷ 255 ∷ 255 ∷ 255 ∷ 255 ∷ 255 ∷ 255
    ∷ 2 ∷ 0 ∷ 0 ∷ 0 ∷ 255 ∷ 0
    ∷ 1 ∷ 0 ∷ 0 ∷ 0 ∷ 4 ∷ 0 ∷ 0 ∷ 0 ∷ codes "home")))))
stream = refl

stream_len : length (spelled (people ∷ [])) ≡ 107
stream_len = refl

-- and that of no views
no_views : spelled [] ≡ codes "MKST" ++ (1 ∷ 0 ∷ 0 ∷ 0 ∷ 0 ∷ 0 ∷ 0 ∷ 0 ∷ [])
no_views = refl
