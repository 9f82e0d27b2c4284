-- The worked directory of one view with one row, computed.
use Rattle.std.proofs.Common.{◌≡◌, refl, List, [], ◌∷◌, ◌++◌, ◌+◌, length, codes, map}
use Rattle.bit_pack.specs.declared.widths.Width.TheVariants.{W2, W8}
use Rattle.mk_value.specs.Heading.{Domain, Attribute}
use Rattle.dir_codec.specs.Dir.{Dir, Entry, Entries, no_entries, entry, spelled}
use Rattle.dir_codec.specs.Columns.{dir_columns}

abbrev schema : List Attribute
schema = record { name = codes "name"; domain = Domain.text } ∷ record { name = codes "age"; domain = Domain.integer } ∷ []

abbrev columns : Entries
columns = entry (Entry.strings W2 (record { place = 208; len = 1 }) (record { place = 224; len = 3 }) [])
    (entry (Entry.numbers W8 (record { place = 240; len = 1 })) no_entries)

abbrev people : Dir
people = record { views = record { name = codes "people"; schema = schema; rows = 1; columns = columns } ∷ []; notes = [] }

dir : spelled people ≡
    1 ∷ 0 ∷ 0 ∷ 0 ∷ 20 ∷ 0 ∷ 0 ∷ 0 ∷ (codes "people[name:S,age:I]" ++ 1 ∷ 0 ∷ 0 ∷ 0
    ∷ 2 ∷ 208 ∷ 0 ∷ 0 ∷ 0 ∷ 0 ∷ 0 ∷ 0 ∷ 0 ∷ 1 ∷ 0 ∷ 0 ∷ 0 ∷ 0 ∷ 0 ∷ 0 ∷ 0
    ∷ 224 ∷ 0 ∷ 0 ∷ 0 ∷ 0 ∷ 0 ∷ 0 ∷ 0 ∷ 3 ∷ 0 ∷ 0 ∷ 0 ∷ 0 ∷ 0 ∷ 0 ∷ 0 ∷ 0 ∷ 0 ∷ 0 ∷ 0
    ∷ 8 ∷ 240 ∷ 0 ∷ 0 ∷ 0 ∷ 0 ∷ 0 ∷ 0 ∷ 0 ∷ 1 ∷ 0 ∷ 0 ∷ 0 ∷ 0 ∷ 0 ∷ 0 ∷ 0 ∷ [])
dir = refl

dir_len : length (spelled people) ≡ 86
dir_len = refl

-- where its columns begin, in a file that has it at 256
pub starts : map (λ e. 256 + e.start) (dir_columns people) ≡ 288 ∷ 325 ∷ []
starts = refl
