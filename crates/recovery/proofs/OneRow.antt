-- The worked commit of one view with one row, computed: its blocks, its directory, and its mark.
use Rattle.std.proofs.Common.{◌≡◌, refl, ℕ, pos, List, [], ◌∷◌, ◌++◌, ◌+◌, codes, replicate, map}
use Rattle.mk_value.specs.declared.span.Span.{Span}
use Rattle.mk_value.specs.Heading.{Domain}
use Rattle.mk_value.specs.Data.{Datum}
use Rattle.commit_marks.specs.Marks.{body_bytes}
use Rattle.dir_codec.specs.Dir.{spelled}
use Rattle.dir_codec.specs.Columns.{dir_columns}
use Rattle.tables.specs.Homes.{numbers, strings}
use Rattle.view_store.specs.Views.{NamedTable}
use Rattle.recovery.specs.Commits.{Commit, commit_blocks, directory, mark_of}

abbrev span : ℕ → ℕ → Span
span place len = record { place = place; len = len }

abbrev people : List NamedTable
people = record {
  name = codes "people";
  table = record {
    schema = record { name = codes "name"; domain = Domain.text } ∷ record { name = codes "age"; domain = Domain.integer } ∷ [];
    rows = (Datum.text (codes "Ann") ∷ Datum.integer (pos 31) ∷ []) ∷ [];
    homes = strings (span 208 1) (span 224 3) [] ∷ numbers (span 240 1) ∷ [];
  };
} ∷ []

abbrev first : Commit
first = record { number = 1; views = people; notes = []; dir = span 256 86; end = 352 }

dir : spelled (directory people []) ≡
    1 ∷ 0 ∷ 0 ∷ 0 ∷ 20 ∷ 0 ∷ 0 ∷ 0 ∷ (codes "people[name:S,age:I]" ++ 1 ∷ 0 ∷ 0 ∷ 0
    ∷ 2 ∷ 208 ∷ 0 ∷ 0 ∷ 0 ∷ 0 ∷ 0 ∷ 0 ∷ 0 ∷ 1 ∷ 0 ∷ 0 ∷ 0 ∷ 0 ∷ 0 ∷ 0 ∷ 0
    ∷ 224 ∷ 0 ∷ 0 ∷ 0 ∷ 0 ∷ 0 ∷ 0 ∷ 0 ∷ 3 ∷ 0 ∷ 0 ∷ 0 ∷ 0 ∷ 0 ∷ 0 ∷ 0 ∷ 0 ∷ 0 ∷ 0 ∷ 0
    ∷ 8 ∷ 240 ∷ 0 ∷ 0 ∷ 0 ∷ 0 ∷ 0 ∷ 0 ∷ 0 ∷ 1 ∷ 0 ∷ 0 ∷ 0 ∷ 0 ∷ 0 ∷ 0 ∷ 0 ∷ [])
dir = refl

blocks : map (λ b. b.bytes) (commit_blocks first) ≡ (3 ∷ []) ∷ codes "Ann" ∷ (31 ∷ []) ∷ spelled (directory people []) ∷ []
blocks = refl

spans : map (λ b. b.span) (commit_blocks first) ≡ span 208 1 ∷ span 224 3 ∷ span 240 1 ∷ span 256 86 ∷ []
spans = refl

starts : map (λ e. 256 + e.start) (dir_columns (directory people [])) ≡ 288 ∷ 325 ∷ []
starts = refl

mark : body_bytes (mark_of first) ≡
    1 ∷ (replicate 6 0 ++ ((1 ∷ 0 ∷ 0 ∷ 0 ∷ 0 ∷ 0 ∷ 0 ∷ 0 ∷ []) ++ ((0 ∷ 1 ∷ 0 ∷ 0 ∷ 0 ∷ 0 ∷ 0 ∷ 0 ∷ []) ++ ((86 ∷ 0 ∷ 0 ∷ 0 ∷ 0 ∷ 0 ∷ 0 ∷ 0 ∷ [])
    ++ ((96 ∷ 1 ∷ 0 ∷ 0 ∷ 0 ∷ 0 ∷ 0 ∷ 0 ∷ []) ++ replicate 24 0)))))
mark = refl
