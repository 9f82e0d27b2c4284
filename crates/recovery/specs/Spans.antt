-- The spans of a directory, as a walk over its columns meets them.
use Rattle.std.specs.Prelude.{nat_lt, List, [], ◌∷◌, ◌++◌, map}
use Rattle.std.specs.List.{filter, flat_map}
use Rattle.mk_value.specs.declared.span.Span.{Span}
use Rattle.dir_codec.specs.declared.dir.Memo.{Memo}
use Rattle.dir_codec.specs.Dir.{Bodies, no_bodies, body, Dir, Entries, no_entries, entry, Entry}

abbrev pub memo_spans : List Memo → List Span
memo_spans memos = map (λ m. m.span) memos

-- of a column, of the columns of a table, and of the tables in a view column
abbrev mutual
  pub entry_spans : Entry → List Span
  entry_spans (Entry.numbers w block) = block ∷ []
  entry_spans (Entry.strings w sizes short memos) = sizes ∷ short ∷ memo_spans memos
  entry_spans (Entry.tables bodies) = bodies_spans bodies

  pub entries_spans : Entries → List Span
  entries_spans no_entries = []
  entries_spans (entry e rest) = entry_spans e ++ entries_spans rest

  pub bodies_spans : Bodies → List Span
  bodies_spans no_bodies = []
  bodies_spans (body rows columns rest) = entries_spans columns ++ bodies_spans rest

-- those that are not empty
abbrev pub some_spans : List Span → List Span
some_spans spans = filter (λ s. nat_lt 0 s.len) spans

abbrev pub dir_spans : Dir → List Span
dir_spans d = flat_map (λ v. entries_spans v.columns) d.views
