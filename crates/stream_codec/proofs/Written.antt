-- What is written, and counted, part by part.
use Rattle.std.proofs.Common.{◌≡◌, [], subst, ℕ, ◌+◌, ◌≤◌, ◌<◌, List, ◌++◌, length, drop, take, get_or, map, sym, ◌∙◌, ap, arith}
use Rattle.std.specs.List.{flat_map}
use Rattle.std.proofs.lemmas.List.{append_assoc, drop_more, get_or-map, length-append, length-map, take_all}
use Rattle.byteorder.specs.Endian.{little_bytes}
use Rattle.mk_value.specs.Appending.{Appends, FellShort}
use Rattle.mk_value.specs.Buffer.{Buffer}
use Rattle.mk_value.specs.Data.{Datum}
use Rattle.mk_value.specs.Limits.{max_structure}
use Rattle.mk_value.proofs.Appending.{appends_then, short_next, short_then}
use Rattle.mk_value.proofs.Walks.{same_default}
use Rattle.struct_text.specs.Spelling.{spelling}
use Rattle.tables.specs.Tables.{StoredTable}
use Rattle.view_store.specs.Views.{AreViews, NamedTable, view_names}
use Rattle.stream_codec.specs.Stream.{counted, spelled_rows, spelled_value, spelled_view}
use Rattle.stream_codec.proofs.ValueFields.{spelled_rows_are}
use Rattle.stream_codec.proofs.WholeStream.{text_short}

-- ---- a loop over parts

-- what is written, with the parts to come, is the whole: so it is with one part more
module _ {X : Type 0} (part : X → List ℕ) where
  pub written_more : (xs : List X) (i : ℕ) (d : X) (whole old new : List ℕ) → i < length xs → old ++ flat_map part (drop i xs) ≡ whole → new ≡ old ++ part (get_or xs i d) → new ++ flat_map part (drop (i + 1) xs) ≡ whole
  written_more xs i d whole old new within so_far is =
      let x = get_or xs i d in
      let rest = flat_map part (drop (i + 1) xs) in
      ap (λ (l : List ℕ). l ++ rest) is ∙ append_assoc old (part x) rest ∙ ap (λ (l : List ℕ). old ++ l) (sym (ap (λ (l : List X). flat_map part l) (drop_more xs i d within))) ∙ so_far

  -- the same of their numbers
  pub counted_more : (xs : List X) (i : ℕ) (d : X) (whole old new : ℕ) → i < length xs → old + length (flat_map part (drop i xs)) ≡ whole → new ≡ old + length (part (get_or xs i d))
      → new + length (flat_map part (drop (i + 1) xs)) ≡ whole
  counted_more xs i d whole old new within so_far is =
      let step = ap (λ (l : List X). length (flat_map part l)) (drop_more xs i d within) in
      let joined = length-append (part (get_or xs i d)) (flat_map part (drop (i + 1) xs)) in
      omega (arith, step, joined, so_far, is)

-- ---- rows behind their number

-- all rows, one behind the other
abbrev rows_bytes : List (List Datum) → List ℕ
rows_bytes rows = flat_map (λ row. flat_map spelled_value row) rows

module _ (rows : List (List Datum)) (n i : ℕ) (old mid : Buffer) (count : n ≡ length rows) (begun : Appends old (little_bytes 4 n) mid) where
  rows_are : little_bytes 4 n ++ rows_bytes rows ≡ spelled_rows rows
  rows_are = ap (λ (n : ℕ). little_bytes 4 n ++ rows_bytes rows) count ∙ sym (spelled_rows_are rows)

  -- the number and all rows are written
  pub rows_written : (new : Buffer) → length rows ≤ i → Appends mid (flat_map (λ row. flat_map spelled_value row) (take i rows)) new → Appends old (spelled_rows rows) new
  rows_written new past so_far =
      subst (λ (piece : List ℕ). Appends old piece new) rows_are
      (appends_then old mid new (little_bytes 4 n) (rows_bytes rows) begun (subst (λ (l : List (List Datum)). Appends mid (rows_bytes l) new) (take_all i rows past) so_far))

  -- there was no room for a row
  pub rows_short : (next last : Buffer) → i < length rows → Appends mid (flat_map (λ row. flat_map spelled_value row) (take i rows)) next → FellShort next (flat_map spelled_value (get_or rows i [])) last
      → FellShort old (spelled_rows rows) last
  rows_short next last within so_far short =
      let row = get_or rows i [] in
      subst (λ (piece : List ℕ). FellShort old piece last) rows_are
      (short_then old mid last (little_bytes 4 n) (rows_bytes rows) begun
      (short_next (λ row. flat_map spelled_value row) rows i row mid next last within (same_default rows i [] row within) so_far short))

-- ---- views by their names and tables

-- a name and a table that were read at one place are those of the view there
module _ (views : List NamedTable) (names : List (List ℕ)) (tables : List StoredTable) (i : ℕ) (name : List ℕ) (table : StoredTable) (named : names ≡ view_names views) (tabled : tables ≡ map (λ v. v.table) views)
    (within : i < length names) (name_at : name ≡ get_or names i name) (table_at : table ≡ get_or tables i table) where
  abbrev pub view_read : NamedTable
  view_read = get_or views i (record { name = name; table = table })

  pub view_within : i < length views
  view_within = let long = ap length named in let all = length-map views (λ v. v.name) in omega (arith, within, long, all)

  name_is : name ≡ view_read.name
  name_is = name_at ∙ ap (λ (l : List (List ℕ)). get_or l i name) named ∙ get_or-map (λ v. v.name) views i (record { name = name; table = table }) name view_within

  table_is : table ≡ view_read.table
  table_is = table_at ∙ ap (λ (l : List StoredTable). get_or l i table) tabled ∙ get_or-map (λ v. v.table) views i (record { name = name; table = table }) table view_within

  pub view_spelled : spelled_view (record { name = name; table = table }) ≡ spelled_view view_read
  view_spelled =
      ap (λ (n : List ℕ). counted (spelling n table.schema) ++ spelled_rows table.rows) name_is
      ∙ ap (λ (t : StoredTable). counted (spelling view_read.name t.schema) ++ spelled_rows t.rows) table_is

  pub view_short : AreViews views → length (spelling name table.schema) ≤ max_structure
  view_short are =
      let short = text_short view_read (are.whole i (record { name = name; table = table }) view_within) in
      let n = ap (λ (n : List ℕ). length (spelling n table.schema)) name_is in
      let t = ap (λ (t : StoredTable). length (spelling view_read.name t.schema)) table_is in
      omega (arith, short, n, t)
