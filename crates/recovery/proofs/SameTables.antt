-- Tables with one directory, whose blocks stand in one image, are one.
use Rattle.std.proofs.Common.{◌≡◌, ℕ, zero, suc, ◌+◌, ◌<◌, List, [], ◌∷◌, length, get_or, map, drop, All, pos, refl, ap, sym, subst, ◌∙◌, arith, zero-add}
use Rattle.std.proofs.lemmas.List.{get_or_default, length-map, same_lists}
use Rattle.std.proofs.lemmas.List.Elements.{All-head, All-tail, All-weaker}
use Rattle.mk_value.specs.Heading.{Domain, Heading, no_attributes, attribute, Attribute, attributes_of, heading_of}
use Rattle.mk_value.specs.Data.{Datum, integer, long, text, bytes, relation, relation_of, IsOf, IsRowOf, AreRowsOf}
use Rattle.mk_value.specs.Tables.{IsPlainDomain}
use Rattle.mk_value.proofs.Converting.{relation_of-rows_of}
use Rattle.mk_value.proofs.Headings.{attributes_of-heading_of}
use Rattle.mk_value.proofs.Relations.{row_fits_length}
use Rattle.dir_codec.specs.Dir.{Bodies, no_bodies, body, Entries, no_entries, entry, Entry, ViewEntry}
use Rattle.tables.specs.Homes.{Home, no_home, numbers, strings, tables, PlainColumn, ColumnHomes, no_columns, column, column_homes, columns_of, RowHomes, no_rows, row, column_of, rows_in}
use Rattle.tables.specs.Tables.{StoredTable}
use Rattle.tables.specs.Shapes.{AreHomesOf, AreRowHomesOf, HasHomes, IsHomeOf}
use Rattle.tables.specs.Blocks.{plain_columns, plain_from, plain_in, plain_rows}
use Rattle.tables.proofs.Lists.{columns_of-column_homes}
use Rattle.tables.proofs.Values.{rows_inside}
use Rattle.view_store.specs.Views.{IsView, NamedTable}
use Rattle.recovery.specs.Commits.{bodies_of, entries_of, entry_of, view_entry}
use Rattle.recovery.proofs.Directories.{ColumnsFit, columns_fit, split_all}
use Rattle.recovery.proofs.SamePlain.{IsThere, same_plain}

-- the one plain column of a column of a plain domain
the_plain : (P : PlainColumn → Type 0) (h : Home) (e : Domain) (us : List Datum) → IsPlainDomain e → IsHomeOf h e us → All P (plain_in h e us) → P (record { domain = e; values = us; home = h })
the_plain P h (Domain.relation g) us kind s all = absurd kind
the_plain P (tables rows) Domain.integer us kind s all = absurd s
the_plain P (tables rows) Domain.long us kind s all = absurd s
the_plain P (tables rows) Domain.text us kind s all = absurd s
the_plain P (tables rows) Domain.bytes us kind s all = absurd s
the_plain P no_home Domain.integer us kind s all = All-head P _ [] all
the_plain P no_home Domain.long us kind s all = All-head P _ [] all
the_plain P no_home Domain.text us kind s all = All-head P _ [] all
the_plain P no_home Domain.bytes us kind s all = All-head P _ [] all
the_plain P (numbers block) Domain.integer us kind s all = All-head P _ [] all
the_plain P (numbers block) Domain.long us kind s all = All-head P _ [] all
the_plain P (numbers block) Domain.text us kind s all = absurd s
the_plain P (numbers block) Domain.bytes us kind s all = absurd s
the_plain P (strings a b c) Domain.integer us kind s all = absurd s
the_plain P (strings a b c) Domain.long us kind s all = absurd s
the_plain P (strings a b c) Domain.text us kind s all = All-head P _ [] all
the_plain P (strings a b c) Domain.bytes us kind s all = All-head P _ [] all

-- rows of one length are the same where all their columns are
same_row : (n : ℕ) (x y : List Datum) → length x ≡ n → length y ≡ n → ((m : ℕ) → m < n → get_or x m (integer (pos 0)) ≡ get_or y m (integer (pos 0))) → x ≡ y
same_row n x y p q each =
    same_lists x y (p ∙ sym q)
    (λ k d r. get_or_default x k d (integer (pos 0)) r ∙ each k (omega (arith, p, r)) ∙ get_or_default y k (integer (pos 0)) d (omega (arith, p, q, r)))

pub same_rows_of : (n : ℕ) (xs ys : List (List Datum)) → All (λ r. length r ≡ n) xs → All (λ r. length r ≡ n) ys → length xs ≡ length ys → ((m : ℕ) → m < n → column_of xs m ≡ column_of ys m) → xs ≡ ys
same_rows_of n [] [] h g p each = refl
same_rows_of n [] (y ∷ ys) h g p each = absurd (omega (arith, p))
same_rows_of n (x ∷ xs) [] h g p each = absurd (omega (arith, p))
same_rows_of n (x ∷ xs) (y ∷ ys) h g p each =
    let first : x ≡ y = same_row n x y (All-head (λ r. length r ≡ n) x xs h) (All-head (λ r. length r ≡ n) y ys g) (λ m r. ap (λ ds. get_or ds 0 (integer (pos 0))) (each m r)) in
    let rest : xs ≡ ys = same_rows_of n xs ys (All-tail (λ r. length r ≡ n) x xs h) (All-tail (λ r. length r ≡ n) y ys g) (omega (arith, p)) (λ m r. ap (λ ds. drop 1 ds) (each m r)) in
    ap (λ z. z ∷ xs) first ∙ ap (λ zs. y ∷ zs) rest

pub row_lengths : (schema : List Attribute) (xs : List (List Datum)) → All (λ r. IsRowOf r schema) xs → All (λ r. length r ≡ length schema) xs
row_lengths schema xs h = All-weaker (λ r. IsRowOf r schema) (λ r. length r ≡ length schema) (λ r f. row_fits_length r schema f) xs h

-- a view value is known by its rows
same_view : (g : Heading) (d f : Datum) → IsOf d (Domain.relation g) → IsOf f (Domain.relation g) → rows_in d ≡ rows_in f → d ≡ f
same_view g (relation r) (relation s) h k same = ap relation (sym (relation_of-rows_of r) ∙ ap relation_of same ∙ relation_of-rows_of s)
same_view g (relation r) (integer z) h k same = absurd k
same_view g (relation r) (long z) h k same = absurd k
same_view g (relation r) (text t) h k same = absurd k
same_view g (relation r) (bytes b) h k same = absurd k
same_view g (integer z) f h k same = absurd h
same_view g (long z) f h k same = absurd h
same_view g (text t) f h k same = absurd h
same_view g (bytes b) f h k same = absurd h

-- the parts of a directory
bodies_in : Entry → Bodies
bodies_in (Entry.tables inner) = inner
bodies_in (Entry.numbers w block) = no_bodies
bodies_in (Entry.strings w sizes short memos) = no_bodies

first_rows : Bodies → ℕ
first_rows no_bodies = 0
first_rows (body n own rest) = n

first_entries : Bodies → Entries
first_entries no_bodies = no_entries
first_entries (body n own rest) = own

other_bodies : Bodies → Bodies
other_bodies no_bodies = no_bodies
other_bodies (body n own rest) = rest

first_entry : Entry → Entries → Entry
first_entry other no_entries = other
first_entry other (entry e rest) = e

other_entries : Entries → Entries
other_entries no_entries = no_entries
other_entries (entry e rest) = rest

-- the columns from a place on are the same
pub SameColumns : Heading → ℕ → List (List Datum) → List (List Datum) → Type 0
SameColumns g k xs ys = (m : ℕ) → m < length (attributes_of g) → column_of xs (k + m) ≡ column_of ys (k + m)

long_column : (xs ys : List (List Datum)) (k : ℕ) → length xs ≡ length ys → length (column_of xs k) ≡ length (column_of ys k)
long_column xs ys k p = length-map xs (λ (r : List Datum). get_or r k (integer (pos 0))) ∙ p ∙ sym (length-map ys (λ (r : List Datum). get_or r k (integer (pos 0))))

at_place : (xs ys : List (List Datum)) (k : ℕ) (x : Heading) → column_of xs k ≡ column_of ys k → SameColumns x (k + 1) xs ys → (m : ℕ) → m < suc (length (attributes_of x)) → column_of xs (k + m) ≡ column_of ys (k + m)
unfolding SameColumns
at_place xs ys k x here rest zero q = subst (λ j. column_of xs j ≡ column_of ys j) (let e : k ≡ k + 0 = omega arith in e) here
at_place xs ys k x here rest (suc m) q = subst (λ j. column_of xs j ≡ column_of ys j) (let e : (k + 1) + m ≡ k + suc m = omega arith in e) (rest m (omega arith))

mutual
  unfolding bodies_in first_rows first_entries other_bodies first_entry other_entries SameColumns

  same_in : (image : List ℕ) (h k : Home) (e : Domain) (us vs : List Datum) → IsHomeOf h e us → IsHomeOf k e vs → All (λ d. IsOf d e) us → All (λ d. IsOf d e) vs → All (IsThere image) (plain_in h e us) → All (IsThere image) (plain_in k e vs)
      → length us ≡ length vs → entry_of h e us ≡ entry_of k e vs → (h ≡ k) × (us ≡ vs)
  same_in image h k Domain.integer us vs s t f g a b p together =
      same_plain image h k Domain.integer us vs (the_plain (IsThere image) h Domain.integer us tt s a) (the_plain (IsThere image) k Domain.integer vs tt t b) p together
  same_in image h k Domain.long us vs s t f g a b p together =
      same_plain image h k Domain.long us vs (the_plain (IsThere image) h Domain.long us tt s a) (the_plain (IsThere image) k Domain.long vs tt t b) p together
  same_in image h k Domain.text us vs s t f g a b p together =
      same_plain image h k Domain.text us vs (the_plain (IsThere image) h Domain.text us tt s a) (the_plain (IsThere image) k Domain.text vs tt t b) p together
  same_in image h k Domain.bytes us vs s t f g a b p together =
      same_plain image h k Domain.bytes us vs (the_plain (IsThere image) h Domain.bytes us tt s a) (the_plain (IsThere image) k Domain.bytes vs tt t b) p together
  same_in image (tables rs) (tables ss) (Domain.relation x) us vs s t f g a b p together =
      let found = same_rows image rs ss x us vs s t f g a b p (ap bodies_in together) in
      (ap tables found.0, found.1)
  same_in image (tables rs) no_home (Domain.relation x) us vs s t f g a b p together = absurd t
  same_in image (tables rs) (numbers block) (Domain.relation x) us vs s t f g a b p together = absurd t
  same_in image (tables rs) (strings i j m) (Domain.relation x) us vs s t f g a b p together = absurd t
  same_in image no_home k (Domain.relation x) us vs s t f g a b p together = absurd s
  same_in image (numbers block) k (Domain.relation x) us vs s t f g a b p together = absurd s
  same_in image (strings i j m) k (Domain.relation x) us vs s t f g a b p together = absurd s

  same_rows : (image : List ℕ) (rs ss : RowHomes) (x : Heading) (us vs : List Datum) → AreRowHomesOf rs x us → AreRowHomesOf ss x vs → All (λ d. IsOf d (Domain.relation x)) us → All (λ d. IsOf d (Domain.relation x)) vs
      → All (IsThere image) (plain_rows rs x us) → All (IsThere image) (plain_rows ss x vs) → length us ≡ length vs → bodies_of rs x us ≡ bodies_of ss x vs → (rs ≡ ss) × (us ≡ vs)
  same_rows image no_rows no_rows x [] [] s t f g a b p bodies = (refl, refl)
  same_rows image no_rows ss x (d ∷ us) vs s t f g a b p bodies = absurd s
  same_rows image no_rows ss x [] (c ∷ vs) s t f g a b p bodies = absurd (omega (arith, p))
  same_rows image no_rows (row ks rest) x [] [] s t f g a b p bodies = absurd t
  same_rows image (row hs more) ss x [] vs s t f g a b p bodies = absurd s
  same_rows image (row hs more) ss x (d ∷ us) [] s t f g a b p bodies = absurd (omega (arith, p))
  same_rows image (row hs more) no_rows x (d ∷ us) (c ∷ vs) s t f g a b p bodies = absurd t
  same_rows image (row hs more) (row ks rest) x (d ∷ us) (c ∷ vs) s t f g a b p bodies =
      let here = All-head (λ d. IsOf d (Domain.relation x)) d us f in
      let there = All-head (λ d. IsOf d (Domain.relation x)) c vs g in
      let one : AreRowsOf (rows_in d) (attributes_of x) = rows_inside d (Domain.relation x) here in
      let other : AreRowsOf (rows_in c) (attributes_of x) = rows_inside c (Domain.relation x) there in
      let parts = split_all (IsThere image) (plain_from hs x 0 (rows_in d)) (plain_rows more x us) a in
      let others = split_all (IsThere image) (plain_from ks x 0 (rows_in c)) (plain_rows rest x vs) b in
      let count : length (rows_in d) ≡ length (rows_in c) = ap first_rows bodies in
      let first = same_from image hs ks x 0 (rows_in d) (rows_in c) s.0 t.0 (columns_fit x (attributes_of x) 0 (rows_in d) refl one.whole) (columns_fit x (attributes_of x) 0 (rows_in c) refl other.whole)
      parts.0 others.0 count (ap first_entries bodies) in
      let rows : rows_in d ≡ rows_in c = same_rows_of (length (attributes_of x)) (rows_in d) (rows_in c) (row_lengths (attributes_of x) (rows_in d) one.whole) (row_lengths (attributes_of x) (rows_in c) other.whole) count
      (λ m q. subst (λ j. column_of (rows_in d) j ≡ column_of (rows_in c) j) (zero-add m) (first.1 m q)) in
      let behind = same_rows image more rest x us vs s.1 t.1 (All-tail (λ d. IsOf d (Domain.relation x)) d us f) (All-tail (λ d. IsOf d (Domain.relation x)) c vs g) parts.1 others.1 (omega (arith, p)) (ap other_bodies bodies) in
      (ap (λ z. row z more) first.0 ∙ ap (λ z. row ks z) behind.0, ap (λ z. z ∷ us) (same_view x d c here there rows) ∙ ap (λ zs. c ∷ zs) behind.1)

  pub same_from : (image : List ℕ) (hs ks : ColumnHomes) (x : Heading) (k : ℕ) (xs ys : List (List Datum)) → AreHomesOf hs x k xs → AreHomesOf ks x k ys → ColumnsFit x k xs → ColumnsFit x k ys
      → All (IsThere image) (plain_from hs x k xs) → All (IsThere image) (plain_from ks x k ys) → length xs ≡ length ys → entries_of hs x k xs ≡ entries_of ks x k ys → (hs ≡ ks) × SameColumns x k xs ys
  same_from image no_columns no_columns no_attributes k xs ys s t f g a b p entries = (refl, λ m q. absurd (omega arith))
  same_from image no_columns (column h rest) no_attributes k xs ys s t f g a b p entries = absurd t
  same_from image (column h rest) ks no_attributes k xs ys s t f g a b p entries = absurd s
  same_from image no_columns ks (attribute n e x) k xs ys s t f g a b p entries = absurd s
  same_from image (column h hs) no_columns (attribute n e x) k xs ys s t f g a b p entries = absurd t
  same_from image (column h hs) (column i ks) (attribute n e x) k xs ys s t f g a b p entries =
      let parts = split_all (IsThere image) (plain_in h e (column_of xs k)) (plain_from hs x (k + 1) xs) a in
      let others = split_all (IsThere image) (plain_in i e (column_of ys k)) (plain_from ks x (k + 1) ys) b in
      let first = same_in image h i e (column_of xs k) (column_of ys k) s.0 t.0 f.0 g.0 parts.0 others.0 (long_column xs ys k p) (ap (first_entry (entry_of h e (column_of xs k))) entries) in
      let behind = same_from image hs ks x (k + 1) xs ys s.1 t.1 f.1 g.1 parts.1 others.1 p (ap other_entries entries) in
      (ap (λ z. column z hs) first.0 ∙ ap (λ z. column i z) behind.0, at_place xs ys k x first.1 behind.1)

-- two tables of one schema
same_table : (image : List ℕ) (schema : List Attribute) (xs ys : List (List Datum)) (hs ks : List Home) → AreHomesOf (column_homes hs) (heading_of schema) 0 xs → AreHomesOf (column_homes ks) (heading_of schema) 0 ys
    → All (λ r. IsRowOf r schema) xs → All (λ r. IsRowOf r schema) ys → All (IsThere image) (plain_from (column_homes hs) (heading_of schema) 0 xs) → All (IsThere image) (plain_from (column_homes ks) (heading_of schema) 0 ys)
    → length xs ≡ length ys → entries_of (column_homes hs) (heading_of schema) 0 xs ≡ entries_of (column_homes ks) (heading_of schema) 0 ys → (hs ≡ ks) × (xs ≡ ys)
unfolding SameColumns
same_table image schema xs ys hs ks s t f g a b p entries =
    let x = heading_of schema in
    let at = sym (attributes_of-heading_of schema) in
    let found = same_from image (column_homes hs) (column_homes ks) x 0 xs ys s t (columns_fit x schema 0 xs at f) (columns_fit x schema 0 ys at g) a b p entries in (
      sym (columns_of-column_homes hs) ∙ ap columns_of found.0 ∙ columns_of-column_homes ks,
      same_rows_of (length schema) xs ys (row_lengths schema xs f) (row_lengths schema ys g) p
          (λ m q. subst (λ j. column_of xs j ≡ column_of ys j) (zero-add m) (found.1 m (subst (λ n. m < n) (ap length at) q))),
    )

abbrev stored : List Attribute → List (List Datum) → List Home → StoredTable
stored schema rows homes = record { schema = schema; rows = rows; homes = homes }

abbrev view : List ℕ → StoredTable → NamedTable
view name table = record { name = name; table = table }

-- a view that stands in an image
pub record IsViewThere (image : List ℕ) (v : NamedTable) : Type 0 where
  pub whole : IsView v
  pub shaped : HasHomes v.table
  pub there : All (IsThere image) (plain_columns v.table)

same_view_table : (image : List ℕ) (v w : NamedTable) → IsViewThere image v → IsViewThere image w → view_entry v ≡ view_entry w → v ≡ w
same_view_table image v w one other same =
    let name : v.name ≡ w.name = ap (λ (e : ViewEntry). e.name) same in
    let schema : v.table.schema ≡ w.table.schema = ap (λ (e : ViewEntry). e.schema) same in
    let count : length v.table.rows ≡ length w.table.rows = ap (λ (e : ViewEntry). e.rows) same in
    let columns : entries_of (column_homes v.table.homes) (heading_of v.table.schema) 0 v.table.rows ≡ entries_of (column_homes w.table.homes) (heading_of v.table.schema) 0 w.table.rows =
    ap (λ (e : ViewEntry). e.columns) same ∙ ap (λ s. entries_of (column_homes w.table.homes) (heading_of s) 0 w.table.rows) (sym schema) in
    let found = same_table image v.table.schema v.table.rows w.table.rows v.table.homes w.table.homes one.shaped
    (subst (λ s. AreHomesOf (column_homes w.table.homes) (heading_of s) 0 w.table.rows) (sym schema) other.shaped)
    one.whole.table.rows.whole (subst (λ s. All (λ r. IsRowOf r s) w.table.rows) (sym schema) other.whole.table.rows.whole)
    one.there (subst (λ s. All (IsThere image) (plain_from (column_homes w.table.homes) (heading_of s) 0 w.table.rows)) (sym schema) other.there) count columns in
    let table : v.table ≡ w.table =
    ap (λ s. stored s v.table.rows v.table.homes) schema ∙ ap (λ rs. stored w.table.schema rs v.table.homes) found.1 ∙ ap (λ hs. stored w.table.schema w.table.rows hs) found.0 in
    ap (λ n. view n v.table) name ∙ ap (λ t. view w.name t) table

pub same_views : (image : List ℕ) (vs ws : List NamedTable) → All (IsViewThere image) vs → All (IsViewThere image) ws → map view_entry vs ≡ map view_entry ws → vs ≡ ws
same_views image [] [] h g same = refl
same_views image [] (w ∷ ws) h g same = let e = ap length same in absurd (omega (arith, e))
same_views image (v ∷ vs) [] h g same = let e = ap length same in absurd (omega (arith, e))
same_views image (v ∷ vs) (w ∷ ws) h g same =
    let first : view_entry v ≡ view_entry w = ap (λ es. get_or es 0 (view_entry v)) same in
    let rest : map view_entry vs ≡ map view_entry ws = ap (λ es. drop 1 es) same in
    ap (λ z. z ∷ vs) (same_view_table image v w (All-head (IsViewThere image) v vs h) (All-head (IsViewThere image) w ws g) first)
    ∙ ap (λ zs. w ∷ zs) (same_views image vs ws (All-tail (IsViewThere image) v vs h) (All-tail (IsViewThere image) w ws g) rest)
