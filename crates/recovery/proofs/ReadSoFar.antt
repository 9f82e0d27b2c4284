-- Columns, tables and views of a directory that are read one after another: what is known of those so far.
use Rattle.std.proofs.Common.{◌≡◌, ℕ, zero, suc, ◌+◌, ◌*◌, ◌<◌, ◌≤◌, ◌^◌, List, [], ◌∷◌, ◌++◌, length, get_or, map, take, drop, refl, ap, sym, subst, ◌∙◌, arith, length-append}
use Rattle.std.specs.List.{AllZip, flat_map}
use Rattle.std.proofs.lemmas.List.{drop_all, length-map, take_all, take_more}
use Rattle.mk_value.specs.Heading.{Attribute, heading_of}
use Rattle.mk_value.proofs.Walks.{drop_map_read, drop_read, map_read}
use Rattle.mk_value.specs.declared.span.Span.{Span}
use Rattle.bit_pack.specs.declared.widths.Width.{Width}
use Rattle.commit_writes.specs.Blocks.{Block, StandsAt}
use Rattle.dir_codec.specs.declared.dir.DirCol.{DirCol}
use Rattle.dir_codec.specs.declared.dir.Memo.{Memo}
use Rattle.dir_codec.specs.Columns.{plain_bodies, plain_entries, plain_entry}
use Rattle.dir_codec.specs.Dir.{AreBodies, AreEntries, Body, bodies_from, Entry, entries_from, IsEntry, spelled_bodies, spelled_entries, spelled_entry, spelled_memo}
use Rattle.dir_codec.specs.Values.{entry_of}
use Rattle.tables.specs.Columns.{StoredColumn, IsColumnOf}
use Rattle.tables.specs.Tables.{StoredTable}
use Rattle.recovery.specs.declared.error.ColumnsError.{ColumnsError}
use Rattle.recovery.specs.Found.{AreColumnsFound, AreColumnsRead, AreFormed, AreTablesFound, AreTablesRead, HasForm, HasLength, IsColumnFound, IsColumnRead, IsTableFound, IsTableRead, NamesUnreadable}
use Rattle.recovery.proofs.EntriesOf.{zip-append}
use Rattle.recovery.proofs.FirstUnreadable.{IsReadUpTo, all_readable, begins, goes_on, names_first}
use Rattle.recovery.proofs.FoundTables.{columns_more, formed_more, tables_more}

-- what is read of a list, by its place
take_read : {X : Type 0} (xs : List X) (i : ℕ) (x : X) → i < length xs → x ≡ get_or xs i x → take (i + 1) xs ≡ take i xs ++ x ∷ []
take_read xs i x p e = take_more xs i x p ∙ ap (λ y. take i xs ++ y ∷ []) (sym e)

pub take_map_read : {X Y : Type 0} (f : X → Y) (xs : List X) (i : ℕ) (x : X) → i < length xs → x ≡ get_or xs i x → take (i + 1) (map f xs) ≡ take i (map f xs) ++ f x ∷ []
take_map_read f xs i x p e = let long = length-map xs f in take_read (map f xs) i (f x) (omega (arith, p, long)) (map_read f xs i x p e)

-- the columns of the first k properties
pub record AreColumnsSoFar (known : Type 0) (image : List ℕ) (rows start : ℕ) (schema : List Attribute) (own : List Entry) (k : ℕ) (cols : List StoredColumn) (at : ℕ) : Type 0 where
  pub place : at + length (spelled_entries (entries_from (drop k own))) ≡ start + length (spelled_entries (entries_from own))
  pub whole : AllZip (λ a c. IsColumnOf rows a.domain c) (take k schema) cols
  pub made : AreColumnsFound HasLength (take k schema) (take k own) cols
  pub found : known → AreColumnsFound (StandsAt image) (take k schema) (take k own) cols
  pub upto : IsReadUpTo known image (plain_entries (entries_from own) (heading_of schema) start rows) (plain_entries (entries_from (drop k own)) (heading_of (drop k schema)) at rows)

-- the next property and its entry
pub record IsNext (schema : List Attribute) (own : List Entry) (k : ℕ) (a : Attribute) (e : Entry) : Type 0 where
  pub schema_left : drop k schema ≡ a ∷ drop (k + 1) schema
  pub schema_done : take (k + 1) schema ≡ take k schema ++ a ∷ []
  pub own_left : drop k own ≡ e ∷ drop (k + 1) own
  pub own_done : take (k + 1) own ≡ take k own ++ e ∷ []

pub next_read : (schema : List Attribute) (items : List DirCol) (k : ℕ) (a : Attribute) (x : DirCol) → k < length schema → a ≡ get_or schema k a → k < length items → x ≡ get_or items k x → IsNext schema (map entry_of items) k a (entry_of x)
next_read schema items k a x p e q f = record {
  schema_left = drop_read schema k a p e;
  schema_done = take_read schema k a p e;
  own_left = drop_map_read entry_of items k x q f;
  own_done = take_map_read entry_of items k x q f;
}

pub columns_begin : (known : Type 0) (image : List ℕ) (rows start : ℕ) (schema : List Attribute) (own : List Entry) → AreColumnsSoFar known image rows start schema own 0 [] start
columns_begin known image rows start schema own = record { place = refl; whole = tt; made = tt; found = λ _. tt; upto = begins known image (plain_entries (entries_from own) (heading_of schema) start rows) }

module _ (known : Type 0) (image : List ℕ) (rows start : ℕ) (schema : List Attribute) (own : List Entry) (k at : ℕ) (cols : List StoredColumn)
    (so : AreColumnsSoFar known image rows start schema own k cols at) (a : Attribute) (e : Entry) (next : IsNext schema own k a e) where
  split : plain_entries (entries_from (drop k own)) (heading_of (drop k schema)) at rows
      ≡ plain_entry e a.domain at rows ++ plain_entries (entries_from (drop (k + 1) own)) (heading_of (drop (k + 1) schema)) (at + length (spelled_entry e)) rows
  split = ap (λ es. plain_entries (entries_from es) (heading_of (drop k schema)) at rows) next.own_left ∙ ap (λ s. plain_entries (entries_from (e ∷ drop (k + 1) own)) (heading_of s) at rows) next.schema_left

  -- what is left after the next one
  pub left : length (spelled_entries (entries_from (drop k own))) ≡ length (spelled_entry e) + length (spelled_entries (entries_from (drop (k + 1) own)))
  left = ap (λ es. length (spelled_entries (entries_from es))) next.own_left ∙ length-append (spelled_entry e) (spelled_entries (entries_from (drop (k + 1) own)))

  pub column_room : start + length (spelled_entries (entries_from own)) < 2 ^ 64 → at + length (spelled_entry e) < 2 ^ 64
  column_room small = let p = so.place in omega (arith, small, p, left)

  one_more : (P : Block → Type 0) (c : StoredColumn) → AreColumnsFound P (take k schema) (take k own) cols → IsColumnFound P a.domain e c → AreColumnsFound P (take (k + 1) schema) (take (k + 1) own) (cols ++ c ∷ [])
  one_more P c found one = subst (λ (s : List Attribute). AreColumnsFound P s (take (k + 1) own) (cols ++ c ∷ [])) (sym next.schema_done)
      (subst (λ (es : List Entry). AreColumnsFound P (take k schema ++ a ∷ []) es (cols ++ c ∷ [])) (sym next.own_done)
      (columns_more P (take k schema) (take k own) cols a e c found one))

  pub columns_grow : (c : StoredColumn) (behind : ℕ) → behind ≡ at + length (spelled_entry e) → IsColumnOf rows a.domain c → IsColumnFound HasLength a.domain e c → (known → IsColumnRead image a.domain e rows at c)
      → AreColumnsSoFar known image rows start schema own (k + 1) (cols ++ c ∷ []) behind
  columns_grow c behind is whole made read = record {
    place = (let p = so.place in omega (arith, p, left, is));
    whole = subst (λ (s : List Attribute). AllZip (λ a c. IsColumnOf rows a.domain c) s (cols ++ c ∷ [])) (sym next.schema_done)
        (zip-append (λ (a : Attribute) (c : StoredColumn). IsColumnOf rows a.domain c) (take k schema) (a ∷ []) cols (c ∷ []) so.whole (whole, tt));
    made = one_more HasLength c so.made made;
    found = λ q. one_more (StandsAt image) c (so.found q) (read q).column;
    upto = subst (λ n. IsReadUpTo known image (plain_entries (entries_from own) (heading_of schema) start rows) (plain_entries (entries_from (drop (k + 1) own)) (heading_of (drop (k + 1) schema)) n rows)) (sym is)
        (goes_on known image (plain_entries (entries_from own) (heading_of schema) start rows) (plain_entries (entries_from (drop k own)) (heading_of (drop k schema)) at rows)
        (plain_entry e a.domain at rows) (plain_entries (entries_from (drop (k + 1) own)) (heading_of (drop (k + 1) schema)) (at + length (spelled_entry e)) rows) so.upto split (λ q. (read q).readable));
  }

  pub column_unread : (error : ColumnsError) → known → NamesUnreadable image (plain_entry e a.domain at rows) error → NamesUnreadable image (plain_entries (entries_from own) (heading_of schema) start rows) error
  column_unread error q named =
      names_first known image (plain_entries (entries_from own) (heading_of schema) start rows) (plain_entries (entries_from (drop k own)) (heading_of (drop k schema)) at rows)
      (plain_entry e a.domain at rows) (plain_entries (entries_from (drop (k + 1) own)) (heading_of (drop (k + 1) schema)) (at + length (spelled_entry e)) rows) error so.upto split q named

-- what is known once all are read
pub record AreColumnsDone (known : Type 0) (image : List ℕ) (rows start : ℕ) (schema : List Attribute) (own : List Entry) (cols : List StoredColumn) (at : ℕ) : Type 0 where
  pub next : at ≡ start + length (spelled_entries (entries_from own))
  pub made : AreColumnsFound HasLength schema own cols
  pub read : known → AreColumnsRead image schema own rows start cols

pub columns_end : (known : Type 0) (image : List ℕ) (rows start : ℕ) (schema : List Attribute) (own : List Entry) (k : ℕ) (cols : List StoredColumn) (at : ℕ) → AreColumnsSoFar known image rows start schema own k cols at
    → length schema ≤ k → length own ≤ k → AreColumnsDone known image rows start schema own cols at
columns_end known image rows start schema own k cols at so p q =
    let none : drop k own ≡ [] = drop_all k own q in
    let rest : plain_entries (entries_from (drop k own)) (heading_of (drop k schema)) at rows ≡ [] = ap (λ es. plain_entries (entries_from es) (heading_of (drop k schema)) at rows) none in
    let left : length (spelled_entries (entries_from (drop k own))) ≡ 0 = ap (λ es. length (spelled_entries (entries_from es))) none in
    record {
      next = (let place = so.place in omega (arith, place, left));
      made = subst (λ (s : List Attribute). AreColumnsFound HasLength s own cols) (take_all k schema p) (subst (λ (es : List Entry). AreColumnsFound HasLength (take k schema) es cols) (take_all k own q) so.made);
      read = λ r. record {
        columns = subst (λ (s : List Attribute). AreColumnsFound (StandsAt image) s own cols) (take_all k schema p)
            (subst (λ (es : List Entry). AreColumnsFound (StandsAt image) (take k schema) es cols) (take_all k own q) (so.found r));
        readable = all_readable known image (plain_entries (entries_from own) (heading_of schema) start rows)
            (subst (IsReadUpTo known image (plain_entries (entries_from own) (heading_of schema) start rows)) rest so.upto) r;
      };
    }

-- how long a column of texts or byte strings is in a directory
memos_len : (memos : List Memo) → length (flat_map spelled_memo memos) ≡ 20 * length memos
memos_len [] = refl
memos_len (m ∷ memos) = let rest = memos_len memos in omega (arith, rest)

pub strings_len : (w : Width) (sizes short : Span) (memos : List Memo) → length (spelled_entry (Entry.strings w sizes short memos)) ≡ 37 + 20 * length memos
strings_len w sizes short memos = let all = memos_len memos in omega (arith, all)

-- the entries of a directory are as many as the properties, and each is one of its property
pub as_many_entries : (end rows : ℕ) (schema : List Attribute) (own : List Entry) → AreEntries end rows (heading_of schema) (entries_from own) → length own ≡ length schema
as_many_entries end rows [] [] h = refl
as_many_entries end rows [] (e ∷ own) h = absurd h
as_many_entries end rows (a ∷ schema) [] h = absurd h
as_many_entries end rows (a ∷ schema) (e ∷ own) h = ap suc (as_many_entries end rows schema own h.1)

entries_left : (end rows k : ℕ) (schema : List Attribute) (own : List Entry) → AreEntries end rows (heading_of schema) (entries_from own) → AreEntries end rows (heading_of (drop k schema)) (entries_from (drop k own))
entries_left end rows zero schema own h = h
entries_left end rows (suc k) [] [] h = tt
entries_left end rows (suc k) [] (e ∷ own) h = absurd h
entries_left end rows (suc k) (a ∷ schema) [] h = absurd h
entries_left end rows (suc k) (a ∷ schema) (e ∷ own) h = entries_left end rows k schema own h.1

pub next_entry : (end rows k : ℕ) (schema : List Attribute) (own : List Entry) (a : Attribute) (e : Entry) → IsNext schema own k a e → AreEntries end rows (heading_of schema) (entries_from own) → IsEntry end rows a.domain e
next_entry end rows k schema own a e next h =
    let here : AreEntries end rows (heading_of (a ∷ drop (k + 1) schema)) (entries_from (e ∷ drop (k + 1) own)) =
    subst (λ (s : List Attribute). AreEntries end rows (heading_of s) (entries_from (e ∷ drop (k + 1) own))) next.schema_left
    (subst (λ (es : List Entry). AreEntries end rows (heading_of (drop k schema)) (entries_from es)) next.own_left (entries_left end rows k schema own h)) in
    here.0

-- the bodies of the first k rows
pub record AreBodiesSoFar (known : Type 0) (image : List ℕ) (start : ℕ) (schema : List Attribute) (own : List Body) (k : ℕ) (ts : List StoredTable) (at : ℕ) : Type 0 where
  pub place : at + length (spelled_bodies (bodies_from (drop k own))) ≡ start + length (spelled_bodies (bodies_from own))
  pub formed : AreFormed schema (take k own) ts
  pub made : AreTablesFound HasLength (take k own) ts
  pub found : known → AreTablesFound (StandsAt image) (take k own) ts
  pub upto : IsReadUpTo known image (plain_bodies (bodies_from own) (heading_of schema) start) (plain_bodies (bodies_from (drop k own)) (heading_of schema) at)

module _ (known : Type 0) (image : List ℕ) (start : ℕ) (schema : List Attribute) (own : List Body) (k at : ℕ) (ts : List StoredTable)
    (so : AreBodiesSoFar known image start schema own k ts at) (b : Body) (left : drop k own ≡ b ∷ drop (k + 1) own) (done : take (k + 1) own ≡ take k own ++ b ∷ []) where
  body_split : plain_bodies (bodies_from (drop k own)) (heading_of schema) at
      ≡ plain_entries (entries_from b.columns) (heading_of schema) (at + 4) b.rows ++ plain_bodies (bodies_from (drop (k + 1) own)) (heading_of schema) (at + 4 + length (spelled_entries (entries_from b.columns)))
  body_split = ap (λ bs. plain_bodies (bodies_from bs) (heading_of schema) at) left

  pub body_left : length (spelled_bodies (bodies_from (drop k own))) ≡ 4 + (length (spelled_entries (entries_from b.columns)) + length (spelled_bodies (bodies_from (drop (k + 1) own))))
  body_left =
      let own_len : length (spelled_bodies (bodies_from (drop k own))) ≡ suc (suc (suc (suc (length (spelled_entries (entries_from b.columns) ++ spelled_bodies (bodies_from (drop (k + 1) own))))))) =
      ap (λ bs. length (spelled_bodies (bodies_from bs))) left in
      let rest = length-append (spelled_entries (entries_from b.columns)) (spelled_bodies (bodies_from (drop (k + 1) own))) in
      omega (arith, own_len, rest)

  pub body_room : start + length (spelled_bodies (bodies_from own)) < 2 ^ 64 → at + 4 + length (spelled_entries (entries_from b.columns)) < 2 ^ 64
  body_room small = let p = so.place in omega (arith, small, p, body_left)

  pub bodies_grow : (t : StoredTable) (behind : ℕ) → behind ≡ at + 4 + length (spelled_entries (entries_from b.columns)) → HasForm schema b.rows t → IsTableFound HasLength (entries_from b.columns) t → (known → IsTableRead image schema b.columns b.rows (at + 4) t)
      → AreBodiesSoFar known image start schema own (k + 1) (ts ++ t ∷ []) behind
  bodies_grow t behind is form made read = record {
    place = (let p = so.place in omega (arith, p, body_left, is));
    formed = subst (λ (bs : List Body). AreFormed schema bs (ts ++ t ∷ [])) (sym done) (formed_more schema (take k own) ts b t so.formed form);
    made = subst (λ (bs : List Body). AreTablesFound HasLength bs (ts ++ t ∷ [])) (sym done) (tables_more HasLength (take k own) ts b t so.made made);
    found = λ q. subst (λ (bs : List Body). AreTablesFound (StandsAt image) bs (ts ++ t ∷ [])) (sym done) (tables_more (StandsAt image) (take k own) ts b t (so.found q) (read q).table);
    upto = subst (λ n. IsReadUpTo known image (plain_bodies (bodies_from own) (heading_of schema) start) (plain_bodies (bodies_from (drop (k + 1) own)) (heading_of schema) n)) (sym is)
        (goes_on known image (plain_bodies (bodies_from own) (heading_of schema) start) (plain_bodies (bodies_from (drop k own)) (heading_of schema) at)
        (plain_entries (entries_from b.columns) (heading_of schema) (at + 4) b.rows) (plain_bodies (bodies_from (drop (k + 1) own)) (heading_of schema) (at + 4 + length (spelled_entries (entries_from b.columns))))
        so.upto body_split (λ q. (read q).readable));
  }

  pub body_unread : (error : ColumnsError) → known → NamesUnreadable image (plain_entries (entries_from b.columns) (heading_of schema) (at + 4) b.rows) error → NamesUnreadable image (plain_bodies (bodies_from own) (heading_of schema) start) error
  body_unread error q named =
      names_first known image (plain_bodies (bodies_from own) (heading_of schema) start) (plain_bodies (bodies_from (drop k own)) (heading_of schema) at)
      (plain_entries (entries_from b.columns) (heading_of schema) (at + 4) b.rows) (plain_bodies (bodies_from (drop (k + 1) own)) (heading_of schema) (at + 4 + length (spelled_entries (entries_from b.columns))))
      error so.upto body_split q named

bodies_left : (end k : ℕ) (schema : List Attribute) (own : List Body) → AreBodies end (heading_of schema) (bodies_from own) → AreBodies end (heading_of schema) (bodies_from (drop k own))
bodies_left end zero schema own h = h
bodies_left end (suc k) schema [] h = tt
bodies_left end (suc k) schema (b ∷ own) h = bodies_left end k schema own h.2

pub next_body : (end k : ℕ) (schema : List Attribute) (own : List Body) (b : Body) → drop k own ≡ b ∷ drop (k + 1) own → AreBodies end (heading_of schema) (bodies_from own) → (b.rows ≤ 16777216) × AreEntries end b.rows (heading_of schema) (entries_from b.columns)
next_body end k schema own b left h =
    let here : AreBodies end (heading_of schema) (bodies_from (b ∷ drop (k + 1) own)) = subst (λ (bs : List Body). AreBodies end (heading_of schema) (bodies_from bs)) left (bodies_left end k schema own h) in
    (here.0, here.1)

pub record AreBodiesDone (known : Type 0) (image : List ℕ) (start : ℕ) (schema : List Attribute) (own : List Body) (ts : List StoredTable) (at : ℕ) : Type 0 where
  pub next : at ≡ start + length (spelled_bodies (bodies_from own))
  pub formed : AreFormed schema own ts
  pub made : AreTablesFound HasLength own ts
  pub read : known → AreTablesRead image schema own start ts

pub bodies_begin : (known : Type 0) (image : List ℕ) (start : ℕ) (schema : List Attribute) (own : List Body) → AreBodiesSoFar known image start schema own 0 [] start
bodies_begin known image start schema own = record { place = refl; formed = tt; made = tt; found = λ _. tt; upto = begins known image (plain_bodies (bodies_from own) (heading_of schema) start) }

pub bodies_end : (known : Type 0) (image : List ℕ) (start : ℕ) (schema : List Attribute) (own : List Body) (k at : ℕ) (ts : List StoredTable) → AreBodiesSoFar known image start schema own k ts at → length own ≤ k
    → AreBodiesDone known image start schema own ts at
bodies_end known image start schema own k at ts so q =
    let none : drop k own ≡ [] = drop_all k own q in
    let rest : plain_bodies (bodies_from (drop k own)) (heading_of schema) at ≡ [] = ap (λ bs. plain_bodies (bodies_from bs) (heading_of schema) at) none in
    let left : length (spelled_bodies (bodies_from (drop k own))) ≡ 0 = ap (λ bs. length (spelled_bodies (bodies_from bs))) none in
    record {
      next = (let place = so.place in omega (arith, place, left));
      formed = subst (λ (bs : List Body). AreFormed schema bs ts) (take_all k own q) so.formed;
      made = subst (λ (bs : List Body). AreTablesFound HasLength bs ts) (take_all k own q) so.made;
      read = λ r. record {
        tables = subst (λ (bs : List Body). AreTablesFound (StandsAt image) bs ts) (take_all k own q) (so.found r);
        readable = all_readable known image (plain_bodies (bodies_from own) (heading_of schema) start) (subst (IsReadUpTo known image (plain_bodies (bodies_from own) (heading_of schema) start)) rest so.upto) r;
      };
    }
