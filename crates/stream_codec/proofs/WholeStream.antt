-- The bytes of views, and of a whole stream.
use Rattle.std.proofs.Common.{◌≡◌, ◌≢◌, ℕ, zero, suc, ◌≤◌, ◌⊎◌, inl, inr, ⊎_elim, List, [], ◌∷◌, ◌++◌, length, All, AllPairs, Contains, drop, get_or, refl, sym, ◌∙◌, ap, subst, arith}
use Rattle.std.specs.List.{flat_map}
use Rattle.std.proofs.lemmas.List.{append-nil, append_assoc}
use Rattle.std.proofs.lemmas.List.Elements.{All-head, All-tail}
use Rattle.byteorder.specs.Endian.{little_bytes}
use Rattle.mk_value.specs.Data.{Datum, relation_of, IsOf}
use Rattle.mk_value.specs.Heading.{Attribute, Domain, heading_of}
use Rattle.mk_value.specs.Limits.{max_structure}
use Rattle.mk_value.proofs.Relations.{IsOf-relation, relation_of-injective}
use Rattle.struct_text.specs.Spelling.{spelling}
use Rattle.struct_text.proofs.Lengths.{structure_is}
use Rattle.struct_text.proofs.Unique.{one_structure}
use Rattle.tables.specs.Tables.{HasNoHomes, StoredTable, table_without_homes}
use Rattle.view_store.specs.Views.{AreViews, IsView, NamedTable, view_names}
use Rattle.stream_codec.specs.Fields.{Due, opening, view_count, text_length, structure, row_count, views_due, all_due, number_of_field, Goes, stays, IsCutOffAt, IsWrongAt}
use Rattle.stream_codec.specs.Stream.{IsStream, counted, signature, spelled, spelled_rows, spelled_view}
use Rattle.stream_codec.proofs.Going.{goes_field, goes_joins, whole_not_cut, whole_not_wrong}
use Rattle.stream_codec.proofs.OneValue.{front_4, front_counted, one_value}
use Rattle.stream_codec.proofs.ValueFields.{goes_value, number_4}

-- ---- names

pairs_tail : {X : Type 0} (R : X → X → Type 0) (x : X) (xs : List X) → AllPairs R (x ∷ xs) → AllPairs R xs
pairs_tail R x xs pairs = λ i j d below within. pairs (suc i) (suc j) d (omega (arith, below)) (omega (arith, within))

pairs_head : {X : Type 0} (R : X → X → Type 0) (x : X) (xs : List X) → AllPairs R (x ∷ xs) → All (R x) xs
pairs_head R x xs pairs = λ j d within. pairs zero (suc j) d (omega arith) (omega (arith, within))

cons_contains : (x : List ℕ) (names : List (List ℕ)) (y : List ℕ) → Contains (x ∷ names) y → (x ≡ y) ⊎ Contains names y
cons_contains x names y (zero, within, is) = inl is
cons_contains x names y (suc i, within, is) = inr (i, omega (arith, within), is)

-- names that differ from all before them
new_names : (name : List ℕ) (names others : List (List ℕ)) → AllPairs (λ a b. a ≢ b) (name ∷ others) → All (λ n. Contains names n → ⊥) (name ∷ others) → All (λ n. Contains (name ∷ names) n → ⊥) others
new_names name names others distinct new = λ k d within there.
    ⊎_elim (λ same. pairs_head (λ a b. a ≢ b) name others distinct k d within same) (λ before. All-tail (λ n. Contains names n → ⊥) name others new k d within before)
    (cons_contains name names (get_or others k d) there)

-- ---- the fields of views

-- the structure text of a view has at most as many bytes as one may have
pub text_short : (v : NamedTable) → IsView v → length (spelling v.name v.table.schema) ≤ max_structure
text_short v is = let e = structure_is v.name v.table.schema is.table.schema in let s = is.short in omega (arith, e, s)

-- the bytes of a view, field by field
view_bytes : (v : NamedTable) (rest : List ℕ)
    → spelled_view v ++ rest ≡ little_bytes 4 (length (spelling v.name v.table.schema)) ++ (spelling v.name v.table.schema ++ (spelled_rows v.table.rows ++ rest))
view_bytes v rest =
    let text = spelling v.name v.table.schema in
    append_assoc (counted text) (spelled_rows v.table.rows) rest ∙ append_assoc (little_bytes 4 (length text)) text (spelled_rows v.table.rows ++ rest)

-- a view behind which so many more come, behind those of these names
pub goes_view : (v : NamedTable) (more : ℕ) (names : List (List ℕ)) (due : List Due) (rest : List ℕ) → IsView v → (Contains names v.name → ⊥)
    → Goes (text_length more names ∷ due) (spelled_view v ++ rest) (views_due more (v.name ∷ names) ++ due) rest
goes_view v more names due rest is new =
    let text = spelling v.name v.table.schema in
    let short = text_short v is in
    let left : List Due = views_due more (v.name ∷ names) ++ due in
    let len_is : number_of_field (little_bytes 4 (length text)) ≡ length text = number_4 (length text) (omega (arith, short)) in
    let first = goes_field (text_length more names) due (structure (length text) more names ∷ []) (little_bytes 4 (length text)) (text ++ (spelled_rows v.table.rows ++ rest)) refl
    (omega (arith, short, len_is), ap (λ (n : ℕ). structure n more names ∷ []) (sym len_is)) in
    let second = goes_field (structure (length text) more names) due (row_count (heading_of v.table.schema) ∷ views_due more (v.name ∷ names)) text (spelled_rows v.table.rows ++ rest) refl
    (v.name, v.table.schema, record { named = is.name; whole = is.table.schema; is = refl }, new, refl) in
    let third = goes_value (Datum.relation (relation_of v.table.rows)) (Domain.relation (heading_of v.table.schema)) left rest ((IsOf-relation v.table.rows v.table.schema).0 is.table.rows) in
    subst (λ (bytes : List ℕ). Goes (text_length more names ∷ due) bytes left rest) (sym (view_bytes v rest)) (goes_joins first (goes_joins second third))

pub goes_views : (names : List (List ℕ)) (views : List NamedTable) (due : List Due) (rest : List ℕ) → All IsView views → AllPairs (λ a b. a ≢ b) (view_names views)
    → All (λ n. Contains names n → ⊥) (view_names views) → Goes (views_due (length views) names ++ due) (flat_map spelled_view views ++ rest) due rest
goes_views names [] due rest each distinct new = stays due rest
goes_views names (v ∷ views) due rest each distinct new =
    let first = goes_view v (length views) names due (flat_map spelled_view views ++ rest) (All-head IsView v views each) (All-head (λ n. Contains names n → ⊥) v.name (view_names views) new) in
    let then = goes_views (v.name ∷ names) views due rest (All-tail IsView v views each) (pairs_tail (λ a b. a ≢ b) v.name (view_names views) distinct)
    (new_names v.name names (view_names views) distinct new) in
    subst (λ (bytes : List ℕ). Goes (text_length (length views) names ∷ due) bytes due rest) (sym (append_assoc (spelled_view v) (flat_map spelled_view views) rest)) (goes_joins first then)

-- the stream of a whole root goes from all that is due to nothing
pub goes_whole : (views : List NamedTable) → AreViews views → Goes all_due (spelled views) [] []
goes_whole views are =
    let few = are.few in
    let count_is : number_of_field (little_bytes 4 (length views)) ≡ length views = number_4 (length views) (omega (arith, few)) in
    let all = flat_map spelled_view views in
    let first = goes_field opening (view_count ∷ []) [] signature (little_bytes 4 (length views) ++ all) refl (refl, refl) in
    let second = goes_field view_count [] (views_due (length views) []) (little_bytes 4 (length views)) all refl (omega (arith, few, count_is), ap (λ (n : ℕ). views_due n []) (sym count_is)) in
    let third = subst (λ (bytes : List ℕ). Goes (views_due (length views) [] ++ []) bytes [] []) (append-nil all)
    (goes_views [] views [] [] are.whole are.distinct (λ k d within there. absurd (let i = there.1 in omega (arith, i)))) in
    goes_joins first (goes_joins second third)

-- ---- the bytes of views are those of no others

-- a view without homes is its name, its schema and its rows
view_is : (v w : NamedTable) → HasNoHomes v.table → HasNoHomes w.table → v.name ≡ w.name → v.table.schema ≡ w.table.schema → v.table.rows ≡ w.table.rows → v ≡ w
view_is v w plain too names schemas rows =
    let named : List ℕ → StoredTable → NamedTable = λ n t. record { name = n; table = t } in
    let tables : v.table ≡ w.table =
    plain ∙ ap (λ (s : List Attribute). table_without_homes s v.table.rows) schemas ∙ ap (λ (r : List (List Datum)). table_without_homes w.table.schema r) rows ∙ sym too in
    ap (λ (n : List ℕ). named n v.table) names ∙ ap (λ (t : StoredTable). named w.name t) tables

one_view : (v w : NamedTable) (a b : List ℕ) → IsView v → IsView w → HasNoHomes v.table → HasNoHomes w.table → spelled_view v ++ a ≡ spelled_view w ++ b → (v ≡ w) × (a ≡ b)
one_view v w a b one two plain too is =
    let x = spelling v.name v.table.schema in
    let y = spelling w.name w.table.schema in
    let short = text_short v one in
    let brief = text_short w two in
    let texts = front_counted x y (spelled_rows v.table.rows ++ a) (spelled_rows w.table.rows ++ b) (omega (arith, short)) (omega (arith, brief))
    (sym (append_assoc (counted x) (spelled_rows v.table.rows) a) ∙ is ∙ append_assoc (counted y) (spelled_rows w.table.rows) b) in
    let structures = one_structure x v.name w.name v.table.schema w.table.schema (record { named = one.name; whole = one.table.schema; is = refl }) (record { named = two.name; whole = two.table.schema; is = texts.0 }) in
    let here = (IsOf-relation v.table.rows v.table.schema).0 one.table.rows in
    let there = subst (λ (s : List Attribute). IsOf (Datum.relation (relation_of w.table.rows)) (Domain.relation (heading_of s))) (sym structures.1) ((IsOf-relation w.table.rows w.table.schema).0 two.table.rows) in
    let rows = one_value (Datum.relation (relation_of v.table.rows)) (Domain.relation (heading_of v.table.schema)) (Datum.relation (relation_of w.table.rows)) a b here there texts.1 in
    (view_is v w plain too structures.0 structures.1 (relation_of-injective v.table.rows w.table.rows (let r = rows.0 in cc)), rows.1)

one_views : (views others : List NamedTable) (a b : List ℕ) → All IsView views → All IsView others → All (λ v. HasNoHomes v.table) views → All (λ v. HasNoHomes v.table) others
    → length views ≡ length others → flat_map spelled_view views ++ a ≡ flat_map spelled_view others ++ b → (views ≡ others) × (a ≡ b)
one_views [] [] a b one two plain too same is = (refl, is)
one_views [] (w ∷ others) a b one two plain too same is = absurd (omega (arith, same))
one_views (v ∷ views) [] a b one two plain too same is = absurd (omega (arith, same))
one_views (v ∷ views) (w ∷ others) a b one two plain too same is =
    let first = one_view v w (flat_map spelled_view views ++ a) (flat_map spelled_view others ++ b) (All-head IsView v views one) (All-head IsView w others two)
    (All-head (λ v. HasNoHomes v.table) v views plain) (All-head (λ v. HasNoHomes v.table) w others too)
    (sym (append_assoc (spelled_view v) (flat_map spelled_view views) a) ∙ is ∙ append_assoc (spelled_view w) (flat_map spelled_view others) b) in
    let then = one_views views others a b (All-tail IsView v views one) (All-tail IsView w others two) (All-tail (λ v. HasNoHomes v.table) v views plain) (All-tail (λ v. HasNoHomes v.table) w others too)
    (omega (arith, same)) first.1 in
    (ap (λ (x : NamedTable). x ∷ views) first.0 ∙ ap (λ (l : List NamedTable). w ∷ l) then.0, then.1)

-- no bytes are the stream of two roots
pub one_root : (bytes : List ℕ) (one two : List NamedTable) → IsStream bytes one → IsStream bytes two → one ≡ two
one_root bytes one two first second =
    let few = first.whole.few in
    let also = second.whole.few in
    let same : spelled one ≡ spelled two = sym first.is ∙ second.is in
    let counts = front_4 (length one) (length two) (flat_map spelled_view one) (flat_map spelled_view two) (omega (arith, few)) (omega (arith, also)) (ap (λ (l : List ℕ). drop 8 l) same) in
    (one_views one two [] [] first.whole.whole second.whole.whole first.homeless second.homeless counts.0
    (append-nil (flat_map spelled_view one) ∙ counts.1 ∙ sym (append-nil (flat_map spelled_view two)))).0

-- ---- a stream is whole

pub stream_not_wrong : (bytes : List ℕ) (views : List NamedTable) (place : ℕ) → IsStream bytes views → IsWrongAt bytes place → ⊥
stream_not_wrong bytes views place stream wrong = whole_not_wrong bytes place (subst (λ (l : List ℕ). Goes all_due l [] []) (sym stream.is) (goes_whole views stream.whole)) wrong

pub stream_not_cut : (bytes : List ℕ) (views : List NamedTable) (place : ℕ) → IsStream bytes views → IsCutOffAt bytes place → ⊥
stream_not_cut bytes views place stream cut = whole_not_cut bytes place (subst (λ (l : List ℕ). Goes all_due l [] []) (sym stream.is) (goes_whole views stream.whole)) cut
