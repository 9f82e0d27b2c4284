-- A view whose rows stand in the order of their keys: what its name stands for, and what is sought among its rows.
use Rattle.std.proofs.Common.{◌≡◌, ℕ, Bool, true, List, [], ◌∷◌, length, map, take, All, Option, Some, None, Result, Ok, Err, refl, ap, sym, ◌∙◌}
use Rattle.std.specs.Prelude.{count_by, find, if◌then◌else◌}
use Rattle.std.specs.Option.{option_or}
use Rattle.std.specs.Result.{result_map_both}
use Rattle.std.specs.Cmp.Lexicographic.{same_text}
use Rattle.std.specs.List.Sorted.{IsSorted}
use Rattle.std.proofs.lemmas.Bool.{false≢true}
use Rattle.std.proofs.lemmas.List.Elements.{All-cons, All-head, All-nil, All-tail, All-weaker}
use Rattle.eval.specs.Names.{continued, seen_at}
use Rattle.eval.specs.Values.{asked, at_path}
use Rattle.expr_text.specs.Arguments.{Criterion}
use Rattle.expr_text.specs.Queries.{Query, path}
use Rattle.computing.specs.Computed.{Computations, computed_names}
use Rattle.mapped.specs.Keys.{AscendByKey}
use Rattle.mapped.specs.Refusals.{count_due}
use Rattle.mapped.proofs.Keyed.{count_from}
use Rattle.keyed_views.proofs.Holding.{kept_over}
use Rattle.keyed_views.specs.Keeping.{AreKept as AreMapped, IsKeptOver, Keeps, by_of, mapped}
use Rattle.keyed_views.specs.Mapped.{MappedView, mapping_of, order_by, order_in}
use Rattle.keyed_views.specs.declared.kept.Kept.{Kept as MappedKept}
use Rattle.keyed_views.specs.declared.mapping.Mapping.{Mapping}
use Rattle.keyed_views.specs.declared.mapping.Mapping.TheVariants.{Hashed, InOrder}
use Rattle.mk_value.specs.Data.{AreRowsOf, Datum}
use Rattle.mk_value.specs.Heading.{Attribute, IsHeading}
use Rattle.mk_value.proofs.Relations.{row_fits_length}
use Rattle.mk_value.specs.Names.{same_bytes}
use Rattle.mk_value.specs.Paths.{Route}
use Rattle.mk_value.specs.Tables.{Table}
use Rattle.mk_value.specs.declared.path.Step.{Step}
use Rattle.relations.specs.Criteria.{Interval, is_in_range, valued}
use Rattle.relations.specs.Refusals.{literals_due}
use Rattle.relations.specs.Searching.{rows_before}
use Rattle.relations.specs.Sorting.{row_cmp}
use Rattle.relations.specs.declared.criteria.Key.{Key}
use Rattle.relations.specs.declared.error.DerivedError.{DerivedError}
use Rattle.relations.proofs.Faults.{cases}
use Rattle.tables.specs.Tables.{StoredTable}
use Rattle.view_store.specs.Views as views
use Rattle.viewers.specs.Meanings.{Meaning}
use Rattle.questions.specs.Answers.{answer}
use Rattle.questions.specs.InOrder.{IsInOrder, StandInOrder, placed, sought}
use Rattle.questions.specs.Kept.{Names, asked_names, known, sources, stored, table_of, watched}
use Rattle.questions.specs.Places.{before_values, begin, keys_in_order, known_keys, locate_due, located, order_at, order_under, search_due, unless_due, upwards, values_of, where_sorted}
use Rattle.questions.specs.Told.{told}
use Rattle.questions.specs.declared.located.Located.{Located}
use Rattle.questions.specs.declared.error.QuestionError.{QuestionError}
use Rattle.questions.specs.declared.error.QuestionError.TheVariants.{Unsorted}
use Rattle.questions.proofs.Ascending.{ascending_sorted}
use Rattle.questions.proofs.Found.{find_behind, is_this, standing, stored_view}
use Rattle.watches.specs.Watches.{op_of}

some_none : {X P : Type 0} (x : X) → Some x ≡ None → P
some_none x e = absurd (let f : ◌≡◌ {A = Option _} (Some x) None = e in cc)

some_same : {X : Type 0} (x y : X) → Some x ≡ Some y → x ≡ y
some_same x y e = cc

-- rows that are kept in order ascend by as many values
kept_ascends : (mapping : Mapping) (keys count : ℕ) (rows : List (List Datum)) → Keeps mapping keys rows → order_by (by_of mapping) keys ≡ Some count → (keys ≡ count) × AscendByKey keys rows
kept_ascends (Hashed index) keys count rows keeps e = some_none count (sym e)
kept_ascends (InOrder order) keys count rows keeps e = (some_same keys count e, keeps.1)

-- what is kept of the view of a name
pub stand_in_order : (all : List MappedKept) (view : List ℕ) (t : StoredTable) (count : ℕ) → All (λ (k : MappedKept). same_bytes k.view view ≡ true → IsKeptOver t.schema t.rows k) all → order_in (mapping_of (mapped all) view) ≡ Some count
    → StandInOrder t count
stand_in_order [] view t count kept e = some_none count (sym e)
stand_in_order (k ∷ all) view t count kept e = cases (same_bytes k.view view)
    (λ is.
    let over = All-head (λ (k : MappedKept). same_bytes k.view view ≡ true → IsKeptOver t.schema t.rows k) k all kept is in
    let at = kept_ascends k.mapping k.keys count t.rows over.kept (rw is at e) in
    record { plain = ap (λ n. count_due n t.schema) (sym at.0) ∙ over.plain; ascend = rw at.0 at at.1 })
    (λ is. stand_in_order all view t count (All-tail (λ (k : MappedKept). same_bytes k.view view ≡ true → IsKeptOver t.schema t.rows k) k all kept) (rw is at e))

-- an order is known of a view alone, and not of what stands inside a row
order_here : (steps : List Step) (mapping : Option MappedView) (count : ℕ) → order_under steps mapping ≡ Some count → steps ≡ []
order_here [] mapping count e = refl
order_here (s ∷ steps) mapping count e = some_none count (sym e)

pub is_in_order : (n : Names) (route : Route) (all : List MappedKept) (t : StoredTable) (count : ℕ) → n.mappings ≡ mapped all → AreMapped n.views all → views.table_of n.views route.name ≡ Some t → order_at n.mappings route ≡ Some count
    → IsInOrder n (path route) t count
is_in_order n route all t count mappings kept found order =
    let here = order_here route.steps (mapping_of n.mappings route.name) count order in
    let known : order_in (mapping_of (mapped all) route.name) ≡ Some count =
    sym (ap (λ ms. order_in (mapping_of ms route.name)) mappings) ∙ sym (ap (λ (steps : List Step). order_under steps (mapping_of n.mappings route.name)) here) ∙ order in
    record {
      route = route;
      names = refl;
      here = here;
      found = found;
      order = order;
      stand = stand_in_order all route.name t count (kept_over n.views all route.name t kept found) known;
    }

-- the name of a view stands for its table
module _ (n : Names) (viewers : List Meaning) (c : Computations) (route : Route) (t : StoredTable) (here : route.steps ≡ []) (found : views.table_of n.views route.name ≡ Some t) where
  first_found : find (is_this route.name) (asked_names n viewers c) ≡ Some (standing route.name (table_of t))
  unfolding asked_names
  first_found =
      find_behind (is_this route.name) (known n.views n.snapshots n.watches) (computed_names (sources n) viewers c)
      ∙ ap (λ o. option_or o (find (is_this route.name) (computed_names (sources n) viewers c))) (find_behind (is_this route.name) (stored n.views n.snapshots) (watched n.views n.watches)
      ∙ ap (λ o. option_or o (find (is_this route.name) (watched n.views n.watches))) (stored_view n.views n.snapshots route.name t found))

  pub view_answered : answer (asked_names n viewers c) viewers (path route) ≡ Ok (table_of t)
  view_answered =
      ap (λ o. result_map_both (λ t. t) told (at_path (seen_at o route.steps))) first_found
      ∙ ap (λ (steps : List Step). result_map_both (λ t. t) told (at_path (seen_at (Some (standing route.name (table_of t))) steps))) here

-- `search` of such a view
pub search_sought : (n : Names) (viewers : List Meaning) (c : Computations) (q : Query) (t : StoredTable) (count : ℕ) (list : List Criterion) → IsInOrder n q t count
    → search_due (asked_names n viewers c) n.watches n.mappings viewers q list ≡ sought (table_of t) (upwards count t.schema) list
search_sought n viewers c q t count list is =
    let table = table_of t in
    let given : Query → Table → Result ℕ QuestionError = λ q t. unless_due (literals_due (map asked list) t.schema) (where_sorted n.watches n.mappings q list t (before_values n.watches n.mappings q list t)) in
    let answered : answer (asked_names n viewers c) viewers q ≡ Ok table = ap (answer (asked_names n viewers c) viewers) is.names ∙ view_answered n viewers c is.route t is.here is.found in
    let keys : known_keys n.watches n.mappings q t.schema ≡ upwards count t.schema =
    ap (λ p. known_keys n.watches n.mappings p t.schema) is.names ∙ ap (λ o. keys_in_order o (op_of n.watches is.route.name) t.schema) is.order in
    ap (λ (r : Result Table QuestionError). continued r (given q)) answered
    ∙ ap (λ (ks : List Key). unless_due (literals_due (map asked list) t.schema) (if begin list ks then Ok (rows_before t.schema ks (values_of t.schema list) t.rows) else Err Unsorted)) keys

-- `locate` of such a view
pub locate_placed : (n : Names) (viewers : List Meaning) (c : Computations) (q : Query) (t : StoredTable) (count : ℕ) (list : List Criterion) → IsInOrder n q t count
    → locate_due (asked_names n viewers c) n.watches n.mappings viewers q list ≡ placed (table_of t) (upwards count t.schema) list
locate_placed n viewers c q t count list is =
    let table = table_of t in
    let given : Query → Table → Result Located QuestionError = λ q t. unless_due (literals_due (map asked list) t.schema) (where_sorted n.watches n.mappings q list t (located n.watches n.mappings q list t)) in
    let answered : answer (asked_names n viewers c) viewers q ≡ Ok table = ap (answer (asked_names n viewers c) viewers) is.names ∙ view_answered n viewers c is.route t is.here is.found in
    let keys : known_keys n.watches n.mappings q t.schema ≡ upwards count t.schema =
    ap (λ p. known_keys n.watches n.mappings p t.schema) is.names ∙ ap (λ o. keys_in_order o (op_of n.watches is.route.name) t.schema) is.order in
    ap (λ (r : Result Table QuestionError). continued r (given q)) answered
    ∙ ap (λ (ks : List Key). unless_due (literals_due (map asked list) t.schema) (if begin list ks then Ok (record {
      position = rows_before t.schema ks (values_of t.schema list) t.rows;
      count = count_by (is_in_range t.schema (values_of t.schema list)) t.rows;
    }) else Err Unsorted)) keys

-- what is placed, by what was found of it
pub placed_is : (t : Table) (keys : List Key) (list : List Criterion) (position count : ℕ) → literals_due (map asked list) t.schema ≡ None → begin list keys ≡ true
    → position ≡ rows_before t.schema keys (values_of t.schema list) t.rows → count ≡ count_by (is_in_range t.schema (values_of t.schema list)) t.rows
    → placed t keys list ≡ Ok (record { position = position; count = count })
placed_is t keys list position count due first place_is count_is =
    let all : Located = record { position = rows_before t.schema keys (values_of t.schema list) t.rows; count = count_by (is_in_range t.schema (values_of t.schema list)) t.rows } in
    ap (λ (d : Option DerivedError). unless_due d (if begin list keys then Ok all else Err Unsorted)) due
    ∙ ap (λ (b : Bool). if b then Ok all else Err Unsorted) first
    ∙ ap (λ (n : ℕ). Ok (record all { position = n })) (sym place_is)
    ∙ ap (λ (n : ℕ). Ok (record { position = position; count = n })) (sym count_is)

-- the values that are asked for are each one value
pub values_alone : (schema : List Attribute) (list : List Criterion) → All (λ (c : Interval). c.high ≡ c.low) (values_of schema list)
values_alone schema [] = All-nil (λ (c : Interval). c.high ≡ c.low)
values_alone schema (c ∷ list) = All-cons (λ (b : Interval). b.high ≡ b.low) (valued schema (asked c)) (values_of schema list) refl (values_alone schema list)

-- criteria that name the first keys have their names
pub names_first : (schema : List Attribute) (list : List Criterion) (keys : List Key) → begin list keys ≡ true
    → map (λ (b : Interval). b.prop) (values_of schema list) ≡ take (length (values_of schema list)) (map (λ (k : Key). k.prop) keys)
names_first schema [] keys e = refl
names_first schema (c ∷ list) [] e = absurd (false≢true e)
names_first schema (c ∷ list) (k ∷ keys) e = cases (same_bytes c.prop k.prop)
    (λ is. ap (λ n. n ∷ map (λ (b : Interval). b.prop) (values_of schema list)) (same_text c.prop k.prop (sym is)) ∙ ap (λ ns. k.prop ∷ ns) (names_first schema list keys (rw is at e)))
    (λ is. absurd (false≢true (rw is at e)))

-- the rows of a table stand in the order of its first properties
pub stand_sorted : (t : StoredTable) (count : ℕ) → IsHeading t.schema → AreRowsOf t.rows t.schema → StandInOrder t count → IsSorted (row_cmp t.schema (upwards count t.schema)) t.rows
stand_sorted t count schema rows stand =
    ascending_sorted t.schema t.rows count schema.limits.distinct schema.limits.some (All-weaker _ _ (λ row is. row_fits_length row t.schema is) t.rows rows.whole) (count_from count t.schema stand.plain).few stand.ascend
