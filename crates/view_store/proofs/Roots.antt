-- Roots: what each call leaves of one.
use Rattle.std.proofs.Common.{◌≡◌, ◌≢◌, ℕ, suc, ◌<◌, ◌≤◌, true, false, List, [], ◌∷◌, ◌++◌, length, get_or, set, take, drop, Some, None, Result, Ok, Err, OnOk, OnErr, All, ⊎_elim, ap, sym, subst, ◌∙◌, arith}
use Rattle.std.specs.Prelude.{remove, IsSome, ◌⊎◌}
use Rattle.std.specs.Option.{option_map}
use Rattle.std.specs.List.{AllPairs}
use Rattle.std.specs.Cmp.Lexicographic.{bytes_decides}
use Rattle.std.proofs.lemmas.Bool.{false≢true}
use Rattle.std.proofs.lemmas.List.{length-set, length_push, get_or_default, get_or-map}
use Rattle.std.proofs.lemmas.List.Edits.{length-remove}
use Rattle.std.proofs.lemmas.List.Elements.{All-set, All-append, All-take, All-drop, All-push}
use Rattle.std.proofs.lemmas.List.Quantifiers.{all_pairs_push, all_pairs_remove}
use Rattle.mk_value.specs.Names.{same_bytes}
use Rattle.mk_value.specs.Paths.{Route}
use Rattle.view_store.specs.declared.error.EditError.{EditError}
use Rattle.view_store.specs.declared.error.EditError.TheVariants.{NoView}
use Rattle.view_store.specs.Refusals.{AnswersDue, at_view, due, due_in, look_due, look_due_in}
use Rattle.tables.specs.Tables.{StoredTable, IsTable}
use Rattle.tables.specs.Shapes.{HasHomes}
use Rattle.tables.specs.Rests.{homed_columns, RestsOn}
use Rattle.view_store.specs.Edits.{Edit, edited, table_at}
use Rattle.view_store.specs.Rests.{ViewsRestOn}
use Rattle.view_store.proofs.Resting.{views_rest-self, views_rest-set, views_rest-remove, views_rest-push}
use Rattle.mk_value.specs.Limits.{max_structure, max_views}
use Rattle.struct_text.specs.Lengths.{structure_length}
use Rattle.view_store.specs.Views.{NamedTable, IsView, IsRoot, view_names, named, table_of, with_view, without_view, edited_views, view_at}
use Rattle.view_store.proofs.Named.{IsPlace, IsAbsent, no_view, retabled, table_of-place, table_of-absent, with_view-place, with_view-absent, without_view-place, edited_views-place, view_names-named, length-named, named-set, named-remove, named-push, get_or-named}

-- names with the same bytes are one
pub same_name : (a b : List ℕ) → same_bytes a b ≡ true → a ≡ b
same_name a b e = (bytes_decides a b).0 e

other_name : (a b : List ℕ) → same_bytes a b ≡ false → a ≢ b
other_name a b e f = false≢true (sym e ∙ (bytes_decides a b).1 f)

distinct_names : (names : List (List ℕ)) (tables : List StoredTable) → IsRoot names tables → AllPairs (λ a b. a ≢ b) names
distinct_names names tables root = subst (AllPairs (λ a b. a ≢ b)) (view_names-named names tables root.paired) root.views.distinct

-- the homes of a view have its shape
abbrev IsShaped : NamedTable → Type 0
IsShaped v = HasHomes v.table

-- a table given another
pub root-set : (names : List (List ℕ)) (tables : List StoredTable) (at : ℕ) (t : StoredTable) → IsRoot names tables → at < length tables → IsTable t → HasHomes t
    → structure_length (get_or (named names tables) at no_view).name t.schema ≤ max_structure → IsRoot names (set tables at t)
root-set names tables at t root p whole homes short =
    let views = named names tables in
    let paired = root.paired in
    let long = length-named names tables paired in
    let new_paired : length names ≡ length (set tables at t) = let e = length-set tables at t in omega (arith, e) in
    let few = root.views.few in
    let old : IsView (get_or views at no_view) = root.views.whole at no_view (omega arith) in
    record {
      paired = new_paired;
      views = record {
        few = let new_long = length-named names (set tables at t) new_paired in omega arith;
        distinct = subst (AllPairs (λ a b. a ≢ b)) (sym (view_names-named names (set tables at t) new_paired)) (distinct_names names tables root);
        whole = subst (All IsView) (sym (named-set names tables at t paired p))
            (All-set IsView views at (retabled (get_or views at no_view) t) (record { name = old.name; table = whole; short = short }) root.views.whole);
      };
      shaped = subst (All IsShaped) (sym (named-set names tables at t paired p)) (All-set IsShaped views at (retabled (get_or views at no_view) t) homes root.shaped);
    }

pub All-remove : {X : Type 0} (P : X → Type 0) (xs : List X) (at : ℕ) → All P xs → All P (remove xs at)
All-remove P xs at h = All-append P (take at xs) (drop (suc at) xs) (All-take P at xs h) (All-drop P (suc at) xs h)

-- a view removed
pub root-remove : (names : List (List ℕ)) (tables : List StoredTable) (at : ℕ) → IsRoot names tables → at < length names → IsRoot (remove names at) (remove tables at)
root-remove names tables at root p =
    let paired = root.paired in
    let long = length-named names tables paired in
    let shorter = length-remove names at p in
    let new_paired : length (remove names at) ≡ length (remove tables at) = let e = length-remove tables at (omega arith) in omega arith in
    let few = root.views.few in
    record {
      paired = new_paired;
      views = record {
        few = let new_long = length-named (remove names at) (remove tables at) new_paired in omega arith;
        distinct = subst (AllPairs (λ a b. a ≢ b)) (sym (view_names-named (remove names at) (remove tables at) new_paired))
            (all_pairs_remove (λ a b. a ≢ b) names at p (distinct_names names tables root));
        whole = subst (All IsView) (sym (named-remove names tables at paired)) (All-remove IsView (named names tables) at root.views.whole);
      };
      shaped = subst (All IsShaped) (sym (named-remove names tables at paired)) (All-remove IsShaped (named names tables) at root.shaped);
    }

-- a view added last
pub root-push : (names : List (List ℕ)) (tables : List StoredTable) (name : List ℕ) (t : StoredTable) → IsRoot names tables → IsAbsent names name → length (named names tables) < max_views
    → IsView (record { name = name; table = t }) → HasHomes t → IsRoot (names ++ name ∷ []) (tables ++ t ∷ [])
root-push names tables name t root absent room view homes =
    let paired = root.paired in
    let long = length-named names tables paired in
    let longer = length_push names name in
    let new_paired : length (names ++ name ∷ []) ≡ length (tables ++ t ∷ []) = let e = length_push tables t in omega arith in
    record {
      paired = new_paired;
      views = record {
        few = let new_long = length-named (names ++ name ∷ []) (tables ++ t ∷ []) new_paired in omega arith;
        distinct = subst (AllPairs (λ a b. a ≢ b)) (sym (view_names-named (names ++ name ∷ []) (tables ++ t ∷ []) new_paired))
            (all_pairs_push (λ a b. a ≢ b) names name (distinct_names names tables root)
            (λ k d p. other_name (get_or names k d) name (subst (λ n. same_bytes n name ≡ false) (get_or_default names k [] d p) (absent.other k p))));
        whole = subst (All IsView) (sym (named-push names tables name t paired)) (All-push IsView (named names tables) (record { name = name; table = t }) root.views.whole view);
      };
      shaped = subst (All IsShaped) (sym (named-push names tables name t paired)) (All-push IsShaped (named names tables) (record { name = name; table = t }) root.shaped homes);
    }

-- where the names of the views are those of the list, a place in it is one among the views
pub place_in_views : (names : List (List ℕ)) (tables : List StoredTable) (name : List ℕ) (at : ℕ) → length names ≡ length tables → IsPlace names name at → IsPlace (view_names (named names tables)) name at
place_in_views names tables name at paired place = subst (λ ns. IsPlace ns name at) (sym (view_names-named names tables paired)) place

pub absent_in_views : (names : List (List ℕ)) (tables : List StoredTable) (name : List ℕ) → length names ≡ length tables → IsAbsent names name → IsAbsent (view_names (named names tables)) name
absent_in_views names tables name paired absent = subst (λ ns. IsAbsent ns name) (sym (view_names-named names tables paired)) absent

-- The views of a root by its names and tables.
pub found_table : (names : List (List ℕ)) (tables : List StoredTable) (views : List NamedTable) (name : List ℕ) (at : ℕ) (t : StoredTable) → named names tables ≡ views → length names ≡ length tables
    → IsPlace names name at → at < length tables → t ≡ get_or tables at t → table_of views name ≡ Some t
found_table names tables views name at t e paired place p read =
    ap (λ vs. table_of vs name) (sym e) ∙ table_of-place (named names tables) name at (place_in_views names tables name at paired place)
    ∙ ap Some (get_or-named names tables at t paired p ∙ sym read)

pub absent_table : (names : List (List ℕ)) (tables : List StoredTable) (views : List NamedTable) (name : List ℕ) → named names tables ≡ views → length names ≡ length tables → IsAbsent names name → table_of views name ≡ None
absent_table names tables views name e paired absent =
    ap (λ vs. table_of vs name) (sym e) ∙ table_of-absent (named names tables) name (absent_in_views names tables name paired absent)

-- an edit answers what its table is due
pub due-found : (views : List NamedTable) (route : Route) (edit : Edit) (t : StoredTable) → table_of views route.name ≡ Some t → due views route edit ≡ due_in t route.steps edit
due-found views route edit t e = ap (λ o. at_view o (λ t. due_in t route.steps edit)) e

pub look_due-found : (views : List NamedTable) (route : Route) (t : StoredTable) → table_of views route.name ≡ Some t → look_due views route ≡ look_due_in t route.steps
look_due-found views route t e = ap (λ o. at_view o (λ t. look_due_in t route.steps)) e

pub due-absent : {T : Type 0} (views : List NamedTable) (route : Route) (edit : Edit) (r : Result T EditError) → table_of views route.name ≡ None → r ≡ Err NoView → AnswersDue (due views route edit) r
due-absent views route edit r e f = subst (λ o. AnswersDue o r) (sym (ap (λ o. at_view o (λ t. due_in t route.steps edit)) e)) f

pub look_due-absent : {T : Type 0} (views : List NamedTable) (route : Route) (r : Result T EditError) → table_of views route.name ≡ None → r ≡ Err NoView → AnswersDue (look_due views route) r
look_due-absent views route r e f = subst (λ o. AnswersDue o r) (sym (ap (λ o. at_view o (λ t. look_due_in t route.steps)) e)) f

-- the views after the table at a place was edited
pub edited-root : (names : List (List ℕ)) (tables : List StoredTable) (views : List NamedTable) (route : Route) (edit : Edit) (at : ℕ) (t new : StoredTable) → named names tables ≡ views → length names ≡ length tables
    → IsPlace names route.name at → at < length tables → t ≡ get_or tables at t → new ≡ edited route.steps edit t → named names (set tables at new) ≡ edited_views views route edit
edited-root names tables views route edit at t new e paired place p read done =
    let vs = named names tables in
    let here = get_or-named names tables at t paired p ∙ sym read in
    named-set names tables at new paired p
    ∙ ap (λ u. set vs at (retabled (get_or vs at no_view) u)) (done ∙ ap (λ u. edited route.steps edit u) (sym here))
    ∙ sym (edited_views-place vs route edit at (place_in_views names tables route.name at paired place))
    ∙ ap (λ ws. edited_views ws route edit) e

-- the views rest on those before where the table at a place was given another that rests on it
pub rests-set : (names : List (List ℕ)) (tables : List StoredTable) (views : List NamedTable) (at : ℕ) (t new : StoredTable) → named names tables ≡ views → length names ≡ length tables
    → at < length tables → t ≡ get_or tables at t → RestsOn new t → ViewsRestOn (named names (set tables at new)) views
rests-set names tables views at t new e paired p read h =
    let vs = named names tables in
    let here : (get_or vs at no_view).table ≡ t = get_or-named names tables at t paired p ∙ sym read in
    subst (λ ws. ViewsRestOn ws views) (sym (named-set names tables at new paired p))
    (subst (λ ws. ViewsRestOn (set vs at (retabled (get_or vs at no_view) new)) ws) e
    (views_rest-set vs at new (subst (λ u. RestsOn new u) (sym here) h)))

-- and where a view is gone
pub rests-remove : (names : List (List ℕ)) (tables : List StoredTable) (views : List NamedTable) (at : ℕ) → named names tables ≡ views → length names ≡ length tables → ViewsRestOn (named (remove names at) (remove tables at)) views
rests-remove names tables views at e paired =
    subst (λ ws. ViewsRestOn ws views) (sym (named-remove names tables at paired)) (subst (λ ws. ViewsRestOn (remove (named names tables) at) ws) e (views_rest-remove (named names tables) at))

-- and where one without homes was added
pub rests-push : (names : List (List ℕ)) (tables : List StoredTable) (views : List NamedTable) (name : List ℕ) (t : StoredTable) → named names tables ≡ views → length names ≡ length tables → homed_columns t ≡ []
    → ViewsRestOn (named (names ++ name ∷ []) (tables ++ t ∷ [])) views
rests-push names tables views name t e paired none =
    subst (λ ws. ViewsRestOn ws views) (sym (named-push names tables name t paired))
    (subst (λ ws. ViewsRestOn (named names tables ++ record { name = name; table = t } ∷ []) ws) e (views_rest-push (named names tables) name t none))

-- the views after the table at a place was given another
pub replaced-root : (names : List (List ℕ)) (tables : List StoredTable) (views : List NamedTable) (name : List ℕ) (at : ℕ) (t : StoredTable) → named names tables ≡ views → length names ≡ length tables
    → IsPlace names name at → at < length tables → named names (set tables at t) ≡ with_view views name t
replaced-root names tables views name at t e paired place p =
    named-set names tables at t paired p
    ∙ sym (with_view-place (named names tables) name at t (place_in_views names tables name at paired place))
    ∙ ap (λ vs. with_view vs name t) e

pub added-root : (names : List (List ℕ)) (tables : List StoredTable) (views : List NamedTable) (name : List ℕ) (t : StoredTable) → named names tables ≡ views → length names ≡ length tables
    → IsAbsent names name → named (names ++ name ∷ []) (tables ++ t ∷ []) ≡ with_view views name t
added-root names tables views name t e paired absent =
    named-push names tables name t paired
    ∙ sym (with_view-absent (named names tables) name t (absent_in_views names tables name paired absent))
    ∙ ap (λ vs. with_view vs name t) e

pub dropped-root : (names : List (List ℕ)) (tables : List StoredTable) (views : List NamedTable) (name : List ℕ) (at : ℕ) → named names tables ≡ views → length names ≡ length tables
    → IsPlace names name at → named (remove names at) (remove tables at) ≡ without_view views name
dropped-root names tables views name at e paired place =
    named-remove names tables at paired
    ∙ sym (without_view-place (named names tables) name at (place_in_views names tables name at paired place))
    ∙ ap (λ vs. without_view vs name) e

-- the structure text stays short where the schema stays
pub short_at : (names : List (List ℕ)) (tables : List StoredTable) (at : ℕ) (t : StoredTable) → IsRoot names tables → at < length tables → t ≡ get_or tables at t
    → structure_length (get_or (named names tables) at no_view).name t.schema ≤ max_structure
short_at names tables at t root p read =
    let long = length-named names tables root.paired in
    let paired = root.paired in
    let old : IsView (get_or (named names tables) at no_view) = root.views.whole at no_view (omega arith) in
    subst (λ (u : StoredTable). structure_length (get_or (named names tables) at no_view).name u.schema ≤ max_structure) (get_or-named names tables at t paired p ∙ sym read) old.short

-- the name at a place of a name
pub name_at : (names : List (List ℕ)) (tables : List StoredTable) (name : List ℕ) (at : ℕ) → length names ≡ length tables → IsPlace names name at → (get_or (named names tables) at no_view).name ≡ name
name_at names tables name at paired place =
    let long = length-named names tables paired in
    let within = place.within in
    sym (get_or-map (λ (v : NamedTable). v.name) (named names tables) at no_view [] (omega arith))
    ∙ ap (λ ns. get_or ns at []) (view_names-named names tables paired) ∙ same_name (get_or names at []) name place.here

-- a root after a view was added last, or memory was wanting
pub root-pushed : {T E : Type 0} (r : Result T E) (names new_names : List (List ℕ)) (tables new_tables : List StoredTable) (name : List ℕ) (t : StoredTable)
    → OnOk r (new_names ≡ names ++ name ∷ []) → OnOk r (new_tables ≡ tables ++ t ∷ []) → OnErr r (new_names ≡ names) → OnErr r (new_tables ≡ tables)
    → IsRoot (names ++ name ∷ []) (tables ++ t ∷ []) → IsRoot names tables → IsRoot new_names new_tables
root-pushed (Ok x) names new_names tables new_tables name t e f g h more root = subst (λ ns. IsRoot ns new_tables) (sym e) (subst (λ ts. IsRoot (names ++ name ∷ []) ts) (sym f) more)
root-pushed (Err x) names new_names tables new_tables name t e f g h more root = subst (λ ns. IsRoot ns new_tables) (sym g) (subst (λ ts. IsRoot names ts) (sym h) root)

pub rests-pushed : {T E : Type 0} (r : Result T E) (names new_names : List (List ℕ)) (tables new_tables : List StoredTable) (name : List ℕ) (t : StoredTable) (views : List NamedTable)
    → OnOk r (new_names ≡ names ++ name ∷ []) → OnOk r (new_tables ≡ tables ++ t ∷ []) → OnErr r (new_names ≡ names) → OnErr r (new_tables ≡ tables)
    → named names tables ≡ views → ViewsRestOn (named (names ++ name ∷ []) (tables ++ t ∷ [])) views → ViewsRestOn (named new_names new_tables) views
rests-pushed (Ok x) names new_names tables new_tables name t views e f g h same more =
    subst (λ ns. ViewsRestOn (named ns new_tables) views) (sym e) (subst (λ ts. ViewsRestOn (named (names ++ name ∷ []) ts) views) (sym f) more)
rests-pushed (Err x) names new_names tables new_tables name t views e f g h same more =
    subst (λ ns. ViewsRestOn (named ns new_tables) views) (sym g)
    (subst (λ ts. ViewsRestOn (named names ts) views) (sym h) (subst (λ vs. ViewsRestOn vs views) (sym same) (views_rest-self views)))

pub views-pushed : {T E : Type 0} (r : Result T E) (names new_names : List (List ℕ)) (tables new_tables : List StoredTable) (name : List ℕ) (t : StoredTable) (views : List NamedTable)
    → OnOk r (new_names ≡ names ++ name ∷ []) → OnOk r (new_tables ≡ tables ++ t ∷ []) → named (names ++ name ∷ []) (tables ++ t ∷ []) ≡ views → OnOk r (named new_names new_tables ≡ views)
views-pushed (Ok x) names new_names tables new_tables name t views e f g = ap (λ ns. named ns new_tables) e ∙ ap (λ ts. named (names ++ name ∷ []) ts) f ∙ g
views-pushed (Err x) names new_names tables new_tables name t views e f g = tt

-- there is room where a name is absent
pub room_for : (views : List NamedTable) (name : List ℕ) → table_of views name ≡ None → IsSome (table_of views name) ⊎ (length views < max_views) → length views < max_views
room_for views name e h = ⊎_elim (λ (some : IsSome (table_of views name)). absurd (let f : false ≡ true = subst IsSome e some in cc)) (λ p. p) h

-- the table to which a route leads, from the table of its name
pub view_at-found : (views : List NamedTable) (route : Route) (t : StoredTable) → table_of views route.name ≡ Some t → view_at views route ≡ Some (table_at route.steps t)
view_at-found views route t e = ap (λ o. option_map (λ t. table_at route.steps t) o) e
