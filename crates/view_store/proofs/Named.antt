-- Views by name: where the one of a name stands, and what becomes of the list.
use Rattle.std.proofs.Common.{◌≡◌, ℕ, zero, suc, ◌<◌, ◌≤◌, Bool, true, false, not, cond, ltb, List, [], ◌∷◌, ◌++◌, length, map, get_or, set, position, Some, None, refl, ap, ◌∙◌, arith}
use Rattle.std.specs.Prelude.{find, remove}
use Rattle.std.specs.Option.{option_map}
use Rattle.std.specs.List.{position_or_len}
use Rattle.std.proofs.lemmas.List.Sums.{prefix_len_passes}
use Rattle.std.proofs.lemmas.List.Quantifiers.{position-Some}
use Rattle.std.proofs.lemmas.Bool.Decides.{nat_tests}
use Rattle.mk_value.specs.Names.{same_bytes}
use Rattle.mk_value.specs.Paths.{Route}
use Rattle.tables.specs.Tables.{StoredTable}
use Rattle.view_store.specs.Edits.{Edit, edited}
use Rattle.view_store.specs.Views.{NamedTable, view_names, table_of, with_view, without_view, edited_views, named}

-- the first name of a list that is this one stands at a place
pub record IsPlace (names : List (List ℕ)) (name : List ℕ) (at : ℕ) : Type 0 where
  pub within : at < length names
  pub here : same_bytes (get_or names at []) name ≡ true
  pub before : (k : ℕ) → k < at → same_bytes (get_or names k []) name ≡ false

pub IsPlace-position : (names : List (List ℕ)) (name : List ℕ) (at : ℕ) → position (λ known. same_bytes known name) names ≡ Some at → IsPlace names name at
IsPlace-position names name at e =
    let found = position-Some (λ known. same_bytes known name) names at [] e in
    record { within = found.0; here = found.1; before = found.2 }

-- none of the names is this one
pub record IsAbsent (names : List (List ℕ)) (name : List ℕ) : Type 0 where
  pub other : (k : ℕ) → k < length names → same_bytes (get_or names k []) name ≡ false

no_position : (names : List (List ℕ)) (name : List ℕ) (n : ℕ) (b : Bool) → ltb n (length names) ≡ b → cond b (Some n) None ≡ None → length names ≤ n
no_position names name n true e h = absurd (let f : Some n ≡ None = h in cc)
no_position names name n false e h = grind (arith, nat_tests)

not-true : (b : Bool) → not b ≡ true → b ≡ false
not-true true e = absurd (let f : false ≡ true = e in cc)
not-true false e = refl

pub IsAbsent-position : (names : List (List ℕ)) (name : List ℕ) → position (λ known. same_bytes known name) names ≡ None → IsAbsent names name
IsAbsent-position names name e =
    let test = λ (known : List ℕ). same_bytes known name in
    let n = position_or_len test names in
    let long = no_position names name n (ltb n (length names)) refl e in
    record { other = λ k p. not-true (test (get_or names k [])) (prefix_len_passes (λ known. not (test known)) names k [] (omega arith)) }

abbrev pub no_view : NamedTable
no_view = record { name = []; table = record { schema = []; rows = []; homes = [] } }

next_place : (name' name : List ℕ) (names : List (List ℕ)) (at : ℕ) → IsPlace (name' ∷ names) name (suc at) → IsPlace names name at
next_place name' name names at h =
    let within = h.within in
    record { within = omega arith; here = h.here; before = λ k p. h.before (suc k) (omega arith) }

next_absent : (name' name : List ℕ) (names : List (List ℕ)) → IsAbsent (name' ∷ names) name → IsAbsent names name
next_absent name' name names h = record { other = λ k p. h.other (suc k) (omega arith) }

-- the table of a name that stands at a place
pub table_of-place : (views : List NamedTable) (name : List ℕ) (at : ℕ) → IsPlace (view_names views) name at → table_of views name ≡ Some (get_or views at no_view).table
table_of-place [] name at h = absurd (let within = h.within in omega arith)
table_of-place (v ∷ rest) name zero h = ap (λ b. option_map (λ (v : NamedTable). v.table) (cond b (Some v) (find (λ w. same_bytes w.name name) rest))) h.here
table_of-place (v ∷ rest) name (suc at) h =
    ap (λ b. option_map (λ (v : NamedTable). v.table) (cond b (Some v) (find (λ w. same_bytes w.name name) rest))) (h.before 0 (omega arith))
    ∙ table_of-place rest name at (next_place v.name name (view_names rest) at h)

pub table_of-absent : (views : List NamedTable) (name : List ℕ) → IsAbsent (view_names views) name → table_of views name ≡ None
table_of-absent [] name h = refl
table_of-absent (v ∷ rest) name h =
    ap (λ b. option_map (λ (v : NamedTable). v.table) (cond b (Some v) (find (λ w. same_bytes w.name name) rest))) (h.other 0 (omega arith))
    ∙ table_of-absent rest name (next_absent v.name name (view_names rest) h)

-- a view with another table
abbrev pub retabled : NamedTable → StoredTable → NamedTable
retabled v t = record { name = v.name; table = t }

pub with_view-place : (views : List NamedTable) (name : List ℕ) (at : ℕ) (t : StoredTable) → IsPlace (view_names views) name at → with_view views name t ≡ set views at (retabled (get_or views at no_view) t)
with_view-place [] name at t h = absurd (let within = h.within in omega arith)
with_view-place (v ∷ rest) name zero t h = ap (λ b. cond b (retabled v t ∷ rest) (v ∷ with_view rest name t)) h.here
with_view-place (v ∷ rest) name (suc at) t h =
    ap (λ b. cond b (retabled v t ∷ rest) (v ∷ with_view rest name t)) (h.before 0 (omega arith))
    ∙ ap (λ vs. v ∷ vs) (with_view-place rest name at t (next_place v.name name (view_names rest) at h))

pub with_view-absent : (views : List NamedTable) (name : List ℕ) (t : StoredTable) → IsAbsent (view_names views) name → with_view views name t ≡ views ++ record { name = name; table = t } ∷ []
with_view-absent [] name t h = refl
with_view-absent (v ∷ rest) name t h =
    ap (λ b. cond b (retabled v t ∷ rest) (v ∷ with_view rest name t)) (h.other 0 (omega arith))
    ∙ ap (λ vs. v ∷ vs) (with_view-absent rest name t (next_absent v.name name (view_names rest) h))

pub without_view-place : (views : List NamedTable) (name : List ℕ) (at : ℕ) → IsPlace (view_names views) name at → without_view views name ≡ remove views at
without_view-place [] name at h = absurd (let within = h.within in omega arith)
without_view-place (v ∷ rest) name zero h = ap (λ b. cond b rest (v ∷ without_view rest name)) h.here
without_view-place (v ∷ rest) name (suc at) h =
    ap (λ b. cond b rest (v ∷ without_view rest name)) (h.before 0 (omega arith))
    ∙ ap (λ vs. v ∷ vs) (without_view-place rest name at (next_place v.name name (view_names rest) at h))

pub edited_views-place : (views : List NamedTable) (route : Route) (edit : Edit) (at : ℕ) → IsPlace (view_names views) route.name at
    → edited_views views route edit ≡ set views at (retabled (get_or views at no_view) (edited route.steps edit (get_or views at no_view).table))
edited_views-place [] route edit at h = absurd (let within = h.within in omega arith)
edited_views-place (v ∷ rest) route edit zero h = ap (λ b. cond b (retabled v (edited route.steps edit v.table) ∷ rest) (v ∷ edited_views rest route edit)) h.here
edited_views-place (v ∷ rest) route edit (suc at) h =
    ap (λ b. cond b (retabled v (edited route.steps edit v.table) ∷ rest) (v ∷ edited_views rest route edit)) (h.before 0 (omega arith))
    ∙ ap (λ vs. v ∷ vs) (edited_views-place rest route edit at (next_place v.name route.name (view_names rest) at h))

-- Names beside their tables.
pub view_names-named : (names : List (List ℕ)) (tables : List StoredTable) → length names ≡ length tables → view_names (named names tables) ≡ names
view_names-named [] tables e = refl
view_names-named (n ∷ names) [] e = absurd (omega arith)
view_names-named (n ∷ names) (t ∷ tables) e = ap (λ ns. n ∷ ns) (view_names-named names tables (omega arith))

pub length-named : (names : List (List ℕ)) (tables : List StoredTable) → length names ≡ length tables → length (named names tables) ≡ length names
length-named [] tables e = refl
length-named (n ∷ names) [] e = absurd (omega arith)
length-named (n ∷ names) (t ∷ tables) e = let f = length-named names tables (omega arith) in omega (arith, f)

pub named-set : (names : List (List ℕ)) (tables : List StoredTable) (at : ℕ) (t : StoredTable) → length names ≡ length tables → at < length tables
    → named names (set tables at t) ≡ set (named names tables) at (retabled (get_or (named names tables) at no_view) t)
named-set [] tables at t e p = absurd (omega arith)
named-set (n ∷ names) [] at t e p = absurd (omega arith)
named-set (n ∷ names) (u ∷ tables) zero t e p = refl
named-set (n ∷ names) (u ∷ tables) (suc at) t e p = ap (λ vs. record { name = n; table = u } ∷ vs) (named-set names tables at t (omega arith) (omega arith))

pub get_or-named : (names : List (List ℕ)) (tables : List StoredTable) (at : ℕ) (d : StoredTable) → length names ≡ length tables → at < length tables → (get_or (named names tables) at no_view).table ≡ get_or tables at d
get_or-named [] tables at d e p = absurd (omega arith)
get_or-named (n ∷ names) [] at d e p = absurd (omega arith)
get_or-named (n ∷ names) (u ∷ tables) zero d e p = refl
get_or-named (n ∷ names) (u ∷ tables) (suc at) d e p = get_or-named names tables at d (omega arith) (omega arith)

pub named-remove : (names : List (List ℕ)) (tables : List StoredTable) (at : ℕ) → length names ≡ length tables → named (remove names at) (remove tables at) ≡ remove (named names tables) at
named-remove [] [] zero e = refl
named-remove [] [] (suc at) e = refl
named-remove [] (t ∷ tables) at e = absurd (omega arith)
named-remove (n ∷ names) [] at e = absurd (omega arith)
named-remove (n ∷ names) (t ∷ tables) zero e = refl
named-remove (n ∷ names) (t ∷ tables) (suc at) e = ap (λ vs. record { name = n; table = t } ∷ vs) (named-remove names tables at (omega arith))

pub named-push : (names : List (List ℕ)) (tables : List StoredTable) (name : List ℕ) (t : StoredTable) → length names ≡ length tables
    → named (names ++ name ∷ []) (tables ++ t ∷ []) ≡ named names tables ++ record { name = name; table = t } ∷ []
named-push [] [] name t e = refl
named-push [] (u ∷ tables) name t e = absurd (omega arith)
named-push (n ∷ names) [] name t e = absurd (omega arith)
named-push (n ∷ names) (u ∷ tables) name t e = ap (λ vs. record { name = n; table = u } ∷ vs) (named-push names tables name t (omega arith))

-- the tables of named ones are those that were named
pub tables_named : (names : List (List ℕ)) (tables : List StoredTable) → length names ≡ length tables → map (λ (v : NamedTable). v.table) (named names tables) ≡ tables
tables_named [] [] e = refl
tables_named [] (t ∷ tables) e = absurd (omega (arith, e))
tables_named (name ∷ names) [] e = absurd (omega (arith, e))
tables_named (name ∷ names) (t ∷ tables) e = ap (λ ts. t ∷ ts) (tables_named names tables (omega (arith, e)))
