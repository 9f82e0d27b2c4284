-- Names of views: whether one of them stands among those before.
use Rattle.std.proofs.Common.{◌≡◌, ℕ, Bool, true, false, cond, ⊎_elim, List, [], ◌∷◌, ◌++◌, map, reverse, Some, None, Option, refl, sym, ◌∙◌, ap, subst, arith, Contains}
use Rattle.std.specs.Prelude.{find}
use Rattle.std.specs.Option.{is_some, MatchOption, option_map}
use Rattle.std.specs.Cmp.Lexicographic.{same_text, nat_list_eq_equiv}
use Rattle.std.proofs.lemmas.Bool.{false≢true}
use Rattle.std.proofs.lemmas.List.{map-append, reverse-append}
use Rattle.std.proofs.lemmas.List.Elements.{Contains-append_left, Contains-push, Contains-push_cases}
use Rattle.mk_value.specs.Names.{same_bytes}
use Rattle.tables.specs.Tables.{StoredTable}
use Rattle.view_store.specs.Views.{NamedTable, table_of, view_names, with_view}
use Rattle.stream_codec.specs.Stages.{names_before}

reverse_cons : {X : Type 0} (x : X) (xs : List X) → reverse (x ∷ xs) ≡ reverse xs ++ x ∷ []
reverse_cons x xs = reverse-append (x ∷ []) xs

-- one view more
pub names_before-push : (views : List NamedTable) (v : NamedTable) → names_before (views ++ v ∷ []) ≡ v.name ∷ names_before views
names_before-push views v =
    let name : NamedTable → List ℕ = λ w. w.name in
    ap (λ (l : List (List ℕ)). reverse l) (map-append name views (v ∷ [])) ∙ reverse-append (map name views) (v.name ∷ [])

abbrev pub first_of : Bool → NamedTable → Option StoredTable → Option StoredTable
first_of b v rest = cond b (Some v.table) rest

table_of-cons : (v : NamedTable) (views : List NamedTable) (name : List ℕ) → table_of (v ∷ views) name ≡ first_of (same_bytes v.name name) v (table_of views name)
table_of-cons v views name = by_case (same_bytes v.name name)
  where
    by_case : (b : Bool) → option_map (λ (w : NamedTable). w.table) (cond b (Some v) (find (λ (w : NamedTable). same_bytes w.name name) views)) ≡ first_of b v (table_of views name)
    by_case true = refl
    by_case false = refl

-- none of that name came
absent_more : (v : NamedTable) (views : List NamedTable) (name : List ℕ) (b : Bool) → same_bytes v.name name ≡ b → (table_of views name ≡ None → Contains (names_before views) name → ⊥)
    → first_of b v (table_of views name) ≡ None → Contains (names_before views ++ v.name ∷ []) name → ⊥
absent_more v views name true same further some has = cc
absent_more v views name false other further rest has =
    ⊎_elim (λ before. further rest before) (λ (here : v.name ≡ name). false≢true (sym other ∙ subst (λ (m : List ℕ). same_bytes v.name m ≡ true) here (nat_list_eq_equiv.refl v.name)))
    (Contains-push_cases (names_before views) v.name name has)

pub absent : (views : List NamedTable) (name : List ℕ) → table_of views name ≡ None → Contains (names_before views) name → ⊥
absent [] name none has = let below = has.1 in omega (arith, below)
absent (v ∷ views) name none has =
    absent_more v views name (same_bytes v.name name) refl (absent views name) (sym (table_of-cons v views name) ∙ none)
    (subst (λ (l : List (List ℕ)). Contains l name) (reverse_cons v.name (view_names views)) has)

-- one came
present_more : (v : NamedTable) (views : List NamedTable) (name : List ℕ) (t : StoredTable) (b : Bool) → same_bytes v.name name ≡ b → (table_of views name ≡ Some t → Contains (names_before views) name)
    → first_of b v (table_of views name) ≡ Some t → Contains (names_before views ++ v.name ∷ []) name
present_more v views name t true same further here = subst (λ (m : List ℕ). Contains (names_before views ++ v.name ∷ []) m) (same_text v.name name (sym same)) (Contains-push (names_before views) v.name)
present_more v views name t false other further rest = Contains-append_left (names_before views) (v.name ∷ []) name (further rest)

pub present : (views : List NamedTable) (name : List ℕ) (t : StoredTable) → table_of views name ≡ Some t → Contains (names_before views) name
present [] name t some = absurd (let e : ◌≡◌ {A = Option StoredTable} None (Some t) = some in cc)
present (v ∷ views) name t some =
    subst (λ (l : List (List ℕ)). Contains l name) (sym (reverse_cons v.name (view_names views)))
    (present_more v views name t (same_bytes v.name name) refl (present views name t) (sym (table_of-cons v views name) ∙ some))

-- a view of a new name is put behind the others
with_view_more : (v : NamedTable) (views : List NamedTable) (name : List ℕ) (t : StoredTable) (b : Bool) → (table_of views name ≡ None → with_view views name t ≡ views ++ record { name = name; table = t } ∷ [])
    → first_of b v (table_of views name) ≡ None → cond b (record { name = v.name; table = t } ∷ views) (v ∷ with_view views name t) ≡ v ∷ (views ++ record { name = name; table = t } ∷ [])
with_view_more v views name t true further some = cc
with_view_more v views name t false further rest = ap (λ (l : List NamedTable). v ∷ l) (further rest)

pub with_view_new : (views : List NamedTable) (name : List ℕ) (t : StoredTable) → table_of views name ≡ None → with_view views name t ≡ views ++ record { name = name; table = t } ∷ []
with_view_new [] name t none = refl
with_view_new (v ∷ views) name t none = with_view_more v views name t (same_bytes v.name name) (with_view_new views name t) (sym (table_of-cons v views name) ∙ none)

-- what a look-up says
pub looked_some : {X : Type 0} (r : Option X) (P : Type 0) (Q : X → Type 0) → MatchOption r P Q → true ≡ is_some r → (x : X) × Q x
looked_some None P Q looked some = absurd (false≢true (sym some))
looked_some (Some x) P Q looked some = (x, looked)

pub looked_none : {X : Type 0} (r : Option X) (P : Type 0) (Q : X → Type 0) → MatchOption r P Q → false ≡ is_some r → P
looked_none None P Q looked none = looked
looked_none (Some x) P Q looked none = absurd (false≢true none)
