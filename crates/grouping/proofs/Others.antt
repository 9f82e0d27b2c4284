-- The other properties of a schema: those that a filter keeps, whether the names are once or again.
use Rattle.std.proofs.Common.{◌≡◌, ℕ, Bool, true, false, not, cond, ◌||◌, List, [], ◌∷◌, get_or, filter, refl, ap, sym, subst, ◌∙◌, inl, inr}
use Rattle.std.specs.Cmp.Lexicographic.{same_text, nat_list_eq_equiv}
use Rattle.std.proofs.lemmas.List.Folds.{list_any_at}
use Rattle.mk_value.specs.Names.{same_bytes}
use Rattle.mk_value.specs.Heading.{Attribute, names_of, HaveDistinctNames}
use Rattle.relations.specs.Columns.{column_of}
use Rattle.relations.specs.Rows.{is_named, has, domain_of, is_among, once, others, properties_of}
use Rattle.relations.proofs.Faults.{cases}
use Rattle.relations.proofs.Headings.{column_here}
use Rattle.relations.proofs.Names.{property_at_column}
use Rattle.relations.proofs.Ascending.{IsIn, place_of}

-- a name is one of some names where it is one of them once
apart_among : (first name : List ℕ) (names : List (List ℕ)) → same_bytes first name ≡ false → is_among (filter (λ other. not (same_bytes first other)) names) name ≡ is_among names name
apart_among first name [] h = refl
apart_among first name (n ∷ names) h = at (same_bytes first n) refl (apart_among first name names h)
  where
    at : (b : Bool) → same_bytes first n ≡ b → is_among (filter (λ other. not (same_bytes first other)) names) name ≡ is_among names name
        → is_among (cond (not b) (n ∷ filter (λ other. not (same_bytes first other)) names) (filter (λ other. not (same_bytes first other)) names)) name ≡ (same_bytes n name || is_among names name)
    at true e rest =
        let no : same_bytes n name ≡ false = subst (λ z. same_bytes z name ≡ false) (same_text first n (sym e)) h in
        rest ∙ ap (λ b. b || is_among names name) (sym no)
    at false e rest = ap (λ b. same_bytes n name || b) rest

once_among : (names : List (List ℕ)) (name : List ℕ) → is_among (once names) name ≡ is_among names name
once_among [] name = refl
once_among (first ∷ names) name = cases (same_bytes first name)
    (λ t. ap (λ b. b || is_among (filter (λ other. not (same_bytes first other)) (once names)) name) t ∙ sym (ap (λ b. b || is_among names name) t))
    (λ f. ap (λ b. same_bytes first name || b) (apart_among first name (once names) f ∙ once_among names name))

filter_alike : {X : Type 0} (p q : X → Bool) (xs : List X) → ((x : X) → p x ≡ q x) → filter p xs ≡ filter q xs
filter_alike p q [] alike = refl
filter_alike p q (x ∷ xs) alike = λ i. cond (alike x i) (x ∷ filter_alike p q xs alike i) (filter_alike p q xs alike i)

pub others_once : (schema : List Attribute) (keys : List (List ℕ)) → others schema (once keys) ≡ others schema keys
others_once schema keys =
    filter_alike (λ name. not (is_among (once keys) name)) (λ name. not (is_among keys name)) (names_of schema) (λ name. ap not (once_among keys name))

-- the properties of the other names are those of the schema that are not named
abbrev pub is_other : List (List ℕ) → Attribute → Bool
is_other names a = not (is_among names a.name)

own_property : (schema : List Attribute) (a : Attribute) → HaveDistinctNames schema → IsIn a schema → record { name = a.name; domain = domain_of schema a.name } ≡ a
own_property schema a distinct h =
    let r = place_of schema a h in
    let here : has schema a.name ≡ true = list_any_at (is_named a.name) schema r.0 a r.1 (ap (λ (x : Attribute). same_bytes x.name a.name) (r.2 a) ∙ nat_list_eq_equiv.refl a.name) in
    let column : column_of schema a.name ≡ r.0 = ap (λ (x : Attribute). column_of schema x.name) (sym (r.2 a)) ∙ column_here schema r.0 a distinct r.1 in
    sym (property_at_column schema a.name a here) ∙ ap (λ k. get_or schema k a) column ∙ r.2 a

kept_properties : (schema : List Attribute) (names : List (List ℕ)) (xs : List Attribute) → ((a : Attribute) → IsIn a xs → record { name = a.name; domain = domain_of schema a.name } ≡ a)
    → properties_of schema (filter (λ name. not (is_among names name)) (names_of xs)) ≡ filter (is_other names) xs
kept_properties schema names [] own = refl
kept_properties schema names (a ∷ xs) own = at (not (is_among names a.name)) (own a (inl refl)) (kept_properties schema names xs (λ x h. own x (inr h)))
  where
    at : (b : Bool) → record { name = a.name; domain = domain_of schema a.name } ≡ a
        → properties_of schema (filter (λ name. not (is_among names name)) (names_of xs)) ≡ filter (is_other names) xs
        → properties_of schema (cond b (a.name ∷ filter (λ name. not (is_among names name)) (names_of xs)) (filter (λ name. not (is_among names name)) (names_of xs))) ≡ cond b (a ∷ filter (is_other names) xs) (filter (is_other names) xs)
    at true e rest = λ i. e i ∷ rest i
    at false e rest = rest

pub other_properties_are : (schema : List Attribute) (names : List (List ℕ)) → HaveDistinctNames schema → properties_of schema (others schema names) ≡ filter (λ a. not (is_among names a.name)) schema
other_properties_are schema names distinct = kept_properties schema names schema (λ a h. own_property schema a distinct h)
