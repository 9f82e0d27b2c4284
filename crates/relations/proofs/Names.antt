-- Properties by name and by column.
use Rattle.std.proofs.Common.{◌≡◌, ℕ, suc, ◌<◌, pos, Bool, true, false, not, cond, ltb, List, [], ◌∷◌, length, get_or, map, All, Some, None, refl, ap, sym, subst, ◌∙◌, arith}
use Rattle.std.specs.Prelude.{IsSome}
use Rattle.std.specs.List.{position_or_len}
use Rattle.std.specs.Cmp.Lexicographic.{same_text}
use Rattle.std.proofs.lemmas.Bool.{false≢true}
use Rattle.std.proofs.lemmas.Bool.Decides.{Decides-ltb}
use Rattle.std.proofs.lemmas.List.{length-map, get_or-map}
use Rattle.mk_value.specs.Heading.{Attribute, find}
use Rattle.mk_value.specs.Data.{Datum, integer}
use Rattle.relations.specs.Columns.{column_of}
use Rattle.relations.specs.Refusals.{absent, a_view}
use Rattle.relations.specs.declared.error.DerivedError.TheVariants.{NoProp, KeyIsView}
use Rattle.relations.proofs.Faults.{cases, none_refused, not_false}
use Rattle.relations.specs.Fitting.{is_view}
use Rattle.relations.specs.Rows.{is_named, has, domain_of, value_of}

pub column_in : (schema : List Attribute) (name : List ℕ) → has schema name ≡ true → column_of schema name < length schema
column_in [] name h = absurd (false≢true h)
column_in (a ∷ schema) name h = cases (is_named name a)
    (λ e. rw e (omega arith))
    (λ e. let rest = column_in schema name (rw e at h) in rw e (omega arith))

pub column_past : (schema : List Attribute) (name : List ℕ) → has schema name ≡ false → column_of schema name ≡ length schema
column_past [] name h = refl
column_past (a ∷ schema) name h = cases (is_named name a)
    (λ e. absurd (false≢true (sym h ∙ (rw e refl))))
    (λ e. let rest = column_past schema name (rw e at h) in rw e (ap suc rest))

pub value_at_column : (schema : List Attribute) (row : List Datum) (name : List ℕ) → has schema name ≡ true → value_of schema row name ≡ get_or row (column_of schema name) (integer (pos 0))
value_at_column [] row name h = absurd (false≢true h)
value_at_column (a ∷ schema) [] name h = refl
value_at_column (a ∷ schema) (d ∷ row) name h = cases (is_named name a)
    (λ e. rw e refl)
    (λ e. rw e (value_at_column schema row name (rw e at h)))

pub property_at_column : (schema : List Attribute) (name : List ℕ) (d : Attribute) → has schema name ≡ true → get_or schema (column_of schema name) d ≡ record { name = name; domain = domain_of schema name }
property_at_column [] name d h = absurd (false≢true h)
property_at_column (a ∷ schema) name d h = cases (is_named name a)
    (λ e. rw e (ap (λ n. record { name = n; domain = a.domain }) (same_text a.name name (sym e))))
    (λ e. rw e (property_at_column schema name d (rw e at h)))

-- what `find` tells
column_is : (schema : List Attribute) (name : List ℕ) → column_of schema name ≡ position_or_len (is_named name) schema
column_is [] name = refl
column_is (a ∷ schema) name = cases (is_named name a)
    (λ e. rw e refl)
    (λ e. let rest = column_is schema name in rw e (omega (arith, rest)))

found_from : (b : Bool) (n k : ℕ) → cond b (Some n) None ≡ Some k → n ≡ k
found_from true n k e = cc
found_from false n k e = cc

pub found : (schema : List Attribute) (name : List ℕ) (k : ℕ) → find schema name ≡ Some k → k ≡ column_of schema name
found schema name k e =
    let n = found_from (ltb (position_or_len (is_named name) schema) (length schema)) (position_or_len (is_named name) schema) k e in
    sym (column_is schema name ∙ n)

pub found_some : (schema : List Attribute) (name : List ℕ) → has schema name ≡ true → IsSome (find schema name)
found_some schema name h =
    let k = column_is schema name in
    let n = column_in schema name h in
    let p : ltb (position_or_len (is_named name) schema) (length schema) ≡ true = (Decides-ltb (position_or_len (is_named name) schema) (length schema)).1 (omega arith) in
    subst (λ b. IsSome (cond b (Some (position_or_len (is_named name) schema)) None)) (sym p) refl

pub has_at : (schema : List Attribute) (name : List ℕ) → column_of schema name < length schema → has schema name ≡ true
has_at [] name p = absurd (omega arith)
has_at (a ∷ schema) name p = cases (is_named name a)
    (λ e. rw e refl)
    (λ e. let q = rw e at p in rw e (has_at schema name (omega arith)))

-- each name that is asked for is there, where none is refused
pub all_present : (schema : List Attribute) (names : List (List ℕ)) → absent schema names ≡ None → All (λ name. has schema name ≡ true) names
all_present schema names h k d p = not_false (has schema (get_or names k d)) (none_refused NoProp (λ name. not (has schema name)) names h k d p)

-- the same of a list of items that name them
pub item_present : {A : Type 0} (f : A → List ℕ) (schema : List Attribute) (items : List A) (i : ℕ) (x : A) → absent schema (map f items) ≡ None → i < length items → x ≡ get_or items i x → has schema (f x) ≡ true
item_present f schema items i x h p read =
    let n = length-map items f in
    subst (λ name. has schema name ≡ true) (get_or-map f items i x (f x) p ∙ ap f (sym read)) (all_present schema (map f items) h i (f x) (omega arith))

-- and none is a view, where none is refused for that
pub item_plain : {A : Type 0} (f : A → List ℕ) (schema : List Attribute) (items : List A) (i : ℕ) (x : A) → a_view schema (map f items) ≡ None → i < length items → x ≡ get_or items i x
    → is_view (domain_of schema (f x)) ≡ false
item_plain f schema items i x h p read =
    let n = length-map items f in
    subst (λ name. is_view (domain_of schema name) ≡ false) (get_or-map f items i x (f x) p ∙ ap f (sym read))
    (none_refused KeyIsView (λ name. is_view (domain_of schema name)) (map f items) h i (f x) (omega arith))
