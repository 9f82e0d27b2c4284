-- A schema of named properties and one behind them is within its limits, and what is due where nothing is refused.
use Rattle.std.proofs.Common.{◌≡◌, ◌≢◌, ℕ, ◌+◌, ◌<◌, ◌≤◌, Bool, true, false, ◌||◌, not, cond, if◌then◌else◌, All, List, [], ◌∷◌, ◌++◌, length, get_or, filter, drop, max, Option, Some, None, refl, ap, sym, ◌∙◌, arith}
use Rattle.std.specs.Option.{option_or}
use Rattle.std.specs.Ordering.{nat_cmp, ord_max, is_lt}
use Rattle.std.specs.declared.cmp.Ordering.{Ordering}
use Rattle.std.specs.declared.cmp.Ordering.TheVariants.{Less, Equal, Greater}
use Rattle.std.proofs.lemmas.Cmp.{ranked}
use Rattle.std.specs.Cmp.Lexicographic.{nat_list_eq_equiv}
use Rattle.std.proofs.lemmas.Bool.{false≢true}
use Rattle.std.proofs.lemmas.Option.{none-some}
use Rattle.std.proofs.lemmas.List.{length-append, length-map, get_or-map}
use Rattle.std.proofs.lemmas.List.Elements.{All-nil, All-cons, All-head, All-tail}
use Rattle.std.proofs.lemmas.List.Quantifiers.{all_pairs_push}
use Rattle.mk_value.proofs.Walks.{drop_read}
use Rattle.mk_value.specs.Limits.{max_depth, max_properties}
use Rattle.mk_value.specs.Names.{same_bytes}
use Rattle.mk_value.specs.Heading.{Domain, Attribute, heading_of, heading_depth, domain_depth, depth_of, IsHeading, IsWithinLimits}
use Rattle.relations.specs.declared.error.DerivedError.{DerivedError}
use Rattle.relations.specs.Fitting.{is_view}
use Rattle.relations.specs.Refusals.{where_so}
use Rattle.relations.specs.Rows.{domain_of, is_among, once, properties_of}
use Rattle.relations.proofs.Faults.{cases}
use Rattle.relations.proofs.Headings.{once_all}

-- a refusal that is not due, and those behind it
pub not_so : (b : Bool) (e : DerivedError) → where_so b e ≡ None → b ≡ false
not_so true e h = absurd (none-some _ (sym h))
not_so false e h = refl

pub first_none : (a b : Option DerivedError) → option_or a b ≡ None → a ≡ None
first_none None b h = refl
first_none (Some e) b h = absurd (none-some _ (sym h))

pub rest_none : (a b : Option DerivedError) → option_or a b ≡ None → b ≡ None
rest_none None b h = h
rest_none (Some e) b h = absurd (none-some _ (sym h))

-- a name that is not among some is apart from each of them
pub apart : (names : List (List ℕ)) (name : List ℕ) → is_among names name ≡ false → All (λ n. same_bytes n name ≡ false) names
apart [] name h = All-nil (λ n. same_bytes n name ≡ false)
apart (first ∷ names) name h = cases (same_bytes first name)
    (λ t. absurd (false≢true (sym h ∙ ap (λ b. b || is_among names name) t)))
    (λ f. All-cons (λ n. same_bytes n name ≡ false) first names f (apart names name (sym (ap (λ b. b || is_among names name) f) ∙ h)))

pub once_apart : (keys : List (List ℕ)) (name : List ℕ) → is_among keys name ≡ false → All (λ n. same_bytes n name ≡ false) (once keys)
once_apart keys name h = once_all (λ n. same_bytes n name ≡ false) keys (apart keys name h)

-- how deep a list of properties nests
pub depth_behind : (schema : List Attribute) (last : Attribute) → heading_depth (heading_of (schema ++ last ∷ [])) ≡ max (heading_depth (heading_of schema)) (domain_depth last.domain)
depth_behind [] last = omega arith
depth_behind (a ∷ schema) last = let e = depth_behind schema last in omega arith

plain_depth : (d : Domain) → is_view d ≡ false → domain_depth d ≡ 0
plain_depth Domain.integer h = refl
plain_depth Domain.long h = refl
plain_depth Domain.text h = refl
plain_depth Domain.bytes h = refl
plain_depth (Domain.relation r) h = absurd (false≢true (sym h))

pub keys_depth : (schema : List Attribute) (names : List (List ℕ)) → All (λ n. is_view (domain_of schema n) ≡ false) names → heading_depth (heading_of (properties_of schema names)) ≡ 0
keys_depth schema [] all = refl
keys_depth schema (name ∷ names) all =
    let first = plain_depth (domain_of schema name) (All-head (λ n. is_view (domain_of schema n) ≡ false) name names all) in
    let rest = keys_depth schema names (All-tail (λ n. is_view (domain_of schema n) ≡ false) name names all) in
    omega arith

-- with a property behind them whose name none of them has
pub limits_behind : (schema : List Attribute) (names : List (List ℕ)) (last : Attribute) → IsHeading (properties_of schema names) → All (λ n. same_bytes n last.name ≡ false) names
    → length names + 1 ≤ max_properties → depth_of (properties_of schema names ++ last ∷ []) ≤ max_depth → IsWithinLimits (properties_of schema names ++ last ∷ [])
limits_behind schema names last whole other few shallow =
    let property : List ℕ → Attribute = λ name. record { name = name; domain = domain_of schema name } in
    let long = length-append (properties_of schema names) (last ∷ []) in
    let own = length-map names property in
    record {
      some = omega arith;
      few = omega arith;
      distinct = all_pairs_push (λ (a b : Attribute). a.name ≢ b.name) (properties_of schema names) last whole.limits.distinct (λ k d p e.
          let q : k < length names = omega arith in
          let here = ap (λ (a : Attribute). a.name) (get_or-map property names k d.name d q) in
          false≢true (sym (other k d.name q) ∙ ap (λ n. same_bytes n last.name) (sym here ∙ e) ∙ nat_list_eq_equiv.refl last.name));
      shallow = shallow;
    }

-- a filter leaves nothing deeper
pub filter_depth : (p : Attribute → Bool) (schema : List Attribute) → heading_depth (heading_of (filter p schema)) ≤ heading_depth (heading_of schema)
filter_depth p [] = omega arith
filter_depth p (a ∷ schema) = at (p a) (filter_depth p schema)
  where
    at : (b : Bool) → heading_depth (heading_of (filter p schema)) ≤ heading_depth (heading_of schema)
        → heading_depth (heading_of (cond b (a ∷ filter p schema) (filter p schema))) ≤ heading_depth (heading_of (a ∷ schema))
    at true e = omega arith
    at false e = omega arith

-- one property further: it is one of the names, or counts
module _ (schema : List Attribute) (names : List (List ℕ)) (i : ℕ) (x : Attribute) (p : i < length schema) (read : x ≡ get_or schema i x) where
  abbrev kept : ℕ → List Attribute
  kept k = filter (λ a. not (is_among names a.name)) (drop k schema)

  depth_read : (b : Bool) → is_among names x.name ≡ b → heading_depth (heading_of (kept i)) ≡ heading_depth (heading_of (cond (not b) (x ∷ kept (i + 1)) (kept (i + 1))))
  depth_read b e =
      ap (λ (s : List Attribute). heading_depth (heading_of (filter (λ a. not (is_among names a.name)) s))) (drop_read schema i x p read)
      ∙ ap (λ c. heading_depth (heading_of (cond (not c) (x ∷ kept (i + 1)) (kept (i + 1))))) e

  pub depth_skipped : (depth total : ℕ) → is_among names x.name ≡ true → max depth (heading_depth (heading_of (kept i))) ≡ total → max depth (heading_depth (heading_of (kept (i + 1)))) ≡ total
  depth_skipped depth total e so_far = let r = depth_read true e in omega arith

  pub depth_taken : (depth deeper total : ℕ) → is_among names x.name ≡ false → deeper ≡ max depth (domain_depth x.domain) → max depth (heading_depth (heading_of (kept i))) ≡ total
      → max deeper (heading_depth (heading_of (kept (i + 1)))) ≡ total
  depth_taken depth deeper total e taken so_far = let r = depth_read false e in omega arith

-- the greater of two numbers
pub max_is : (a b : ℕ) → ord_max nat_cmp a b ≡ max a b
max_is a b = at (nat_cmp b a) refl
  where
    at : (o : Ordering) → nat_cmp b a ≡ o → (if is_lt o then a else b) ≡ max a b
    at Less e = let p : b < a = ranked b a Less (sym e) in omega arith
    at Equal e = let p : b ≡ a = ranked b a Equal (sym e) in omega arith
    at Greater e = let p : a < b = ranked b a Greater (sym e) in omega arith
