-- Mapped views as a list: each view is mapped once.
use Rattle.std.proofs.Common.{◌≡◌, ◌≢◌, ℕ, ◌<◌, ◌≤◌, Bool, true, false, List, [], length, get_or, set, position, Some, refl, ap, sym, subst, ◌∙◌, arith, inl, inr}
use Rattle.std.specs.Prelude.{find}
use Rattle.std.specs.Cmp.Lexicographic.{bytes_decides}
use Rattle.std.specs.List.{All, list_any}
use Rattle.std.specs.Option.{option_map}
use Rattle.std.proofs.lemmas.Bool.{cases_eq, cases_lt}
use Rattle.std.proofs.lemmas.List.{get_or_read, get_or-set_other, get_or-set_same, length-set}
use Rattle.std.proofs.Math.Seq.{map-set_same}
use Rattle.mk_value.specs.Names.{same_bytes}
use Rattle.keyed_views.specs.declared.kept.Kept.{Kept}
use Rattle.keyed_views.specs.declared.mapping.Mapping.TheVariants.{InOrder}
use Rattle.keyed_views.specs.Keeping.{AreWhole, by_of, mapped, mapped_of}
use Rattle.keyed_views.specs.Mapped.{MappedView, is_mapped, mapping_of}
use Rattle.keyed_views.proofs.Finding.{IsFirstAt, any_map, find_first, find_map, first_at}

-- no view
abbrev pub no_kept : Kept
no_kept = record { view = []; keys = 0; mapping = InOrder 0 }

abbrev pub is_of : List ℕ → Kept → Bool
is_of view k = same_bytes k.view view

abbrev pub any_of : List ℕ → MappedView → Bool
any_of view m = same_bytes m.view view

pub is_mapped_is : (all xs : List Kept) (view : List ℕ) → xs ≡ all → is_mapped (mapped all) view ≡ list_any (is_of view) xs
is_mapped_is all xs view same = any_map (any_of view) mapped_of all ∙ ap (list_any (is_of view)) (sym same)

pub mapping_is : (all : List Kept) (view : List ℕ) → mapping_of (mapped all) view ≡ option_map mapped_of (find (is_of view) all)
mapping_is all view = find_map (any_of view) mapped_of all

pub same_of : (a b : List ℕ) → same_bytes a b ≡ true → a ≡ b
same_of a b e = (bytes_decides a b).0 e

pub name_self : (a : List ℕ) → same_bytes a a ≡ true
name_self a = (bytes_decides a a).1 refl

pub flip : (a b : List ℕ) → same_bytes a b ≡ false → same_bytes b a ≡ false
flip a b e = by (same_bytes b a) refl
  where
    by : (t : Bool) → same_bytes b a ≡ t → t ≡ false
    by true f = absurd (let g = same_of b a f in let h : true ≡ false = sym (name_self a) ∙ ap (same_bytes a) (sym g) ∙ e in cc)
    by false f = refl

-- the view of a name stands at a place, and no other has the name
pub record IsAt (all : List Kept) (view : List ℕ) (at : ℕ) : Type 0 where
  pub first : IsFirstAt (is_of view) all at
  pub here : (d : Kept) → (get_or all at d).view ≡ view
  pub others : (k : ℕ) (d : Kept) → k < length all → k ≢ at → same_bytes (get_or all k d).view view ≡ false

pub only_at : (all : List Kept) (view : List ℕ) (at : ℕ) → AreWhole all → IsFirstAt (is_of view) all at → IsAt all view at
only_at all view at whole first =
    record {
      first = first;
      here = λ x. same_of (get_or all at x).view view (first.here x);
      others = λ k x p apart. elim (cases_lt k at) [
        | inl less ↦ first.before x k less
        | inr more ↦ behind k x p (let less : at < k = by_cases k apart more in less)
      ];
    }
  where
    by_cases : (k : ℕ) → k ≢ at → at ≤ k → at < k
    by_cases k apart more = elim (cases_lt at k) [
      | inl less ↦ less
      | inr e ↦ absurd (apart (omega arith))
    ]

    behind : (k : ℕ) (x : Kept) → k < length all → at < k → same_bytes (get_or all k x).view view ≡ false
    behind k x p less =
        ap (same_bytes (get_or all k x).view) (sym (same_of (get_or all at x).view view (first.here x)))
        ∙ flip (get_or all at x).view (get_or all k x).view (whole.distinct at k x less p)

-- what is so of one that is put in a place, and of all others, is so of all
pub set_all : (P : Kept → Type 0) (all : List Kept) (at : ℕ) (new : Kept) → at < length all → P new → ((k : ℕ) (d : Kept) → k < length all → k ≢ at → P (get_or all k d)) → All P (set all at new)
set_all P all at new there one others k d p =
    let long = length-set all at new in
    elim (cases_eq k at) [
      | inl e ↦ subst (λ j. P (get_or (set all at new) j d)) (sym e) (subst P (sym (get_or-set_same all at new d there)) one)
      | inr apart ↦ subst P (sym (get_or-set_other all at k new d apart)) (others k d (omega arith) apart)
    ]

-- one of a list of mapped views becomes another, of the same view
module _ (all xs ys : List Kept) (view : List ℕ) (at : ℕ) (k : Kept) (total : AreWhole xs) (same : xs ≡ all) (lent : ys ≡ xs) (found : position (is_of view) ys ≡ Some at) (read : k ≡ get_or xs at k) where
  whole : AreWhole all
  whole = subst AreWhole same total

  pub stands : IsAt all view at
  stands = only_at all view at whole (first_at (is_of view) all at k (ap (position (is_of view)) (sym (lent ∙ same)) ∙ found))

  pub there : at < length all
  there = stands.first.within

  pub one : (d : Kept) → k ≡ get_or all at d
  one d = get_or_read all at k there (read ∙ ap (λ ks. get_or ks at k) same) d

  pub view_one : k.view ≡ view
  view_one = ap (λ (x : Kept). x.view) (one k) ∙ stands.here k

  pub named_one : (P : Kept → Type 0) → All (λ (x : Kept). same_bytes x.view view ≡ true → P x) all → P k
  named_one P h = subst P (sym (one k)) (h at k there (stands.first.here k))

  -- what is so of it is so of all of that view
  pub named_all : (P : Kept → Type 0) → P k → All (λ (x : Kept). same_bytes x.view view ≡ true → P x) all
  named_all P h j d p named = elim (cases_eq j at) [
    | inl e ↦ subst P (one d ∙ ap (λ i. get_or all i d) (sym e)) h
    | inr apart ↦ absurd (let clash : true ≡ false = sym named ∙ stands.others j d p apart in cc)
  ]

  pub mapping_one : mapping_of (mapped all) view ≡ Some (record { view = view; by = by_of k.mapping; keys = k.keys })
  mapping_one =
      mapping_is all view ∙ ap (option_map mapped_of) (find_first (is_of view) all at k stands.first ∙ ap Some (sym (one k)))
      ∙ ap (λ v. Some (record { view = v; by = by_of k.mapping; keys = k.keys })) view_one

  module _ (new : Kept) (same_view : new.view ≡ k.view) (same_keys : new.keys ≡ k.keys) (same_by : by_of new.mapping ≡ by_of k.mapping) where
    seen : mapped_of new ≡ mapped_of (get_or all at k)
    seen =
        ap (λ v. record { view = v; by = by_of new.mapping; keys = new.keys }) same_view ∙ ap (λ n. record { view = k.view; by = by_of new.mapping; keys = n }) same_keys
        ∙ ap (λ b. record { view = k.view; by = b; keys = k.keys }) same_by ∙ ap mapped_of (one k)

    pub same_mapped : mapped (set xs at new) ≡ mapped all
    same_mapped = ap (λ ks. mapped (set ks at new)) same ∙ map-set_same mapped_of all at new k seen

    pub named_set : (P : Kept → Type 0) → P new → All (λ (x : Kept). same_bytes x.view view ≡ true → P x) (set xs at new)
    named_set P h =
        subst (λ ks. All (λ (x : Kept). same_bytes x.view view ≡ true → P x) (set ks at new)) (sym same)
        (set_all (λ (x : Kept). same_bytes x.view view ≡ true → P x) all at new there (λ _. h)
        (λ j d p apart e. absurd (let clash : true ≡ false = sym e ∙ stands.others j d p apart in cc)))

    pub whole_set : AreWhole (set xs at new)
    whole_set =
        let long = length-set all at new in
        let few = whole.few in
        let name : new.view ≡ view = same_view ∙ view_one in
        subst (λ ks. AreWhole (set ks at new)) (sym same) (record {
          distinct = λ i j d less p. elim (cases_eq i at) [
            | inl e ↦
                let q : at < j = omega arith in
                let apart : j ≢ at = λ f. absurd (omega arith) in
                subst (λ n. same_bytes (get_or (set all at new) n d).view (get_or (set all at new) j d).view ≡ false) (sym e)
                (ap (λ (x : Kept). same_bytes x.view (get_or (set all at new) j d).view) (get_or-set_same all at new d there)
                ∙ ap (λ (x : Kept). same_bytes new.view x.view) (get_or-set_other all at j new d apart)
                ∙ ap (λ v. same_bytes v (get_or all j d).view) name
                ∙ flip (get_or all j d).view view (stands.others j d (omega arith) apart))
            | inr apart ↦
                ap (λ (x : Kept). same_bytes x.view (get_or (set all at new) j d).view) (get_or-set_other all at i new d apart)
                ∙ elim (cases_eq j at) [
                  | inl e ↦
                      subst (λ n. same_bytes (get_or all i d).view (get_or (set all at new) n d).view ≡ false) (sym e)
                      (ap (λ (x : Kept). same_bytes (get_or all i d).view x.view) (get_or-set_same all at new d there)
                      ∙ ap (same_bytes (get_or all i d).view) name ∙ stands.others i d (omega arith) apart)
                  | inr away ↦
                      ap (λ (x : Kept). same_bytes (get_or all i d).view x.view) (get_or-set_other all at j new d away)
                      ∙ whole.distinct i j d less (omega arith)
                ]
          ];
          few = omega arith;
        })
