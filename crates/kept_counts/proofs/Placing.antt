-- What is kept is found, and one is put among it.
use Rattle.std.proofs.Common.{◌≡◌, ℕ, ◌<◌, ◌≤◌, true, false, ◌&&◌, ◌||◌, ltb, List, [], ◌∷◌, ◌++◌, length, get_or, set, position, Option, Some, None, Bool, refl, ap, sym, subst, ◌∙◌, arith, inl, inr}
use Rattle.std.specs.Prelude.{Contains, ◌⊎◌}
use Rattle.std.specs.Cmp.Lexicographic.{bytes_decides, pointwise}
use Rattle.std.specs.List.{All}
use Rattle.std.specs.Option.{is_none}
use Rattle.std.proofs.lemmas.Bool.Decides.{nat_tests}
use Rattle.std.proofs.lemmas.List.{get_or-set_same, get_or_default, get_or_push, length-set, length_push}
use Rattle.std.proofs.lemmas.List.Elements.{All-contains, All-push, All-set}
use Rattle.std.proofs.lemmas.List.Folds.{list_any_at, list_any_none}
use Rattle.std.proofs.lemmas.Slice.Eq.{slice_eq-Decides}
use Rattle.watches.proofs.Finding.{first_at, none_at}
use Rattle.mk_value.specs.Names.{same_bytes}
use Rattle.viewers.specs.declared.law.Law.{Law}
use Rattle.viewers.specs.declared.law.Law.TheVariants.{Length, Twice, Sum}
use Rattle.kept_counts.specs.Following.{IsPut}
use Rattle.kept_counts.specs.declared.kept.Kept.{Kept}
use Rattle.kept_counts.specs.Keeping.{Counted, What, counted_by, has_place, is_kept, is_of, is_what, kept_by, max_kept, same_law, same_what, what_kept, what_of}
use Rattle.kept_counts.proofs.Keying.{both}

-- each of these is one of them
each_inside : (old : List Counted) (entry : Counted) → All (λ (e : Counted). (e ≡ entry) ⊎ Contains old e) old
each_inside old entry k d p = inr (k, p, get_or_default old k (get_or old k d) d p)

-- what holds of all, and of the one that is put, holds of all then
pub put_all : (P : Counted → Type 0) (old new : List Counted) (entry : Counted) → IsPut old entry new → All P old → P entry → All P new
put_all P old new entry put all one k d p = elim (put.from k d p) [
  | inl e ↦ subst P (sym e) one
  | inr c ↦ All-contains P old (get_or new k d) all c
]

-- one is put in another's place
pub put_at : (old new : List Counted) (entry : Counted) (at : ℕ) → at < length old → new ≡ set old at entry → IsPut old entry new
put_at old new entry at p e =
    let long = length-set old at entry in
    subst (IsPut old entry) (sym e) (record {
      from = All-set (λ (e : Counted). (e ≡ entry) ⊎ Contains old e) old at entry (inl refl) (each_inside old entry);
      there = λ _. (at, omega arith, get_or-set_same old at entry entry p);
      few = λ h. omega arith;
    })

-- or behind the others
pub put_last : (old new : List Counted) (entry : Counted) → length old < max_kept → new ≡ old ++ entry ∷ [] → IsPut old entry new
put_last old new entry p e =
    let long = length_push old entry in
    subst (IsPut old entry) (sym e) (record {
      from = All-push (λ (e : Counted). (e ≡ entry) ⊎ Contains old e) old entry (each_inside old entry) (inl refl);
      there = λ _. (length old, omega arith, get_or_push old entry entry (length old) refl);
      few = λ h. omega arith;
    })

-- where there is no place
not_less : (n m : ℕ) → m ≤ n → ltb n m ≡ false
not_less n m h = grind (arith, nat_tests)

no_room : (old : List Counted) → position (λ (e : Counted). is_none e.kept) old ≡ None → max_kept ≤ length old → has_place old ≡ false
no_room old none full =
    ap (λ b. b || ltb (length old) max_kept) (list_any_none (λ (e : Counted). is_none e.kept) old (none_at (λ (e : Counted). is_none e.kept) old none)) ∙ not_less (length old) max_kept full

pub put_nowhere : (old new : List Counted) (entry : Counted) → position (λ (e : Counted). is_none e.kept) old ≡ None → max_kept ≤ length old → new ≡ old → IsPut old entry new
put_nowhere old new entry none full e =
    subst (IsPut old entry) (sym e) (record {
      from = each_inside old entry;
      there = λ h. absurd (let f : true ≡ false = sym h ∙ no_room old none full in cc);
      few = λ h. h;
    })

-- what is contained and is this of a view is kept
pub contains_kept : (all : List Counted) (entry : Counted) (view : List ℕ) (what : What) → Contains all entry → is_of view what entry ≡ true → is_kept all view what ≡ true
contains_kept all entry view what h is = list_any_at (is_of view what) all h.0 entry h.1 (ap (is_of view what) h.2 ∙ is)

-- two that are told to be the same are
same_names : (names others : List (List ℕ)) → pointwise same_bytes names others ≡ true → names ≡ others
same_names names others h = (slice_eq-Decides bytes_decides names others (pointwise same_bytes names others) refl).0 h

names_same : (names : List (List ℕ)) → pointwise same_bytes names names ≡ true
names_same names = (slice_eq-Decides bytes_decides names names (pointwise same_bytes names names) refl).1 refl

not_true : {X : Type 0} → false ≡ true → X
not_true h = absurd (let f : false ≡ true = h in cc)

laws_are : (law other : Law) → same_law law other ≡ true → law ≡ other
laws_are Length Length h = refl
laws_are Length Twice h = not_true h
laws_are Length Sum h = not_true h
laws_are Twice Length h = not_true h
laws_are Twice Twice h = refl
laws_are Twice Sum h = not_true h
laws_are Sum Length h = not_true h
laws_are Sum Twice h = not_true h
laws_are Sum Sum h = refl

law_same : (law : Law) → same_law law law ≡ true
law_same Length = refl
law_same Twice = refl
law_same Sum = refl

what_are : (what other : What) → same_what what other ≡ true → what ≡ other
what_are (counted_by keys) (counted_by others) h = ap counted_by (same_names keys others h)
what_are (counted_by keys) (kept_by other others) h = not_true h
what_are (kept_by law props) (counted_by others) h = not_true h
what_are (kept_by law props) (kept_by other others) h =
    let parts = both (same_law law other) (pointwise same_bytes props others) h in
    ap (λ l. kept_by l props) (laws_are law other parts.0) ∙ ap (kept_by other) (same_names props others parts.1)

what_same : (what : What) → same_what what what ≡ true
what_same (counted_by keys) = names_same keys
what_same (kept_by law props) = ap (λ b. b && pointwise same_bytes props props) (law_same law) ∙ names_same props

is_this : (what : What) (o : Option What) → is_what what o ≡ true → o ≡ Some what
is_this what None h = not_true h
is_this what (Some other) h = ap Some (what_are other what h)

-- what is this of a view
pub record IsOf (view : List ℕ) (what : What) (e : Counted) : Type 0 where
  pub view_is : e.view ≡ view
  pub what_is : what_kept e ≡ Some what

pub of_parts : (view : List ℕ) (what : What) (e : Counted) → is_of view what e ≡ true → IsOf view what e
of_parts view what e h =
    let parts = both (same_bytes e.view view) (is_what what (what_kept e)) h in
    record { view_is = (bytes_decides e.view view).0 parts.0; what_is = is_this what (what_kept e) parts.1 }

pub of_made : (view v : List ℕ) (what : What) (kept : Kept) → v ≡ view → what_of kept ≡ what → is_of view what (record { view = v; kept = Some kept }) ≡ true
of_made view v what kept e f =
    ap (λ b. b && is_what what (Some (what_of kept))) ((bytes_decides v view).1 e)
    ∙ ap (λ w. same_what w what) f ∙ what_same what

-- the one at a place that was found
pub record IsFound (all : List Counted) (view : List ℕ) (what : What) (e : Counted) : Type 0 where
  pub there : Contains all e
  pub of : IsOf view what e

pub found_at : (all xs ys : List Counted) (view : List ℕ) (what : What) (at : ℕ) (e : Counted) → xs ≡ all → ys ≡ xs → position (is_of view what) ys ≡ Some at → e ≡ get_or xs at e → IsFound all view what e
found_at all xs ys view what at e same lent found is =
    let first = first_at (is_of view what) all at e (ap (position (is_of view what)) (sym (lent ∙ same)) ∙ found) in
    let here : get_or all at e ≡ e = ap (λ zs. get_or zs at e) (sym same) ∙ sym is in
    record { there = (at, first.within, here); of = of_parts view what e (ap (is_of view what) (sym here) ∙ first.here e) }
