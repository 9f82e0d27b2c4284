-- The watch of a name taken out from the watches of views.
use Rattle.std.proofs.Common.{◌≡◌, ℕ, ◌+◌, ◌<◌, Bool, true, false, List, [], ◌∷◌, length, get_or, set, position, Some, refl, ap, sym, ◌∙◌, arith}
use Rattle.std.specs.List.{All, list_any, remove}
use Rattle.std.proofs.lemmas.List.{get_or_default, get_or-map, length-map, map-set, nil_from_length}
use Rattle.std.proofs.lemmas.List.Edits.{length-remove}
use Rattle.std.proofs.lemmas.List.Elements.{All-set}
use Rattle.mk_value.specs.Data.{Datum}
use Rattle.mk_value.specs.Heading.{Attribute}
use Rattle.mk_value.specs.Names.{same_bytes}
use Rattle.view_store.specs.Views.{NamedTable, table_of}
use Rattle.watches.specs.Groups.{AreWhole}
use Rattle.watches.specs.Keeping.{AreKept, IsKept, IsKeptOver, Kept, followed, followed_of}
use Rattle.watches.specs.Watches.{Followed, Shown, has_over, is_among, moved_in, place_of, stands_over, without_watch}
use Rattle.watches.proofs.Finding.{IsFirstAt, any_map, first_at, first_within, map_remove}
use Rattle.watches.proofs.Holding.{none_of}
use Rattle.watches.proofs.Listing.{has, left_of, no_watches, taken_all, taken_some}
use Rattle.watches.proofs.Whole.{count_set, no_kept, size_of, whole_set}

-- the first that passes, of lists beside one another
pub first_followed : (q : Followed → Bool) (all : List Kept) (at : ℕ) → IsFirstAt (λ (k : Kept). q (followed_of k)) all at → IsFirstAt q (followed all) at
first_followed q all at h =
    let within = h.within in
    let long = length-map all followed_of in
    record {
      within = omega arith;
      here = λ d. ap q (get_or-map followed_of all at no_kept d within) ∙ h.here no_kept;
      before = λ d k p. ap q (get_or-map followed_of all k no_kept d (omega arith)) ∙ h.before no_kept k p;
    }

pub first_named : (all xs ys : List Kept) (name : List ℕ) (at : ℕ) → xs ≡ all → ys ≡ xs → position (λ (k : Kept). is_among (followed_of k).watches name) ys ≡ Some at
    → IsFirstAt (λ (k : Kept). is_among (followed_of k).watches name) all at
first_named all xs ys name at same lent e =
    let test = λ (k : Kept). is_among (followed_of k).watches name in
    first_at test all at no_kept (ap (position test) (sym (lent ∙ same)) ∙ e)

-- how many are left
pub left_long : (name : List ℕ) (f : Followed) → has name f ≡ true → length (left_of name f) + 1 ≡ length f.watches
left_long name f here =
    let at = place_of f.watches name in
    let p = first_within (λ (s : Shown). same_bytes s.name name) f.watches here in
    let one = length-map (remove f.watches at) (moved_in at) in
    let two = length-remove f.watches at p in
    omega arith

some_first : {X : Type 0} (xs : List X) → 0 < length xs → (x : X) × (rest : List X) × (xs ≡ x ∷ rest)
some_first [] p = absurd (omega arith)
some_first (x ∷ xs) p = (x, xs, refl)

module _ (all : List Kept) (name : List ℕ) (at : ℕ) (first : IsFirstAt (λ (k : Kept). is_among (followed_of k).watches name) all at) where
  abbrev here : Followed
  here = followed_of (get_or all at no_kept)

  here_is : get_or (followed all) at no_watches ≡ here
  here_is = get_or-map followed_of all at no_kept no_watches first.within

  pub only_taken : size_of (get_or all at no_kept) ≡ 1 → followed (remove all at) ≡ without_watch (followed all) name
  only_taken one =
      let long = left_long name here (first.here no_kept) in
      let none : left_of name here ≡ [] = nil_from_length (left_of name here) (omega arith) in
      map_remove followed_of all at ∙ sym (taken_all (followed all) name at (first_followed (has name) all at first) (ap (left_of name) here_is ∙ none))

  pub one_taken : (new : Kept) → 1 < size_of (get_or all at no_kept) → followed_of new ≡ record here { watches = left_of name here } → followed (set all at new) ≡ without_watch (followed all) name
  one_taken new more is =
      let long = left_long name here (first.here no_kept) in
      let some = some_first (left_of name here) (omega arith) in
      map-set followed_of all at new
      ∙ ap (set (followed all) at) (is ∙ ap (λ ws. record here { watches = ws }) some.2 ∙ ap (λ (f : Followed). record f { watches = some.0 ∷ some.1 }) (sym here_is))
      ∙ sym (taken_some (followed all) name at (first_followed (has name) all at first) some.0 some.1 (ap (left_of name) here_is ∙ some.2))

  pub one_whole : (new : Kept) → AreWhole all → followed_of new ≡ record here { watches = left_of name here } → AreWhole (set all at new)
  one_whole new whole is =
      let long = left_long name here (first.here no_kept) in
      let size = ap (λ (f : Followed). length f.watches) is in
      let counts = count_set all at new no_kept first.within in
      let few = whole.few in
      whole_set all at new whole first.within (ap (λ (f : Followed). f.view) is ∙ ap (λ (k : Kept). k.view) (get_or_default all at no_kept new first.within)) (omega arith)

  pub one_kept : (views : List NamedTable) (new : Kept) → followed_of new ≡ record here { watches = left_of name here }
      → ((schema : List Attribute) (rows : List (List Datum)) → IsKeptOver schema rows (get_or all at no_kept) → IsKeptOver schema rows new) → AreKept views all → AreKept views (set all at new)
  one_kept views new is over h =
      let kept : IsKept views (get_or all at no_kept) = h at no_kept first.within in
      All-set (IsKept views) all at new
      (record { table = kept.table; there = ap (λ (f : Followed). table_of views f.view) is ∙ kept.there; over = over kept.table.schema kept.table.rows kept.over }) h

-- no watch stands over one of the name among the watches of any view
pub none_over_kept : (all : List Kept) (name : List ℕ) → has_over (followed all) name ≡ false
    → All (λ (k : Kept). list_any (λ (s : Shown). stands_over (followed_of k).watches name s.source) (followed_of k).watches ≡ false) all
none_over_kept all name free =
    let over : Followed → Bool = λ f. list_any (λ (s : Shown). stands_over f.watches name s.source) f.watches in
    none_of (λ (k : Kept). over (followed_of k)) all (sym (any_map over followed_of all) ∙ free)
