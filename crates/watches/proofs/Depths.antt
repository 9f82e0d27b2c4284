-- How many watches what has a name is over its view.
use Rattle.std.proofs.Common.{◌≡◌, ℕ, ◌<◌, List, [], length, get_or, map, position, Some, ap, sym, ◌∙◌, arith}
use Rattle.std.proofs.lemmas.List.{get_or-map, get_or_read, length-map}
use Rattle.mk_value.specs.Names.{same_bytes}
use Rattle.live.specs.Chains.{source_depth}
use Rattle.watches.specs.Groups.{AreWhole}
use Rattle.watches.specs.Keeping.{Kept, followed, followed_of}
use Rattle.watches.specs.Refusals.{depth_under, depths}
use Rattle.watches.specs.Watches.{Shown, is_among, place_of, source_of, watches_of}
use Rattle.watches.proofs.Finding.{IsFirstAt, first_at}
use Rattle.watches.proofs.Placed.{same_self, watches_at}
use Rattle.watches.proofs.Shown.{named_at, source_found}
use Rattle.watches.proofs.Whole.{no_kept, view_of}

-- each view is the first of its name
view_first : (all : List Kept) → AreWhole all → (at : ℕ) → at < length all → IsFirstAt (λ (k : Kept). same_bytes k.view (get_or all at no_kept).view) all at
view_first all whole at p =
    let view = (get_or all at no_kept).view in
    let long = length-map all view_of in
    record {
      within = p;
      here = λ d. ap (λ v. same_bytes v view) (sym (get_or-map view_of all at d [] p) ∙ get_or-map view_of all at no_kept [] p) ∙ same_self view;
      before = λ d i less.
          ap (λ v. same_bytes v view) (sym (get_or-map view_of all i d [] (omega arith)))
          ∙ ap (same_bytes (get_or (map view_of all) i [])) (sym (get_or-map view_of all at no_kept [] p)) ∙ whole.distinct i at [] less (omega arith);
    }

-- the watches of a view are those that are kept at its place
watches_here : (all : List Kept) → AreWhole all → (at : ℕ) (k : Kept) → at < length all → k ≡ get_or all at k → watches_of (followed all) k.view ≡ (followed_of k).watches
watches_here all whole at k p same =
    let is : k ≡ get_or all at no_kept = get_or_read all at k p same no_kept in
    ap (λ (x : Kept). watches_of (followed all) x.view) is ∙ watches_at all (get_or all at no_kept).view at (view_first all whole at p)
    ∙ ap (λ (x : Kept). (followed_of x).watches) (sym is)

-- how deep the watch of a name stands among those of its view is how deep the name stands
pub depth_named : (all xs ys : List Kept) (name : List ℕ) (at : ℕ) (k : Kept) (n : ℕ) → AreWhole all → xs ≡ all → ys ≡ xs → position (λ (k : Kept). is_among (followed_of k).watches name) ys ≡ Some at
    → k ≡ get_or xs at k → n ≡ source_depth (depths [] (followed_of k).watches) (Some (place_of (followed_of k).watches name)) → n ≡ depth_under (followed all) (source_of (followed all) name)
depth_named all xs ys name at k n whole same lent e is counted =
    let test = λ (k : Kept). is_among (followed_of k).watches name in
    let named = named_at all xs ys name at k same lent e is in
    let first = first_at test all at k (ap (position test) (sym (lent ∙ same)) ∙ e) in
    let here : k ≡ get_or all at k = is ∙ ap (λ zs. get_or zs at k) same in
    counted
    ∙ sym (ap (depth_under (followed all)) (source_found (followed all) name (followed_of k) named.there)
    ∙ ap (λ (ws : List Shown). source_depth (depths [] ws) (Some (place_of (followed_of k).watches name))) (watches_here all whole at k first.within here))
