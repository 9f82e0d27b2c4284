-- Rows with their positions, sorted.
use Rattle.std.proofs.Common.{◌≡◌, ℕ, zero, suc, ◌+◌, ◌<◌, ◌≤◌, All, IsPermutation, List, [], ◌∷◌, ◌++◌, length, get_or, map, take, refl, ap, sym, subst, ◌∙◌, inl, inr, arith}
use Rattle.std.specs.List.Sorted.{IsSorted}
use Rattle.std.specs.declared.cmp.Ordering.{Ordering}
use Rattle.std.specs.declared.cmp.Ordering.TheVariants.{Less, Equal, Greater}
use Rattle.std.specs.Ordering.{nat_cmp, ordering_then, on, then_cmp, is_eq}
use Rattle.std.specs.Cmp.{nat_cmp_total, then_total, on_total}
use Rattle.std.proofs.lemmas.Bool.{false≢true}
use Rattle.std.proofs.lemmas.Cmp.{ranked}
use Rattle.std.proofs.lemmas.List.{map-append, length-map, take_more}
use Rattle.std.proofs.lemmas.List.Sorted.{IsPermutation-map, IsPermutation-sym, Contains-permutation, All-permutation}
use Rattle.mk_value.specs.Data.{Datum}
use Rattle.relations.specs.WholeOrder.{whole_row_cmp}
use Rattle.relations.specs.OrderLaws.{whole_row_cmp_total}
use Rattle.grouping.specs.Index.{numbers, entry_cmp, IsOrderOf}
use Rattle.relations.proofs.Ascending.{IsIn, each_in, each_from_in, in_at, place_of, in_from_contains, contains_from_in, Ascends, nat_less}
use Rattle.relations.specs.Positions.{order_of, place_cmp}
use Rattle.relations.proofs.Orders.{order_all, order_ascends, order_in}
use Rattle.grouping.proofs.Ascending.{in_map, in_map_back, ascends_map, pairs_from_ascends}
use Rattle.grouping.proofs.Duplicates.{AreDistinct, distinct_permutation, sorted_ascends}
use Rattle.grouping.proofs.Positions.{later_up, zero_below}

-- the numbers below another
pub numbers_push : (n : ℕ) → numbers (suc n) ≡ numbers n ++ n ∷ []
numbers_push zero = refl
numbers_push (suc n) = ap (λ ns. 0 ∷ map suc ns) (numbers_push n) ∙ ap (λ ns. 0 ∷ ns) (map-append suc (numbers n) (n ∷ []))

in_numbers : (n i : ℕ) → i < n → IsIn i (numbers n)
in_numbers zero i p = absurd (omega arith)
in_numbers (suc n) zero p = inl refl
in_numbers (suc n) (suc i) p = inr (in_map suc (numbers n) i (in_numbers n i (omega arith)))

in_numbers_back : (n i : ℕ) → IsIn i (numbers n) → i < n
in_numbers_back zero i h = absurd h
in_numbers_back (suc n) i (inl e) = omega arith
in_numbers_back (suc n) i (inr h) = let r = in_map_back suc (numbers n) i h in let p = in_numbers_back n r.0 r.1 in let e = r.2 in omega arith

numbers_up : (n : ℕ) → Ascends nat_cmp (numbers n)
numbers_up zero = tt
numbers_up (suc n) = (zero_below (numbers n), later_up (numbers n) (numbers_up n))

up_distinct : (xs : List ℕ) → Ascends nat_cmp xs → AreDistinct xs
up_distinct [] up = tt
up_distinct (x ∷ xs) up = (
  each_from_in (λ y. y ≡ x → ⊥) xs (λ y h e. let p = nat_less x y (each_in (λ z. nat_cmp x z ≡ Less) xs y up.0 h) in absurd (omega arith)),
  up_distinct xs up.1,
)

tied_second : (o p : Ordering) → ordering_then o p ≡ Equal → p ≡ Equal
tied_second Less p e = absurd (false≢true (ap is_eq e))
tied_second Equal p e = e
tied_second Greater p e = absurd (false≢true (ap is_eq e))

all_from_in : {X : Type 0} (P : X → Type 0) (xs : List X) → ((x : X) → IsIn x xs → P x) → All P xs
all_from_in P xs f = λ k d p. f (get_or xs k d) (in_at xs k d p)

all_in : {X : Type 0} (P : X → Type 0) (xs : List X) (x : X) → All P xs → IsIn x xs → P x
all_in P xs x all h = let r = place_of xs x h in subst P (r.2 x) (all r.0 x r.1)

-- elements that have a number and a row, in the order of whole rows and then of numbers
pub order_from : {X : Type 0} (number : X → ℕ) (row : X → List Datum) (rows : List (List Datum)) (old new : List X)
    → map number old ≡ numbers (length rows) → All (λ x. row x ≡ get_or rows (number x) []) old → IsPermutation old new
    → IsSorted (then_cmp (on row whole_row_cmp) (on number nat_cmp)) new → IsOrderOf rows (map number new)
order_from {X} number row rows old new numbered right moved sorted =
    let cmp : X → X → Ordering = then_cmp (on row whole_row_cmp) (on number nat_cmp) in
    let shifted : IsPermutation (numbers (length rows)) (map number new) = subst (λ ns. IsPermutation ns (map number new)) numbered (IsPermutation-map number old new moved) in
    let apart = distinct_permutation (numbers (length rows)) (map number new) (up_distinct (numbers (length rows)) (numbers_up (length rows))) shifted in
    let up : Ascends cmp new = sorted_ascends cmp (then_total (on_total row whole_row_cmp_total) (on_total number nat_cmp_total)) number
    (λ x y e. ranked (number x) (number y) Equal (sym (tied_second (whole_row_cmp (row x) (row y)) (nat_cmp (number x) (number y)) e))) new sorted apart in
    let right_now = All-permutation (λ x. row x ≡ get_or rows (number x) []) old new moved right in
    let rows_of : (x : X) → IsIn x new → row x ≡ get_or rows (number x) [] = λ x h. all_in (λ x. row x ≡ get_or rows (number x) []) new x right_now h in
    record {
      in_range = all_from_in (λ i. i < length rows) (map number new) (λ i h.
          in_numbers_back (length rows) i (in_from_contains (numbers (length rows)) i (Contains-permutation (map number new) (numbers (length rows)) i
          (IsPermutation-sym (numbers (length rows)) (map number new) shifted) (contains_from_in (map number new) i h))));
      complete = λ i p. Contains-permutation (numbers (length rows)) (map number new) i shifted (contains_from_in (numbers (length rows)) i (in_numbers (length rows) i p));
      ascending = pairs_from_ascends (entry_cmp rows) (map number new) (ascends_map cmp (entry_cmp rows) number new (λ x y g h e.
          (λ i. ordering_then (whole_row_cmp (sym (rows_of x g) i) (sym (rows_of y h) i)) (nat_cmp (number x) (number y))) ∙ e) up);
    }

pub length_numbers : (n : ℕ) → length (numbers n) ≡ n
length_numbers zero = refl
length_numbers (suc n) = let e = length-map (numbers n) suc in let f = length_numbers n in omega arith

-- a list so far, and one element more
pub map_take_more : {X Y : Type 0} (f : X → Y) (xs : List X) (i : ℕ) (d : X) → i < length xs → map f (take i xs) ++ f (get_or xs i d) ∷ [] ≡ map f (take (i + 1) xs)
map_take_more f xs i d p = sym (ap (map f) (take_more xs i d p) ∙ map-append f (take i xs) (get_or xs i d ∷ []))

pub take_all : {X : Type 0} (xs : List X) (n : ℕ) → length xs ≤ n → take n xs ≡ xs
take_all [] zero p = refl
take_all [] (suc n) p = refl
take_all (x ∷ xs) zero p = absurd (omega arith)
take_all (x ∷ xs) (suc n) p = ap (λ ys. x ∷ ys) (take_all xs n (omega arith))

-- the positions in the order of whole rows
pub sorted_order : (rows : List (List Datum)) → IsOrderOf rows (order_of whole_row_cmp [] rows)
sorted_order rows = record {
  in_range = order_in whole_row_cmp [] rows;
  complete = order_all whole_row_cmp [] rows;
  ascending = pairs_from_ascends (place_cmp whole_row_cmp [] rows) (order_of whole_row_cmp [] rows) (order_ascends whole_row_cmp [] rows whole_row_cmp_total);
}
