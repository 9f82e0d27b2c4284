-- What is left of a list before and after one of its elements was read: for loops that go over a list by its places.
use Rattle.std.proofs.Common.{◌≡◌, ℕ, zero, suc, ◌+◌, ◌<◌, ◌≤◌, List, [], ◌∷◌, length, get_or, drop, map, refl, ap, sym, ◌∙◌, arith, drop-cons, add-one, Some, None}
use Rattle.std.specs.List.{slice_get}
use Rattle.std.proofs.lemmas.List.{length-map, get_or-map}

pub drop_read : {X : Type 0} (xs : List X) (i : ℕ) (x : X) → i < length xs → x ≡ get_or xs i x → drop i xs ≡ x ∷ drop (i + 1) xs
drop_read xs i x p e = rw add-one (drop-cons xs i x p ∙ ap (λ y. y ∷ drop (suc i) xs) (sym e))

pub drop_map_read : {X Y : Type 0} (f : X → Y) (xs : List X) (i : ℕ) (x : X) → i < length xs → x ≡ get_or xs i x → drop i (map f xs) ≡ f x ∷ drop (i + 1) (map f xs)
drop_map_read f xs i x p e =
    let long = length-map xs f in
    drop_read (map f xs) i (f x) (omega arith) (ap f e ∙ sym (get_or-map f xs i x (f x) p))

pub map_read : {X Y : Type 0} (f : X → Y) (xs : List X) (i : ℕ) (x : X) → i < length xs → x ≡ get_or xs i x → f x ≡ get_or (map f xs) i (f x)
map_read f xs i x p e = ap f e ∙ sym (get_or-map f xs i x (f x) p)

-- within the list the default does not matter
pub same_default : {X : Type 0} (xs : List X) (i : ℕ) (d e : X) → i < length xs → get_or xs i d ≡ get_or xs i e
same_default [] i d e p = absurd (omega arith)
same_default (x ∷ xs) zero d e p = refl
same_default (x ∷ xs) (suc i) d e p = same_default xs i d e (omega arith)

pub slice_map_read : {X Y : Type 0} (f : X → Y) (xs : List X) (i : ℕ) (x : X) → i < length xs → x ≡ get_or xs i x → slice_get (map f xs) i ≡ Some (f x)
slice_map_read f [] i x p e = absurd (omega arith)
slice_map_read f (y ∷ ys) zero x p e = ap (λ z. Some (f z)) (sym e)
slice_map_read f (y ∷ ys) (suc i) x p e = slice_map_read f ys i x (omega arith) e

pub slice_map_past : {X Y : Type 0} (f : X → Y) (xs : List X) (i : ℕ) → length xs ≤ i → slice_get (map f xs) i ≡ None
slice_map_past f [] i p = refl
slice_map_past f (y ∷ ys) zero p = absurd (omega arith)
slice_map_past f (y ∷ ys) (suc i) p = slice_map_past f ys i (omega arith)
