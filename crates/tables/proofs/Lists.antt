-- Lists put together from parts, element by element.
use Rattle.std.proofs.Common.{◌≡◌, ℕ, zero, suc, ◌+◌, ◌<◌, List, [], ◌∷◌, ◌++◌, length, get_or, take, drop, map, replicate, refl, ap, sym, subst, ◌∙◌, arith}
use Rattle.std.proofs.lemmas.List.{map-append, take-map, drop-map}
use Rattle.tables.specs.Rows.{inserted, removed}
use Rattle.tables.specs.Homes.{Home, columns_of, column_homes, each_of, row_homes}

pub map-replicate : {X Y : Type 0} (f : X → Y) (n : ℕ) (x : X) → map f (replicate n x) ≡ replicate n (f x)
map-replicate f zero x = refl
map-replicate f (suc n) x = ap (λ ys. f x ∷ ys) (map-replicate f n x)

pub map-inserted : {X Y : Type 0} (f : X → Y) (at n : ℕ) (x : X) (xs : List X) → map f (inserted at n x xs) ≡ inserted at n (f x) (map f xs)
map-inserted f at n x xs =
    map-append f (take at xs) (replicate n x ++ drop at xs)
    ∙ ap (λ ys. map f (take at xs) ++ ys) (map-append f (replicate n x) (drop at xs) ∙ ap (λ ys. ys ++ map f (drop at xs)) (map-replicate f n x))
    ∙ ap (λ ys. ys ++ (replicate n (f x) ++ map f (drop at xs))) (sym (take-map f at xs))
    ∙ ap (λ ys. take at (map f xs) ++ (replicate n (f x) ++ ys)) (sym (drop-map f at xs))

pub map-removed : {X Y : Type 0} (f : X → Y) (at n : ℕ) (xs : List X) → map f (removed at n xs) ≡ removed at n (map f xs)
map-removed f at n xs =
    map-append f (take at xs) (drop (at + n) xs)
    ∙ ap (λ ys. ys ++ map f (drop (at + n) xs)) (sym (take-map f at xs))
    ∙ ap (λ ys. take at (map f xs) ++ ys) (sym (drop-map f (at + n) xs))

-- what stands at a place, where the rest from there on is known
pub record At {X : Type 0} (xs : List X) (k : ℕ) (x : X) (rest : List X) (d : X) : Type 0 where
  pub within : k < length xs
  pub here : get_or xs k d ≡ x
  pub next : drop (k + 1) xs ≡ rest

pub drop_at : {X : Type 0} (xs : List X) (k : ℕ) (x : X) (rest : List X) (d : X) → drop k xs ≡ x ∷ rest → At xs k x rest d
drop_at [] zero x rest d e = absurd (let g : ◌≡◌ {A = List _} [] (x ∷ rest) = e in cc)
drop_at [] (suc k) x rest d e = absurd (let g : ◌≡◌ {A = List _} [] (x ∷ rest) = e in cc)
drop_at (y ∷ ys) zero x rest d e = let g : ◌≡◌ {A = List _} (y ∷ ys) (x ∷ rest) = e in record { within = omega arith; here = cc; next = cc }
drop_at (y ∷ ys) (suc k) x rest d e =
    let found = drop_at ys k x rest d e in
    record { within = let p = found.within in omega arith; here = found.here; next = subst (λ m. drop m (y ∷ ys) ≡ rest) (let n : suc (k + 1) ≡ suc k + 1 = omega arith in n) found.next }

-- homes as lists and as plain data: each form gives back the other
pub columns_of-column_homes : (homes : List Home) → columns_of (column_homes homes) ≡ homes
columns_of-column_homes [] = refl
columns_of-column_homes (h ∷ rest) = ap (λ hs. h ∷ hs) (columns_of-column_homes rest)

pub each_of-row_homes : (rows : List (List Home)) → each_of (row_homes rows) ≡ rows
each_of-row_homes [] = refl
each_of-row_homes (hs ∷ rest) =
    ap (λ h. h ∷ each_of (row_homes rest)) (columns_of-column_homes hs) ∙ ap (λ rs. hs ∷ rs) (each_of-row_homes rest)
