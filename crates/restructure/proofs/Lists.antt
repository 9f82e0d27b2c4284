-- Lists value by value.
use Rattle.std.proofs.Common.{◌≡◌, ℕ, zero, suc, ◌+◌, ◌<◌, ◌≤◌, List, [], ◌∷◌, ◌++◌, length, get_or, take, map, replicate, All, refl, ap, sym, ◌∙◌, arith}
use Rattle.std.proofs.lemmas.List.{take_more, take_all, map-append}
use Rattle.std.proofs.lemmas.List.Elements.{All-head, All-tail}
use Rattle.restructure.specs.Restructuring.{zip_with}

pub map-same : {X Y : Type 0} (f g : X → Y) → ((x : X) → f x ≡ g x) → (xs : List X) → map f xs ≡ map g xs
map-same f g e [] = refl
map-same f g e (x ∷ xs) = ap (λ y. y ∷ map f xs) (e x) ∙ ap (λ ys. g x ∷ ys) (map-same f g e xs)

-- the same of values of which something is known
pub map-known : {X Y : Type 0} (P : X → Type 0) (f g : X → Y) → ((x : X) → P x → f x ≡ g x) → (xs : List X) → All P xs → map f xs ≡ map g xs
map-known P f g e [] h = refl
map-known P f g e (x ∷ xs) h = ap (λ y. y ∷ map f xs) (e x (All-head P x xs h)) ∙ ap (λ ys. g x ∷ ys) (map-known P f g e xs (All-tail P x xs h))

-- one value for all
pub map-constant : {X Y : Type 0} (P : X → Type 0) (f : X → Y) (y : Y) → ((x : X) → P x → f x ≡ y) → (xs : List X) → All P xs → map f xs ≡ replicate (length xs) y
map-constant P f y e [] h = refl
map-constant P f y e (x ∷ xs) h = ap (λ z. z ∷ map f xs) (e x (All-head P x xs h)) ∙ ap (λ ys. y ∷ ys) (map-constant P f y e xs (All-tail P x xs h))

pub zip_with-maps : {X Y Z W : Type 0} (f : Y → Z → W) (g : X → Y) (h : X → Z) (xs : List X) → zip_with f (map g xs) (map h xs) ≡ map (λ x. f (g x) (h x)) xs
zip_with-maps f g h [] = refl
zip_with-maps f g h (x ∷ xs) = ap (λ ws. f (g x) (h x) ∷ ws) (zip_with-maps f g h xs)

pub map_twice : {X Y Z : Type 0} (f : Y → Z) (g : X → Y) (xs : List X) → map f (map g xs) ≡ map (λ x. f (g x)) xs
map_twice f g [] = refl
map_twice f g (x ∷ xs) = ap (λ zs. f (g x) ∷ zs) (map_twice f g xs)

pub behind : {X : Type 0} (xs : List X) (x : X) (rest : List X) (k : ℕ) (d : X) → length xs ≡ k → get_or (xs ++ (x ∷ rest)) k d ≡ x
behind [] x rest zero d e = refl
behind [] x rest (suc k) d e = absurd (omega arith)
behind (y ∷ ys) x rest zero d e = absurd (omega arith)
behind (y ∷ ys) x rest (suc k) d e = behind ys x rest k d (omega arith)

-- one value more of a list that is read value by value
pub map_more : {X Y : Type 0} (f : X → Y) (xs : List X) (i : ℕ) (d x : X) (done new : List Y) (y : Y) → done ≡ map f (take i xs) → i < length xs → get_or xs i d ≡ x → y ≡ f x → new ≡ done ++ y ∷ [] → new ≡ map f (take (i + 1) xs)
map_more f xs i d x done new y before p here made e =
    e ∙ ap (λ ys. ys ++ y ∷ []) before ∙ ap (λ z. map f (take i xs) ++ z ∷ []) (made ∙ ap f (sym here))
    ∙ sym (ap (map f) (take_more xs i d p) ∙ map-append f (take i xs) (get_or xs i d ∷ []))

pub all_read : {X Y : Type 0} (f : X → Y) (xs : List X) (i : ℕ) (done : List Y) → done ≡ map f (take i xs) → length xs ≤ i → done ≡ map f xs
all_read f xs i done before p = before ∙ ap (map f) (take_all i xs p)
