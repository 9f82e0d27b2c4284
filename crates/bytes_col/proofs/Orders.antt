-- What lists have in common at their front decides nothing of their order.
use Rattle.std.proofs.Common.{◌≡◌, ℕ, ◌+◌, ◌-◌, ◌*◌, ◌%◌, ◌^◌, ◌≤◌, Bool, true, false, not, cond, eqb, List, [], ◌∷◌, ◌++◌, length, map, take, drop, take-add, refl, sym, ap, ◌∙◌, arith, w8}
use Rattle.std.proofs.lemmas.Bool.{eqb-true}
use Rattle.std.proofs.lemmas.List.{take-append-drop, take-take, take_all, length-drop}
use Rattle.std.proofs.lemmas.Simd.{tops_compared, mask_l-mod, length-zip2}
use Rattle.std.specs.Simd.Lanes.{mask_l, top, zip2}
use Rattle.std.specs.Cmp.{nat_cmp_is}
use Rattle.std.specs.Cmp.Lexicographic.{slice_cmp}
use Rattle.std.specs.Ordering.{nat_cmp, ordering_then}
use Rattle.std.specs.declared.cmp.Ordering.TheVariants.{Equal}

common_front : (front xs ys : List ℕ) → slice_cmp nat_cmp (front ++ xs) (front ++ ys) ≡ slice_cmp nat_cmp xs ys
common_front [] xs ys = refl
common_front (z ∷ zs) xs ys =
    ap (λ o. ordering_then o (slice_cmp nat_cmp (zs ++ xs) (zs ++ ys))) (sym (nat_cmp_is z z Equal refl))
    ∙ common_front zs xs ys

pub past_front : (n : ℕ) (xs ys : List ℕ) → take n xs ≡ take n ys → slice_cmp nat_cmp (drop n xs) (drop n ys) ≡ slice_cmp nat_cmp xs ys
past_front n xs ys same =
    sym (common_front (take n xs) (drop n xs) (drop n ys))
    ∙ ap (λ z. slice_cmp nat_cmp z (take n xs ++ drop n ys)) (take-append-drop n xs)
    ∙ ap (λ z. slice_cmp nat_cmp xs (z ++ drop n ys)) same
    ∙ ap (slice_cmp nat_cmp xs) (take-append-drop n ys)

-- one block more is the same
pub same_more : (at n : ℕ) (xs ys : List ℕ) → take at xs ≡ take at ys → take n (drop at xs) ≡ take n (drop at ys) → take (at + n) xs ≡ take (at + n) ys
same_more at n xs ys before block =
    take-add at n xs ∙ ap (λ z. z ++ take n (drop at xs)) before ∙ ap (λ z. take at ys ++ z) block ∙ sym (take-add at n ys)

-- less is the same
pub same_less : (m n : ℕ) (xs ys : List ℕ) → m ≤ n → take n xs ≡ take n ys → take m xs ≡ take m ys
same_less m n xs ys le same = sym (take-take m n xs le) ∙ ap (take m) same ∙ take-take m n ys le

-- a slice from a place up to the end
pub behind : (at : ℕ) (xs : List ℕ) → take (length xs - at) (drop at xs) ≡ drop at xs
behind at xs = take_all (length xs - at) (drop at xs) (omega (arith, length-drop at xs))

-- lanes of which none differ
none_differ : (xs ys : List ℕ) → length xs ≡ length ys → mask_l (zip2 (λ a b. not (eqb a b)) xs ys) ≡ 0 → xs ≡ ys
none_differ [] [] len none = refl
none_differ [] (y ∷ ys) len none = absurd (omega arith)
none_differ (x ∷ xs) [] len none = absurd (omega arith)
none_differ (x ∷ xs) (y ∷ ys) len none = go (eqb x y) refl none (λ rest. none_differ xs ys (omega arith) rest)
  where
    go : (b : Bool) → eqb x y ≡ b → cond (not b) 1 0 + 2 * mask_l (zip2 (λ a b. not (eqb a b)) xs ys) ≡ 0 → (mask_l (zip2 (λ a b. not (eqb a b)) xs ys) ≡ 0 → xs ≡ ys) → x ∷ xs ≡ y ∷ ys
    go true is none tails = ap (λ z. z ∷ xs) (eqb-true x y is) ∙ ap (λ zs. y ∷ zs) (tails (omega (arith, none)))
    go false is none tails = absurd (omega (arith, none))

-- a mask of 32 lanes that differ, with no bit set
pub same_lanes : (xs ys : List ℕ) → length xs ≡ 32 → length ys ≡ 32 → mask_l (map (top 7) (zip2 (λ a b. cond (not (eqb a b)) 255 0) xs ys)) % 2 ^ 64 ≡ 0 → xs ≡ ys
same_lanes xs ys long as_long none =
    let t : ℕ → ℕ → Bool = λ a b. not (eqb a b) in
    let count : length (zip2 t xs ys) ≤ 64 = omega (arith, length-zip2 t xs ys) in
    let mask : mask_l (zip2 t xs ys) ≡ 0 =
    sym (mask_l-mod (zip2 t xs ys) 64 count) ∙ ap (λ ms. mask_l ms % 2 ^ 64) (sym (tops_compared w8 t xs ys)) ∙ none in
    none_differ xs ys (long ∙ sym as_long) mask
