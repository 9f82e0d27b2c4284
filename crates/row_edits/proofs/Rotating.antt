-- A list of which the elements from a place on are turned, so that those at its end come first.
use Rattle.std.proofs.Common.{◌≡◌, ℕ, ◌+◌, ◌-◌, ◌≤◌, List, [], ◌++◌, length, take, drop, refl, ap, sym, ◌∙◌, arith}
use Rattle.std.proofs.lemmas.List.{length-append, length-drop, length-take-le, take_all, drop_all, drop-drop, drop-take, append-nil}
use borrow.Rule.Slice.PartMut.{post_of}

-- what a slice of a vector's elements leaves when it is written whole
pub written : {X : Type 0} (n : ℕ) (xs ys : List X) → length ys ≡ n → length xs ≡ n → take n (xs ++ drop (length xs) ys) ≡ xs
written n xs ys e f =
    ap (λ zs. take n (xs ++ zs)) (drop_all (length xs) ys (omega arith)) ∙ ap (take n) (append-nil xs) ∙ take_all n xs (omega arith)

-- what a turn of the elements from number k on leaves
module _ {X : Type 0} (xs rot : List X) (k old fresh : ℕ) (le : k ≤ old) (there : old ≤ length xs) (is : fresh ≡ length xs - old) where
  abbrev mid : List X → List X
  mid ys = take (length ys - k) (drop k ys)

  abbrev whole : List X → List X
  whole ys = take k ys ++ (rot ++ post_of k (length ys - k) ys)

  abbrev after : List X → List X
  after ys = drop (length (mid ys) - fresh) (mid ys) ++ take (length (mid ys) - fresh) (mid ys)

  whole_is : rot ≡ after xs → whole xs ≡ take k xs ++ (drop old xs ++ drop k (take old xs))
  whole_is h =
      let tail : List X = drop k xs in
      let t = length-drop k xs in
      let m : mid xs ≡ tail = take_all (length xs - k) tail (omega arith) in
      let n = ap length m in
      let cut : length (mid xs) - fresh ≡ old - k = omega arith in
      let sum : k + (old - k) ≡ old = omega arith in
      let one : rot ≡ drop (old - k) tail ++ take (old - k) tail = h ∙ ap (λ i. drop i (mid xs) ++ take i (mid xs)) cut ∙ ap (λ ys. drop (old - k) ys ++ take (old - k) ys) m in
      let two : drop (old - k) tail ≡ drop old xs = drop-drop (old - k) k xs ∙ ap (λ i. drop i xs) sum in
      let three : take (old - k) tail ≡ drop k (take old xs) = sym (drop-take k (old - k) xs) ∙ ap (λ i. drop k (take i xs)) sum in
      let four : post_of k (length xs - k) xs ≡ [] = drop_all (length xs - k) tail (omega arith) in
      ap (λ ys. take k xs ++ (rot ++ ys)) four
      ∙ ap (λ ys. take k xs ++ ys) (append-nil rot ∙ one ∙ ap (λ ys. ys ++ take (old - k) tail) two ∙ ap (λ ys. drop old xs ++ ys) three)

  turn : rot ≡ after xs → take (length xs) (whole xs ++ drop (length (whole xs)) xs) ≡ take k xs ++ (drop old xs ++ drop k (take old xs))
  turn h =
      let a = ap length (whole_is h) in
      let b = length-append (take k xs) (drop old xs ++ drop k (take old xs)) in
      let c = length-append (drop old xs) (drop k (take old xs)) in
      let d = length-drop old xs in
      let e = length-drop k (take old xs) in
      let f = length-take-le k xs (omega arith) in
      let g = length-take-le old xs there in
      written (length xs) (whole xs) xs refl (omega arith) ∙ whole_is h

  pub turn_through : (ys : List X) (len : ℕ) → len ≡ length xs → ys ≡ xs → rot ≡ after ys → take len (whole ys ++ drop (length (whole ys)) xs) ≡ take k xs ++ (drop old xs ++ drop k (take old xs))
  turn_through ys len l e h =
      ap (λ i. take i (whole ys ++ drop (length (whole ys)) xs)) l ∙ ap (λ zs. take (length xs) (whole zs ++ drop (length (whole zs)) xs)) e ∙ turn (h ∙ ap after e)
