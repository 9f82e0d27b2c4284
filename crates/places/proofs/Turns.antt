-- Chunks that come in between others.
use Rattle.std.proofs.Common.{◌≡◌, ℕ, ◌+◌, ◌-◌, ◌≤◌, List, [], ◌∷◌, ◌++◌, length, take, drop, refl, ap, sym, ◌∙◌, arith}
use Rattle.std.specs.List.{concat}
use Rattle.std.proofs.lemmas.List.{length-append, length-drop, length-take-le, take-take, take-append-le, drop-append-le, take_all, drop_all, drop-drop, drop-take, take-append-drop, append_assoc, append-nil}
use Rattle.std.proofs.lemmas.List.Folds.{concat-append}
use borrow.Rule.Slice.PartMut.{post_of}
use Rattle.row_edits.specs.Runs.{run}
use Rattle.places.proofs.Stops.{written}
use Rattle.row_edits.proofs.Runs.{length-run, run_append}

module _ (c1 c2 c3 : List (List ℕ)) (k old : ℕ) (le : k ≤ old) (long : old ≡ length c1) (same : take old c2 ≡ c1) (is : c3 ≡ take k c2 ++ (drop old c2 ++ drop k (take old c2))) where
  front : take k c2 ≡ take k c1
  front = sym (take-take k old c2 le) ∙ ap (take k) same

  pub turned : (before between behind : List ℕ) → concat (drop old c2) ≡ between → concat (take k c1) ≡ before → concat (drop k c1) ≡ behind → concat c3 ≡ before ++ (between ++ behind)
  turned before between behind e f g =
      ap concat is ∙ concat-append (take k c2) (drop old c2 ++ drop k (take old c2))
      ∙ ap (λ ys. concat ys ++ concat (drop old c2 ++ drop k (take old c2))) front ∙ ap (λ ys. ys ++ concat (drop old c2 ++ drop k (take old c2))) f
      ∙ ap (λ ys. before ++ ys) (concat-append (drop old c2) (drop k (take old c2)) ∙ ap (λ ys. ys ++ concat (drop k (take old c2))) e ∙ ap (λ ys. between ++ concat (drop k ys)) same ∙ ap (λ ys. between ++ ys) g)

  pub turned_long : old ≤ length c2 → length c3 ≡ length c2
  turned_long there =
      let a = ap length is in
      let b = length-append (take k c2) (drop old c2 ++ drop k (take old c2)) in
      let c = length-append (drop old c2) (drop k (take old c2)) in
      let d = length-drop old c2 in
      let e = length-drop k (take old c2) in
      let f = length-take-le k c2 (omega arith) in
      let g = length-take-le old c2 there in
      omega arith

-- one chunk more of a run
pub filled : (cs : List (List ℕ)) (n from some left : ℕ) (x : List ℕ) (all : List ℕ) → n ≤ length cs → x ≡ run from some → some ≤ left → concat (drop n cs) ++ run from left ≡ all
    → concat (drop n (cs ++ x ∷ [])) ++ run (from + some) (left - some) ≡ all
filled cs n from some left x all le e l h =
    ap (λ ys. concat ys ++ run (from + some) (left - some)) (drop-append-le n cs (x ∷ []) le)
    ∙ ap (λ ys. ys ++ run (from + some) (left - some)) (concat-append (drop n cs) (x ∷ []) ∙ ap (λ ys. concat (drop n cs) ++ ys) (append-nil x ∙ e))
    ∙ append_assoc (concat (drop n cs)) (run from some) (run (from + some) (left - some))
    ∙ ap (λ ys. concat (drop n cs) ++ ys) (run_append from some (left - some) left (omega arith)) ∙ h

pub filled_front : (cs : List (List ℕ)) (n : ℕ) (x : List ℕ) → n ≤ length cs → take n (cs ++ x ∷ []) ≡ take n cs
filled_front cs n x le = take-append-le n cs (x ∷ []) le

-- what a turn of the chunks from number k on leaves
module _ {X : Type 0} (xs rot : List X) (k old fresh : ℕ) (le : k ≤ old) (there : old ≤ length xs) (is : fresh ≡ length xs - old) where
  abbrev mid : List X → List X
  mid ys = take (length ys - k) (drop k ys)

  abbrev whole : List X → List X
  whole ys = take k ys ++ (rot ++ post_of k (length ys - k) ys)

  abbrev after : List X → List X
  after ys = drop (length (mid ys) - fresh) (mid ys) ++ take (length (mid ys) - fresh) (mid ys)

  whole_is : rot ≡ after xs → whole xs ≡ take k xs ++ (drop old xs ++ drop k (take old xs))
  whole_is h =
      let tail : List X = drop k xs in
      let t = length-drop k xs in
      let m : mid xs ≡ tail = take_all (length xs - k) tail (omega arith) in
      let n = ap length m in
      let cut : length (mid xs) - fresh ≡ old - k = omega arith in
      let sum : k + (old - k) ≡ old = omega arith in
      let one : rot ≡ drop (old - k) tail ++ take (old - k) tail = h ∙ ap (λ i. drop i (mid xs) ++ take i (mid xs)) cut ∙ ap (λ ys. drop (old - k) ys ++ take (old - k) ys) m in
      let two : drop (old - k) tail ≡ drop old xs = drop-drop (old - k) k xs ∙ ap (λ i. drop i xs) sum in
      let three : take (old - k) tail ≡ drop k (take old xs) = sym (drop-take k (old - k) xs) ∙ ap (λ i. drop k (take i xs)) sum in
      let four : post_of k (length xs - k) xs ≡ [] = drop_all (length xs - k) tail (omega arith) in
      ap (λ ys. take k xs ++ (rot ++ ys)) four
      ∙ ap (λ ys. take k xs ++ ys) (append-nil rot ∙ one ∙ ap (λ ys. ys ++ take (old - k) tail) two ∙ ap (λ ys. drop old xs ++ ys) three)

  turn : rot ≡ after xs → take (length xs) (whole xs ++ drop (length (whole xs)) xs) ≡ take k xs ++ (drop old xs ++ drop k (take old xs))
  turn h =
      let a = ap length (whole_is h) in
      let b = length-append (take k xs) (drop old xs ++ drop k (take old xs)) in
      let c = length-append (drop old xs) (drop k (take old xs)) in
      let d = length-drop old xs in
      let e = length-drop k (take old xs) in
      let f = length-take-le k xs (omega arith) in
      let g = length-take-le old xs there in
      written (length xs) (whole xs) xs refl (omega arith) ∙ whole_is h

  pub turn_through : (ys : List X) (len : ℕ) → len ≡ length xs → ys ≡ xs → rot ≡ after ys → take len (whole ys ++ drop (length (whole ys)) xs) ≡ take k xs ++ (drop old xs ++ drop k (take old xs))
  turn_through ys len l e h =
      ap (λ i. take i (whole ys ++ drop (length (whole ys)) xs)) l ∙ ap (λ zs. take (length xs) (whole zs ++ drop (length (whole zs)) xs)) e ∙ turn (h ∙ ap after e)

-- one chunk more of a list
pub chunk_more : (ps : List ℕ) (cs new : List (List ℕ)) (x : List ℕ) (from n : ℕ) → concat cs ≡ take from ps → new ≡ cs ++ x ∷ [] → x ≡ take n (drop from ps) → concat new ≡ take (from + n) ps
chunk_more ps cs new x from n e f h =
    ap concat f ∙ concat-append cs (x ∷ []) ∙ ap (λ ys. concat cs ++ ys) (append-nil x ∙ h) ∙ ap (λ ys. ys ++ take n (drop from ps)) e
    ∙ ap (λ ys. ys ++ take n (drop from ps)) (sym (take-take from (from + n) ps (omega arith))) ∙ ap (λ ys. take from (take (from + n) ps) ++ ys) (sym (drop-take from n ps)) ∙ take-append-drop from (take (from + n) ps)

-- how long a list with a run in it is
pub run_long : (xs : List ℕ) (at first count : ℕ) → at ≤ length xs → length (take at xs ++ (run first count ++ drop at xs)) ≡ length xs + count
run_long xs at first count le =
    let a = length-append (take at xs) (run first count ++ drop at xs) in
    let b = length-append (run first count) (drop at xs) in
    let d = length-run first count in
    let e = length-take-le at xs le in
    let f = length-drop at xs in
    omega arith
