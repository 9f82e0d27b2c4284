-- Laws of the counts of segments, and of where the segments end.
use Rattle.std.proofs.Common.{◌≡◌, ℕ, zero, suc, ◌+◌, ◌-◌, ◌*◌, ◌<◌, ◌≤◌, List, [], ◌∷◌, ◌++◌, length, map, get_or, set, take, drop, refl, sym, ap, subst, ◌∙◌, arith, sum}
use Rattle.std.specs.List.{All, AllByRecursion}
use Rattle.std.proofs.lemmas.List.{set_at, length-take-le, get_or_at, get_or_default, take_more}
use Rattle.std.proofs.lemmas.List.Elements.{All-head, All-tail, All-from_recursion}
use Rattle.std.proofs.lemmas.List.Sums.{sum_by-cons, sum_by-append}
use Rattle.segments.specs.Segments.{ends_from, counts_from, AreEnds}
use Rattle.segments.proofs.Lists.{last_parts, set_last}

pub sum-cons : (c : ℕ) (cs : List ℕ) → sum (c ∷ cs) ≡ c + sum cs
sum-cons c cs = sum_by-cons (λ n. n) c cs

pub sum-append : (xs ys : List ℕ) → sum (xs ++ ys) ≡ sum xs + sum ys
sum-append xs ys = sum_by-append (λ n. n) xs ys

-- k counts are at most k times `most` together
pub sum-take-few : (k most : ℕ) (cs : List ℕ) → All (λ n. n ≤ most) cs → sum (take k cs) ≤ k * most
sum-take-few zero most cs h = omega arith
sum-take-few (suc k) most [] h = omega arith
sum-take-few (suc k) most (c ∷ cs) h =
    let P : ℕ → Type 0 = λ n. n ≤ most in
    let few : c ≤ most = All-head P c cs h in
    omega (arith, sum-cons c (take k cs), sum-take-few k most cs (All-tail P c cs h))

-- the first k + 1 are those before and one more
pub sum-take-suc : (k : ℕ) (cs : List ℕ) → k < length cs → sum (take (suc k) cs) ≡ sum (take k cs) + get_or cs k 0
sum-take-suc k [] l = absurd (omega arith)
sum-take-suc zero (c ∷ cs) l = omega (arith, sum-cons c [])
sum-take-suc (suc k) (c ∷ cs) l = omega (arith, sum-cons c (take (suc k) cs), sum-cons c (take k cs), sum-take-suc k cs (omega arith))

pub sum-take-mono : (cs : List ℕ) (j k : ℕ) → j ≤ k → sum (take j cs) ≤ sum (take k cs)
sum-take-mono cs zero k le = omega arith
sum-take-mono cs (suc j) zero le = absurd (omega arith)
sum-take-mono [] (suc j) (suc k) le = omega arith
sum-take-mono (c ∷ cs) (suc j) (suc k) le = omega (arith, sum-cons c (take j cs), sum-cons c (take k cs), sum-take-mono cs j k (omega arith))

-- where each segment ends

pub length-ends_from : (n : ℕ) (cs : List ℕ) → length (ends_from n cs) ≡ length cs
length-ends_from n [] = refl
length-ends_from n (c ∷ cs) = ap suc (length-ends_from (n + c) cs)

pub length-counts_from : (n : ℕ) (es : List ℕ) → length (counts_from n es) ≡ length es
length-counts_from n [] = refl
length-counts_from n (e ∷ es) = ap suc (length-counts_from e es)

counts_from-ends_from : (n : ℕ) (cs : List ℕ) → counts_from n (ends_from n cs) ≡ cs
counts_from-ends_from n [] = refl
counts_from-ends_from n (c ∷ cs) =
    ap (λ m. m ∷ counts_from (n + c) (ends_from (n + c) cs)) (let e : n + c - n ≡ c = omega arith in e) ∙ ap (λ ds. c ∷ ds) (counts_from-ends_from (n + c) cs)

-- the ends of these counts are ends, and the counts are seen in them
pub ends_made : (most : ℕ) (cs es : List ℕ) → 0 < most → All (λ n. n ≤ most) cs → sum cs ≤ 16777216 → es ≡ ends_from 0 cs → AreEnds most es × (counts_from 0 es ≡ cs)
ends_made most cs es some each few made =
    let same : counts_from 0 es ≡ cs = ap (counts_from 0) made ∙ counts_from-ends_from 0 cs in
    let P : List ℕ → Type 0 = All (λ n. n ≤ most) in (
      record {
        some = some;
        each = subst P (sym same) each;
        few = omega (arith, ap sum same);
        placed = made ∙ ap (ends_from 0) (sym same);
      },
      same,
    )

pub get_or-ends_from : (n : ℕ) (cs : List ℕ) (k : ℕ) → k < length cs → get_or (ends_from n cs) k 0 ≡ n + sum (take (suc k) cs)
get_or-ends_from n [] k l = absurd (omega arith)
get_or-ends_from n (c ∷ cs) zero l = omega (arith, sum-cons c [])
get_or-ends_from n (c ∷ cs) (suc k) l = omega (arith, get_or-ends_from (n + c) cs k (omega arith), sum-cons c (take (suc k) cs))

pub ends_from-append : (n : ℕ) (xs ys : List ℕ) → ends_from n (xs ++ ys) ≡ ends_from n xs ++ ends_from (n + sum xs) ys
ends_from-append n [] ys = ap (λ m. ends_from m ys) (let e : n ≡ n + 0 = omega arith in e)
ends_from-append n (x ∷ xs) ys =
    ap (λ es. (n + x) ∷ es) (ends_from-append (n + x) xs ys ∙ ap (λ m. ends_from (n + x) xs ++ ends_from m ys) (let e : n + x + sum xs ≡ n + sum (x ∷ xs) = omega (arith, sum-cons x xs) in e))

pub take-ends_from : (n k : ℕ) (cs : List ℕ) → take k (ends_from n cs) ≡ ends_from n (take k cs)
take-ends_from n zero cs = refl
take-ends_from n (suc k) [] = refl
take-ends_from n (suc k) (c ∷ cs) = ap (λ es. (n + c) ∷ es) (take-ends_from (n + c) k cs)

pub drop-ends_from : (n k : ℕ) (cs : List ℕ) → drop k (ends_from n cs) ≡ ends_from (n + sum (take k cs)) (drop k cs)
drop-ends_from n zero cs = ap (λ m. ends_from m cs) (let e : n ≡ n + 0 = omega arith in e)
drop-ends_from n (suc k) [] = refl
drop-ends_from n (suc k) (c ∷ cs) =
    drop-ends_from (n + c) k cs ∙ ap (λ m. ends_from m (drop k cs)) (let e : n + c + sum (take k cs) ≡ n + sum (c ∷ take k cs) = omega (arith, sum-cons c (take k cs)) in e)

-- ends that begin at p, moved so that those at m are at n
shifted : (m n p : ℕ) (cs : List ℕ) → m ≤ p → ends_from (p - m + n) cs ≡ map (λ e. e - m + n) (ends_from p cs)
shifted m n p [] le = refl
shifted m n p (c ∷ cs) le =
    let first : p - m + n + c ≡ p + c - m + n = omega arith in
    ap (λ e. e ∷ ends_from (p - m + n + c) cs) first
    ∙ ap (λ es. (p + c - m + n) ∷ es) (ap (λ e. ends_from e cs) first ∙ shifted m n (p + c) cs (omega arith))

pub ends_from-shift : (m n : ℕ) (cs : List ℕ) → map (λ e. e - m + n) (ends_from m cs) ≡ ends_from n cs
ends_from-shift m n cs =
    sym (ap (λ e. ends_from e cs) (let e : n ≡ m - m + n = omega arith in e) ∙ shifted m n m cs (omega arith))

ends_between : (P : ℕ → Type 0) (n : ℕ) (cs : List ℕ) → ((e : ℕ) → n ≤ e → e ≤ n + sum cs → P e) → AllByRecursion P (ends_from n cs)
ends_between P n [] each = tt
ends_between P n (c ∷ cs) each =
    (each (n + c) (omega arith) (omega (arith, sum-cons c cs)), ends_between P (n + c) cs (λ e low high. each e (omega arith) (omega (arith, sum-cons c cs))))

-- a fact of each place from n up to the last end is one of each end
pub All-ends_from : (P : ℕ → Type 0) (n : ℕ) (cs : List ℕ) → ((e : ℕ) → n ≤ e → e ≤ n + sum cs → P e) → All P (ends_from n cs)
All-ends_from P n cs each = All-from_recursion P (ends_from n cs) (ends_between P n cs each)

-- one item more in the last segment
pub ends_extended : (cs es : List ℕ) (last end : ℕ) → es ≡ ends_from 0 cs → suc last ≡ length cs → end ≡ get_or es last 0 + 1 → set es last end ≡ ends_from 0 (set cs last (get_or cs last 0 + 1))
ends_extended cs es last end placed len is =
    let n : ℕ = get_or cs last 0 in
    let init : List ℕ = take last cs in
    let same : n ≡ get_or cs last n = get_or_default cs last 0 n (omega arith) in
    let front : length init ≡ last = length-take-le last cs (omega arith) in
    let first : length (ends_from 0 init) ≡ last = length-ends_from 0 init ∙ front in
    let ends : es ≡ ends_from 0 init ++ (0 + sum init + n) ∷ [] =
    placed ∙ ap (ends_from 0) (last_parts cs n last len same) ∙ ends_from-append 0 init (n ∷ []) in
    let at_last : get_or es last 0 ≡ 0 + sum init + n = ap (λ z. get_or z last 0) ends ∙ get_or_at (ends_from 0 init) (0 + sum init + n) [] 0 last first in
    ap (λ z. set z last end) ends
    ∙ set_at (ends_from 0 init) (0 + sum init + n) [] end last first
    ∙ ap (λ e. ends_from 0 init ++ e ∷ []) (let e : end ≡ 0 + sum init + (n + 1) = omega (arith, is, at_last) in e)
    ∙ sym (ap (ends_from 0) (set_last cs n (n + 1) last len same) ∙ ends_from-append 0 init ((n + 1) ∷ []))

pub sum-extended : (cs : List ℕ) (k n : ℕ) → k < length cs → n ≡ get_or cs k 0 + 1 → sum (set cs k n) ≡ sum cs + 1
sum-extended [] k n l is = absurd (omega arith)
sum-extended (c ∷ cs) zero n l is = omega (arith, sum-cons c cs, sum-cons n cs)
sum-extended (c ∷ cs) (suc k) n l is = omega (arith, sum-cons c cs, sum-cons c (set cs k n), sum-extended cs k n (omega arith) is)

-- one segment more

pub sum-take-more : (cs : List ℕ) (k : ℕ) → k < length cs → sum (take (k + 1) cs) ≡ sum (take k cs) + get_or cs k 0
sum-take-more cs k l =
    let next : k + 1 ≡ suc k = omega arith in
    ap (λ n. sum (take n cs)) next ∙ sum-take-suc k cs l

pub ends_from-more : (n : ℕ) (cs : List ℕ) (k end : ℕ) → k < length cs → end ≡ n + sum (take k cs) + get_or cs k 0 → ends_from n (take (k + 1) cs) ≡ ends_from n (take k cs) ++ end ∷ []
ends_from-more n cs k end l is =
    ap (ends_from n) (take_more cs k 0 l)
    ∙ ends_from-append n (take k cs) (get_or cs k 0 ∷ [])
    ∙ ap (λ e. ends_from n (take k cs) ++ e ∷ []) (sym is)
