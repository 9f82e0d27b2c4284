-- Laws of the short bytes of values.
use Rattle.std.proofs.Common.{◌≡◌, ℕ, zero, suc, ◌+◌, ◌*◌, ◌<◌, ◌≤◌, Bool, true, false, cond, List, [], ◌∷◌, ◌++◌, length, map, sum, get_or, set, replicate, refl, sym, ap, ◌∙◌, arith}
use Rattle.std.proofs.lemmas.List.{length-append, append-nil, append_assoc}
use Rattle.std.proofs.lemmas.Bool.{leb-true, lt-leb}
use Rattle.std.specs.Prelude.{nat_le}
use Rattle.std.specs.List.{filter, concat}
use Rattle.segments.proofs.Counts.{sum-cons}
use Rattle.bytes_col.specs.Strings.{is_short, short_bytes}

-- the short bytes of one value
pub short_cons : (v : List ℕ) (vs : List (List ℕ)) → short_bytes (v ∷ vs) ≡ short_bytes (v ∷ []) ++ short_bytes vs
short_cons v vs = go (is_short v)
  where
    go : (b : Bool) → concat (cond b (v ∷ filter is_short vs) (filter is_short vs)) ≡ concat (cond b (v ∷ []) []) ++ concat (filter is_short vs)
    go true = ap (λ x. x ++ concat (filter is_short vs)) (sym (append-nil v))
    go false = refl

pub short-append : (xs ys : List (List ℕ)) → short_bytes (xs ++ ys) ≡ short_bytes xs ++ short_bytes ys
short-append [] ys = refl
short-append (x ∷ xs) ys =
    short_cons x (xs ++ ys)
    ∙ ap (λ z. short_bytes (x ∷ []) ++ z) (short-append xs ys)
    ∙ sym (append_assoc (short_bytes (x ∷ [])) (short_bytes xs) (short_bytes ys))
    ∙ ap (λ z. z ++ short_bytes ys) (sym (short_cons x xs))

pub length-short-cons : (v : List ℕ) (vs : List (List ℕ)) → length (short_bytes (v ∷ vs)) ≡ length (short_bytes (v ∷ [])) + length (short_bytes vs)
length-short-cons v vs = ap length (short_cons v vs) ∙ length-append (short_bytes (v ∷ [])) (short_bytes vs)

pub length-short-append : (xs ys : List (List ℕ)) → length (short_bytes (xs ++ ys)) ≡ length (short_bytes xs) + length (short_bytes ys)
length-short-append xs ys = ap length (short-append xs ys) ∙ length-append (short_bytes xs) (short_bytes ys)

pub length-short-replicate : (n : ℕ) (v : List ℕ) → length (short_bytes (replicate n v)) ≡ n * length (short_bytes (v ∷ []))
length-short-replicate zero v = omega arith
length-short-replicate (suc n) v =
    length-short-cons v (replicate n v) ∙ ap (λ m. length (short_bytes (v ∷ [])) + m) (length-short-replicate n v) ∙ (omega arith)

-- the count after one value is set
pub length-short-set : (vs : List (List ℕ)) (i : ℕ) (v : List ℕ) → i < length vs → length (short_bytes (set vs i v)) + length (short_bytes (get_or vs i [] ∷ [])) ≡ length (short_bytes vs) + length (short_bytes (v ∷ []))
length-short-set [] i v l = absurd (omega arith)
length-short-set (x ∷ xs) zero v l = omega (arith, length-short-cons v xs, length-short-cons x xs)
length-short-set (x ∷ xs) (suc i) v l = omega (arith, length-short-cons x (set xs i v), length-short-cons x xs, length-short-set xs i v (omega arith))

-- values of one length have as many short bytes
pub short_size : (u v : List ℕ) → length u ≡ length v → length (short_bytes (u ∷ [])) ≡ length (short_bytes (v ∷ []))
short_size u v same = of u ∙ ap (λ n. cond (nat_le n 512) n 0) same ∙ sym (of v)
  where
    go : (b : Bool) (w : List ℕ) → length (concat (cond b (w ∷ []) [])) ≡ cond b (length w) 0
    go true w = ap length (append-nil w)
    go false w = refl

    of : (w : List ℕ) → length (short_bytes (w ∷ [])) ≡ cond (nat_le (length w) 512) (length w) 0
    of w = go (nat_le (length w) 512) w

-- a memo has no short bytes
pub long_size : (v : List ℕ) → 512 < length v → length (short_bytes (v ∷ [])) ≡ 0
long_size v long = ap (λ b. length (concat (cond b (v ∷ []) []))) (lt-leb (length v) 512 long)

-- a value has at most 512 short bytes
pub short_one : (v : List ℕ) → length (short_bytes (v ∷ [])) ≤ 512
short_one v = go (is_short v) refl
  where
    go : (b : Bool) → is_short v ≡ b → length (concat (cond b (v ∷ []) [])) ≤ 512
    go true is = omega (arith, leb-true (length v) 512 is, ap length (append-nil v))
    go false is = omega arith

pub short_few : (vs : List (List ℕ)) → length (short_bytes vs) ≤ 512 * length vs
short_few [] = omega arith
short_few (v ∷ vs) = omega (arith, length-short-cons v vs, short_one v, short_few vs)

-- the count of the short bytes is the sum of the sizes up to 512
pub short_sum : (vs : List (List ℕ)) → length (short_bytes vs) ≡ sum (filter (λ n. nat_le n 512) (map length vs))
short_sum [] = refl
short_sum (v ∷ vs) = length-short-cons v vs ∙ go (is_short v) (short_sum vs)
  where
    rest : List ℕ
    rest = filter (λ n. nat_le n 512) (map length vs)

    go : (b : Bool) → length (short_bytes vs) ≡ sum rest → length (concat (cond b (v ∷ []) [])) + length (short_bytes vs) ≡ sum (cond b (length v ∷ rest) rest)
    go true below = omega (arith, ap length (append-nil v), sum-cons (length v) rest, below)
    go false below = omega (arith, below)
