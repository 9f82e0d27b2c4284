-- Numbers by their digits in a base b, the lowest first.
use Rattle.std.proofs.Common.{◌≡◌, ℕ, zero, suc, ◌+◌, ◌*◌, ◌/◌, ◌%◌, ◌^◌, ◌<◌, ◌≤◌, List, [], ◌∷◌, ◌++◌, length, get_or, set, take, drop, replicate, refl, sym, ap, ◌∙◌, arith}
use Rattle.std.proofs.Math.Nat.{pow-succ', pow-zero, pow-suc, mul-add-div, add-mul-mod_self_left, div-eq_of_lt, mod-eq_of_lt, div-div-eq-div-mul, div-one, zero-div, zero-mod, mul_assoc, mul-zero, add-zero, mul-le-mul_left, pow-le-pow_right}
use Rattle.std.proofs.lemmas.List.{get_or-drop, length-take}
use Rattle.std.proofs.lemmas.Nat.{pow-add}
use Rattle.std.specs.List.{AllByRecursion}
use Rattle.bit_pack.specs.Packed.{number_of}

-- each digit is below the base
abbrev pub AreDigits : ℕ → List ℕ → Type 0
AreDigits b ds = AllByRecursion (λ d. d < b) ds

-- (a ^ m) ^ n
pub pow-mul : (a m n : ℕ) → a ^ (m * n) ≡ (a ^ m) ^ n
pow-mul a m zero = ap (λ (k : ℕ). a ^ k) (mul-zero m) ∙ pow-zero a ∙ sym (pow-zero (a ^ m))
pow-mul a m (suc n) =
    let step : a ^ (m * n + m) ≡ a ^ (m * n) * a ^ m = pow-add a (m * n) m in
    let turned : m * suc n ≡ m * n + m = omega arith in
    ap (λ (k : ℕ). a ^ k) turned ∙ step ∙ ap (λ (k : ℕ). k * a ^ m) (pow-mul a m n) ∙ sym (pow-suc (a ^ m) n)

pub number_of-append : (b : ℕ) (xs ys : List ℕ) → number_of b (xs ++ ys) ≡ number_of b xs + b ^ length xs * number_of b ys
number_of-append b [] ys = grind (arith, pow-zero b)
number_of-append b (x ∷ xs) ys =
    let rest = number_of-append b xs ys in
    let power = pow-succ' b (length xs) in
    let multiplied : b * number_of b (xs ++ ys) ≡ b * (number_of b xs + b ^ length xs * number_of b ys) = ap (λ (n : ℕ). b * n) rest in
    let regrouped : b ^ suc (length xs) * number_of b ys ≡ b * (b ^ length xs * number_of b ys) = ap (λ (n : ℕ). n * number_of b ys) power ∙ mul_assoc b (b ^ length xs) (number_of b ys) in
    omega (arith, multiplied, regrouped)

pub number_of-split : (b k : ℕ) (ds : List ℕ) → number_of b ds ≡ number_of b (take k ds) + b ^ k * number_of b (drop k ds)
number_of-split b zero ds = grind (arith, pow-zero b)
number_of-split b (suc k) [] = grind arith
number_of-split b (suc k) (d ∷ ds) =
    let rest = number_of-split b k ds in
    let multiplied : b * number_of b ds ≡ b * (number_of b (take k ds) + b ^ k * number_of b (drop k ds)) = ap (λ (n : ℕ). b * n) rest in
    let regrouped : b ^ suc k * number_of b (drop k ds) ≡ b * (b ^ k * number_of b (drop k ds)) = ap (λ (n : ℕ). n * number_of b (drop k ds)) (pow-succ' b k) ∙ mul_assoc b (b ^ k) (number_of b (drop k ds)) in
    omega (arith, multiplied, regrouped)

pub number_of-lt : (b : ℕ) (ds : List ℕ) → AreDigits b ds → number_of b ds < b ^ length ds
number_of-lt b [] h = rw (pow-zero b) (omega arith)
number_of-lt b (d ∷ ds) h =
    let rest = number_of-lt b ds h.1 in
    let below : b * (number_of b ds + 1) ≤ b * b ^ length ds = mul-le-mul_left b (omega (arith, rest)) in
    rw (pow-succ' b (length ds)) (omega (arith, below, h.0))

pub AreDigits-take : (b k : ℕ) (ds : List ℕ) → AreDigits b ds → AreDigits b (take k ds)
AreDigits-take b zero ds h = tt
AreDigits-take b (suc k) [] h = tt
AreDigits-take b (suc k) (d ∷ ds) h = (h.0, AreDigits-take b k ds h.1)

pub AreDigits-drop : (b k : ℕ) (ds : List ℕ) → AreDigits b ds → AreDigits b (drop k ds)
AreDigits-drop b zero ds h = h
AreDigits-drop b (suc k) [] h = tt
AreDigits-drop b (suc k) (d ∷ ds) h = AreDigits-drop b k ds h.1

-- the digits from place k on
pub number_of-div : (b k : ℕ) (ds : List ℕ) → 0 < b → AreDigits b ds → number_of b ds / b ^ k ≡ number_of b (drop k ds)
number_of-div b zero ds pos h = rw (pow-zero b) (div-one (number_of b ds))
number_of-div b (suc k) [] pos h = zero-div (b ^ suc k)
number_of-div b (suc k) (d ∷ ds) pos h =
    let first : (b * number_of b ds + d) / b ≡ number_of b ds + d / b = mul-add-div pos (number_of b ds) d in
    let gone : d / b ≡ 0 = div-eq_of_lt h.0 in
    let turned : d + b * number_of b ds ≡ b * number_of b ds + d = omega arith in
    let one_off : (d + b * number_of b ds) / b ≡ number_of b ds = ap (λ (n : ℕ). n / b) turned ∙ first ∙ omega (arith, gone) in
    ap (λ (n : ℕ). (d + b * number_of b ds) / n) (pow-succ' b k) ∙ sym (div-div-eq-div-mul (d + b * number_of b ds) b (b ^ k)) ∙ ap (λ (n : ℕ). n / b ^ k) one_off ∙ number_of-div b k ds pos h.1

-- the digits below place k
pub number_of-mod : (b k : ℕ) (ds : List ℕ) → 0 < b → AreDigits b ds → number_of b ds % b ^ k ≡ number_of b (take k ds)
number_of-mod b k ds pos h =
    let small : number_of b (take k ds) < b ^ length (take k ds) = number_of-lt b (take k ds) (AreDigits-take b k ds h) in
    let short : length (take k ds) ≤ k = simp length-take (omega arith) in
    let grows : b ^ length (take k ds) ≤ b ^ k = pow-le-pow_right pos short in
    let below : number_of b (take k ds) < b ^ k = omega arith in
    ap (λ (n : ℕ). n % b ^ k) (number_of-split b k ds) ∙ add-mul-mod_self_left (number_of b (take k ds)) (b ^ k) (number_of b (drop k ds)) ∙ mod-eq_of_lt below

pub number_of-first : (b : ℕ) (ds : List ℕ) → AreDigits b ds → number_of b ds % b ≡ get_or ds 0 0
number_of-first b [] h = zero-mod b
number_of-first b (d ∷ ds) h = add-mul-mod_self_left d b (number_of b ds) ∙ mod-eq_of_lt h.0

-- the digit at place i
pub number_of-digit : (b i : ℕ) (ds : List ℕ) → 0 < b → AreDigits b ds → number_of b ds / b ^ i % b ≡ get_or ds i 0
number_of-digit b i ds pos h =
    ap (λ (n : ℕ). n % b) (number_of-div b i ds pos h) ∙ number_of-first b (drop i ds) (AreDigits-drop b i ds h) ∙ get_or-drop i ds 0 0 ∙ ap (λ (n : ℕ). get_or ds n 0) (add-zero i)

-- the k digits from place i on
pub number_of-window : (b i k : ℕ) (ds : List ℕ) → 0 < b → AreDigits b ds → number_of b ds / b ^ i % b ^ k ≡ number_of b (take k (drop i ds))
number_of-window b i k ds pos h =
    ap (λ (n : ℕ). n % b ^ k) (number_of-div b i ds pos h) ∙ number_of-mod b k (drop i ds) pos (AreDigits-drop b i ds h)

-- another digit at place i
pub number_of-set : (b i : ℕ) (ds : List ℕ) (d : ℕ) → i < length ds → number_of b (set ds i d) + b ^ i * get_or ds i 0 ≡ number_of b ds + b ^ i * d
number_of-set b i [] d h = absurd (omega (arith, h))
number_of-set b zero (e ∷ ds) d h = grind (arith, pow-zero b)
number_of-set b (suc i) (e ∷ ds) d h =
    let rest = number_of-set b i ds d (omega (arith, h)) in
    let multiplied : b * (number_of b (set ds i d) + b ^ i * get_or ds i 0) ≡ b * (number_of b ds + b ^ i * d) = ap (λ (n : ℕ). b * n) rest in
    let left : b ^ suc i * get_or ds i 0 ≡ b * (b ^ i * get_or ds i 0) = ap (λ (n : ℕ). n * get_or ds i 0) (pow-succ' b i) ∙ mul_assoc b (b ^ i) (get_or ds i 0) in
    let right : b ^ suc i * d ≡ b * (b ^ i * d) = ap (λ (n : ℕ). n * d) (pow-succ' b i) ∙ mul_assoc b (b ^ i) d in
    omega (arith, multiplied, left, right)

-- digits are determined by their number
pub number_of-injective : (b : ℕ) (xs ys : List ℕ) → AreDigits b xs → AreDigits b ys → length xs ≡ length ys → number_of b xs ≡ number_of b ys → xs ≡ ys
number_of-injective b [] [] h k l e = refl
number_of-injective b [] (y ∷ ys) h k l e = absurd (omega (arith, l))
number_of-injective b (x ∷ xs) [] h k l e = absurd (omega (arith, l))
number_of-injective b (x ∷ xs) (y ∷ ys) h k l e =
    let pos : 0 < b = omega (arith, h.0) in
    let heads : x ≡ y = sym (number_of-first b (x ∷ xs) h) ∙ ap (λ (n : ℕ). n % b) e ∙ number_of-first b (y ∷ ys) k in
    let tails : number_of b xs ≡ number_of b ys = sym (number_of-div b 1 (x ∷ xs) pos h) ∙ ap (λ (n : ℕ). n / b ^ 1) e ∙ number_of-div b 1 (y ∷ ys) pos k in
    let rest : xs ≡ ys = number_of-injective b xs ys h.1 k.1 (omega (arith, l)) tails in
    cc

pub number_of-replicate_zero : (b n : ℕ) → number_of b (replicate n 0) ≡ 0
number_of-replicate_zero b zero = refl
number_of-replicate_zero b (suc n) = omega (arith, ap (λ (k : ℕ). b * k) (number_of-replicate_zero b n))
