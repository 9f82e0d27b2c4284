-- Laws of cuts and of where they end.
use Rattle.std.proofs.Common.{◌≡◌, ℕ, zero, suc, ◌+◌, ◌-◌, ◌*◌, ◌/◌, ◌%◌, ◌<◌, ◌≤◌, inl, inr, List, [], ◌∷◌, ◌++◌, length, get_or, set, take, drop, replicate, refl, sym, ap, subst, ◌∙◌, arith, sum}
use Rattle.std.proofs.lemmas.List.{append-nil, drop_all, replicate_more}
use Rattle.std.proofs.lemmas.Bool.{cases_lt}
use Rattle.segments.specs.Splices.{AreApartBefore, AreApartBehind}
use Rattle.segments.proofs.Counts.{sum-cons, sum-append}
use Rattle.segments.proofs.Lists.{drop-cons-at}
use Rattle.int_col.specs.Cuts.{Precedes, AreCuts, rest_cut, full_cuts}

-- a last cut c may stand right before these cuts
pub Precedes-more : (c d : ℕ) (cs : List ℕ) → c ≤ d → Precedes c cs → Precedes d cs
Precedes-more c d [] le h = tt
Precedes-more c d (e ∷ cs) le h = omega (arith, h)

-- the last of the cuts, or of c and the cuts
abbrev pub last_cut : ℕ → List ℕ → ℕ
last_cut c [] = c
last_cut c (d ∷ ds) = last_cut d ds

-- a cut may stand before the first of xs ++ ys where it may before the first of xs, and, if xs is empty, of ys
pub Precedes-append : (c : ℕ) (xs ys : List ℕ) → Precedes c xs → (xs ≡ [] → Precedes c ys) → Precedes c (xs ++ ys)
Precedes-append c [] ys h k = k refl
Precedes-append c (x ∷ xs) ys h k = h

-- two lists of cuts make one where the last of the first may stand before the second
abbrev pub Meet : List ℕ → List ℕ → Type 0
Meet [] ys = Unit {0}
Meet (x ∷ []) ys = Precedes x ys
Meet (x ∷ y ∷ xs) ys = Meet (y ∷ xs) ys

pub AreCuts-append : (xs ys : List ℕ) → AreCuts xs → AreCuts ys → Meet xs ys → AreCuts (xs ++ ys)
AreCuts-append [] ys h k m = k
AreCuts-append (x ∷ []) ys h k m = (h.0, h.1, m, k)
AreCuts-append (x ∷ y ∷ xs) ys h k m = (h.0, h.1, h.2, AreCuts-append (y ∷ xs) ys h.3 k m)

pub AreCuts-take : (k : ℕ) (cs : List ℕ) → AreCuts cs → AreCuts (take k cs)
AreCuts-take zero cs h = tt
AreCuts-take (suc k) [] h = tt
AreCuts-take (suc zero) (c ∷ cs) h = (h.0, h.1, tt, tt)
AreCuts-take (suc (suc k)) (c ∷ []) h = (h.0, h.1, tt, tt)
AreCuts-take (suc (suc k)) (c ∷ d ∷ cs) h = (h.0, h.1, h.2, AreCuts-take (suc k) (d ∷ cs) h.3)

pub AreCuts-drop : (k : ℕ) (cs : List ℕ) → AreCuts cs → AreCuts (drop k cs)
AreCuts-drop zero cs h = h
AreCuts-drop (suc k) [] h = tt
AreCuts-drop (suc k) (c ∷ cs) h = AreCuts-drop k cs h.3

-- each cut is 1 to 2,048
pub cut_some : (cs : List ℕ) (k : ℕ) → AreCuts cs → k < length cs → 0 < get_or cs k 0
cut_some [] k h l = absurd (omega arith)
cut_some (c ∷ cs) zero h l = h.0
cut_some (c ∷ cs) (suc k) h l = cut_some cs k h.3 (omega arith)

pub cut_few : (cs : List ℕ) (k : ℕ) → AreCuts cs → k < length cs → get_or cs k 0 ≤ 2048
cut_few [] k h l = absurd (omega arith)
cut_few (c ∷ cs) zero h l = h.1
cut_few (c ∷ cs) (suc k) h l = cut_few cs k h.3 (omega arith)

-- two neighbours are above 2,048 together
pub cut_neighbours : (cs : List ℕ) (k : ℕ) → AreCuts cs → suc k < length cs → 2048 < get_or cs k 0 + get_or cs (suc k) 0
cut_neighbours [] k h l = absurd (omega arith)
cut_neighbours (c ∷ []) k h l = absurd (omega arith)
cut_neighbours (c ∷ d ∷ cs) zero h l = h.2
cut_neighbours (c ∷ d ∷ cs) (suc k) h l = cut_neighbours (d ∷ cs) k h.3 (omega arith)

-- whole segments and what is left

pub full_cuts-zero : full_cuts 0 ≡ []
full_cuts-zero = refl

pub sum-replicate : (n c : ℕ) → sum (replicate n c) ≡ n * c
sum-replicate zero c = omega arith
sum-replicate (suc n) c = omega (arith, sum-cons c (replicate n c), sum-replicate n c)

sum-rest_cut : (n : ℕ) → sum (rest_cut n) ≡ n
sum-rest_cut zero = refl
sum-rest_cut (suc n) = omega (arith, sum-cons (suc n) [])

pub sum-full_cuts : (n : ℕ) → sum (full_cuts n) ≡ n
sum-full_cuts n = omega (arith, sum-append (replicate (n / 2048) 2048) (rest_cut (n % 2048)), sum-replicate (n / 2048) 2048, sum-rest_cut (n % 2048))

-- by quotient and rest
full_cuts-at : (n q r : ℕ) → n ≡ q * 2048 + r → r < 2048 → full_cuts n ≡ replicate q 2048 ++ rest_cut r
full_cuts-at n q r e small =
    let quotient : n / 2048 ≡ q = omega arith in
    let rest : n % 2048 ≡ r = omega arith in
    ap (λ a. replicate a 2048 ++ rest_cut (n % 2048)) quotient ∙ ap (λ b. replicate q 2048 ++ rest_cut b) rest

rest_cut-some : (n : ℕ) → 0 < n → rest_cut n ≡ n ∷ []
rest_cut-some zero some = absurd (omega arith)
rest_cut-some (suc n) some = refl

-- one more segment after whole ones
pub full_cuts-more : (n c : ℕ) → n % 2048 ≡ 0 → 0 < c → c ≤ 2048 → full_cuts (n + c) ≡ full_cuts n ++ c ∷ []
full_cuts-more n c whole some few =
    let before : full_cuts n ≡ replicate (n / 2048) 2048 = full_cuts-at n (n / 2048) 0 (omega arith) (omega arith) ∙ append-nil _ in
    let step : full_cuts (n + c) ≡ replicate (n / 2048) 2048 ++ c ∷ [] =
    elim (cases_lt c 2048) [
      | inl less ↦ full_cuts-at (n + c) (n / 2048) c (omega arith) less ∙ ap (λ rest. replicate (n / 2048) 2048 ++ rest) (rest_cut-some c some)
      | inr more ↦
          let all : c ≡ 2048 = omega arith in
          full_cuts-at (n + c) (n / 2048 + 1) 0 (omega arith) (omega arith)
          ∙ append-nil _
          ∙ sym (replicate_more (n / 2048) 2048)
          ∙ ap (λ d. replicate (n / 2048) 2048 ++ d ∷ []) (sym all)
    ] in
    step ∙ ap (λ cs. cs ++ c ∷ []) (sym before)

Meet-push : (xs : List ℕ) (y : ℕ) (ys : List ℕ) → Precedes y ys → Meet (xs ++ y ∷ []) ys
Meet-push [] y ys h = h
Meet-push (x ∷ []) y ys h = h
Meet-push (x ∷ z ∷ xs) y ys h = Meet-push (z ∷ xs) y ys h

Meet-replicate : (n c : ℕ) (ys : List ℕ) → Precedes c ys → Meet (replicate n c) ys
Meet-replicate zero c ys h = tt
Meet-replicate (suc zero) c ys h = h
Meet-replicate (suc (suc n)) c ys h = Meet-replicate (suc n) c ys h

-- the cuts before k + 1 end with cut k
pub Meet-take : (k : ℕ) (cs ys : List ℕ) → k < length cs → Precedes (get_or cs k 0) ys → Meet (take (suc k) cs) ys
Meet-take k [] ys l h = absurd (omega arith)
Meet-take zero (c ∷ cs) ys l h = h
Meet-take (suc k) (c ∷ []) ys l h = absurd (omega arith)
Meet-take (suc k) (c ∷ d ∷ cs) ys l h = Meet-take k (d ∷ cs) ys (omega arith) h

AreCuts-replicate : (n : ℕ) → AreCuts (replicate n 2048)
AreCuts-replicate zero = tt
AreCuts-replicate (suc zero) = (omega arith, omega arith, tt, tt)
AreCuts-replicate (suc (suc n)) = (omega arith, omega arith, omega arith, AreCuts-replicate (suc n))

AreCuts-rest_cut : (r : ℕ) → r < 2048 → AreCuts (rest_cut r)
AreCuts-rest_cut zero l = tt
AreCuts-rest_cut (suc r) l = (omega arith, omega arith, tt, tt)

Precedes-rest_cut : (r : ℕ) → Precedes 2048 (rest_cut r)
Precedes-rest_cut zero = tt
Precedes-rest_cut (suc r) = omega arith

pub AreCuts-full_cuts : (n : ℕ) → AreCuts (full_cuts n)
AreCuts-full_cuts n =
    let rest : n % 2048 < 2048 = omega arith in
    AreCuts-append (replicate (n / 2048) 2048) (rest_cut (n % 2048)) (AreCuts-replicate (n / 2048)) (AreCuts-rest_cut (n % 2048) rest) (Meet-replicate (n / 2048) 2048 (rest_cut (n % 2048)) (Precedes-rest_cut (n % 2048)))

first_apart : (c n : ℕ) (ys : List ℕ) → 0 < c → c ≤ 2048 → 2048 < c + n → Precedes c (full_cuts n ++ ys)
first_apart c n ys some few apart =
    let P : List ℕ → Type 0 = λ xs. Precedes c (xs ++ ys) in
    elim (cases_lt n 2048) [
      | inl less ↦
          let alone : full_cuts n ≡ n ∷ [] = full_cuts-at n 0 n (omega arith) less ∙ rest_cut-some n (omega arith) in
          subst P (sym alone) apart
      | inr more ↦
          let whole : full_cuts n ≡ replicate (suc (n / 2048 - 1)) 2048 ++ rest_cut (n % 2048) = full_cuts-at n (suc (n / 2048 - 1)) (n % 2048) (omega arith) (omega arith) in
          subst P (sym whole) (omega arith)
    ]

Meet-nil : (xs : List ℕ) → Meet xs []
Meet-nil [] = tt
Meet-nil (x ∷ []) = tt
Meet-nil (x ∷ y ∷ xs) = Meet-nil (y ∷ xs)

last_apart : (n : ℕ) (ys : List ℕ) → AreCuts ys → AreApartBehind 2048 n ys → Meet (full_cuts n) ys
last_apart n [] h apart = Meet-nil (full_cuts n)
last_apart n (d ∷ ds) h apart =
    let some : 0 < d = h.0 in
    let P : List ℕ → Type 0 = λ xs. Meet xs (d ∷ ds) in
    elim (cases_lt 0 (n % 2048)) [
      | inl rest ↦
          let ends : full_cuts n ≡ replicate (n / 2048) 2048 ++ (n % 2048) ∷ [] = ap (λ cs. replicate (n / 2048) 2048 ++ cs) (rest_cut-some (n % 2048) rest) in
          let over : 2048 < n % 2048 + d = elim apart.1 [ inl none ↦ absurd (omega arith) | inr over ↦ over ] in
          subst P (sym ends) (Meet-push (replicate (n / 2048) 2048) (n % 2048) (d ∷ ds) over)
      | inr none ↦
          let ends : full_cuts n ≡ replicate (n / 2048) 2048 = full_cuts-at n (n / 2048) 0 (omega arith) (omega arith) ∙ append-nil (replicate (n / 2048) 2048) in
          subst P (sym ends) (Meet-replicate (n / 2048) 2048 (d ∷ ds) (omega arith))
    ]

-- n values in place of the segments from a up to b
pub AreCuts-spliced : (cs : List ℕ) (a b n : ℕ) → AreCuts cs → a ≤ length cs → AreApartBefore 2048 cs a n → AreApartBehind 2048 n (drop b cs) → AreCuts (take a cs ++ (full_cuts n ++ drop b cs))
AreCuts-spliced cs zero b n h in_range left right =
    AreCuts-append (full_cuts n) (drop b cs) (AreCuts-full_cuts n) (AreCuts-drop b cs h) (last_apart n (drop b cs) (AreCuts-drop b cs h) right)
AreCuts-spliced cs (suc k) b n h in_range left right =
    let in_cuts : k < length cs = omega arith in
    let behind : AreCuts (full_cuts n ++ drop b cs) = AreCuts-append (full_cuts n) (drop b cs) (AreCuts-full_cuts n) (AreCuts-drop b cs h) (last_apart n (drop b cs) (AreCuts-drop b cs h) right) in
    let before : Precedes (get_or cs k 0) (full_cuts n ++ drop b cs) = first_apart (get_or cs k 0) n (drop b cs) (cut_some cs k h in_cuts) (cut_few cs k h in_cuts) (left k refl) in
    AreCuts-append (take (suc k) cs) (full_cuts n ++ drop b cs) (AreCuts-take (suc k) cs h) behind (Meet-take k cs (full_cuts n ++ drop b cs) in_cuts before)

-- one value more in the last segment
pub AreCuts-last-more : (cs : List ℕ) (c : ℕ) → AreCuts (cs ++ c ∷ []) → c < 2048 → AreCuts (cs ++ (c + 1) ∷ [])
AreCuts-last-more [] c h room = (omega arith, omega arith, tt, tt)
AreCuts-last-more (x ∷ []) c h room = (h.0, h.1, omega (arith, h.2), AreCuts-last-more [] c h.3 room)
AreCuts-last-more (x ∷ y ∷ cs) c h room = (h.0, h.1, h.2, AreCuts-last-more (y ∷ cs) c h.3 room)

-- a segment of another count, which its neighbours are apart from
pub AreCuts-set : (cs : List ℕ) (k n : ℕ) → AreCuts cs → k < length cs → 0 < n → n ≤ 2048 → ((j : ℕ) → k ≡ suc j → 2048 < get_or cs j 0 + n) → (suc k < length cs → 2048 < n + get_or cs (suc k) 0) → AreCuts (set cs k n)
AreCuts-set [] k n h l some few before behind = absurd (omega arith)
AreCuts-set (c ∷ []) zero n h l some few before behind = (some, few, tt, tt)
AreCuts-set (c ∷ d ∷ cs) zero n h l some few before behind = (some, few, behind (omega arith), h.3)
AreCuts-set (c ∷ []) (suc k) n h l some few before behind = absurd (omega arith)
AreCuts-set (c ∷ d ∷ cs) (suc zero) n h l some few before behind =
    (h.0, h.1, before 0 refl, AreCuts-set (d ∷ cs) zero n h.3 (omega arith) some few (λ j is. absurd (omega arith)) (λ more. behind (omega arith)))
AreCuts-set (c ∷ d ∷ cs) (suc (suc k)) n h l some few before behind =
    (h.0, h.1, h.2, AreCuts-set (d ∷ cs) (suc k) n h.3 (omega arith) some few (λ j is. before (suc j) (ap suc is)) (λ more. behind (omega arith)))

-- two segments in place of those from a up to b, which their neighbours are apart from
pub AreCuts-two : (cs : List ℕ) (a b m n : ℕ) → AreCuts cs → a ≤ length cs → m ≤ 2048 → n ≤ 2048 → 2048 < m + n → ((j : ℕ) → a ≡ suc j → 2048 < get_or cs j 0 + m) → (b < length cs → 2048 < n + get_or cs b 0) → AreCuts (take a cs ++ (m ∷ n ∷ drop b cs))
AreCuts-two cs a b m n h in_range m_few n_few apart before behind = go a in_range before
  where
    follows : Precedes n (drop b cs)
    follows =
        let P : List ℕ → Type 0 = Precedes n in
        elim (cases_lt b (length cs)) [
          | inl more ↦ subst P (sym (drop-cons-at cs b 0 more)) (behind more)
          | inr last ↦ subst P (sym (drop_all b cs last)) tt
        ]

    both : AreCuts (m ∷ n ∷ drop b cs)
    both = (omega arith, m_few, apart, (omega arith, n_few, follows, AreCuts-drop b cs h))

    go : (k : ℕ) → k ≤ length cs → ((j : ℕ) → k ≡ suc j → 2048 < get_or cs j 0 + m) → AreCuts (take k cs ++ (m ∷ n ∷ drop b cs))
    go zero within apart_before = both
    go (suc k) within apart_before =
        AreCuts-append (take (suc k) cs) (m ∷ n ∷ drop b cs) (AreCuts-take (suc k) cs h) both (Meet-take k cs (m ∷ n ∷ drop b cs) (omega arith) (apart_before k refl))

-- there are at most as many segments as values
pub cuts_count : (cs : List ℕ) → AreCuts cs → length cs ≤ sum cs
cuts_count [] h = omega arith
cuts_count (c ∷ cs) h = omega (arith, h.0, cuts_count cs h.3, sum-cons c cs)
