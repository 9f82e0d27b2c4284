-- One element that goes from a list in order takes out one flag of its runs.
use Rattle.std.proofs.Common.{◌≡◌, ◌≢◌, ◌⊎◌, ℕ, zero, suc, ◌+◌, ◌<◌, Bool, true, false, not, ◌||◌, ◌&&◌, if◌then◌else◌, List, [], ◌∷◌, ◌++◌, length, get_or, take, drop, Option, Some, None, refl, ap, sym, ◌∙◌, arith, inl, inr}
use Rattle.std.specs.List.{insert, remove}
use Rattle.std.specs.Option.{ForSome}
use Rattle.std.specs.declared.cmp.Ordering.{Ordering}
use Rattle.std.specs.declared.cmp.Ordering.TheVariants.{Less, Equal, Greater}
use Rattle.std.specs.Ordering.{is_eq}
use Rattle.std.specs.Cmp.{IsTotalOrder}
use Rattle.std.proofs.lemmas.Bool.{eq-eqb, ne_eqb}
use Rattle.std.proofs.lemmas.Cmp.{alike_right}
use Rattle.std.proofs.lemmas.List.{append-nil, append_assoc, drop_at, drop_more, get_or-append-add, length-append, length-take-le, take-append-drop, take_at}
use Rattle.relations.proofs.Ascending.{Ascends, IsIn, each_in}
use Rattle.live.proofs.Picks.{ascends_across, ascends_right}
use Rattle.live.proofs.Placing.{without_middle}
use Rattle.live_counts.specs.Runs.{begins, flags, flags_from, going_flag}

-- not above
abbrev pub IsUpTo : Ordering → Type 0
IsUpTo Less = Unit {0}
IsUpTo Equal = Unit {0}
IsUpTo Greater = ⊥

-- the last element, or what stood before all
abbrev last_of : Option ℕ → List ℕ → Option ℕ
last_of before [] = before
last_of before (x ∷ xs) = last_of (Some x) xs

last_in : (before : Option ℕ) (xs : List ℕ) (l : ℕ) → last_of before xs ≡ Some l → (before ≡ Some l) ⊎ IsIn l xs
last_in before [] l e = inl e
last_in before (x ∷ xs) l e = elim (last_in (Some x) xs l e) [ inl f ↦ inr (inl (let g : x ≡ l = cc in g)) | inr h ↦ inr (inr h) ]

pub length-flags : (same : ℕ → ℕ → Bool) (before : Option ℕ) (ks : List ℕ) → length (flags_from same before ks) ≡ length ks
length-flags same before [] = refl
length-flags same before (k ∷ ks) = ap suc (length-flags same (Some k) ks)

-- the flag of an element behind another
pub flag_behind : (same : ℕ → ℕ → Bool) (before : Option ℕ) (ks : List ℕ) (j : ℕ) → suc j < length ks → get_or (flags_from same before ks) (suc j) false ≡ not (same (get_or ks j 0) (get_or ks (suc j) 0))
flag_behind same before [] j p = absurd (omega arith)
flag_behind same before (k ∷ []) j p = absurd (omega arith)
flag_behind same before (k ∷ l ∷ ks) zero p = refl
flag_behind same before (k ∷ l ∷ ks) (suc j) p = flag_behind same (Some k) (l ∷ ks) j (omega arith)

pub flag_first : (same : ℕ → ℕ → Bool) (ks : List ℕ) → 0 < length ks → get_or (flags same ks) 0 false ≡ true
flag_first same [] p = absurd (omega arith)
flag_first same (k ∷ ks) p = refl

-- where an element goes, the flag is its own or the next
abbrev pick : Bool → Bool → Bool → ℕ → ℕ
pick a e b o = if a && not (e || b) then suc o else o

pick_end : (a b : Bool) (o : ℕ) → pick a true b o ≡ o
pick_end true b o = refl
pick_end false b o = refl

-- an element taken out and put in again
pub insert_removed : {X : Type 0} (xs : List X) (f : ℕ) (d : X) → f < length xs → insert (remove xs f) f (get_or xs f d) ≡ xs
insert_removed xs f d lt =
    let long = length-take-le f xs (omega arith) in
    ap (λ ys. ys ++ get_or xs f d ∷ drop f (take f xs ++ drop (suc f) xs)) (take_at (take f xs) (drop (suc f) xs) f long)
    ∙ ap (λ ys. take f xs ++ get_or xs f d ∷ ys) (drop_at (take f xs) (drop (suc f) xs) f long ∙ ap (λ n. drop n xs) (let e : suc f ≡ f + 1 = omega arith in e))
    ∙ ap (λ ys. take f xs ++ ys) (sym (drop_more xs f d lt)) ∙ take-append-drop f xs

module _ (cmp : ℕ → ℕ → Ordering) (total : IsTotalOrder cmp) where
  abbrev same : ℕ → ℕ → Bool
  same a b = is_eq (cmp a b)

  flags_joined : (before : Option ℕ) (xs ys : List ℕ) → flags_from same before (xs ++ ys) ≡ flags_from same before xs ++ flags_from same (last_of before xs) ys
  flags_joined before [] ys = refl
  flags_joined before (x ∷ xs) ys = ap (λ fs. begins same before x ∷ fs) (flags_joined (Some x) xs ys)

  -- of three in order, the outer two tie where both neighbours do
  pub ends_tie : (a b c : ℕ) → IsUpTo (cmp a b) → IsUpTo (cmp b c) → same a c ≡ (same a b && same b c)
  ends_tie a b c p q = at (cmp a b) (cmp b c) refl refl p q
    where
      at : (u v : Ordering) → cmp a b ≡ u → cmp b c ≡ v → IsUpTo u → IsUpTo v → same a c ≡ (is_eq u && is_eq v)
      at Less Less e f p q = ap is_eq (total.trans a b c e f)
      at Less Equal e f p q = ap is_eq (sym (alike_right total b c a f) ∙ e)
      at Equal Less e f p q = ap is_eq (total.congr a b c e ∙ f)
      at Equal Equal e f p q = ap is_eq (total.congr a b c e ∙ f)
      at Greater v e f p q = absurd p
      at Less Greater e f p q = absurd q
      at Equal Greater e f p q = absurd q

  not_both : (a b : Bool) → not (a && b) ≡ (not a || not b)
  not_both true b = refl
  not_both false b = refl

  -- what begins after the element before it, once the one between is out
  begins_past : (before : Option ℕ) (p y : ℕ) → ForSome before (λ l. IsUpTo (cmp l p)) → IsUpTo (cmp p y) → begins same before y ≡ (begins same before p || begins same (Some p) y)
  begins_past None p y low high = refl
  begins_past (Some l) p y low high = ap not (ends_tie l p y (low l refl) high) ∙ not_both (same l p) (same p y)

  module _ (less : ℕ → ℕ → Ordering) (up : (i j : ℕ) → less i j ≡ Less → IsUpTo (cmp i j)) where
    pub flag_out : (xs : List ℕ) (p : ℕ) (ys : List ℕ) → Ascends less (xs ++ p ∷ ys) → remove (flags same (xs ++ p ∷ ys)) (going_flag (flags same (xs ++ p ∷ ys)) (length xs)) ≡ flags same (xs ++ ys)
    flag_out xs p [] asc =
        let front : List Bool = flags same xs in
        let a : Bool = begins same (last_of None xs) p in
        let long = length-flags same None xs in
        let fs : List Bool = flags same (xs ++ p ∷ []) in
        let is : fs ≡ front ++ a ∷ [] = flags_joined None xs (p ∷ []) in
        let size : suc (length xs) ≡ length fs = let e = ap length is ∙ length-append front (a ∷ []) in omega arith in
        let place : going_flag fs (length xs) ≡ length front =
        ap (λ e. pick (get_or fs (length xs) false) e (get_or fs (suc (length xs)) false) (length xs)) (eq-eqb (suc (length xs)) (length fs) size) ∙ pick_end (get_or fs (length xs) false) (get_or fs (suc (length xs)) false) (length xs) ∙ sym long in
        ap (remove fs) place ∙ ap (λ gs. remove gs (length front)) is ∙ without_middle a front [] ∙ append-nil front ∙ sym (ap (flags same) (append-nil xs))
    flag_out xs p (y ∷ zs) asc =
        let front : List Bool = flags same xs in
        let back : List Bool = flags_from same (Some y) zs in
        let a : Bool = begins same (last_of None xs) p in
        let b : Bool = begins same (Some p) y in
        let long = length-flags same None xs in
        let fs : List Bool = flags same (xs ++ p ∷ y ∷ zs) in
        let is : fs ≡ front ++ a ∷ b ∷ back = flags_joined None xs (p ∷ y ∷ zs) in
        let size : suc (length xs) ≢ length fs = λ e. let n = ap length is ∙ length-append front (a ∷ b ∷ back) in absurd (omega arith) in
        let first : get_or fs (length xs) false ≡ a =
        ap (λ gs. get_or gs (length xs) false) is ∙ ap (λ n. get_or (front ++ a ∷ b ∷ back) n false) (let e : length xs ≡ length front + 0 = omega arith in e) ∙ get_or-append-add front (a ∷ b ∷ back) 0 false in
        let second : get_or fs (suc (length xs)) false ≡ b =
        ap (λ gs. get_or gs (suc (length xs)) false) is ∙ ap (λ n. get_or (front ++ a ∷ b ∷ back) n false) (let e : suc (length xs) ≡ length front + 1 = omega arith in e) ∙ get_or-append-add front (a ∷ b ∷ back) 1 false in
        let place : going_flag fs (length xs) ≡ pick a false b (length front) =
        ap (λ e. pick (get_or fs (length xs) false) e (get_or fs (suc (length xs)) false) (length xs)) (ne_eqb (suc (length xs)) (length fs) size)
        ∙ ap (λ c. pick c false (get_or fs (suc (length xs)) false) (length xs)) first ∙ ap (λ c. pick a false c (length xs)) second ∙ ap (pick a false b) (sym long) in
        let low : ForSome (last_of None xs) (λ l. IsUpTo (cmp l p)) = λ l e. elim (last_in None xs l e) [ inl f ↦ cc | inr h ↦ up l p (ascends_across less xs (p ∷ y ∷ zs) asc l p h (inl refl)) ] in
        let high : IsUpTo (cmp p y) = up p y (each_in (λ z. less p z ≡ Less) (y ∷ zs) y (ascends_right less xs (p ∷ y ∷ zs) asc).0 (inl refl)) in
        let left : flags same (xs ++ y ∷ zs) ≡ front ++ (a || b) ∷ back =
        flags_joined None xs (y ∷ zs) ∙ ap (λ c. front ++ c ∷ back) (begins_past (last_of None xs) p y low high) in
        ap (remove fs) place ∙ ap (λ gs. remove gs (pick a false b (length front))) is ∙ taken front back a b ∙ sym left
      where
        taken : (front back : List Bool) (a b : Bool) → remove (front ++ a ∷ b ∷ back) (pick a false b (length front)) ≡ front ++ (a || b) ∷ back
        taken front back true true = without_middle true front (true ∷ back)
        taken front back false b = without_middle false front (b ∷ back)
        taken front back true false =
            ap (λ gs. remove gs (suc (length front))) (sym (append_assoc front (true ∷ []) (false ∷ back)))
            ∙ ap (remove ((front ++ true ∷ []) ++ false ∷ back)) (let n = length-append front (true ∷ []) in let e : suc (length front) ≡ length (front ++ true ∷ []) = omega arith in e)
            ∙ without_middle false (front ++ true ∷ []) back ∙ append_assoc front (true ∷ []) back
