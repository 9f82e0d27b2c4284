-- Where reading stops: behind a front that was read, and in the first of two parts.
use Rattle.std.proofs.Common.{◌≡◌, ◌⊎◌, ℕ, ◌+◌, ◌-◌, ◌≤◌, suc, List, [], ◌∷◌, ◌++◌, length, take, refl, ap, sym, subst, ◌∙◌, append_assoc, append-nil, arith, length-append, inl, inr, ⊎_elim}
use Rattle.std.proofs.lemmas.List.{length-take, take-take}
use Rattle.mk_value.specs.Tokens.{Token}
use Rattle.tokens.specs.Fronts.{Language, IsFront, Stops}

-- what may follow a front of a language
abbrev pub After : Language → List Token → Language
After language front tokens = language (front ++ tokens)

-- one behind another
abbrev pub Then : Language → Language → Language
Then first second tokens = (a : List Token) × (b : List Token) × first a × second b × (tokens ≡ a ++ b)

-- no list of the language is a proper front of another
abbrev pub PrefixFree : Language → Type 0
PrefixFree language = (a b x y : List Token) → language a → language b → a ++ x ≡ b ++ y → (a ≡ b) × (x ≡ y)

pub take_behind : (front tokens : List Token) (k : ℕ) → take (length front + k) (front ++ tokens) ≡ front ++ take k tokens
take_behind front tokens k = go front
  where
    go : (front : List Token) → take (length front + k) (front ++ tokens) ≡ front ++ take k tokens
    go [] = ap (λ n. take n tokens) (let e : 0 + k ≡ k = omega arith in e)
    go (t ∷ front) = ap (λ n. take n (t ∷ (front ++ tokens))) (suc_add (length front) k) ∙ ap (λ x. t ∷ x) (go front)
      where
        suc_add : (n k : ℕ) → suc n + k ≡ suc (n + k)
        suc_add n k = omega arith

pub stops_after : (language : Language) (front tokens : List Token) (k : ℕ) → Stops (After language front) tokens k → Stops language (front ++ tokens) (length front + k)
stops_after language front tokens k s = record {
  within = omega (arith, s.within, length-append front tokens);
  goes_on = (s.goes_on.0, subst language (sym (ap (λ x. x ++ s.goes_on.0) (take_behind front tokens k) ∙ append_assoc front (take k tokens) s.goes_on.0)) s.goes_on.1);
  unfinished = λ whole. s.unfinished (subst language (take_behind front tokens k) whole);
  wrong = ⊎_elim
      (λ e. inl (omega (arith, e, length-append front tokens)))
      (λ none. inr (λ goes. none (goes.0, subst language (ap (λ x. x ++ goes.0) (longer front tokens k) ∙ append_assoc front (take (k + 1) tokens) goes.0) goes.1)))
      s.wrong;
}
  where
    longer : (front tokens : List Token) (k : ℕ) → take (length front + k + 1) (front ++ tokens) ≡ front ++ take (k + 1) tokens
    longer front tokens k = ap (λ n. take n (front ++ tokens)) (let e : length front + k + 1 ≡ length front + (k + 1) = omega arith in e) ∙ take_behind front tokens (k + 1)

-- the same language
pub stops_same : (one two : Language) (tokens : List Token) (k : ℕ) → ((x : List Token) → one x → two x) → ((x : List Token) → two x → one x) → Stops one tokens k → Stops two tokens k
stops_same one two tokens k to from s = record {
  within = s.within;
  goes_on = (s.goes_on.0, to (take k tokens ++ s.goes_on.0) s.goes_on.1);
  unfinished = λ whole. s.unfinished (from (take k tokens) whole);
  wrong = ⊎_elim (λ e. inl e) (λ none. inr (λ goes. none (goes.0, from (take (k + 1) tokens ++ goes.0) goes.1))) s.wrong;
}

-- of two lists that begin one list, one is the front of the other
comparable : (a x b y : List Token) → a ++ x ≡ b ++ y → ((m : List Token) × (b ≡ a ++ m)) ⊎ ((m : List Token) × (a ≡ b ++ m))
comparable [] x b y e = inl (b, refl)
comparable (t ∷ a) x [] y e = inr (t ∷ a, refl)
comparable (t ∷ a) x (u ∷ b) y e =
    let first : t ≡ u = cc in
    let rest : a ++ x ≡ b ++ y = cc in
    ⊎_elim
    (λ p. inl (p.0, ap (λ z. z ∷ b) (sym first) ∙ ap (λ z. t ∷ z) p.1))
    (λ p. inr (p.0, ap (λ z. z ∷ a) first ∙ ap (λ z. u ∷ z) p.1))
    (comparable a x b y rest)

nil_left : (m w : List Token) → m ++ w ≡ [] → m ≡ []
nil_left [] w e = refl
nil_left (t ∷ m) w e = cc

module _ (first second : Language) (tokens : List Token) (k : ℕ) (free : PrefixFree first) (s : Stops first tokens k) where
  -- no list of the first part stands in front of where reading stops
  no_word : (a m : List Token) → first a → take k tokens ≡ a ++ m → ⊥
  no_word a m whole e =
      let both = free a (take k tokens ++ s.goes_on.0) (m ++ s.goes_on.0) [] whole s.goes_on.1
      (sym (append_assoc a m s.goes_on.0) ∙ ap (λ x. x ++ s.goes_on.0) (sym e) ∙ sym (append-nil (take k tokens ++ s.goes_on.0))) in
      let none = nil_left m s.goes_on.0 both.1 in
      s.unfinished (subst first (sym (e ∙ ap (λ x. a ++ x) none ∙ append-nil a)) whole)

  no_longer_word : (a m : List Token) → first a → take (k + 1) tokens ≡ a ++ m → (IsFront first (take (k + 1) tokens) → ⊥) → ⊥
  no_longer_word a [] whole e none = none ([], subst first (sym (ap (λ x. x ++ []) e ∙ append-nil (a ++ []) ∙ append-nil a)) whole)
  no_longer_word a (t ∷ m) whole e none =
      let long = ap length e in
      let short = length-take (k + 1) tokens in
      let within : length a ≤ k = omega (arith, long, short, length-append a (t ∷ m)) in
      let at : length a + (k - length a) ≡ k = omega (arith, within) in
      no_word a (take (k - length a) (t ∷ m)) whole
      (sym (take-take k (k + 1) tokens (omega arith)) ∙ ap (take k) e ∙ ap (λ n. take n (a ++ t ∷ m)) (sym at) ∙ take_behind a (t ∷ m) (k - length a))

  -- where reading the first of two parts stops, reading both does
  pub stops_then : (some : List Token) → second some → Stops (Then first second) tokens k
  stops_then some ends = record {
    within = s.within;
    goes_on = (s.goes_on.0 ++ some, (take k tokens ++ s.goes_on.0, some, s.goes_on.1, ends, sym (append_assoc (take k tokens) s.goes_on.0 some)));
    unfinished = λ whole. no_word whole.0 whole.1 whole.2 whole.4;
    wrong = ⊎_elim
        (λ e. inl e)
        (λ none. inr (λ goes. ⊎_elim
        (λ p. none (p.0, subst first p.1 goes.1.2))
        (λ p. no_longer_word goes.1.0 p.0 goes.1.2 p.1 none)
        (comparable (take (k + 1) tokens) goes.0 goes.1.0 goes.1.1 goes.1.4)))
        s.wrong;
  }
