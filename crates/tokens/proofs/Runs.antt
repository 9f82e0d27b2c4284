-- Runs: the longest front of bytes that pass a test.
use Rattle.std.proofs.Common.{◌≡◌, ℕ, ◌+◌, Bool, true, false, cond, List, [], ◌∷◌, ◌++◌, length, take, drop, refl, ap, ◌∙◌, arith, inl, inr, one-add}
use Rattle.std.proofs.lemmas.Bool.{cases_Bool}
use Rattle.std.proofs.lemmas.List.{take_at, drop_at}
use Rattle.std.proofs.lemmas.List.Elements.{All-nil, All-cons, All-head, All-tail}
use Rattle.std.specs.List.{AllPass, prefix_len}
use Rattle.tokens.specs.Cutting.{begins_with}

module _ (test : ℕ → Bool) where
  abbrev pub run : List ℕ → List ℕ
  run content = take (prefix_len test content) content

  abbrev pub behind : List ℕ → List ℕ
  behind content = drop (prefix_len test content) content

  prefix_len-yes : (b : ℕ) (rest : List ℕ) → test b ≡ true → prefix_len test (b ∷ rest) ≡ 1 + prefix_len test rest
  prefix_len-yes b rest e = ap (λ t. cond t (1 + prefix_len test rest) 0) e

  prefix_len-no : (b : ℕ) (rest : List ℕ) → test b ≡ false → prefix_len test (b ∷ rest) ≡ 0
  prefix_len-no b rest e = ap (λ t. cond t (1 + prefix_len test rest) 0) e

  -- what passes is the run, where what stands behind does not begin with what passes
  pub run_length : (front rest : List ℕ) → AllPass test front → begins_with test rest ≡ false → prefix_len test (front ++ rest) ≡ length front
  run_length [] [] p e = refl
  run_length [] (b ∷ rest) p e = prefix_len-no b rest e
  run_length (b ∷ front) rest p e =
      let more = run_length front rest (All-tail (λ x. test x ≡ true) b front p) e in
      let first = prefix_len-yes b (front ++ rest) (All-head (λ x. test x ≡ true) b front p) in
      omega (arith, more, first)

  pub run_is : (front rest : List ℕ) → AllPass test front → begins_with test rest ≡ false → run (front ++ rest) ≡ front
  run_is front rest p e = ap (λ n. take n (front ++ rest)) (run_length front rest p e) ∙ take_at front rest (length front) refl

  pub behind_is : (front rest : List ℕ) → AllPass test front → begins_with test rest ≡ false → behind (front ++ rest) ≡ rest
  behind_is front rest p e = ap (λ n. drop n (front ++ rest)) (run_length front rest p e) ∙ drop_at front rest (length front) refl

  -- behind the run nothing that passes stands first
  pub behind_ends : (content : List ℕ) → begins_with test (behind content) ≡ false
  behind_ends [] = refl
  behind_ends (b ∷ rest) = elim (cases_Bool (test b)) [
    | inl e ↦ ap (λ n. begins_with test (drop n (b ∷ rest))) (prefix_len-yes b rest e ∙ one-add _) ∙ behind_ends rest
    | inr e ↦ ap (λ n. begins_with test (drop n (b ∷ rest))) (prefix_len-no b rest e) ∙ e
  ]

  pub run_passes : (content : List ℕ) → AllPass test (run content)
  run_passes [] = All-nil (λ x. test x ≡ true)
  run_passes (b ∷ rest) = elim (cases_Bool (test b)) [
    | inl e ↦ let is : run (b ∷ rest) ≡ b ∷ run rest = ap (λ n. take n (b ∷ rest)) (prefix_len-yes b rest e ∙ one-add _) in
        rw is (All-cons (λ x. test x ≡ true) b (run rest) e (run_passes rest))
    | inr e ↦ let is : run (b ∷ rest) ≡ [] = ap (λ n. take n (b ∷ rest)) (prefix_len-no b rest e) in
        rw is (All-nil (λ x. test x ≡ true))
  ]
