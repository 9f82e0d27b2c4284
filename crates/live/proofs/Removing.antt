-- Rows of a watch that go, one after another.
use Rattle.std.proofs.Common.{◌≡◌, ℕ, suc, ◌+◌, Bool, true, false, if◌then◌else◌, List, [], ◌∷◌, ◌++◌, append-nil, ap, sym, subst, refl, ◌∙◌, arith}
use Rattle.std.specs.List.{filter}
use Rattle.std.proofs.lemmas.List.Elements.{filter-append}
use Rattle.relations.specs.Positions.{numbers}
use Rattle.live.specs.Leaving.{AreGone}
use Rattle.live.specs.declared.removed.Gone.{Gone}

pub gone_same : (places : List ℕ) (a b : Gone) → a ≡ b → AreGone places a.first a.end a.count → AreGone places b.first b.end b.count
gone_same places a b e h = subst (λ (g : Gone). AreGone places g.first g.end g.count) e h

one : (b : Bool) (n : ℕ) → b ≡ true → (if b then n ∷ [] else []) ≡ n ∷ []
one true n e = refl
one false n e = cc

none : (b : Bool) (n : ℕ) → b ≡ false → (if b then n ∷ [] else []) ≡ []
none false n e = refl
none true n e = cc

next : (n : ℕ) → suc n ≡ n + 1
next n = omega arith

pub one_more : (test : ℕ → Bool) (n : ℕ) (g : Gone) → test n ≡ true → AreGone (filter test (numbers n) ++ n ∷ []) g.first g.end g.count → AreGone (filter test (numbers (n + 1))) g.first g.end g.count
one_more test n g passes h =
    subst (λ m. AreGone (filter test (numbers m)) g.first g.end g.count) (next n)
    (subst (λ ps. AreGone ps g.first g.end g.count) (sym (filter-append test (numbers n) (n ∷ []) ∙ ap (λ xs. filter test (numbers n) ++ xs) (one (test n) n passes))) h)

pub one_less : (test : ℕ → Bool) (n : ℕ) (g : Gone) → test n ≡ false → AreGone (filter test (numbers n)) g.first g.end g.count → AreGone (filter test (numbers (n + 1))) g.first g.end g.count
one_less test n g fails h =
    subst (λ m. AreGone (filter test (numbers m)) g.first g.end g.count) (next n)
    (subst (λ ps. AreGone ps g.first g.end g.count)
    (sym (filter-append test (numbers n) (n ∷ []) ∙ ap (λ xs. filter test (numbers n) ++ xs) (none (test n) n fails) ∙ append-nil (filter test (numbers n)))) h)
