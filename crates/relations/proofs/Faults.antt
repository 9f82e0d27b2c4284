-- The tests that refusals go by, one item further in a loop.
use Rattle.std.proofs.Common.{◌≡◌, ℕ, ◌+◌, ◌<◌, Bool, true, false, not, cond, List, [], ◌∷◌, length, get_or, map, drop, Option, Some, None, Ok, refl, ap, sym, subst, ◌∙◌, All}
use Rattle.std.specs.List.{find}
use Rattle.std.specs.Option.{option_map, option_or}
use Rattle.relations.specs.declared.error.DerivedError.{DerivedError}
use Rattle.relations.specs.Answers.{AnswersDue}
use Rattle.std.proofs.lemmas.Bool.{false≢true}
use Rattle.std.proofs.lemmas.Option.{none-some}
use Rattle.std.proofs.lemmas.List.Elements.{All-nil, All-cons}
use Rattle.mk_value.proofs.Walks.{drop_read}

-- a test that holds or not
pub cases : {P : Type 0} (b : Bool) → (b ≡ true → P) → (b ≡ false → P) → P
cases true f g = f refl
cases false f g = g refl

-- the first item that a test refuses, in what is left of a list
module _ {A X E : Type 0} (e : X → E) (test : X → Bool) (f : A → X) (xs : List A) (i : ℕ) (x : A) (p : i < length xs) (read : x ≡ get_or xs i x) where
  pub fault_stop : test (f x) ≡ true → option_map e (find test (map f (drop i xs))) ≡ Some (e (f x))
  fault_stop h =
      ap (λ ys. option_map e (find test (map f ys))) (drop_read xs i x p read)
      ∙ ap (λ b. option_map e (cond b (Some (f x)) (find test (map f (drop (i + 1) xs))))) h

  pub fault_pass : test (f x) ≡ false → option_map e (find test (map f (drop (i + 1) xs))) ≡ option_map e (find test (map f (drop i xs)))
  fault_pass h = sym (
      ap (λ ys. option_map e (find test (map f ys))) (drop_read xs i x p read)
      ∙ ap (λ b. option_map e (cond b (Some (f x)) (find test (map f (drop (i + 1) xs))))) h)

module _ {X E : Type 0} (e : X → E) (test : X → Bool) (xs : List X) (i : ℕ) (x : X) (p : i < length xs) (read : x ≡ get_or xs i x) where
  pub fault_stops : test x ≡ true → option_map e (find test (drop i xs)) ≡ Some (e x)
  fault_stops h =
      ap (λ ys. option_map e (find test ys)) (drop_read xs i x p read)
      ∙ ap (λ b. option_map e (cond b (Some x) (find test (drop (i + 1) xs)))) h

  pub fault_passes : test x ≡ false → option_map e (find test (drop (i + 1) xs)) ≡ option_map e (find test (drop i xs))
  fault_passes h = sym (
      ap (λ ys. option_map e (find test ys)) (drop_read xs i x p read)
      ∙ ap (λ b. option_map e (cond b (Some x) (find test (drop (i + 1) xs)))) h)

-- where no item is refused, each passes
none_refused_from : {X E : Type 0} (e : X → E) (test : X → Bool) (x : X) (xs : List X) (b : Bool) → test x ≡ b → (option_map e (find test xs) ≡ None → All (λ x. test x ≡ false) xs)
    → option_map e (find test (x ∷ xs)) ≡ None → All (λ x. test x ≡ false) (x ∷ xs)
none_refused_from e test x xs true t rest h = absurd (none-some _ (sym h ∙ ap (λ b. option_map e (cond b (Some x) (find test xs))) t))
none_refused_from e test x xs false t rest h = All-cons (λ x. test x ≡ false) x xs t (rest (sym (ap (λ b. option_map e (cond b (Some x) (find test xs))) t) ∙ h))

pub none_refused : {X E : Type 0} (e : X → E) (test : X → Bool) (xs : List X) → option_map e (find test xs) ≡ None → All (λ x. test x ≡ false) xs
none_refused e test [] h = All-nil (λ x. test x ≡ false)
none_refused e test (x ∷ xs) h = none_refused_from e test x xs (test x) refl (none_refused e test xs) h

pub not_false : (b : Bool) → not b ≡ false → b ≡ true
not_false true h = refl
not_false false h = absurd (false≢true (sym h))

-- what a call that is done, and one that wants memory, owes
pub done_due : {T : Type 0} (o : Option DerivedError) (x : T) → o ≡ None → AnswersDue o (Ok x)
done_due o x e = subst (λ p. AnswersDue p (Ok x)) (sym e) tt

pub both_none : (a b : Option DerivedError) → None ≡ a → b ≡ None → None ≡ option_or a (option_or b None)
both_none a b e f = sym (ap (λ y. option_or y None) f) ∙ ap (λ x. option_or x (option_or b None)) e

pub second_is : (a b : Option DerivedError) (e : DerivedError) → None ≡ a → b ≡ Some e → Some e ≡ option_or a (option_or b None)
second_is a b x e f = sym (ap (λ y. option_or y None) f) ∙ ap (λ o. option_or o (option_or b None)) e
