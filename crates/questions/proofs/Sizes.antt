-- From the number of rows that an operator would give to the size that is answered.
use Rattle.std.proofs.Common.{◌≡◌, ◌⊎◌, ℕ, List, length, Option, Some, None, Result, Ok, Err, refl, ap, sym, subst, ◌∙◌, inl, inr}
use Rattle.std.specs.Prelude.{IfOk}
use Rattle.std.specs.Result.{result_map_both}
use Rattle.mk_value.specs.Tables.{Table}
use Rattle.relations.specs.Answers.{AnswersCounted, AnswersDue, outcome}
use Rattle.relations.specs.declared.error.DerivedError.{DerivedError}
use Rattle.relations.specs.declared.error.DerivedError.TheVariants as derived_error
use Rattle.expr_text.specs.Arguments.{Tail}
use Rattle.expr_text.specs.Queries.{Query, one, two}
use Rattle.expr_text.specs.declared.operator.Operator.{Operator}
use Rattle.viewers.specs.Meanings.{Meaning}
use Rattle.eval.specs.Names.{Named, continued}
use Rattle.eval.specs.Values.{at_size, of_one, of_two, value}
use Rattle.eval.specs.declared.error.EvalError.{EvalError}
use Rattle.questions.specs.Answers.{Answers, answer, size_due}
use Rattle.questions.specs.Told.{told, told_of_operator}
use Rattle.questions.specs.declared.error.QuestionError.{QuestionError}
use Rattle.questions.proofs.Unordered.{answered_value}

-- the size of what an operator gives, or its refusal as it is told
abbrev pub size_told : Result Table EvalError → Result ℕ QuestionError
size_told given = continued (result_map_both (λ t. t) told given) (λ t. Ok (length t.rows))

abbrev pub told_as : ℕ → Result ℕ DerivedError → Result ℕ QuestionError
told_as rows answer = result_map_both (λ n. n) (λ e. told_of_operator e rows) answer

error_of : DerivedError → Result ℕ DerivedError → DerivedError
error_of e (Ok n) = e
error_of e (Err f) = f

module _ (t u : Table) where
  given_told : (due : Option DerivedError) (given : Result ℕ DerivedError) → AnswersDue due given → IfOk given (λ n. n ≡ length u.rows)
      → Answers (λ n. n) (size_told (at_size t (outcome due u))) (told_as (length t.rows) given)
  given_told None (Ok n) h ok = ap Ok (sym ok)
  given_told None (Err e) h ok = inl (ap (λ x. told_of_operator x (length t.rows)) h)
  given_told (Some e) (Ok n) h ok = absurd (let same : ◌≡◌ {A = Result ℕ DerivedError} (Ok n) (Err e) = h in cc)
  given_told (Some e) (Err f) h ok = inr (ap (λ (r : Result ℕ DerivedError). told_as (length t.rows) r) (sym h))

  pub size_of_one : (names : List Named) (viewers : List Meaning) (q : Query) (operator : Operator) (tail : Tail) (due : Option DerivedError) (given : Result ℕ DerivedError) (result : Result ℕ QuestionError)
      → answer names viewers q ≡ Ok t → of_one viewers operator tail t ≡ at_size t (outcome due u) → AnswersDue due given → IfOk given (λ n. n ≡ length u.rows)
      → result ≡ told_as (length t.rows) given → Answers (λ n. n) (size_due names viewers (one operator q tail)) result
  size_of_one names viewers q operator tail due given result is gives h ok seen =
      subst (Answers (λ n. n) (size_due names viewers (one operator q tail))) (sym seen)
      (subst (λ (r : Result ℕ QuestionError). Answers (λ n. n) r (told_as (length t.rows) given))
      (sym (ap (λ (r : Result Table EvalError). size_told (continued r (of_one viewers operator tail))) (answered_value (value names viewers q) t is) ∙ ap size_told gives))
      (given_told due given h ok))

  counted_is : (e : DerivedError) (given : Result ℕ DerivedError) → AnswersCounted (Some e) given → (given ≡ Err e) ⊎ (given ≡ Err derived_error.Memory)
  counted_is derived_error.TooManyRows given h = h
  counted_is _ given h = inl h

  counted_told : (due : Option DerivedError) (given : Result ℕ DerivedError) → AnswersCounted due given → IfOk given (λ n. n ≡ length u.rows)
      → Answers (λ n. n) (size_told (at_size t (outcome due u))) (told_as (length t.rows) given)
  counted_told None given h ok = given_told None given h ok
  counted_told (Some e) given h ok =
      elim (counted_is e given h) [
        | inl is ↦ given_told (Some e) given is ok
        | inr is ↦ subst (λ (r : Result ℕ DerivedError). Answers (λ n. n) (size_told (at_size t (outcome (Some e) u))) (told_as (length t.rows) r)) (sym is) (inl refl)
      ]

  -- the number of pairs of two tables
  pub size_of_two : (names : List Named) (viewers : List Meaning) (p q : Query) (b : Table) (operator : Operator) (tail : Tail) (due : Option DerivedError) (given : Result ℕ DerivedError) (result : Result ℕ QuestionError)
      → answer names viewers p ≡ Ok t → answer names viewers q ≡ Ok b → of_two operator tail t b ≡ at_size t (outcome due u) → AnswersCounted due given → IfOk given (λ n. n ≡ length u.rows)
      → result ≡ told_as (length t.rows) given → Answers (λ n. n) (size_due names viewers (two operator p q tail)) result
  size_of_two names viewers p q b operator tail due given result first second gives h ok seen =
      subst (Answers (λ n. n) (size_due names viewers (two operator p q tail))) (sym seen)
      (subst (λ (r : Result ℕ QuestionError). Answers (λ n. n) r (told_as (length t.rows) given))
      (sym (ap (λ (r : Result Table EvalError). size_told (continued r (λ x. continued (value names viewers q) (of_two operator tail x)))) (answered_value (value names viewers p) t first)
      ∙ ap (λ (r : Result Table EvalError). size_told (continued r (of_two operator tail t))) (answered_value (value names viewers q) b second) ∙ ap size_told gives))
      (counted_told due given h ok))
