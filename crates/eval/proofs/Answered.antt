-- From what an operator answers to what an expression tells of it.
use Rattle.std.proofs.Common.{◌≡◌, ◌⊎◌, inl, inr, ℕ, length, ap, sym, subst}
use Rattle.std.specs.Prelude.{Option, Some, None, Result, Ok, Err, IfOk}
use Rattle.mk_value.specs.Tables.{Table}
use Rattle.relations.specs.declared.error.DerivedError.{DerivedError}
use Rattle.relations.specs.declared.error.DerivedError.TheVariants as derived_error
use Rattle.relations.specs.Answers.{AnswersCounted, AnswersDue, outcome}
use Rattle.eval.specs.declared.error.EvalError.{EvalError}
use Rattle.eval.specs.declared.error.EvalError.TheVariants.{Op}
use Rattle.eval.specs.Answers.{AsAnswered, Gives, IsMemory}
use Rattle.eval.specs.Values.{Evaluates, at_size}

abbrev error_of : {D : Type 0} → DerivedError → Result D DerivedError → DerivedError
error_of e (Ok d) = e
error_of e (Err f) = f

module _ {D : Type 0} (see : D → Table) (t u : Table) where
  of_memory : (value : Result Table EvalError) (e : DerivedError) (result : Result D EvalError) → e ≡ derived_error.Memory → result ≡ Err (Op e (length t.rows)) → Evaluates see value result
  of_memory value e result is told =
      subst (Evaluates see value) (sym told)
      (inl (subst (λ x. IsMemory (Op x (length t.rows))) (sym is) tt))

  of_refusal : (e x : DerivedError) (result : Result D EvalError) → e ≡ x → result ≡ Err (Op e (length t.rows)) → Evaluates see (Err (Op x (length t.rows))) result
  of_refusal e x result is told =
      subst (Evaluates see (Err (Op x (length t.rows)))) (sym told) (inr (ap (λ y. Err (Op y (length t.rows))) (sym is)))

  of_table : (d : D) (result : Result D EvalError) → see d ≡ u → result ≡ Ok d → Evaluates see (Ok u) result
  of_table d result is told = subst (Evaluates see (Ok u)) (sym told) (ap Ok (sym is))

  same_error : (e x : DerivedError) → ◌≡◌ {A = Result D DerivedError} (Err e) (Err x) → e ≡ x
  same_error e x is = ap (error_of e) is

  pub answered_due : (due : Option DerivedError) (answer : Result D DerivedError) (result : Result D EvalError) → AnswersDue due answer → IfOk answer (λ d. see d ≡ u)
      → AsAnswered (length t.rows) answer result → Evaluates see (at_size t (outcome due u)) result
  answered_due None (Ok d) result due ok told = of_table d result ok told
  answered_due None (Err e) result due ok told = of_memory (Ok u) e result due told
  answered_due (Some x) (Ok d) result due ok told = absurd (let none : ◌≡◌ {A = Result D DerivedError} (Ok d) (Err x) = due in cc)
  answered_due (Some x) (Err e) result due ok told = of_refusal e x result (same_error e x due) told

  counted_is : (e : DerivedError) (answer : Result D DerivedError) → AnswersCounted (Some e) answer → (answer ≡ Err e) ⊎ (answer ≡ Err derived_error.Memory)
  counted_is derived_error.TooManyRows answer h = h
  counted_is _ answer h = inl h

  pub answered_counted : (due : Option DerivedError) (answer : Result D DerivedError) (result : Result D EvalError) → AnswersCounted due answer → IfOk answer (λ d. see d ≡ u)
      → AsAnswered (length t.rows) answer result → Evaluates see (at_size t (outcome due u)) result
  answered_counted None answer result due ok told = answered_due None answer result due ok told
  answered_counted (Some x) answer result due ok told = elim (counted_is x answer due) [ inl is ↦ answered_due (Some x) answer result is ok told | inr is ↦ by_memory answer is told ]
    where
      by_memory : (answer : Result D DerivedError) → answer ≡ Err derived_error.Memory → AsAnswered (length t.rows) answer result → Evaluates see (Err (Op x (length t.rows))) result
      by_memory (Ok d) is told = absurd (let none : ◌≡◌ {A = Result D DerivedError} (Ok d) (Err derived_error.Memory) = is in cc)
      by_memory (Err e) is told = of_memory (Err (Op x (length t.rows))) e result (same_error e derived_error.Memory is) told

  pub answered : (due : Result Table DerivedError) (answer : Result D DerivedError) (result : Result D EvalError) → Gives see due answer
      → AsAnswered (length t.rows) answer result → Evaluates see (at_size t due) result
  answered due (Ok d) result given told = subst (Evaluates see (at_size t due)) (sym told) (ap (at_size t) given)
  answered due (Err e) result given told =
      elim given [
        | inl is ↦ of_memory (at_size t due) e result is told
        | inr is ↦ subst (Evaluates see (at_size t due)) (sym told) (inr (ap (at_size t) is))
      ]

  -- what an operator answers is what is given of it, also where something was made before it that may find no memory
  pub given_due : (due : Option DerivedError) (answer : Result D DerivedError) → AnswersDue due answer → IfOk answer (λ d. see d ≡ u) → Gives see (outcome due u) answer
  given_due None (Ok d) due ok = ap Ok (sym ok)
  given_due None (Err e) due ok = inl due
  given_due (Some x) (Ok d) due ok = absurd (let none : ◌≡◌ {A = Result D DerivedError} (Ok d) (Err x) = due in cc)
  given_due (Some x) (Err e) due ok = inr (ap Err (sym (same_error e x due)))

-- the size that is told is that of the table
pub told_size : {D : Type 0} (t : Table) (n : ℕ) (answer : Result D DerivedError) (result : Result D EvalError) → n ≡ length t.rows → AsAnswered n answer result → AsAnswered (length t.rows) answer result
told_size t n answer result e told = subst (λ m. AsAnswered m answer result) e told
