-- What two clauses of an operator, the refusal that is due and the table that is answered, come to.
use Rattle.std.proofs.Common.{◌≡◌, Option, Some, None, Result, Ok, Err, IfOk}
use Rattle.mk_value.specs.Tables.{Table}
use Rattle.relations.specs.declared.error.DerivedError.{DerivedError}
use Rattle.relations.specs.declared.error.DerivedError.TheVariants.{NoProp, WrongKind, KeyIsView, NameTaken, OtherSchema, ZeroStep, TooManyRows, TooWide, TooDeep, Memory}
use Rattle.relations.specs.Answers.{AnswersDue, AnswersCounted, Answers, AnswersCounting, outcome}

pub answers_is : {D : Type 0} (see : D → Table) (due : Option DerivedError) (t : Table) (result : Result D DerivedError) → AnswersDue due result → IfOk result (λ d. see d ≡ t) → Answers see (outcome due t) result
answers_is see (Some e) t result h ok = h
answers_is see None t (Ok d) h ok = ok
answers_is see None t (Err e) h ok = h

pub counting_is : {D : Type 0} (see : D → Table) (due : Option DerivedError) (t : Table) (result : Result D DerivedError) → AnswersCounted due result → IfOk result (λ d. see d ≡ t) → AnswersCounting see (outcome due t) result
counting_is see None t (Ok d) h ok = ok
counting_is see None t (Err e) h ok = h
counting_is see (Some TooManyRows) t result h ok = h
counting_is see (Some (NoProp name)) t result h ok = h
counting_is see (Some (WrongKind name)) t result h ok = h
counting_is see (Some (KeyIsView name)) t result h ok = h
counting_is see (Some (NameTaken name)) t result h ok = h
counting_is see (Some OtherSchema) t result h ok = h
counting_is see (Some ZeroStep) t result h ok = h
counting_is see (Some TooWide) t result h ok = h
counting_is see (Some TooDeep) t result h ok = h
counting_is see (Some Memory) t result h ok = h
