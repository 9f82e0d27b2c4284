-- What a call answers: the refusal that is due, or else a table.
use Rattle.std.specs.Prelude.{◌≡◌, ◌⊎◌, Option, Some, None, Result, Ok, Err, IfErr, MatchResult}
use Rattle.mk_value.specs.Tables.{Table}
use Rattle.relations.specs.declared.error.DerivedError.{DerivedError}
use Rattle.relations.specs.declared.error.DerivedError.TheVariants.{TooManyRows, Memory}

-- a call answers the refusal that is due; where none is due it is done, or memory was wanting
abbrev pub AnswersDue : {T : Type 0} → Option DerivedError → Result T DerivedError → Type 0
AnswersDue (Some e) result = result ≡ Err e
AnswersDue None result = IfErr result (λ e. e ≡ Memory)

-- a call answers the refusal that is due; but where only the number of rows is refused, memory may be wanting before that is known.
-- Where none is due it is done, or memory was wanting
abbrev pub AnswersCounted : {T : Type 0} → Option DerivedError → Result T DerivedError → Type 0
AnswersCounted (Some TooManyRows) result = (result ≡ Err TooManyRows) ⊎ (result ≡ Err Memory)
AnswersCounted (Some e) result = result ≡ Err e
AnswersCounted None result = IfErr result (λ e. e ≡ Memory)

-- what is due, or else this table
abbrev pub outcome : Option DerivedError → Table → Result Table DerivedError
outcome (Some e) t = Err e
outcome None t = Ok t

-- a call answers an outcome: the refusal, or a value that is seen as the table; or memory was wanting for the table
abbrev pub Answers : {D : Type 0} → (D → Table) → Result Table DerivedError → Result D DerivedError → Type 0
Answers see (Err e) result = result ≡ Err e
Answers see (Ok t) result = MatchResult result (λ d. see d ≡ t) (λ e. e ≡ Memory)

-- the same of a call that may find only as it lists rows that they are too many: memory may be wanting before
abbrev pub AnswersCounting : {D : Type 0} → (D → Table) → Result Table DerivedError → Result D DerivedError → Type 0
AnswersCounting see (Err TooManyRows) result = (result ≡ Err TooManyRows) ⊎ (result ≡ Err Memory)
AnswersCounting see outcome result = Answers see outcome result
