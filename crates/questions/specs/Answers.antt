-- What a question is answered: what it asks for, or the refusal; or memory was wanting.
use Rattle.std.specs.Prelude.{◌≡◌, ◌⊎◌, ℕ, Bool, if◌then◌else◌, List, [], ◌∷◌, ◌++◌, length, map, Result, Ok, Err}
use Rattle.std.specs.List.{flat_map}
use Rattle.std.specs.Result.{result_map_both}
use Rattle.mk_value.specs.Literals.{row_text}
use Rattle.mk_value.specs.Tables.{Table}
use Rattle.computing.specs.Computed.{Computations, alone, shown_of}
use Rattle.computing.specs.declared.computed.Computation.{Computation}
use Rattle.eval.specs.Names.{Named, continued, view_at}
use Rattle.eval.specs.Values.{at_path, value}
use Rattle.expr_text.specs.Queries.{Query}
use Rattle.expr_text.specs.declared.operator.Operator.{Operator}
use Rattle.expr_text.specs.declared.operator.Operator.TheVariants as operators
use Rattle.viewers.specs.Meanings.{Meaning}
use Rattle.questions.specs.declared.error.QuestionError.{QuestionError}
use Rattle.questions.specs.declared.error.QuestionError.TheVariants.{Memory}
use Rattle.questions.specs.Kept.{Names, source_names}
use Rattle.questions.specs.Told.{told}

-- a call gives what is due, seen as this; or memory was wanting
abbrev pub Answers : {X Y : Type 0} → (X → Y) → Result Y QuestionError → Result X QuestionError → Type 0
Answers see due (Ok x) = due ≡ Ok (see x)
Answers see due (Err e) = (e ≡ Memory) ⊎ (due ≡ Err e)

-- the table that an expression asks for among these names and viewers, or the refusal as it is told
abbrev pub answer : List Named → List Meaning → Query → Result Table QuestionError
answer names viewers q = result_map_both (λ t. t) told (value names viewers q)

-- the table of what a watch may be asked of, and what a computed watch shows of a table
abbrev pub source_due : Names → List Meaning → Computations → List ℕ → Result Table QuestionError
source_due n viewers c name = result_map_both (λ t. t) told (at_path (view_at (source_names n viewers c) (alone name)))

abbrev pub shown_due : List Meaning → Computation → Table → Result Table QuestionError
shown_due viewers shows t = result_map_both (λ t. t) told (shown_of viewers shows t)

-- the number of its rows, and their texts
abbrev pub size_due : List Named → List Meaning → Query → Result ℕ QuestionError
size_due names viewers q = continued (answer names viewers q) (λ t. Ok (length t.rows))

abbrev pub rows_due : List Named → List Meaning → Query → Result (List (List ℕ)) QuestionError
rows_due names viewers q = continued (answer names viewers q) (λ t. Ok (map row_text t.rows))

-- texts as they are printed: how many there are, and each with a newline behind it
abbrev pub printed : List (List ℕ) → ℕ × List ℕ
printed texts = (length texts, flat_map (λ text. text ++ (10 ∷ [])) texts)

abbrev pub printed_due : List Named → List Meaning → Query → Result (ℕ × List ℕ) QuestionError
printed_due names viewers q = continued (answer names viewers q) (λ t. Ok (printed (map row_text t.rows)))

-- the operator of a join, by whether it is an outer one
abbrev pub joining : Bool → Operator
joining outer = if outer then operators.OuterJoin else operators.Join
