-- What an operator answered, told by an expression.
use Rattle.std.specs.Prelude.{◌≡◌, ◌⊎◌, ℕ, Bool, true, false, List, Result, Ok, Err}
use Rattle.mk_value.specs.Tables.{Table}
use Rattle.relations.specs.declared.error.DerivedError.{DerivedError}
use Rattle.relations.specs.declared.error.DerivedError.TheVariants.{Memory}
use Rattle.eval.specs.declared.error.EvalError.{EvalError}
use Rattle.eval.specs.declared.error.NameError.TheVariants as name_error
use Rattle.eval.specs.declared.error.EvalError.TheVariants.{Name, Op, Viewer}

-- memory ran out
abbrev pub IsMemory : EvalError → Type 0
IsMemory (Name name_error.Memory) = Unit {0}
IsMemory (Op Memory size) = Unit {0}
IsMemory _ = ⊥

abbrev pub is_memory : EvalError → Bool
is_memory (Name name_error.Memory) = true
is_memory (Op Memory size) = true
is_memory _ = false

-- the same table, or the same refusal beside this size
abbrev pub AsAnswered : {D : Type 0} → ℕ → Result D DerivedError → Result D EvalError → Type 0
AsAnswered size (Ok d) result = result ≡ Ok d
AsAnswered size (Err e) result = result ≡ Err (Op e size)

-- a call gives what is due of an operator: a table that is seen as it, or its refusal; or memory was wanting
abbrev pub Gives : {D : Type 0} → (D → Table) → Result Table DerivedError → Result D DerivedError → Type 0
Gives see due (Ok d) = due ≡ Ok (see d)
Gives see due (Err e) = (e ≡ Memory) ⊎ (due ≡ Err e)

-- the name of a viewer is refused; or memory was wanting for it
abbrev pub IsRefused : {D : Type 0} → List ℕ → Result D EvalError → Type 0
IsRefused name (Ok d) = ⊥
IsRefused name (Err e) = IsMemory e ⊎ (e ≡ Viewer name)
