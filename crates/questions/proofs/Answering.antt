-- From the value of an expression to what is answered of it.
use Rattle.std.proofs.Common.{◌≡◌, ◌⊎◌, inl, inr, Result, Err, refl, ap}
use Rattle.std.specs.Result.{result_map_both}
use Rattle.mk_value.specs.Tables.{Table}
use Rattle.relations.specs.declared.error.DerivedError.TheVariants as derived_error
use Rattle.eval.specs.Answers.{IsMemory}
use Rattle.eval.specs.declared.error.EvalError.{EvalError}
use Rattle.eval.specs.declared.error.EvalError.TheVariants as eval_error
use Rattle.eval.specs.declared.error.NameError.{NameError}
use Rattle.eval.specs.declared.error.NameError.TheVariants as name_error
use Rattle.eval.specs.Values.{at_path}
use Rattle.questions.specs.Told.{told, told_of_name}
use Rattle.questions.specs.declared.error.QuestionError.TheVariants.{Memory}

-- want of memory is told as such
pub told_memory : (e : EvalError) → IsMemory e → told e ≡ Memory
told_memory (eval_error.Name name_error.Memory) h = refl
told_memory (eval_error.Name name_error.NoName) h = absurd h
told_memory (eval_error.Name name_error.NoProp) h = absurd h
told_memory (eval_error.Name name_error.WrongKind) h = absurd h
told_memory (eval_error.Name (name_error.OutOfRange size)) h = absurd h
told_memory (eval_error.Viewer name) h = absurd h
told_memory (eval_error.Op derived_error.Memory size) h = refl
told_memory (eval_error.Op (derived_error.NameTaken name) size) h = absurd h
told_memory (eval_error.Op (derived_error.NoProp name) size) h = absurd h
told_memory (eval_error.Op (derived_error.WrongKind name) size) h = absurd h
told_memory (eval_error.Op (derived_error.KeyIsView name) size) h = absurd h
told_memory (eval_error.Op derived_error.OtherSchema size) h = absurd h
told_memory (eval_error.Op derived_error.ZeroStep size) h = absurd h
told_memory (eval_error.Op derived_error.TooManyRows size) h = absurd h
told_memory (eval_error.Op derived_error.TooWide size) h = absurd h
told_memory (eval_error.Op derived_error.TooDeep size) h = absurd h

pub told_refusal : (due : Result Table EvalError) (e : EvalError) → IsMemory e ⊎ (due ≡ Err e) → (told e ≡ Memory) ⊎ (result_map_both (λ t. t) told due ≡ Err (told e))
told_refusal due e h = elim h [ inl is ↦ inl (told_memory e is) | inr is ↦ inr (ap (result_map_both (λ t. t) told) is) ]

pub path_told : (due : Result Table NameError) (e : NameError) → (e ≡ name_error.Memory) ⊎ (due ≡ Err e) → (told_of_name e ≡ Memory) ⊎ (result_map_both (λ t. t) told (at_path due) ≡ Err (told_of_name e))
path_told due e h = elim h [ inl is ↦ inl (ap told_of_name is) | inr is ↦ inr (ap (λ (r : Result Table NameError). result_map_both (λ t. t) told (at_path r)) is) ]
