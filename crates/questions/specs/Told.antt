-- How it is told that an expression has no value.
use Rattle.std.specs.Prelude.{ℕ}
use Rattle.eval.specs.declared.error.EvalError.{EvalError}
use Rattle.eval.specs.declared.error.EvalError.TheVariants.{Name, Viewer, Op}
use Rattle.eval.specs.declared.error.NameError.{NameError}
use Rattle.eval.specs.declared.error.NameError.TheVariants as name_error
use Rattle.relations.specs.declared.error.DerivedError.{DerivedError}
use Rattle.relations.specs.declared.error.DerivedError.TheVariants as derived_error
use Rattle.questions.specs.declared.error.QuestionError.{QuestionError}
use Rattle.questions.specs.declared.error.QuestionError.TheVariants.{NoName, Exists, NoProp, Kind, Range, Limit, Memory}

abbrev pub told_of_name : NameError → QuestionError
told_of_name name_error.NoName = NoName
told_of_name name_error.NoProp = NoProp
told_of_name name_error.WrongKind = Kind
told_of_name (name_error.OutOfRange size) = Range size
told_of_name name_error.Memory = Memory

-- of an operator whose first table has so many rows
abbrev pub told_of_operator : DerivedError → ℕ → QuestionError
told_of_operator (derived_error.NameTaken name) size = Exists
told_of_operator (derived_error.NoProp name) size = NoProp
told_of_operator (derived_error.WrongKind name) size = Kind
told_of_operator (derived_error.KeyIsView name) size = Kind
told_of_operator derived_error.OtherSchema size = Kind
told_of_operator derived_error.ZeroStep size = Range size
told_of_operator derived_error.TooManyRows size = Limit
told_of_operator derived_error.TooWide size = Limit
told_of_operator derived_error.TooDeep size = Limit
told_of_operator derived_error.Memory size = Memory

-- the name of a viewer that is not known is told as any other name
abbrev pub told : EvalError → QuestionError
told (Name e) = told_of_name e
told (Viewer name) = NoName
told (Op e size) = told_of_operator e size
