-- What a reader has left to read, and what its steps do.
use Rattle.std.specs.Prelude.{◌≡◌, ◌⊎◌, ℕ, List, [], ◌∷◌, ◌++◌, drop, Some, Result, Ok, Err}
use Rattle.mk_value.specs.Tokens.{Token}
use Rattle.tokens.specs.Cutting.{Piece}
use Rattle.tokens.specs.Fronts.{tokens_in}
use Rattle.tokens.specs.Meanings.{pieces_of}
use Rattle.expr_text.specs.Operators as forms
use Rattle.expr_text.specs.Operators.{Form}
use Rattle.expr_text.specs.Walk.{Goal, Rest, offence_of}
use Rattle.expr_text.specs.declared.error.ExprError.{ExprError}
use Rattle.expr_text.specs.declared.error.ExprError.TheVariants.{Memory, Syntax, TooDeep}
use Rattle.expr_text.specs.declared.expr.Expr.{Expr}
use Rattle.expr_text.specs.declared.kept_up.KeptUp.{KeptUp}
use Rattle.expr_text.specs.declared.kept_up.KeptUp.TheVariants as kept
use Rattle.expr_text.specs.declared.operator.Operator.{Operator}
use Rattle.expr_text.specs.declared.operator.Operator.TheVariants as operators
use Rattle.expr_text.specs.declared.reader.Reader.{Reader}

abbrev pub rest_of : Reader → Rest
rest_of reader = record { pieces = pieces_of reader.rest.now; end = reader.end }

abbrev pub tokens_left : Reader → List Token
tokens_left reader = tokens_in (pieces_of reader.rest.now)

-- Some goals were met from the old rest to the new one, where others are left: whatever is still to come behind them, its offence is that of all.
pub record Becomes (goals : List Goal) (old : Rest) (left : List Goal) (new : Rest) : Type 0 where
  pub same : (others : List Goal) → offence_of old (goals ++ others) ≡ offence_of new (left ++ others)

abbrev pub Meets : List Goal → Rest → Rest → Type 0
Meets goals old new = Becomes goals old [] new

-- The goals are not met from the rest, whatever is still to come behind them, and this is the first offence; or memory ran out.
abbrev pub Fails : List Goal → Rest → ExprError → Type 0
Fails goals rest error = (error ≡ Memory) ⊎ ((others : List Goal) → offence_of rest (goals ++ others) ≡ Some error)

-- the place of the piece behind so many, or the text's length where there is none
abbrev pub place_of_first : ℕ → List Piece → ℕ
place_of_first end [] = end
place_of_first end (p ∷ pieces) = p.place

abbrev pub place_behind : ℕ → Reader → ℕ
place_behind count reader = place_of_first reader.end (drop count (pieces_of reader.rest.now))

-- how a text with a flaw is refused, where its pieces up to the flaw were read so
abbrev pub flawed_as : Result Expr ExprError → ℕ → ExprError
flawed_as (Ok e) flaw = Syntax flaw
flawed_as (Err (Syntax place)) flaw = Syntax flaw
flawed_as (Err (TooDeep place)) flaw = TooDeep place
flawed_as (Err Memory) flaw = Memory

-- the operators whose rows may be kept up to date, and what each takes behind its table
abbrev pub operator_of : KeptUp → Operator
operator_of kept.Select = operators.Select
operator_of kept.Range = operators.Range
operator_of kept.Sort = operators.Sort
operator_of kept.Counts = operators.Counts
operator_of kept.Keep = operators.Keep

abbrev pub kept_form : KeptUp → Form
kept_form kept.Select = forms.criteria
kept_form kept.Range = forms.bounds
kept_form kept.Sort = forms.orders
kept_form kept.Counts = forms.named
kept_form kept.Keep = forms.viewed
