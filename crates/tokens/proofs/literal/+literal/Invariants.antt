use Rattle.std.proofs.Common.{◌+◌, ◌*◌, ◌-◌, length}
use Rattle.mk_value.specs.Data.{tuple_of}
use Rattle.mk_value.specs.Literals.{row_tokens, tokens_of}
use Rattle.tokens.specs.Literals.{IsLiteral, IsLiteralRow}
use Rattle.tokens.specs.Meanings.{tokens_of_pieces}
use Rattle.tokens.specs.Parts.{SomeRowsIn, ValuesIn}
use Rattle.tokens.proofs.Listing.{SoFar}
use Rattle.tokens.proofs.literal.+literal.Given as goal

-- each brace goes down by five calls
abbrev pub decreases-literal_from : goal.decreases-literal_from
decreases-literal_from l = 5 * l.deep

abbrev pub decreases-values_from : goal.decreases-values_from
decreases-values_from l = 5 * l.deep + 1

abbrev pub decreases-row_from : goal.decreases-row_from
decreases-row_from l = 5 * l.deep + 2

abbrev pub decreases-some_rows_from : goal.decreases-some_rows_from
decreases-some_rows_from l = 5 * l.deep + 3

abbrev pub decreases-rows_from : goal.decreases-rows_from
decreases-rows_from l = 5 * l.deep + 4

abbrev pub invariant-some_rows_from-rows : goal.invariant-some_rows_from-rows
invariant-some_rows_from-rows l =
    SoFar (λ row. row_tokens (tuple_of row)) (λ row. IsLiteralRow l.deep (tuple_of row)) (SomeRowsIn l.deep) (tokens_of_pieces l.pieces) l.start l.rows l.at

abbrev pub decreases-some_rows_from-rows : goal.decreases-some_rows_from-rows
decreases-some_rows_from-rows l = length l.pieces - l.at

abbrev pub invariant-values_from-values : goal.invariant-values_from-values
invariant-values_from-values l = SoFar tokens_of (IsLiteral l.deep) (ValuesIn l.deep) (tokens_of_pieces l.pieces) l.start l.row l.at

abbrev pub decreases-values_from-values : goal.decreases-values_from-values
decreases-values_from-values l = length l.pieces - l.at
