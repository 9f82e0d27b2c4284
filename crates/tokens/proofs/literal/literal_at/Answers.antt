use Rattle.std.proofs.Common.{◌≡◌, ◌⊎◌, ℕ}
use Rattle.std.proofs.lemmas.Result.{IfErr-weaker}
use Rattle.tokens.specs.Fronts.{Stops}
use Rattle.tokens.specs.Literals.{LiteralTokens, max_braces}
use Rattle.tokens.specs.Meanings.{tokens_of_pieces}
use Rattle.tokens.specs.Parts.{LiteralIn, StopsAt}
use Rattle.tokens.specs.declared.error.PartError.TheVariants.{Memory, Stuck}
use Rattle.tokens.proofs.Levels.{literal_stops}
use Rattle.tokens.proofs.literal.literal_at.Goals as goal

pub returns-clause-stuck : goal.returns-clause-stuck
returns-clause-stuck c =
    IfErr-weaker c.literal_from.result (StopsAt (LiteralIn max_braces) (tokens_of_pieces c.args.pieces.now) 0)
    (λ error. (error ≡ Memory) ⊎ ((count : ℕ) × (error ≡ Stuck count) × Stops LiteralTokens (tokens_of_pieces c.args.pieces.now) count))
    (literal_stops (tokens_of_pieces c.args.pieces.now)) c.literal_from.ensures.stops
