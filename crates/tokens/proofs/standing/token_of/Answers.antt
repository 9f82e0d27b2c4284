use Rattle.std.proofs.Common.{◌<◌, ℕ, List, length, get_or}
use Rattle.mk_value.proofs.Walks.{drop_map_read, same_default}
use Rattle.tokens.specs.Meanings.{token_of, tokens_of_pieces}
use Rattle.tokens.specs.Standing.{Stands}
use Rattle.tokens.specs.declared.token.Piece as program
use Rattle.tokens.proofs.standing.token_of.Goals as goal

stands_read : (pieces : List program.Piece) (at : ℕ) (d : program.Piece) → at < length pieces → Stands (tokens_of_pieces pieces) at (token_of (get_or pieces at d).token)
stands_read pieces at d within = drop_map_read (λ p. token_of p.token) pieces at (get_or pieces at d) within (same_default pieces at d (get_or pieces at d) within)

pub returns-then-at-pieces-clause-some : goal.returns-then-at-pieces-clause-some
returns-then-at-pieces-clause-some c = stands_read c.args.pieces.now c.args.at _ c.if-at-pieces.true
