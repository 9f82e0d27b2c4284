-- Behind a whole literal nothing may stand, and where reading stopped nothing can go on.
use Rattle.std.proofs.Common.{inl, inr, refl}
use Rattle.mk_value.specs.LiteralValues.{literal_of}
use Rattle.tokens.specs.Literals.{LiteralTokens}
use Rattle.tokens.specs.Meanings.{tokens_of_pieces}
use Rattle.tokens.proofs.Levels.{literal_tokens_free, stopped_at}
use Rattle.tokens.proofs.Wholes.{piece_stuck_wrong, piece_more_wrong, pieces_stuck_early}
use Rattle.tokens.proofs.literal.whole_literal.Goals as goal

pub returns-then-len-pieces-clause-wrong : goal.returns-then-len-pieces-clause-wrong
returns-then-len-pieces-clause-wrong c =
    inr (_, refl, inl (piece_more_wrong LiteralTokens c.args.pieces.now c.in-Ok.len _ c.if-len-pieces.true literal_tokens_free (literal_of c.in-Ok.literal, c.in-Ok.ensures.spells)))

pub returns-then-count-pieces-clause-wrong : goal.returns-then-count-pieces-clause-wrong
returns-then-count-pieces-clause-wrong c =
    let stops = stopped_at (tokens_of_pieces c.args.pieces.now) c.in-Err-Stuck.count (rw c.in-Err-Stuck.field-0-is at c.in-Err-Stuck.ensures.stuck) in
    inr (_, refl, inl (piece_stuck_wrong LiteralTokens c.args.pieces.now c.in-Err-Stuck.count _ c.if-count-pieces.true stops))

pub returns-else-count-pieces-clause-wrong : goal.returns-else-count-pieces-clause-wrong
returns-else-count-pieces-clause-wrong c =
    let stops = stopped_at (tokens_of_pieces c.args.pieces.now) c.in-Err-Stuck.count (rw c.in-Err-Stuck.field-0-is at c.in-Err-Stuck.ensures.stuck) in
    inr (c.args.size, refl, inr (pieces_stuck_early LiteralTokens c.args.pieces.now c.in-Err-Stuck.count c.args.size c.if-count-pieces.false stops))
