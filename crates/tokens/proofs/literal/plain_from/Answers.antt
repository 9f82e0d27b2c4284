use Rattle.std.proofs.Common.{arith}
use Rattle.mk_value.specs.Tokens.{sign}
use Rattle.tokens.specs.Meanings.{tokens_of_pieces}
use Rattle.tokens.proofs.Braces.{literal_none}
use Rattle.tokens.proofs.Routes.{stands_next}
use Rattle.tokens.proofs.literal.plain_from.Goals as goal

pub returns-in-None-clause-stops : goal.returns-in-None-clause-stops
returns-in-None-clause-stops c = λ deep.
    let none = rw c.in-None.is at c.in_ok-literal.ensures in
    let tokens = tokens_of_pieces c.args.pieces.now in
    (0, omega arith, literal_none deep _ (λ rest e. c.requires.no_brace (stands_next tokens c.args.at (sign 123) rest e)) none)
