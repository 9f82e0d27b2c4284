-- The token at the place is a literal alone, or none is.
use Rattle.std.proofs.Common.{◌++◌, ap, sym, ◌∙◌, arith}
use Rattle.std.proofs.lemmas.List.{length-map, drop_all}
use Rattle.std.proofs.lemmas.Result.{IfOk-weaker}
use Rattle.tokens.specs.Meanings.{characters_of, token_of, tokens_of_pieces}
use Rattle.tokens.specs.Parts.{FindsPlain, IsTextLiteral}
use Rattle.tokens.proofs.Braces.{literal_some, no_plain, text_plain}
use Rattle.tokens.proofs.Listing.{nil_cons}
use Rattle.tokens.proofs.literal.plain_literal.Goals as goal

pub returns-in_default : goal.returns-in_default
returns-in_default c = λ d rest p e.
    let long = length-map c.args.pieces.now (λ p. token_of p.token) in
    let none = drop_all c.args.at (tokens_of_pieces c.args.pieces.now) (omega (arith, long, c.in_default.ensures.none)) in
    let some = literal_some d in
    nil_cons some.0 _ (sym none ∙ e ∙ ap (λ x. x ++ rest) some.2)

pub returns-in-Text : goal.returns-in-Text
returns-in-Text c =
    let stands = rw c.in-Text.is at c.in-Some.ensures.some in
    let long = length-map c.args.pieces.now (λ p. token_of p.token) in
    IfOk-weaker c.text_literal.result (IsTextLiteral (characters_of c.in-Text.written.now)) (FindsPlain (tokens_of_pieces c.args.pieces.now) c.args.at)
    (text_plain (tokens_of_pieces c.args.pieces.now) c.args.at (characters_of c.in-Text.written.now) (omega (arith, long, c.in-Some.ensures.within)) stands) c.text_literal.ensures

pub returns-in_default-token : goal.returns-in_default-token
returns-in_default-token c = λ d rest p e.
    no_plain c.in-Some.token.now c.in_default-token.not-Number c.in_default-token.not-Text c.in_default-token.not-Bytes d rest _ p (sym c.in-Some.ensures.some ∙ e)
