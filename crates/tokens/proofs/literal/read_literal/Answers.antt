-- The text is cut into the pieces that spell the literal, or they stop; or its first piece that is no token stands.
use Rattle.std.proofs.Common.{◌≡◌, ◌⊎◌, ℕ, ap, sym, subst, ◌∙◌, inl, inr, refl, ⊎_elim, List, length}
use Rattle.std.proofs.lemmas.Result.{IfErr-weaker, IfOk-weaker}
use Rattle.mk_value.specs.LiteralValues.{literal_of}
use Rattle.mk_value.specs.declared.literal.Literal.{Literal}
use Rattle.tokens.specs.Cutting.{Piece}
use Rattle.tokens.specs.Fronts.{EndsEarly, IsFirstOffence, IsFirstWrong, tokens_in}
use Rattle.tokens.specs.Literals.{LiteralTokens, Reads, SpellsLiteral}
use Rattle.tokens.specs.Meanings.{pieces_of, tokens_of_pieces}
use Rattle.tokens.specs.declared.error.ReadError.{ReadError}
use Rattle.tokens.specs.declared.error.ReadError.TheVariants.{Memory, NotAValue}
use Rattle.tokens.proofs.Wholes.{tokens_in_pieces}
use Rattle.tokens.proofs.literal.read_literal.Goals as goal

pub returns-in-Some-clause-offence : goal.returns-in-Some-clause-offence
returns-in-Some-clause-offence c =
    let flaw = rw c.in-Some.is at c.in_ok-cutting.ensures.cuts in
    inr (c.in-Some.place, refl, inl (c.in_ok-cutting.cutting.pieces, flaw))

pub returns-clause-reads : goal.returns-clause-reads
returns-clause-reads c =
    let cuts = rw c.in_default.is at c.in_ok-cutting.ensures.cuts in
    let same = sym (tokens_in_pieces c.as_slice.result.now) ∙ ap tokens_in c.as_slice.ensures in
    IfOk-weaker c.whole_literal.result (λ (l : Literal). SpellsLiteral (tokens_of_pieces c.as_slice.result.now) (literal_of l)) (λ (l : Literal). Reads c.args.text.now (literal_of l))
    (λ l s. (c.in_ok-cutting.cutting.pieces, cuts, subst (λ x. SpellsLiteral x (literal_of l)) same s)) c.whole_literal.ensures.reads

pub returns-clause-offence : goal.returns-clause-offence
returns-clause-offence c =
    let cuts = rw c.in_default.is at c.in_ok-cutting.ensures.cuts in
    let Wrong : List Piece → ReadError → Type 0 = λ pieces error. (error ≡ Memory) ⊎ ((place : ℕ) × (error ≡ NotAValue place)
    × (IsFirstWrong LiteralTokens pieces place ⊎ EndsEarly LiteralTokens pieces (length c.args.text.now) place)) in
    IfErr-weaker c.whole_literal.result (Wrong (pieces_of c.as_slice.result.now))
    (λ error. (error ≡ Memory) ⊎ ((place : ℕ) × (error ≡ NotAValue place) × IsFirstOffence LiteralTokens c.args.text.now place))
    (λ error wrong. ⊎_elim (λ m. inl m)
    (λ w. inr (w.0, w.1, inr (c.in_ok-cutting.cutting.pieces, cuts, w.2)))
    (subst (λ pieces. Wrong pieces error) c.as_slice.ensures wrong)) c.whole_literal.ensures.wrong
