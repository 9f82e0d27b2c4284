-- How a text is refused.
use Rattle.std.proofs.Common.{◌≡◌, ◌⊎◌, inl, inr, ℕ, Bool, List, [], ◌∷◌, length, Option, Some, None, Result, Ok, Err, MatchResult, IfErr, OnOk, refl, sym, ap, subst, ◌∙◌}
use Rattle.tokens.specs.Cutting.{CutsUpTo, Piece}
use Rattle.tokens.specs.Depths.{syntax, too_deep}
use Rattle.expr_text.specs.Grammar.{IsRefusedAs}
use Rattle.tokens.specs.Fronts.{tokens_in}
use Rattle.expr_text.specs.Readers.{Meets, flawed_as}
use Rattle.expr_text.specs.Walk.{Rest, run}
use Rattle.expr_text.specs.declared.error.ExprError.{ExprError}
use Rattle.expr_text.specs.declared.error.ExprError.TheVariants.{Memory, Syntax, TooDeep}
use Rattle.expr_text.specs.declared.expr.Expr.{Expr}
use Rattle.expr_text.proofs.Running.{run-met}
use Rattle.expr_text.proofs.Offences.{never_memory, none_deep, none_deep_whole, offends_deep, offends_syntax, start}

-- a text of tokens
pub refused_so : (content : List ℕ) (pieces : List Piece) (flaw : Option ℕ) (error : ExprError) → CutsUpTo content pieces flaw → flaw ≡ None → run pieces (length content) start ≡ Some error → IsRefusedAs content error
refused_so content pieces flaw (Syntax place) cuts none e = record {
  offence = syntax place;
  first = (pieces, None, subst (CutsUpTo content pieces) none cuts, offends_syntax pieces (length content) place e);
  is = refl;
}
refused_so content pieces flaw (TooDeep place) cuts none e = record {
  offence = too_deep place;
  first = (pieces, None, subst (CutsUpTo content pieces) none cuts, offends_deep pieces None (length content) place e);
  is = refl;
}
refused_so content pieces flaw Memory cuts none e = absurd (never_memory pieces (length content) e)

pub refused : (content : List ℕ) (pieces : List Piece) (flaw : Option ℕ) (error : ExprError) → CutsUpTo content pieces flaw → flaw ≡ None → (error ≡ Memory) ⊎ (run pieces (length content) start ≡ Some error) → (error ≡ Memory) ⊎ IsRefusedAs content error
refused content pieces flaw error cuts none (inl memory) = inl memory
refused content pieces flaw error cuts none (inr e) = inr (refused_so content pieces flaw error cuts none e)

-- a text with a piece that is no token
pub refused_flawed : (content : List ℕ) (pieces : List Piece) (found : Option ℕ) (flaw : ℕ) (read : Result Expr ExprError) (error : ExprError) → CutsUpTo content pieces found → found ≡ Some flaw
    → MatchResult read (λ _. run pieces (length content) start ≡ None) (λ e. (e ≡ Memory) ⊎ (run pieces (length content) start ≡ Some e)) → error ≡ flawed_as read flaw → (error ≡ Memory) ⊎ IsRefusedAs content error
refused_flawed content pieces found flaw (Ok e) error cuts some said is =
    inr (subst (IsRefusedAs content) (sym is) (record { offence = syntax flaw; first = (pieces, Some flaw, subst (CutsUpTo content pieces) some cuts, (none_deep_whole pieces (length content) said, refl)); is = refl }))
refused_flawed content pieces found flaw (Err (Syntax place)) error cuts some (inl memory) is = absurd (cc)
refused_flawed content pieces found flaw (Err (Syntax place)) error cuts some (inr said) is =
    inr (subst (IsRefusedAs content) (sym is) (record { offence = syntax flaw; first = (pieces, Some flaw, subst (CutsUpTo content pieces) some cuts, (none_deep pieces (length content) place said, refl)); is = refl }))
refused_flawed content pieces found flaw (Err (TooDeep place)) error cuts some (inl memory) is = absurd (cc)
refused_flawed content pieces found flaw (Err (TooDeep place)) error cuts some (inr said) is =
    inr (subst (IsRefusedAs content) (sym is) (record { offence = too_deep place; first = (pieces, Some flaw, subst (CutsUpTo content pieces) some cuts, offends_deep pieces (Some flaw) (length content) place said); is = refl }))
refused_flawed content pieces found flaw (Err Memory) error cuts some said is = inl is

-- the whole was read, and nothing is left
pub nothing_left : (pieces : List Piece) (end : ℕ) → tokens_in pieces ≡ [] → run pieces end [] ≡ None
nothing_left [] end e = run-met end [] refl
nothing_left (p ∷ pieces) end e = absurd (cc)

pub finished : (old new : Rest) → Meets start old new → tokens_in new.pieces ≡ [] → run old.pieces old.end start ≡ None
finished old new meets e = meets.same [] ∙ nothing_left new.pieces new.end e

-- the same of what was read from the pieces that a call lent
abbrev SaysSo : List Piece → ℕ → ExprError → Type 0
SaysSo pieces end error = (error ≡ Memory) ⊎ (run pieces end start ≡ Some error)

pub read_refused : (content : List ℕ) (pieces lent : List Piece) (flaw : Option ℕ) (read : Result Expr ExprError) → CutsUpTo content pieces flaw → lent ≡ pieces → flaw ≡ None
    → IfErr read (λ e. (e ≡ Memory) ⊎ (run lent (length content) start ≡ Some e)) → IfErr read (λ e. (e ≡ Memory) ⊎ IsRefusedAs content e)
read_refused content pieces lent flaw (Ok e) cuts same none said = tt
read_refused content pieces lent flaw (Err error) cuts same none said = refused content pieces flaw error cuts none (subst (λ ps. SaysSo ps (length content) error) same said)

both : (pieces : List Piece) (end : ℕ) (read : Result Expr ExprError) → OnOk read (run pieces end start ≡ None) → IfErr read (λ e. (e ≡ Memory) ⊎ (run pieces end start ≡ Some e))
    → MatchResult read (λ _. run pieces end start ≡ None) (λ e. (e ≡ Memory) ⊎ (run pieces end start ≡ Some e))
both pieces end (Ok e) met fails = met
both pieces end (Err error) met fails = fails

pub flawed_refused : (content : List ℕ) (pieces lent : List Piece) (found : Option ℕ) (flaw : ℕ) (read : Result Expr ExprError) (error : ExprError) → CutsUpTo content pieces found → lent ≡ pieces → found ≡ Some flaw
    → OnOk read (run lent (length content) start ≡ None) → IfErr read (λ e. (e ≡ Memory) ⊎ (run lent (length content) start ≡ Some e)) → error ≡ flawed_as read flaw → (error ≡ Memory) ⊎ IsRefusedAs content error
flawed_refused content pieces lent found flaw read error cuts same some met fails is =
    refused_flawed content pieces found flaw read error cuts some
    (subst (λ ps. MatchResult read (λ _. run ps (length content) start ≡ None) (λ e. (e ≡ Memory) ⊎ (run ps (length content) start ≡ Some e))) same (both lent (length content) read met fails)) is
