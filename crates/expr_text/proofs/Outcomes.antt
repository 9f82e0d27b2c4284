-- Reading and refusing.
use Rattle.std.proofs.Common.{◌≡◌, ◌⊎◌, inl, inr, ℕ, List, [], ◌∷◌, ◌++◌, length, map, Option, Some, None, refl, sym, ap, subst, ◌∙◌, append_assoc}
use Rattle.std.proofs.lemmas.List.{map-append}
use Rattle.mk_value.specs.Tokens.{Token}
use Rattle.tokens.specs.Cutting.{Cuts, CutsUpTo, Piece}
use Rattle.tokens.specs.Depths.{IsWrongAt, Offence, Offends, OpensTooDeep, syntax, too_deep}
use Rattle.tokens.specs.Fronts.{EndsEarly, IsFirstWrong, IsFront, tokens_in}
use Rattle.tokens.proofs.Chains.{cut_up_to_once}
use Rattle.expr_text.specs.Grammar.{DeepTokens, IsFirstOffence, QueryTokens, Reads, Spells}
use Rattle.expr_text.specs.Queries.{Query, max_operators}
use Rattle.expr_text.specs.Walk.{run}
use Rattle.expr_text.specs.declared.error.ExprError.{ExprError}
use Rattle.expr_text.specs.declared.error.ExprError.TheVariants.{Memory, Syntax, TooDeep}
use Rattle.expr_text.proofs.Depths.{offends_once, whole_no_offence}
use Rattle.expr_text.proofs.Offences.{never_memory, none_deep, none_deep_whole, offends_deep, offends_syntax, start, whole_found}

pub reads_no_offence : (content : List ℕ) (q : Query) (offence : Offence) → Reads content q → IsFirstOffence content offence → ⊥
reads_no_offence content q offence r o =
    let same = cut_up_to_once content r.0 o.0 None o.1 r.1 o.2 in
    let at : Offends QueryTokens DeepTokens r.0 None (length content) offence =
    subst (λ ps. Offends QueryTokens DeepTokens ps None (length content) offence) (sym same.0) (subst (λ f. Offends QueryTokens DeepTokens o.0 f (length content) offence) (sym same.1) o.3) in
    whole_no_offence QueryTokens DeepTokens (λ tokens whole. (max_operators, whole)) r.0 (length content) offence (q, r.2) at

pub offence_once : (content : List ℕ) (one two : Offence) → IsFirstOffence content one → IsFirstOffence content two → one ≡ two
offence_once content one two p q =
    let same = cut_up_to_once content p.0 q.0 p.1 q.1 p.2 q.2 in
    offends_once QueryTokens DeepTokens p.0 p.1 (length content) one two p.3 (subst (λ ps. Offends QueryTokens DeepTokens ps p.1 (length content) two) (sym same.0) (subst (λ f. Offends QueryTokens DeepTokens q.0 f (length content) two) (sym same.1) q.3))

-- one of the two
pub some_reading : (content : List ℕ) (pieces : List Piece) (flaw : Option ℕ) → CutsUpTo content pieces flaw → ((q : Query) × Reads content q) ⊎ ((offence : Offence) × IsFirstOffence content offence)
some_reading content pieces flaw cuts = chosen flaw cuts (run pieces (length content) start) refl
  where
    chosen : (flaw : Option ℕ) → CutsUpTo content pieces flaw → (said : Option ExprError) → run pieces (length content) start ≡ said → ((q : Query) × Reads content q) ⊎ ((offence : Offence) × IsFirstOffence content offence)
    chosen None cuts None e = let q = whole_found pieces (length content) e in inl (q.0, (pieces, cuts, q.1))
    chosen None cuts (Some (Syntax place)) e = inr (syntax place, (pieces, None, cuts, offends_syntax pieces (length content) place e))
    chosen flaw cuts (Some (TooDeep place)) e = inr (too_deep place, (pieces, flaw, cuts, offends_deep pieces flaw (length content) place e))
    chosen flaw cuts (Some Memory) e = absurd (never_memory pieces (length content) e)
    chosen (Some flaw) cuts None e = inr (syntax flaw, (pieces, Some flaw, cuts, (none_deep_whole pieces (length content) e, refl)))
    chosen (Some flaw) cuts (Some (Syntax place)) e = inr (syntax flaw, (pieces, Some flaw, cuts, (none_deep pieces (length content) place e, refl)))
