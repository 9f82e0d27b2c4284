use Rattle.std.proofs.Common.{refl, ap, ◌∙◌, inl, inr, true≢false, sym, arith}
use Rattle.expr_text.proofs.Running.{operator_opens, opens_too_deep, path_alone, path_of_two, two_first}
use Rattle.expr_text.proofs.reader.Reader.operator.Goals as goal

pub returns-in_default-clause-path : goal.returns-in_default-clause-path
returns-in_default-clause-path c = λ _. path_alone _ _ _ c.in_default.len_below

pub returns-in_default-operator_of-clause-path : goal.returns-in_default-operator_of-clause-path
returns-in_default-operator_of-clause-path c =
    λ _. path_of_two _ _ _ _ _ _ (two_first _ _ c.in-len2-up.len_at_least) (inl (λ o is. c.in_default-operator_of.ensures.none refl o is))

pub returns-then-not-is_sign-clause-path : goal.returns-then-not-is_sign-clause-path
returns-then-not-is_sign-clause-path c =
    λ _. path_of_two _ _ _ _ _ _ (two_first _ _ c.in-len2-up.len_at_least) (inr (λ is. true≢false (sym (c.is_sign.ensures.1 is) ∙ c.if-not-is_sign.true)))

pub returns-then-depth-eq0-clause-fails : goal.returns-then-depth-eq0-clause-fails
returns-then-depth-eq0-clause-fails c =
    opens_too_deep _ _ _ _ _ _ (two_first _ _ c.in-len2-up.len_at_least) c.in-Some.ensures.some (c.is_sign.ensures.0 c.if-not-is_sign.false) c.if-depth-eq0.true

pub returns-clause-opens : goal.returns-clause-opens
returns-clause-opens c =
    operator_opens _ _ _ _ _ _ (two_first _ _ c.in-len2-up.len_at_least) c.in-Some.ensures.some (c.is_sign.ensures.0 c.if-not-is_sign.false) (omega arith)
