use Rattle.std.proofs.Common.{◌≡◌, ◌≢◌, ℕ, true, List, [], ◌∷◌, length, refl, sym, subst, ◌∙◌, arith}
use Rattle.std.proofs.lemmas.Bool.Decides.{nat_tests}
use Rattle.std.specs.Prelude.{nat_lt}
use Rattle.expr_text.specs.InLines.{IsOperation}
use Rattle.expr_text.specs.Meanings.{query_of}
use Rattle.questions.proofs.watching.computed_by.Goals as goal

some_keys : (keys : List (List ℕ)) → keys ≢ [] → nat_lt 0 (length keys) ≡ true
some_keys [] h = absurd (h refl)
some_keys (k ∷ keys) h = grind (arith, nat_tests)

pub returns-in_ok-copy-in-Counts-clause-keys : goal.returns-in_ok-copy-in-Counts-clause-keys
returns-in_ok-copy-in-Counts-clause-keys c =
    let whole = subst (λ x. IsOperation (query_of x)) c.in-Counts.is c.requires in
    subst (λ keys. nat_lt 0 (length keys) ≡ true) (sym (c.in_ok-keys-in-Counts.ensures ∙ c.as_slice.ensures)) (some_keys c.in-Counts.keys whole.3.0.some)
