-- What a law keeps of a row, by its values.
use Rattle.std.proofs.Common.{◌≡◌, ℕ, zero, suc, ℤ, pos, negsuc, ◌+ℤ◌, Bool, false, not, List, [], ◌∷◌, length, get_or, refl, ap, sym, ◌∙◌, arith}
use Rattle.std.specs.Prelude.{FitsSigned}
use Rattle.std.specs.Int.{w64}
use Rattle.std.proofs.lemmas.Int.{ints}
use Rattle.derived.specs.Refusals.{is_zero}
use Rattle.mk_value.specs.Data.{Datum, integer}
use Rattle.mk_value.specs.Heading.{Attribute}
use Rattle.mk_value.specs.Tables.{number_in}
use Rattle.relations.specs.Columns.{column_of}
use Rattle.viewers.specs.declared.law.Law.TheVariants.{Sum}
use Rattle.kept_counts.specs.Keeping.{is_kept_by}

two_of : (props : List (List ℕ)) (p q : List ℕ) → length props ≡ 2 → p ≡ get_or props 0 p → q ≡ get_or props 1 q → props ≡ p ∷ q ∷ []
two_of [] p q long is also = absurd (omega arith)
two_of (a ∷ []) p q long is also = absurd (omega arith)
two_of (a ∷ b ∷ []) p q long is also = λ i. sym is i ∷ sym also i ∷ []
two_of (a ∷ b ∷ e ∷ props) p q long is also = absurd (omega arith)

-- the sum of two numbers is kept where it is not 0
pub sum_two : (schema : List Attribute) (row : List Datum) (props : List (List ℕ)) (p q : List ℕ) (m n : ℤ) → length props ≡ 2 → p ≡ get_or props 0 p → q ≡ get_or props 1 q
    → m ≡ number_in (get_or row (column_of schema p) (integer (pos 0))) → n ≡ number_in (get_or row (column_of schema q) (integer (pos 0))) → not (is_zero (m +ℤ n)) ≡ is_kept_by schema Sum props row
sum_two schema row props p q m n long is also e f = (λ i. not (is_zero (e i +ℤ f i))) ∙ ap (λ ps. is_kept_by schema Sum ps row) (sym (two_of props p q long is also))

-- what does not fit is not 0
pub unfit_some : (z : ℤ) → (FitsSigned w64 z → ⊥) → false ≡ is_zero z
unfit_some (pos zero) h = absurd (h (omega (arith, ints)))
unfit_some (pos (suc n)) h = refl
unfit_some (negsuc n) h = refl
