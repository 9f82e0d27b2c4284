-- Bytes that are a text, and bytes that are none.
use Rattle.std.proofs.Common.{◌≡◌, ◌≢◌, ℕ, Bool, true, false, not, cond, eqb, ◌&&◌, List, [], All, refl, ap}
use Rattle.std.specs.Bool.{Decides}
use Rattle.std.specs.List.{list_all}
use Rattle.std.specs.Str.{IsUtf8, is_utf8}
use Rattle.std.proofs.lemmas.Bool.Decides.{Decides-eqb, Decides-and, Decides-not, Decides-like, Decides-by_and}
use Rattle.std.proofs.lemmas.Str.{IsUtf8-from_is_utf8, is_utf8-from_IsUtf8}
use Rattle.mk_value.specs.Data.{IsText}
use Rattle.restructure.specs.Restructuring.{text_or_empty}

is_text_tells : (content : List ℕ) → Decides (is_utf8 content && list_all (λ b. not (eqb b 0)) content) (IsText content)
is_text_tells content =
    let utf8 : Decides (is_utf8 content) (IsUtf8 content) = (IsUtf8-from_is_utf8 content, is_utf8-from_IsUtf8 content) in
    let no_zero : Decides (list_all (λ b. not (eqb b 0)) content) (All (λ b. b ≢ 0) content) =
    Decides-by_and (λ b. not (eqb b 0)) (λ b. b ≢ 0) (list_all (λ b. not (eqb b 0))) (λ b. Decides-not (eqb b 0) (Decides-eqb b 0)) refl (λ _ _. refl) content in
    Decides-like _ (λ p. record { utf8 = p.0; no_zero = p.1 }) (λ p. (p.utf8, p.no_zero)) (Decides-and (is_utf8 content) (list_all (λ b. not (eqb b 0)) content) utf8 no_zero)

pub text_kept : (content : List ℕ) → IsText content → text_or_empty content ≡ content
text_kept content h = ap (λ b. cond b content []) ((is_text_tells content).1 h)

none_by : (b : Bool) (content : List ℕ) → (b ≡ true → ⊥) → cond b content [] ≡ []
none_by true content h = absurd (h refl)
none_by false content h = refl

pub text_lost : (content : List ℕ) → (IsText content → ⊥) → text_or_empty content ≡ []
text_lost content none = none_by _ content (λ e. none ((is_text_tells content).0 e))
