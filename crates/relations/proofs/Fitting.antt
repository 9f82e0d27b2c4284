-- The test whether a value fits a property that is no view tells just that.
use Rattle.std.proofs.Common.{◌≡◌, ◌≢◌, ◌↔◌, ℕ, ◌≤◌, ◌^◌, ℤ, pos, negsuc, Bool, true, false, not, leb, eqb, IsTrue, List, length, All, refl, ap, sym, ◌∙◌, arith, ◌&&◌}
use Rattle.std.specs.Bool.{Decides}
use Rattle.std.specs.Int.{w32, w64}
use Rattle.std.specs.Prelude.{FitsSigned}
use Rattle.std.specs.List.{list_all}
use Rattle.std.specs.Str.{IsUtf8, is_utf8}
use Rattle.std.proofs.lemmas.Bool.{false≢true}
use Rattle.std.proofs.lemmas.Bool.Decides.{Decides-ltb, Decides-eqb, Decides-and, Decides-not, Decides-like, Decides-by_and, same_from_decides, nat_tests}
use Rattle.std.proofs.lemmas.Str.{IsUtf8-from_is_utf8, is_utf8-from_IsUtf8}
use Rattle.mk_value.specs.Limits.{max_bytes}
use Rattle.mk_value.specs.Heading.{Domain}
use Rattle.mk_value.specs.Data.{Datum, integer, long, text, bytes, relation, IsText, IsOf}
use Rattle.relations.specs.Criteria.{Interval}
use Rattle.relations.specs.Fitting.{is_below, is_view, fits}

Decides-leb : (a b : ℕ) → Decides (leb a b) (a ≤ b)
Decides-leb a b = (λ e. grind (arith, nat_tests), λ h. grind (arith, nat_tests))

below_32 : (z : ℤ) → Decides (is_below (2 ^ 31) z) (FitsSigned w32 z)
below_32 (pos n) = let d = Decides-ltb n (2 ^ 31) in (λ e. record { sfits = d.0 e }, λ h. d.1 h.sfits)
below_32 (negsuc n) = let d = Decides-ltb n (2 ^ 31) in (λ e. record { sfits = d.0 e }, λ h. d.1 h.sfits)

below_64 : (z : ℤ) → Decides (is_below (2 ^ 63) z) (FitsSigned w64 z)
below_64 (pos n) = let d = Decides-ltb n (2 ^ 63) in (λ e. record { sfits = d.0 e }, λ h. d.1 h.sfits)
below_64 (negsuc n) = let d = Decides-ltb n (2 ^ 63) in (λ e. record { sfits = d.0 e }, λ h. d.1 h.sfits)

text_fits : (content : List ℕ) → Decides (is_utf8 content && list_all (λ b. not (eqb b 0)) content && leb (length content) max_bytes) (IsText content × (length content ≤ max_bytes))
text_fits content =
    let utf8 : Decides (is_utf8 content) (IsUtf8 content) = (IsUtf8-from_is_utf8 content, is_utf8-from_IsUtf8 content) in
    let no_zero : Decides (list_all (λ b. not (eqb b 0)) content) (All (λ b. b ≢ 0) content) =
    Decides-by_and (λ b. not (eqb b 0)) (λ b. b ≢ 0) (list_all (λ b. not (eqb b 0))) (λ b. Decides-not (eqb b 0) (Decides-eqb b 0)) refl (λ _ _. refl) content in
    let both = Decides-and (is_utf8 content) (list_all (λ b. not (eqb b 0)) content) utf8 no_zero in
    let is_text : Decides (is_utf8 content && list_all (λ b. not (eqb b 0)) content) (IsText content) =
    Decides-like _ (λ p. record { utf8 = p.0; no_zero = p.1 }) (λ p. (p.utf8, p.no_zero)) both in
    Decides-and _ (leb (length content) max_bytes) is_text (Decides-leb (length content) max_bytes)

never : Decides false ⊥
never = (λ e. false≢true e, λ h. absurd h)

fits_tells : (e : Domain) (d : Datum) → is_view e ≡ false → Decides (fits e d) (IsOf d e)
fits_tells Domain.integer (integer z) p = below_32 z
fits_tells Domain.integer (long z) p = never
fits_tells Domain.integer (text content) p = never
fits_tells Domain.integer (bytes content) p = never
fits_tells Domain.integer (relation r) p = never
fits_tells Domain.long (integer z) p = never
fits_tells Domain.long (long z) p = below_64 z
fits_tells Domain.long (text content) p = never
fits_tells Domain.long (bytes content) p = never
fits_tells Domain.long (relation r) p = never
fits_tells Domain.text (integer z) p = never
fits_tells Domain.text (long z) p = never
fits_tells Domain.text (text content) p = text_fits content
fits_tells Domain.text (bytes content) p = never
fits_tells Domain.text (relation r) p = never
fits_tells Domain.bytes (integer z) p = never
fits_tells Domain.bytes (long z) p = never
fits_tells Domain.bytes (text content) p = never
fits_tells Domain.bytes (bytes content) p = Decides-leb (length content) max_bytes
fits_tells Domain.bytes (relation r) p = never
fits_tells (Domain.relation h) d p = absurd (false≢true (sym p))

pub fits_is : (r : Bool) (e : Domain) (d : Datum) → is_view e ≡ false → (IsTrue r ↔ IsOf d e) → r ≡ fits e d
fits_is r e d p h = same_from_decides r (fits e d) (h.0, h.1) (fits_tells e d p)

-- two answers that tell whether the bounds of a criterion fit its property
pub both_fit : (b : Interval) (prop : List ℕ) (low high : Datum) (e f : Domain) (r s : Bool) → record { prop = prop; low = low; high = high } ≡ b → e ≡ f → is_view f ≡ false
    → (IsTrue r ↔ IsOf low e) → (IsTrue s ↔ IsOf high e) → (r && s) ≡ (fits f b.low && fits f b.high)
both_fit b prop low high e f r s view same plain one two =
    let at : is_view e ≡ false = ap is_view same ∙ plain in
    ap (λ x. x && s) (fits_is r e low at one) ∙ ap (λ y. fits e low && y) (fits_is s e high at two)
    ∙ ap (λ (x : Domain). fits x low && fits x high) same ∙ ap (λ (c : Interval). fits f c.low && fits f c.high) view

-- a value that fits a property that is no view may be compared with those of the property
pub fitting : (e : Domain) (d : Datum) → is_view e ≡ false → fits e d ≡ true → IsOf d e
fitting e d p h = (fits_tells e d p).0 h
