-- A letter where a kind stands: the letter of a domain, or what refuses it.
use Rattle.std.proofs.Common.{◌≡◌, ℕ, ◌+◌, ◌<◌, ◌≤◌, true, false, List, ◌∷◌, ◌++◌, length, drop, refl, sym, ◌∙◌, ap}
use Rattle.std.proofs.lemmas.Bool.{or_left, or_from}
use Rattle.std.proofs.lemmas.List.{drop_all}
use Rattle.mk_value.specs.Heading.{Domain}
use Rattle.struct_text.specs.Bytes.{colon, is_plain_letter, is_floating_letter}
use Rattle.struct_text.specs.declared.error.StructError.TheVariants.{Syntax, Floating}
use Rattle.struct_text.specs.Walk.{kind}
use Rattle.struct_text.specs.Flaws.{first_flaw}
use Rattle.struct_text.specs.Reading.{HasByte, IsLetterOf, IsLetterAt, RefusesLetter}
use Rattle.struct_text.proofs.Moves.{ends_early, over_letter, floating_letter, no_letter}

module _ (bytes : List ℕ) (at : ℕ) where
  pub letter_ends : length bytes ≤ at → RefusesLetter bytes at (Syntax at)
  letter_ends h = λ brackets. ap (first_flaw (kind brackets) at) (drop_all at bytes h) ∙ ends_early (kind brackets) at refl

  pub letter_floats : (letter : ℕ) → HasByte bytes at letter → is_floating_letter letter ≡ true → RefusesLetter bytes at (Floating at)
  letter_floats letter e h = λ brackets. ap (first_flaw (kind brackets) at) e ∙ floating_letter brackets letter (drop (at + 1) bytes) at h

  pub letter_wrong : (letter : ℕ) → HasByte bytes at letter → is_plain_letter letter ≡ false → is_floating_letter letter ≡ false → RefusesLetter bytes at (Syntax at)
  letter_wrong letter e h k = λ brackets. ap (first_flaw (kind brackets) at) e ∙ no_letter brackets letter (drop (at + 1) bytes) at (or_from (is_plain_letter letter) (is_floating_letter letter) h k)

  pub letter_found : (letter : ℕ) (domain : Domain) → at < length bytes → HasByte bytes at letter → IsLetterOf letter domain → IsLetterAt bytes at domain
  letter_found letter domain l e h = record {
    within = l;
    spelled = ap (λ r. colon ∷ r) e ∙ ap (λ s. s ++ drop (at + 1) bytes) (sym h.spelled);
    reaches = λ brackets. ap (first_flaw (kind brackets) at) e
        ∙ over_letter brackets letter (drop (at + 1) bytes) at (or_left (is_plain_letter letter) (is_floating_letter letter) h.plain) h.fixed;
    whole = h.whole;
    flat = h.flat;
  }
