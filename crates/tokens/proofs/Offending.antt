-- A text has one first offence against a language, and none where the language has it.
use Rattle.std.proofs.Common.{◌≡◌, ◌⊎◌, ℕ, List, [], ◌∷◌, ◌++◌, length, refl, ap, sym, subst, ◌∙◌, append_assoc, append-nil, inl, inr, ⊎_elim}
use Rattle.mk_value.specs.Data.{Datum}
use Rattle.mk_value.specs.Tokens.{Token}
use Rattle.tokens.specs.Cutting.{Cuts, Piece}
use Rattle.tokens.specs.Fronts.{Language, IsFront, IsFirstWrong, EndsEarly, IsFirstOffence, tokens_in}
use Rattle.tokens.specs.Literals.{Reads, max_braces}
use Rattle.tokens.proofs.Chains.{cut_once, cut_or_flawed, flawed_once}
use Rattle.tokens.proofs.Unambiguous.{same_literal}

-- a front's front is a front
pub shorter_front : (language : Language) (a b : List Token) → IsFront language (a ++ b) → IsFront language a
shorter_front language a b f = (b ++ f.0, subst language (append_assoc a b f.0) f.1)

tokens_in-append : (a b : List Piece) → tokens_in (a ++ b) ≡ tokens_in a ++ tokens_in b
tokens_in-append [] b = refl
tokens_in-append (p ∷ a) b = ap (λ x. p.token ∷ x) (tokens_in-append a b)

-- of two places that part a list, one is the other or stands behind it
parted : (f g : List Piece) (p q : Piece) (r s : List Piece) → f ++ p ∷ r ≡ g ++ q ∷ s
    → (p ≡ q) ⊎ (((m : List Piece) × (g ≡ (f ++ p ∷ []) ++ m)) ⊎ ((m : List Piece) × (f ≡ (g ++ q ∷ []) ++ m)))
parted [] [] p q r s e = inl cc
parted [] (a ∷ g) p q r s e = let first : a ≡ p = cc in inr (inl (g, ap (λ x. x ∷ g) first))
parted (a ∷ f) [] p q r s e = let first : a ≡ q = cc in inr (inr (f, ap (λ x. x ∷ f) first))
parted (a ∷ f) (b ∷ g) p q r s e =
    let first : a ≡ b = cc in
    let rest : f ++ p ∷ r ≡ g ++ q ∷ s = cc in
    ⊎_elim
    (λ h. inl h)
    (λ h. inr (⊎_elim
    (λ x. inl (x.0, ap (λ y. y ∷ g) (sym first) ∙ ap (λ y. a ∷ y) x.1))
    (λ x. inr (x.0, ap (λ y. y ∷ f) first ∙ ap (λ y. b ∷ y) x.1))
    h))
    (parted f g p q r s rest)

module _ (language : Language) where
  -- what goes on behind the first wrong token would go on at it
  past_wrong : (pieces : List Piece) (place : ℕ) → (w : IsFirstWrong language pieces place) → (longer m : List Piece) → longer ≡ (w.front ++ w.piece ∷ []) ++ m → IsFront language (tokens_in longer) → ⊥
  past_wrong pieces place w longer m e f =
      w.wrong (subst (IsFront language) (tokens_in-append w.front (w.piece ∷ []))
      (shorter_front language (tokens_in (w.front ++ w.piece ∷ [])) (tokens_in m) (subst (IsFront language) (ap tokens_in e ∙ tokens_in-append (w.front ++ w.piece ∷ []) m) f)))

  pub wrong_once : (pieces : List Piece) (one two : ℕ) → IsFirstWrong language pieces one → IsFirstWrong language pieces two → one ≡ two
  wrong_once pieces one two v w = ⊎_elim
      (λ same. v.at ∙ ap (λ p. p.place) same ∙ sym w.at)
      (λ apart. absurd (⊎_elim
      (λ x. past_wrong pieces one v w.front x.0 x.1 w.goes_on)
      (λ x. past_wrong pieces two w v.front x.0 x.1 v.goes_on)
      apart))
      (parted v.front w.front v.piece w.piece v.rest w.rest (sym v.split ∙ w.split))

  wrong_not_front : (pieces : List Piece) (place : ℕ) → IsFirstWrong language pieces place → IsFront language (tokens_in pieces) → ⊥
  wrong_not_front pieces place w f = past_wrong pieces place w pieces w.rest (w.split ∙ sym (append_assoc w.front (w.piece ∷ []) w.rest)) f

  -- a text of the language has no offence
  pub whole_no_offence : (content : List ℕ) (pieces : List Piece) (place : ℕ) → Cuts content pieces → language (tokens_in pieces) → IsFirstOffence language content place → ⊥
  whole_no_offence content pieces place c whole (inl flaw) = cut_or_flawed 0 content pieces flaw.0 place c flaw.1
  whole_no_offence content pieces place c whole (inr wrong) =
      let same = cut_once 0 content wrong.0 pieces wrong.1 c in
      ⊎_elim
      (λ w. wrong_not_front wrong.0 place w ([], subst language (ap tokens_in (sym same) ∙ sym (append-nil (tokens_in wrong.0))) whole))
      (λ e. e.unfinished (subst (λ p. language (tokens_in p)) (sym same) whole))
      wrong.2

  pub offence_once : (content : List ℕ) (one two : ℕ) → IsFirstOffence language content one → IsFirstOffence language content two → one ≡ two
  offence_once content one two (inl a) (inl b) = flawed_once 0 content a.0 b.0 one two a.1 b.1
  offence_once content one two (inl a) (inr b) = absurd (cut_or_flawed 0 content b.0 a.0 one b.1 a.1)
  offence_once content one two (inr a) (inl b) = absurd (cut_or_flawed 0 content a.0 b.0 two a.1 b.1)
  offence_once content one two (inr a) (inr b) =
      let same = cut_once 0 content b.0 a.0 b.1 a.1 in
      either a.0 one two a.2 (subst (λ p. IsFirstWrong language p two ⊎ EndsEarly language p (length content) two) same b.2)
    where
      either : (pieces : List Piece) (one two : ℕ) → (IsFirstWrong language pieces one ⊎ EndsEarly language pieces (length content) one)
          → (IsFirstWrong language pieces two ⊎ EndsEarly language pieces (length content) two) → one ≡ two
      either pieces one two (inl v) (inl w) = wrong_once pieces one two v w
      either pieces one two (inl v) (inr w) = absurd (wrong_not_front pieces one v w.goes_on)
      either pieces one two (inr v) (inl w) = absurd (wrong_not_front pieces two w v.goes_on)
      either pieces one two (inr v) (inr w) = v.at ∙ sym w.at

pub read_once : (content : List ℕ) (one two : Datum) → Reads content one → Reads content two → one ≡ two
read_once content one two a b =
    let same = cut_once 0 content a.0 b.0 a.1 b.1 in
    (same_literal one two max_braces max_braces [] [] a.2.whole b.2.whole (ap (λ x. x ++ []) (sym a.2.is ∙ ap tokens_in same ∙ b.2.is))).0
