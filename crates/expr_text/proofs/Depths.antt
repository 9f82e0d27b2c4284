-- Offences against languages with a limit of depth: pieces have one at most, and none where all of them belong to the strict one.
use Rattle.std.proofs.Common.{◌≡◌, ◌⊎◌, inl, inr, ℕ, List, [], ◌∷◌, ◌++◌, Option, Some, None, refl, sym, ap, subst, ◌∙◌, append_assoc}
use Rattle.mk_value.specs.Tokens.{Token}
use Rattle.tokens.specs.Cutting.{Piece}
use Rattle.tokens.specs.Depths.{IsWrongAt, Offence, Offends, OpensTooDeep, syntax, too_deep}
use Rattle.tokens.specs.Fronts.{EndsEarly, IsFirstWrong, IsFront, Language, tokens_in}
use Rattle.tokens.proofs.Offending as offending

tokens_split : (front : List Piece) (p : Piece) (rest : List Piece) → tokens_in (front ++ p ∷ rest) ≡ tokens_in front ++ (p.token ∷ tokens_in rest)
tokens_split [] p rest = refl
tokens_split (q ∷ front) p rest = ap (λ ts. q.token ∷ ts) (tokens_split front p rest)

-- what belongs to a language has no wrong token, and opens nothing too deep
no_wrong : (language : Language) (pieces : List Piece) (place : ℕ) → language (tokens_in pieces) → IsFirstWrong language pieces place → ⊥
no_wrong language pieces place whole w =
    w.wrong (tokens_in w.rest, subst language (ap tokens_in w.split ∙ tokens_split w.front w.piece w.rest ∙ sym (append_assoc (tokens_in w.front) (w.piece.token ∷ []) (tokens_in w.rest))) whole)

pub no_deep : (strict loose : Language) (pieces : List Piece) (place : ℕ) → strict (tokens_in pieces) → OpensTooDeep strict loose pieces place → ⊥
no_deep strict loose pieces place whole o = o.wrong (
  tokens_in o.rest,
  subst strict (ap tokens_in o.split ∙ tokens_split o.front o.name (o.opening ∷ o.rest) ∙ sym (append_assoc (tokens_in o.front) (o.name.token ∷ o.opening.token ∷ []) (tokens_in o.rest))) whole,
)

pub whole_no_offence : (strict loose : Language) → ((tokens : List Token) → strict tokens → loose tokens) → (pieces : List Piece) (size : ℕ) (offence : Offence) → strict (tokens_in pieces) → Offends strict loose pieces None size offence → ⊥
whole_no_offence strict loose within pieces size (too_deep place) whole o = no_deep strict loose pieces place whole o
whole_no_offence strict loose within pieces size (syntax place) whole o = chosen o.1
  where
    chosen : IsFirstWrong loose pieces place ⊎ EndsEarly loose pieces size place → ⊥
    chosen (inl w) = no_wrong loose pieces place (within (tokens_in pieces) whole) w
    chosen (inr e) = e.unfinished (within (tokens_in pieces) whole)

-- of two names in one list, either they are one, or one stands before the other with what opens behind it
one_before : (f g : List Piece) (n o m p : Piece) (r s : List Piece) → f ++ n ∷ o ∷ r ≡ g ++ m ∷ p ∷ s
    → (n ≡ m) ⊎ (((b : List Piece) × (g ++ m ∷ [] ≡ f ++ n ∷ o ∷ b)) ⊎ ((b : List Piece) × (f ++ n ∷ [] ≡ g ++ m ∷ p ∷ b)))
one_before [] [] n o m p r s e = let same : n ≡ m = cc in inl same
one_before [] (x ∷ []) n o m p r s e = let a : n ≡ x = cc in let b : o ≡ m = cc in inr (inl ([], ap (λ y. y ∷ m ∷ []) (sym a) ∙ ap (λ y. n ∷ y ∷ []) (sym b)))
one_before [] (x ∷ y ∷ g) n o m p r s e = let a : n ≡ x = cc in let b : o ≡ y = cc in inr (inl (g ++ m ∷ [], ap (λ z. z ∷ y ∷ (g ++ m ∷ [])) (sym a) ∙ ap (λ z. n ∷ z ∷ (g ++ m ∷ [])) (sym b)))
one_before (x ∷ []) [] n o m p r s e = let a : x ≡ m = cc in let b : n ≡ p = cc in inr (inr ([], ap (λ y. y ∷ n ∷ []) a ∙ ap (λ y. m ∷ y ∷ []) b))
one_before (x ∷ y ∷ f) [] n o m p r s e = let a : x ≡ m = cc in let b : y ≡ p = cc in inr (inr (f ++ n ∷ [], ap (λ z. z ∷ y ∷ (f ++ n ∷ [])) a ∙ ap (λ z. m ∷ z ∷ (f ++ n ∷ [])) b))
one_before (x ∷ f) (y ∷ g) n o m p r s e =
    let first : x ≡ y = cc in
    let others : f ++ n ∷ o ∷ r ≡ g ++ m ∷ p ∷ s = cc in
    elim (one_before f g n o m p r s others) [
      | inl same ↦ inl same
      | inr (inl b) ↦ inr (inl (b.0, ap (λ ps. y ∷ ps) b.1 ∙ ap (λ z. z ∷ (f ++ n ∷ o ∷ b.0)) (sym first)))
      | inr (inr b) ↦ inr (inr (b.0, ap (λ ps. x ∷ ps) b.1 ∙ ap (λ z. z ∷ (g ++ m ∷ p ∷ b.0)) first))
    ]

-- a front of more is a front
shorter : (strict : Language) (front : List Piece) (name opening : Piece) (more other : List Piece) → other ≡ front ++ name ∷ opening ∷ more → IsFront strict (tokens_in other) → IsFront strict (tokens_in front ++ (name.token ∷ opening.token ∷ []))
shorter strict front name opening more other e f = (
  tokens_in more ++ f.0,
  subst strict (
      ap (λ ps. tokens_in ps ++ f.0) e ∙ ap (λ ts. ts ++ f.0) (tokens_split front name (opening ∷ more)) ∙ append_assoc (tokens_in front) (name.token ∷ opening.token ∷ tokens_in more) f.0
      ∙ sym (append_assoc (tokens_in front) (name.token ∷ opening.token ∷ []) (tokens_in more ++ f.0))) f.1,
)

name_last : (strict : Language) (front : List Piece) (name : Piece) → IsFront strict (tokens_in front ++ (name.token ∷ [])) → IsFront strict (tokens_in (front ++ name ∷ []))
name_last strict front name f = subst (IsFront strict) (sym (tokens_split front name [])) f

deep_once : (strict loose : Language) (pieces : List Piece) (one two : ℕ) → OpensTooDeep strict loose pieces one → OpensTooDeep strict loose pieces two → one ≡ two
deep_once strict loose pieces one two o k = elim (one_before o.front k.front o.name o.opening k.name k.opening o.rest k.rest (sym o.split ∙ k.split)) [
  | inl same ↦ o.at ∙ ap (λ p. p.place) same ∙ sym k.at
  | inr (inl b) ↦ absurd (o.wrong (shorter strict o.front o.name o.opening b.0 (k.front ++ k.name ∷ []) b.1 (name_last strict k.front k.name k.goes_on)))
  | inr (inr b) ↦ absurd (k.wrong (shorter strict k.front k.name k.opening b.0 (o.front ++ o.name ∷ []) b.1 (name_last strict o.front o.name o.goes_on)))
]

early_wrong : (loose : Language) (pieces : List Piece) (size one two : ℕ) → IsFirstWrong loose pieces one → EndsEarly loose pieces size two → ⊥
early_wrong loose pieces size one two w e = w.wrong (
  tokens_in w.rest ++ e.goes_on.0,
  subst loose (
      ap (λ ts. ts ++ e.goes_on.0) (ap tokens_in w.split ∙ tokens_split w.front w.piece w.rest) ∙ append_assoc (tokens_in w.front) (w.piece.token ∷ tokens_in w.rest) e.goes_on.0
      ∙ sym (append_assoc (tokens_in w.front) (w.piece.token ∷ []) (tokens_in w.rest ++ e.goes_on.0))) e.goes_on.1,
)

wrong_once : (loose : Language) (pieces : List Piece) (flaw : Option ℕ) (size one two : ℕ) → IsWrongAt loose pieces flaw size one → IsWrongAt loose pieces flaw size two → one ≡ two
wrong_once loose pieces (Some flaw) size one two p q = p ∙ sym q
wrong_once loose pieces None size one two (inl p) (inl q) = offending.wrong_once loose pieces one two p q
wrong_once loose pieces None size one two (inl p) (inr q) = absurd (early_wrong loose pieces size one two p q)
wrong_once loose pieces None size one two (inr p) (inl q) = absurd (early_wrong loose pieces size two one q p)
wrong_once loose pieces None size one two (inr p) (inr q) = p.at ∙ sym q.at

pub offends_once : (strict loose : Language) (pieces : List Piece) (flaw : Option ℕ) (size : ℕ) (one two : Offence) → Offends strict loose pieces flaw size one → Offends strict loose pieces flaw size two → one ≡ two
offends_once strict loose pieces flaw size (too_deep one) (too_deep two) p q = ap too_deep (deep_once strict loose pieces one two p q)
offends_once strict loose pieces flaw size (too_deep one) (syntax two) p q = absurd (q.0 one p)
offends_once strict loose pieces flaw size (syntax one) (too_deep two) p q = absurd (p.0 two q)
offends_once strict loose pieces flaw size (syntax one) (syntax two) p q = ap syntax (wrong_once loose pieces flaw size one two p.1 q.1)
