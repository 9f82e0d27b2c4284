-- Of a language, what begins with one token: where all pieces begin with it, their offences are the same.
use Rattle.std.proofs.Common.{◌≡◌, inl, inr, ℕ, List, [], ◌∷◌, ◌++◌, Option, Some, None, refl, sym, ap, ◌∙◌, append_assoc}
use Rattle.mk_value.specs.Tokens.{Token}
use Rattle.tokens.specs.Cutting.{Piece}
use Rattle.tokens.specs.Depths.{IsWrongAt, Offence, Offends, OpensTooDeep, syntax, too_deep}
use Rattle.tokens.specs.Fronts.{EndsEarly, IsFirstWrong, IsFront, Language, tokens_in}

abbrev pub Led : Token → Language → Language
Led t language tokens = (rest : List Token) × (tokens ≡ t ∷ rest) × language tokens

led_front : (t : Token) (language : Language) (tokens : List Token) → IsFront (Led t language) tokens → IsFront language tokens
led_front t language tokens f = (f.0, f.1.2)

front_led : (t : Token) (language : Language) (tokens rest : List Token) → tokens ≡ t ∷ rest → IsFront language tokens → IsFront (Led t language) tokens
front_led t language tokens rest e f = (f.0, (rest ++ f.0, ap (λ ts. ts ++ f.0) e, f.1))

-- the pieces up to one begin with the first
record BeginsWith (t : Token) (tokens : List Token) : Type 0 where
  pub rest : List Token
  pub is : tokens ≡ t ∷ rest

up_to : (p : Piece) (pieces front : List Piece) (piece : Piece) (rest : List Piece) → p ∷ pieces ≡ front ++ piece ∷ rest → BeginsWith p.token (tokens_in front ++ (piece.token ∷ []))
up_to p pieces [] piece rest e = let f : p ≡ piece = cc in record { rest = []; is = ap (λ q. q.token ∷ []) (sym f) }
up_to p pieces (q ∷ front) piece rest e = let f : p ≡ q = cc in record { rest = tokens_in front ++ (piece.token ∷ []); is = ap (λ x. x.token ∷ (tokens_in front ++ (piece.token ∷ []))) (sym f) }

one_further : (t : Token) (front : List Token) (one two : Token) → BeginsWith t (front ++ (one ∷ [])) → BeginsWith t (front ++ (one ∷ two ∷ []))
one_further t front one two b = record { rest = b.rest ++ (two ∷ []); is = sym (append_assoc front (one ∷ []) (two ∷ [])) ∙ ap (λ ts. ts ++ (two ∷ [])) b.is }

pub led_deep : (p : Piece) (pieces : List Piece) (strict loose : Language) (place : ℕ) → OpensTooDeep (Led p.token strict) (Led p.token loose) (p ∷ pieces) place → OpensTooDeep strict loose (p ∷ pieces) place
led_deep p pieces strict loose place o =
    let next = one_further p.token (tokens_in o.front) o.name.token o.opening.token (up_to p pieces o.front o.name (o.opening ∷ o.rest) o.split) in
    record {
      front = o.front;
      name = o.name;
      opening = o.opening;
      rest = o.rest;
      split = o.split;
      goes_on = led_front p.token strict (tokens_in o.front ++ (o.name.token ∷ [])) o.goes_on;
      deeper = led_front p.token loose (tokens_in o.front ++ (o.name.token ∷ o.opening.token ∷ [])) o.deeper;
      wrong = λ f. o.wrong (front_led p.token strict (tokens_in o.front ++ (o.name.token ∷ o.opening.token ∷ [])) next.rest next.is f);
      at = o.at;
    }

pub deep_led : (p : Piece) (pieces : List Piece) (strict loose : Language) (place : ℕ) → OpensTooDeep strict loose (p ∷ pieces) place → OpensTooDeep (Led p.token strict) (Led p.token loose) (p ∷ pieces) place
deep_led p pieces strict loose place o =
    let first = up_to p pieces o.front o.name (o.opening ∷ o.rest) o.split in
    let next = one_further p.token (tokens_in o.front) o.name.token o.opening.token first in
    record {
      front = o.front;
      name = o.name;
      opening = o.opening;
      rest = o.rest;
      split = o.split;
      goes_on = front_led p.token strict (tokens_in o.front ++ (o.name.token ∷ [])) first.rest first.is o.goes_on;
      deeper = front_led p.token loose (tokens_in o.front ++ (o.name.token ∷ o.opening.token ∷ [])) next.rest next.is o.deeper;
      wrong = λ f. o.wrong (led_front p.token strict (tokens_in o.front ++ (o.name.token ∷ o.opening.token ∷ [])) f);
      at = o.at;
    }

led_wrong : (p : Piece) (pieces : List Piece) (loose : Language) (place : ℕ) → IsFirstWrong (Led p.token loose) (p ∷ pieces) place → IsFirstWrong loose (p ∷ pieces) place
led_wrong p pieces loose place w =
    let here = up_to p pieces w.front w.piece w.rest w.split in
    record {
      front = w.front;
      piece = w.piece;
      rest = w.rest;
      split = w.split;
      goes_on = led_front p.token loose (tokens_in w.front) w.goes_on;
      wrong = λ f. w.wrong (front_led p.token loose (tokens_in w.front ++ (w.piece.token ∷ [])) here.rest here.is f);
      at = w.at;
    }

led_early : (p : Piece) (pieces : List Piece) (loose : Language) (size place : ℕ) → EndsEarly (Led p.token loose) (p ∷ pieces) size place → EndsEarly loose (p ∷ pieces) size place
led_early p pieces loose size place e = record {
  goes_on = led_front p.token loose (tokens_in (p ∷ pieces)) e.goes_on;
  unfinished = λ whole. e.unfinished (tokens_in pieces, refl, whole);
  at = e.at;
}

led_at : (p : Piece) (pieces : List Piece) (loose : Language) (flaw : Option ℕ) (size place : ℕ) → IsWrongAt (Led p.token loose) (p ∷ pieces) flaw size place → IsWrongAt loose (p ∷ pieces) flaw size place
led_at p pieces loose (Some flaw) size place at = at
led_at p pieces loose None size place (inl w) = inl (led_wrong p pieces loose place w)
led_at p pieces loose None size place (inr e) = inr (led_early p pieces loose size place e)

pub led_offends : (p : Piece) (pieces : List Piece) (strict loose : Language) (flaw : Option ℕ) (size : ℕ) (offence : Offence) → Offends (Led p.token strict) (Led p.token loose) (p ∷ pieces) flaw size offence → Offends strict loose (p ∷ pieces) flaw size offence
led_offends p pieces strict loose flaw size (too_deep place) o = led_deep p pieces strict loose place o
led_offends p pieces strict loose flaw size (syntax place) o = (λ other d. o.0 other (deep_led p pieces strict loose other d), led_at p pieces loose flaw size place o.1)
