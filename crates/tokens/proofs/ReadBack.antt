-- What is printed reads back: the tokens of a value part by themselves, and its literal becomes the value again.
use Rattle.std.proofs.Common.{◌≡◌, ℕ, ◌+◌, ◌-◌, ◌<◌, ◌≤◌, ◌&&◌, ◌==◌, false, List, [], ◌∷◌, ◌++◌, length, refl, ap, sym, subst, ◌∙◌, append_assoc, append-nil, arith, Contains}
use Rattle.std.specs.Char.{is_ascii_digit}
use Rattle.std.proofs.lemmas.List.Elements.{All-nil}
use Rattle.mk_value.specs.Conversions.{becomes, row_becomes, rows_become}
use Rattle.mk_value.specs.Data.{Datum, integer, long, text, bytes, relation, Tuple, no_values, value, Relation, no_tuples, tuple, tuple_of, IsOf, IsTupleOf, AreTuplesOf}
use Rattle.mk_value.specs.Heading.{Domain, Heading, no_attributes, attribute, attributes_of, domain_depth, heading_depth, IsDomain, AreAttributes}
use Rattle.mk_value.specs.Literals.{more_rows, more_values, row_text, row_tokens, rows_tokens, spelled, tokens_of, value_text}
use Rattle.mk_value.specs.Names.{is_name_byte}
use Rattle.mk_value.specs.Tokens.{Token, sign, spelling}
use Rattle.mk_value.proofs.Headings.{heading_of-attributes_of}
use Rattle.mk_value.proofs.Printed.{spelled-append}
use Rattle.tokens.specs.Cutting.{CutsFrom, EndsBefore, IsToken, Piece, begins_with, signs, space}
use Rattle.tokens.specs.Fronts.{tokens_in}
use Rattle.tokens.specs.Literals.{AreLiteralRows, AreLiterals, HoldsBytes, IsLiteral, IsLiteralRow, Reads, ReadsRowText, RowHoldsBytes, RowsHoldBytes, as_literal, max_braces, row_as_literals, rows_as_literals}

-- tokens that stand side by side with bytes behind them, each the longest at its place
abbrev Parts : List Token → List ℕ → Type 0
Parts [] tail = Unit {0}
Parts (t ∷ ts) tail = IsToken t × EndsBefore t (spelled ts ++ tail) × Parts ts tail

parts_append : (xs ys : List Token) (tail : List ℕ) → Parts xs (spelled ys ++ tail) → Parts ys tail → Parts (xs ++ ys) tail
parts_append [] ys tail p q = q
parts_append (x ∷ xs) ys tail p q = (
  p.0,
  subst (EndsBefore x) (sym (append_assoc (spelled xs) (spelled ys) tail) ∙ ap (λ z. z ++ tail) (sym (spelled-append xs ys))) p.1,
  parts_append xs ys tail p.2 q,
)

-- the pieces of such tokens from a place on
abbrev piece : ℕ → Token → Piece
piece place token = record { place = place; token = token }

abbrev pieces_from : ℕ → List Token → List Piece
pieces_from place [] = []
pieces_from place (t ∷ ts) = piece place t ∷ pieces_from (place + length (spelling t)) ts

tokens_in-pieces_from : (place : ℕ) (ts : List Token) → tokens_in (pieces_from place ts) ≡ ts
tokens_in-pieces_from place [] = refl
tokens_in-pieces_from place (t ∷ ts) = ap (λ x. t ∷ x) (tokens_in-pieces_from (place + length (spelling t)) ts)

parts_cut : (place : ℕ) (ts : List Token) → Parts ts [] → CutsFrom place (spelled ts) (pieces_from place ts)
parts_cut place [] p = All-nil (λ b. b ≡ space)
parts_cut place (t ∷ ts) p = (
  spelled ts,
  record {
    gap = [];
    blank = All-nil (λ b. b ≡ space);
    at = omega arith;
    begins = (spelling t ++ spelled ts, refl, record { whole = p.0; stands = refl; ends = subst (EndsBefore t) (append-nil (spelled ts)) p.1 });
  },
  parts_cut (place + length (spelling t)) ts p.2,
)

-- a sign of literals parts from all that stands behind it
part_sign : (s : ℕ) (ts : List Token) (tail : List ℕ) → Contains signs s → (s == 45) ≡ false → Parts ts tail → Parts (sign s ∷ ts) tail
part_sign s ts tail held e p = (held, ap (λ t. t && begins_with is_ascii_digit (spelled ts ++ tail)) e, p)

open_sign : (ts : List Token) (tail : List ℕ) → Parts ts tail → Parts (sign 40 ∷ ts) tail
open_sign ts tail p = part_sign 40 ts tail (0, omega arith, refl) refl p

close_sign : (tail : List ℕ) → Parts (sign 41 ∷ []) tail
close_sign tail = part_sign 41 [] tail (1, omega arith, refl) refl tt

comma_sign : (ts : List Token) (tail : List ℕ) → Parts ts tail → Parts (sign 44 ∷ ts) tail
comma_sign ts tail p = part_sign 44 ts tail (2, omega arith, refl) refl p

-- what stands behind a value is no letter, digit or `_`
values_open : (r : Tuple) (tail : List ℕ) → begins_with is_name_byte tail ≡ false → begins_with is_name_byte (spelled (more_values r) ++ tail) ≡ false
values_open no_values tail e = e
values_open (value d r) tail e = refl

mutual
  parts_literal : (d : Datum) (deep : ℕ) (tail : List ℕ) → IsLiteral deep d → begins_with is_name_byte tail ≡ false → Parts (tokens_of d) tail
  parts_literal (integer z) deep tail p e = absurd p
  parts_literal (long z) deep tail p e = (p, e, tt)
  parts_literal (text content) deep tail p e = (p, tt, tt)
  parts_literal (bytes content) deep tail p e = (p, tt, tt)
  parts_literal (relation r) deep tail p e =
      part_sign 123 (rows_tokens r ++ (sign 125 ∷ [])) tail (7, omega arith, refl) refl
      (parts_append (rows_tokens r) (sign 125 ∷ []) tail (parts_rows r (deep - 1) (spelled (sign 125 ∷ []) ++ tail) p.1) (part_sign 125 [] tail (8, omega arith, refl) refl tt))

  parts_rows : (r : Relation) (deep : ℕ) (tail : List ℕ) → AreLiteralRows deep r → Parts (rows_tokens r) tail
  parts_rows no_tuples deep tail p = tt
  parts_rows (tuple t r) deep tail p = parts_append (row_tokens t) (more_rows r) tail (parts_row t deep (spelled (more_rows r) ++ tail) p.0) (parts_more_rows r deep tail p.1)

  parts_more_rows : (r : Relation) (deep : ℕ) (tail : List ℕ) → AreLiteralRows deep r → Parts (more_rows r) tail
  parts_more_rows no_tuples deep tail p = tt
  parts_more_rows (tuple t r) deep tail p =
      comma_sign (row_tokens t ++ more_rows r) tail (parts_append (row_tokens t) (more_rows r) tail (parts_row t deep (spelled (more_rows r) ++ tail) p.0) (parts_more_rows r deep tail p.1))

  parts_row : (t : Tuple) (deep : ℕ) (tail : List ℕ) → IsLiteralRow deep t → Parts (row_tokens t) tail
  parts_row no_values deep tail p = absurd p
  parts_row (value d r) deep tail p =
      open_sign (tokens_of d ++ (more_values r ++ (sign 41 ∷ []))) tail
      (parts_append (tokens_of d) (more_values r ++ (sign 41 ∷ [])) tail
      (parts_literal d deep (spelled (more_values r ++ (sign 41 ∷ [])) ++ tail) p.0
      (ap (λ z. begins_with is_name_byte (z ++ tail)) (spelled-append (more_values r) (sign 41 ∷ [])) ∙ ap (begins_with is_name_byte) (append_assoc (spelled (more_values r)) (spelled (sign 41 ∷ [])) tail)
      ∙ values_open r (spelled (sign 41 ∷ []) ++ tail) refl))
      (parts_append (more_values r) (sign 41 ∷ []) tail (parts_values r deep (spelled (sign 41 ∷ []) ++ tail) p.1 refl) (close_sign tail)))

  parts_values : (r : Tuple) (deep : ℕ) (tail : List ℕ) → AreLiterals deep r → begins_with is_name_byte tail ≡ false → Parts (more_values r) tail
  parts_values no_values deep tail p e = tt
  parts_values (value d r) deep tail p e =
      comma_sign (tokens_of d ++ more_values r) tail
      (parts_append (tokens_of d) (more_values r) tail (parts_literal d deep (spelled (more_values r) ++ tail) p.0 (values_open r tail e)) (parts_values r deep tail p.1 e))

-- a value and its literal have the same tokens
mutual
  tokens_of-as_literal : (d : Datum) → tokens_of (as_literal d) ≡ tokens_of d
  tokens_of-as_literal (integer z) = refl
  tokens_of-as_literal (long z) = refl
  tokens_of-as_literal (text content) = refl
  tokens_of-as_literal (bytes content) = refl
  tokens_of-as_literal (relation r) = ap (λ x. sign 123 ∷ (x ++ (sign 125 ∷ []))) (rows_tokens-as_literals r)

  rows_tokens-as_literals : (r : Relation) → rows_tokens (rows_as_literals r) ≡ rows_tokens r
  rows_tokens-as_literals no_tuples = refl
  rows_tokens-as_literals (tuple t r) = ap (λ x. x ++ more_rows (rows_as_literals r)) (row_tokens-as_literals t) ∙ ap (λ x. row_tokens t ++ x) (more_rows-as_literals r)

  more_rows-as_literals : (r : Relation) → more_rows (rows_as_literals r) ≡ more_rows r
  more_rows-as_literals no_tuples = refl
  more_rows-as_literals (tuple t r) =
      ap (λ x. sign 44 ∷ x) (ap (λ x. x ++ more_rows (rows_as_literals r)) (row_tokens-as_literals t) ∙ ap (λ x. row_tokens t ++ x) (more_rows-as_literals r))

  row_tokens-as_literals : (t : Tuple) → row_tokens (row_as_literals t) ≡ row_tokens t
  row_tokens-as_literals no_values = refl
  row_tokens-as_literals (value d r) =
      ap (λ x. sign 40 ∷ x) (ap (λ x. x ++ (more_values (row_as_literals r) ++ (sign 41 ∷ []))) (tokens_of-as_literal d)
      ∙ ap (λ x. tokens_of d ++ (x ++ (sign 41 ∷ []))) (more_values-as_literals r))

  more_values-as_literals : (r : Tuple) → more_values (row_as_literals r) ≡ more_values r
  more_values-as_literals no_values = refl
  more_values-as_literals (value d r) =
      ap (λ x. sign 44 ∷ x) (ap (λ x. x ++ more_values (row_as_literals r)) (tokens_of-as_literal d) ∙ ap (λ x. tokens_of d ++ x) (more_values-as_literals r))

-- the literal of a value of a domain becomes that value again
mutual
  becomes-as_literal : (d : Datum) (e : Domain) → IsOf d e → becomes (as_literal d) e ≡ d
  becomes-as_literal (integer z) Domain.integer p = refl
  becomes-as_literal (long z) Domain.long p = refl
  becomes-as_literal (text content) Domain.text p = refl
  becomes-as_literal (bytes content) Domain.bytes p = refl
  becomes-as_literal (relation r) (Domain.relation h) p = ap relation (rows_become-as_literals r h p.1)
  becomes-as_literal d e p = absurd p

  rows_become-as_literals : (r : Relation) (h : Heading) → AreTuplesOf r h → rows_become (rows_as_literals r) h ≡ r
  rows_become-as_literals no_tuples h p = refl
  rows_become-as_literals (tuple t r) h p =
      ap (λ x. tuple x (rows_become (rows_as_literals r) h)) (row_becomes-as_literals t h p.0) ∙ ap (tuple t) (rows_become-as_literals r h p.1)

  row_becomes-as_literals : (t : Tuple) (h : Heading) → IsTupleOf t h → row_becomes (row_as_literals t) h ≡ t
  row_becomes-as_literals no_values no_attributes p = refl
  row_becomes-as_literals (value d r) (attribute n e h) p =
      ap (λ x. value x (row_becomes (row_as_literals r) h)) (becomes-as_literal d e p.0) ∙ ap (value d) (row_becomes-as_literals r h p.1)
  row_becomes-as_literals t h p = absurd p

-- the literal of a value is one, with no more braces than its domain is deep
mutual
  literal_of_value : (d : Datum) (e : Domain) (deep : ℕ) → IsDomain e → IsOf d e → HoldsBytes d → domain_depth e ≤ deep → IsLiteral deep (as_literal d)
  literal_of_value (integer z) Domain.integer deep w p b l = record { sfits = (let f = p.sfits in omega (arith, f)) }
  literal_of_value (long z) Domain.long deep w p b l = p
  literal_of_value (text content) Domain.text deep w p b l = p.0
  literal_of_value (bytes content) Domain.bytes deep w p b l = b
  literal_of_value (relation r) (Domain.relation h) deep w p b l = (omega (arith, l), literal_rows_of_value r h (deep - 1) w.0.some w.1 p.1 b (omega (arith, l)))
  literal_of_value d e deep w p b l = absurd p

  literal_rows_of_value : (r : Relation) (h : Heading) (deep : ℕ) → 0 < length (attributes_of h) → AreAttributes h → AreTuplesOf r h → RowsHoldBytes r → heading_depth h ≤ deep → AreLiteralRows deep (rows_as_literals r)
  literal_rows_of_value no_tuples h deep some w p b l = tt
  literal_rows_of_value (tuple t r) h deep some w p b l = (literal_row_of_value t h deep some w p.0 b.0 l, literal_rows_of_value r h deep some w p.1 b.1 l)

  literal_row_of_value : (t : Tuple) (h : Heading) (deep : ℕ) → 0 < length (attributes_of h) → AreAttributes h → IsTupleOf t h → RowHoldsBytes t → heading_depth h ≤ deep → IsLiteralRow deep (row_as_literals t)
  literal_row_of_value no_values no_attributes deep some w p b l = omega (arith, some)
  literal_row_of_value (value d r) (attribute n e h) deep some w p b l =
      (literal_of_value d e deep w.1 p.0 b.0 (omega (arith, l)), literals_of_value r h deep w.2 p.1 b.1 (omega (arith, l)))
  literal_row_of_value t h deep some w p b l = absurd p

  literals_of_value : (t : Tuple) (h : Heading) (deep : ℕ) → AreAttributes h → IsTupleOf t h → RowHoldsBytes t → heading_depth h ≤ deep → AreLiterals deep (row_as_literals t)
  literals_of_value no_values h deep w p b l = tt
  literals_of_value (value d r) (attribute n e h) deep w p b l =
      (literal_of_value d e deep w.1 p.0 b.0 (omega (arith, l)), literals_of_value r h deep w.2 p.1 b.1 (omega (arith, l)))
  literals_of_value t h deep w p b l = absurd p

-- a whole domain is no deeper than braces may stand
shallow : (e : Domain) → IsDomain e → domain_depth e ≤ max_braces
shallow Domain.integer w = omega arith
shallow Domain.long w = omega arith
shallow Domain.text w = omega arith
shallow Domain.bytes w = omega arith
shallow (Domain.relation h) w =
    let same = ap heading_depth (heading_of-attributes_of h) in
    let few = w.0.shallow in
    omega (arith, same, few)

pub value_reads_back : (d : Datum) (e : Domain) → IsDomain e → IsOf d e → HoldsBytes d → Reads (value_text d) (as_literal d) × (becomes (as_literal d) e ≡ d)
value_reads_back d e w p b =
    let whole = literal_of_value d e max_braces w p b (shallow e w) in
    let parts = parts_literal (as_literal d) max_braces [] whole refl in
    let cut = parts_cut 0 (tokens_of d) (subst (λ ts. Parts ts []) (tokens_of-as_literal d) parts) in (
      (pieces_from 0 (tokens_of d), cut, record { whole = whole; is = tokens_in-pieces_from 0 (tokens_of d) ∙ sym (tokens_of-as_literal d) }),
      becomes-as_literal d e p,
    )

pub row_reads_back : (row : List Datum) (h : Heading) → IsDomain (Domain.relation h) → IsTupleOf (tuple_of row) h → RowHoldsBytes (tuple_of row)
    → ReadsRowText max_braces (row_text row) (row_as_literals (tuple_of row)) × (row_becomes (row_as_literals (tuple_of row)) h ≡ tuple_of row)
row_reads_back row h w p b =
    let t = tuple_of row in
    let deep = shallow (Domain.relation h) w in
    let whole = literal_row_of_value (tuple_of row) h max_braces w.0.some w.1 p b (omega (arith, deep)) in
    let parts = parts_row (row_as_literals (tuple_of row)) max_braces [] whole in
    let cut = parts_cut 0 (row_tokens (tuple_of row)) (subst (λ ts. Parts ts []) (row_tokens-as_literals (tuple_of row)) parts) in (
      record {
        pieces = pieces_from 0 (row_tokens (tuple_of row));
        cuts = cut;
        whole = whole;
        is = tokens_in-pieces_from 0 (row_tokens (tuple_of row)) ∙ sym (row_tokens-as_literals (tuple_of row));
      },
      row_becomes-as_literals (tuple_of row) h p,
    )
