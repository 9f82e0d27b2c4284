-- Literals, rows and their values: where reading each stops, and what was read.
use Rattle.std.proofs.Common.{◌≡◌, ◌⊎◌, ℕ, ◌+◌, ◌-◌, ◌<◌, ◌≤◌, ℤ, pos, List, [], ◌∷◌, ◌++◌, length, take, drop, refl, ap, sym, subst, ◌∙◌, append_assoc, append-nil, arith, inl, inr, ⊎_elim, FitsSigned, add-one, Option, Some, None}
use Rattle.std.proofs.lemmas.List.{take-append-drop}
use Rattle.std.proofs.lemmas.List.Elements.{All-head, All-tail}
use Rattle.std.specs.Int.{w64}
use Rattle.std.specs.List.{All, flat_map}
use Rattle.mk_value.specs.Data.{Datum, integer, long, text, bytes, relation, Tuple, no_values, value, Relation, no_tuples, tuple, tuple_of, relation_of}
use Rattle.mk_value.specs.Literals.{tokens_of, rows_tokens, more_rows, row_tokens, more_values}
use Rattle.mk_value.specs.Tokens as plain
use Rattle.mk_value.specs.Tokens.{Token, sign}
use Rattle.mk_value.specs.declared.literal.Literal.{Literal}
use Rattle.tokens.specs.Fronts.{Language, IsFront, Stops}
use Rattle.tokens.specs.Literals.{AreLiteralRows, AreLiterals, IsLiteral, IsLiteralRow}
use Rattle.tokens.specs.Parts.{FindsPlain, IsTextLiteral, LiteralIn, RowIn, RowsIn, SomeRowsIn, ValuesIn}
use Rattle.tokens.specs.Meanings.{byte_of, token_of}
use Rattle.tokens.specs.Standing.{Stands}
use Rattle.tokens.specs.declared.token.Token as program
use Rattle.tokens.specs.declared.token.Token.TheVariants.{Word, Number, Text, Bytes, Symbol}
use Rattle.tokens.proofs.Listing.{comma_stops, item_stops, nil_cons, same_head, separator_stops, with_comma}
use Rattle.tokens.proofs.Stopping.{After, PrefixFree, Then, stops_after, stops_same}
use Rattle.tokens.proofs.Unambiguous.{brace_first, row_begins, row_opens, same_literal, same_row, text_first}

-- no literal and no row is a proper front of another
pub literal_free : (deep : ℕ) → PrefixFree (LiteralIn deep)
literal_free deep a b x y p q h =
    let both = same_literal p.0 q.0 deep deep x y p.1 q.1 (ap (λ z. z ++ x) (sym p.2) ∙ h ∙ ap (λ z. z ++ y) q.2) in
    (p.2 ∙ ap tokens_of both.0 ∙ sym q.2, both.1)

pub row_free : (deep : ℕ) → PrefixFree (RowIn deep)
row_free deep a b x y p q h =
    let both = same_row p.0 q.0 deep deep x y p.1 q.1 (ap (λ z. z ++ x) (sym p.2) ∙ h ∙ ap (λ z. z ++ y) q.2) in
    (p.2 ∙ ap row_tokens both.0 ∙ sym q.2, both.1)

-- a literal has a token
pub literal_some : (d : Datum) → (t : Token) × (rest : List Token) × (tokens_of d ≡ t ∷ rest)
literal_some (integer z) = (plain.number z, [], refl)
literal_some (long z) = (plain.number z, [], refl)
literal_some (text content) = (plain.text content, [], refl)
literal_some (bytes content) = (plain.bytes content, [], refl)
literal_some (relation rows) = (sign 123, rows_tokens rows ++ (sign 125 ∷ []), refl)

zero_fits : FitsSigned w64 (pos 0)
zero_fits = record { sfits = omega arith }

-- the values of a row
abbrev MoreValuesIn : ℕ → Language
MoreValuesIn deep tokens = (u : Tuple) × AreLiterals deep u × (tokens ≡ more_values u ++ (sign 41 ∷ []))

module _ (deep : ℕ) where
  values_join : (a b : List Token) → LiteralIn deep a → MoreValuesIn deep b → ValuesIn deep (a ++ b)
  values_join a b p q = (value p.0 q.0, (p.1, q.1), ap (λ x. sign 40 ∷ (x ++ b)) p.2 ∙ ap (λ x. sign 40 ∷ (tokens_of p.0 ++ x)) q.2)

  values_begin : (x : List Token) → (v : ValuesIn deep x) → (e : Datum) × (r : Tuple) × IsLiteral deep e × AreLiterals deep r × (x ≡ tokens_of e ++ (more_values r ++ (sign 41 ∷ [])))
  values_begin x v =
      let f = row_begins v.0 deep x [] v.1 (v.2 ∙ sym (append-nil (row_tokens v.0))) in
      let whole = subst (IsLiteralRow deep) f.2 v.1 in
      (f.0, f.1, whole.0, whole.1, f.3)

  values_parts : (x : List Token) → ValuesIn deep x → Then (LiteralIn deep) (MoreValuesIn deep) x
  values_parts x v =
      let f = values_begin x v in
      (tokens_of f.0, more_values f.1 ++ (sign 41 ∷ []), (f.0, f.2, refl), (f.1, f.3, refl), f.4)

  values_end : MoreValuesIn deep (sign 41 ∷ [])
  values_end = (no_values, tt, refl)

  values_further : (x : List Token) → ValuesIn deep x → MoreValuesIn deep (sign 44 ∷ x)
  values_further x v =
      let f = values_begin x v in
      (value f.0 f.1, (f.2, f.3), ap (λ y. sign 44 ∷ y) (f.4 ∙ sym (append_assoc (tokens_of f.0) (more_values f.1) (sign 41 ∷ []))))

  values_cases : (x : List Token) → MoreValuesIn deep x → (x ≡ sign 41 ∷ []) ⊎ ((y : List Token) × (x ≡ sign 44 ∷ y) × ValuesIn deep y)
  values_cases x m = go m.0 m.1 m.2
    where
      go : (u : Tuple) → AreLiterals deep u → x ≡ more_values u ++ (sign 41 ∷ []) → (x ≡ sign 41 ∷ []) ⊎ ((y : List Token) × (x ≡ sign 44 ∷ y) × ValuesIn deep y)
      go no_values whole e = inl e
      go (value d r) whole e =
          inr ((tokens_of d ++ more_values r) ++ (sign 41 ∷ []), e, (value d r, whole, ap (λ y. sign 40 ∷ y) (append_assoc (tokens_of d) (more_values r) (sign 41 ∷ []))))

  pub value_stops : (tokens : List Token) (k : ℕ) → Stops (LiteralIn deep) tokens k → Stops (ValuesIn deep) tokens k
  value_stops = item_stops (LiteralIn deep) (MoreValuesIn deep) (ValuesIn deep) 41 (literal_free deep) values_join values_parts values_end values_further values_cases refl

  pub value_comma : (w x : List Token) (k : ℕ) → LiteralIn deep w → Stops (ValuesIn deep) x k → Stops (ValuesIn deep) (w ++ (sign 44 ∷ x)) (length w + 1 + k)
  value_comma = comma_stops (LiteralIn deep) (MoreValuesIn deep) (ValuesIn deep) 41 (literal_free deep) values_join values_parts values_end values_further values_cases refl

  pub value_separator : (w x : List Token) → LiteralIn deep w → ((rest : List Token) → x ≡ sign 41 ∷ rest → ⊥) → ((rest : List Token) → x ≡ sign 44 ∷ rest → ⊥) → Stops (ValuesIn deep) (w ++ x) (length w + 0)
  value_separator = separator_stops (LiteralIn deep) (MoreValuesIn deep) (ValuesIn deep) 41 (literal_free deep) values_join values_parts values_end values_further values_cases refl

-- the rows of a view
abbrev MoreRowsIn : ℕ → Language
MoreRowsIn deep tokens = (s : Relation) × AreLiteralRows deep s × (tokens ≡ more_rows s ++ (sign 125 ∷ []))

module _ (deep : ℕ) where
  rows_join : (a b : List Token) → RowIn deep a → MoreRowsIn deep b → SomeRowsIn deep (a ++ b)
  rows_join a b p q =
      (p.0, q.0, p.1, q.1, ap (λ x. sign 123 ∷ (x ++ b)) p.2 ∙ ap (λ x. sign 123 ∷ (row_tokens p.0 ++ x)) q.2 ∙ ap (λ x. sign 123 ∷ x) (sym (append_assoc (row_tokens p.0) (more_rows q.0) (sign 125 ∷ []))))

  rows_parts : (x : List Token) → SomeRowsIn deep x → Then (RowIn deep) (MoreRowsIn deep) x
  rows_parts x m =
      (row_tokens m.0, more_rows m.1 ++ (sign 125 ∷ []), (m.0, m.2, refl), (m.1, m.3, refl), ap (drop 1) m.4 ∙ append_assoc (row_tokens m.0) (more_rows m.1) (sign 125 ∷ []))

  rows_end : MoreRowsIn deep (sign 125 ∷ [])
  rows_end = (no_tuples, tt, refl)

  rows_further : (x : List Token) → SomeRowsIn deep x → MoreRowsIn deep (sign 44 ∷ x)
  rows_further x m = (tuple m.0 m.1, (m.2, m.3), ap (λ y. sign 44 ∷ y) (ap (drop 1) m.4))

  rows_cases : (x : List Token) → MoreRowsIn deep x → (x ≡ sign 125 ∷ []) ⊎ ((y : List Token) × (x ≡ sign 44 ∷ y) × SomeRowsIn deep y)
  rows_cases x m = go m.0 m.1 m.2
    where
      go : (s : Relation) → AreLiteralRows deep s → x ≡ more_rows s ++ (sign 125 ∷ []) → (x ≡ sign 125 ∷ []) ⊎ ((y : List Token) × (x ≡ sign 44 ∷ y) × SomeRowsIn deep y)
      go no_tuples whole e = inl e
      go (tuple t r) whole e = inr ((row_tokens t ++ more_rows r) ++ (sign 125 ∷ []), e, (t, r, whole.0, whole.1, refl))

  pub rows_item_stops : (tokens : List Token) (k : ℕ) → Stops (RowIn deep) tokens k → Stops (SomeRowsIn deep) tokens k
  rows_item_stops = item_stops (RowIn deep) (MoreRowsIn deep) (SomeRowsIn deep) 125 (row_free deep) rows_join rows_parts rows_end rows_further rows_cases refl

  pub rows_comma : (w x : List Token) (k : ℕ) → RowIn deep w → Stops (SomeRowsIn deep) x k → Stops (SomeRowsIn deep) (w ++ (sign 44 ∷ x)) (length w + 1 + k)
  rows_comma = comma_stops (RowIn deep) (MoreRowsIn deep) (SomeRowsIn deep) 125 (row_free deep) rows_join rows_parts rows_end rows_further rows_cases refl

  pub rows_separator : (w x : List Token) → RowIn deep w → ((rest : List Token) → x ≡ sign 125 ∷ rest → ⊥) → ((rest : List Token) → x ≡ sign 44 ∷ rest → ⊥) → Stops (SomeRowsIn deep) (w ++ x) (length w + 0)
  rows_separator = separator_stops (RowIn deep) (MoreRowsIn deep) (SomeRowsIn deep) 125 (row_free deep) rows_join rows_parts rows_end rows_further rows_cases refl

  -- a row that does not begin, and one that stops inside
  pub row_unopened : (x : List Token) → ((rest : List Token) → x ≡ sign 40 ∷ rest → ⊥) → Stops (RowIn deep) x 0
  row_unopened x none = record {
    within = omega arith;
    goes_on = (sign 40 ∷ plain.number (pos 0) ∷ sign 41 ∷ [], (value (long (pos 0)) no_values, (zero_fits, tt), refl));
    unfinished = λ whole. let opens = row_opens whole.0 in nil_cons (sign 40) opens.0 (whole.2 ∙ opens.1);
    wrong = wrong x none;
  }
    where
      wrong : (x : List Token) → ((rest : List Token) → x ≡ sign 40 ∷ rest → ⊥) → (0 ≡ length x) ⊎ (IsFront (RowIn deep) (take 1 x) → ⊥)
      wrong [] none = inl refl
      wrong (t ∷ rest) none = inr (λ goes.
          let opens = row_opens goes.1.0 in
          none rest (ap (λ u. u ∷ rest) (same_head t (sign 40) goes.0 opens.0 (goes.1.2 ∙ opens.1))))

  pub row_inside : (x : List Token) (k : ℕ) → Stops (ValuesIn deep) x k → Stops (RowIn deep) (sign 40 ∷ x) (1 + k)
  row_inside x k s = stops_after (RowIn deep) (sign 40 ∷ []) x k (stops_same (ValuesIn deep) (After (RowIn deep) (sign 40 ∷ [])) x k (λ y v. v) (λ y v. v) s)

  -- rows that do not end at once
  rows_split : (x : List Token) → RowsIn deep x → (x ≡ sign 125 ∷ []) ⊎ SomeRowsIn deep x
  rows_split x m = go m.0 m.1 m.2
    where
      go : (s : Relation) → AreLiteralRows deep s → sign 123 ∷ x ≡ tokens_of (relation s) → (x ≡ sign 125 ∷ []) ⊎ SomeRowsIn deep x
      go no_tuples whole e = inl (ap (drop 1) e)
      go (tuple t r) whole e = inr (t, r, whole.0, whole.1, e)

  pub rows_inside : (x : List Token) (k : ℕ) → ((rest : List Token) → x ≡ sign 125 ∷ rest → ⊥) → Stops (SomeRowsIn deep) x k → Stops (RowsIn deep) x k
  rows_inside x k none s = record {
    within = s.within;
    goes_on = (let m = s.goes_on.1 in (s.goes_on.0, (tuple m.0 m.1, (m.2, m.3), m.4)));
    unfinished = λ whole. ⊎_elim
        (λ e. none (drop k x) (sym (take-append-drop k x) ∙ ap (λ y. y ++ drop k x) e))
        (λ m. s.unfinished m)
        (rows_split (take k x) whole);
    wrong = wrong x none s.within s.wrong;
  }
    where
      wrong : (x : List Token) → ((rest : List Token) → x ≡ sign 125 ∷ rest → ⊥) → k ≤ length x → (k ≡ length x) ⊎ (IsFront (SomeRowsIn deep) (take (k + 1) x) → ⊥)
          → (k ≡ length x) ⊎ (IsFront (RowsIn deep) (take (k + 1) x) → ⊥)
      wrong [] none within h = inl (omega (arith, within))
      wrong (t ∷ rest) none within h = ⊎_elim
          (λ e. inl e)
          (λ no_front. inr (λ goes. ⊎_elim
          (λ e. none rest (ap (λ u. u ∷ rest) (same_head t (sign 125) (take k rest ++ goes.0) []
          (sym (ap (λ n. take n (t ∷ rest) ++ goes.0) (add-one k)) ∙ e))))
          (λ m. no_front (goes.0, m))
          (rows_split (take (k + 1) (t ∷ rest) ++ goes.0) goes.1)))
          h

  -- a literal that does not begin
  pub literal_none : (x : List Token) → ((rest : List Token) → x ≡ sign 123 ∷ rest → ⊥) → ((d : Datum) → (rest : List Token) → IsLiteral 0 d → x ≡ tokens_of d ++ rest → ⊥) → Stops (LiteralIn deep) x 0
  literal_none x no_brace no_plain = record {
    within = omega arith;
    goes_on = (plain.number (pos 0) ∷ [], (long (pos 0), zero_fits, refl));
    unfinished = λ whole. let some = literal_some whole.0 in nil_cons some.0 some.1 (whole.2 ∙ some.2);
    wrong = wrong x no_brace no_plain;
  }
    where
      first : (t : Token) (rest more : List Token) (d : Datum) → ((r : List Token) → t ∷ rest ≡ sign 123 ∷ r → ⊥) → ((d : Datum) → (r : List Token) → IsLiteral 0 d → t ∷ rest ≡ tokens_of d ++ r → ⊥)
          → IsLiteral deep d → t ∷ more ≡ tokens_of d → ⊥
      first t rest more (integer z) no_brace no_plain p e = p
      first t rest more (long z) no_brace no_plain p e = no_plain (long z) rest p (ap (λ u. u ∷ rest) (same_head t (plain.number z) more [] e))
      first t rest more (text content) no_brace no_plain p e = no_plain (text content) rest p (ap (λ u. u ∷ rest) (same_head t (plain.text content) more [] e))
      first t rest more (bytes content) no_brace no_plain p e = no_plain (bytes content) rest p (ap (λ u. u ∷ rest) (same_head t (plain.bytes content) more [] e))
      first t rest more (relation s) no_brace no_plain p e = no_brace rest (ap (λ u. u ∷ rest) (same_head t (sign 123) more (rows_tokens s ++ (sign 125 ∷ [])) e))

      wrong : (x : List Token) → ((rest : List Token) → x ≡ sign 123 ∷ rest → ⊥) → ((d : Datum) → (rest : List Token) → IsLiteral 0 d → x ≡ tokens_of d ++ rest → ⊥)
          → (0 ≡ length x) ⊎ (IsFront (LiteralIn deep) (take 1 x) → ⊥)
      wrong [] no_brace no_plain = inl refl
      wrong (t ∷ rest) no_brace no_plain = inr (λ goes. first t rest goes.0 goes.1.0 no_brace no_plain goes.1.1 goes.1.2)

  pub literal_inside : (x : List Token) (k : ℕ) → 0 < deep → Stops (RowsIn (deep - 1)) x k → Stops (LiteralIn deep) (sign 123 ∷ x) (1 + k)
  literal_inside x k some s =
      stops_after (LiteralIn deep) (sign 123 ∷ []) x k (stops_same (RowsIn (deep - 1)) (After (LiteralIn deep) (sign 123 ∷ [])) x k
      (λ y m. (relation m.0, (some, m.1), m.2))
      (λ y m.
      let f = brace_first m.0 deep y [] m.1 (m.2 ∙ sym (append-nil (tokens_of m.0))) in
      (f.0, (subst (IsLiteral deep) f.1 m.1).1, ap (λ z. sign 123 ∷ z) (f.2 ∙ append-nil (rows_tokens f.0 ++ (sign 125 ∷ [])))))
      s)

pub literal_too_deep : (x : List Token) → Stops (LiteralIn 0) (sign 123 ∷ x) 0
literal_too_deep x = record {
  within = omega arith;
  goes_on = (plain.number (pos 0) ∷ [], (long (pos 0), zero_fits, refl));
  unfinished = λ whole. let some = literal_some whole.0 in nil_cons some.0 some.1 (whole.2 ∙ some.2);
  wrong = inr (λ goes.
      let f = brace_first goes.1.0 0 goes.0 [] goes.1.1 (goes.1.2 ∙ sym (append-nil (tokens_of goes.1.0))) in
      let p = (subst (IsLiteral 0) f.1 goes.1.1).0 in
      omega (arith, p));
}

-- what was read, in the words of the value
literals_whole : (deep : ℕ) (row : List Datum) → All (IsLiteral deep) row → AreLiterals deep (tuple_of row)
literals_whole deep [] h = tt
literals_whole deep (d ∷ row) h = (All-head (IsLiteral deep) d row h, literals_whole deep row (All-tail (IsLiteral deep) d row h))

pub row_whole : (deep : ℕ) (row : List Datum) (d : Datum) → All (IsLiteral deep) (row ++ d ∷ []) → IsLiteralRow deep (tuple_of (row ++ d ∷ []))
row_whole deep [] d h = (All-head (IsLiteral deep) d [] h, tt)
row_whole deep (e ∷ row) d h = (All-head (IsLiteral deep) e (row ++ d ∷ []) h, literals_whole deep (row ++ d ∷ []) (All-tail (IsLiteral deep) e (row ++ d ∷ []) h))

abbrev IsGoodRow : ℕ → List Datum → Type 0
IsGoodRow deep row = IsLiteralRow deep (tuple_of row)

pub rows_whole : (deep : ℕ) (rows : List (List Datum)) → All (λ row. IsLiteralRow deep (tuple_of row)) rows → AreLiteralRows deep (relation_of rows)
rows_whole deep [] h = tt
rows_whole deep (row ∷ rows) h = (All-head (IsGoodRow deep) row rows h, rows_whole deep rows (All-tail (IsGoodRow deep) row rows h))

abbrev row_spelling : List Datum → List Token
row_spelling row = row_tokens (tuple_of row)

values_behind : (d : Datum) (row : List Datum) (e : Datum) (x : List Token)
    → flat_map (with_comma tokens_of) (d ∷ row) ++ (tokens_of e ++ x) ≡ tokens_of d ++ (more_values (tuple_of (row ++ e ∷ [])) ++ x)
values_behind d [] e x =
    ap (λ y. y ++ (tokens_of e ++ x)) (append-nil (tokens_of d ++ sign 44 ∷ [])) ∙ append_assoc (tokens_of d) (sign 44 ∷ []) (tokens_of e ++ x)
    ∙ ap (λ y. tokens_of d ++ (sign 44 ∷ (y ++ x))) (sym (append-nil (tokens_of e)))
values_behind d (f ∷ row) e x =
    append_assoc (tokens_of d ++ sign 44 ∷ []) (flat_map (with_comma tokens_of) (f ∷ row)) (tokens_of e ++ x)
    ∙ append_assoc (tokens_of d) (sign 44 ∷ []) (flat_map (with_comma tokens_of) (f ∷ row) ++ (tokens_of e ++ x))
    ∙ ap (λ y. tokens_of d ++ (sign 44 ∷ y)) (values_behind f row e x ∙ sym (append_assoc (tokens_of f) (more_values (tuple_of (row ++ e ∷ []))) x))

pub values_spelled : (row : List Datum) (d : Datum) (z : List Token) → sign 40 ∷ (flat_map (with_comma tokens_of) row ++ (tokens_of d ++ (sign 41 ∷ z))) ≡ row_tokens (tuple_of (row ++ d ∷ [])) ++ z
values_spelled [] d z = ap (λ y. sign 40 ∷ y) (sym (append_assoc (tokens_of d) (sign 41 ∷ []) z))
values_spelled (e ∷ row) d z =
    ap (λ y. sign 40 ∷ y) (values_behind e row d (sign 41 ∷ z)
    ∙ ap (λ y. tokens_of e ++ y) (sym (append_assoc (more_values (tuple_of (row ++ d ∷ []))) (sign 41 ∷ []) z))
    ∙ sym (append_assoc (tokens_of e) (more_values (tuple_of (row ++ d ∷ [])) ++ (sign 41 ∷ [])) z))

rows_behind : (t : List Datum) (rows : List (List Datum)) (u : List Datum) (x : List Token)
    → flat_map (with_comma row_spelling) (t ∷ rows) ++ (row_spelling u ++ x) ≡ row_spelling t ++ (more_rows (relation_of (rows ++ u ∷ [])) ++ x)
rows_behind t [] u x =
    ap (λ y. y ++ (row_spelling u ++ x)) (append-nil (row_spelling t ++ sign 44 ∷ [])) ∙ append_assoc (row_spelling t) (sign 44 ∷ []) (row_spelling u ++ x)
    ∙ ap (λ y. row_spelling t ++ (sign 44 ∷ (y ++ x))) (sym (append-nil (row_spelling u)))
rows_behind t (f ∷ rows) u x =
    append_assoc (row_spelling t ++ sign 44 ∷ []) (flat_map (with_comma row_spelling) (f ∷ rows)) (row_spelling u ++ x)
    ∙ append_assoc (row_spelling t) (sign 44 ∷ []) (flat_map (with_comma row_spelling) (f ∷ rows) ++ (row_spelling u ++ x))
    ∙ ap (λ y. row_spelling t ++ (sign 44 ∷ y)) (rows_behind f rows u x ∙ sym (append_assoc (row_spelling f) (more_rows (relation_of (rows ++ u ∷ []))) x))

pub rows_spelled : (rows : List (List Datum)) (row : List Datum) (z : List Token)
    → sign 123 ∷ (flat_map (with_comma row_spelling) rows ++ (row_spelling row ++ (sign 125 ∷ z))) ≡ tokens_of (relation (relation_of (rows ++ row ∷ []))) ++ z
rows_spelled [] row z =
    ap (λ y. sign 123 ∷ y) (ap (λ y. y ++ (sign 125 ∷ z)) (sym (append-nil (row_spelling row))) ∙ sym (append_assoc (row_spelling row ++ []) (sign 125 ∷ []) z))
rows_spelled (t ∷ rows) row z =
    ap (λ y. sign 123 ∷ y) (rows_behind t rows row (sign 125 ∷ z)
    ∙ sym (append_assoc (row_spelling t) (more_rows (relation_of (rows ++ row ∷ []))) (sign 125 ∷ z))
    ∙ sym (append_assoc (row_spelling t ++ more_rows (relation_of (rows ++ row ∷ []))) (sign 125 ∷ []) z))

-- a token that is no number, text or byte string is no literal alone
pub no_plain : (token : program.Token) → ((z : ℤ) → token ≡ Number z → ⊥) → ((content : _) → token ≡ Text content → ⊥) → ((content : _) → token ≡ Bytes content → ⊥)
    → (d : Datum) (rest tail : List Token) → IsLiteral 0 d → token_of token ∷ tail ≡ tokens_of d ++ rest → ⊥
no_plain (Number z) n t b d rest tail p e = n z refl
no_plain (Text content) n t b d rest tail p e = t content refl
no_plain (Bytes content) n t b d rest tail p e = b content refl
no_plain (Word name) n t b (integer z) rest tail p e = p
no_plain (Word name) n t b (long z) rest tail p e = let f : plain.word name.now ≡ plain.number z = cc in cc
no_plain (Word name) n t b (text content) rest tail p e = let f : plain.word name.now ≡ plain.text content = cc in cc
no_plain (Word name) n t b (bytes content) rest tail p e = let f : plain.word name.now ≡ plain.bytes content = cc in cc
no_plain (Word name) n t b (relation r) rest tail p e = omega (arith, p.0)
no_plain (Symbol s) n t b (integer z) rest tail p e = p
no_plain (Symbol s) n t b (long z) rest tail p e = let f : sign (byte_of s) ≡ plain.number z = same_head (sign (byte_of s)) (plain.number z) tail rest e in cc
no_plain (Symbol s) n t b (text content) rest tail p e = let f : sign (byte_of s) ≡ plain.text content = same_head (sign (byte_of s)) (plain.text content) tail rest e in cc
no_plain (Symbol s) n t b (bytes content) rest tail p e = let f : sign (byte_of s) ≡ plain.bytes content = same_head (sign (byte_of s)) (plain.bytes content) tail rest e in cc
no_plain (Symbol s) n t b (relation r) rest tail p e = omega (arith, p.0)

-- a text at a place is a literal where its content is a text
pub text_plain : (tokens : List Token) (at : ℕ) (content : List ℕ) → at < length tokens → Stands tokens at (plain.text content) → (found : Option Literal) → IsTextLiteral content found → FindsPlain tokens at found
text_plain tokens at content within stands None none = λ d rest p e.
    let is = text_first d 0 content (drop (at + 1) tokens) rest p (sym stands ∙ e) in
    none (subst (IsLiteral 0) is.0 p)
text_plain tokens at content within stands (Some literal) some = record {
  within = omega arith;
  whole = subst (IsLiteral 0) (sym some.1) some.0;
  is = stands ∙ ap (λ d. tokens_of d ++ drop (at + 1) tokens) (sym some.1);
}
