-- No literal is a proper front of another, and none spells two values; and the same of rows.
use Rattle.std.proofs.Common.{◌≡◌, ℕ, ◌-◌, ◌==◌, ℤ, false, List, [], ◌∷◌, ◌++◌, drop, refl, ap, sym, subst, ◌∙◌, append_assoc}
use Rattle.std.proofs.lemmas.Bool.{true≢false, eq-eqb}
use Rattle.mk_value.specs.Data.{Datum, integer, long, text, bytes, relation, Tuple, no_values, value, Relation, no_tuples, tuple}
use Rattle.mk_value.specs.Literals.{tokens_of, rows_tokens, more_rows, row_tokens, more_values}
use Rattle.mk_value.specs.Tokens as plain
use Rattle.mk_value.specs.Tokens.{Token, sign}
use Rattle.tokens.specs.Literals.{AreLiteralRows, AreLiterals, IsLiteral, IsLiteralRow}

abbrev first_sign : List Token → ℕ
first_sign [] = 0
first_sign (plain.word name ∷ rest) = 0
first_sign (plain.number z ∷ rest) = 0
first_sign (plain.text content ∷ rest) = 0
first_sign (plain.bytes content ∷ rest) = 0
first_sign (plain.sign s ∷ rest) = s

-- two signs that differ do not stand at one place
pub no_match : (a b : ℕ) (x y : List Token) → (a == b) ≡ false → sign a ∷ x ≡ sign b ∷ y → ⊥
no_match a b x y p e = true≢false (sym (eq-eqb a b (ap first_sign e)) ∙ p)

-- what a literal is, by its first token
pub number_first : (e : Datum) (n : ℕ) (z : ℤ) (rest y : List Token) → IsLiteral n e → plain.number z ∷ rest ≡ tokens_of e ++ y → (e ≡ long z) × (rest ≡ y)
number_first (integer w) n z rest y p h = absurd p
number_first (long w) n z rest y p h = let f : plain.number z ≡ plain.number w = cc in let g : w ≡ z = cc in (ap long g, cc)
number_first (text b) n z rest y p h = absurd (let f : plain.number z ≡ plain.text b = cc in cc)
number_first (bytes b) n z rest y p h = absurd (let f : plain.number z ≡ plain.bytes b = cc in cc)
number_first (relation s) n z rest y p h = absurd (let f : plain.number z ≡ sign 123 = cc in cc)

pub text_first : (e : Datum) (n : ℕ) (a : List ℕ) (rest y : List Token) → IsLiteral n e → plain.text a ∷ rest ≡ tokens_of e ++ y → (e ≡ text a) × (rest ≡ y)
text_first (integer w) n a rest y p h = absurd p
text_first (long w) n a rest y p h = absurd (let f : plain.text a ≡ plain.number w = cc in cc)
text_first (text b) n a rest y p h = let f : plain.text a ≡ plain.text b = cc in let g : b ≡ a = cc in (ap text g, cc)
text_first (bytes b) n a rest y p h = absurd (let f : plain.text a ≡ plain.bytes b = cc in cc)
text_first (relation s) n a rest y p h = absurd (let f : plain.text a ≡ sign 123 = cc in cc)

pub bytes_first : (e : Datum) (n : ℕ) (a : List ℕ) (rest y : List Token) → IsLiteral n e → plain.bytes a ∷ rest ≡ tokens_of e ++ y → (e ≡ bytes a) × (rest ≡ y)
bytes_first (integer w) n a rest y p h = absurd p
bytes_first (long w) n a rest y p h = absurd (let f : plain.bytes a ≡ plain.number w = cc in cc)
bytes_first (text b) n a rest y p h = absurd (let f : plain.bytes a ≡ plain.text b = cc in cc)
bytes_first (bytes b) n a rest y p h = let f : plain.bytes a ≡ plain.bytes b = cc in let g : b ≡ a = cc in (ap bytes g, cc)
bytes_first (relation s) n a rest y p h = absurd (let f : plain.bytes a ≡ sign 123 = cc in cc)

pub brace_first : (e : Datum) (n : ℕ) (rest y : List Token) → IsLiteral n e → sign 123 ∷ rest ≡ tokens_of e ++ y
    → (s : Relation) × (e ≡ relation s) × (rest ≡ (rows_tokens s ++ (sign 125 ∷ [])) ++ y)
brace_first (integer w) n rest y p h = absurd p
brace_first (long w) n rest y p h = absurd (let f : sign 123 ≡ plain.number w = cc in cc)
brace_first (text b) n rest y p h = absurd (let f : sign 123 ≡ plain.text b = cc in cc)
brace_first (bytes b) n rest y p h = absurd (let f : sign 123 ≡ plain.bytes b = cc in cc)
brace_first (relation s) n rest y p h = (s, refl, ap (drop 1) h)

-- a row begins with a parenthesis
pub row_opens : (t : Tuple) → (rest : List Token) × (row_tokens t ≡ sign 40 ∷ rest)
row_opens no_values = (sign 41 ∷ [], refl)
row_opens (value d t) = (tokens_of d ++ (more_values t ++ (sign 41 ∷ [])), refl)

-- what rows are, by their first token
pub rows_end : (s : Relation) (x y : List Token) → sign 125 ∷ x ≡ rows_tokens s ++ (sign 125 ∷ y) → (s ≡ no_tuples) × (x ≡ y)
rows_end no_tuples x y h = (refl, ap (drop 1) h)
rows_end (tuple u s) x y h =
    let opens = row_opens u in
    absurd (no_match 125 40 x ((opens.0 ++ more_rows s) ++ (sign 125 ∷ y)) refl (h ∙ ap (λ r. (r ++ more_rows s) ++ (sign 125 ∷ y)) opens.1))

pub rows_begin : (s : Relation) (x y : List Token) → sign 40 ∷ x ≡ rows_tokens s ++ (sign 125 ∷ y)
    → (u : Tuple) × (r : Relation) × (s ≡ tuple u r) × (sign 40 ∷ x ≡ row_tokens u ++ (more_rows r ++ (sign 125 ∷ y)))
rows_begin no_tuples x y h = absurd (no_match 40 125 x y refl h)
rows_begin (tuple u s) x y h = (u, s, refl, h ∙ append_assoc (row_tokens u) (more_rows s) (sign 125 ∷ y))

pub more_rows_end : (s : Relation) (x y : List Token) → sign 125 ∷ x ≡ more_rows s ++ (sign 125 ∷ y) → (s ≡ no_tuples) × (x ≡ y)
more_rows_end no_tuples x y h = (refl, ap (drop 1) h)
more_rows_end (tuple u s) x y h = absurd (no_match 125 44 x ((row_tokens u ++ more_rows s) ++ (sign 125 ∷ y)) refl h)

pub more_rows_comma : (s : Relation) (x y : List Token) → sign 44 ∷ x ≡ more_rows s ++ (sign 125 ∷ y)
    → (u : Tuple) × (r : Relation) × (s ≡ tuple u r) × (x ≡ row_tokens u ++ (more_rows r ++ (sign 125 ∷ y)))
more_rows_comma no_tuples x y h = absurd (no_match 44 125 x y refl h)
more_rows_comma (tuple u s) x y h =
    (u, s, refl, ap (drop 1) h ∙ append_assoc (row_tokens u) (more_rows s) (sign 125 ∷ y))

-- what a row is, and what its further values are, by their first token
pub row_begins : (u : Tuple) (n : ℕ) (x y : List Token) → IsLiteralRow n u → sign 40 ∷ x ≡ row_tokens u ++ y
    → (e : Datum) × (r : Tuple) × (u ≡ value e r) × (x ≡ tokens_of e ++ (more_values r ++ (sign 41 ∷ y)))
row_begins no_values n x y p h = absurd p
row_begins (value e r) n x y p h =
    (e, r, refl, ap (drop 1) h ∙ append_assoc (tokens_of e) (more_values r ++ (sign 41 ∷ [])) y ∙ ap (λ z. tokens_of e ++ z) (append_assoc (more_values r) (sign 41 ∷ []) y))

pub more_values_end : (u : Tuple) (x y : List Token) → sign 41 ∷ x ≡ more_values u ++ (sign 41 ∷ y) → (u ≡ no_values) × (x ≡ y)
more_values_end no_values x y h = (refl, ap (drop 1) h)
more_values_end (value e u) x y h = absurd (no_match 41 44 x ((tokens_of e ++ more_values u) ++ (sign 41 ∷ y)) refl h)

pub more_values_comma : (u : Tuple) (x y : List Token) → sign 44 ∷ x ≡ more_values u ++ (sign 41 ∷ y)
    → (e : Datum) × (r : Tuple) × (u ≡ value e r) × (x ≡ tokens_of e ++ (more_values r ++ (sign 41 ∷ y)))
more_values_comma no_values x y h = absurd (no_match 44 41 x y refl h)
more_values_comma (value e u) x y h =
    (e, u, refl, ap (drop 1) h ∙ append_assoc (tokens_of e) (more_values u) (sign 41 ∷ y))

mutual
  pub same_literal : (d e : Datum) (m n : ℕ) (x y : List Token) → IsLiteral m d → IsLiteral n e → tokens_of d ++ x ≡ tokens_of e ++ y → (d ≡ e) × (x ≡ y)
  same_literal (integer z) e m n x y p q h = absurd p
  same_literal (long z) e m n x y p q h = let f = number_first e n z x y q h in (sym f.0, f.1)
  same_literal (text a) e m n x y p q h = let f = text_first e n a x y q h in (sym f.0, f.1)
  same_literal (bytes a) e m n x y p q h = let f = bytes_first e n a x y q h in (sym f.0, f.1)
  same_literal (relation r) e m n x y p q h =
      let f = brace_first e n ((rows_tokens r ++ (sign 125 ∷ [])) ++ x) y q h in
      let both = same_rows r f.0 (m - 1) (n - 1) x y p.1 ((subst (IsLiteral n) f.1 q).1)
      (sym (append_assoc (rows_tokens r) (sign 125 ∷ []) x) ∙ f.2 ∙ append_assoc (rows_tokens f.0) (sign 125 ∷ []) y) in
      (ap relation both.0 ∙ sym f.1, both.1)

  pub same_rows : (r s : Relation) (m n : ℕ) (x y : List Token) → AreLiteralRows m r → AreLiteralRows n s → rows_tokens r ++ (sign 125 ∷ x) ≡ rows_tokens s ++ (sign 125 ∷ y) → (r ≡ s) × (x ≡ y)
  same_rows no_tuples s m n x y p q h = let f = rows_end s x y h in (sym f.0, f.1)
  same_rows (tuple t r) s m n x y p q h =
      let opens = row_opens t in
      let mine = append_assoc (row_tokens t) (more_rows r) (sign 125 ∷ x) in
      let opened = ap (λ w. w ++ (more_rows r ++ (sign 125 ∷ x))) opens.1 in
      let f = rows_begin s (opens.0 ++ (more_rows r ++ (sign 125 ∷ x))) y (sym opened ∙ sym mine ∙ h) in
      let whole = subst (AreLiteralRows n) f.2 q in
      let one = same_row t f.0 m n (more_rows r ++ (sign 125 ∷ x)) (more_rows f.1 ++ (sign 125 ∷ y)) p.0 whole.0 (opened ∙ f.3) in
      let others = same_more_rows r f.1 m n x y p.1 whole.1 one.1 in
      (ap (λ w. tuple w r) one.0 ∙ ap (tuple f.0) others.0 ∙ sym f.2, others.1)

  pub same_more_rows : (r s : Relation) (m n : ℕ) (x y : List Token) → AreLiteralRows m r → AreLiteralRows n s → more_rows r ++ (sign 125 ∷ x) ≡ more_rows s ++ (sign 125 ∷ y) → (r ≡ s) × (x ≡ y)
  same_more_rows no_tuples s m n x y p q h = let f = more_rows_end s x y h in (sym f.0, f.1)
  same_more_rows (tuple t r) s m n x y p q h =
      let mine = append_assoc (row_tokens t) (more_rows r) (sign 125 ∷ x) in
      let f = more_rows_comma s ((row_tokens t ++ more_rows r) ++ (sign 125 ∷ x)) y h in
      let whole = subst (AreLiteralRows n) f.2 q in
      let one = same_row t f.0 m n (more_rows r ++ (sign 125 ∷ x)) (more_rows f.1 ++ (sign 125 ∷ y)) p.0 whole.0 (sym mine ∙ f.3) in
      let others = same_more_rows r f.1 m n x y p.1 whole.1 one.1 in
      (ap (λ w. tuple w r) one.0 ∙ ap (tuple f.0) others.0 ∙ sym f.2, others.1)

  pub same_row : (t u : Tuple) (m n : ℕ) (x y : List Token) → IsLiteralRow m t → IsLiteralRow n u → row_tokens t ++ x ≡ row_tokens u ++ y → (t ≡ u) × (x ≡ y)
  same_row no_values u m n x y p q h = absurd p
  same_row (value d t) u m n x y p q h =
      let f = row_begins u n ((tokens_of d ++ (more_values t ++ (sign 41 ∷ []))) ++ x) y q h in
      let whole = subst (IsLiteralRow n) f.2 q in
      let mine = append_assoc (tokens_of d) (more_values t ++ (sign 41 ∷ [])) x ∙ ap (λ z. tokens_of d ++ z) (append_assoc (more_values t) (sign 41 ∷ []) x) in
      let one = same_literal d f.0 m n (more_values t ++ (sign 41 ∷ x)) (more_values f.1 ++ (sign 41 ∷ y)) p.0 whole.0 (sym mine ∙ f.3) in
      let others = same_values t f.1 m n x y p.1 whole.1 one.1 in
      (ap (λ w. value w t) one.0 ∙ ap (value f.0) others.0 ∙ sym f.2, others.1)

  pub same_values : (t u : Tuple) (m n : ℕ) (x y : List Token) → AreLiterals m t → AreLiterals n u → more_values t ++ (sign 41 ∷ x) ≡ more_values u ++ (sign 41 ∷ y) → (t ≡ u) × (x ≡ y)
  same_values no_values u m n x y p q h = let f = more_values_end u x y h in (sym f.0, f.1)
  same_values (value d t) u m n x y p q h =
      let mine = append_assoc (tokens_of d) (more_values t) (sign 41 ∷ x) in
      let f = more_values_comma u ((tokens_of d ++ more_values t) ++ (sign 41 ∷ x)) y h in
      let whole = subst (AreLiterals n) f.2 q in
      let one = same_literal d f.0 m n (more_values t ++ (sign 41 ∷ x)) (more_values f.1 ++ (sign 41 ∷ y)) p.0 whole.0 (sym mine ∙ f.3) in
      let others = same_values t f.1 m n x y p.1 whole.1 one.1 in
      (ap (λ w. value w t) one.0 ∙ ap (value f.0) others.0 ∙ sym f.2, others.1)
