-- What is read at a place of the tokens, level by level.
use Rattle.std.proofs.Common.{◌≡◌, ◌⊎◌, ℕ, ◌+◌, ◌-◌, ◌<◌, List, [], ◌∷◌, ◌++◌, drop, refl, ap, sym, subst, ◌∙◌, arith, inl, inr}
use Rattle.mk_value.specs.Data.{Datum, tuple_of}
use Rattle.mk_value.specs.Literals.{tokens_of, row_tokens}
use Rattle.mk_value.specs.Tokens.{Token, sign}
use Rattle.tokens.specs.Fronts.{Stops}
use Rattle.tokens.specs.Literals.{IsLiteral, IsLiteralRow, LiteralTokens, max_braces}
use Rattle.tokens.specs.Parts.{LiteralIn, ReadsLiteral, ReadsRow, ReadsRows, ReadsValues, RowIn, RowsIn, SomeRowsIn, StopsAt, ValuesIn}
use Rattle.tokens.specs.Standing.{Stands}
use Rattle.tokens.specs.declared.error.PartError.{PartError}
use Rattle.tokens.specs.declared.error.PartError.TheVariants.{Memory, Stuck}
use Rattle.tokens.proofs.Braces.{literal_free, literal_inside, literal_too_deep, row_inside, row_unopened, row_whole, rows_comma, rows_inside, rows_item_stops, rows_separator, rows_spelled, rows_whole, value_comma, value_separator, value_stops, values_spelled}
use Rattle.tokens.proofs.Listing.{ReadsItem, SoFar, item_end, so_far_close, so_far_item, so_far_next, so_far_separator}
use Rattle.tokens.proofs.Routes.{stands_next}
use Rattle.tokens.proofs.Stopping.{PrefixFree, stops_same}

abbrev row_spelling : List Datum → List Token
row_spelling row = row_tokens (tuple_of row)

abbrev GoodRow : ℕ → List Datum → Type 0
GoodRow deep row = IsLiteralRow deep (tuple_of row)

abbrev ValuesSoFar : ℕ → List Token → ℕ → List Datum → ℕ → Type 0
ValuesSoFar deep tokens start row at = SoFar tokens_of (IsLiteral deep) (ValuesIn deep) tokens start row at

abbrev RowsSoFar : ℕ → List Token → ℕ → List (List Datum) → ℕ → Type 0
RowsSoFar deep tokens start rows at = SoFar row_spelling (GoodRow deep) (SomeRowsIn deep) tokens start rows at

module _ (tokens : List Token) (at deep : ℕ) where
  -- a literal in braces
  pub brace_too_deep : Stands tokens at (sign 123) → deep ≡ 0 → (k : ℕ) × (at ≡ at + k) × Stops (LiteralIn deep) (drop at tokens) k
  brace_too_deep s none =
      (0, omega arith, subst (λ n. Stops (LiteralIn n) (drop at tokens) 0) (sym none) (subst (λ x. Stops (LiteralIn 0) x 0) (sym s) (literal_too_deep (drop (at + 1) tokens))))

  pub brace_inside : Stands tokens at (sign 123) → (deep ≡ 0 → ⊥) → (error : PartError) → StopsAt (RowsIn (deep - 1)) tokens (at + 1) error → StopsAt (LiteralIn deep) tokens at error
  brace_inside s some (Stuck place) stop =
      (1 + stop.0, (let e = stop.1 in omega (arith, e)), subst (λ x. Stops (LiteralIn deep) x (1 + stop.0)) (sym s) (literal_inside deep (drop (at + 1) tokens) stop.0 (omega (arith, some)) stop.2))
  brace_inside s some Memory stop = tt

  -- a row in parentheses
  pub row_unopened_at : (Stands tokens at (sign 40) → ⊥) → (k : ℕ) × (at ≡ at + k) × Stops (RowIn deep) (drop at tokens) k
  row_unopened_at none = (0, omega arith, row_unopened deep (drop at tokens) (λ rest e. none (stands_next tokens at (sign 40) rest e)))

  pub row_inside_at : Stands tokens at (sign 40) → (error : PartError) → StopsAt (ValuesIn deep) tokens (at + 1) error → StopsAt (RowIn deep) tokens at error
  row_inside_at s (Stuck place) stop =
      (1 + stop.0, (let e = stop.1 in omega (arith, e)), subst (λ x. Stops (RowIn deep) x (1 + stop.0)) (sym s) (row_inside deep (drop (at + 1) tokens) stop.0 stop.2))
  row_inside_at s Memory stop = tt

  -- rows, of which there is one
  pub rows_inside_at : (Stands tokens at (sign 125) → ⊥) → (error : PartError) → StopsAt (SomeRowsIn deep) tokens at error → StopsAt (RowsIn deep) tokens at error
  rows_inside_at none (Stuck place) stop =
      (stop.0, stop.1, rows_inside deep (drop at tokens) stop.0 (λ rest e. none (stands_next tokens at (sign 125) rest e)) stop.2)
  rows_inside_at none Memory stop = tt

module _ (deep : ℕ) (tokens : List Token) (start : ℕ) (row : List Datum) (at : ℕ) (f : ValuesSoFar deep tokens start row at) where
  pub value_item : (error : PartError) → StopsAt (LiteralIn deep) tokens at error → StopsAt (ValuesIn deep) tokens start error
  value_item error s = so_far_item tokens_of (IsLiteral deep) (ValuesIn deep) (LiteralIn deep) (value_stops deep) tokens start row at error f s

  module _ (d : Datum) (end : ℕ) (r : ReadsLiteral tokens at deep d end) where
    item : ReadsItem tokens_of (IsLiteral deep) (ValuesIn deep) tokens at d end
    item = record { within = r.within; good = r.whole; is = r.is }

    pub value_further : at < end + 1
    value_further = let e = item_end tokens_of (IsLiteral deep) (ValuesIn deep) tokens at end d f.within item in omega (arith, e)

    pub value_next : Stands tokens end (sign 44) → ValuesSoFar deep tokens start (row ++ d ∷ []) (end + 1)
    value_next s = so_far_next tokens_of (IsLiteral deep) (ValuesIn deep) (LiteralIn deep) (λ x good. (x, good, refl)) (value_comma deep) tokens start row at d end f item s

    pub value_stuck : (Stands tokens end (sign 41) → ⊥) → (Stands tokens end (sign 44) → ⊥) → StopsAt (ValuesIn deep) tokens start (Stuck end)
    value_stuck no_close no_comma =
        so_far_separator tokens_of (IsLiteral deep) (ValuesIn deep) (LiteralIn deep) (λ x good. (x, good, refl)) (value_comma deep)
        tokens start row at d end 41 (value_separator deep) no_close f item no_comma

    pub value_close : Stands tokens end (sign 41) → ReadsValues tokens start deep (row ++ d ∷ []) (end + 1)
    value_close s =
        let all = so_far_close tokens_of (IsLiteral deep) (ValuesIn deep) tokens start row at d end 41 f item s in
        record {
          within = all.0;
          whole = row_whole deep row d all.1;
          is = ap (λ x. sign 40 ∷ x) all.2 ∙ values_spelled row d (drop (end + 1) tokens);
        }

module _ (deep : ℕ) (tokens : List Token) (start : ℕ) (rows : List (List Datum)) (at : ℕ) (f : RowsSoFar deep tokens start rows at) where
  pub rows_item : (error : PartError) → StopsAt (RowIn deep) tokens at error → StopsAt (SomeRowsIn deep) tokens start error
  rows_item error s = so_far_item row_spelling (GoodRow deep) (SomeRowsIn deep) (RowIn deep) (rows_item_stops deep) tokens start rows at error f s

  module _ (row : List Datum) (end : ℕ) (r : ReadsRow tokens at deep row end) where
    one_row : ReadsItem row_spelling (GoodRow deep) (SomeRowsIn deep) tokens at row end
    one_row = record { within = r.within; good = r.whole; is = r.is }

    pub rows_further : at < end + 1
    rows_further = let e = item_end row_spelling (GoodRow deep) (SomeRowsIn deep) tokens at end row f.within one_row in omega (arith, e)

    pub rows_next : Stands tokens end (sign 44) → RowsSoFar deep tokens start (rows ++ row ∷ []) (end + 1)
    rows_next s = so_far_next row_spelling (GoodRow deep) (SomeRowsIn deep) (RowIn deep) (λ x good. (tuple_of x, good, refl)) (rows_comma deep) tokens start rows at row end f one_row s

    pub rows_stuck : (Stands tokens end (sign 125) → ⊥) → (Stands tokens end (sign 44) → ⊥) → StopsAt (SomeRowsIn deep) tokens start (Stuck end)
    rows_stuck no_close no_comma =
        so_far_separator row_spelling (GoodRow deep) (SomeRowsIn deep) (RowIn deep) (λ x good. (tuple_of x, good, refl)) (rows_comma deep)
        tokens start rows at row end 125 (rows_separator deep) no_close f one_row no_comma

    pub rows_close : Stands tokens end (sign 125) → ReadsRows tokens start deep (rows ++ row ∷ []) (end + 1)
    rows_close s =
        let all = so_far_close row_spelling (GoodRow deep) (SomeRowsIn deep) tokens start rows at row end 125 f one_row s in
        record {
          within = all.0;
          whole = rows_whole deep (rows ++ row ∷ []) all.1;
          is = ap (λ x. sign 123 ∷ x) all.2 ∙ rows_spelled rows row (drop (end + 1) tokens);
        }

-- the whole: literals with as many braces as one may have
pub literal_tokens_free : PrefixFree LiteralTokens
literal_tokens_free a b x y p q h = literal_free max_braces a b x y (p.0, p.1.whole, p.1.is) (q.0, q.1.whole, q.1.is) h

pub literal_stops : (tokens : List Token) (error : PartError) → StopsAt (LiteralIn max_braces) tokens 0 error
    → (error ≡ Memory) ⊎ ((count : ℕ) × (error ≡ Stuck count) × Stops LiteralTokens tokens count)
literal_stops tokens Memory s = inl refl
literal_stops tokens (Stuck place) s =
    inr (
      s.0,
      ap Stuck (let e = s.1 in let f : place ≡ s.0 = omega (arith, e) in f),
      stops_same (LiteralIn max_braces) LiteralTokens tokens s.0 (λ x p. (p.0, record { whole = p.1; is = p.2 })) (λ x p. (p.0, p.1.whole, p.1.is)) s.2,
    )

pub stopped_at : (tokens : List Token) (count : ℕ) → (Stuck count ≡ Memory) ⊎ ((n : ℕ) × (Stuck count ≡ Stuck n) × Stops LiteralTokens tokens n) → Stops LiteralTokens tokens count
stopped_at tokens count (inl e) = absurd (differ count e)
  where
    differ : (n : ℕ) → Stuck n ≡ Memory → ⊥
    differ n e = cc
stopped_at tokens count (inr s) = subst (Stops LiteralTokens tokens) (sym (same count s.0 s.1)) s.2
  where
    same : (m n : ℕ) → Stuck m ≡ Stuck n → m ≡ n
    same m n e = cc
