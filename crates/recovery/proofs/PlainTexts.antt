-- Short values that are joined in plain bytes are texts; and values fit where their short ones and their long ones do.
use Rattle.std.proofs.Common.{◌≡◌, ℕ, ◌<◌, ◌≤◌, List, [], ◌∷◌, ◌++◌, length, get_or, map, Bool, true, false, cond, All, refl, ap, sym, subst, ◌∙◌, arith}
use Rattle.std.specs.Prelude.{not}
use Rattle.std.specs.List.{concat, filter, range_with_len}
use Rattle.std.specs.Bool.{OnTrue, OnFalse}
use Rattle.std.specs.Str.{IsAscii}
use Rattle.std.proofs.lemmas.Bool.{leb-true}
use Rattle.std.proofs.lemmas.List.{get_or-map, get_or_default, length-map}
use Rattle.std.proofs.lemmas.List.FromFn.{get_or-range_with_len, length-range_with_len}
use Rattle.std.proofs.lemmas.List.Concat.{concat_is, flat_map-cons}
use Rattle.std.proofs.lemmas.List.Elements.{All-head, All-tail, All-cons, All-nil, All-filter}
use Rattle.std.proofs.lemmas.Str.{IsUtf8-from_ascii}
use Rattle.std.proofs.lemmas.Str.Ascii.{IsAscii-nil, IsAscii-cons}
use Rattle.bytes_col.specs.Strings.{is_short, long_values, memo_rows, short_bytes}
use Rattle.tables.specs.Columns.{IsTextValue}
use Rattle.recovery.specs.declared.contents.Content.{Content}
use Rattle.recovery.specs.declared.contents.Content.TheVariants.{Texts, Strings}
use Rattle.recovery.specs.Contents.{FitsContent, FitWhereverCut, IsPlainByte}
use Rattle.recovery.proofs.Memos.{rows_are_long}

ascii : (v : List ℕ) → All IsPlainByte v → IsAscii v
ascii [] h = IsAscii-nil
ascii (b ∷ bs) h = let first : IsPlainByte b = All-head IsPlainByte b bs h in IsAscii-cons b bs first.1 (ascii bs (All-tail IsPlainByte b bs h))

plain_text : (v : List ℕ) → All IsPlainByte v → length v ≤ 512 → IsTextValue v
plain_text v h few = record {
  is_text = record {
    utf8 = IsUtf8-from_ascii v (ascii v h);
    no_zero = λ k d within zero. let byte : IsPlainByte (get_or v k d) = h k d within in absurd (omega (arith, byte.0, zero));
  };
  short = omega (arith, few);
}

-- what holds of joined lists holds of each
front_and_rest : (P : ℕ → Type 0) (xs ys : List ℕ) → All P (xs ++ ys) → All P xs × All P ys
front_and_rest P [] ys h = (All-nil P, h)
front_and_rest P (x ∷ xs) ys h =
    let both = front_and_rest P xs ys (All-tail P x (xs ++ ys) h) in
    (All-cons P x xs (All-head P x (xs ++ ys) h) both.0, both.1)

joined : (v : List ℕ) (vs : List (List ℕ)) → concat (v ∷ vs) ≡ v ++ concat vs
joined v vs = concat_is (v ∷ vs) ∙ flat_map-cons (λ x. x) v vs ∙ ap (λ rest. v ++ rest) (sym (concat_is vs))

short_value : (content : Content) (v : List ℕ) (rest : List ℕ) → length v ≤ 512 → FitWhereverCut content (v ++ rest) → FitsContent content v × FitWhereverCut content rest
short_value Texts v rest few h = let both = front_and_rest IsPlainByte v rest h in (plain_text v both.0 few, both.1)
short_value Strings v rest few h = (omega (arith, few), tt)

pub all_fit_by_parts : (content : Content) (values : List (List ℕ)) → FitWhereverCut content (short_bytes values) → All (FitsContent content) (long_values values) → All (FitsContent content) values
all_fit_by_parts content [] short long = All-nil (FitsContent content)
all_fit_by_parts content (v ∷ values) short long = by_size (is_short v) refl (all_fit_by_parts content values)
  where
    by_size : (b : Bool) → is_short v ≡ b → (FitWhereverCut content (short_bytes values) → All (FitsContent content) (long_values values) → All (FitsContent content) values)
        → All (FitsContent content) (v ∷ values)
    by_size true e rest =
        let here : FitWhereverCut content (v ++ short_bytes values) =
        subst (FitWhereverCut content) (ap (λ (t : Bool). concat (cond t (v ∷ filter is_short values) (filter is_short values))) e ∙ joined v (filter is_short values)) short in
        let both = short_value content v (short_bytes values) (leb-true (length v) 512 e) here in
        All-cons (FitsContent content) v values both.0
        (rest both.1 (subst (All (FitsContent content)) (ap (λ (t : Bool). cond (not t) (v ∷ long_values values) (long_values values)) e) long))
    by_size false e rest =
        let here : All (FitsContent content) (v ∷ long_values values) =
        subst (All (FitsContent content)) (ap (λ (t : Bool). cond (not t) (v ∷ long_values values) (long_values values)) e) long in
        All-cons (FitsContent content) v values (All-head (FitsContent content) v (long_values values) here)
        (rest
        (subst (FitWhereverCut content) (ap (λ (t : Bool). concat (cond t (v ∷ filter is_short values) (filter is_short values))) e) short)
        (All-tail (FitsContent content) v (long_values values) here))

pub long_ones_fit : (content : Content) (values : List (List ℕ)) → All (FitsContent content) values → All (FitsContent content) (long_values values)
long_ones_fit content values h = All-filter (λ value. not (is_short value)) (FitsContent content) values h

module _ (P : List ℕ → Type 0) (values : List (List ℕ)) (rows : List ℕ) where
  value_at : (i : ℕ) → rows ≡ memo_rows values → i < length rows → get_or (long_values values) i [] ≡ get_or values (get_or rows i 0) []
  value_at i are within =
      ap (λ vs. get_or vs i []) (sym (rows_are_long values) ∙ ap (map (λ row. get_or values row [])) (sym are))
      ∙ get_or-map (λ row. get_or values row []) rows i 0 [] within

  many : rows ≡ memo_rows values → length (long_values values) ≡ length rows
  many are = ap length (sym (rows_are_long values)) ∙ length-map (memo_rows values) (λ row. get_or values row []) ∙ ap length (sym are)

  -- what holds of the long values holds of the value in the row of each
  pub long_at : (i : ℕ) → rows ≡ memo_rows values → i < length rows → All P (long_values values) → P (get_or values (get_or rows i 0) [])
  long_at i are within h = subst P (value_at i are within) (h i [] (let e = many are in omega (arith, within, e)))

  -- and the other way round
  pub each_long : rows ≡ memo_rows values → ((k : ℕ) → k < length rows → P (get_or values (get_or rows k 0) [])) → All P (long_values values)
  each_long are h = λ k d within.
      let inside : k < length rows = let e = many are in omega (arith, within, e) in
      subst P (sym (value_at k are inside) ∙ get_or_default (long_values values) k [] d within) (h k inside)

-- the rows of long values are rows
pub long_row : (values : List (List ℕ)) (rows : List ℕ) (i : ℕ) → rows ≡ memo_rows values → i < length rows → get_or rows i 0 < length values
long_row values rows i are within =
    let all : All (λ row. row < length values) (memo_rows values) =
    All-filter (λ row. not (is_short (get_or values row []))) (λ row. row < length values) (range_with_len 0 (length values))
    (λ k d below. subst (λ row. row < length values) (sym (get_or-range_with_len 0 (length values) k d (let e = length-range_with_len 0 (length values) in omega (arith, below, e))))
    (let e = length-range_with_len 0 (length values) in omega (arith, below, e))) in
    subst (λ rs. get_or rs i 0 < length values) (sym are) (all i 0 (let e = ap length are in omega (arith, within, e)))

-- a test that tells of one thing tells of another
pub on_true : (b : Bool) {P Q : Type 0} → (P → Q) → OnTrue b P → OnTrue b Q
on_true true f h = f h
on_true false f h = tt

pub on_false : (b : Bool) {P Q : Type 0} → (Q → P) → OnFalse b (P → ⊥) → OnFalse b (Q → ⊥)
on_false true f h = tt
on_false false f h = λ q. h (f q)
