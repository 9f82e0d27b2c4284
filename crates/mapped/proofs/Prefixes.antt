-- The first values of rows compare as the rows.
use Rattle.std.proofs.Common.{◌≡◌, ◌≢◌, ℕ, zero, suc, ◌+◌, ◌<◌, ◌≤◌, true, false, List, [], ◌∷◌, length, get_or, map, take, drop, pos, refl, ap, sym, ◌∙◌, arith}
use Rattle.std.specs.declared.cmp.Ordering.{Ordering}
use Rattle.std.specs.declared.cmp.Ordering.TheVariants.{Less, Equal, Greater}
use Rattle.std.specs.Ordering.{is_ne, ordering_then}
use Rattle.std.specs.Cmp.{IsTotalOrder}
use Rattle.std.specs.Cmp.Lexicographic.{slice_cmp, lists_total}
use Rattle.std.proofs.lemmas.List.{drop_more, get_or-map, get_or-take, length-map, length-take-le}
use Rattle.mk_value.specs.Data.{Datum, integer}
use Rattle.mk_value.specs.Order.{value_cmp}
use Rattle.mk_value.specs.OrderLaws.{value_cmp_total}
use Rattle.mk_value.specs.Values.{datum_of}
use Rattle.mk_value.specs.declared.value.Value.{Value}
use Rattle.mapped.specs.Keys.{key_cmp, row_to_key, AscendByKey}

pub key_cmp_total : IsTotalOrder key_cmp
key_cmp_total = lists_total value_cmp_total

module _ {X : Type 0} (R : X → X → Ordering) where
  -- where one list is less, none of its prefixes is greater
  prefix_up_to : (o : Ordering) (m k : ℕ) (xs ys : List X) → (ordering_then o (slice_cmp R (take k xs) (take k ys)) ≡ Less)
      → (slice_cmp R (take k xs) (take k ys) ≡ Less → slice_cmp R (take m xs) (take m ys) ≢ Greater) → ordering_then o (slice_cmp R (take m xs) (take m ys)) ≢ Greater
  prefix_up_to Less m k xs ys e rest f = cc
  prefix_up_to Equal m k xs ys e rest f = rest e f
  prefix_up_to Greater m k xs ys e rest f = cc

  pub prefix_le : (m k : ℕ) (xs ys : List X) → m ≤ k → slice_cmp R (take k xs) (take k ys) ≡ Less → slice_cmp R (take m xs) (take m ys) ≢ Greater
  prefix_le zero k xs ys p e f = cc
  prefix_le (suc m) zero xs ys p e f = absurd (omega arith)
  prefix_le (suc m) (suc k) [] [] p e f = cc
  prefix_le (suc m) (suc k) [] (y ∷ ys) p e f = cc
  prefix_le (suc m) (suc k) (x ∷ xs) [] p e f = cc
  prefix_le (suc m) (suc k) (x ∷ xs) (y ∷ ys) p e f = prefix_up_to (R x y) m k xs ys e (prefix_le m k xs ys (omega arith)) f

-- what is less than a later row's key is less than an earlier one's
up_to_less : (x y key : List Datum) (o : Ordering) → key_cmp x y ≡ o → o ≢ Greater → key_cmp y key ≡ Less → key_cmp x key ≡ Less
up_to_less x y key Less e f g = key_cmp_total.trans x y key e g
up_to_less x y key Equal e f g = key_cmp_total.congr x y key e ∙ g
up_to_less x y key Greater e f g = absurd (f refl)

-- where rows ascend by key, a row in front of one that is less than a key is less too
pub rows_fall : (count : ℕ) (rows : List (List Datum)) (key : List Datum) → AscendByKey count rows → length key ≤ count
    → (i j : ℕ) → i < j → j < length rows → row_to_key (get_or rows j []) key ≡ Less → row_to_key (get_or rows i []) key ≡ Less
rows_fall count rows key up few i j p q less =
    let one = get_or rows i [] in
    let two = get_or rows j [] in
    up_to_less (take (length key) one) (take (length key) two) key (key_cmp (take (length key) one) (take (length key) two)) refl
    (prefix_le value_cmp (length key) count one two few (up i j [] p q)) less

-- a comparison value by value: one that differs decides, and one that ties leaves the rest
stops : (o p : Ordering) → is_ne o ≡ true → ordering_then o p ≡ o
stops Less p e = refl
stops Equal p e = cc
stops Greater p e = refl

passes : (o p : Ordering) → is_ne o ≡ false → ordering_then o p ≡ p
passes Less p e = cc
passes Equal p e = refl
passes Greater p e = cc

module _ (xs ys : List Datum) (i : ℕ) (p : i < length xs) (q : i < length ys) (o : Ordering) (is : o ≡ value_cmp (get_or xs i (integer (pos 0))) (get_or ys i (integer (pos 0)))) where
  further : key_cmp (drop i xs) (drop i ys) ≡ ordering_then o (key_cmp (drop (i + 1) xs) (drop (i + 1) ys))
  further =
      ap (λ zs. key_cmp zs (drop i ys)) (drop_more xs i (integer (pos 0)) p)
      ∙ ap (key_cmp (get_or xs i (integer (pos 0)) ∷ drop (i + 1) xs)) (drop_more ys i (integer (pos 0)) q)
      ∙ ap (λ r. ordering_then r (key_cmp (drop (i + 1) xs) (drop (i + 1) ys))) (sym is)

  pub decides : is_ne o ≡ true → key_cmp xs ys ≡ key_cmp (drop i xs) (drop i ys) → o ≡ key_cmp xs ys
  decides e so_far = sym (so_far ∙ further ∙ stops o (key_cmp (drop (i + 1) xs) (drop (i + 1) ys)) e)

  pub ties : is_ne o ≡ false → key_cmp xs ys ≡ key_cmp (drop i xs) (drop i ys) → key_cmp xs ys ≡ key_cmp (drop (i + 1) xs) (drop (i + 1) ys)
  ties e so_far = so_far ∙ further ∙ passes o (key_cmp (drop (i + 1) xs) (drop (i + 1) ys)) e

-- a value of a row beside that of a key, of which a slice has the values
pub beside : (row key : List Datum) (values : List Value) (at : ℕ) (value : Value) → map datum_of values ≡ key → at < length values → value ≡ get_or values at value → length key ≤ length row
    → (o : Ordering) → o ≡ value_cmp (get_or row at (integer (pos 0))) (datum_of value)
    → (at < length (take (length key) row)) × (at < length key) × (o ≡ value_cmp (get_or (take (length key) row) at (integer (pos 0))) (get_or key at (integer (pos 0))))
beside row key values at value is p here few o e =
    let long : length key ≡ length values = ap length (sym is) ∙ length-map values datum_of in
    let q : at < length key = omega arith in
    let cut = length-take-le (length key) row few in
    let asked : datum_of value ≡ get_or key at (integer (pos 0)) =
    ap datum_of here ∙ sym (get_or-map datum_of values at value (integer (pos 0)) p) ∙ ap (λ (ks : List Datum). get_or ks at (integer (pos 0))) is in (
      omega arith,
      q,
      e ∙ ap (λ d. value_cmp d (datum_of value)) (sym (get_or-take (length key) row at (integer (pos 0)) q)) ∙ ap (value_cmp (get_or (take (length key) row) at (integer (pos 0)))) asked,
    )
