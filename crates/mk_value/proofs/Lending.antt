-- Values that are lent, and a block of numbers that is filled one by one.
use Rattle.std.proofs.Common.{◌≡◌, ◌∙◌, sym, ap, refl, ℕ, ◌+◌, ◌-◌, ◌<◌, ℤ, pos, List, [], ◌∷◌, ◌++◌, length, map, take, drop, set, get_or, slice_index_or, arith, add-one, subst, Bor}
use Rattle.std.proofs.Math.Seq.{take-suc}
use Rattle.std.specs.Str.{IsUtf8}
use Rattle.std.proofs.lemmas.List.{take-set, get_or-drop, get_or-map, get_or-set_same, length-set, length-drop, length-map}
use Rattle.mk_value.specs.Heading.{Domain}
use Rattle.mk_value.specs.Data.{Datum, integer, long, text, bytes, relation, cell, IsOf}
use Rattle.mk_value.specs.Lending.{Lends, number_lent}
use Rattle.mk_value.specs.Tables.{number_in, column_numbers}
use Rattle.mk_value.specs.declared.table.Lent.{Lent}
use Rattle.mk_value.specs.declared.table.Lent.TheVariants.{I, L, S, B, V}

-- the number that is lent of a value is that of the value
pub lent_number : (lent : Lent) (d : Datum) → Lends lent d → number_lent lent ≡ number_in d
lent_number (I n) (integer z) h = h
lent_number (I n) (long z) h = absurd h
lent_number (I n) (text z) h = absurd h
lent_number (I n) (bytes z) h = absurd h
lent_number (I n) (relation z) h = absurd h
lent_number (L n) (integer z) h = absurd h
lent_number (L n) (long z) h = h
lent_number (L n) (text z) h = absurd h
lent_number (L n) (bytes z) h = absurd h
lent_number (L n) (relation z) h = absurd h
lent_number (S n) (integer z) h = absurd h
lent_number (S n) (long z) h = absurd h
lent_number (S n) (text z) h = refl
lent_number (S n) (bytes z) h = absurd h
lent_number (S n) (relation z) h = absurd h
lent_number (B n) (integer z) h = absurd h
lent_number (B n) (long z) h = absurd h
lent_number (B n) (text z) h = absurd h
lent_number (B n) (bytes z) h = refl
lent_number (B n) (relation z) h = absurd h
lent_number (V n) (integer z) h = absurd h
lent_number (V n) (long z) h = absurd h
lent_number (V n) (text z) h = absurd h
lent_number (V n) (bytes z) h = absurd h
lent_number (V n) (relation z) h = refl

-- the number at a place of a column is that of the cell
pub column_number : (rows : List (List Datum)) (from at column : ℕ) → from + at < length rows
    → get_or (drop from (column_numbers rows column)) at (pos 0) ≡ number_in (cell rows (from + at) column)
column_number rows from at column h =
    let number = λ (row : List Datum). number_in (slice_index_or row column (integer (pos 0))) in
    get_or-drop from (map number rows) at (pos 0) ∙ get_or-map number rows (from + at) [] (pos 0) h

-- a place that has a row stands within the column from a row on
pub column_long : (rows : List (List Datum)) (from at column : ℕ) → from + at < length rows → at < length (drop from (column_numbers rows column))
column_long rows from at column h =
    let number = λ (row : List Datum). number_in (slice_index_or row column (integer (pos 0))) in
    let long : length (drop from (map number rows)) ≡ length rows - from = length-drop from (map number rows) ∙ ap (λ n. n - from) (length-map rows number) in
    omega (arith, h, long)

-- one more number of a block that is filled from the front
pub filled_more : (xs into : List ℤ) (at : ℕ) (v : ℤ) → at < length into → at < length xs → take at into ≡ take at xs → v ≡ get_or xs at (pos 0)
    → take (at + 1) (set into at v) ≡ take (at + 1) xs
filled_more xs into at v h k front e = simp (add-one at)
    (take-suc (set into at v) at (pos 0) (omega (arith, h, length-set into at v))
    ∙ ap (λ ys. ys ++ get_or (set into at v) at (pos 0) ∷ []) (take-set into at v ∙ front)
    ∙ ap (λ y. take at xs ++ y ∷ []) (get_or-set_same into at v (pos 0) h ∙ e)
    ∙ sym (take-suc xs at (pos 0) k))

-- the bytes of a text are UTF-8
pub lent_utf8 : (lent : Bor (List ℕ)) (d : Datum) (e : Domain) → Lends (S lent) d → IsOf d e → IsUtf8 lent.now
lent_utf8 lent (integer z) e h k = absurd h
lent_utf8 lent (long z) e h k = absurd h
lent_utf8 lent (text content) Domain.integer h k = absurd k
lent_utf8 lent (text content) Domain.long h k = absurd k
lent_utf8 lent (text content) Domain.text h k = subst IsUtf8 (sym h) k.0.utf8
lent_utf8 lent (text content) Domain.bytes h k = absurd k
lent_utf8 lent (text content) (Domain.relation r) h k = absurd k
lent_utf8 lent (bytes z) e h k = absurd h
lent_utf8 lent (relation z) e h k = absurd h
