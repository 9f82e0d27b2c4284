-- The numbers of a column, read through what a table is made of.
use Rattle.std.proofs.Common.{◌≡◌, ℕ, ◌+◌, ◌-◌, ◌<◌, ◌≤◌, ℤ, pos, List, [], ◌++◌, length, get_or, map, take, drop, ap, sym, ◌∙◌, arith}
use Rattle.std.proofs.Math.Seq.{drop-append-add, take-append-add}
use Rattle.std.proofs.lemmas.List.{length-map, length-drop, map-append, take_all, take-map, drop-map, get_or-map, drop-append-le, same_lists}
use Rattle.mk_value.specs.Data.{Datum, integer, cell}
use Rattle.mk_value.specs.Tables.{column_numbers, number_in}
use Rattle.relations.specs.Rows.{rows_at}

pub same_numbers : (xs ys : List (List Datum)) (i j : ℕ) → length xs ≡ length ys → ((k : ℕ) → k < length xs → cell xs k i ≡ cell ys k j) → column_numbers xs i ≡ column_numbers ys j
same_numbers xs ys i j e h =
    let f : List Datum → ℤ = λ row. number_in (get_or row i (integer (pos 0))) in
    let g : List Datum → ℤ = λ row. number_in (get_or row j (integer (pos 0))) in
    let n = length-map xs f in
    let m = length-map ys g in
    same_lists (map f xs) (map g ys) (omega arith) (λ k d p.
    let q : k < length xs = omega arith in
    let r : k < length ys = omega arith in
    get_or-map f xs k [] d q ∙ ap number_in (h k q) ∙ sym (get_or-map g ys k [] d r))

-- of a part of the positions
pub part_numbers : (rows : List (List Datum)) (positions : List ℕ) (n k j : ℕ) → column_numbers (rows_at rows (take n (drop k positions))) j ≡ take n (drop k (column_numbers (rows_at rows positions) j))
part_numbers rows positions n k j =
    let f : ℕ → List Datum = λ i. get_or rows i [] in
    let g : List Datum → ℤ = λ row. number_in (get_or row j (integer (pos 0))) in
    ap (map g) (sym (take-map f n (drop k positions)) ∙ ap (take n) (sym (drop-map f k positions)))
    ∙ sym (take-map g n (drop k (map f positions))) ∙ ap (take n) (sym (drop-map g k (map f positions)))

-- the number of a row at a position
pub position_number : (rows : List (List Datum)) (positions : List ℕ) (at j : ℕ) → at < length positions → get_or (column_numbers (rows_at rows positions) j) at (pos 0) ≡ number_in (cell rows (get_or positions at 0) j)
position_number rows positions at j p =
    let f : ℕ → List Datum = λ i. get_or rows i [] in
    let g : List Datum → ℤ = λ row. number_in (get_or row j (integer (pos 0))) in
    let n = length-map positions f in
    get_or-map g (map f positions) at [] (pos 0) (omega arith) ∙ ap g (get_or-map f positions at 0 [] p)

pub positions_long : (rows : List (List Datum)) (positions : List ℕ) (j : ℕ) → length (column_numbers (rows_at rows positions) j) ≡ length positions
positions_long rows positions j =
    let f : ℕ → List Datum = λ i. get_or rows i [] in
    let g : List Datum → ℤ = λ row. number_in (get_or row j (integer (pos 0))) in
    length-map (map f positions) g ∙ length-map positions f

-- of two tables under one another
numbers_append : (xs ys : List (List Datum)) (j : ℕ) → column_numbers (xs ++ ys) j ≡ column_numbers xs j ++ column_numbers ys j
numbers_append xs ys j = map-append (λ row. number_in (get_or row j (integer (pos 0)))) xs ys

drop_over : (xs ys : List ℤ) (n k : ℕ) → n ≡ length xs → n ≤ k → drop k (xs ++ ys) ≡ drop (k - n) ys
drop_over xs ys n k e p =
    let m : k ≡ length xs + (k - n) = omega arith in
    ap (λ m. drop m (xs ++ ys)) m ∙ drop-append-add xs ys (k - n)

take_over : (xs ys : List ℤ) (n m : ℕ) → m ≡ length xs → m ≤ n → xs ++ take (n - m) ys ≡ take n (xs ++ ys)
take_over xs ys n m e p =
    let k : length xs + (n - m) ≡ n = omega arith in
    sym (take-append-add xs ys (n - m)) ∙ ap (λ n. take n (xs ++ ys)) k

pub behind_numbers : (xs ys : List (List Datum)) (size n k j : ℕ) → size ≡ length xs → size ≤ k → take n (drop (k - size) (column_numbers ys j)) ≡ take n (drop k (column_numbers (xs ++ ys) j))
behind_numbers xs ys size n k j e p =
    let m = length-map xs (λ row. number_in (get_or row j (integer (pos 0)))) in
    ap (take n) (sym (drop_over (column_numbers xs j) (column_numbers ys j) size k (omega arith) p) ∙ ap (drop k) (sym (numbers_append xs ys j)))

pub across_numbers : (xs ys : List (List Datum)) (size n k j m r : ℕ) (front back : List ℤ) → size ≡ length xs → k ≤ size → m ≡ size - k → r + (size - k) ≡ n
    → front ≡ take m (drop k (column_numbers xs j)) → back ≡ take r (drop 0 (column_numbers ys j)) → front ++ back ≡ take n (drop k (column_numbers (xs ++ ys) j))
across_numbers xs ys size n k j m r front back e p f g one two =
    let first = column_numbers xs j in
    let second = column_numbers ys j in
    let long = length-map xs (λ row. number_in (get_or row j (integer (pos 0)))) in
    let rest = length-drop k first in
    let all : front ≡ drop k first = one ∙ take_all m (drop k first) (omega arith) in
    let left : r ≡ n - (size - k) = omega arith in
    (λ i. all i ++ two i) ∙ ap (λ r. drop k first ++ take r second) left
    ∙ take_over (drop k first) second n (size - k) (omega arith) (omega arith)
    ∙ ap (take n) (sym (drop-append-le k first second (omega arith)) ∙ ap (drop k) (sym (numbers_append xs ys j)))
