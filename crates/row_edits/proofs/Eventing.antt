-- Edits as events, one after another.
use Rattle.std.proofs.Common.{◌≡◌, ℕ, zero, suc, ◌+◌, ◌<◌, ◌≤◌, cond, List, [], ◌∷◌, ◌++◌, length, set, take, drop, replicate, map, refl, ap, sym, subst, ◌∙◌, arith, inl, inr}
use Rattle.std.specs.List.{insert, remove}
use Rattle.std.proofs.lemmas.Bool.{eq-eqb, ne_eqb, cases_eq}
use Rattle.std.proofs.lemmas.List.{append-nil, append_assoc, drop-drop, drop_at, length-append, length-map, length-replicate, length-take-le, map-append, replicate_more, take-append-drop, take-append-le, take_at, take-map, take_all}
use Rattle.std.proofs.lemmas.List.Sums.{sum_by-cons}
use Rattle.mk_value.specs.Data.{Datum}
use Rattle.relations.specs.Positions.{numbers}
use Rattle.row_edits.specs.declared.event.Event.{Event}
use Rattle.row_edits.specs.declared.edit.RowEdit.{RowEdit}
use Rattle.row_edits.specs.declared.edit.RowEdit.TheVariants.{Insert, Remove, Change}
use Rattle.row_edits.specs.Edits.{AreInRange, IsInRange, edited, edited_by}
use Rattle.row_edits.specs.Events.{begun, count_all, count_of, event_of, events_by, events_of, happened, rows_after}
use Rattle.row_edits.proofs.Editing.{length_edited}

pub cut_none : (at : ℕ) (rows : List (List Datum)) → take at rows ++ drop (at + 0) rows ≡ rows
cut_none at rows = ap (λ k. take at rows ++ drop k rows) (let e : at + 0 ≡ at = omega arith in e) ∙ take-append-drop at rows

-- of an edit none has begun
pub begun_none : (row : List Datum) (e : RowEdit) (rows : List (List Datum)) → edited row (begun 0 e) rows ≡ rows
begun_none row (Insert at count) rows = take-append-drop at rows
begun_none row (Remove at count) rows = cut_none at rows
begun_none row (Change at) rows = cut_none at rows

-- one row more comes behind those that came
put_more : (row : List Datum) (at k : ℕ) (rows : List (List Datum)) → at ≤ length rows
    → take at rows ++ (replicate (k + 1) row ++ drop at rows) ≡ insert (take at rows ++ (replicate k row ++ drop at rows)) (at + k) row
put_more row at k rows le =
    let n = length-take-le at rows le in
    let m = length-replicate k row in
    let l = length-append (take at rows) (replicate k row) in
    let front : length (take at rows ++ replicate k row) ≡ at + k = omega arith in
    let all : take at rows ++ (replicate k row ++ drop at rows) ≡ (take at rows ++ replicate k row) ++ drop at rows = sym (append_assoc (take at rows) (replicate k row) (drop at rows)) in
    sym (
    ap (λ xs. insert xs (at + k) row) all
    ∙ ap (λ xs. xs ++ row ∷ drop (at + k) ((take at rows ++ replicate k row) ++ drop at rows)) (take_at (take at rows ++ replicate k row) (drop at rows) (at + k) front)
    ∙ ap (λ ys. (take at rows ++ replicate k row) ++ row ∷ ys) (drop_at (take at rows ++ replicate k row) (drop at rows) (at + k) front)
    ∙ append_assoc (take at rows) (replicate k row) (row ∷ drop at rows)
    ∙ ap (λ ys. take at rows ++ ys) (sym (append_assoc (replicate k row) (row ∷ []) (drop at rows)) ∙ ap (λ ys. ys ++ drop at rows) (replicate_more k row))
    )

-- one row more goes
pub cut_more : (at k : ℕ) (rows : List (List Datum)) → at + k < length rows → take at rows ++ drop (at + (k + 1)) rows ≡ remove (take at rows ++ drop (at + k) rows) at
cut_more at k rows lt =
    let n = length-take-le at rows (omega arith) in
    let e : at + (k + 1) ≡ at + k + 1 = omega arith in
    sym (
    ap (λ xs. xs ++ drop (suc at) (take at rows ++ drop (at + k) rows)) (take_at (take at rows) (drop (at + k) rows) at n)
    ∙ ap (λ ys. take at rows ++ ys) (
    ap (λ j. drop j (take at rows ++ drop (at + k) rows)) (let j : suc at ≡ at + 1 = omega arith in j)
    ∙ sym (drop-drop 1 at (take at rows ++ drop (at + k) rows))
    ∙ ap (drop 1) (drop_at (take at rows) (drop (at + k) rows) at n)
    ∙ drop-drop 1 (at + k) rows
    ∙ ap (λ j. drop j rows) (sym e)
    )
    )

changed_more : (at k : ℕ) → 0 < k → begun k (Change at) ≡ Change at
changed_more at k p = ap (λ b. cond b (Remove at 0) (Change at)) (ne_eqb k 0 (λ e. absurd (omega arith)))

-- as much of an edit as one event more is
pub begun_more : (row : List Datum) (e : RowEdit) (k : ℕ) (rows : List (List Datum)) → IsInRange e (length rows) → k < count_of e
    → edited row (begun (k + 1) e) rows ≡ happened row (event_of e k) (edited row (begun k e) rows)
begun_more row (Insert at count) k rows h p = put_more row at k rows h.0
begun_more row (Remove at count) k rows h p = cut_more at k rows (omega arith)
begun_more row (Change at) k rows h p =
    let zero_is : k ≡ 0 = omega arith in
    ap (λ e. edited row e rows) (changed_more at (k + 1) (omega arith)) ∙ ap (λ rs. set rs at row) (sym (ap (λ j. edited row (begun j (Change at)) rows) zero_is ∙ begun_none row (Change at) rows))

pub begun_range : (e : RowEdit) (k size : ℕ) → IsInRange e size → k ≤ count_of e → IsInRange (begun k e) size
begun_range (Insert at count) k size h p = (h.0, (let few = h.1 in omega arith))
begun_range (Remove at count) k size h p = omega arith
begun_range (Change at) k size h p = elim (cases_eq k 0) [
  | inl e ↦ subst (λ b. IsInRange (cond b (Remove at 0) (Change at)) size) (sym (eq-eqb k 0 e)) (omega arith)
  | inr ne ↦ subst (λ b. IsInRange (cond b (Remove at 0) (Change at)) size) (sym (ne_eqb k 0 ne)) h
]

pub begun_all : (e : RowEdit) → begun (count_of e) e ≡ e
begun_all (Insert at count) = refl
begun_all (Remove at count) = refl
begun_all (Change at) = refl

-- the first events of an edit
numbers_long : (n : ℕ) → length (numbers n) ≡ n
numbers_long zero = refl
numbers_long (suc n) = let h = numbers_long n in let l = length-append (numbers n) (n ∷ []) in omega arith

take_numbers : (k n : ℕ) → k ≤ n → take k (numbers n) ≡ numbers k
take_numbers k zero p =
    let e : k ≡ 0 = omega arith in ap (λ j. take j []) e ∙ ap numbers (sym e)
take_numbers k (suc n) p = elim (cases_eq k (suc n)) [
  | inl e ↦ ap (λ j. take j (numbers n ++ n ∷ [])) e ∙ take_all (suc n) (numbers n ++ n ∷ []) (let l = numbers_long (suc n) in omega arith) ∙ ap numbers (sym e)
  | inr ne ↦ let l = numbers_long n in take-append-le k (numbers n) (n ∷ []) (omega arith) ∙ take_numbers k n (omega arith)
]

pub events_long : (e : RowEdit) → length (events_of e) ≡ count_of e
events_long e = length-map (numbers (count_of e)) (event_of e) ∙ numbers_long (count_of e)

events_begun : (e : RowEdit) (k : ℕ) → k ≤ count_of e → events_of (begun k e) ≡ take k (events_of e)
events_begun (Insert at count) k p = sym (take-map (event_of (Insert at count)) k (numbers count) ∙ ap (map (event_of (Insert at count))) (take_numbers k count p))
events_begun (Remove at count) k p = sym (take-map (event_of (Remove at count)) k (numbers count) ∙ ap (map (event_of (Remove at count))) (take_numbers k count p))
events_begun (Change at) zero p = refl
events_begun (Change at) (suc k) p =
    let e : suc k ≡ 1 = omega arith in
    ap (λ j. events_of (begun j (Change at))) e ∙ ap (λ j. take j (events_of (Change at))) (sym e)

pub all_long : (edits : List RowEdit) → length (events_by edits) ≡ count_all edits
all_long [] = refl
all_long (e ∷ edits) =
    let h = all_long edits in
    let n = events_long e in
    length-append (events_of e) (events_by edits) ∙ (let s : length (events_of e) + length (events_by edits) ≡ count_of e + count_all edits = omega arith in s) ∙ sym (sum_by-cons count_of e edits)

take_over : {X : Type 0} (xs ys : List X) (k : ℕ) → take (length xs + k) (xs ++ ys) ≡ xs ++ take k ys
take_over [] ys k = ap (λ j. take j ys) (let e : 0 + k ≡ k = omega arith in e)
take_over (x ∷ xs) ys k = ap (λ j. take j (x ∷ (xs ++ ys))) (let e : suc (length xs) + k ≡ suc (length xs + k) = omega arith in e) ∙ ap (λ zs. x ∷ zs) (take_over xs ys k)

pub first_events : (whole rest : List RowEdit) (e : RowEdit) (k : ℕ) → k ≤ count_of e → events_by (whole ++ begun k e ∷ []) ≡ take (count_all whole + k) (events_by (whole ++ e ∷ rest))
first_events [] rest e k p =
    let l = events_long e in
    append-nil (events_of (begun k e)) ∙ events_begun e k p ∙ sym (ap (λ j. take j (events_of e ++ events_by rest)) (let z : 0 + k ≡ k = omega arith in z) ∙ take-append-le k (events_of e) (events_by rest) (omega arith))
first_events (f ∷ whole) rest e k p =
    let l = events_long f in
    ap (λ es. events_of f ++ es) (first_events whole rest e k p)
    ∙ sym (ap (λ j. take j (events_of f ++ events_by (whole ++ e ∷ rest))) (ap (λ n. n + k) (sum_by-cons count_of f whole) ∙ (let z : count_of f + count_all whole + k ≡ length (events_of f) + (count_all whole + k) = omega arith in z))
    ∙ take_over (events_of f) (events_by (whole ++ e ∷ rest)) (count_all whole + k))

-- rows after events
after_joined : (row : List Datum) (xs ys : List Event) (rows : List (List Datum)) → rows_after row (xs ++ ys) rows ≡ rows_after row ys (rows_after row xs rows)
after_joined row [] ys rows = refl
after_joined row (e ∷ xs) ys rows = after_joined row xs ys (happened row e rows)

after_some : (row : List Datum) (e : RowEdit) (rows : List (List Datum)) → IsInRange e (length rows) → (k : ℕ) → k ≤ count_of e → rows_after row (map (event_of e) (numbers k)) rows ≡ edited row (begun k e) rows
after_some row e rows h zero p = sym (begun_none row e rows)
after_some row e rows h (suc k) p =
    ap (λ es. rows_after row es rows) (map-append (event_of e) (numbers k) (k ∷ []))
    ∙ after_joined row (map (event_of e) (numbers k)) (event_of e k ∷ []) rows
    ∙ ap (λ rs. happened row (event_of e k) rs) (after_some row e rows h k (omega arith))
    ∙ sym (begun_more row e k rows h (omega arith))
    ∙ ap (λ j. edited row (begun j e) rows) (let z : k + 1 ≡ suc k = omega arith in z)

pub after_edits : (edits : List RowEdit) (row : List Datum) (rows : List (List Datum)) → AreInRange edits (length rows) → rows_after row (events_by edits) rows ≡ edited_by row edits rows
after_edits [] row rows h = refl
after_edits (e ∷ edits) row rows h =
    let n = length_edited row e rows h.0 in
    after_joined row (events_of e) (events_by edits) rows
    ∙ ap (λ rs. rows_after row (events_by edits) rs) (after_some row e rows h.0 (count_of e) (omega arith) ∙ ap (λ f. edited row f rows) (begun_all e))
    ∙ after_edits edits row (edited row e rows) (subst (AreInRange edits) (sym n) h.1)
