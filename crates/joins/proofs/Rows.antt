-- Rows kept and left out, and the union of two lists of distinct rows.
use Rattle.std.proofs.Common.{◌≡◌, Bool, true, false, not, cond, ◌&&◌, ◌||◌, List, [], ◌∷◌, ◌++◌, refl, ap, sym, ◌∙◌}
use Rattle.std.specs.List.{filter}
use Rattle.std.proofs.lemmas.Bool.{false≢true}
use Rattle.std.proofs.lemmas.List.Elements.{filter-append, filter_agree}
use Rattle.mk_value.specs.Data.{Datum}
use Rattle.relations.specs.Equality.{same_row, is_row_among}
use Rattle.derived.specs.Operators.{distinct}
use Rattle.joins.specs.Sets.{is_kept}
use Rattle.relations.proofs.Equal.{rows_equal}
use Rattle.relations.proofs.Faults.{cases}

filter_twice : {X : Type 0} (p q : X → Bool) (xs : List X) → filter p (filter q xs) ≡ filter (λ x. q x && p x) xs
filter_twice p q [] = refl
filter_twice p q (x ∷ xs) = split p q x xs (q x) refl (filter_twice p q xs)
  where
    split : {X : Type 0} (p q : X → Bool) (x : X) (xs : List X) (b : Bool) → q x ≡ b → filter p (filter q xs) ≡ filter (λ x. q x && p x) xs
        → filter p (cond (q x) (x ∷ filter q xs) (filter q xs)) ≡ cond (q x && p x) (x ∷ filter (λ x. q x && p x) xs) (filter (λ x. q x && p x) xs)
    split p q x xs true e rest = rw e (ap (λ ys. cond (p x) (x ∷ ys) ys) rest)
    split p q x xs false e rest = rw e rest

all_kept : {X : Type 0} (xs : List X) → filter (λ _. true) xs ≡ xs
all_kept [] = refl
all_kept (x ∷ xs) = ap (λ ys. x ∷ ys) (all_kept xs)

-- a row that is not x is among the rows that are not x where it is among the rows
still_among : (x r : List Datum) (rows : List (List Datum)) → same_row x r ≡ false → is_row_among (filter (λ other. not (same_row x other)) rows) r ≡ is_row_among rows r
still_among x r [] h = refl
still_among x r (d ∷ rows) h = cases (same_row x d)
    (λ e.
    let not_d : same_row d r ≡ false = cases (same_row d r) (λ t. absurd (false≢true (sym h ∙ ap (λ z. same_row z r) (rows_equal x d e) ∙ t))) (λ t. t) in
    rw e (still_among x r rows h ∙ sym (ap (λ b. b || is_row_among rows r) not_d)))
    (λ e. rw e (ap (λ b. same_row d r || b) (still_among x r rows h)))

new_row : (x : List Datum) (rows : List (List Datum)) (r : List Datum)
    → (not (is_row_among rows r) && not (same_row x r)) ≡ not (is_row_among (x ∷ filter (λ other. not (same_row x other)) rows) r)
new_row x rows r = cases (same_row x r)
    (λ e. rw e (dead (is_row_among rows r)))
    (λ e. rw (e, still_among x r rows e) (live (is_row_among rows r)))
  where
    dead : (b : Bool) → (not b && false) ≡ false
    dead true = refl
    dead false = refl

    live : (b : Bool) → (not b && true) ≡ not b
    live true = refl
    live false = refl

-- the distinct rows of two lists are those of the first, and then those of the second that the first has not
pub distinct_append : (xs ys : List (List Datum)) → distinct (xs ++ ys) ≡ distinct xs ++ filter (is_kept false (distinct xs)) (distinct ys)
distinct_append [] ys = sym (all_kept (distinct ys))
distinct_append (x ∷ xs) ys =
    let apart : List Datum → Bool = λ other. not (same_row x other) in
    ap (λ rows. x ∷ filter apart rows) (distinct_append xs ys)
    ∙ ap (λ rows. x ∷ rows) (
    filter-append apart (distinct xs) (filter (is_kept false (distinct xs)) (distinct ys))
    ∙ ap (λ rows. filter apart (distinct xs) ++ rows) (
    filter_twice apart (is_kept false (distinct xs)) (distinct ys)
    ∙ filter_agree (λ r. is_kept false (distinct xs) r && apart r) (is_kept false (x ∷ filter apart (distinct xs))) (new_row x (distinct xs)) (distinct ys)))

-- a row is among distinct rows where it is among the rows
among_distinct : (rows : List (List Datum)) (r : List Datum) → is_row_among (distinct rows) r ≡ is_row_among rows r
among_distinct [] r = refl
among_distinct (x ∷ rows) r = cases (same_row x r) (λ e. rw e refl) (λ e. rw e (still_among x r (distinct rows) e ∙ among_distinct rows r))

pub new_among_distinct : (xs ys : List (List Datum)) → filter (is_kept false (distinct xs)) ys ≡ filter (is_kept false xs) ys
new_among_distinct xs ys = filter_agree (is_kept false (distinct xs)) (is_kept false xs) (λ r. ap not (among_distinct xs r)) ys
