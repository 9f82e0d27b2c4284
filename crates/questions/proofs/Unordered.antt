-- A sorting has the rows of the table that it sorts, so what is counted of them may be counted of these.
use Rattle.std.proofs.Common.{◌≡◌, ℕ, ◌+◌, Bool, true, false, cond, List, [], ◌∷◌, length, map, Option, None, Result, Ok, Err, refl, ap, sym, ◌∙◌, arith}
use Rattle.std.specs.Prelude.{count_by, if◌then◌else◌}
use Rattle.std.specs.declared.cmp.Ordering.{Ordering}
use Rattle.std.specs.Ordering.{is_gt, is_lt}
use Rattle.std.specs.Result.{result_map_both}
use Rattle.std.proofs.lemmas.List.Sums.{sum_by-cons}
use Rattle.mk_value.specs.Data.{Datum}
use Rattle.mk_value.specs.Tables.{Table}
use Rattle.relations.specs.Answers.{outcome}
use Rattle.relations.specs.Criteria.{is_in_range}
use Rattle.relations.specs.Refusals.{literals_due, sort_due}
use Rattle.relations.specs.Searching.{asked_cmp, rows_before}
use Rattle.relations.specs.Sorting.{keys_or_all, put, row_cmp, sorted}
use Rattle.relations.specs.declared.error.DerivedError.{DerivedError}
use Rattle.derived.specs.Layers.{Layered, table_of}
use Rattle.derived.specs.Operators.{sort}
use Rattle.expr_text.specs.Arguments.{Criterion, orders}
use Rattle.expr_text.specs.Queries.{Query, one}
use Rattle.expr_text.specs.declared.expr.Order.{Order}
use Rattle.expr_text.specs.declared.operator.Operator.TheVariants as operators
use Rattle.viewers.specs.Meanings.{Meaning}
use Rattle.eval.specs.Names.{Named, continued}
use Rattle.eval.specs.Values.{asked, at_size, key_of, of_one, value}
use Rattle.eval.specs.declared.error.EvalError.{EvalError}
use Rattle.questions.specs.Answers.{Answers, answer}
use Rattle.questions.specs.Places.{AnswersUnordered, HasRowsOf, before_values, begin, known_keys, locate_due, located, unless_due, values_of, where_sorted}
use Rattle.watches.specs.Watches.{Followed}
use Rattle.keyed_views.specs.Mapped.{MappedView}
use Rattle.questions.specs.Told.{told}
use Rattle.questions.specs.declared.error.QuestionError.{QuestionError}
use Rattle.questions.specs.declared.error.QuestionError.TheVariants.{Unsorted}

abbrev passes : {X : Type 0} → (X → Bool) → X → ℕ
passes test x = cond (test x) 1 0

swapped : (a b m n : ℕ) → m ≡ a + n → b + m ≡ a + (b + n)
swapped a b m n h = omega (arith, h)

module _ {X : Type 0} (test : X → Bool) (cmp : X → X → Ordering) where
  first_counts : (x : X) (xs : List X) → count_by test (x ∷ xs) ≡ passes test x + count_by test xs
  first_counts x xs = sum_by-cons (passes test) x xs

  put_counts : (x : X) (ys : List X) → count_by test (put cmp x ys) ≡ passes test x + count_by test ys
  put_counts x [] = first_counts x []
  put_counts x (y ∷ ys) = at (is_gt (cmp x y)) (put_counts x ys)
    where
      at : (b : Bool) → count_by test (put cmp x ys) ≡ passes test x + count_by test ys
          → count_by test (if b then y ∷ put cmp x ys else x ∷ y ∷ ys) ≡ passes test x + count_by test (y ∷ ys)
      at true rest =
          first_counts y (put cmp x ys) ∙ swapped (passes test x) (passes test y) (count_by test (put cmp x ys)) (count_by test ys) rest ∙ ap (λ n. passes test x + n) (sym (first_counts y ys))
      at false rest = first_counts x (y ∷ ys)

  sorted_counts : (xs : List X) → count_by test (sorted cmp xs) ≡ count_by test xs
  sorted_counts [] = refl
  sorted_counts (x ∷ xs) = put_counts x (sorted cmp xs) ∙ ap (λ n. passes test x + n) (sorted_counts xs) ∙ sym (first_counts x xs)

sort_counts : (list : List Order) (t : Table) → HasRowsOf (sort (map key_of list) t) t.schema t.rows
sort_counts list t = record { same_schema = refl; as_many = λ test. sym (sorted_counts test (row_cmp t.schema (keys_or_all t.schema (map key_of list))) t.rows) }

pub answered_value : (r : Result Table EvalError) (t : Table) → result_map_both (λ t. t) told r ≡ Ok t → r ≡ Ok t
answered_value (Ok x) t h = let same : ◌≡◌ {A = Result Table QuestionError} (Ok x) (Ok t) = h in cc
answered_value (Err e) t h = absurd (let same : ◌≡◌ {A = Result Table QuestionError} (Err (told e)) (Ok t) = h in cc)

-- where the keys are due no refusal, the rows of a sorting are those of its table
pub sort_answered : (names : List Named) (viewers : List Meaning) (q : Query) (list : List Order) (t : Table) → answer names viewers q ≡ Ok t → sort_due (map key_of list) t.schema ≡ None
    → (u : Table) × (answer names viewers (one operators.Sort q (orders list)) ≡ Ok u) × HasRowsOf u t.schema t.rows
sort_answered names viewers q list t is due = (
  sort (map key_of list) t,
  ap (λ (r : Result Table EvalError). result_map_both (λ t. t) told (continued r (of_one viewers operators.Sort (orders list)))) (answered_value (value names viewers q) t is)
      ∙ ap (λ (d : Option DerivedError). result_map_both (λ t. t) told (at_size t (outcome d (sort (map key_of list) t)))) due,
  sort_counts list t,
)

-- a table that is answered has its own rows
pub in_order : (due : Result Table QuestionError) (result : Result Layered QuestionError) → Answers table_of due result → AnswersUnordered due result
in_order due (Ok d) h = (table_of d, h, record { same_schema = refl; as_many = λ test. refl })
in_order due (Err e) h = h

-- where rows in whatever order are counted
pub located_is : (names : List Named) (watches : List Followed) (mappings : List MappedView) (viewers : List Meaning) (q : Query) (list : List Criterion) (t : Table) (rows : List (List Datum)) (position count : ℕ) → answer names viewers q ≡ Ok t
    → ((test : List Datum → Bool) → count_by test rows ≡ count_by test t.rows) → literals_due (map asked list) t.schema ≡ None → begin list (known_keys watches mappings q t.schema) ≡ true
    → position ≡ rows_before t.schema (known_keys watches mappings q t.schema) (values_of t.schema list) rows → count ≡ count_by (is_in_range t.schema (values_of t.schema list)) rows
    → locate_due names watches mappings viewers q list ≡ Ok (record { position = position; count = count })
located_is names watches mappings viewers q list t rows position count is as_many due first place_is count_is =
    let place : before_values watches mappings q list t ≡ position =
    sym (place_is ∙ as_many (λ row. is_lt (asked_cmp t.schema (known_keys watches mappings q t.schema) (values_of t.schema list) row))) in
    let number : (located watches mappings q list t).count ≡ count = sym (count_is ∙ as_many (is_in_range t.schema (values_of t.schema list))) in
    ap (λ (r : Result Table QuestionError). continued r (λ t. unless_due (literals_due (map asked list) t.schema) (where_sorted watches mappings q list t (located watches mappings q list t)))) is
    ∙ ap (λ (d : Option DerivedError). unless_due d (where_sorted watches mappings q list t (located watches mappings q list t))) due
    ∙ ap (λ (b : Bool). if b then Ok (located watches mappings q list t) else Err Unsorted) first
    ∙ (λ i. Ok (record { position = place i; count = number i }))

-- in whatever order rows stand, there are as many
pub as_many_rows : (t : Table) (rows : List (List Datum)) → ((test : List Datum → Bool) → count_by test rows ≡ count_by test t.rows) → length rows ≡ length t.rows
as_many_rows t rows same = sym (all_counted rows) ∙ same (λ _. true) ∙ all_counted t.rows
  where
    all_counted : (rows : List (List Datum)) → count_by (λ _. true) rows ≡ length rows
    all_counted [] = refl
    all_counted (row ∷ rest) = let more = sum_by-cons (passes (λ _. true)) row rest in let r = all_counted rest in omega arith
