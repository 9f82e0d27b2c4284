-- A slice of a sorting stands on the first rows of the sorting alone.
use Rattle.std.proofs.Common.{◌≡◌, ℕ, ℤ, List, length, take, refl, ap, sym, arith}
use Rattle.std.specs.Prelude.{Option, Some, None, Result, Ok, Err, unsigned_abs}
use Rattle.std.proofs.lemmas.List.{length-take, take_all}
use Rattle.relations.proofs.Orders.{length-sorted}
use Rattle.mk_value.specs.Data.{Datum}
use Rattle.mk_value.specs.Tables.{Table}
use Rattle.relations.specs.Answers.{outcome}
use Rattle.relations.specs.declared.criteria.Key.{Key}
use Rattle.relations.specs.declared.error.DerivedError.{DerivedError}
use Rattle.relations.specs.Sorting.{keys_or_all, row_cmp}
use Rattle.derived.specs.Operators.{every, first_rows, is_backwards, slice, sort, turned_if, with_rows}
use Rattle.eval.specs.Names.{continued}
use Rattle.eval.specs.Values.{at_size}
use Rattle.eval.specs.declared.error.EvalError.{EvalError}

pub taken_again : {X : Type 0} (n : ℕ) (xs : List X) → take n (take n xs) ≡ take n xs
taken_again n xs = let e = length-take n xs in take_all n (take n xs) (omega arith)

pub slice_of_first : (first limit : ℕ) (step : ℤ) (t : Table) → slice first limit step (first_rows limit t) ≡ slice first limit step t
slice_of_first first limit step t =
    ap (λ (taken : List (List Datum)). with_rows t (turned_if (is_backwards step) (every (unsigned_abs step) first taken))) (taken_again limit t.rows)

pub sort_keeps_size : (keys : List Key) (t : Table) → length (sort keys t).rows ≡ length t.rows
sort_keeps_size keys t = length-sorted (row_cmp t.schema (keys_or_all t.schema keys)) t.rows

-- where the first rows are given, no refusal was due
pub done_before : (due : Option DerivedError) (t u v w : Table) (k : Table → Result Table EvalError) → at_size t (outcome due u) ≡ Ok w → (w ≡ u) × (continued (at_size t (outcome due v)) k ≡ k v)
done_before None t u v w k h = (ap (table_in u) (sym h), refl)
  where
    table_in : Table → Result Table EvalError → Table
    table_in d (Ok x) = x
    table_in d (Err e) = d
done_before (Some x) t u v w k h = absurd (cc)
