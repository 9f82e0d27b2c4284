-- What is answered where the rows refuse a mapping, or memory is wanting to look at them.
use Rattle.std.proofs.Common.{◌≡◌, ◌<◌, ℕ, Bool, true, false, inl, inr, List, length, Option, Some, None, Result, Err, ap, sym, subst, ◌∙◌, arith}
use Rattle.std.proofs.lemmas.Bool.Decides.{nat_tests}
use Rattle.std.specs.Prelude.{nat_le}
use Rattle.std.specs.Option.{option_map, option_or}
use Rattle.mapped.specs.Keys.{keys_of}
use Rattle.mapped.specs.Refusals.{first_repeated, first_unordered}
use Rattle.mk_value.specs.Data.{Datum}
use Rattle.mk_value.specs.Heading.{Attribute}
use Rattle.keyed_views.specs.declared.by.By.{By}
use Rattle.keyed_views.specs.declared.by.By.TheVariants.{Hash, Order}
use Rattle.keyed_views.specs.declared.error.MappingError.{MappingError}
use Rattle.keyed_views.specs.declared.error.MappingError.TheVariants.{InUse, Keys, Limit, Memory}
use Rattle.keyed_views.specs.Mapped.{MappedView, is_mapped}
use Rattle.keyed_views.specs.Refusals.{AnswersPut, AnswersRows, put_due, refused_if, rows_due, schema_due}

err_same : (T : Type 0) (e f : MappingError) → ◌≡◌ {A = Result T MappingError} (Err e) (Err f) → e ≡ f
err_same T e f same = cc

-- what the rows give comes before whether the view has a mapping
rows_first : (T U : Type 0) (by : By) (row : Option ℕ) (used : Bool) (e : MappingError) → AnswersRows {T = T} by (option_map Keys row) (Err e) → AnswersPut {T = U} by (option_or (option_map Keys row) (refused_if used InUse)) (Err e)
rows_first T U Hash (Some row) used e (inl same) = inl (ap Err (err_same T e (Keys row) same))
rows_first T U Hash (Some row) used e (inr lacks) = inr (ap Err (err_same T e Memory lacks))
rows_first T U Hash None true e lacks = inr (ap Err lacks)
rows_first T U Hash None false e lacks = lacks
rows_first T U Order (Some row) used e same = let is : e ≡ Keys row = cc in ap Err is
rows_first T U Order None used e same = absurd (cc)

-- and it comes behind the schema and the number of mappings
put_behind : (by : By) (keys : ℕ) (schema : List Attribute) (rows : List (List Datum)) (all : List MappedView) (view : List ℕ) → schema_due keys schema ≡ None → length all < 64
    → put_due by keys schema rows all view ≡ option_or (rows_due by keys rows) (refused_if (is_mapped all view) InUse)
put_behind by keys schema rows all view fits few =
    let room : nat_le 64 (length all) ≡ false = grind (arith, nat_tests, few) in
    ap (λ o. option_or o (option_or (refused_if (nat_le 64 (length all)) Limit) (option_or (rows_due by keys rows) (refused_if (is_mapped all view) InUse)))) fits
    ∙ ap (λ b. option_or (refused_if b Limit) (option_or (rows_due by keys rows) (refused_if (is_mapped all view) InUse))) room

pub rows_answer : (T U : Type 0) (by : By) (keys : ℕ) (schema : List Attribute) (rows : List (List Datum)) (all : List MappedView) (view : List ℕ) (e : MappingError) → schema_due keys schema ≡ None → length all < 64
    → AnswersRows {T = T} by (rows_due by keys rows) (Err e) → AnswersPut {T = U} by (put_due by keys schema rows all view) (Err e)
rows_answer T U Hash keys schema rows all view e fits few answer =
    subst (λ o. AnswersPut {T = U} Hash o (Err e)) (sym (put_behind Hash keys schema rows all view fits few)) (rows_first T U Hash (first_repeated (keys_of keys rows)) (is_mapped all view) e answer)
rows_answer T U Order keys schema rows all view e fits few answer =
    subst (λ o. AnswersPut {T = U} Order o (Err e)) (sym (put_behind Order keys schema rows all view fits few)) (rows_first T U Order (first_unordered (keys_of keys rows)) (is_mapped all view) e answer)
