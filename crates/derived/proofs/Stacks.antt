-- What is due where two tables are put under one another.
use Rattle.std.proofs.Common.{◌≡◌, ◌↔◌, ℕ, ◌+◌, ◌<◌, ◌≤◌, Bool, true, false, not, cond, ltb, List, ◌++◌, length, Some, None, IsTrue, refl, ap, sym, ◌∙◌, arith}
use Rattle.std.specs.Option.{option_or}
use Rattle.std.proofs.lemmas.Bool.{false≢true}
use Rattle.std.proofs.lemmas.Option.{none-some}
use Rattle.std.proofs.lemmas.Bool.Decides.{nat_tests}
use Rattle.std.proofs.lemmas.List.{length-append}
use Rattle.mk_value.specs.Limits.{max_rows}
use Rattle.mk_value.specs.Heading.{Attribute}
use Rattle.mk_value.specs.Tables.{Table}
use Rattle.relations.specs.declared.error.DerivedError.TheVariants.{OtherSchema, TooManyRows}
use Rattle.relations.specs.Equality.{same_schema}
use Rattle.derived.specs.Refusals.{concat_due}
use Rattle.relations.proofs.SameSchemas.{same_schema_is, same_schema_tells}

other_none : (s m : Bool) → option_or (cond (not s) (Some OtherSchema) None) (option_or (cond m (Some TooManyRows) None) None) ≡ None → (s ≡ true) × (m ≡ false)
other_none true true h = absurd (none-some _ (sym h))
other_none true false h = (refl, refl)
other_none false m h = absurd (none-some _ (sym h))

due_other : (s m : Bool) → s ≡ false → Some OtherSchema ≡ option_or (cond (not s) (Some OtherSchema) None) (option_or (cond m (Some TooManyRows) None) None)
due_other false m e = refl
due_other true m e = absurd (false≢true (sym e))

due_many : (s m : Bool) → s ≡ true → m ≡ true → Some TooManyRows ≡ option_or (cond (not s) (Some OtherSchema) None) (option_or (cond m (Some TooManyRows) None) None)
due_many true true e f = refl
due_many true false e f = absurd (false≢true f)
due_many false m e f = absurd (false≢true e)

due_none : (s m : Bool) → s ≡ true → m ≡ false → None ≡ option_or (cond (not s) (Some OtherSchema) None) (option_or (cond m (Some TooManyRows) None) None)
due_none true false e f = refl
due_none true true e f = absurd (false≢true (sym f))
due_none false m e f = absurd (false≢true e)

above : (n m : ℕ) → n < m → ltb n m ≡ true
above n m h = grind (arith, nat_tests)

not_above : (n m : ℕ) → m ≤ n → ltb n m ≡ false
not_above n m h = grind (arith, nat_tests)

-- what a comparison of the schemas and of the sizes tells of what is due
module _ (a b : Table) (p q : List Attribute) (r : Bool) (size more : ℕ) (one : p ≡ a.schema) (two : q ≡ b.schema) (h : IsTrue r ↔ (p ≡ q)) where
  same : same_schema a.schema b.schema ≡ r
  same = sym (same_schema_is r p q h ∙ ap (λ (s : List Attribute). same_schema s q) one ∙ ap (same_schema a.schema) two)

  pub other_due : r ≡ false → Some OtherSchema ≡ concat_due a b
  other_due e = due_other (same_schema a.schema b.schema) (ltb max_rows (length (a.rows ++ b.rows))) (same ∙ e)

  pub many_due : r ≡ true → size ≡ length a.rows → more ≡ length b.rows → max_rows < size + more → Some TooManyRows ≡ concat_due a b
  many_due e f g k =
      let long = length-append a.rows b.rows in
      due_many (same_schema a.schema b.schema) (ltb max_rows (length (a.rows ++ b.rows))) (same ∙ e) (above max_rows (length (a.rows ++ b.rows)) (omega arith))

  pub none_due : r ≡ true → size ≡ length a.rows → more ≡ length b.rows → size + more ≤ max_rows → None ≡ concat_due a b
  none_due e f g k =
      let long = length-append a.rows b.rows in
      due_none (same_schema a.schema b.schema) (ltb max_rows (length (a.rows ++ b.rows))) (same ∙ e) (not_above max_rows (length (a.rows ++ b.rows)) (omega arith))

at_most : (n m : ℕ) → ltb n m ≡ false → m ≤ n
at_most n m h = grind (arith, nat_tests)

pub concat_none : (a b : Table) → concat_due a b ≡ None → (a.schema ≡ b.schema) × (length a.rows + length b.rows ≤ max_rows)
concat_none a b h =
    let both = other_none (same_schema a.schema b.schema) (ltb max_rows (length (a.rows ++ b.rows))) h in
    let few = at_most max_rows (length (a.rows ++ b.rows)) both.1 in
    let long = length-append a.rows b.rows in
    ((same_schema_tells a.schema b.schema).0 both.0, omega arith)
