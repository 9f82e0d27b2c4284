-- What is due where nothing before it is.
use Rattle.std.proofs.Common.{◌≡◌, ℕ, ◌+◌, ◌≤◌, Bool, true, false, List, [], ◌∷◌, ◌++◌, length, map, drop, All, Option, Some, None, refl, ap, sym, ◌∙◌, arith, if◌then◌else◌}
use Rattle.std.specs.Prelude.{◌==◌, nat_lt}
use Rattle.std.specs.Option.{option_or}
use Rattle.std.proofs.lemmas.Option.{none-some}
use Rattle.std.proofs.lemmas.List.{length-append}
use Rattle.mk_value.specs.Heading.{Domain, Attribute}
use Rattle.mk_value.specs.Limits.{max_properties}
use Rattle.mk_value.specs.Tables.{Table}
use Rattle.derived.specs.Viewing.{calc_due, keep_due, not_taken, of_other_kind}
use Rattle.relations.specs.Columns.{column_of}
use Rattle.relations.specs.Refusals.{absent, where_so}
use Rattle.relations.specs.Equality.{same_domain}
use Rattle.relations.specs.Rows.{has, domain_of}
use Rattle.relations.specs.declared.error.DerivedError.{DerivedError}
use Rattle.relations.specs.declared.error.DerivedError.TheVariants.{NameTaken, WrongKind, TooWide}
use Rattle.relations.proofs.Names.{all_present}
use Rattle.viewed.specs.Asking.{AreAsked}
use Rattle.viewed.proofs.Arguments.{are_asked}

pub first_none : (a b : Option DerivedError) → option_or a b ≡ None → a ≡ None
first_none None b h = refl
first_none (Some e) b h = absurd (none-some _ (sym h))

pub rest_none : (a b : Option DerivedError) → option_or a b ≡ None → b ≡ None
rest_none None b h = h
rest_none (Some e) b h = absurd (none-some _ (sym h))

not_so : (b : Bool) (e : DerivedError) → where_so b e ≡ None → b ≡ false
not_so true e h = absurd (none-some _ (sym h))
not_so false e h = refl

as_one : (a b c : Option DerivedError) → option_or a (option_or b (option_or c None)) ≡ option_or (option_or a (option_or b None)) c
as_one (Some e) b c = refl
as_one None (Some e) c = refl
as_one None None (Some e) = refl
as_one None None None = refl

-- a new property is due what asking is due, between its name and its width
pub calc_due_is : (viewer : List ℕ) (takes : List Domain) (args : List (List ℕ)) (new : List ℕ) (t : Table)
    → calc_due viewer takes args new t ≡ option_or (where_so (has t.schema new) (NameTaken new)) (option_or (keep_due viewer takes args t.schema) (where_so (nat_lt max_properties (length t.schema + 1)) TooWide))
calc_due_is viewer takes args new t =
    let last : Attribute = record { name = new; domain = Domain.long } in
    ap (option_or (where_so (has t.schema new) (NameTaken new))) (
    as_one (absent t.schema args) (not_taken viewer takes t.schema args) (where_so (nat_lt max_properties (length (t.schema ++ last ∷ []))) TooWide)
    ∙ ap (λ n. option_or (keep_due viewer takes args t.schema) (where_so (nat_lt max_properties n) TooWide)) (length-append t.schema (last ∷ [])))

same_count : (m n : ℕ) (e : DerivedError) (o : Option DerivedError) → (if m == n then o else Some e) ≡ None → (m ≡ n) × (o ≡ None)
same_count m n e o h = at (m == n) refl h
  where
    at : (b : Bool) → (m == n) ≡ b → (if b then o else Some e) ≡ None → (m ≡ n) × (o ≡ None)
    at true t h = (grind arith, h)
    at false t h = absurd (none-some _ (sym h))

-- the arguments are there
pub args_present : (viewer : List ℕ) (takes : List Domain) (args : List (List ℕ)) (schema : List Attribute) → keep_due viewer takes args schema ≡ None → absent schema args ≡ None
args_present viewer takes args schema due = first_none (absent schema args) (option_or (not_taken viewer takes schema args) None) due

pub args_here : (viewer : List ℕ) (takes : List Domain) (args : List (List ℕ)) (schema : List Attribute) → keep_due viewer takes args schema ≡ None → All (λ name. has schema name ≡ true) args
args_here viewer takes args schema due = all_present schema args (args_present viewer takes args schema due)

-- where asking is due no refusal, the columns of the arguments may be asked
pub may_ask : (viewer : List ℕ) (takes : List Domain) (args : List (List ℕ)) (schema : List Attribute) (columns : List ℕ) → keep_due viewer takes args schema ≡ None → columns ≡ map (column_of schema) args → AreAsked schema takes columns
may_ask viewer takes args schema columns due e =
    let taken = first_none (not_taken viewer takes schema args) None (rest_none (absent schema args) (option_or (not_taken viewer takes schema args) None) due) in
    let both = same_count (length args) (length takes) (WrongKind viewer) (of_other_kind takes schema args) taken in
    are_asked schema takes args columns (args_here viewer takes args schema due) both.0 both.1 e

-- where a new property is due no refusal
pub record IsFree (viewer : List ℕ) (takes : List Domain) (args : List (List ℕ)) (new : List ℕ) (schema : List Attribute) : Type 0 where
  pub other : has schema new ≡ false
  pub asked : keep_due viewer takes args schema ≡ None
  pub few : length schema + 1 ≤ max_properties

few_from : (n : ℕ) → nat_lt max_properties n ≡ false → n ≤ max_properties
few_from n h = grind arith

pub is_free : (viewer : List ℕ) (takes : List Domain) (args : List (List ℕ)) (new : List ℕ) (t : Table) → calc_due viewer takes args new t ≡ None → IsFree viewer takes args new t.schema
is_free viewer takes args new t due =
    let h = sym (calc_due_is viewer takes args new t) ∙ due in
    let wide = where_so (nat_lt max_properties (length t.schema + 1)) TooWide in
    let rest = rest_none (where_so (has t.schema new) (NameTaken new)) (option_or (keep_due viewer takes args t.schema) wide) h in
    record {
      other = not_so (has t.schema new) (NameTaken new) (first_none (where_so (has t.schema new) (NameTaken new)) (option_or (keep_due viewer takes args t.schema) wide) h);
      asked = first_none (keep_due viewer takes args t.schema) wide rest;
      few = few_from (length t.schema + 1) (not_so (nat_lt max_properties (length t.schema + 1)) TooWide (rest_none (keep_due viewer takes args t.schema) wide rest));
    }

-- one argument further
module _ (takes : List Domain) (schema : List Attribute) (args : List (List ℕ)) (i : ℕ) (e : Domain) (arg : List ℕ) (taken : drop i takes ≡ e ∷ drop (i + 1) takes) (read : drop i args ≡ arg ∷ drop (i + 1) args) where
  here : of_other_kind (drop i takes) schema (drop i args) ≡ (if same_domain (domain_of schema arg) e then of_other_kind (drop (i + 1) takes) schema (drop (i + 1) args) else Some (WrongKind arg))
  here = ap (λ ds. of_other_kind ds schema (drop i args)) taken ∙ ap (λ names. of_other_kind (e ∷ drop (i + 1) takes) schema names) read

  pub kind_stops : same_domain (domain_of schema arg) e ≡ false → of_other_kind (drop i takes) schema (drop i args) ≡ Some (WrongKind arg)
  kind_stops h = here ∙ ap (λ (b : Bool). if b then of_other_kind (drop (i + 1) takes) schema (drop (i + 1) args) else Some (WrongKind arg)) h

  pub kind_passes : same_domain (domain_of schema arg) e ≡ true → of_other_kind (drop i takes) schema (drop i args) ≡ of_other_kind (drop (i + 1) takes) schema (drop (i + 1) args)
  kind_passes h = here ∙ ap (λ (b : Bool). if b then of_other_kind (drop (i + 1) takes) schema (drop (i + 1) args) else Some (WrongKind arg)) h
