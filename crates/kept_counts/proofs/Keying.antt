-- What it means that rows may be counted by keys.
use Rattle.std.proofs.Common.{◌≡◌, ℕ, ◌<◌, Bool, true, false, ◌&&◌, ltb, List, length, map, Option, Some, None, arith}
use Rattle.std.specs.List.{All}
use Rattle.std.specs.Option.{is_none}
use Rattle.std.proofs.lemmas.Bool.Decides.{nat_tests}
use Rattle.std.proofs.lemmas.List.{length-map}
use Rattle.mk_value.specs.Heading.{Attribute}
use Rattle.mk_value.specs.Tables.{domain_at}
use Rattle.relations.specs.Columns.{column_of}
use Rattle.relations.specs.Fitting.{is_view}
use Rattle.relations.specs.Refusals.{a_view, absent}
use Rattle.relations.specs.Rows.{once}
use Rattle.grouping.proofs.KeyColumns.{in_range, keys_here, keys_plain, plain_here}
use Rattle.relations.proofs.Headings.{once_some}
use Rattle.kept_counts.specs.Keeping.{may_key}

-- there is a key, and each is a property that is no view
pub record AreKeys (schema : List Attribute) (keys : List (List ℕ)) : Type 0 where
  pub some : 0 < length keys
  pub present : absent schema keys ≡ None
  pub plain : a_view schema keys ≡ None

pub both : (a b : Bool) → (a && b) ≡ true → (a ≡ true) × (b ≡ true)
both true b h = (refl_true, h)
  where
    refl_true : true ≡ true
    refl_true = cc
both false b h = absurd (let f : false ≡ true = h in cc)

pub none_from : {X : Type 0} (o : Option X) → is_none o ≡ true → o ≡ None
none_from None h = cc
none_from (Some x) h = absurd (let f : false ≡ true = h in cc)

pub are_keys : (schema : List Attribute) (keys : List (List ℕ)) → may_key schema keys ≡ true → AreKeys schema keys
are_keys schema keys h =
    let one = both (ltb 0 (length keys)) (is_none (absent schema keys) && is_none (a_view schema keys)) h in
    let two = both (is_none (absent schema keys)) (is_none (a_view schema keys)) one.1 in
    let first = one.0 in
    record { some = grind (arith, nat_tests); present = none_from (absent schema keys) two.0; plain = none_from (a_view schema keys) two.1 }

-- their columns, one at least
pub columns_some : (schema : List Attribute) (keys : List (List ℕ)) → 0 < length keys → 0 < length (map (column_of schema) (once keys))
columns_some schema keys some =
    let n = length-map (once keys) (column_of schema) in
    let m = once_some keys some in
    omega arith

pub columns_within : (schema : List Attribute) (keys : List (List ℕ)) (columns : List ℕ) → absent schema keys ≡ None → columns ≡ map (column_of schema) (once keys) → All (λ j. j < length schema) columns
columns_within schema keys columns present e = in_range schema (once keys) (keys_here schema keys present) columns e

pub columns_plain : (schema : List Attribute) (keys : List (List ℕ)) (columns : List ℕ) → AreKeys schema keys → columns ≡ map (column_of schema) (once keys)
    → All (λ j. (j < length schema) × (is_view (domain_at schema j) ≡ false)) columns
columns_plain schema keys columns h e k d p =
    let one = plain_here schema (once keys) (keys_here schema keys h.present) columns e (keys_plain schema keys h.plain) k d p in
    (one.in_range, one.plain)
