-- Keys in columns that are no views may be asked.
use Rattle.std.proofs.Common.{◌≡◌, ℕ, ◌<◌, false, true, List, [], length, get_or, All, None, ap, sym, ◌∙◌}
use Rattle.std.specs.Cmp.Lexicographic.{nat_list_eq_equiv}
use Rattle.std.proofs.lemmas.List.Elements.{All-map}
use Rattle.std.proofs.lemmas.List.Folds.{list_any_at}
use Rattle.mk_value.specs.Heading.{Attribute, Domain, HaveDistinctNames}
use Rattle.mk_value.specs.Tables.{domain_at}
use Rattle.relations.specs.Fitting.{is_view}
use Rattle.relations.specs.Keys.{IsPlainKey}
use Rattle.relations.specs.Refusals.{sort_due}
use Rattle.relations.specs.Rows.{domain_of, has, is_named}
use Rattle.relations.proofs.Headings.{column_here}
use Rattle.relations.proofs.Names.{property_at_column}
use Rattle.live.proofs.Spelling.{plain_names}
use Rattle.live_counts.specs.Counting.{keys_in}

-- the property in a column
abbrev blank : Attribute
blank = record { name = []; domain = Domain.integer }

own_key : (schema : List Attribute) → HaveDistinctNames schema → (j : ℕ) → j < length schema → is_view (domain_at schema j) ≡ false → IsPlainKey schema (record { prop = (get_or schema j blank).name; down = false })
own_key schema distinct j p flat =
    let a = get_or schema j blank in
    let here : has schema a.name ≡ true = list_any_at (is_named a.name) schema j blank p (nat_list_eq_equiv.refl a.name) in
    let same : domain_of schema a.name ≡ a.domain =
    ap (λ (x : Attribute). x.domain) (sym (property_at_column schema a.name blank here)) ∙ ap (λ k. (get_or schema k blank).domain) (column_here schema j blank distinct p) in
    record { present = here; plain = ap is_view same ∙ flat }

pub keys_asked : (schema : List Attribute) (columns : List ℕ) → HaveDistinctNames schema → All (λ j. (j < length schema) × (is_view (domain_at schema j) ≡ false)) columns → sort_due (keys_in schema columns) schema ≡ None
keys_asked schema columns distinct h =
    plain_names schema (keys_in schema columns) (All-map (IsPlainKey schema) (λ j. record { prop = (get_or schema j blank).name; down = false }) columns (λ i d p. let r = h i d p in own_key schema distinct (get_or columns i d) r.0 r.1))
