use Rattle.std.proofs.Common.{ℕ, ◌<◌, List, All, length, map, ap, sym, subst, ◌∙◌}
use Rattle.mk_value.specs.Heading.{Attribute}
use Rattle.relations.specs.Columns.{column_of}
use Rattle.relations.specs.Rows.{once}
use Rattle.kept_counts.proofs.Keying.{are_keys, columns_plain, columns_some, columns_within}
use Rattle.kept_counts.proofs.making.counts_of.Goals as goal

pub positions_of-requires : goal.positions_of-requires
positions_of-requires c =
    let schema = c.args.rows.now.schema in
    let keys = c.args.keys.now in
    let e = c.in_ok-columns.ensures ∙ ap (λ (s : List Attribute). map (column_of s) (once keys)) c.schema.ensures.value in
    subst (λ (s : List Attribute). All (λ j. j < length s) c.in_ok-columns.columns) (sym c.schema-2.ensures.value) (columns_within schema keys c.in_ok-columns.columns (are_keys schema keys c.requires).present e)

pub make-requires-clause-some : goal.make-requires-clause-some
make-requires-clause-some c =
    let schema = c.args.rows.now.schema in
    let keys = c.args.keys.now in
    let e = c.in_ok-positions.ensures ∙ c.in_ok-columns.ensures ∙ ap (λ (s : List Attribute). map (column_of s) (once keys)) c.schema.ensures.value in
    subst (λ (ps : List ℕ). 0 < length ps) (sym e) (columns_some schema keys (are_keys schema keys c.requires).some)

pub make-requires-clause-plain : goal.make-requires-clause-plain
make-requires-clause-plain c =
    let schema = c.args.rows.now.schema in
    let keys = c.args.keys.now in
    let e = c.in_ok-positions.ensures ∙ c.in_ok-columns.ensures ∙ ap (λ (s : List Attribute). map (column_of s) (once keys)) c.schema.ensures.value in
    columns_plain schema keys c.in_ok-positions.positions (are_keys schema keys c.requires) e
