use Rattle.std.proofs.Common.{[], get_or, ap, sym, ◌∙◌, inl, inr, arith}
use Rattle.grouping.specs.Index.{keys_of}
use Rattle.relations.specs.WholeOrder.{whole_row_cmp}
use Rattle.grouping.proofs.Indexes.{missed_positions, found_positions}
use Rattle.relations.proofs.Walked.{ne_true, ne_false}
use Rattle.grouping.proofs.index.RowIndex.positions.Goals as goal

pub returns-then-group-groups : goal.returns-then-group-groups
returns-then-group-groups c = missed_positions c.args.self.now c.args.row.now c.search-group.result c.search-group.ensures (inl (omega arith))

pub returns-then-is_ne : goal.returns-then-is_ne
returns-then-is_ne c =
    missed_positions c.args.self.now c.args.row.now c.search-group.result c.search-group.ensures
    (inr (λ tied. ne_true c.cmp_whole_row.result (sym c.is_ne.ensures ∙ c.if-is_ne.true) (c.cmp_whole_row.ensures ∙ ap (λ z. whole_row_cmp z c.args.row.now) c.key.ensures ∙ tied)))

pub returns : goal.returns
returns c =
    c.group.ensures ∙ found_positions c.args.self.now c.args.row.now (get_or (keys_of c.args.self.now) c.search-group.result [])
    (ap (λ z. whole_row_cmp z c.args.row.now) (sym c.key.ensures) ∙ sym c.cmp_whole_row.ensures ∙ ne_false c.cmp_whole_row.result (sym c.is_ne.ensures ∙ c.if-is_ne.false))
