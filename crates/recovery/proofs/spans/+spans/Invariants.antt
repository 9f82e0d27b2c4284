use Rattle.std.proofs.Common.{◌≡◌, ◌+◌, ◌++◌, drop, map}
use Rattle.dir_codec.specs.Dir.{bodies_from, entries_from}
use Rattle.dir_codec.specs.DirCode.{columns_weight, entry_weight, tables_weight}
use Rattle.dir_codec.specs.Values.{body_of, entry_of}
use Rattle.recovery.specs.Spans.{bodies_spans, entries_spans, some_spans}
use Rattle.recovery.proofs.spans.+spans.Given as goal

abbrev pub decreases-push_column : goal.decreases-push_column
decreases-push_column l = entry_weight (entry_of l.column.now)

abbrev pub decreases-push_columns : goal.decreases-push_columns
decreases-push_columns l = columns_weight l.columns.now

abbrev pub decreases-push_bodies : goal.decreases-push_bodies
decreases-push_bodies l = tables_weight l.bodies.now + 1

-- the spans so far, with those to come, are all
abbrev pub invariant-push_columns-loop-column : goal.invariant-push_columns-loop-column
invariant-push_columns-loop-column l =
    l.spans.items ++ some_spans (entries_spans (entries_from (map entry_of (drop l.column-index l.column-items)))) ≡ l.fn.spans.items ++ some_spans (entries_spans (entries_from (map entry_of l.column-items)))

abbrev pub invariant-push_bodies-loop-body : goal.invariant-push_bodies-loop-body
invariant-push_bodies-loop-body l =
    l.spans.items ++ some_spans (bodies_spans (bodies_from (map body_of (drop l.body-index l.body-items)))) ≡ l.fn.spans.items ++ some_spans (bodies_spans (bodies_from (map body_of l.body-items)))
