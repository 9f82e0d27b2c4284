use Rattle.std.proofs.Common.{◌≡◌, ◌+◌, ◌++◌, drop, map}
use Rattle.dir_codec.specs.Dir.{bodies_from, entries_from, spelled_bodies, spelled_entries}
use Rattle.dir_codec.specs.DirCode.{columns_weight, entry_weight, tables_weight}
use Rattle.dir_codec.specs.Values.{body_of, entry_of}
use Rattle.dir_codec.proofs.writing.+write.Given as goal

abbrev pub decreases-write_column : goal.decreases-write_column
decreases-write_column l = entry_weight (entry_of l.column.now)

abbrev pub decreases-write_columns : goal.decreases-write_columns
decreases-write_columns l = columns_weight l.columns.now

abbrev pub decreases-write_bodies : goal.decreases-write_bodies
decreases-write_bodies l = tables_weight l.bodies.now + 1

abbrev pub decreases-write_body : goal.decreases-write_body
decreases-write_body l = columns_weight l.body.now.cols + 1

-- what is written, with what the columns to come are spelled as, is what all are
abbrev pub invariant-write_columns-loop-column : goal.invariant-write_columns-loop-column
invariant-write_columns-loop-column l =
    l.out.bytes ++ spelled_entries (entries_from (map entry_of (drop l.column-index l.column-items))) ≡ l.fn.out.bytes ++ spelled_entries (entries_from (map entry_of l.column-items))

-- the same of tables
abbrev pub invariant-write_bodies-loop-body : goal.invariant-write_bodies-loop-body
invariant-write_bodies-loop-body l =
    l.out.bytes ++ spelled_bodies (bodies_from (map body_of (drop l.body-index l.body-items))) ≡ l.fn.out.bytes ++ spelled_bodies (bodies_from (map body_of l.body-items))
