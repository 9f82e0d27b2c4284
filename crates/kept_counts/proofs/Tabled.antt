-- The table of counts that are kept.
use Rattle.std.proofs.Common.{◌≡◌, ℕ, ◌-◌, ◌<◌, ◌≤◌, pos, List, [], ◌∷◌, ◌++◌, length, get_or, map, None, ap, sym, subst, ◌∙◌, arith}
use Rattle.std.specs.Prelude.{slice_index}
use Rattle.std.specs.List.{count_by}
use Rattle.std.proofs.lemmas.List.Sums.{count_by-le-length}
use Rattle.std.specs.Ordering.{is_eq}
use Rattle.derived.specs.Grouping.{counts}
use Rattle.live.specs.declared.op.WatchOp.TheVariants.{Sort}
use Rattle.live_counts.specs.Counting.{AreCounts, run_end}
use Rattle.live_counts.specs.States.{CountsState}
use Rattle.live_counts.proofs.Spans.{counted_run, first_within, with_kept, with_starts}
use Rattle.live_counts.proofs.Operating.{key_of, keys_named, runs_are}
use Rattle.mk_value.specs.Data.{AreRowsOf, Datum, integer}
use Rattle.mk_value.specs.Heading.{Attribute, Domain}
use Rattle.mk_value.specs.Limits.{max_rows}
use Rattle.mk_value.specs.Tables.{Table}
use Rattle.relations.specs.Columns.{column_of, values_at}
use Rattle.relations.specs.Positions.{numbers}
use Rattle.relations.specs.Refusals.{a_view, absent}
use Rattle.relations.specs.Rows.{once, properties_of, values_of}
use Rattle.relations.specs.Sorting.{row_cmp}
use Rattle.relations.specs.declared.criteria.Key.{Key}
use Rattle.grouping.proofs.CountTables.{counted_are, counted_whole}
use Rattle.grouping.proofs.KeyColumns.{keys_here, rows_are}
use Rattle.kept_counts.specs.Following.{counted_at}
use Rattle.kept_counts.specs.Keeping.{AreCountsBy}
use Rattle.kept_counts.proofs.Keying.{are_keys}

-- the first row of a run stands among the rows
pub first_there : (schema : List Attribute) (rows : List (List Datum)) (c : CountsState) (keys : List Key) (i : ℕ) → AreCounts schema rows c → c.op ≡ Sort keys → i < length c.starts
    → slice_index c.kept (slice_index c.starts i) < length rows
first_there schema rows c keys i h is p =
    let kept = with_kept schema keys rows c h is in
    let places = with_starts schema keys rows c h is in
    rw (kept, places) (first_within schema keys rows i (rw places at p))

-- a run is no longer than there are rows
pub run_few : (schema : List Attribute) (rows : List (List Datum)) (c : CountsState) (keys : List Key) (i : ℕ) → AreCounts schema rows c → c.op ≡ Sort keys → i < length c.starts
    → run_end c i - slice_index c.starts i ≤ max_rows
run_few schema rows c keys i h is p =
    let kept = with_kept schema keys rows c h is in
    let places = with_starts schema keys rows c h is in
    let counted : run_end c i - slice_index c.starts i ≡ count_by (λ row. is_eq (row_cmp schema keys row (get_or rows (slice_index c.kept (slice_index c.starts i)) []))) rows =
    rw (kept, places) (counted_run schema keys rows i (rw places at p)) in
    let few = count_by-le-length (λ row. is_eq (row_cmp schema keys row (get_or rows (slice_index c.kept (slice_index c.starts i)) []))) rows in
    let small = h.small in
    omega arith

-- the values in the columns of the keys are those for their names
value_row : (schema : List Attribute) (keys : List (List ℕ)) (columns : List ℕ) (row : List Datum) → absent schema keys ≡ None → columns ≡ map (column_of schema) (once keys) → values_at columns row ≡ values_of schema (once keys) row
value_row schema keys columns row present e = ap (λ (rows : List (List Datum)). get_or rows 0 []) (rows_are schema (once keys) (keys_here schema keys present) columns e (row ∷ []))

-- the rows of the counts are those of the operator
pub counted_is : (t : Table) (keys : List (List ℕ)) (count : List ℕ) (columns : List ℕ) (c : CountsState) → AreRowsOf t.rows t.schema → AreCountsBy t.schema t.rows keys c → columns ≡ map (column_of t.schema) (once keys)
    → map (counted_at columns t.rows c) (numbers (length c.starts)) ≡ (counts keys count t).rows
counted_is t keys count columns c whole by e =
    let k = are_keys t.schema keys by.keyed in
    (λ i. map (λ n. value_row t.schema keys columns (get_or t.rows (slice_index c.kept (slice_index c.starts n)) []) k.present e i ++ integer (pos (run_end c n - slice_index c.starts n)) ∷ []) (numbers (length c.starts)))
    ∙ (let named = by.op ∙ ap Sort (keys_named t.schema (once keys) (keys_here t.schema keys k.present)) in
    let kept = with_kept t.schema (map key_of (once keys)) t.rows c by.now named in
    let places = with_starts t.schema (map key_of (once keys)) t.rows c by.now named in
    rw (kept, places) (runs_are t keys count whole k.present k.plain))

-- they are rows of the schema with the count
pub counted_fit : (t : Table) (keys : List (List ℕ)) (count : List ℕ) → AreRowsOf t.rows t.schema → absent t.schema keys ≡ None → a_view t.schema keys ≡ None
    → AreRowsOf (counts keys count t).rows (properties_of t.schema (once keys) ++ record { name = count; domain = Domain.integer } ∷ [])
counted_fit t keys count whole present plain =
    subst (λ rows. AreRowsOf rows (properties_of t.schema (once keys) ++ record { name = count; domain = Domain.integer } ∷ [])) (sym (counted_are t keys count whole plain)) (counted_whole t keys count whole present)
