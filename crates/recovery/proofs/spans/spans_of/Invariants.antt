use Rattle.std.proofs.Common.{◌≡◌, ◌++◌, drop, map}
use Rattle.std.specs.List.{flat_map}
use Rattle.dir_codec.specs.Values.{view_of}
use Rattle.recovery.specs.Spans.{entries_spans, some_spans}
use Rattle.recovery.proofs.spans.spans_of.Given as goal

-- the spans so far, with those to come, are all
abbrev pub invariant-loop-view : goal.invariant-loop-view
invariant-loop-view l =
    l.spans.items ++ some_spans (flat_map (λ v. entries_spans v.columns) (map view_of (drop l.view-index l.view-items))) ≡ some_spans (flat_map (λ v. entries_spans v.columns) (map view_of l.view-items))
