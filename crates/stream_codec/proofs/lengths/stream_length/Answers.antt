use Rattle.std.proofs.Common.{◌≡◌, ◌+◌, ◌<◌, ℕ, ◌∙◌, length, get_or, sym, ap, subst, arith}
use Rattle.tables.specs.Tables.{StoredTable}
use Rattle.stream_codec.specs.Stream.{spelled, spelled_view}
use Rattle.stream_codec.proofs.Written.{counted_more, view_spelled, view_within}
use Rattle.stream_codec.proofs.lengths.stream_length.Goals as goal

pub loop-at-preserved : goal.loop-at-preserved
loop-at-preserved c =
    let root = c.args.root.now in
    let names = c.as_slice-names.result.now in
    let tables = c.tables-tables.result.now in
    let name = c.index-names-at.result in
    let table = c.of.result in
    let named = c.as_slice-names.ensures ∙ c.names.ensures.names in
    let tabled = c.tables-tables.ensures.tables in
    let within : c.loop-at.at < length names = omega arith in
    let at : table ≡ get_or tables c.loop-at.at table = subst (λ (t : StoredTable). t ≡ get_or tables c.loop-at.at t) (sym c.of.ensures) c.index-tables-at.is in
    counted_more spelled_view root c.loop-at.at (record { name = name; table = table }) (length (spelled root)) c.loop-at.len c.in_ok-len.len
    (view_within root names tables c.loop-at.at name table named tabled within c.index-names-at.is at) c.loop-at.invariant
    (c.in_ok-len.ensures.1 ∙ ap (λ (n : ℕ). c.loop-at.len + n) (c.in_ok-view.ensures ∙ ap length (view_spelled root names tables c.loop-at.at name table named tabled within c.index-names-at.is at)))
