use Rattle.std.proofs.Common.{◌≡◌, ◌<◌, List, ℕ, ◌++◌, ◌∙◌, length, get_or, sym, ap, subst, arith}
use Rattle.std.specs.List.{flat_map}
use Rattle.byteorder.specs.Endian.{little_bytes}
use Rattle.tables.specs.Tables.{StoredTable}
use Rattle.stream_codec.specs.Stream.{spelled_view}
use Rattle.stream_codec.proofs.Written.{view_short, view_spelled, view_within, written_more}
use Rattle.stream_codec.proofs.saving.write_views.Goals as goal

pub write_view-requires : goal.write_view-requires
write_view-requires c =
    let names = c.as_slice-names.result.now in
    let tables = c.tables-tables.result.now in
    let table = c.of.result in
    let at : table ≡ get_or tables c.loop-at.at table = subst (λ (t : StoredTable). t ≡ get_or tables c.loop-at.at t) (sym c.of.ensures) c.index-tables-at.is in
    view_short c.args.root.now names tables c.loop-at.at c.index-names-at.result table (c.as_slice-names.ensures ∙ c.names.ensures.names) c.tables-tables.ensures.tables
    (omega arith) c.index-names-at.is at c.names.ensures.whole

pub loop-at-preserved : goal.loop-at-preserved
loop-at-preserved c =
    let root = c.args.root.now in
    let names = c.as_slice-names.result.now in
    let tables = c.tables-tables.result.now in
    let name = c.index-names-at.result in
    let table = c.of.result in
    let named = c.as_slice-names.ensures ∙ c.names.ensures.names in
    let tabled = c.tables-tables.ensures.tables in
    let within : c.loop-at.at < length names = omega arith in
    let at : table ≡ get_or tables c.loop-at.at table = subst (λ (t : StoredTable). t ≡ get_or tables c.loop-at.at t) (sym c.of.ensures) c.index-tables-at.is in
    written_more spelled_view root c.loop-at.at (record { name = name; table = table }) (c.args.out.now.bytes ++ (little_bytes 4 (length root) ++ flat_map spelled_view root)) c.loop-at.out.bytes c.write_view.new.out.bytes
    (view_within root names tables c.loop-at.at name table named tabled within c.index-names-at.is at) c.loop-at.invariant
    (c.in_ok-write_view.ensures ∙ ap (λ (l : List ℕ). c.loop-at.out.bytes ++ l) (view_spelled root names tables c.loop-at.at name table named tabled within c.index-names-at.is at))
