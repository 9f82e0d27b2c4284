use Rattle.std.proofs.Common.{◌∷◌}
use Rattle.std.proofs.lemmas.List.Elements.{All-head, All-same, All-tail}
use Rattle.tables.specs.Compact.{IsCompact}
use Rattle.tables.proofs.cols.push_strings.Goals as goal

pub push_span-requires-2 : goal.push_span-requires-2
push_span-requires-2 c =
    let home = c.args.home.now in
    All-head IsCompact home.short home.memos (All-tail IsCompact home.sizes (home.short ∷ home.memos) c.requires)

pub push_spans-requires : goal.push_spans-requires
push_spans-requires c =
    let home = c.args.home.now in
    All-same IsCompact c.as_slice.result.now home.memos c.as_slice.ensures (All-tail IsCompact home.short home.memos (All-tail IsCompact home.sizes (home.short ∷ home.memos) c.requires))
