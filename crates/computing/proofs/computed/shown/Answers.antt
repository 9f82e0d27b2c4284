use Rattle.std.proofs.Common.{ℕ, List, map, sym, subst}
use Rattle.derived.specs.Layers.{table_of}
use Rattle.eval.specs.Values.{Evaluates, counted}
use Rattle.computing.specs.Computed.{shown_of}
use Rattle.computing.specs.declared.computed.Computation.{Computation}
use Rattle.computing.proofs.computed.shown.Goals as goal

pub returns-in-Counts : goal.returns-in-Counts
returns-in-Counts g c =
    let t = table_of c.args.base in
    subst (λ (shows : Computation). Evaluates table_of (shown_of (map g.V.Viewer.meaning c.args.viewers.now) shows t) c.counts_by.result) (sym c.in-Counts.is)
    (subst (λ (keys : List (List ℕ)). Evaluates table_of (counted keys c.in-Counts.count t) c.counts_by.result) c.as_slice.ensures c.counts_by.ensures)
