use Rattle.std.proofs.Common.{◌≡◌, List, map, ap, sym, ◌∙◌, Some}
use Rattle.std.proofs.lemmas.Option.{IfSome_then}
use Rattle.std.proofs.lemmas.Result.{IfOk-weaker}
use Rattle.computing.specs.Computed.{alone, counts_over, rows_over, shown_of}
use Rattle.computing.specs.declared.computed.Computation.{Computation}
use Rattle.computing.specs.declared.computed.Computation.TheVariants.{Counts, Filter}
use Rattle.computing.proofs.Naming.{kept_found}
use Rattle.eval.specs.Names.{continued, view_at}
use Rattle.eval.specs.Values.{at_path}
use Rattle.computing.proofs.names.at_hand.Goals as goal

pub returns-in-Counts : goal.returns-in-Counts
returns-in-Counts g c =
    let names = g.S.Names.named c.args.sources.now in
    let viewers = map g.V.Viewer.meaning c.args.viewers.now in
    let w = c.args.watch.now in
    let keys = c.in-Counts.keys in
    let count = c.in-Counts.count in
    let is : w.shows ≡ Counts keys count = sym c.shows.ensures.shows ∙ c.in-Counts.is in
    IfOk-weaker c.counts_at_hand.result _ _
    (λ found h. IfSome_then found h (λ d at.
    ap (λ (shows : Computation). continued (at_path (view_at names (alone w.source))) (shown_of viewers shows)) is
    ∙ (λ i. counts_over names (sym c.source.ensures i) (sym c.as_slice.ensures i) count) ∙ at))
    c.counts_at_hand.ensures

pub returns-in-Some : goal.returns-in-Some
returns-in-Some g c =
    let names = g.S.Names.named c.args.sources.now in
    let viewers = map g.V.Viewer.meaning c.args.viewers.now in
    let w = c.args.watch.now in
    let props = c.in-Filter.props in
    let m = g.V.Viewer.meaning c.in-Some.viewer.now in
    let is : w.shows ≡ Filter c.in-Filter.name props = sym c.shows.ensures.shows ∙ c.in-Filter.is in
    IfOk-weaker c.rows_at_hand.result _ _
    (λ found h. IfSome_then found h (λ d at.
    ap (λ (shows : Computation). continued (at_path (view_at names (alone w.source))) (shown_of viewers shows)) is
    ∙ kept_found names viewers w.source c.in-Filter.name props m c.in-Some.ensures
    ∙ (λ i. rows_over names (sym c.source-in-Some.ensures i) m (sym c.as_slice-in-Some.ensures i)) ∙ at))
    c.rows_at_hand.ensures
