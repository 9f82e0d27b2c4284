use Rattle.std.proofs.Common.{map, ap, ◌∙◌}
use Rattle.std.specs.Result.{result_map_both}
use Rattle.computing.specs.Computed.{computed_names}
use Rattle.eval.specs.Names.{view_at}
use Rattle.eval.specs.Values.{at_path}
use Rattle.questions.specs.Kept.{asked_names, sources, stored, watched}
use Rattle.questions.specs.Told.{told}
use Rattle.questions.proofs.Answering.{path_told}
use Rattle.questions.proofs.Found.{view_at-first}
use Rattle.questions.proofs.scope.Scope.shared.Goals as goal

pub returns-in-Ok : goal.returns-in-Ok
unfolding asked_names
returns-in-Ok g c =
    let n = c.args.self.now.names in
    let viewers = map g.V.Viewer.meaning c.args.self.now.viewers.now in
    ap (λ r. result_map_both (λ t. t) told (at_path r))
    (view_at-first (stored n.views n.snapshots) (watched n.views n.watches) (computed_names (sources n) viewers c.args.self.now.computed.now) c.args.path.now c.requires ∙ c.in-Ok.ensures.ok)

pub returns-in-Err : goal.returns-in-Err
unfolding asked_names
returns-in-Err g c =
    let n = c.args.self.now.names in
    let viewers = map g.V.Viewer.meaning c.args.self.now.viewers.now in
    rw c.of_name.ensures
    (rw (view_at-first (stored n.views n.snapshots) (watched n.views n.watches) (computed_names (sources n) viewers c.args.self.now.computed.now) c.args.path.now c.requires)
    (path_told (view_at (stored n.views n.snapshots) c.args.path.now) _ c.in-Err.ensures.err))
