use Rattle.std.proofs.Common.{◌≡◌, ℕ, Bool, true, false, List, map, refl, ap, ◌∙◌}
use Rattle.mk_value.specs.Tables.{Table}
use Rattle.derived.specs.Joining.{join}
use Rattle.derived.specs.Layers.{table_of}
use Rattle.derived.specs.Refusals.{join_due}
use Rattle.relations.specs.Answers.{outcome}
use Rattle.expr_text.specs.Arguments.{names}
use Rattle.expr_text.specs.Meanings.{query_of}
use Rattle.eval.specs.Values.{at_size, of_two}
use Rattle.questions.specs.Answers.{joining}
use Rattle.questions.specs.Kept.{asked_names}
use Rattle.questions.proofs.Sizes.{size_of_two, told_as}
use Rattle.questions.proofs.scope.Scope.pairs.Goals as goal

joined : (outer : Bool) (keys : List (List ℕ)) (a b : Table) → of_two (joining outer) (names keys) a b ≡ at_size a (outcome (join_due outer keys a b) (join outer keys a b))
joined true keys a b = refl
joined false keys a b = refl

pub returns : goal.returns
returns g c =
    let a = table_of c.in_ok-a.a in
    let b = table_of c.in_ok-b.b in
    let keys = c.args.keys.now in
    let outer = c.args.outer in
    size_of_two a (join outer keys a b) (asked_names c.args.self.now.names (map g.V.Viewer.meaning c.args.self.now.viewers.now) c.args.self.now.computed.now) (map g.V.Viewer.meaning c.args.self.now.viewers.now) (query_of c.args.first.now) (query_of c.args.second.now)
    b (joining outer) (names keys) (join_due outer keys a b) c.join_size.result c.told_size.result c.in_ok-a.ensures c.in_ok-b.ensures (joined outer keys a b) c.join_size.ensures.due c.join_size.ensures.ok
    (c.told_size.ensures ∙ ap (λ n. told_as n c.join_size.result) c.size.ensures.value)
