use Rattle.std.proofs.Common.{[], ◌≡◌, ◌<◌, ◌≤◌, length, take, ap, sym, subst, ◌∙◌, rules, arith}
use Rattle.std.proofs.lemmas.List.{take_all}
use Rattle.std.proofs.lemmas.List.Elements.{All-nil}
use Rattle.segments.specs.Joined.{joined}
use Rattle.tables.specs.Pools.{Adds}
use Rattle.tables.proofs.Cells.{IfOk-then}
use Rattle.tables.proofs.Adding.{adds_none, adds_next}
use Rattle.tables.proofs.Chunks.{count_holds}
use Rattle.tables.proofs.spine.Spine.pooled.Goals as goal

pub push_pooled-requires-clause-some : goal.push_pooled-requires-clause-some
push_pooled-requires-clause-some c = count_holds (λ n. 0 < n) c.self.inside.chunks c.loop-at.at c.get.result.now (omega arith) c.get.ensures c.self.invariant.some

pub push_pooled-requires-clause-few : goal.push_pooled-requires-clause-few
push_pooled-requires-clause-few c = count_holds (λ n. n ≤ 1024) c.self.inside.chunks c.loop-at.at c.get.result.now (omega arith) c.get.ensures c.self.invariant.each

pub loop-at-init : goal.loop-at-init
loop-at-init c =
    let none : c.new-chunks.result.items ≡ [] = search rules in
    subst (Adds [] []) (sym none) (adds_none [])

pub loop-at-preserved : goal.loop-at-preserved
loop-at-preserved c =
    adds_next [] c.loop-at.chunks.items c.push_pooled.new.chunks.items c.self.inside.chunks c.loop-at.at c.get.result.now (omega arith) c.get.ensures c.loop-at.invariant c.in_ok-push_pooled.ensures

pub of_chunks-requires-clause-some : goal.of_chunks-requires-clause-some
of_chunks-requires-clause-some c = c.loop-at.invariant.some (All-nil (λ n. 0 < n))

pub of_chunks-requires-clause-each : goal.of_chunks-requires-clause-each
of_chunks-requires-clause-each c = c.loop-at.invariant.each (All-nil (λ n. n ≤ 1024))

pub of_chunks-requires-clause-few : goal.of_chunks-requires-clause-few
of_chunks-requires-clause-few c =
    let all : joined c.loop-at.chunks.items ≡ joined c.args.self.now = c.loop-at.invariant.joined_is ∙ ap joined (take_all c.loop-at.at c.self.inside.chunks (omega arith)) ∙ ap joined c.self.view_is in
    omega (arith, ap length all, c.len-few.ensures.few, c.len-few.ensures.len)

pub returns : goal.returns
returns c =
    let all : joined c.loop-at.chunks.items ≡ joined c.args.self.now = c.loop-at.invariant.joined_is ∙ ap joined (take_all c.loop-at.at c.self.inside.chunks (omega arith)) ∙ ap joined c.self.view_is in
    IfOk-then c.of_chunks.result c.of_chunks.ensures (λ u e. ap joined e ∙ all)
