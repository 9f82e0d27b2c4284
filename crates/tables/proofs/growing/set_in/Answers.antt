use Rattle.std.proofs.Common.{◌≡◌, ◌++◌, ap, ◌∙◌, arith, length}
use Rattle.std.proofs.lemmas.Result.{on_ok_weaker}
use Rattle.segments.specs.Joined.{joined}
use Rattle.segments.proofs.Joined.{set-append-left}
use Rattle.segments.proofs.Last.{set-right}
use Rattle.tables.proofs.growing.set_in.Goals as goal

pub returns-then-at-before-clause-ok : goal.returns-then-at-before-clause-ok
returns-then-at-before-clause-ok c =
    let before : c.len-before.result ≡ length (joined c.args.spine.now.value) = rw c.deref.ensures at c.len-before.ensures.len in
    on_ok_weaker c.set_shared.result
    (λ put. ap (λ ts. ts ++ c.args.last.now) put
    ∙ set-append-left (joined c.args.spine.now.value) c.args.last.now c.args.at c.args.table (omega (arith, before, c.if-at-before.true)))
    c.set_shared.ensures.ok

pub returns-clause-ok : goal.returns-clause-ok
returns-clause-ok c =
    let before : c.len-before.result ≡ length (joined c.args.spine.now.value) = rw c.deref.ensures at c.len-before.ensures.len in
    ap (λ ts. joined c.args.spine.now.value ++ ts) (rw before at c.set.ensures)
    ∙ set-right (joined c.args.spine.now.value) c.args.last.now c.args.at c.args.table (omega (arith, before, c.if-at-before.false))
