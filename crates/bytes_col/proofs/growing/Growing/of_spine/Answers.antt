use Rattle.std.proofs.Common.{◌<◌, ◌∙◌, length, ap, arith}
use Rattle.std.proofs.lemmas.List.{length_push}
use Rattle.std.proofs.lemmas.Result.{IfOk-weaker}
use Rattle.segments.specs.Joined.{joined}
use Rattle.bytes_col.proofs.Grown.{chunks_pushed}
use Rattle.bytes_col.proofs.growing.Growing.of_spine.Goals as goal

pub of-requires-then-takes : goal.of-requires-then-takes
of-requires-then-takes c =
    let ss = c.args.spine.now in
    let v = c.args.value.now in
    let some : 0 < length ss = rw c.get-list.ensures at c.if-takes.ensures.yes.some in
    rw (c.in_ok-head.ensures, c.in_ok-without_last.ensures, c.in_ok-last_with.ensures, c.get-list.ensures)
    (omega (arith, c.requires, ap length (chunks_pushed ss v some), length_push (joined ss) v))

pub returns-then-takes : goal.returns-then-takes
returns-then-takes c =
    let ss = c.args.spine.now in
    let some : 0 < length ss = rw c.get-list.ensures at c.if-takes.ensures.yes.some in
    let made = rw (c.in_ok-head.ensures, c.in_ok-without_last.ensures, c.in_ok-last_with.ensures, c.get-list.ensures) at c.of-then-takes.ensures in
    IfOk-weaker c.of-then-takes.result _ _ (λ growing is. ap joined is ∙ chunks_pushed ss c.args.value.now some) made
