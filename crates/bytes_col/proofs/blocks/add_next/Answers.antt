use Rattle.std.proofs.Common.{◌+◌, ◌-◌, ℕ, List, take, drop, refl, arith}
use Rattle.bytes_col.specs.Parts.{added}
use Rattle.bytes_col.proofs.BlockLaws.{takes_short}
use Rattle.bytes_col.proofs.blocks.add_next.Goals as goal

pub returns-then-size-le-SHORT_MOST-clause-ok : goal.returns-then-size-le-SHORT_MOST-clause-ok
returns-then-size-le-SHORT_MOST-clause-ok c =
    let v : List ℕ = take (c.args.next.byte + c.args.size - c.args.next.byte) (drop c.args.next.byte c.args.short.now) in
    takes_short c.args.size c.args.short.now v c.args.memos.now (added c.args.parts.now) (added c.append.new.self) c.args.next _
    (omega arith) (omega (arith, c.requires.byte, c.if-short-next.false)) c.requires.memo refl refl refl c.in_ok-append.ensures
