use Rattle.std.proofs.Common.{◌-◌, ◌++◌, [], ap, sym, ◌∙◌, take, drop, replicate, get_or, arith}
use Rattle.std.proofs.lemmas.List.{append_assoc}
use Rattle.bytes_col.specs.Parts.{added}
use Rattle.bytes_col.proofs.PartLaws.{part_more}
use Rattle.bytes_col.proofs.parts.Parts.add.Goals as goal

pub loop-at-preserved : goal.loop-at-preserved
loop-at-preserved c =
    let xs = c.args.chunk.now in
    let from = c.args.from in
    let at = c.loop-at.at in
    c.in_ok-add_one.ensures
    ∙ ap (λ z. z ++ replicate 1 (get_or xs at [])) c.loop-at.invariant
    ∙ append_assoc (added c.prepare.new.self) (take (at - from) (drop from xs)) (replicate 1 (get_or xs at []))
    ∙ ap (λ z. added c.prepare.new.self ++ z) (sym (part_more xs from at (omega arith) (omega arith)))
