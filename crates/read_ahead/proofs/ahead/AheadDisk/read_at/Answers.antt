use Rattle.std.proofs.Common.{arith, ap, ◌∙◌, ℕ, ◌-◌, List, length, take, drop}
use Rattle.read_ahead.proofs.Reading.{read_is}
use Rattle.read_ahead.proofs.ahead.AheadDisk.read_at.Goals as goal

pub returns-clause-bytes : goal.returns-clause-bytes
returns-clause-bytes g c = λ known.
    let there = c.reach.ensures.there c.if-not-reach.false in
    let k : ℕ = c.args.at - c.reach.new.piece.start in
    let n : ℕ = length c.args.into.now in
    c.copy_from_slice.ensures.after
    ∙ ap (λ (m : ℕ). take m (drop k c.deref.result.now)) (omega arith)
    ∙ ap (λ (l : List ℕ). take n (drop k l)) c.deref.ensures.value
    ∙ read_is _ _ _ _ c.args.at n c.reach.ensures.holds known there.0 there.1
    ∙ ap (λ o. take n (drop c.args.at o.disk.seen)) (c.reach.ensures.same known).still.now
    ∙ ap (λ h. take n (drop c.args.at (g.H.Disk.outside h).now.disk.seen)) c.self.view_is
