use Rattle.std.proofs.Common.{◌≡◌, ◌-◌, ℕ, List, length, ap, arith}
use Rattle.places.proofs.Turns.{turn_through}
use Rattle.places.proofs.edits.turn_in.Goals as goal

pub returns-clause-items : goal.returns-clause-items
returns-clause-items c =
    let xs : List (List ℕ) = c.args.chunks.now.items in
    let n = c.len.ensures in
    let a = ap length c.deref_mut.ensures.value in
    let b = c.deref_mut.ensures.len in
    let is : c.len.result - c.args.old ≡ length xs - c.args.old = omega arith in
    turn_through xs c.rotate_right.new.self c.args.k c.args.old (c.len.result - c.args.old) c.requires.order c.requires.there is c.deref_mut.result.now c.args.chunks.now.len (omega arith) c.deref_mut.ensures.value c.rotate_right.ensures.after
