use Rattle.std.proofs.Common.{FitsSigned, w64, rules, ◌∙◌, ◌+◌, ◌-◌, ◌%◌, ℕ, ap, arith, take}
use Rattle.std.proofs.lemmas.Int.{to_z-of_z}
use Rattle.std.proofs.lemmas.List.{take-replicate}
use Rattle.int_col.proofs.packed_splice.splice_in_room.Goals as goal

pub splice_behind-requires-clause-copies : goal.splice_behind-requires-clause-copies
splice_behind-requires-clause-copies c =
    let e = c.args.splice.now in
    let size : ℕ = e.at - (e.at - e.at % 8) + e.count + (c.args.count - e.end) in
    let fits : FitsSigned w64 c.args.value = search rules in
    rw (to_z-of_z w64 c.args.value fits)
    (ap (take size) c.requires.copies ∙ take-replicate size 2048 c.args.value (omega (arith, c.requires.small)))
