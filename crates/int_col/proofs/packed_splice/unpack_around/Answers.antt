use Rattle.std.proofs.Common.{◌≡◌, ◌∙◌, ◌+◌, ◌-◌, ◌++◌, ℕ, List, ℤ, ap, arith, length, take, drop}
use Rattle.std.proofs.lemmas.List.{length-take-le, length-drop, length-append, length-replicate, drop_all}
use Rattle.bit_pack.specs.Packed.{values_from}
use Rattle.bit_pack.proofs.Changes.{length-values_from}
use Rattle.int_col.proofs.Segments.{packed_reaches, values_part}
use Rattle.int_col.proofs.PackedSplices.{unpacked}
use Rattle.int_col.proofs.packed_splice.unpack_around.Goals as goal

pub unpack_into-requires-clause-reaches : goal.unpack_into-requires-clause-reaches
unpack_into-requires-clause-reaches c =
    let e = c.args.splice.now in
    let into = c.args.into.now in
    let b : ℕ = e.at - c.args.from in
    let size = ap length c.requires.copies ∙ length-replicate ((e.at - c.args.from) + e.count + (c.args.count - e.end)) c.args.value in
    packed_reaches c.args.width c.args.count (c.args.from + length (take b into)) c.args.bytes.now c.requires.packed
    (omega (arith, length-take-le b into (omega (arith, size)), c.requires.from, c.requires.order, c.requires.within))

pub unpack_into-requires-2-clause-reaches : goal.unpack_into-requires-2-clause-reaches
unpack_into-requires-2-clause-reaches c =
    let e = c.args.splice.now in
    let into = c.args.into.now in
    let b : ℕ = e.at - c.args.from in
    let k : ℕ = b + e.count in
    let size = ap length c.requires.copies ∙ length-replicate ((e.at - c.args.from) + e.count + (c.args.count - e.end)) c.args.value in
    let front : length (take b into) ≡ b = length-take-le b into (omega (arith, size)) in
    let middle : List ℤ = c.unpack_into.new.into ++ drop b into in
    let all : length middle ≡ length into = length-append c.unpack_into.new.into (drop b into) ∙ (omega (arith, c.unpack_into.auto.into, front, length-drop b into, size)) in
    packed_reaches c.args.width c.args.count (e.end + length (take (length middle - k) (drop k middle))) c.args.bytes.now c.requires.packed
    (omega (arith, length-take-le (length middle - k) (drop k middle) (omega (arith, length-drop k middle)), all, size, c.requires.within))

pub returns : goal.returns
returns c =
    let e = c.args.splice.now in
    let into = c.args.into.now in
    let b : ℕ = e.at - c.args.from in
    let k : ℕ = b + e.count in
    let vs : List ℤ = values_from c.args.width c.args.bytes.now 0 c.args.count in
    let size = ap length c.requires.copies ∙ length-replicate ((e.at - c.args.from) + e.count + (c.args.count - e.end)) c.args.value in
    let front : length (take b into) ≡ b = length-take-le b into (omega (arith, size)) in
    let copied : length c.unpack_into.new.into ≡ b = c.unpack_into.auto.into ∙ front in
    let middle : List ℤ = c.unpack_into.new.into ++ drop b into in
    let all : length middle ≡ length into = length-append c.unpack_into.new.into (drop b into) ∙ (omega (arith, copied, length-drop b into, size)) in
    let m : ℕ = length (take (length middle - k) (drop k middle)) in
    let part : m ≡ c.args.count - e.end = length-take-le (length middle - k) (drop k middle) (omega (arith, length-drop k middle)) ∙ (omega (arith, all, size)) in
    let before = c.unpack_into.ensures ∙ ap (λ n. values_from c.args.width c.args.bytes.now c.args.from n) front ∙ values_part c.args.width c.args.bytes.now c.args.from b c.args.count (omega (arith, c.requires.from, c.requires.order, c.requires.within)) in
    let behind = c.unpack_into-2.ensures ∙ values_part c.args.width c.args.bytes.now e.end m c.args.count (omega (arith, part, c.requires.within)) in
    unpacked vs e c.args.from c.args.count c.args.value into c.unpack_into.new.into c.unpack_into-2.new.into (drop (length middle - k) (drop k middle)) m
    c.requires.from c.requires.order c.requires.within (length-values_from c.args.width c.args.bytes.now 0 c.args.count) c.requires.copies copied before behind part
    (drop_all (length middle - k) (drop k middle) (omega (arith, length-drop k middle)))
