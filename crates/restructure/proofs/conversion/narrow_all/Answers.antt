use Rattle.std.proofs.Common.{◌≡◌, length, ap, ◌∙◌, arith, to_z, of_z, w32, w64}
use Rattle.std.proofs.lemmas.List.{length-map}
use Rattle.std.proofs.lemmas.Int.{to_z-of_z}
use Rattle.std.proofs.lemmas.Option.{get_or_from_slice_get, slice_get_within}
use Rattle.tables.proofs.Cells.{IfOk-then}
use Rattle.restructure.specs.Restructuring.{narrowed}
use Rattle.restructure.proofs.Lists.{map_more, all_read}
use Rattle.restructure.proofs.conversion.narrow_all.Goals as goal

pub loop-at-preserved : goal.loop-at-preserved
loop-at-preserved c =
    let xs = c.args.numbers.now.values in
    let x = c.get.result in
    let within = slice_get_within xs c.loop-at.at x c.get.ensures in
    let made : to_z w64 (of_z w64 c.from.result) ≡ narrowed x =
    to_z-of_z w64 c.from.result (record { sfits = c.from.type_inv }) ∙ c.from.ensures ∙ to_z-of_z w32 c.narrow.result (record { sfits = c.narrow.type_inv })
    ∙ c.narrow.ensures ∙ ap narrowed (to_z-of_z w64 x (record { sfits = c.get.type_inv })) in
    map_more narrowed xs c.loop-at.at x x c.loop-at.values.items c.push.new.self.items (to_z w64 (of_z w64 c.from.result)) c.loop-at.invariant within (get_or_from_slice_get xs c.loop-at.at x x c.get.ensures) made c.in_ok-push.ensures.items

pub from_values-requires : goal.from_values-requires
from_values-requires c =
    let xs = c.args.numbers.now.values in
    let count = c.len-count.ensures.len in
    let past = c.loop-at-test.false in
    let all = all_read narrowed xs c.loop-at.at c.loop-at.values.items c.loop-at.invariant (omega (arith, count, past)) in
    let few = c.requires in
    omega (arith, ap length c.deref.ensures.value, ap length all, length-map xs narrowed, few)

pub returns-clause-values : goal.returns-clause-values
returns-clause-values c =
    let xs = c.args.numbers.now.values in
    let count = c.len-count.ensures.len in
    let past = c.loop-at-test.false in
    IfOk-then c.from_values.result c.from_values.ensures.values
    (λ col e. e ∙ c.deref.ensures.value ∙ all_read narrowed xs c.loop-at.at c.loop-at.values.items c.loop-at.invariant (omega (arith, count, past)))
