use Rattle.std.proofs.Common.{[], ◌∷◌, length, map, ap, sym, ◌∙◌, arith}
use Rattle.std.proofs.lemmas.List.{length-map, map-append}
use Rattle.mk_value.specs.Buffer.{Buffer}
use Rattle.tables.proofs.Cells.{IfOk-then}
use Rattle.restructure.specs.Restructuring.{text_or_empty}
use Rattle.restructure.proofs.Lists.{map_more, all_read}
use Rattle.restructure.proofs.conversion.texts_of.Goals as goal

pub loop-at-preserved : goal.loop-at-preserved
loop-at-preserved c =
    let xs = c.args.strings.now.values in
    let content = λ (value : Buffer). value.bytes in
    let count = c.len-count.ensures.len in
    let test = c.loop-at-test.true in
    map_more text_or_empty xs c.loop-at.at [] c.value.result.now (map content c.loop-at.values.items) (map content c.push.new.self.items) (content c.in_ok-text_of.field-0) c.loop-at.invariant (omega (arith, count, test))
    (sym c.value.ensures) c.in_ok-text_of.ensures (ap (map content) c.in_ok-push.ensures.items ∙ map-append content c.loop-at.values.items (c.in_ok-text_of.field-0 ∷ []))

pub from_values-requires : goal.from_values-requires
from_values-requires c =
    let xs = c.args.strings.now.values in
    let content = λ (value : Buffer). value.bytes in
    let count = c.len-count.ensures.len in
    let past = c.loop-at-test.false in
    let all = all_read text_or_empty xs c.loop-at.at (map content c.loop-at.values.items) c.loop-at.invariant (omega (arith, count, past)) in
    let few = c.requires in
    omega (arith, ap length c.deref.ensures.value, length-map c.loop-at.values.items content, ap length all, length-map xs text_or_empty, few)

pub returns-clause-values : goal.returns-clause-values
returns-clause-values c =
    let xs = c.args.strings.now.values in
    let content = λ (value : Buffer). value.bytes in
    let count = c.len-count.ensures.len in
    let past = c.loop-at-test.false in
    IfOk-then c.from_values.result c.from_values.ensures.values
    (λ col e. e ∙ ap (map content) c.deref.ensures.value ∙ all_read text_or_empty xs c.loop-at.at (map content c.loop-at.values.items) c.loop-at.invariant (omega (arith, count, past)))
