use Rattle.std.proofs.Common.{◌≡◌, ℕ, ◌+◌, ◌<◌, List, take, length, get_or, map, ap, sym, subst, ◌∙◌, arith}
use Rattle.std.proofs.lemmas.List.{get_or-map, length-map, length-take-le}
use Rattle.commit_plan.specs.declared.payload.Payload.{Payload}
use Rattle.commit_plan.specs.Payloads.{payload_bytes}
use Rattle.commit_plan.specs.Placing.{ArePut, IsPut, Passes}
use Rattle.commit_plan.proofs.Placed.{all_put_more, all_put_none, one_passes, placed_count}
use Rattle.commit_plan.proofs.placing.place_all.Goals as goal

abbrev bytes_long : Payload → ℕ
bytes_long p = length (payload_bytes p)

its_len : (payloads : List Payload) (k : ℕ) (p : Payload) (len : ℕ) → k < length payloads → p ≡ get_or payloads k p → len ≡ bytes_long p → get_or (map bytes_long payloads) k 0 ≡ len
its_len payloads k p len within is long = get_or-map bytes_long payloads k p 0 within ∙ ap bytes_long (sym is) ∙ sym long

within_map : (payloads : List Payload) (k : ℕ) → k < length payloads → k < length (map bytes_long payloads)
within_map payloads k p = let e = length-map payloads bytes_long in omega (arith, e, p)

pub payloads-init : goal.payloads-init
payloads-init c = subst (λ items. ArePut (take 0 (map bytes_long c.args.payloads.now)) c.args.free.now c.args.free.now items) (sym c.new-spans.ensures.items) (all_put_none c.args.free.now (map bytes_long c.args.payloads.now))

pub place_block-requires : goal.place_block-requires
place_block-requires c =
    let count = placed_count c.args.free.now.floor c.args.free.now.used (take c.payloads.payload-index (map bytes_long c.args.payloads.now)) c.payloads.spans.items c.payloads.invariant.placed in
    let within = within_map c.args.payloads.now c.payloads.payload-index c.payloads-test.true in
    let front = length-take-le c.payloads.payload-index (map bytes_long c.args.payloads.now) (omega (arith, within)) in
    let spare = c.payloads.invariant.taken.spare in
    let enough = c.requires in
    let left = c.payloads-test.true in
    omega (arith, count, front, spare, enough, left)

pub returns-in_default-clause-passes : goal.returns-in_default-clause-passes
returns-in_default-clause-passes c =
    one_passes (map bytes_long c.args.payloads.now) c.payloads.payload-index c.args.free.now c.payloads.free c.payloads.spans.items (within_map c.args.payloads.now c.payloads.payload-index c.payloads-test.true) c.payloads.invariant
    (subst (λ n. Passes n c.payloads.free) (sym (its_len c.args.payloads.now c.payloads.payload-index c.payload-item.result c.payload_len.result c.payloads-test.true c.payload-item.is c.payload_len.ensures)) c.in_default.ensures.passes)

pub payloads-preserved : goal.payloads-preserved
payloads-preserved c =
    subst (λ items. ArePut (take (c.payloads.payload-index + 1) (map bytes_long c.args.payloads.now)) c.args.free.now c.place_block.new.free items) (sym c.in_ok-push.ensures.items)
    (all_put_more (map bytes_long c.args.payloads.now) c.payloads.payload-index c.args.free.now c.payloads.free c.place_block.new.free c.payloads.spans.items c.in-Some.span (within_map c.args.payloads.now c.payloads.payload-index c.payloads-test.true) c.payloads.invariant
    (subst (λ n. IsPut n c.payloads.free c.place_block.new.free c.in-Some.span) (sym (its_len c.args.payloads.now c.payloads.payload-index c.payload-item.result c.payload_len.result c.payloads-test.true c.payload-item.is c.payload_len.ensures)) c.in-Some.ensures.put))
