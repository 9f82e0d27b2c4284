use Rattle.std.proofs.Common.{◌≡◌, ◌+◌, ◌<◌, ◌≤◌, ℕ, true, false, nat_lt, [], filter, not, ap, sym, ◌∙◌, arith}
use Rattle.std.proofs.lemmas.List.{map-id}
use Rattle.mk_value.specs.Heading.{heading_depth, heading_of}
use Rattle.mk_value.specs.Limits.{max_depth}
use Rattle.relations.specs.Refusals.{absent, a_view}
use Rattle.relations.specs.Rows.{is_among}
use Rattle.grouping.proofs.GroupTables.{depth_due}
use Rattle.grouping.proofs.grouped.check_group_by.Goals as goal

above : (n : ℕ) → max_depth < n → nat_lt max_depth n ≡ true
above n p = grind arith

within : (n : ℕ) → n ≤ max_depth → nat_lt max_depth n ≡ false
within n p = grind arith

pub returns-then-depth_of_others-gt-MAX_DEPTH : goal.returns-then-depth_of_others-gt-MAX_DEPTH
returns-then-depth_of_others-gt-MAX_DEPTH c =
    let deep = c.depth_of_others.ensures.value in
    let t = c.if-depth_of_others-gt-MAX_DEPTH.true in
    let n = heading_depth (heading_of (filter (λ a. not (is_among c.args.keys.now a.name)) c.args.schema.now)) + 2 in
    sym (depth_due (record { schema = c.args.schema.now; rows = [] }) c.args.keys.now c.args.sub.now c.len-width.ensures.whole.limits.distinct (sym c.is_among.ensures ∙ c.if-is_among.false)
    (ap (absent c.args.schema.now) (sym (map-id c.args.keys.now)) ∙ sym c.in_ok-check_named.ensures) (sym c.in_ok-check_left.ensures)
    (ap (a_view c.args.schema.now) (sym (map-id c.args.keys.now)) ∙ sym c.in_ok-check_plain.ensures) true (above n (omega arith)))

pub returns : goal.returns
returns c =
    let deep = c.depth_of_others.ensures.value in
    let t = c.if-depth_of_others-gt-MAX_DEPTH.false in
    let n = heading_depth (heading_of (filter (λ a. not (is_among c.args.keys.now a.name)) c.args.schema.now)) + 2 in
    sym (depth_due (record { schema = c.args.schema.now; rows = [] }) c.args.keys.now c.args.sub.now c.len-width.ensures.whole.limits.distinct (sym c.is_among.ensures ∙ c.if-is_among.false)
    (ap (absent c.args.schema.now) (sym (map-id c.args.keys.now)) ∙ sym c.in_ok-check_named.ensures) (sym c.in_ok-check_left.ensures)
    (ap (a_view c.args.schema.now) (sym (map-id c.args.keys.now)) ∙ sym c.in_ok-check_plain.ensures) false (within n (omega arith)))
