use Rattle.std.proofs.Common.{sym, subst, ◌∙◌, rules}
use Rattle.kept_counts.specs.declared.kept.Kept.TheVariants.{Counts, Filter}
use Rattle.kept_counts.specs.Keeping.{HasNoted, IsWaiting}
use Rattle.kept_counts.proofs.Marking.{counts_noted, filter_ready, for_some}
use Rattle.kept_counts.proofs.noting.noted.Goals as goal

pub mark-requires-clause-now : goal.mark-requires-clause-now
mark-requires-clause-now c = (subst (IsWaiting c.args.rows.now.schema c.args.rows.now.rows) c.in-Counts.is (c.requires.now c.in-Some-kept.kept c.in-Some-kept.is)).by.now

pub returns-in-Some-mark : goal.returns-in-Some-mark
returns-in-Some-mark c =
    let schema = c.args.rows.now.schema in
    let rows = c.args.rows.now.rows in
    let keys = c.in-Counts.keys in
    let new = c.in-Some-mark.counts in
    let was = subst (IsWaiting schema rows) c.in-Counts.is (c.requires.now c.in-Some-kept.kept c.in-Some-kept.is) in
    for_some (HasNoted schema rows c.args.edit) (Counts keys new)
    (counts_noted schema rows c.args.edit c.in-Some.event keys c.in-Counts.counts new was (sym c.single.ensures ∙ c.in-Some.is) c.requires.range
    (c.mark.ensures.now new c.in-Some-mark.is) (c.mark.ensures.op new c.in-Some-mark.is) (c.mark.ensures.noted new c.in-Some-mark.is))

pub returns-else-is_err : goal.returns-else-is_err
returns-else-is_err c =
    let schema = c.args.rows.now.schema in
    let rows = c.args.rows.now.rows in
    let law = c.in-Filter.law in
    let props = c.in-Filter.props in
    let new = c.reserve.new.self in
    let was = subst (IsWaiting schema rows) c.in-Filter.is (c.requires.now c.in-Some-kept.kept c.in-Some-kept.is) in
    for_some (HasNoted schema rows c.args.edit) (Filter law props new)
    (filter_ready schema rows c.args.edit c.in-Some.event law props c.in-Filter.filter new was (sym c.single.ensures ∙ c.in-Some.is) c.requires.range c.reserve.ensures.kept (search rules))
