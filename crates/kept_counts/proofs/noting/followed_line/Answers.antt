use Rattle.std.proofs.Common.{List, ℕ, ap, sym, subst, ◌∙◌}
use Rattle.live_counts.specs.Filtering.{IsFiltered}
use Rattle.relations.specs.Refusals.{absent}
use Rattle.kept_counts.specs.declared.kept.Kept.TheVariants.{Counts, Filter}
use Rattle.kept_counts.specs.Keeping.{IsFilterBy, IsWaiting, is_kept_by}
use Rattle.kept_counts.proofs.Marking.{counts_follow_line, for_some}
use Rattle.kept_counts.proofs.noting.followed_line.Goals as goal

pub advance_line-requires-clause-now : goal.advance_line-requires-clause-now
advance_line-requires-clause-now c =
    let line = c.args.line.now in
    (subst (IsWaiting line.before.now.schema line.before.now.rows) c.in-Counts.is (c.requires c.in-Some.kept c.in-Some.is)).by.now

pub advance_line-requires-clause-waiting : goal.advance_line-requires-clause-waiting
advance_line-requires-clause-waiting c =
    let line = c.args.line.now in
    (subst (IsWaiting line.before.now.schema line.before.now.rows) c.in-Counts.is (c.requires c.in-Some.kept c.in-Some.is)).noted

pub pass_line-requires-clause-present : goal.pass_line-requires-clause-present
pass_line-requires-clause-present c =
    let line = c.args.line.now in
    ap (absent line.before.now.schema) c.as_slice.ensures ∙ (subst (IsWaiting line.before.now.schema line.before.now.rows) c.in-Filter.is (c.requires c.in-Some.kept c.in-Some.is)).present

pub pass_line-requires-clause-now : goal.pass_line-requires-clause-now
pass_line-requires-clause-now c =
    let line = c.args.line.now in
    subst (λ (ps : List (List ℕ)). IsFiltered (is_kept_by line.before.now.schema c.in-Filter.law ps) line.before.now.rows c.in-Filter.filter.kept) (sym c.as_slice.ensures)
    (subst (IsWaiting line.before.now.schema line.before.now.rows) c.in-Filter.is (c.requires c.in-Some.kept c.in-Some.is)).now

pub returns-in-Some-advance_line : goal.returns-in-Some-advance_line
returns-in-Some-advance_line c =
    let line = c.args.line.now in
    let schema = line.before.now.schema in
    let keys = c.in-Counts.keys in
    let new = c.in-Some-advance_line.counts in
    let is = c.in-Some-advance_line.is in
    let e = c.advance_line.ensures in
    let was = subst (IsWaiting schema line.before.now.rows) c.in-Counts.is (c.requires c.in-Some.kept c.in-Some.is) in
    for_some (IsWaiting schema line.after.now.rows) (Counts keys new)
    (counts_follow_line schema line.before.now.rows line.after.now.rows keys c.in-Counts.counts new was (e.now new is) (e.op new is) (e.noted new is))

pub returns-in-Some-pass_line : goal.returns-in-Some-pass_line
returns-in-Some-pass_line c =
    let line = c.args.line.now in
    let schema = line.before.now.schema in
    let law = c.in-Filter.law in
    let props = c.in-Filter.props in
    let new = c.in-Some-pass_line.filter in
    let was = subst (IsWaiting schema line.before.now.rows) c.in-Filter.is (c.requires c.in-Some.kept c.in-Some.is) in
    let over : IsFilterBy schema line.after.now.rows law props new = record { present = was.present; now = subst (λ (ps : List (List ℕ)). IsFiltered (is_kept_by schema law ps) line.after.now.rows new.kept) c.as_slice.ensures (c.pass_line.ensures new c.in-Some-pass_line.is) } in
    for_some (IsWaiting schema line.after.now.rows) (Filter law props new) over
