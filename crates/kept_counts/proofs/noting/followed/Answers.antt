use Rattle.std.proofs.Common.{List, ℕ, ap, sym, subst, ◌∙◌}
use Rattle.std.proofs.lemmas.Option.{none-some}
use Rattle.live_counts.specs.Filtering.{IsFiltered}
use Rattle.relations.specs.Refusals.{absent}
use Rattle.kept_counts.specs.declared.kept.Kept.TheVariants.{Counts, Filter}
use Rattle.kept_counts.specs.Keeping.{HasNoted, IsFilterBy, IsWaiting, is_kept_by}
use Rattle.kept_counts.proofs.Marking.{counts_due, counts_follow, counts_told, filter_due, for_some, noted_one}
use Rattle.kept_counts.proofs.noting.followed.Goals as goal

pub unreachable-requires : goal.unreachable-requires
unreachable-requires c =
    let h = c.requires.noted in
    let one = noted_one c.args.rows.now.schema h.0 c.args.edit c.in-Some.kept (h.1 c.in-Some.kept c.in-Some.is) in
    none-some one.0 (sym c.in_default-single.is ∙ c.single.ensures ∙ one.1)

pub advance-counts-requires-clause-due : goal.advance-counts-requires-clause-due
advance-counts-requires-clause-due c =
    let schema = c.args.rows.now.schema in
    let h = c.requires.noted in
    let was = subst (HasNoted schema h.0 c.args.edit) c.in-Counts.is (h.1 c.in-Some.kept c.in-Some.is) in
    counts_due schema h.0 c.args.rows.now.rows c.args.edit c.in-Some-single.event h.2.0 (sym c.single.ensures ∙ c.in-Some-single.is) h.2.1 c.in-Counts.keys c.in-Counts.counts was

pub advance-counts-requires-clause-noted : goal.advance-counts-requires-clause-noted
advance-counts-requires-clause-noted c =
    let schema = c.args.rows.now.schema in
    let h = c.requires.noted in
    let was = subst (HasNoted schema h.0 c.args.edit) c.in-Counts.is (h.1 c.in-Some.kept c.in-Some.is) in
    counts_told schema h.0 c.args.rows.now.rows c.args.edit c.in-Some-single.event h.2.0 (sym c.single.ensures ∙ c.in-Some-single.is) h.2.1 c.in-Counts.keys c.in-Counts.counts was

pub pass-requires-clause-present : goal.pass-requires-clause-present
pass-requires-clause-present c =
    let h = c.requires.noted in
    ap (absent c.args.rows.now.schema) c.as_slice.ensures ∙ (subst (HasNoted c.args.rows.now.schema h.0 c.args.edit) c.in-Filter.is (h.1 c.in-Some.kept c.in-Some.is)).by.present

pub pass-requires-clause-room : goal.pass-requires-clause-room
pass-requires-clause-room c =
    let h = c.requires.noted in
    (subst (HasNoted c.args.rows.now.schema h.0 c.args.edit) c.in-Filter.is (h.1 c.in-Some.kept c.in-Some.is)).room

pub pass-requires-clause-due : goal.pass-requires-clause-due
pass-requires-clause-due c =
    let schema = c.args.rows.now.schema in
    let h = c.requires.noted in
    let was = subst (HasNoted schema h.0 c.args.edit) c.in-Filter.is (h.1 c.in-Some.kept c.in-Some.is) in
    let due = filter_due schema h.0 c.args.rows.now.rows c.args.edit c.in-Some-single.event h.2.0 (sym c.single.ensures ∙ c.in-Some-single.is) h.2.1 c.in-Filter.law c.in-Filter.props c.in-Filter.filter was in
    (due.0, subst (λ (ps : List (List ℕ)). IsFiltered (is_kept_by schema c.in-Filter.law ps) due.0 c.in-Filter.filter.kept) (sym c.as_slice.ensures) due.1, due.2)

pub returns-in-Counts-clause-over : goal.returns-in-Counts-clause-over
returns-in-Counts-clause-over c =
    let schema = c.args.rows.now.schema in
    let rows = c.args.rows.now.rows in
    let h = c.requires.noted in
    let keys = c.in-Counts.keys in
    let new = c.advance-counts.result in
    let was = subst (HasNoted schema h.0 c.args.edit) c.in-Counts.is (h.1 c.in-Some.kept c.in-Some.is) in
    let e = c.advance-counts.ensures in
    for_some (IsWaiting schema rows) (Counts keys new) (counts_follow schema h.0 rows c.args.edit keys c.in-Counts.counts new was e.now e.op e.noted)

pub returns-in-Filter-clause-over : goal.returns-in-Filter-clause-over
returns-in-Filter-clause-over c =
    let schema = c.args.rows.now.schema in
    let rows = c.args.rows.now.rows in
    let h = c.requires.noted in
    let law = c.in-Filter.law in
    let props = c.in-Filter.props in
    let new = c.pass.new.filter in
    let was = subst (HasNoted schema h.0 c.args.edit) c.in-Filter.is (h.1 c.in-Some.kept c.in-Some.is) in
    let over : IsFilterBy schema rows law props new = record { present = was.by.present; now = subst (λ (ps : List (List ℕ)). IsFiltered (is_kept_by schema law ps) rows new.kept) c.as_slice.ensures c.pass.ensures } in
    for_some (IsWaiting schema rows) (Filter law props new) over
