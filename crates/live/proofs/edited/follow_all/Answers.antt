use Rattle.std.proofs.Common.{inl, inr, ◌∙◌, ap, subst, sym, ◌≡◌, ◌<◌, List, length, get_or, Some, arith}
use Rattle.live.specs.Answers.{noted_for}
use Rattle.live.specs.Chains.{AreNow}
use Rattle.live.proofs.AtOnce.{no_more_now, nothing_now, now_few, now_inside, removed_now}
use Rattle.std.proofs.lemmas.Bool.{cases_lt}
use Rattle.row_edits.specs.Edits.{IsInRange, edited}
use Rattle.live.specs.Answers.{HasDone, gone_by}
use Rattle.live.specs.Chains.{AreDue, seen}
use Rattle.live.specs.Edits.{AreSpreadDue, IsSpread, came_to}
use Rattle.live.specs.States.{WatchState}
use Rattle.live.specs.Turns.{answer_of}
use Rattle.live.specs.Watching.{IsTurn, comes_to, placed}
use Rattle.live.specs.declared.answer.Answer.{Answer}
use Rattle.live.specs.declared.turn.Turn.TheVariants.{Changes}
use Rattle.live.proofs.Doing.{came_done, left_done, still_done, turn_done}
use Rattle.live.proofs.Edits.{set_turn}
use Rattle.live.proofs.AtOnce.{inserted_none, removed_none}
use Rattle.live.proofs.edited.follow_all.Goals as goal

pub leave_all-requires-clause-inside : goal.leave_all-requires-clause-inside
leave_all-requires-clause-inside g c = let d = c.requires.due in now_inside (g.P.Probe.schema c.args.rows.now) d.before c.args.watches.now d.now

pub leave_all-requires-clause-few : goal.leave_all-requires-clause-few
leave_all-requires-clause-few g c = let d = c.requires.due in now_few (g.P.Probe.schema c.args.rows.now) d.before c.args.watches.now d.now

pub after_all-requires-clause-noted : goal.after_all-requires-clause-noted
after_all-requires-clause-noted g c = (c.requires.ready _ (ap noted_for c.in-Change.is)).0

pub after_all-requires-clause-room : goal.after_all-requires-clause-room
after_all-requires-clause-room g c = (c.requires.ready _ (ap noted_for c.in-Change.is)).1

pub returns-in-Insert-default-eq0-clause-now : goal.returns-in-Insert-default-eq0-clause-now
returns-in-Insert-default-eq0-clause-now g c =
    let d = c.requires.due in
    subst (AreNow (g.P.Probe.schema c.args.rows.now) (g.P.Probe.rows c.args.rows.now)) (sym c.answer_nothing.ensures)
    (no_more_now (g.P.Probe.schema c.args.rows.now) d.before (g.P.Probe.rows c.args.rows.now) d.row c.args.edit c.args.watches.now d.now d.range d.made
    c.in-Insert-default-eq0.at c.in-Insert-default-eq0.count c.in-Insert-default-eq0.is (rw c.in-Insert-default-eq0.is at c.in-Insert-default-eq0.count-test))

pub returns-in-Remove-default-eq0-clause-now : goal.returns-in-Remove-default-eq0-clause-now
returns-in-Remove-default-eq0-clause-now g c =
    let d = c.requires.due in
    subst (AreNow (g.P.Probe.schema c.args.rows.now) (g.P.Probe.rows c.args.rows.now)) (sym c.answer_nothing-in-Remove-default-eq0.ensures)
    (nothing_now (g.P.Probe.schema c.args.rows.now) d.before (g.P.Probe.rows c.args.rows.now) d.row c.args.edit c.args.watches.now d.now d.range d.made
    c.in-Remove-default-eq0.at c.in-Remove-default-eq0.count c.in-Remove-default-eq0.is (rw c.in-Remove-default-eq0.is at c.in-Remove-default-eq0.count-test))

pub returns-in-Remove-clause-now : goal.returns-in-Remove-clause-now
returns-in-Remove-clause-now g c =
    let d = c.requires.due in
    removed_now (g.P.Probe.schema c.args.rows.now) d.before (g.P.Probe.rows c.args.rows.now) d.row c.args.edit c.args.watches.now d.now d.range d.made
    c.in-Remove.at c.in-Remove.count c.in-Remove.is c.leave_all.new.watches c.leave_all.ensures c.size-size.ensures.few

pub returns-in-Insert-default-eq0-clause-done : goal.returns-in-Insert-default-eq0-clause-done
returns-in-Insert-default-eq0-clause-done g c due k d p =
    let rows = g.P.Probe.rows c.args.rows.now in
    let a = c.in-Insert-default-eq0 in
    let same : rows ≡ due.before = inserted_none due.row due.before rows c.args.edit a.at a.count a.is (rw a.is at a.count-test) due.made in
    subst (λ (ws : List WatchState). HasDone (get_or ws k d).answer (gone_by c.args.edit c.args.watches.now (Some k)) (seen due.before c.args.watches.now (Some k)) (seen rows ws (Some k))) (sym c.answer_nothing.ensures)
    (still_done due.before rows c.args.watches.now same (gone_by c.args.edit c.args.watches.now (Some k)) k d p)

pub returns-in-Remove-default-eq0-clause-done : goal.returns-in-Remove-default-eq0-clause-done
returns-in-Remove-default-eq0-clause-done g c due k d p =
    let rows = g.P.Probe.rows c.args.rows.now in
    let a = c.in-Remove-default-eq0 in
    let same : rows ≡ due.before = removed_none due.row due.before rows c.args.edit a.at a.count a.is (rw a.is at a.count-test) due.made in
    subst (λ (ws : List WatchState). HasDone (get_or ws k d).answer (gone_by c.args.edit c.args.watches.now (Some k)) (seen due.before c.args.watches.now (Some k)) (seen rows ws (Some k))) (sym c.answer_nothing-in-Remove-default-eq0.ensures)
    (still_done due.before rows c.args.watches.now same (gone_by c.args.edit c.args.watches.now (Some k)) k d p)

pub returns-in-Insert-clause-done : goal.returns-in-Insert-clause-done
returns-in-Insert-clause-done g c due k d p =
    let schema = g.P.Probe.schema c.args.rows.now in
    let rows = g.P.Probe.rows c.args.rows.now in
    let old = c.args.watches.now in
    let new = c.spread_all.new.watches in
    let at = c.in-Insert.at in
    let count = c.in-Insert.count in
    let gone = gone_by c.args.edit old (Some k) in
    let range = subst (λ e. IsInRange e (length due.before)) c.in-Insert.is due.range in
    let mine : AreSpreadDue schema old at count rows = record {
      row = due.row;
      before = due.before;
      now = due.now;
      made = record { within = λ q e. let f : at ≡ q = cc in let r = range.0 in omega arith; made = due.made ∙ ap (λ e. edited due.row e due.before) c.in-Insert.is };
    } in
    let some : 0 < count = elim (cases_lt 0 count) [ inl q ↦ q | inr q ↦ absurd ((rw c.in-Insert.is at c.in-Insert.count-test).1 (let e : count ≡ 0 = omega arith in e)) ] in
    let turn = c.spread_all.ensures.told k d p in
    let answer = c.spread_all.ensures.answer k d p in
    let o = placed (get_or new k d).kept (came_to at new (get_or old k d).source) in
    let made = subst (λ t. IsSpread (comes_to t) count due.row (seen due.before old (Some k)) (seen rows new (Some k))) turn (c.spread_all.ensures.made mine k d p) in
    subst (λ (a : Answer). HasDone a gone (seen due.before old (Some k)) (seen rows new (Some k))) (sym (answer ∙ ap (answer_of count) turn))
    (came_done o count some gone due.row (seen due.before old (Some k)) (seen rows new (Some k)) made)

pub returns-in-Remove-clause-done : goal.returns-in-Remove-clause-done
returns-in-Remove-clause-done g c due k d p =
    let schema = g.P.Probe.schema c.args.rows.now in
    let rows = g.P.Probe.rows c.args.rows.now in
    let old = c.args.watches.now in
    let new = c.leave_all.new.watches in
    let is = c.in-Remove.is in
    subst (λ e. HasDone (get_or new k d).answer (gone_by e old (Some k)) (seen due.before old (Some k)) (seen rows new (Some k))) (sym is)
    (left_done schema due.before rows c.in-Remove.at c.in-Remove.count old new (subst (λ e. IsInRange e (length due.before)) is due.range) (due.made ∙ ap (λ e. edited due.row e due.before) is) due.now c.leave_all.ensures k d p)

pub returns-in-Change-clause-done : goal.returns-in-Change-clause-done
returns-in-Change-clause-done g c due k d p =
    let schema = g.P.Probe.schema c.args.rows.now in
    let rows = g.P.Probe.rows c.args.rows.now in
    let old = c.args.watches.now in
    let new = c.after_all.new.watches in
    let at = c.in-Change.at in
    let is = c.in-Change.is in
    let gone = gone_by c.args.edit old (Some k) in
    let mine : AreDue schema old (Changes at) rows = record {
      before = due.before;
      now = due.now;
      made = subst (IsTurn (Changes at) due.before) (sym (due.made ∙ ap (λ e. edited due.row e due.before) is)) (set_turn due.before at due.row (subst (λ e. IsInRange e (length due.before)) is due.range));
    } in
    subst (λ (a : Answer). HasDone a gone (seen due.before old (Some k)) (seen rows new (Some k))) (sym (c.after_all.ensures.told.each k d p).answer)
    (turn_done (get_or new k d).turn gone (seen due.before old (Some k)) (seen rows new (Some k)) (c.after_all.ensures.made mine k d p))
