use Rattle.std.proofs.Common.{sym, subst, ap, ◌∙◌}
use Rattle.mk_value.specs.Data.{AreRowsOf}
use Rattle.row_edits.specs.Edits.{AreInRange, IsInRange, size_after, size_by}
use Rattle.row_edits.proofs.Showing.{between_part, between_rows, between_size, between_whole}
use Rattle.row_edits.proofs.between.BetweenTableRead.size.Goals as goal

pub size_by-requires : goal.size_by-requires
size_by-requires g c =
    let s = c.args.self.now in
    subst (AreInRange s.whole.now) (sym c.size.ensures.value) (between_whole s.whole.now s.part s.home (g.T.TableRead.rows s.before.now) (g.T.TableRead.rows s.after.now) s.between)

pub size_after-requires : goal.size_after-requires
size_after-requires g c =
    let s = c.args.self.now in
    subst (IsInRange s.part) (sym (c.size_by.ensures ∙ ap (size_by s.whole.now) c.size.ensures.value))
    (between_part s.whole.now s.part s.home (g.T.TableRead.rows s.before.now) (g.T.TableRead.rows s.after.now) s.between)

pub returns-clause-value : goal.returns-clause-value
returns-clause-value g c =
    let s = c.args.self.now in
    c.size_after.ensures ∙ ap (size_after s.part) (c.size_by.ensures ∙ ap (size_by s.whole.now) c.size.ensures.value)
    ∙ between_size s.whole.now s.part s.home (g.T.TableRead.rows s.before.now) (g.T.TableRead.rows s.after.now) s.between

pub returns-clause-whole : goal.returns-clause-whole
returns-clause-whole g c =
    let s = c.args.self.now in
    let schema = g.T.TableRead.schema s.before.now in
    between_rows s.whole.now s.part s.home (g.T.TableRead.rows s.before.now) (g.T.TableRead.rows s.after.now) s.between schema c.size.ensures.whole
    (subst (AreRowsOf (g.T.TableRead.rows s.after.now)) s.same_schema c.size-after.ensures.whole)
