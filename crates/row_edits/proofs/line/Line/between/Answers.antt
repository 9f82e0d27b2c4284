use Rattle.std.proofs.Common.{take, sym, subst}
use Rattle.row_edits.specs.Lines.{IsBetween}
use Rattle.row_edits.proofs.Showing.{some_between}
use Rattle.row_edits.proofs.line.Line.between.Goals as goal

pub invariant_of-result : goal.invariant_of-result
invariant_of-result g c =
    let s = c.args.self.now in
    let before = g.T.TableRead.rows s.before.now in
    let after = g.T.TableRead.rows s.after.now in
    record {
      same_schema = s.same_schema;
      between =
          subst (λ part. IsBetween (take c.args.edit s.edits.now) part s.home before after) (sym c.begun.ensures)
          (some_between s.edits.now s.home before after s.line c.args.edit c.requires.edit_in c.args.events c.requires.events_in);
    }
