use Rattle.std.proofs.Common.{refl, sym, subst, ◌∙◌}
use Rattle.live_counts.specs.Counting.{AreCounts}
use Rattle.watches.proofs.Eventful.{rows_first, rows_last}
use Rattle.kept_counts.proofs.noting.advance_line.Goals as goal

pub follow_part-requires-clause-now : goal.follow_part-requires-clause-now
follow_part-requires-clause-now g c =
    let line = c.args.line.now in
    subst (λ rows. AreCounts line.before.now.schema rows c.loop-edit.followed) (sym (rows_first line.edits.now line.home line.before.now.rows line.after.now.rows line.line c.loop-edit.edit c.loop-edit-test.true)) c.loop-edit.invariant.now

pub loop-edit-preserved : goal.loop-edit-preserved
loop-edit-preserved g c =
    let line = c.args.line.now in
    let f = c.if-not-follow_part.ensures in
    record {
      now =
          subst (λ rows. AreCounts line.before.now.schema rows c.follow_part.new.counts)
          (rows_last line.edits.now line.home line.before.now.rows line.after.now.rows line.line c.loop-edit.edit c.loop-edit-test.true) (f.now refl);
      op = f.op refl ∙ c.loop-edit.invariant.op;
      noted = f.noted refl;
    }
