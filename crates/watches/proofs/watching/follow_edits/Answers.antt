use Rattle.std.proofs.Common.{◌≡◌, ◌+◌, take, sym, subst, arith}
use Rattle.std.proofs.lemmas.List.Sums.{sum_by_more, sum_by_more_le}
use Rattle.live.specs.Chains.{AreNow}
use Rattle.live.specs.Edits.{room_of}
use Rattle.row_edits.specs.Events.{count_all, count_of}
use Rattle.row_edits.specs.Lines.{edit_at}
use Rattle.row_edits.specs.declared.edit.RowEdit.TheVariants.{Insert}
use Rattle.watches.specs.Lines.{HaveFollowed, room_for}
use Rattle.watches.proofs.Eventful.{rows_first, rows_last}
use Rattle.live.proofs.Rising.{followed_then}
use Rattle.watches.proofs.watching.follow_edits.Goals as goal

pub follow_part-requires-clause-now : goal.follow_part-requires-clause-now
follow_part-requires-clause-now g c =
    let line = c.args.line.now in
    subst (λ rows. AreNow (g.T.TableRead.schema line.before.now) rows c.loop-edit.watches.watches)
    (sym (rows_first line.edits.now line.home (g.T.TableRead.rows line.before.now) (g.T.TableRead.rows line.after.now) line.line c.loop-edit.edit c.loop-edit-test.true)) c.loop-edit.invariant.now

pub follow_part-requires-clause-reserved : goal.follow_part-requires-clause-reserved
follow_part-requires-clause-reserved g c =
    let most = sum_by_more_le room_of c.args.line.now.edits.now c.loop-edit.edit (Insert 0 0) c.loop-edit-test.true in
    let left = c.loop-edit.invariant.spare_left in
    let room = c.requires.reserved in
    omega arith

pub loop-edit-preserved : goal.loop-edit-preserved
loop-edit-preserved g c =
    let line = c.args.line.now in
    let edits = line.edits.now in
    let i = c.loop-edit.edit in
    let inv = c.loop-edit.invariant in
    let f = c.follow_part.ensures in
    let takes : room_for (take (i + 1) edits) ≡ room_for (take i edits) + room_of (edit_at edits i) = sum_by_more room_of edits i (Insert 0 0) c.loop-edit-test.true in
    let more : count_all (take (i + 1) edits) ≡ count_all (take i edits) + count_of (edit_at edits i) = sum_by_more count_of edits i (Insert 0 0) c.loop-edit-test.true in
    record {
      now =
          subst (λ rows. AreNow (g.T.TableRead.schema line.before.now) rows c.follow_part.new.watches.watches)
          (rows_last edits line.home (g.T.TableRead.rows line.before.now) (g.T.TableRead.rows line.after.now) line.line i c.loop-edit-test.true) f.now;
      followed =
          subst (λ n. HaveFollowed n c.args.watches.now.watches c.follow_part.new.watches.watches) (sym more)
          (followed_then (count_all (take i edits)) (count_of (edit_at edits i)) c.args.watches.now.watches c.loop-edit.watches.watches c.follow_part.new.watches.watches inv.followed f.followed);
      noted = f.noted;
      spare_left = (let a = inv.spare_left in let b = f.spare in omega arith);
    }
