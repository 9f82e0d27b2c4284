use Rattle.std.proofs.Common.{length, ap, ◌∙◌, arith}
use Rattle.std.proofs.lemmas.Result.{err_from_is_err_and}
use Rattle.lines.proofs.OnePiece.{NextNewline, SoFar-line, SoFar-next, Serves-ended_in, Serves-broken_in, SoFar-rest}
use Rattle.lines.proofs.feeding.feed_piece.Goals as goal

pub lines-preserved : goal.lines-preserved
lines-preserved g c =
    let next : NextNewline c.args.piece.now c.lines.from c.in-Some.len = record { within = c.in-Some.ensures.within; found = c.in-Some.ensures.found; front = c.in-Some.ensures.front } in
    let empty = ap length c.clear.ensures.empty in
    let counts = c.in_ok-answer_line.ensures in
    record {
      within = omega arith;
      room = record { short = omega arith; spare = omega arith };
      clear = c.in_ok-answer_line.ensures.clear;
      ready = c.in_ok-answer_line.ensures.ready;
      so_far = λ tells start begin count first.
          let so = SoFar-line (g.S.Session.machine c.args.context.now) start begin _ _ _ _ _ _ _ count (c.lines.invariant.so_far tells start begin count first) next c.keep.ensures.held in
          let answer = rw c.in-Goes.is at (c.in_ok-answer_line.ensures.answers tells so.rest (c.as_slice.ensures ∙ so.held)) in
          rw c.clear.ensures.empty (SoFar-next (g.S.Session.machine c.args.context.now) start begin _ _ _ _ _ _ _ _ count so answer);
      say_faults = omega arith;
      take_faults = counts.take_faults ∙ c.lines.invariant.take_faults;
      disk_faults = omega arith;
      source = counts.source ∙ c.lines.invariant.source;
    }

pub returns-in_err-answer_line-clause-comes : goal.returns-in_err-answer_line-clause-comes
returns-in_err-answer_line-clause-comes g c =
    let p = err_from_is_err_and c.from_residual.result c.from_residual.ensures.1 in
    rw p.1 (λ tells start begin budget count fits first.
    let next : NextNewline c.args.piece.now c.lines.from c.in-Some.len = record { within = c.in-Some.ensures.within; found = c.in-Some.ensures.found; front = c.in-Some.ensures.front } in
    let so = SoFar-line (g.S.Session.machine c.args.context.now) start begin _ _ _ _ _ _ _ count (c.lines.invariant.so_far tells start begin count first) next c.keep.ensures.held in
    let answer = c.in_err-answer_line.ensures.answers tells so.rest (c.as_slice.ensures ∙ so.held) in
    Serves-broken_in (g.S.Session.machine c.args.context.now) budget start begin _ _ _ _ _ _ _ _ count _ so answer next fits)

pub returns-in-Ends-clause-comes : goal.returns-in-Ends-clause-comes
returns-in-Ends-clause-comes g c = λ tells start begin budget count fits first.
    let next : NextNewline c.args.piece.now c.lines.from c.in-Some.len = record { within = c.in-Some.ensures.within; found = c.in-Some.ensures.found; front = c.in-Some.ensures.front } in
    let so = SoFar-line (g.S.Session.machine c.args.context.now) start begin _ _ _ _ _ _ _ count (c.lines.invariant.so_far tells start begin count first) next c.keep.ensures.held in
    let answer = rw c.in-Ends.is at (c.in_ok-answer_line.ensures.answers tells so.rest (c.as_slice.ensures ∙ so.held)) in
    Serves-ended_in (g.S.Session.machine c.args.context.now) budget start begin _ _ _ _ _ _ _ _ count so answer next fits

pub returns-clause-comes : goal.returns-clause-comes
returns-clause-comes g c = λ tells start begin budget count fits first.
    SoFar-rest (g.S.Session.machine c.args.context.now) start begin _ _ _ _ _ _ count (c.lines.invariant.so_far tells start begin count first) c.lines.invariant.within c.in_default.ensures.front c.keep-2.ensures.held
