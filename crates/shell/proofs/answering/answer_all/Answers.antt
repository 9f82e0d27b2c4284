use Rattle.std.proofs.Common.{◌≤◌, ℕ, List, length, refl, ◌∙◌, subst, arith}
use Rattle.std.proofs.lemmas.Result.{err_from_is_err_and}
use Rattle.lines.specs.Lines.{max_line}
use Rattle.shell.proofs.InSilence.{Reaches, reaches_more, reaches_none, refuses_one}
use Rattle.shell.proofs.Saying.{silence_joins}
use Rattle.shell.proofs.answering.answer_all.Goals as goal

pub lines-init : goal.lines-init
lines-init g c = record {
  line = c.requires.line;
  clear = c.requires.out;
  ready = c.requires.ready;
  so_far = λ tells. reaches_none (g.S.Session.machine c.args.context.now) c.args.session.now (g.H.Disk.outside c.args.host.now) c.args.sample.now;
  say_faults = refl;
  source = refl;
}

pub lines-preserved : goal.lines-preserved
lines-preserved g c =
    let machine = g.S.Session.machine c.args.context.now in
    let begin = g.H.Disk.outside c.args.host.now in
    let old = g.H.Disk.outside c.lines.host in
    let step = c.next_line.ensures.some c.lines-test.true in
    let line = c.next_line.new.line.bytes in
    let few : length line ≤ max_line = omega (arith, c.next_line.ensures.short) in
    record {
      line = record { empty = c.clear.ensures.empty; spare = omega (arith, c.clear.ensures.spare, c.next_line.ensures.room) };
      clear = record { empty = c.clear-in-lines.ensures.empty; spare = omega (arith, c.clear-in-lines.ensures.spare, c.answer_one.ensures.room) };
      ready = c.answer_one.ensures.ready;
      so_far = λ tells.
          reaches_more machine c.args.session.now begin c.lines.session c.answer_one.new.session old (g.H.Disk.outside c.answer_one.new.host) c.args.sample.now
          c.next_line.new.self line c.answer_one.new.out.bytes few (c.answer_one.ensures.answers tells)
          (subst (λ (left : List (List ℕ)). Reaches machine c.args.session.now begin c.lines.session old c.args.sample.now left) step (c.lines.invariant.so_far tells))
          (c.requires.goes_on.goes_on line (c.next_line.ensures.begins c.lines-test.true)) c.in_ok-answer_one.ensures.refused;
      say_faults = c.answer_one.ensures.say_faults ∙ c.lines.invariant.say_faults;
      source = c.answer_one.ensures.source ∙ c.lines.invariant.source;
    }

pub returns-in_err-answer_one-clause-comes : goal.returns-in_err-answer_one-clause-comes
returns-in_err-answer_one-clause-comes g c =
    let machine = g.S.Session.machine c.args.context.now in
    let begin = g.H.Disk.outside c.args.host.now in
    let old = g.H.Disk.outside c.lines.host in
    let step = c.next_line.ensures.some c.lines-test.true in
    let line = c.next_line.new.line.bytes in
    let few : length line ≤ max_line = omega (arith, c.next_line.ensures.short) in
    let p = err_from_is_err_and c.from_residual.result c.from_residual.ensures.1 in
    rw p.1 (λ tells.
    let so = c.lines.invariant.so_far tells in
    let answers = c.answer_one.ensures.answers tells in
    record {
      comes = refuses_one machine c.args.session.now begin c.lines.session c.answer_one.new.session old (g.H.Disk.outside c.answer_one.new.host) c.args.sample.now
          c.next_line.new.self line c.answer_one.new.out.bytes few answers
          (subst (λ (left : List (List ℕ)). Reaches machine c.args.session.now begin c.lines.session old c.args.sample.now left) step so)
          c.in_err-answer_one.ensures.refused;
      silence = silence_joins begin old (g.H.Disk.outside c.answer_one.new.host) so.silence answers.silence;
    })
