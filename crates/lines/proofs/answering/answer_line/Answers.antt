use Rattle.std.proofs.Common.{◌∙◌, arith}
use Rattle.std.proofs.lemmas.Result.{err_from_is_err_and}
use Rattle.lines.proofs.OneLine.{long_line, answers_line, answers_short, Answered-limit, goes_on-limit}
use Rattle.lines.proofs.answering.answer_line.Goals as goal

pub returns-in_err-say_all-clause-answers : goal.returns-in_err-say_all-clause-answers
returns-in_err-say_all-clause-answers g c =
    let p = err_from_is_err_and c.from_residual.result c.from_residual.ensures.1 in
    rw p.1 (λ tells line is.
    let long = long_line c.args.held.now line is (omega arith) in
    let ready = c.requires.ready tells in
    let says = c.in_err-say_all.ensures.says tells in
    answers_line (g.S.Session.machine c.args.context.now) line _ _ _ _ _ _ _ _ ready (Answered-limit (g.S.Session.machine c.args.context.now) line _ _ long ready) says c.in_err-say_all.ensures.counts tt says.err tt)

pub returns-then-held-gt-MAX_LINE-clause-answers : goal.returns-then-held-gt-MAX_LINE-clause-answers
returns-then-held-gt-MAX_LINE-clause-answers g c = λ tells line is.
    let long = long_line c.args.held.now line is (omega arith) in
    let ready = c.requires.ready tells in
    let says = c.in_ok-say_all.ensures.says tells in
    answers_line (g.S.Session.machine c.args.context.now) line _ _ _ _ _ _ _ _ ready (Answered-limit (g.S.Session.machine c.args.context.now) line _ _ long ready) says c.in_ok-say_all.ensures.counts says.ok tt (goes_on-limit (g.S.Session.machine c.args.context.now) line long)

pub returns-in_err-say_all-2-clause-answers : goal.returns-in_err-say_all-2-clause-answers
returns-in_err-say_all-2-clause-answers g c =
    let p = err_from_is_err_and c.from_residual-in_err-say_all-2.result c.from_residual-in_err-say_all-2.ensures.1 in
    rw p.1 (λ tells line is.
    let answer = c.answer-flow.ensures in
    let says = c.in_err-say_all-2.ensures.says tells in
    answers_short (g.S.Session.machine c.args.context.now) c.args.held.now line c.answer-flow.new.out.bytes _ _ _ _ _ _ _ _ is (omega arith) (c.requires.ready tells)
    (answer.answers tells) (answer.ready tells) (answer.moments tells) (answer.quiet tells) (answer.said tells) (answer.input tells)
    answer.disk_faults answer.take_faults answer.say_faults
    (c.as_bytes.ensures.value ∙ c.as_str.ensures.value) says c.in_err-say_all-2.ensures.counts tt says.err tt)

pub returns-clause-answers : goal.returns-clause-answers
returns-clause-answers g c = λ tells line is.
    let answer = c.answer-flow.ensures in
    let says = c.in_ok-say_all-2.ensures.says tells in
    answers_short (g.S.Session.machine c.args.context.now) c.args.held.now line c.answer-flow.new.out.bytes _ _ _ _ _ _ _ _ is (omega arith) (c.requires.ready tells)
    (answer.answers tells) (answer.ready tells) (answer.moments tells) (answer.quiet tells) (answer.said tells) (answer.input tells)
    answer.disk_faults answer.take_faults answer.say_faults
    (c.as_bytes.ensures.value ∙ c.as_str.ensures.value) says c.in_ok-say_all-2.ensures.counts says.ok tt answer.ends
