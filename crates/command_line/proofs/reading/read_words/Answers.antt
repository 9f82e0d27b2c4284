use Rattle.std.proofs.Common.{sym, subst}
use Rattle.std.proofs.lemmas.Result.{IfOk-weaker, err_from_is_err_and}
use Rattle.clap.specs.Simple.{app_of}
use Rattle.clap.specs.Walk.{Row}
use Rattle.std.specs.Prelude.{IfOk, List}
use Rattle.command_line.proofs.Readings.{found, no_ok, right, wrong}
use Rattle.command_line.specs.Asking.{Asks}
use Rattle.command_line.specs.Words.{AsksFor, texts_of}
use Rattle.command_line.proofs.reading.read_words.Goals as goal

pub returns-in_err-matches-clause-usage : goal.returns-in_err-matches-clause-usage
returns-in_err-matches-clause-usage c = λ usage asked.
    let words = texts_of c.args.words.now in
    let cause = err_from_is_err_and c.from_residual-in_err-matches.result c.from_residual-in_err-matches.ensures.1 in
    wrong (app_of c.in_ok-command.field-0) c.in_ok-command.ensures words c.in_err-matches.field-0.0 cause.0 c.from_residual-in_err-matches.result
    c.in_err-matches.ensures.kinds cause.1 cause.2 usage asked.1.right

asks_at_ok : (c : goal.Joined-matches) → IfOk c.job_of.result (AsksFor (texts_of c.args.words.now))
asks_at_ok c =
    let words = texts_of c.args.words.now in
    let command = app_of c.in_ok-command.field-0 in
    IfOk-weaker c.job_of.result _ _ (λ job asks. record {
      right = right command c.in_ok-command.ensures words c.in_ok-matches.ensures.kinds;
      asks = subst (λ (rows : List Row). Asks rows job) (found command c.in_ok-command.ensures words c.in_ok-matches.matches c.in_ok-matches.ensures.matches) asks;
    }) c.job_of.ensures.ok

pub returns-clause-ok : goal.returns-clause-ok
returns-clause-ok c = asks_at_ok c

pub returns-clause-none : goal.returns-clause-none
returns-clause-none c = λ nothing. no_ok (AsksFor (texts_of c.args.words.now)) c.job_of.result (asks_at_ok c) (λ job asks. nothing (job, asks))

pub returns-clause-usage : goal.returns-clause-usage
returns-clause-usage c = λ usage asked.
    let same = found (app_of c.in_ok-command.field-0) c.in_ok-command.ensures (texts_of c.args.words.now) c.in_ok-matches.matches c.in_ok-matches.ensures.matches in
    c.job_of.ensures.usage usage asked.0 (subst (λ (rows : List Row). Asks rows asked.0) (sym same) asked.1.asks)
