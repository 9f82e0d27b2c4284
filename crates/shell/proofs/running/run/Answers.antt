-- A run by its job, and a run in which nothing goes wrong.
use Rattle.std.proofs.Common.{map, refl}
use Rattle.command_line.specs.Words.{texts_of}
use Rattle.shell.proofs.Completing.{completes, ran_job}
use Rattle.shell.proofs.Outcomes.{written}
use Rattle.shell.proofs.running.run.Goals as goal

pub returns-in-None-clause-ran : goal.returns-in-None-clause-ran
returns-in-None-clause-ran g c = λ tells.
    ran_job (map g.V.Viewer.meaning c.args.viewers.now) (texts_of c.args.words.now) c.in-Ok.job c.run_job.result (g.H.Disk.outside c.args.host.now) (g.H.Disk.outside c.run_job.new.host) c.in-Ok.ensures.ok
    c.in-None.is c.run_job.ensures.right (c.run_job.ensures.ran tells)

pub returns-in-None-clause-complete : goal.returns-in-None-clause-complete
returns-in-None-clause-complete g c = λ tells.
    let words = texts_of c.args.words.now in
    let old = g.H.Disk.outside c.args.host.now in
    let new = g.H.Disk.outside c.run_job.new.host in
    let e = c.run_job.ensures in
    completes (record {
      wrong = c.a_stream_is_whole.ensures.wrong;
      cut = c.a_stream_is_whole.ensures.cut;
      one = c.one_stream.ensures;
      stays = c.a_wrong_field_stays_wrong.ensures;
    }) (map g.V.Viewer.meaning c.args.viewers.now) words c.run_job.result old new (λ one other. c.words_ask_for_one_job.ensures words one other)
    (ran_job (map g.V.Viewer.meaning c.args.viewers.now) words c.in-Ok.job c.run_job.result old new c.in-Ok.ensures.ok c.in-None.is e.right (e.ran tells)) e.take_fault e.say_fault e.disk_fault

pub run_job-requires-clause-written : goal.run_job-requires-clause-written
run_job-requires-clause-written g c = written (texts_of c.args.words.now) c.in-Ok.job c.in-Ok.job.task refl c.in-Ok.ensures.ok
