use Rattle.std.proofs.Common.{refl}
use Rattle.lines.specs.Served.{state_of}
use Rattle.shell.proofs.Crashing.{safe_sample, still_allowed}
use Rattle.shell.proofs.Saying.{said_state}
use Rattle.shell.proofs.sampling.sample_with.Goals as goal

pub returns-clause-sampled : goal.returns-clause-sampled
returns-clause-sampled g c = λ tells.
    let opened = g.H.Disk.outside c.args.host.now in
    let answered = g.H.Disk.outside c.answer_sample.new.host in
    let new = g.H.Disk.outside c.say_line.new.host in
    let last = c.answer_sample.new.session in
    let line = c.answer_sample.new.out.bytes in
    let e = c.answer_sample.ensures in
    record {
      answered = answered;
      last = last;
      line = line;
      outcome = e.outcome tells;
      silence = e.silence tells;
      says = c.say_line.ensures.says tells;
      told = safe_sample line last opened answered new (e.silence tells) (e.ready tells) (c.say_line.ensures.moments tells) (said_state line c.say_line.result last answered new (c.say_line.ensures.says tells));
      crash = still_allowed line (state_of last answered) answered new refl (e.ready tells) (c.say_line.ensures.moments tells);
    }
