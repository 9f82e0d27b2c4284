use Rattle.std.proofs.Common.{◌≡◌, ◌+◌, ◌-◌, ◌≤◌, length, take, length-take, refl, ap, ◌∙◌, arith}
use Rattle.lines.proofs.Going.{SoFar-start}
use Rattle.lines.proofs.serving.serve.Goals as goal

pub taking-init : goal.taking-init
taking-init g c =
    let empty = ap length c.requires.room.empty in
    record {
      within = omega arith;
      room = record { short = omega arith; spare = omega arith };
      clear = c.requires.out;
      ready = c.requires.ready;
      so_far = λ tells count all.
          let none : 0 ≡ count = omega arith in
          rw (c.requires.room.empty, ← none) (SoFar-start (g.S.Session.machine c.args.context.now) c.args.session.now _ (c.requires.ready tells));
      take_faults = omega arith;
      say_faults = omega arith;
      disk_faults = omega arith;
      source = refl;
    }

pub taking-preserved : goal.taking-preserved
taking-preserved g c =
    let begin = g.H.Disk.outside c.args.host.now in
    let n = c.in-Ok.count in
    let most = length-take c.min-most.result c.taking.piece in
    let few : n ≤ length (take c.min-most.result c.taking.piece) = c.in-Ok.ensures.within in
    record {
      within = omega arith;
      room = c.in-Ok.ensures.room;
      clear = c.in-Ok.ensures.clear;
      ready = c.in-Ok.ensures.ready;
      so_far = λ tells count all.
          let so = c.taking.invariant.so_far tells (count - n) (omega arith) in
          let came = c.in-Ok.ensures.comes tells c.args.session.now begin c.args.budget (count - n) (omega arith) so in
          let same : count - n + n ≡ count = omega arith in
          rw same at came;
      take_faults = omega arith;
      say_faults = omega arith;
      disk_faults = omega arith;
      source = c.in-Ok.ensures.source ∙ c.taking.invariant.source;
    }

pub returns-in-Err-clause-serves : goal.returns-in-Err-clause-serves
returns-in-Err-clause-serves g c = λ tells.
    let begin = g.H.Disk.outside c.args.host.now in
    let most = length-take c.min-most.result c.taking.piece in
    let so = c.taking.invariant.so_far tells (c.args.budget - c.taking.left) (omega arith) in
    c.in-Err.ensures.comes tells c.args.session.now begin c.args.budget (c.args.budget - c.taking.left) (omega arith) so
