use Rattle.std.proofs.Common.{map, refl, subst, sym, ◌∙◌, arith}
use Rattle.host_io.proofs.Moments.{begins}
use Rattle.cmd_text.specs.Replies.{reply_bytes}
use Rattle.cmd_text.specs.declared.command.Command.{Command}
use Rattle.lines.specs.Served.{state_of}
use Rattle.session.specs.Carried.{Carried}
use Rattle.session.proofs.Outcomes.{answered_carried, answered_same, outcome_open, still, unreached}
use Rattle.session.proofs.Ready.{ready_same}
use Rattle.session.proofs.session.Session.step.Goals as goal

pub returns-in_default : goal.returns-in_default
returns-in_default g c =
    let outside = g.H.Disk.outside c.args.host.now in
    let w = c.args.self.now in
    let new = c.carry_out.new.self in
    let command = c.args.command.now in
    let viewers = map g.V.Viewer.meaning c.args.viewers.now in
    let is = outcome_open viewers w command (sym c.refuses.ensures ∙ c.if-refuses.false) in
    let without = unreached command c.in_default.not-Commit c.in_default.not-Reopen c.in_default.not-Revert in
    record {
      carried = answered_carried g.H.Disk.tells outside viewers command w c.carry_out.result new is without c.carry_out.ensures;
      fits = c.carry_out.ensures.fits;
      unsaid = λ lines. let kept = c.carry_out.ensures.kept lines in record { takes = kept.0; world = kept.1; disk = still w new outside };
      silent = c.carry_out.ensures.silent;
      counts = record { later = omega arith; cause = λ never. absurd never; takes = refl; says = refl; source = refl };
      goes = λ tells. record {
        moments = begins outside;
        said = refl;
        input = refl;
        ready = ready_same (state_of w outside) (state_of new outside) (answered_same viewers command w c.carry_out.result new c.carry_out.ensures) refl (c.requires.ready tells);
      };
      off_disk = λ reach. refl;
      shut = λ refuses. refl;
    }

pub returns-in-Commit-clause-carried : goal.returns-in-Commit-clause-carried
returns-in-Commit-clause-carried g c =
    let viewers = map g.V.Viewer.meaning c.args.viewers.now in
    let from = state_of c.args.self.now (g.H.Disk.outside c.args.host.now) in
    let to = state_of c.commit.new.self (g.H.Disk.outside c.commit.new.host) in
    subst (λ (x : Command). Carried g.H.Disk.tells viewers x from (reply_bytes c.commit.result) to) (sym c.in-Commit.is) (c.commit.ensures.carried viewers)

pub returns-in-Reopen-clause-carried : goal.returns-in-Reopen-clause-carried
returns-in-Reopen-clause-carried g c =
    let viewers = map g.V.Viewer.meaning c.args.viewers.now in
    let from = state_of c.args.self.now (g.H.Disk.outside c.args.host.now) in
    let to = state_of c.reopen.new.self (g.H.Disk.outside c.reopen.new.host) in
    subst (λ (x : Command). Carried g.H.Disk.tells viewers x from (reply_bytes c.reopen.result) to) (sym c.in-Reopen.is) (c.reopen.ensures.carried viewers)

pub returns-in-Revert-clause-carried : goal.returns-in-Revert-clause-carried
returns-in-Revert-clause-carried g c =
    let viewers = map g.V.Viewer.meaning c.args.viewers.now in
    let from = state_of c.args.self.now (g.H.Disk.outside c.args.host.now) in
    let to = state_of c.revert.new.self (g.H.Disk.outside c.revert.new.host) in
    subst (λ (x : Command). Carried g.H.Disk.tells viewers x from (reply_bytes c.revert.result) to) (sym c.in-Revert.is) (c.revert.ensures.carried viewers)
