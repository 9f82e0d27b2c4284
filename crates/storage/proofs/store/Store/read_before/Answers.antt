use Rattle.std.proofs.Common.{◌∙◌, sym, subst}
use Rattle.std.specs.Prelude.{Option}
use Rattle.std.proofs.lemmas.Result.{err_from_is_err_and}
use Rattle.host_io.specs.Outside.{Moment}
use Rattle.commit_marks.specs.Marks.{other_slot}
use Rattle.recovery.specs.declared.kept.Kept.{Kept}
use Rattle.recovery.specs.Opening.{NamesBroken, older_in}
use Rattle.recovery.specs.Refusals.{IsOlder}
use Rattle.storage.proofs.Marked.{none_before, none_older, refused_older}
use Rattle.storage.proofs.store.Store.read_before.Goals as goal

pub returns-in_err-kept-clause-refused : goal.returns-in_err-kept-clause-refused
returns-in_err-kept-clause-refused g c = λ tells.
    let p = err_from_is_err_and c.from_residual-in_err-kept.result c.from_residual-in_err-kept.ensures.1 in
    let m = c.in_ok-marks.marks in
    let e = c.in_err-kept.field-0.0 in
    rw (p.1, p.2) (refused_older c.args.self.now (g.D.Disk.outside c.args.disk.now).now.disk.seen m.slot m.chosen m.other e (c.in_ok-marks.ensures.marks tells).chooses
    (subst (λ (at : Moment). NamesBroken at.disk.seen (other_slot m.slot) m.other e) (c.in_ok-marks.ensures.same tells).still.now (c.in_err-kept.ensures.broken tells)))

pub returns-in-Some-clause-older : goal.returns-in-Some-clause-older
returns-in-Some-clause-older g c = λ tells.
    let m = c.in_ok-marks.marks in (
      m.slot,
      m.chosen,
      m.other,
      (c.in_ok-marks.ensures.marks tells).chooses,
      subst (λ (o : Option Kept). IsOlder (g.D.Disk.outside c.args.disk.now).now.disk.seen (other_slot m.slot) m.other (older_in o)) c.in-Some.is
          (subst (λ (at : Moment). IsOlder at.disk.seen (other_slot m.slot) m.other (older_in c.in_ok-kept.field-0)) (c.in_ok-marks.ensures.same tells).still.now (c.in_ok-kept.ensures.older tells)),
    )

pub returns-in-None-clause-refused : goal.returns-in-None-clause-refused
returns-in-None-clause-refused g c = λ tells.
    let m = c.in_ok-marks.marks in
    let seen = (g.D.Disk.outside c.read_marks.new.disk).now.disk.seen in
    let none = none_older seen (other_slot m.slot) m.other (subst (λ (o : Option Kept). IsOlder seen (other_slot m.slot) m.other (older_in o)) c.in-None.is (c.in_ok-kept.ensures.older tells)) in
    none_before c.args.self.now.before c.args.self.now.other (λ number is. c.before-2.ensures.marked number (c.before-2.ensures.value ∙ is)) (sym (c.in_ok-marks.ensures.other tells) ∙ none)
