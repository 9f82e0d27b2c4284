-- The greeting is said whole or in part, and the lines are served from the session's world.
use Rattle.std.proofs.Common.{map, ℕ, sym, subst, inl}
use Rattle.lines.specs.Spoken.{SaysAll}
use Rattle.shell.specs.Said.{greeting_line}
use Rattle.shell.proofs.Saying.{greets_in_part, ran_from}
use Rattle.shell.proofs.running.greet_and_serve.Goals as goal

pub returns-then-is_err-clause-ran : goal.returns-then-is_err-clause-ran
returns-then-is_err-clause-ran g c = λ tells.
    let old = g.H.Disk.outside c.args.host.now in
    let new = g.H.Disk.outside c.greet.new.host in
    inl (greets_in_part c.args.session.now old new c.greet.result (sym c.if-is_err.ensures.value)
    (subst (λ (n : ℕ). SaysAll (greeting_line n) old new c.greet.result) c.number.ensures.value (c.greet.ensures.says tells)) c.greet.ensures.counts (c.requires.ready tells))

pub returns-clause-ran : goal.returns-clause-ran
returns-clause-ran g c = λ tells.
    let old = g.H.Disk.outside c.args.host.now in
    let greeted = g.H.Disk.outside c.greet.new.host in
    ran_from (map g.V.Viewer.meaning c.args.viewers.now) c.serve.result c.args.session.now old greeted (g.H.Disk.outside c.serve.new.host) c.serve.new.session c.greet.result (sym c.if-is_err.ensures.value)
    (subst (λ (n : ℕ). SaysAll (greeting_line n) old greeted c.greet.result) c.number.ensures.value (c.greet.ensures.says tells)) c.greet.ensures.counts (c.requires.ready tells) (c.serve.ensures.serves tells)
