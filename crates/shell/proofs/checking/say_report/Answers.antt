use Rattle.std.proofs.Common.{ℕ, List, ◌++◌, ◌∙◌, ap, subst}
use Rattle.shell.specs.Ran.{SaysLine}
use Rattle.shell.specs.Said.{check_line}
use Rattle.shell.proofs.checking.say_report.Goals as goal

pub returns-clause-says : goal.returns-clause-says
returns-clause-says g c = λ tells.
    subst (λ (line : List ℕ). SaysLine line c.say_line.result (g.H.Disk.outside c.args.host.now) (g.H.Disk.outside c.say_line.new.host))
    (c.write_report.ensures.bytes ∙ ap (λ front. front ++ check_line c.args.report.now) c.requires.empty) (c.say_line.ensures.says tells)
