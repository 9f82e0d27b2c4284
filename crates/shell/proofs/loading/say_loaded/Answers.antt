use Rattle.std.proofs.Common.{ℕ, List, ◌++◌, ◌≡◌, ◌∙◌, ap, subst}
use Rattle.host_io.specs.Outside.{Goes}
use Rattle.lines.specs.Spoken.{IsSaying}
use Rattle.shell.specs.Ran.{SaysLine}
use Rattle.shell.specs.Said.{load_line}
use Rattle.shell.proofs.loading.say_loaded.Goals as goal

pub returns-clause-says : goal.returns-clause-says
returns-clause-says g c = λ tells.
    subst (λ (line : List ℕ). SaysLine line c.say_line.result (g.H.Disk.outside c.args.host.now) (g.H.Disk.outside c.say_line.new.host))
    (c.write_loaded.ensures.bytes ∙ ap (λ front. front ++ load_line c.args.views 1) c.requires.empty) (c.say_line.ensures.says tells)

pub returns-clause-moments : goal.returns-clause-moments
returns-clause-moments g c = λ tells.
    let old = g.H.Disk.outside c.args.host.now in
    subst (λ (line : List ℕ). Goes (IsSaying line old.now) old (g.H.Disk.outside c.say_line.new.host))
    (c.write_loaded.ensures.bytes ∙ ap (λ front. front ++ load_line c.args.views 1) c.requires.empty) (c.say_line.ensures.moments tells)
