use Rattle.std.proofs.Common.{sym, subst}
use Rattle.std.specs.Prelude.{Option}
use Rattle.derived.specs.Layers.{table_of}
use Rattle.derived.specs.Viewing.{calc, calc_due}
use Rattle.relations.specs.Answers.{outcome}
use Rattle.viewers.specs.Meanings.{Meaning}
use Rattle.eval.specs.Values.{Evaluates, at_size, by_viewer}
use Rattle.eval.proofs.Answered.{answered_due, told_size}
use Rattle.eval.proofs.on_one.calc_by.Goals as goal

pub returns-in-Some : goal.returns-in-Some
returns-in-Some g c =
    let t = table_of c.args.base in
    let args = c.args.args.now in
    let new = c.args.new.now in
    let m = g.V.Viewer.meaning c.in-Some.viewer.now in
    subst (λ (found : Option Meaning). Evaluates table_of (by_viewer found c.args.viewer.now (λ m. at_size t (outcome (calc_due m.name m.takes args new t) (calc m.gives args new t)))) c.at_size.result) (sym c.in-Some.ensures)
    (answered_due table_of t (calc m.gives args new t) (calc_due m.name m.takes args new t) c.calc.result c.at_size.result c.calc.ensures.due c.calc.ensures.ok
    (told_size t c.size-size.result c.calc.result c.at_size.result c.size-size.ensures.value c.at_size.ensures))
