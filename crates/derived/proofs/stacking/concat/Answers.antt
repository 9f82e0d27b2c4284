use Rattle.std.proofs.Common.{sym}
use Rattle.derived.specs.Layers.{table_of}
use Rattle.derived.specs.Refusals.{concat_due}
use Rattle.derived.proofs.Stacks.{concat_none}
use Rattle.relations.proofs.Faults.{done_due}
use Rattle.derived.proofs.stacking.concat.Goals as goal

pub stack-requires : goal.stack-requires
stack-requires g c =
    let none = concat_none (table_of c.args.a) (table_of c.args.b) (sym c.in_ok-check_concat.ensures) in
    record { same = sym none.0; few = none.1 }

pub returns : goal.returns
returns g c = record {
  due = done_due (concat_due (table_of c.args.a) (table_of c.args.b)) c.in_ok-stack.field-0 (sym c.in_ok-check_concat.ensures);
  ok = c.in_ok-stack.ensures;
}
