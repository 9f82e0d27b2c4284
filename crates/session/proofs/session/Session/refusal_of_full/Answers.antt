use Rattle.std.proofs.Common.{◌≡◌, List, ap, subst, sym, ◌∙◌}
use Rattle.std.specs.Prelude.{◌⊎◌}
use Rattle.expr_text.specs.Meanings.{query_of}
use Rattle.watches.specs.Lines.{refusal_of}
use Rattle.live.specs.declared.error.WatchError.TheVariants as watching
use Rattle.mk_value.specs.Heading.{Attribute}
use Rattle.questions.specs.Operations.{operation}
use Rattle.session.specs.Naming.{table_under}
use Rattle.session.proofs.WatchDues.{full_answered}
use Rattle.session.proofs.session.Session.refusal_of_full.Goals as goal

pub returns : goal.returns
returns c =
    let w = c.args.self.now in
    let q = query_of c.args.expr.now in
    let t = c.in-Some.table.now in
    full_answered w c.args.name.now q t c.refusal_of_operation.result c.of_watch.result
    (ap (table_under w) (sym c.operand.ensures) ∙ c.in-Some.ensures) (sym c.is_taken.ensures ∙ c.if-is_taken.false)
    (subst (λ (schema : List Attribute). (c.refusal_of_operation.result ≡ watching.Memory) ⊎ (c.refusal_of_operation.result ≡ refusal_of schema (operation schema q))) c.schema.ensures.value c.refusal_of_operation.ensures)
    c.of_watch.ensures
