use Rattle.std.proofs.Common.{length, map, Result, Ok, ap, sym, ◌∙◌}
use Rattle.mk_value.specs.Tables.{Table}
use Rattle.eval.specs.Names.{continued}
use Rattle.expr_text.specs.Meanings.{query_of}
use Rattle.watches.specs.Rows.{table_read}
use Rattle.questions.specs.declared.error.QuestionError.{QuestionError}
use Rattle.questions.proofs.Unordered.{as_many_rows}
use Rattle.questions.proofs.Watched.{watch_sized}
use Rattle.questions.proofs.scope.Scope.size_unordered.Goals as goal

pub returns-in-Some : goal.returns-in-Some
returns-in-Some g c =
    watch_sized c.args.self.now.names (map g.V.Viewer.meaning c.args.self.now.viewers.now) c.args.self.now.computed.now (query_of c.args.expr.now) (table_read c.in-Some.rows) c.in-Some.ensures
    ∙ ap Ok (sym c.size.ensures.value)

pub returns-in_ok-unordered-in-None : goal.returns-in_ok-unordered-in-None
returns-in_ok-unordered-in-None g c =
    let t = c.in_ok-unordered-in-None.ensures.0 in
    ap (λ (r : Result Table QuestionError). continued r (λ t. Ok (length t.rows))) c.in_ok-unordered-in-None.ensures.1
    ∙ ap Ok (sym (c.size-in-None-2.ensures.value ∙ as_many_rows t c.in_ok-unordered-in-None.field-0.rows c.in_ok-unordered-in-None.ensures.2.as_many))
