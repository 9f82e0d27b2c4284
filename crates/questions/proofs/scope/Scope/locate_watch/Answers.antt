use Rattle.std.proofs.Common.{map, sym, subst}
use Rattle.std.specs.Prelude.{Result}
use Rattle.expr_text.specs.Meanings.{query_of}
use Rattle.watches.specs.Rows.{table_read}
use Rattle.questions.specs.Answers.{Answers}
use Rattle.questions.specs.declared.error.QuestionError.{QuestionError}
use Rattle.questions.specs.declared.located.Located.{Located}
use Rattle.questions.proofs.Watched.{locate_named, watch_sorted}
use Rattle.questions.proofs.scope.Scope.locate_watch.Goals as goal

pub locate_among-requires : goal.locate_among-requires
locate_among-requires g c =
    let t = table_read c.in-Some.rows in
    rw (c.as_slice.ensures, c.in_ok-keys.ensures, c.schema.ensures.value)
    (watch_sorted c.args.self.now.names (query_of c.args.expr.now) t c.in-Some.ensures)

pub returns : goal.returns
returns g c =
    let t = table_read c.in-Some.rows in
    subst (λ (due : Result Located QuestionError). Answers (λ located. located) due c.locate_among.result)
    (sym (locate_named c.args.self.now.names (map g.V.Viewer.meaning c.args.self.now.viewers.now) c.args.self.now.computed.now (query_of c.args.expr.now) t c.in-Some.ensures c.args.criteria.now))
    (rw (c.as_slice.ensures, c.in_ok-keys.ensures, c.schema.ensures.value) at c.locate_among.ensures)
