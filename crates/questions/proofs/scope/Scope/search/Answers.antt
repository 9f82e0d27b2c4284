use Rattle.std.proofs.Common.{ℕ, map, sym, subst}
use Rattle.std.specs.Prelude.{Result}
use Rattle.expr_text.specs.Meanings.{query_of}
use Rattle.questions.specs.Answers.{Answers}
use Rattle.questions.specs.declared.error.QuestionError.{QuestionError}
use Rattle.questions.proofs.Ordered.{search_sought}
use Rattle.questions.proofs.scope.Scope.search.Goals as goal

pub returns-in-Some : goal.returns-in-Some
returns-in-Some g c =
    subst (λ (due : Result ℕ QuestionError). Answers (λ position. position) due c.search.result)
    (sym (search_sought c.args.self.now.names (map g.V.Viewer.meaning c.args.self.now.viewers.now) c.args.self.now.computed.now (query_of c.args.expr.now) c.in-Some.view.table.now c.in-Some.view.keys c.args.criteria.now c.in-Some.ensures))
    c.search.ensures
