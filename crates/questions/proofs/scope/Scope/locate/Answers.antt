use Rattle.std.proofs.Common.{map, sym, subst}
use Rattle.std.specs.Prelude.{Result}
use Rattle.expr_text.specs.Meanings.{query_of}
use Rattle.questions.specs.Answers.{Answers}
use Rattle.questions.specs.declared.error.QuestionError.{QuestionError}
use Rattle.questions.specs.declared.located.Located.{Located}
use Rattle.questions.proofs.Ordered.{locate_placed}
use Rattle.questions.proofs.scope.Scope.locate.Goals as goal

pub returns-in-Some : goal.returns-in-Some
returns-in-Some g c =
    subst (λ (due : Result Located QuestionError). Answers (λ located. located) due c.locate.result)
    (sym (locate_placed c.args.self.now.names (map g.V.Viewer.meaning c.args.self.now.viewers.now) c.args.self.now.computed.now (query_of c.args.expr.now) c.in-Some.view.table.now c.in-Some.view.keys c.args.criteria.now c.in-Some.ensures))
    c.locate.ensures
