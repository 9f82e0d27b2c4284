use Rattle.std.proofs.Common.{refl}
use Rattle.std.proofs.lemmas.Result.{err_from_is_err_and}
use Rattle.stream_codec.proofs.ViewFields.{content_refused, takes_content}
use Rattle.stream_codec.proofs.partial_view.take_content.Goals as goal

pub returns-in_err-value-clause-refused : goal.returns-in_err-value-clause-refused
returns-in_err-value-clause-refused c =
    let p = err_from_is_err_and c.from_residual.result c.from_residual.ensures.1 in
    rw (p.1, p.2) (content_refused c.args.view.now _ c.args.field.now c.args.place _ c.requires.content c.kind.ensures c.in_err-value.ensures)

pub returns-clause-taken : goal.returns-clause-taken
returns-clause-taken c =
    takes_content c.args.view.now _ c.args.field.now _ c.requires.content refl refl refl c.in_ok-push.ensures c.requires.whole (rw c.kind.ensures at c.in_ok-value.ensures)
