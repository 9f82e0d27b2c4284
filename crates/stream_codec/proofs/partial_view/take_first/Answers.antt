use Rattle.std.proofs.Common.{refl, ◌∙◌}
use Rattle.std.proofs.lemmas.Result.{err_from_is_err_and}
use Rattle.stream_codec.proofs.ViewFields.{awaits_some, first_refused, takes_rows, takes_value}
use Rattle.stream_codec.proofs.partial_view.take_first.Goals as goal

pub returns-in_err-value-clause-refused : goal.returns-in_err-value-clause-refused
returns-in_err-value-clause-refused c =
    let p = err_from_is_err_and c.from_residual.result c.from_residual.ensures.1 in
    rw (p.1, p.2) (first_refused c.args.view.now _ c.args.field.now c.args.place _ c.requires.content c.kind.ensures c.requires.unfinished c.in_err-value.ensures)

pub returns-in_ok-push-in-Whole-clause-taken : goal.returns-in_ok-push-in-Whole-clause-taken
returns-in_ok-push-in-Whole-clause-taken c =
    let says = rw (c.kind.ensures, c.in-Whole.is) at c.in_ok-value.ensures in
    takes_value c.args.view.now _ c.args.field.now _ c.requires.content c.requires.content refl refl c.in_ok-push-in-Whole.ensures c.requires.unfinished c.requires.whole says.1 says.2

pub returns-in_ok-open_inner-in-Rows-clause-taken : goal.returns-in_ok-open_inner-in-Rows-clause-taken
returns-in_ok-open_inner-in-Rows-clause-taken c =
    let says = rw (c.kind.ensures, c.in-Rows.is) at c.in_ok-value.ensures in
    let opened = c.in_ok-open_inner-in-Rows.ensures in
    takes_rows c.args.view.now c.open_inner.new.view c.args.field.now c.in-Rows.count c.requires.content (opened.content ∙ c.requires.content) opened.name opened.around opened.inner c.requires.unfinished
    (awaits_some _ c.in-Rows.count says.0) c.requires.whole says.1 says.2
