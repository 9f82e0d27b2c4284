use Rattle.std.proofs.lemmas.Result.{err_from_is_err_and}
use Rattle.dir_codec.specs.Parts.{names_before}
use Rattle.dir_codec.proofs.ViewParts.{body_flaw, is_view, view_leads}
use Rattle.dir_codec.proofs.views.read_view.Goals as goal

pub returns-in_err-name : goal.returns-in_err-name
returns-in_err-name c = λ number more.
    let p = err_from_is_err_and c.from_residual.result c.from_residual.ensures.1 in
    rw (p.1, p.2) (c.in_err-name.ensures number c.args.end more)

pub read_body-requires : goal.read_body-requires
read_body-requires c = (c.in_ok-name.ensures 0 0 0).1.within

pub returns-in_err-body : goal.returns-in_err-body
returns-in_err-body c = λ number more.
    let p = err_from_is_err_and c.from_residual-in_err-body.result c.from_residual-in_err-body.ensures.1 in
    rw (p.1, p.2) (body_flaw number c.args.end more (names_before c.args.views.now) c.args.bytes.now c.args.at c.in_ok-name.behind c.in_ok-name.name c.in_ok-name.schema _ (c.in_ok-name.ensures number c.args.end more).1
    (c.in_err-body.ensures number))

pub returns : goal.returns
returns c = λ number more.
    let structure = c.in_ok-name.ensures number c.args.end more in
    let body = c.in_ok-body.ensures number in
    let name = c.in_ok-name.name in
    let schema = c.in_ok-name.schema in
    let rows = c.in_ok-body.body.rows in
    let columns = c.in_ok-body.body.cols in (
      is_view c.args.end c.args.views.now name schema rows columns structure.0 body.0,
      structure.0.new,
      view_leads number c.args.end more (names_before c.args.views.now) c.args.bytes.now c.args.at c.in_ok-name.behind c.in_ok-body.next name schema rows columns structure.1 body.1,
    )
