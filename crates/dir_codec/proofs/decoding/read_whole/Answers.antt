use Rattle.std.proofs.lemmas.Result.{err_from_is_err_and}
use Rattle.dir_codec.proofs.WholeRead.{byte_behind, dir_read, notes_flaw, views_flaw}
use Rattle.dir_codec.proofs.decoding.read_whole.Goals as goal

pub returns-in_err-views-clause-refused : goal.returns-in_err-views-clause-refused
returns-in_err-views-clause-refused c =
    let p = err_from_is_err_and c.from_residual.result c.from_residual.ensures.1 in
    rw (p.1, p.2) (views_flaw c.args.version c.args.number c.args.end c.args.bytes.now _ (c.in_err-views.ensures c.args.number))

pub read_notes_behind-requires-clause-within : goal.read_notes_behind-requires-clause-within
read_notes_behind-requires-clause-within c = (c.in_ok-views.ensures 0).1.within

pub returns-in_err-notes-clause-refused : goal.returns-in_err-notes-clause-refused
returns-in_err-notes-clause-refused c =
    let p = err_from_is_err_and c.from_residual-in_err-notes.result c.from_residual-in_err-notes.ensures.1 in
    rw (p.1, p.2) (notes_flaw c.args.version c.args.number c.args.end c.args.bytes.now c.in_ok-views.next _ _ (c.in_ok-views.ensures c.args.number).1 (c.in_err-notes.ensures c.args.end))

pub returns-then-behind-bytes-clause-refused : goal.returns-then-behind-bytes-clause-refused
returns-then-behind-bytes-clause-refused c =
    byte_behind c.args.version c.args.number c.args.end c.args.bytes.now c.in_ok-views.next c.in_ok-notes.behind _ _ (c.in_ok-views.ensures c.args.number).1 (c.in_ok-notes.ensures c.args.end).1 c.if-behind-bytes.true

pub returns-clause-found : goal.returns-clause-found
returns-clause-found c =
    let views = c.in_ok-views.ensures c.args.number in
    let notes = c.in_ok-notes.ensures c.args.end in
    dir_read c.args.version c.args.number c.args.end c.args.bytes.now c.in_ok-views.next c.in_ok-notes.behind c.in_ok-views.views c.in_ok-notes.notes views.0 notes.0 views.1 notes.1 c.if-behind-bytes.false
