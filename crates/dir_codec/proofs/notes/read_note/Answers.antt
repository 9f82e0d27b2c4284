use Rattle.std.proofs.Common.{arith}
use Rattle.std.proofs.lemmas.Result.{err_from_is_err_and}
use Rattle.dir_codec.proofs.NoteParts.{length_flaw, note_leads, number_flaw, text_flaw}
use Rattle.dir_codec.proofs.notes.read_note.Goals as goal

pub returns-in_err-commit : goal.returns-in_err-commit
returns-in_err-commit c = λ end more.
    let p = err_from_is_err_and c.from_residual.result c.from_residual.ensures.1 in
    rw (p.1, p.2) (number_flaw c.args.number end more c.args.last c.args.bytes.now c.args.at _ c.requires c.in_err-commit.ensures)

pub returns-in_err-len : goal.returns-in_err-len
returns-in_err-len c = λ end more.
    let p = err_from_is_err_and c.from_residual-in_err-len.result c.from_residual-in_err-len.ensures.1 in
    rw (p.1, p.2) (length_flaw c.args.number end more c.args.last c.args.bytes.now c.args.at c.in_ok-commit.commit _ c.in_ok-commit.ensures c.in_err-len.ensures)

pub returns-in_err-text : goal.returns-in_err-text
returns-in_err-text c = λ end more.
    let p = err_from_is_err_and c.from_residual-in_err-text.result c.from_residual-in_err-text.ensures.1 in
    rw (p.1, p.2) (text_flaw c.args.number end more c.args.last c.args.bytes.now c.args.at c.in_ok-commit.commit c.in_ok-len.field-0 _ c.in_ok-commit.ensures c.in_ok-len.ensures c.in_err-text.ensures)

pub returns : goal.returns
returns c = λ end more.
    let commit = c.in_ok-commit.ensures.1 in
    let len = c.in_ok-len.ensures.1 in
    let text = c.in_ok-text.ensures in
    let above = commit.2 in
    let some = len.2 in
    let few = len.3 in
    let long = text.3 in (
      record { from = omega (arith, above); upto = commit.3; some = omega (arith, some, long); few = omega (arith, few, long); text = text.2 },
      note_leads c.args.number end more c.args.last c.args.bytes.now c.args.at c.in_ok-commit.commit c.in_ok-len.field-0 c.in_ok-text.text.bytes c.in_ok-commit.ensures c.in_ok-len.ensures (text.0, (text.1, text.2, text.3)),
    )
