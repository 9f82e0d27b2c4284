use Rattle.std.proofs.Common.{◌≡◌, ◌-◌, suc, arith}
use Rattle.std.proofs.lemmas.Result.{err_from_is_err_and}
use Rattle.stream_codec.proofs.Stages.{no_structure_text, text_length_passes, text_length_refused}
use Rattle.stream_codec.proofs.stage.take_text_length.Goals as goal

pub returns-in_err-len-clause-refused : goal.returns-in_err-len-clause-refused
returns-in_err-len-clause-refused c = λ views.
    let p = err_from_is_err_and c.from_residual.result c.from_residual.ensures.1 in
    let left = c.args.left in
    let next : left ≡ suc (left - 1) = let some = c.requires.some in omega (arith, some) in
    rw (p.1, p.2) (text_length_refused views left (left - 1) c.args.field.now c.args.place _ next c.requires.long c.in_err-len.ensures)

pub returns-then-len-eq0-clause-refused : goal.returns-then-len-eq0-clause-refused
returns-then-len-eq0-clause-refused c = λ views.
    let left = c.args.left in
    let next : left ≡ suc (left - 1) = let some = c.requires.some in omega (arith, some) in
    no_structure_text views left (left - 1) c.in_ok-len.len c.args.field.now c.args.place next c.requires.long c.in_ok-len.ensures c.if-len-eq0.true

pub returns-clause-taken : goal.returns-clause-taken
returns-clause-taken c = λ views loading.
    let left = c.args.left in
    let next : left ≡ suc (left - 1) = let some = c.requires.some in omega (arith, some) in
    text_length_passes views left (left - 1) c.in_ok-len.len c.args.field.now next c.requires.long c.in_ok-len.ensures (omega arith) loading
