use Rattle.std.proofs.Common.{◌≡◌, [], ◌∙◌, sym}
use Rattle.std.proofs.lemmas.Bool.{false≢true}
use Rattle.lines.proofs.Going.{Serves-over, Serves-last, Serves-last_broken}
use Rattle.lines.proofs.serving.end_input.Goals as goal

pub returns-then-is_empty-clause-serves : goal.returns-then-is_empty-clause-serves
returns-then-is_empty-clause-serves g c = λ tells start begin budget count fits so.
    Serves-over (g.S.Session.machine c.args.context.now) budget start begin _ _ _ count so (c.requires.over tells) (c.is_empty.ensures.0 c.if-is_empty.true) fits

pub returns-in-Ok-clause-serves : goal.returns-in-Ok-clause-serves
returns-in-Ok-clause-serves g c = λ tells start begin budget count fits so.
    let some : ¬ (c.args.room.now.bytes ≡ []) = λ none. false≢true (sym c.if-is_empty.false ∙ c.is_empty.ensures.1 none) in
    Serves-last (g.S.Session.machine c.args.context.now) budget start begin _ _ _ _ _ count _ so (c.in-Ok.ensures.answers tells so.rest (c.as_slice.ensures ∙ so.held)) (c.requires.over tells) some fits

pub returns-in-Err-clause-serves : goal.returns-in-Err-clause-serves
returns-in-Err-clause-serves g c = λ tells start begin budget count fits so.
    let some : ¬ (c.args.room.now.bytes ≡ []) = λ none. false≢true (sym c.if-is_empty.false ∙ c.is_empty.ensures.1 none) in
    Serves-last_broken (g.S.Session.machine c.args.context.now) budget start begin _ _ _ _ _ count _ so (c.in-Err.ensures.answers tells so.rest (c.as_slice.ensures ∙ so.held)) (c.requires.over tells) some fits
