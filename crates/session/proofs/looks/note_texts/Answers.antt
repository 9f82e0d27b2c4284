use Rattle.std.proofs.Common.{◌≡◌, ◌+◌, ◌-◌, ◌++◌, ◌∙◌, length, get_or, ◌∷◌, drop, map, reverse, subst, sym, ap, arith}
use Rattle.std.proofs.lemmas.List.{length-map, length-reverse, get_or-reverse}
use Rattle.mk_value.proofs.Walks.{drop_read, map_read}
use Rattle.cmd_text.specs.Replies.{contents}
use Rattle.dir_codec.specs.Values.{note_of}
use Rattle.session.specs.Commands.{note_text}
use Rattle.session.proofs.Walked.{walked_map, walked_all}
use Rattle.session.proofs.looks.note_texts.Goals as goal

pub loop-at-preserved : goal.loop-at-preserved
loop-at-preserved c =
    let notes = c.args.notes.now in
    let all = map note_of notes in
    let back = reverse all in
    let at = c.loop-at.at in
    let note = note_of c.index-notes-notes.result in
    let test = c.loop-at-test.true in
    let long = length-map notes note_of in
    let same = length-reverse all in
    let place = ap (λ n. get_or all (n - 1 - at) note) (sym long) in
    let next : drop at back ≡ note ∷ drop (at + 1) back =
    drop_read back at note (omega (arith, test, long, same))
    (map_read note_of notes (length notes - 1 - at) c.index-notes-notes.result (omega (arith, test)) c.index-notes-notes.is ∙ place ∙ sym (get_or-reverse all at note (omega (arith, test, long)))) in
    subst (λ texts. contents texts ++ map note_text (drop (at + 1) back) ≡ map note_text back) (sym c.in_ok-push.ensures.ok)
    (walked_map note_text c.loop-at.texts c.in_ok-text_of_note.field-0 back at note next c.in_ok-text_of_note.ensures c.loop-at.invariant)

pub returns : goal.returns
returns c =
    let notes = c.args.notes.now in
    let back = reverse (map note_of notes) in
    let past = c.loop-at-test.false in
    let long = length-map notes note_of in
    let same = length-reverse (map note_of notes) in
    walked_all note_text c.loop-at.texts back c.loop-at.at (omega (arith, past, long, same)) c.loop-at.invariant
