use Rattle.watches.proofs.watching.follow.Goals as goal

pub follow_edit-requires-clause-due : goal.follow_edit-requires-clause-due
follow_edit-requires-clause-due g c =
    let h = c.requires.ready in
    record { row = h.2.0; before = h.0; now = h.1.now; range = h.1.range; made = h.2.1 }
