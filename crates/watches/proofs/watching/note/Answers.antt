use Rattle.live.specs.Putting.{spare}
use Rattle.watches.proofs.Noting.{left_room, noted_room}
use Rattle.watches.proofs.watching.note.Goals as goal

pub note_edit-requires-clause-reserved : goal.note_edit-requires-clause-reserved
note_edit-requires-clause-reserved g c = noted_room c.args.edit (spare c.args.watches.now) c.requires.reserved

pub returns-clause-ready : goal.returns-clause-ready
returns-clause-ready g c =
    let e = c.note_edit.ensures in
    record { now = e.now; range = c.requires.range; noted = e.noted; room = left_room c.args.edit (spare c.args.watches.now) (spare c.note_edit.new.self) c.requires.reserved e.spare }
