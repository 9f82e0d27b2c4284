use Rattle.dir_codec.proofs.WholeRead.{no_notes, some_notes}
use Rattle.dir_codec.proofs.decoding.read_notes_behind.Goals as goal

pub returns-then-version-eq2 : goal.returns-then-version-eq2
returns-then-version-eq2 c = λ end. some_notes c.args.version c.args.number end c.args.bytes.now c.args.at c.read_notes.result c.if-version-eq2.true (c.read_notes.ensures end)

pub returns-else-version-eq2 : goal.returns-else-version-eq2
returns-else-version-eq2 c = λ end. rw c.new.ensures (no_notes c.args.version c.args.number end c.args.bytes.now c.args.at c.requires.within c.requires.known c.if-version-eq2.false)
