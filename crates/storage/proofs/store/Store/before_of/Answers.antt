use Rattle.std.proofs.Common.{sym, ◌∙◌}
use Rattle.storage.proofs.Marked.{marked_number}
use Rattle.storage.proofs.store.Store.before_of.Goals as goal

pub returns-clause-beside : goal.returns-clause-beside
returns-clause-beside c = λ number is. marked_number c.before_expected.result c.args.other number (sym c.if_marked.ensures ∙ is)
