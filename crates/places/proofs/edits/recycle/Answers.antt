use Rattle.std.proofs.Common.{ap, ◌∙◌}
use Rattle.std.specs.List.{concat}
use Rattle.places.proofs.Sweeps.{swept}
use Rattle.places.proofs.Cuts.{by_nil}
use Rattle.places.proofs.edits.recycle.Goals as goal

pub lay_by-requires-clause-value : goal.lay_by-requires-clause-value
lay_by-requires-clause-value c = by_nil c.args.chunks.now.items c.args.k c.remove-chunk.result c.requires.there c.remove-chunk.ensures.value ∙ c.requires.none

pub returns-clause-list : goal.returns-clause-list
returns-clause-list c = ap concat c.remove-chunk.ensures.items ∙ swept c.args.chunks.now.items c.args.k c.requires.there c.requires.none
