use Rattle.std.proofs.Common.{refl}
use Rattle.std.proofs.lemmas.Bool.{false≢true}
use Rattle.stream_codec.proofs.Stages.{opening_passes, opening_refused}
use Rattle.stream_codec.proofs.stage.take_opening.Goals as goal

pub returns-then-is_opening-clause-taken : goal.returns-then-is_opening-clause-taken
returns-then-is_opening-clause-taken c = opening_passes c.args.field.now (c.if-is_opening.ensures.0 refl)

pub returns-else-is_opening-clause-refused : goal.returns-else-is_opening-clause-refused
returns-else-is_opening-clause-refused c = opening_refused c.args.field.now c.args.place c.requires (λ is. false≢true (c.if-is_opening.ensures.1 is))
