use Rattle.std.proofs.Common.{subst}
use Rattle.keyed_views.specs.Keyed.{edits_of}
use Rattle.keyed_views.specs.declared.mapping.Mapping.{Mapping}
use Rattle.keyed_views.specs.Keeping.{Keeps}
use Rattle.keyed_views.proofs.Comings.{keys_followed}
use Rattle.keyed_views.proofs.mapping.Mapping.follow.Goals as goal

pub returns-in-Hashed-clause-keeps : goal.returns-in-Hashed-clause-keeps
returns-in-Hashed-clause-keeps c = λ keys rows row kept same _.
    keys_followed keys (edits_of c.args.coming.edit) row c.args.coming.key rows c.in-Hashed.index.keys c.follow.new.index.keys
    (subst (λ (m : Mapping). Keeps m keys rows) c.in-Hashed.is kept) same c.follow.ensures
