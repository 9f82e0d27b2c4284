use Rattle.std.proofs.Common.{ap, subst}
use Rattle.watches.specs.Keeping.{Kept}
use Rattle.watches.proofs.Grouped.{IsNamed, number_found}
use Rattle.watches.proofs.followed.Followed.watched.Goals as goal

pub returns-clause-there : goal.returns-clause-there
returns-clause-there c =
    let named = subst IsNamed c.self.view_is c.self.invariant in
    (number_found c.args.self.now c.args.name.now c.place.result c.number_at.result c.self.inside.watches.watches named (ap (λ (k : Kept). k.watching.watches) c.self.view_is) c.place.ensures.value c.place.ensures.within c.number_at.ensures).1

pub returns-clause-place : goal.returns-clause-place
returns-clause-place c =
    let named = subst IsNamed c.self.view_is c.self.invariant in
    (number_found c.args.self.now c.args.name.now c.place.result c.number_at.result c.self.inside.watches.watches named (ap (λ (k : Kept). k.watching.watches) c.self.view_is) c.place.ensures.value c.place.ensures.within c.number_at.ensures).0
