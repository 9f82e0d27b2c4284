use Rattle.std.proofs.Common.{sym, subst}
use Rattle.live.specs.Chains.{AreNow}
use Rattle.live.proofs.Standing.{now_none}
use Rattle.live.proofs.watches.Watches.new.Goals as goal

pub returns-clause-now : goal.returns-clause-now
returns-clause-now c = λ schema rows few. subst (AreNow schema rows) (sym c.new.ensures.items) (now_none schema rows few)
