use Rattle.std.proofs.Common.{arith}
use Rattle.view_store.proofs.check.check.Goals as goal

pub check_places-requires-clause-few : goal.check_places-requires-clause-few
check_places-requires-clause-few c =
    let few = c.size.ensures.whole.few in
    omega arith
