use Rattle.std.proofs.Common.{◌≡◌, take}
use Rattle.storage.proofs.reverting.without_homes.Given as goal

abbrev pub invariant-names : goal.invariant-names
invariant-names l = l.names ≡ take l.name-index l.name-items
