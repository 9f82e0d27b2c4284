use Rattle.std.proofs.Common.{◌≡◌, map, take}
use Rattle.storage.specs.Reverting.{without_homes}
use Rattle.storage.proofs.reverting.tables_anew.Given as goal

abbrev pub invariant-tables : goal.invariant-tables
invariant-tables l = l.anew.items ≡ map without_homes (take l.table-index l.fn.tables)
