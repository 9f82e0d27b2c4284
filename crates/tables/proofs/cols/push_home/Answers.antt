use Rattle.std.proofs.Common.{All, Option, subst}
use Rattle.bytes_col.specs.declared.home.BytesHome.{BytesHome}
use Rattle.tables.specs.Columns.{home_of_strings}
use Rattle.tables.specs.Compact.{IsCompact}
use Rattle.tables.specs.Rests.{blocks_of}
use Rattle.tables.proofs.cols.push_home.Goals as goal

pub push_strings-requires : goal.push_strings-requires
push_strings-requires c = subst (λ (home : Option BytesHome). All IsCompact (blocks_of (home_of_strings home))) c.in-Some.ensures.some c.requires
