-- Lines that give a structure, by what stands behind their first word.
use Rattle.std.specs.Prelude.{◌≡◌, ℕ, false, List, ◌++◌, codes}
use Rattle.mk_value.specs.Names.{is_name_byte}
use Rattle.tokens.specs.Cutting.{begins_with}
use Rattle.cmd_text.specs.Lines.{without_leading}

-- What stands behind `getas`, which begins the line and is the whole run there.
pub record IsBehindGetas (line behind : List ℕ) : Type 0 where
  pub begins : without_leading line ≡ codes "getas" ++ behind
  pub ends : begins_with is_name_byte behind ≡ false
