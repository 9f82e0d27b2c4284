-- The home that a column has by itself or together with its copies.
use Rattle.std.specs.Prelude.{Option, None, Some}
use Rattle.bytes_col.specs.declared.home.BytesHome.{BytesHome}
use Rattle.bytes_col.specs.declared.home.Tie.{Tie}
use Rattle.bytes_col.specs.declared.home.Tie.TheVariants.{Own, Common}
use Rattle.bytes_col.specs.declared.home.Kept.{Kept}
use Rattle.bytes_col.specs.declared.home.Kept.TheVariants.{Nowhere, Boxed}

abbrev pub home_of : Tie → BytesHome
home_of (Own home) = home
home_of (Common home) = home

-- a home that is put away, if there is one
abbrev pub kept_home : Kept → Option BytesHome
kept_home Nowhere = None
kept_home (Boxed home) = Some home.value
