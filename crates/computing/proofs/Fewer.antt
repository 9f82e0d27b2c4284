-- Without the first of a name there are no more of them.
use Rattle.std.proofs.Common.{◌≤◌, ℕ, suc, Bool, true, false, cond, List, [], ◌∷◌, length, arith}
use Rattle.mk_value.specs.Names.{same_bytes}
use Rattle.computing.specs.Computed.{ComputedWatch, without_first}

either : (here : Bool) (w : ComputedWatch) (watches rest : List ComputedWatch) → length rest ≤ length watches → length (cond here watches (w ∷ rest)) ≤ suc (length watches)
either true w watches rest fewer = omega arith
either false w watches rest fewer = omega (arith, fewer)

pub shorter : (watches : List ComputedWatch) (name : List ℕ) → length (without_first watches name) ≤ length watches
shorter [] name = omega arith
shorter (w ∷ watches) name = either (same_bytes w.name name) w watches (without_first watches name) (shorter watches name)
