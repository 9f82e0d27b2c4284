-- A call that makes another one on its way, so that both are done or neither.
use Rattle.std.specs.Prelude.{◌≡◌, ◌⊎◌, Result}
use Rattle.std.specs.Result.{OnOk, OnErr}

-- the other call was made and gave this answer; or it was not made, and the answer is an error
abbrev pub Together : {F A E : Type 0} → (F → Result A E → F → Type 0) → Result A E → F → F → Type 0
Together step result old new = OnOk result (step old result new) × OnErr result ((new ≡ old) ⊎ step old result new)
