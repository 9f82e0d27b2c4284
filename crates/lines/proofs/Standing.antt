-- What may stand after a crash, as one more turn is done.
use Rattle.std.proofs.Common.{◌≡◌, ℕ, ◌+◌, ◌-◌, ◌≤◌, List, [], ◌∷◌, ◌++◌, length, subst, inl, inr, arith, length-append}
use Rattle.lines.specs.Machine.{Machine, State, Turn, replies}
use Rattle.lines.specs.Crash.{MayStand}
use Rattle.lines.proofs.Turns.{state_after}

-- what stood before the last turn
pub MayStand-before : {W : Type 0} (machine : Machine W) (state : State W) (turns : List (Turn W)) (turn : Turn W) (n : ℕ) (image : List ℕ)
    → (machine.allowed (state_after state turns) image → MayStand machine (state_after state turns) (turn ∷ []) 0 image)
    → n ≤ length (replies turns) → MayStand machine state turns n image → MayStand machine state (turns ++ turn ∷ []) n image
MayStand-before machine state [] turn n image next short stands =
    let P : ℕ → Type 0 = λ m. MayStand machine state (turn ∷ []) m image in
    let none : 0 ≡ n = omega arith in
    subst P none (next stands)
MayStand-before machine state (turn' ∷ turns) turn n image next short stands = elim stands [
  | inl whole ↦ inl (whole.0, MayStand-before machine turn'.after turns turn (n - length turn'.reply) image next (omega (arith, short, length-append turn'.reply (replies turns))) whole.1)
  | inr within ↦ inr within
]

-- what stands while the last turn goes on
pub MayStand-within : {W : Type 0} (machine : Machine W) (state : State W) (turns : List (Turn W)) (turn : Turn W) (part : ℕ) (image : List ℕ)
    → MayStand machine (state_after state turns) (turn ∷ []) part image
    → MayStand machine state (turns ++ turn ∷ []) (length (replies turns) + part) image
MayStand-within machine state [] turn part image stands =
    let P : ℕ → Type 0 = λ m. MayStand machine state (turn ∷ []) m image in
    let is : part ≡ 0 + part = omega arith in
    subst P is stands
MayStand-within machine state (turn' ∷ turns) turn part image stands =
    let sizes = length-append turn'.reply (replies turns) in
    let P : ℕ → Type 0 = λ m. MayStand machine turn'.after (turns ++ turn ∷ []) m image in
    let is : length (replies turns) + part ≡ (length (turn'.reply ++ replies turns) + part) - length turn'.reply = omega arith in
    inl (omega arith, subst P is (MayStand-within machine turn'.after turns turn part image stands))
