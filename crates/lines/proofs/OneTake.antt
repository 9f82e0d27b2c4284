-- What one take brings.
use Rattle.std.proofs.Common.{◌≡◌, ℕ, ◌≤◌, List, [], ◌∷◌, length, take, get_or, Ok, ap, subst, arith}
use Rattle.host_io.specs.Outside.{Outside}
use Rattle.host_io.specs.Calls.{CountsTake, Takes}
use Rattle.lines.specs.Machine.{Machine}
use Rattle.lines.specs.Served.{Serves}
use Rattle.lines.specs.Steps.{SoFar}
use Rattle.lines.specs.declared.serving.End.TheVariants.{TooMuch}
use Rattle.lines.proofs.Going.{SoFar-take, Serves-beyond}

-- the bytes that came have not been looked at yet
pub SoFar-took : {W E : Type 0} (machine : Machine W) (start : W) (begin : Outside) (world : W) (old new : Outside) (room piece : List ℕ) (size count n : ℕ)
    → SoFar machine start begin world old room [] count → Takes {E = E} size piece old new (Ok n) → CountsTake {T = ℕ} {E = E} old new (Ok n)
    → SoFar machine start begin world new room (take n piece) count
SoFar-took {E = E} machine start begin world old new room piece size count n so takes counts =
    SoFar-take {T = ℕ} {E = E} machine start begin world old new room (take n piece) count (Ok n) so takes.came takes.still counts

pub SoFar-took_none : {W E : Type 0} (machine : Machine W) (start : W) (begin : Outside) (world : W) (old new : Outside) (room piece : List ℕ) (size count n : ℕ)
    → SoFar machine start begin world old room [] count → Takes {E = E} size piece old new (Ok n) → n ≡ 0 → CountsTake {T = ℕ} {E = E} old new (Ok n)
    → SoFar machine start begin world new room [] count
SoFar-took_none machine start begin world old new room piece size count n so takes none counts =
    let A : ℕ → Type 0 = λ m. SoFar machine start begin world new room (take m piece) count in
    subst A none (SoFar-took machine start begin world old new room piece size count n so takes counts)

one_byte : (piece : List ℕ) (n : ℕ) → length piece ≡ 1 → n ≤ 1 → ¬ (n ≡ 0) → take n piece ≡ get_or piece 0 0 ∷ []
one_byte [] n size most some = absurd (omega arith)
one_byte (byte ∷ []) n size most some = let one : n ≡ 1 = omega arith in ap (λ (m : ℕ). take m (byte ∷ [])) one
one_byte (byte ∷ other ∷ piece) n size most some = absurd (omega arith)

-- one more byte came
pub Serves-too_much : {W E : Type 0} (machine : Machine W) (budget : ℕ) (start : W) (begin : Outside) (world : W) (old new : Outside) (room piece : List ℕ) (size n : ℕ)
    → SoFar machine start begin world old room [] budget → Takes {E = E} size piece old new (Ok n) → CountsTake {T = ℕ} {E = E} old new (Ok n)
    → length piece ≡ 1 → n ≤ 1 → ¬ (n ≡ 0) → Serves machine budget TooMuch start world begin new
Serves-too_much machine budget start begin world old new room piece size n so takes counts one most some =
    let A : List ℕ → Type 0 = λ ahead. SoFar machine start begin world new room ahead budget in
    Serves-beyond machine budget start begin world new room (get_or piece 0 0)
    (subst A (one_byte piece n one most some) (SoFar-took machine start begin world old new room piece size budget n so takes counts))
