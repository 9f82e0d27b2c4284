-- What bytes in quotes stand for, byte by byte.
use Rattle.std.proofs.Common.{◌≡◌, ◌<◌, ◌≢◌, ◌==◌, eqb-true, ℕ, zero, suc, Bool, true, false, cond, List, [], ◌∷◌, ◌++◌, length, length-append, drop, get_or, refl, sym, ap, arith}
use Rattle.tokens.specs.Meanings.{behind_backslash, characters_of}

-- what the bytes from one on stand for, which may stand behind a backslash
abbrev pub characters_behind : Bool → List ℕ → List ℕ
characters_behind escapes bytes = cond escapes (behind_backslash bytes) (characters_of bytes)

-- from a byte on that is no backslash, or stands behind one, they stand for something
some_behind : (escapes : Bool) (bytes : List ℕ) (i : ℕ) → i < length bytes → (escapes ≡ false → get_or bytes i 0 ≢ 92) → 0 < length (characters_behind escapes (drop i bytes))
some_behind escapes [] i within other = absurd (omega arith)
some_behind escapes (b ∷ bytes) (suc i) within other = some_behind escapes bytes i (omega arith) other
some_behind true (b ∷ bytes) zero within other = omega arith
some_behind false (b ∷ bytes) zero within other =
    elim (b == 92) as (λ t. (b == 92) ≡ t → 0 < length (cond t (behind_backslash bytes) (b ∷ characters_of bytes)))
    [ true ↦ λ e. absurd (other refl (eqb-true b 92 e)) | false ↦ λ e. omega arith ] refl

pub more_behind : (content bytes : List ℕ) (i : ℕ) (escapes : Bool) → i < length bytes → (escapes ≡ false → get_or bytes i 0 ≢ 92)
    → content ++ characters_behind escapes (drop i bytes) ≡ characters_of bytes → length content < length (characters_of bytes)
more_behind content bytes i escapes within other is =
    omega (arith, sym (ap length is), length-append content (characters_behind escapes (drop i bytes)), some_behind escapes bytes i within other)
