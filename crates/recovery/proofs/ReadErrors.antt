-- The error that a result has, where its cause is known.
use Rattle.std.proofs.Common.{◌≡◌, ap, sym, ◌∙◌}
use Rattle.std.specs.Prelude.{Result, Ok, Err, IsErrAnd}
use Rattle.recovery.specs.declared.error.ReadError.{ReadError}
use Rattle.recovery.specs.declared.error.ReadError.TheVariants.{Unreadable, Memory}

error_of : {T : Type 0} → Result T ReadError → ReadError
error_of (Ok x) = Memory
error_of (Err e) = e

pub cause_is : {T : Type 0} (r : Result T ReadError) (cause : ReadError) → IsErrAnd r (λ e. e ≡ cause) → r ≡ Err Unreadable → cause ≡ Unreadable
unfolding error_of
cause_is (Ok x) cause h e = absurd h
cause_is (Err y) cause h e = sym h ∙ ap error_of e
