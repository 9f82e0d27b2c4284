use Rattle.std.proofs.Common.{◌≡◌, ap, arith, length, Result, Err}
use Rattle.std.proofs.lemmas.Result.{err_from_is_err_and}
use Rattle.aside_disk.proofs.Synced.{keeps_joins}
use Rattle.aside_disk.proofs.syncing.sync_log.Goals as goal

same_err : {T U E : Type 0} {a b d : E} (r : Result T E) → r ≡ Err a → a ≡ b → r ≡ Err d → ◌≡◌ {A = Result U E} (Err b) (Err d)
same_err {U = U} r one same two = ap (λ e. Err e) (error_is r one same two)
  where
    error_is : {T E : Type 0} {a b d : E} (r : Result T E) → r ≡ Err a → a ≡ b → r ≡ Err d → b ≡ d
    error_is r one same two = cc

pub returns-in_err-settle-clause-told : goal.returns-in_err-settle-clause-told
returns-in_err-settle-clause-told g c = λ tells base number lower_since upper_since seen is.
    let p = err_from_is_err_and c.from_residual.result c.from_residual.ensures.1 in
    rw p.1 (c.in_err-settle.ensures.told tells base number lower_since upper_since seen is)

pub returns-in_err-settle-clause-spent : goal.returns-in_err-settle-clause-spent
returns-in_err-settle-clause-spent g c = λ tells base number lower_since upper_since seen is refused.
    let p = err_from_is_err_and c.from_residual.result c.from_residual.ensures.1 in
    let none : ⊥ = c.in_err-settle.ensures.accepted tells base number lower_since upper_since seen is (same_err c.from_residual.result p.1 p.2 refused) in
    absurd none

pub commit_next-requires-clause-long : goal.commit_next-requires-clause-long
commit_next-requires-clause-long g c = λ tells.
    let l = c.requires.long tells in
    let e = c.in_ok-settle.ensures.ends in
    let s = ap length (c.in_ok-settle.ensures.seen tells) in
    omega (arith, l, e, s)

pub returns-then-log-clause-told : goal.returns-then-log-clause-told
returns-then-log-clause-told g c = λ tells base number lower_since upper_since seen is.
    let first = c.in_ok-settle.ensures.told tells base number lower_since upper_since seen is in
    keeps_joins first (c.rest.ensures.told tells base number lower_since upper_since seen first.told)

pub returns-else-log-clause-told : goal.returns-else-log-clause-told
returns-else-log-clause-told g c = λ tells base number lower_since upper_since seen is.
    let first = c.in_ok-settle.ensures.told tells base number lower_since upper_since seen is in
    keeps_joins first (c.commit_next.ensures.told tells base number lower_since upper_since seen first.told)
