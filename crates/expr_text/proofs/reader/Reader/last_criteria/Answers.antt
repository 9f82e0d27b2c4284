use Rattle.std.proofs.Common.{◌<◌, ◌≡◌, length, arith}
use Rattle.std.proofs.lemmas.Result.{err_from_is_err_and}
use Rattle.expr_text.proofs.UpToEnd.{comma_fails, criteria_end, criteria_go, next_fails}
use Rattle.expr_text.proofs.reader.Reader.last_criteria.Goals as goal

pub returns-in_err-sign-clause-fails : goal.returns-in_err-sign-clause-fails
returns-in_err-sign-clause-fails c =
    let some : 0 < length c.members.self.rest.now = grind (arith, c.members-test.ensures, c.is_empty.ensures) in
    let p = err_from_is_err_and c.from_residual-in_err-sign.result c.from_residual-in_err-sign.ensures.1 in
    rw (p.1, p.2) (comma_fails _ _ _ _ _ some c.members.invariant c.in_err-sign.ensures.fails)

pub returns-in_err-member-clause-fails : goal.returns-in_err-member-clause-fails
returns-in_err-member-clause-fails c =
    let some : 0 < length c.members.self.rest.now = grind (arith, c.members-test.ensures, c.is_empty.ensures) in
    let p = err_from_is_err_and c.from_residual-in_err-member.result c.from_residual-in_err-member.ensures.1 in
    rw (p.1, p.2) (next_fails _ _ _ _ _ _ some c.members.invariant c.in_ok-sign.ensures.meets c.in_err-member.ensures.fails)

pub members-preserved : goal.members-preserved
members-preserved c =
    let some : 0 < length c.members.self.rest.now = grind (arith, c.members-test.ensures, c.is_empty.ensures) in
    criteria_go _ _ _ _ _ _ _ _ some c.members.invariant c.in_ok-push-2.ensures.ok c.in_ok-member.ensures.whole c.in_ok-sign.ensures.spells c.in_ok-sign.ensures.meets c.in_ok-member.ensures.spells c.in_ok-member.ensures.meets

pub returns-clause-meets : goal.returns-clause-meets
returns-clause-meets c =
    let none : length c.members.self.rest.now ≡ 0 = grind (arith, c.members-test.ensures, c.is_empty.ensures) in
    criteria_end _ _ _ _ none c.members.invariant
