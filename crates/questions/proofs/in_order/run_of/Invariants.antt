use Rattle.std.proofs.Common.{◌≡◌, ◌<◌, ◌≤◌, [], ℕ, true, get_or}
use Rattle.relations.specs.Criteria.{is_in_range}
use Rattle.questions.proofs.in_order.run_of.Given as goal

abbrev pub invariant-loop-end : goal.invariant-loop-end
invariant-loop-end g l = (k : ℕ) → l.from ≤ k → k < l.end → is_in_range (g.T.TableRead.schema l.table) l.criteria (get_or (g.T.TableRead.rows l.table) k []) ≡ true
