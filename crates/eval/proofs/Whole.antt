-- What stands inside an expression that a text may hold.
use Rattle.std.proofs.Common.{zero, suc, Bor, sym, subst}
use Rattle.expr_text.specs.declared.expr.Expr.{Expr}
use Rattle.expr_text.specs.Meanings.{query_of}
use Rattle.expr_text.specs.Queries.{Query, path, one, two}
use Rattle.eval.specs.declared.bases.Bases.TheVariants.{One, Two}
use Rattle.eval.specs.Parts.{AreBases, IsOverOne, IsOverTwo, IsWhole}

pub inside_one : (q : Query) (e : Bor Expr) → AreBases q (One e) → IsWhole q → IsWhole (query_of e.now) × IsOverOne q
inside_one (one operator q tail) e are (zero, h) = absurd h
inside_one (one operator q tail) e are (suc deep, h) = (subst IsWhole (sym are) (deep, h.0), h.1)
inside_one (path route) e are whole = absurd are
inside_one (two operator p q tail) e are whole = absurd are

pub inside_two : (q : Query) (e f : Bor Expr) → AreBases q (Two e f) → IsWhole q → IsWhole (query_of e.now) × (IsWhole (query_of f.now) × IsOverTwo q)
inside_two (two operator p q tail) e f are (zero, h) = absurd h
inside_two (two operator p q tail) e f are (suc deep, h) = (subst IsWhole (sym are.0) (deep, h.0), (subst IsWhole (sym are.1) (deep, h.1.0), h.1.1))
inside_two (path route) e f are whole = absurd are
inside_two (one operator q tail) e f are whole = absurd are
