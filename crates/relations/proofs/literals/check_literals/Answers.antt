use Rattle.std.proofs.Common.{◌≡◌, Option, rules, sym, subst}
use Rattle.std.specs.Result.{result_err}
use Rattle.relations.specs.declared.error.DerivedError.{DerivedError}
use Rattle.relations.proofs.Spelled.{due_is}
use Rattle.relations.proofs.literals.check_literals.Goals as goal

pub returns-in_err-check_named : goal.returns-in_err-check_named
returns-in_err-check_named g c =
    subst (λ (o : Option DerivedError). result_err c.from_residual.result ≡ o) (sym (due_is g.L.LiteralBounds.bounds g.L.Named.prop g.met.L.LiteralBounds.same_prop c.args.schema.now c.args.items.now)) (search rules)

pub returns-in_err-check_plain : goal.returns-in_err-check_plain
returns-in_err-check_plain g c =
    subst (λ (o : Option DerivedError). result_err c.from_residual-in_err-check_plain.result ≡ o) (sym (due_is g.L.LiteralBounds.bounds g.L.Named.prop g.met.L.LiteralBounds.same_prop c.args.schema.now c.args.items.now)) (search rules)

pub returns : goal.returns
returns g c =
    subst (λ (o : Option DerivedError). result_err c.check_each.result ≡ o) (sym (due_is g.L.LiteralBounds.bounds g.L.Named.prop g.met.L.LiteralBounds.same_prop c.args.schema.now c.args.items.now)) (search rules)
