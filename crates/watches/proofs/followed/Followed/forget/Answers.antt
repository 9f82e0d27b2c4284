use Rattle.std.proofs.Common.{ap, subst, sym, ◌∙◌}
use Rattle.mk_value.specs.Names.{same_bytes}
use Rattle.live.specs.Chains.{AreSame}
use Rattle.watches.specs.Keeping.{Kept}
use Rattle.watches.proofs.Grouped.{forgets_edit}
use Rattle.watches.proofs.followed.Followed.forget.Goals as goal

pub returns-then-eq : goal.returns-then-eq
returns-then-eq c =
    let e = c.forget_edit.ensures in
    let view = c.args.view.now in
    let here = ap (λ (k : Kept). same_bytes k.view view) (sym c.self.view_is) ∙ sym c.eq.ensures ∙ c.if-eq.true in
    forgets_edit view c.args.self.now _ here (ap (λ (k : Kept). k.view) c.self.view_is) (ap (λ (k : Kept). k.names) c.self.view_is)
    (subst (λ (k : Kept). AreSame k.watching.watches c.forget_edit.new.watches.watches) c.self.view_is e.same) e.noted
