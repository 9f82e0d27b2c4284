use Rattle.std.proofs.Common.{ap, subst, sym, ◌∙◌}
use Rattle.live.specs.Chains.{AreNow, AreSame}
use Rattle.watches.specs.Keeping.{Kept}
use Rattle.watches.proofs.Grouped.{stays_same}
use Rattle.watches.proofs.followed.Followed.reserve.Goals as goal

pub returns-in_err-reserve-clause-stays : goal.returns-in_err-reserve-clause-stays
returns-in_err-reserve-clause-stays c =
    let e = c.reserve.ensures in
    stays_same c.args.self.now _ (ap (λ (k : Kept). k.view) c.self.view_is) (ap (λ (k : Kept). k.names) c.self.view_is)
    (subst (λ (k : Kept). AreSame k.watching.watches c.reserve.new.self.watches) c.self.view_is e.same) (e.noted ∙ ap (λ (k : Kept). k.watching.noted) c.self.view_is)
    (λ schema rows h. e.now schema rows (subst (λ (k : Kept). AreNow schema rows k.watching.watches) (sym c.self.view_is) h))

pub returns-in_ok-reserve-clause-stays : goal.returns-in_ok-reserve-clause-stays
returns-in_ok-reserve-clause-stays c =
    let e = c.reserve.ensures in
    stays_same c.args.self.now _ (ap (λ (k : Kept). k.view) c.self.view_is) (ap (λ (k : Kept). k.names) c.self.view_is)
    (subst (λ (k : Kept). AreSame k.watching.watches c.reserve.new.self.watches) c.self.view_is e.same) (e.noted ∙ ap (λ (k : Kept). k.watching.noted) c.self.view_is)
    (λ schema rows h. e.now schema rows (subst (λ (k : Kept). AreNow schema rows k.watching.watches) (sym c.self.view_is) h))
