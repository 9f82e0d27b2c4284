use Rattle.std.proofs.Common.{◌<◌, length, Some, ap, subst, sym, ◌∙◌}
use Rattle.live.specs.Chains.{AreNow, seen}
use Rattle.live.specs.Numbers.{place_of}
use Rattle.watches.specs.Keeping.{Kept}
use Rattle.watches.proofs.Grouped.{IsNamed, number_found, rows_at_name}
use Rattle.watches.proofs.followed.Followed.rows.Goals as goal

pub invariant_of-result-clause-kept : goal.invariant_of-result-clause-kept
invariant_of-result-clause-kept c =
    let watches = ap (λ (k : Kept). k.watching.watches) c.self.view_is in
    subst (AreNow c.args.rows.now.schema c.args.rows.now.rows) (sym watches) c.requires.kept.now

pub invariant_of-result-clause-there : goal.invariant_of-result-clause-there
invariant_of-result-clause-there c =
    let named = subst IsNamed c.self.view_is c.self.invariant in
    let watches = ap (λ (k : Kept). k.watching.watches) c.self.view_is in
    let found = number_found c.args.self.now c.args.name.now c.place.result c.number_at-number.result c.self.inside.watches.watches named watches c.place.ensures.value c.place.ensures.within c.number_at-number.ensures in
    subst (λ ws. place_of ws c.number_at-number.result < length ws) (sym watches) found.1

pub returns : goal.returns
returns c =
    let k = c.args.self.now in
    let name = c.args.name.now in
    let t = c.args.rows.now in
    let named = subst IsNamed c.self.view_is c.self.invariant in
    let watches = ap (λ (k : Kept). k.watching.watches) c.self.view_is in
    let found = number_found k name c.place.result c.number_at-number.result c.self.inside.watches.watches named watches c.place.ensures.value c.place.ensures.within c.number_at-number.ensures in
    ap (λ rows. record { schema = t.schema; rows = rows })
    (ap (λ ws. seen t.rows ws (Some (place_of ws c.number_at-number.result))) watches
    ∙ ap (λ i. seen t.rows k.watching.watches (Some i)) found.0
    ∙ sym (rows_at_name k name t named c.requires.kept))
