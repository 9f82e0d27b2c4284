use Rattle.std.proofs.Common.{◌≡◌, length, Some, ap, subst, sym, arith}
use Rattle.std.specs.List.Sorted.{IsPermutation}
use Rattle.live.specs.Chains.{AreNow, seen}
use Rattle.watches.specs.Keeping.{Kept}
use Rattle.watches.proofs.Grouped.{IsNamed, name_place, rows_at_name}
use Rattle.watches.proofs.followed.Followed.shows_all.Goals as goal

pub sorts-requires : goal.sorts-requires
sorts-requires c =
    let named = subst IsNamed c.self.view_is c.self.invariant in
    let paired = named.paired in
    let within = c.place.ensures.within in
    let long = ap (λ (k : Kept). length k.watching.watches) c.self.view_is in
    omega (arith, paired, within, long)

pub returns : goal.returns
returns c all t kept =
    let k = c.args.self.now in
    let name = c.args.name.now in
    let named = subst IsNamed c.self.view_is c.self.invariant in
    let inside = c.self.inside.watches.watches in
    let watches : inside ≡ k.watching.watches = ap (λ (k : Kept). k.watching.watches) c.self.view_is in
    let now = subst (AreNow t.schema t.rows) (sym watches) kept.now in
    let permuted = c.sorts.ensures all t.schema t.rows now in
    let at = subst (λ i. IsPermutation t.rows (seen t.rows inside (Some i))) c.place.ensures.value permuted in
    let here = subst (λ ws. IsPermutation t.rows (seen t.rows ws (Some (name_place k name)))) watches at in
    subst (IsPermutation t.rows) (sym (rows_at_name k name t named kept)) here
