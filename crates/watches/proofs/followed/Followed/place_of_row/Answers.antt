use Rattle.std.proofs.Common.{◌≡◌, ◌<◌, get_or, length, Some, ap, subst, sym, ◌∙◌, arith}
use Rattle.live.specs.Chains.{place_in_root}
use Rattle.live.specs.Numbers.{place_of}
use Rattle.watches.specs.Keeping.{Kept, StandsAt, followed_of}
use Rattle.watches.specs.Watches.{shown_at}
use Rattle.watches.proofs.Grouped.{IsNamed, any_watch, name_place, number_found, row_at_name, size_at_name}
use Rattle.watches.proofs.followed.Followed.place_of_row.Goals as goal

pub at-requires-clause-there : goal.at-requires-clause-there
at-requires-clause-there c =
    let named = subst IsNamed c.self.view_is c.self.invariant in
    let watches : c.self.inside.watches.watches ≡ c.args.self.now.watching.watches = ap (λ (k : Kept). k.watching.watches) c.self.view_is in
    let found = number_found c.args.self.now c.args.name.now c.place.result c.number_at-number.result c.self.inside.watches.watches named watches c.place.ensures.value c.place.ensures.within c.number_at-number.ensures in
    subst (λ ws. place_of ws c.number_at-number.result < length ws) (sym watches) found.1

pub at-requires-clause-row_in : goal.at-requires-clause-row_in
at-requires-clause-row_in c =
    let k = c.args.self.now in
    let name = c.args.name.now in
    let named = subst IsNamed c.self.view_is c.self.invariant in
    let watches : c.self.inside.watches.watches ≡ k.watching.watches = ap (λ (k : Kept). k.watching.watches) c.self.view_is in
    let found = number_found k name c.place.result c.number_at-number.result c.self.inside.watches.watches named watches c.place.ensures.value c.place.ensures.within c.number_at-number.ensures in
    let p : name_place k name < length k.watching.watches = subst (λ i. i < length k.watching.watches) found.0 found.1 in
    let asked = c.requires.kept in
    λ d. subst (λ ws. c.args.row < length (get_or ws (place_of ws c.number_at-number.result) d).kept) (sym watches)
    (subst (λ i. c.args.row < length (get_or k.watching.watches i d).kept) (sym found.0)
    (subst (λ n. c.args.row < n) (sym (size_at_name k name asked.0 d named asked.1 p)) asked.2))

pub returns : goal.returns
returns c =
    let k = c.args.self.now in
    let name = c.args.name.now in
    let named = subst IsNamed c.self.view_is c.self.invariant in
    let watches : c.self.inside.watches.watches ≡ k.watching.watches = ap (λ (k : Kept). k.watching.watches) c.self.view_is in
    let found = number_found k name c.place.result c.number_at-number.result c.self.inside.watches.watches named watches c.place.ensures.value c.place.ensures.within c.number_at-number.ensures in
    let p : name_place k name < length k.watching.watches = subst (λ i. i < length k.watching.watches) found.0 found.1 in
    let asked = c.requires.kept in
    let is : c.at.result ≡ place_in_root k.watching.watches (Some (name_place k name)) c.args.row =
    c.at.ensures ∙ ap (λ ws. place_in_root ws (Some (place_of ws c.number_at-number.result)) c.args.row) watches ∙ ap (λ i. place_in_root k.watching.watches (Some i) c.args.row) found.0 in
    λ t kept.
    let one = size_at_name k name t any_watch named kept p in
    let two = size_at_name k name asked.0 any_watch named asked.1 p in
    let q = asked.2 in
    subst (λ i. StandsAt t.rows i (Some (shown_at (followed_of k).watches (name_place k name) t)) c.args.row) (sym is) (row_at_name k name t c.args.row named kept p (omega arith))
