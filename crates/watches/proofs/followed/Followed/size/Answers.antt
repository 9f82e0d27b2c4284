use Rattle.std.proofs.Common.{◌≡◌, ◌<◌, get_or, length, ap, subst, sym, ◌∙◌}
use Rattle.live.specs.Numbers.{place_of}
use Rattle.watches.specs.Keeping.{Kept}
use Rattle.watches.proofs.Grouped.{IsNamed, any_watch, name_place, number_found, size_at_name}
use Rattle.watches.proofs.followed.Followed.size.Goals as goal

pub len-requires : goal.len-requires
len-requires c =
    let named = subst IsNamed c.self.view_is c.self.invariant in
    let watches : c.self.inside.watches.watches ≡ c.args.self.now.watching.watches = ap (λ (k : Kept). k.watching.watches) c.self.view_is in
    let found = number_found c.args.self.now c.args.name.now c.place.result c.number_at-number.result c.self.inside.watches.watches named watches c.place.ensures.value c.place.ensures.within c.number_at-number.ensures in
    subst (λ ws. place_of ws c.number_at-number.result < length ws) (sym watches) found.1

pub returns : goal.returns
returns c =
    let k = c.args.self.now in
    let name = c.args.name.now in
    let named = subst IsNamed c.self.view_is c.self.invariant in
    let watches : c.self.inside.watches.watches ≡ k.watching.watches = ap (λ (k : Kept). k.watching.watches) c.self.view_is in
    let found = number_found k name c.place.result c.number_at-number.result c.self.inside.watches.watches named watches c.place.ensures.value c.place.ensures.within c.number_at-number.ensures in
    let p : name_place k name < length k.watching.watches = subst (λ i. i < length k.watching.watches) found.0 found.1 in
    λ t kept. c.len.ensures any_watch
    ∙ ap (λ ws. length (get_or ws (place_of ws c.number_at-number.result) any_watch).kept) watches
    ∙ ap (λ i. length (get_or k.watching.watches i any_watch).kept) found.0
    ∙ size_at_name k name t any_watch named kept p
