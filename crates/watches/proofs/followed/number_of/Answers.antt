use Rattle.std.proofs.Common.{◌≡◌, ◌<◌, length, Some, ap, subst, sym, ◌∙◌}
use Rattle.live.specs.Numbers.{place_of}
use Rattle.watches.proofs.Grouped.{any_watch}
use Rattle.watches.proofs.Numbering.{number_place}
use Rattle.watches.proofs.followed.number_of.Goals as goal

pub returns-in-Some-clause-over : goal.returns-in-Some-clause-over
returns-in-Some-clause-over c =
    let ws = c.args.watches.now.watches in
    let below : c.in-Some.place < length ws = c.requires.over c.in-Some.place c.in-Some.is in
    ap Some (ap (place_of ws) (c.number_at.ensures any_watch) ∙ number_place ws c.in-Some.place any_watch c.requires.numbered below) ∙ sym c.in-Some.is

pub returns-in-Some-clause-there : goal.returns-in-Some-clause-there
returns-in-Some-clause-there c x e =
    let ws = c.args.watches.now.watches in
    let below : c.in-Some.place < length ws = c.requires.over c.in-Some.place c.in-Some.is in
    let same : c.number_at.result ≡ x = cc in
    let place : place_of ws c.number_at.result ≡ c.in-Some.place = ap (place_of ws) (c.number_at.ensures any_watch) ∙ number_place ws c.in-Some.place any_watch c.requires.numbered below in
    subst (λ n. place_of ws n < length ws) same (subst (λ i. i < length ws) (sym place) below)
