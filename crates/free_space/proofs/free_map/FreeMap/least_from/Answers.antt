use Rattle.std.proofs.Common.{◌≡◌, ◌+◌, ◌<◌, ◌≤◌, length, get_or, rules, arith}
use Rattle.free_space.specs.FreeSpace.{IsLeastPlace}
use Rattle.free_space.proofs.PlaceLemmas.{least_before, least_past_all, least_place-le-end_of, reached_more}
use Rattle.free_space.proofs.free_map.FreeMap.least_from.Goals as goal

least : (c : goal.Then-fits_before) → IsLeastPlace c.args.self.now.floor c.args.self.now.used c.args.from.len c.loop-at.place
least c =
    let span = c.index.result.now in
    let used = c.args.self.now.used in
    let inside : c.loop-at.at < length c.self.inside.used.items = omega (arith, c.self.inside.used.ok.0) in
    let is : span ≡ get_or used c.loop-at.at span = rw (← c.self.view_is) c.index.ensures in
    let fits : c.loop-at.place + c.args.from.len ≤ span.place = search rules in
    least_before c.args.self.now.floor used c.args.from.len c.loop-at.at c.loop-at.place span (rw (← c.self.view_is) c.self.invariant.1) (rw (← c.self.view_is) inside) is fits c.loop-at.invariant

pub returns-then-fits_before-clause-least : goal.returns-then-fits_before-clause-least
returns-then-fits_before-clause-least c = least c

pub returns-then-fits_before-clause-within : goal.returns-then-fits_before-clause-within
returns-then-fits_before-clause-within c =
    least_place-le-end_of c.args.self.now.floor c.args.self.now.used c.args.from.len c.loop-at.place (rw (← c.self.view_is) c.self.invariant.0) (rw (← c.self.view_is) c.self.invariant.1) (least c)

pub loop-at-preserved : goal.loop-at-preserved
loop-at-preserved c =
    let span = c.index.result.now in
    let used = c.args.self.now.used in
    let inside : c.loop-at.at < length c.self.inside.used.items = omega (arith, c.self.inside.used.ok.0) in
    let is : span ≡ get_or used c.loop-at.at span = rw (← c.self.view_is) c.index.ensures in
    let short : span.place < c.loop-at.place + c.args.from.len = search rules in
    rw (c.max-place.ensures, c.extent_end.ensures) (reached_more c.args.self.now.floor used c.args.from.len c.loop-at.at c.loop-at.place span
    c.requires.some (rw (← c.self.view_is) c.self.invariant.1) (rw (← c.self.view_is) inside) is short c.loop-at.invariant)

pub returns-clause-within : goal.returns-clause-within
returns-clause-within c =
    let used = c.args.self.now.used in
    let inside : length used ≡ length c.self.inside.used.items = rw (← c.self.view_is) (omega arith) in
    let all : c.loop-at.at ≡ length used = omega (arith, inside, c.self.inside.used.ok.0, c.count_below.ensures.bound) in
    least_place-le-end_of c.args.self.now.floor used c.args.from.len c.loop-at.place (rw (← c.self.view_is) c.self.invariant.0) (rw (← c.self.view_is) c.self.invariant.1)
    (least_past_all c.args.self.now.floor used c.args.from.len c.loop-at.place (rw all at c.loop-at.invariant))
