use Rattle.std.proofs.Common.{◌<◌, ◌≤◌, ◌+◌, arith, refl}
use Rattle.free_space.specs.Extents.{extent_len}
use Rattle.commit_plan.specs.Following.{last_end}
use Rattle.commit_plan.proofs.Placed.{fits_below, none_put, some_put}
use Rattle.commit_plan.proofs.placing.place_block.Goals as goal

pub returns-then-len-eq0-clause-put : goal.returns-then-len-eq0-clause-put
returns-then-len-eq0-clause-put c = none_put c.args.len c.args.free.now c.if-len-eq0.true

pub returns-clause-put : goal.returns-clause-put
returns-clause-put c =
    let aligned = c.place-place.ensures.least.stands.aligned in
    let fits = c.place-place.type_inv in
    let some : 0 < c.args.len = omega (arith, c.if-len-eq0.false) in
    let below : c.place-place.result + extent_len c.args.len ≤ last_end = fits_below c.place-place.result c.args.len last_end aligned refl (omega (arith, aligned, fits)) c.if-len-place.false in
    some_put c.args.len c.place-place.result c.args.free.now c.take.new.self some c.place-place.ensures.least below c.take.ensures.floor c.take.ensures.used c.take.ensures.spare
