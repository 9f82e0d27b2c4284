use Rattle.std.proofs.Common.{◌≡◌, ◌<◌, length, get_or, Some, ap, arith}
use Rattle.live.specs.Chains.{depth}
use Rattle.live.proofs.Along.{some_watch}
use Rattle.live.proofs.Seeing.{depth_at}
use Rattle.watches.proofs.followed.+depth_of.Goals as goal

pub returns-in-Some-clause-value : goal.returns-in-Some-clause-value
returns-in-Some-clause-value t c =
    let watches = c.args.watches.now.watches in
    let place = c.in-Some.place in
    let within : place < length watches = c.requires.there place c.in-Some.is in
    let one = some_watch watches place within in
    let deeper = depth_at watches c.requires.order place one within in
    let under : depth watches c.source_at.result ≡ depth watches (get_or watches place one).source = ap (depth watches) (c.source_at.ensures.source one) in
    let here : depth watches c.args.source ≡ depth watches (Some place) = ap (depth watches) c.in-Some.is in
    let value = c.depth_of.ensures.value in
    omega (arith, deeper, under, here, value)
