use Rattle.std.proofs.Common.{arith}
use Rattle.watches.proofs.Grouped.{put_first}
use Rattle.watches.proofs.followed.Followed.first.Goals as goal

pub put_named-requires-clause-now : goal.put_named-requires-clause-now
put_named-requires-clause-now g c =
    let rows = g.T.TableRead.rows c.args.rows.now in
    c.new-watches.ensures.now (g.T.TableRead.schema c.args.rows.now) rows (let few = c.size-size.ensures.whole.few in omega arith)

pub returns-clause-put : goal.returns-clause-put
returns-clause-put g c =
    let schema = g.T.TableRead.schema c.args.rows.now in
    let rows = g.T.TableRead.rows c.args.rows.now in
    put_first schema rows c.new-names.result.items c.new-watches.result.watches _ c.args.name.now c.args.op c.in_ok-size.size c.new-names.ensures.items c.new-watches.ensures.watches c.in_ok-size.ensures.put
