use Rattle.std.proofs.Common.{length, ap, subst, sym, ◌∙◌, arith}
use Rattle.std.proofs.lemmas.Result.{IfOk-weaker}
use Rattle.live.specs.Chains.{depth}
use Rattle.live.specs.Putting.{AnswersPut}
use Rattle.watches.specs.Lines.{watch_due}
use Rattle.watches.specs.Groups.{IsPutBehind}
use Rattle.watches.specs.Keeping.{Kept}
use Rattle.watches.proofs.Grouped.{IsNamed, put_over}
use Rattle.watches.proofs.Naming.{shown_length}
use Rattle.watches.proofs.Showing.{depth_is}
use Rattle.watches.proofs.followed.Followed.put.Goals as goal

pub returns-clause-put : goal.returns-clause-put
returns-clause-put g c =
    let k = c.args.self.now in
    let schema = g.T.TableRead.schema c.args.rows.now in
    let rows = g.T.TableRead.rows c.args.rows.now in
    let named = subst IsNamed c.self.view_is c.self.invariant in
    IfOk-weaker c.put_named.result _ _
    (λ size put. put_over schema rows k _ c.args.name.now c.args.over c.args.op size named.paired
    (subst (λ (k : Kept). IsPutBehind schema rows k.names k.watching.watches c.args.name.now c.args.over c.args.op c.put_named.new.names.items c.put_named.new.watches size) c.self.view_is put))
    c.put_named.ensures.put

pub put_named-requires-clause-few : goal.put_named-requires-clause-few
put_named-requires-clause-few g c =
    let k = c.args.self.now in
    let named = subst IsNamed c.self.view_is c.self.invariant in
    let long = shown_length k.names k.watching.watches named.paired in
    let paired = named.paired in
    let watches = ap (λ (k : Kept). length k.watching.watches) c.self.view_is in
    λ e. let few = c.requires.few e in omega arith

pub put_named-requires-clause-over : goal.put_named-requires-clause-over
put_named-requires-clause-over g c =
    let k = c.args.self.now in
    let named = subst IsNamed c.self.view_is c.self.invariant in
    let long = shown_length k.names k.watching.watches named.paired in
    let paired = named.paired in
    let watches = ap (λ (k : Kept). length k.watching.watches) c.self.view_is in
    λ i e. let below = c.requires.over i e in omega arith

pub returns-clause-due : goal.returns-clause-due
returns-clause-due g c =
    let k = c.args.self.now in
    let schema = g.T.TableRead.schema c.args.rows.now in
    let named = subst IsNamed c.self.view_is c.self.invariant in
    let deep = ap (λ (k : Kept). depth k.watching.watches c.args.over) c.self.view_is ∙ sym (depth_is k.names k.watching.watches c.args.over named.paired) in
    subst (λ d. AnswersPut (watch_due schema c.args.op d c.args.is_full) c.put_named.result) deep c.put_named.ensures.due
