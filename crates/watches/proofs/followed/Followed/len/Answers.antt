use Rattle.std.proofs.Common.{length, ap, subst, arith}
use Rattle.watches.specs.Keeping.{Kept}
use Rattle.watches.proofs.Grouped.{IsNamed}
use Rattle.watches.proofs.Naming.{shown_length}
use Rattle.watches.proofs.followed.Followed.len.Goals as goal

pub returns : goal.returns
returns c =
    let k = c.args.self.now in
    let named = subst IsNamed c.self.view_is c.self.invariant in
    let long = shown_length k.names k.watching.watches named.paired in
    let names = ap (λ (k : Kept). length k.names) c.self.view_is in
    let len = c.self.inside.names.ok.0 in
    omega arith
