use Rattle.std.proofs.Common.{[], ◌<◌, length, get_or, ap, arith, sym, subst, ◌∙◌}
use Rattle.live.proofs.Seeing.{linked_inside, seen_size, through}
use Rattle.live.proofs.chain.Seen.root_of.Goals as goal

pub root_place-requires-clause-inside : goal.root_place-requires-clause-inside
root_place-requires-clause-inside g c =
    let s = c.args.self.now in
    linked_inside (g.P.Probe.rows s.rows.now) s.watches.now s.linked

pub root_place-requires-clause-row_in : goal.root_place-requires-clause-row_in
root_place-requires-clause-row_in g c =
    let s = c.args.self.now in
    λ w e d. let n = seen_size (g.P.Probe.rows s.rows.now) s.watches.now s.over s.linked.sources w d e (s.there w e) in omega (arith, c.requires)

pub returns-clause-within : goal.returns-clause-within
returns-clause-within g c =
    let s = c.args.self.now in
    let rows = g.P.Probe.rows s.rows.now in
    subst (λ n. n < length rows) (sym c.root_place.ensures) (through rows s.watches.now s.linked (length s.watches.now) s.over c.args.row (λ w e. (s.there w e, s.there w e)) c.requires).0

pub returns-clause-value : goal.returns-clause-value
returns-clause-value g c =
    let s = c.args.self.now in
    let rows = g.P.Probe.rows s.rows.now in
    ap (λ n. get_or rows n []) c.root_place.ensures ∙ (through rows s.watches.now s.linked (length s.watches.now) s.over c.args.row (λ w e. (s.there w e, s.there w e)) c.requires).1
