use Rattle.std.proofs.Common.{◌+◌, ◌<◌, ◌%◌, ℕ, List, All, Contains, length, get_or, set, subst, sym, ◌∙◌, arith}
use Rattle.std.proofs.lemmas.List.Elements.{All-contains}
use Rattle.grouping.specs.Index.{Cover}
use Rattle.grouping.proofs.Covers.{cover_kept, cover_seen, known_more}
use Rattle.grouping.proofs.seen.look.Goals as goal

pub cmp-requires-clause-first_in : goal.cmp-requires-clause-first_in
cmp-requires-clause-first_in g c =
    let place = c.hash.result % length c.args.seen.now in
    let p : place < length c.args.seen.now = omega (arith, c.requires.some) in
    All-contains (λ i. i < length c.args.keys.now) c.args.kept.now.items (get_or c.args.seen.now place 0) c.requires.cover.within (c.requires.known place 0 p)

pub returns-then-is_eq-clause-cover : goal.returns-then-is_eq-clause-cover
returns-then-is_eq-clause-cover g c =
    let place = c.hash.result % length c.args.seen.now in
    let p : place < length c.args.seen.now = omega (arith, c.requires.some) in
    cover_seen c.args.keys.now c.args.at c.args.kept.now.items c.requires.cover (get_or c.args.seen.now place 0) c.cmp.result (c.requires.known place 0 p) c.cmp.ensures (sym c.is_eq.ensures ∙ c.if-is_eq.true)

pub returns-clause-known : goal.returns-clause-known
returns-clause-known g c =
    let place = c.hash.result % length c.args.seen.now in
    subst (λ (kept : List ℕ). All (Contains kept) (set c.args.seen.now place c.args.at)) (sym c.in_ok-push.ensures.items)
    (known_more c.args.kept.now.items c.args.seen.now place c.args.at c.requires.known)

pub returns-clause-cover : goal.returns-clause-cover
returns-clause-cover g c =
    subst (Cover c.args.keys.now (c.args.at + 1)) (sym c.in_ok-push.ensures.items) (cover_kept c.args.keys.now c.args.at c.args.kept.now.items c.requires.cover c.requires.at_in)
