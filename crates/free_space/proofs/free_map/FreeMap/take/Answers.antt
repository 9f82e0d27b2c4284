use Rattle.std.proofs.Common.{◌≡◌}
use Rattle.std.specs.List.{insert}
use Rattle.std.proofs.lemmas.List.Sorted.{IsPermutation-insert}
use Rattle.free_space.specs.FreeSpace.{IsLaidOut}
use Rattle.free_space.proofs.CursorLemmas.{cursors_taken}
use Rattle.free_space.proofs.UsedLemmas.{laid_out_insert}
use Rattle.free_space.proofs.free_map.FreeMap.take.Goals as goal

inserted : (c : goal.Else-is_err) → c.insert.new.self.items ≡ insert c.args.self.now.used c.count_below-at.result c.args.span
inserted c = rw (← c.self.view_is) (rw c.if-is_err.ensures.negation at c.insert.ensures.items)

pub invariant_of-self : goal.invariant_of-self
invariant_of-self c =
    let used = c.args.self.now.used in
    let at = c.count_below-at.result in
    let laid : IsLaidOut used = rw (← c.self.view_is) c.self.invariant.1 in (
      c.self.invariant.0,
      rw (inserted c) (laid_out_insert used at c.args.span laid c.requires.block c.requires.free c.count_below-at.ensures.bound c.count_below-at.ensures.splits),
      rw (inserted c) (cursors_taken _ c.args.span used (insert used at c.args.span) _ (IsPermutation-insert used at c.args.span) (rw (← c.self.view_is) c.self.invariant.2)),
    )

-- what stands in use afterwards
taken : (c : goal.After-advance) → c.advance.new.self.used ≡ insert c.args.self.now.used c.count_below-at.result c.args.span
taken c = rw (← c.self.view_is) (rw c.advance.ensures (rw c.if-is_err.ensures.negation at c.insert.ensures.items))

pub returns-clause-used : goal.returns-clause-used
returns-clause-used c = rw (taken c) (IsPermutation-insert c.args.self.now.used c.count_below-at.result c.args.span)

pub returns-clause-laid_out : goal.returns-clause-laid_out
returns-clause-laid_out c =
    let used = c.args.self.now.used in
    let laid : IsLaidOut used = rw (← c.self.view_is) c.self.invariant.1 in
    rw (taken c) (laid_out_insert used c.count_below-at.result c.args.span laid c.requires.block c.requires.free c.count_below-at.ensures.bound c.count_below-at.ensures.splits)
