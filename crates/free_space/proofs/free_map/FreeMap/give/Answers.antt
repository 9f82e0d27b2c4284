use Rattle.std.proofs.Common.{◌≡◌, ◌++◌, All, sym, subst, length, take, drop, arith}
use Rattle.std.proofs.lemmas.List.{take_at}
use Rattle.free_space.specs.Cursors.{IsCursor}
use Rattle.std.specs.List.{remove}
use Rattle.std.proofs.lemmas.List.Sorted.{IsPermutation-remove}
use Rattle.free_space.specs.FreeSpace.{IsLaidOut}
use Rattle.free_space.proofs.UsedLemmas.{found_at_split, laid_out_remove}
use Rattle.free_space.proofs.CursorLemmas.{cursors_at_floor, have_lens}
use Rattle.free_space.proofs.free_map.FreeMap.give.Goals as goal
use Rattle.free_space.proofs.free_map.FreeMap.give.Goals.{After-remove}

laid_out_before : (c : After-remove) → IsLaidOut c.args.self.now.used
laid_out_before c = rw (← c.self.view_is) c.self.invariant.1

removed : (c : After-remove) → c.remove.new.self.items ≡ remove c.args.self.now.used c.count_below-at.result
removed c = rw (← c.self.view_is) c.remove.ensures.items

laid_out : (c : After-remove) → IsLaidOut c.remove.new.self.items
laid_out c =
    let found = found_at_split c.args.self.now.used c.count_below-at.result c.args.span (laid_out_before c) c.requires c.count_below-at.ensures.splits in
    rw (removed c) (laid_out_remove c.args.self.now.used c.count_below-at.result (laid_out_before c) found.0)

pub invariant_of-self : goal.invariant_of-self
invariant_of-self c =
    let at = (goal.at.invariant_of-self c).After-remove in
    let cursors = c.reset.new.cursors in
    let items = c.self.inside.cursors.items in
    let whole : take c.self.inside.cursors.len (cursors ++ drop (length cursors) items) ≡ cursors = take_at cursors (drop (length cursors) items) c.self.inside.cursors.len (omega arith) in
    (c.self.invariant.0, laid_out at, subst (All (IsCursor c.self.inside.floor c.remove.new.self.items)) (sym whole) (cursors_at_floor c.self.inside.floor c.remove.new.self.items cursors c.self.invariant.0 c.reset.ensures))

pub returns-clause-used : goal.returns-clause-used
returns-clause-used c =
    let at = (goal.at.returns-clause-used c).After-remove in
    let found = found_at_split c.args.self.now.used c.count_below-at.result c.args.span (laid_out_before at) c.requires c.count_below-at.ensures.splits in
    rw (removed at) (IsPermutation-remove c.args.self.now.used c.count_below-at.result c.args.span found.0 (sym found.1))

pub returns-clause-laid_out : goal.returns-clause-laid_out
returns-clause-laid_out c = laid_out (goal.at.returns-clause-laid_out c).After-remove

pub reset-requires : goal.reset-requires
reset-requires c = rw c.deref_mut.ensures.value (have_lens c.self.inside.floor c.self.inside.used.items c.self.inside.cursors.items c.self.invariant.2)
