use Rattle.std.proofs.Common.{ltb, ltb-true, ltb-false, rules}
use Rattle.std.proofs.lemmas.List.Sorted.{IsPartitionPoint-from_clause, IsPartitionedBy-ltb}
use Rattle.free_space.specs.Overlaps.{place_of}
use Rattle.free_space.proofs.UsedLemmas.{rising_from_laid_out}
use Rattle.free_space.proofs.free_map.FreeMap.count_below.Goals as goal

pub returns-clause-splits : goal.returns-clause-splits
returns-clause-splits c =
    let place = c.args.place in
    let parted = IsPartitionedBy-ltb place_of _ place (rising_from_laid_out _ c.self.invariant.1) in
    let point = IsPartitionPoint-from_clause (λ span. ltb span.place place) _ _ (rw c.deref.ensures.value at c.partition_point.ensures.partitioned) parted (λ a r q k. search rules) in
    rw (← c.self.view_is) ((λ k d from below. ltb-true _ _ (point.0 k d from below)), (λ k d from below. ltb-false _ _ (point.1 k d from below)))
