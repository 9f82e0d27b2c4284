use Rattle.std.proofs.Common.{arith}
use Rattle.std.proofs.lemmas.Result.{on_ok_weaker, on_err_weaker}
use Rattle.segments.proofs.Counted.{segments_len}
use Rattle.tables.proofs.Chunks.{chunk_within, chunks_stay, counts_kept, table_set, table_within}
use Rattle.tables.proofs.groups.Groups.set.Goals as goal

pub find-place-requires : goal.find-place-requires
find-place-requires c =
    (omega arith, omega (arith, segments_len c.self.inside.groups.items c.self.inside.ends c.self.invariant, rw (← c.self.view_is) at c.requires.chunk))

pub set-requires-clause-chunk : goal.set-requires-clause-chunk
set-requires-clause-chunk c =
    chunk_within c.self.inside.groups.items c.self.inside.ends c.args.k c.args.at c.find-place.result c.index_mut-group.result.now c.self.invariant c.find-place.ensures c.index_mut-group.ensures.value

pub set-requires-clause-at : goal.set-requires-clause-at
set-requires-clause-at c =
    table_within c.self.inside.groups.items c.self.inside.ends c.args.k c.args.at c.find-place.result c.index_mut-group.result.now c.self.invariant c.find-place.ensures c.index_mut-group.ensures.value
    (rw (← c.self.view_is) at c.requires.at)

pub invariant_of-self : goal.invariant_of-self
invariant_of-self c =
    counts_kept c.self.inside.groups.items c.self.inside.ends c.args.k c.args.at c.find-place.result c.index_mut-group.result.now c.self.invariant c.find-place.ensures c.index_mut-group.ensures.value
    c.set.new.self c.set.ensures.len

pub returns-clause-ok : goal.returns-clause-ok
returns-clause-ok c =
    rw (← c.self.view_is)
    (on_ok_weaker c.set.result
    (table_set c.self.inside.groups.items c.self.inside.ends c.args.k c.args.at c.find-place.result c.index_mut-group.result.now c.self.invariant c.find-place.ensures c.index_mut-group.ensures.value c.set.new.self c.args.table)
    c.set.ensures.ok)

pub returns-clause-err : goal.returns-clause-err
returns-clause-err c =
    rw (← c.self.view_is)
    (on_err_weaker c.set.result
    (chunks_stay c.self.inside.groups.items c.self.inside.ends c.args.k c.args.at c.find-place.result c.index_mut-group.result.now c.self.invariant c.find-place.ensures c.index_mut-group.ensures.value c.set.new.self)
    c.set.ensures.err)
