use Rattle.std.proofs.Common.{length, ap, arith}
use Rattle.tables.proofs.Pools.{found_at, number_within}
use Rattle.tables.proofs.pool.Pool.rows.Goals as goal

pub start_of-from-requires : goal.start_of-from-requires
start_of-from-requires c =
    let own = c.self.inside in
    omega (arith, ap length c.deref.ensures.value, number_within own.table own.ends.items own.blocks.items c.args.self.now c.args.number c.self.view_is c.requires)

pub end_of-end-requires : goal.end_of-end-requires
end_of-end-requires c =
    let own = c.self.inside in
    omega (arith, ap length c.deref-2.ensures.value, number_within own.table own.ends.items own.blocks.items c.args.self.now c.args.number c.self.view_is c.requires)

pub overflow_sub-result : goal.overflow_sub-result
overflow_sub-result c =
    let own = c.self.inside in
    let here =
    found_at own.table own.ends.items c.deref.result.now c.deref-2.result.now own.blocks.items c.args.self.now c.args.number c.start_of-from.result c.end_of-end.result
    c.start_of-from.ensures c.deref.ensures.value c.end_of-end.ensures c.deref-2.ensures.value c.self.view_is c.len-rows.ensures.whole c.self.invariant c.requires in
    let between = here.between in
    omega (arith, between)

pub returns-clause-within : goal.returns-clause-within
returns-clause-within c =
    let own = c.self.inside in
    let here =
    found_at own.table own.ends.items c.deref.result.now c.deref-2.result.now own.blocks.items c.args.self.now c.args.number c.start_of-from.result c.end_of-end.result
    c.start_of-from.ensures c.deref.ensures.value c.end_of-end.ensures c.deref-2.ensures.value c.self.view_is c.len-rows.ensures.whole c.self.invariant c.requires in
    let between = here.between in
    let few = c.len-rows.ensures.whole.rows.few in
    record { within = omega (arith, between); few = omega (arith, few) }

pub returns-clause-rows : goal.returns-clause-rows
returns-clause-rows c =
    let own = c.self.inside in
    let here =
    found_at own.table own.ends.items c.deref.result.now c.deref-2.result.now own.blocks.items c.args.self.now c.args.number c.start_of-from.result c.end_of-end.result
    c.start_of-from.ensures c.deref.ensures.value c.end_of-end.ensures c.deref-2.ensures.value c.self.view_is c.len-rows.ensures.whole c.self.invariant c.requires in
    here.rows

pub returns-clause-count : goal.returns-clause-count
returns-clause-count c =
    let own = c.self.inside in
    let here =
    found_at own.table own.ends.items c.deref.result.now c.deref-2.result.now own.blocks.items c.args.self.now c.args.number c.start_of-from.result c.end_of-end.result
    c.start_of-from.ensures c.deref.ensures.value c.end_of-end.ensures c.deref-2.ensures.value c.self.view_is c.len-rows.ensures.whole c.self.invariant c.requires in
    here.count

pub returns-clause-schema : goal.returns-clause-schema
returns-clause-schema c =
    let own = c.self.inside in
    let here =
    found_at own.table own.ends.items c.deref.result.now c.deref-2.result.now own.blocks.items c.args.self.now c.args.number c.start_of-from.result c.end_of-end.result
    c.start_of-from.ensures c.deref.ensures.value c.end_of-end.ensures c.deref-2.ensures.value c.self.view_is c.len-rows.ensures.whole c.self.invariant c.requires in
    here.schema

pub returns-clause-whole : goal.returns-clause-whole
returns-clause-whole c =
    let own = c.self.inside in
    let here =
    found_at own.table own.ends.items c.deref.result.now c.deref-2.result.now own.blocks.items c.args.self.now c.args.number c.start_of-from.result c.end_of-end.result
    c.start_of-from.ensures c.deref.ensures.value c.end_of-end.ensures c.deref-2.ensures.value c.self.view_is c.len-rows.ensures.whole c.self.invariant c.requires in
    here.whole
