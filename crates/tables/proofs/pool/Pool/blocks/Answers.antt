use Rattle.std.proofs.Common.{length, ap, ◌∙◌, arith}
use Rattle.tables.specs.Pools.{blocks_count}
use Rattle.tables.proofs.Placed.{are_placed, blocks_read}
use Rattle.tables.proofs.Pools.{number_within}
use Rattle.tables.proofs.pool.Pool.blocks.Goals as goal

pub overflow_mul-first : goal.overflow_mul-first
overflow_mul-first c =
    let own = c.self.inside in
    let n = number_within own.table own.ends.items own.blocks.items c.args.self.now c.args.number c.self.view_is c.requires in
    let width = c.blocks_of_schema-width.ensures ∙ ap blocks_count c.schema.ensures.value in
    let placed = are_placed own.table own.ends.items own.blocks.items c.args.number c.blocks_of_schema-width.result c.self.invariant c.schema.ensures.whole n width in
    omega (arith, placed)

pub overflow_add-result : goal.overflow_add-result
overflow_add-result c =
    let own = c.self.inside in
    let n = number_within own.table own.ends.items own.blocks.items c.args.self.now c.args.number c.self.view_is c.requires in
    let width = c.blocks_of_schema-width.ensures ∙ ap blocks_count c.schema.ensures.value in
    let placed = are_placed own.table own.ends.items own.blocks.items c.args.number c.blocks_of_schema-width.result c.self.invariant c.schema.ensures.whole n width in
    omega (arith, placed)

pub offset_bounds-deref-first : goal.offset_bounds-deref-first
offset_bounds-deref-first c =
    let own = c.self.inside in
    let n = number_within own.table own.ends.items own.blocks.items c.args.self.now c.args.number c.self.view_is c.requires in
    let width = c.blocks_of_schema-width.ensures ∙ ap blocks_count c.schema.ensures.value in
    let placed = are_placed own.table own.ends.items own.blocks.items c.args.number c.blocks_of_schema-width.result c.self.invariant c.schema.ensures.whole n width in
    omega (arith, placed)

pub slice_bounds-result-end : goal.slice_bounds-result-end
slice_bounds-result-end c =
    let own = c.self.inside in
    let n = number_within own.table own.ends.items own.blocks.items c.args.self.now c.args.number c.self.view_is c.requires in
    let width = c.blocks_of_schema-width.ensures ∙ ap blocks_count c.schema.ensures.value in
    let placed = are_placed own.table own.ends.items own.blocks.items c.args.number c.blocks_of_schema-width.result c.self.invariant c.schema.ensures.whole n width in
    omega (arith, placed, ap length c.deref.ensures.value)

pub returns : goal.returns
returns c =
    let own = c.self.inside in
    let n = number_within own.table own.ends.items own.blocks.items c.args.self.now c.args.number c.self.view_is c.requires in
    let width = c.blocks_of_schema-width.ensures ∙ ap blocks_count c.schema.ensures.value in
    blocks_read own.table own.ends.items own.blocks.items c.deref.result.now c.args.self.now c.args.number c.blocks_of_schema-width.result c.deref.ensures.value c.self.view_is c.self.invariant n width
