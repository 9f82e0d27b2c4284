use Rattle.std.proofs.Common.{◌<◌, List, length, subst, sym, arith}
use Rattle.mk_value.specs.Data.{Datum}
use Rattle.grouping.proofs.Indexes.{in_starts, start_below, first_below, key_read}
use Rattle.grouping.proofs.index.RowIndex.key.Goals as goal

pub index-requires : goal.index-requires
index-requires c =
    let i = c.self.inside in
    let inside = in_starts i.rows i.order.items i.starts.items c.self.invariant c.args.self.now c.self.view_is c.args.group c.requires in
    omega (arith, inside, i.starts.ok)

pub index-first-requires : goal.index-first-requires
index-first-requires c =
    let i = c.self.inside in
    let below = start_below i.rows i.order.items i.starts.items c.self.invariant c.args.self.now c.self.view_is c.args.group c.requires c.index.result.now c.index.ensures in
    omega (arith, below, i.order.ok)

pub bounds-as_slice-first : goal.bounds-as_slice-first
bounds-as_slice-first c =
    let i = c.self.inside in
    subst (λ (rows : List (List Datum)). c.index-first.result.now < length rows) (sym c.as_slice.ensures)
    (first_below i.rows i.order.items i.starts.items c.self.invariant c.args.self.now c.self.view_is c.args.group c.requires c.index.result.now c.index-first.result.now c.index.ensures c.index-first.ensures)

pub returns : goal.returns
returns c =
    let i = c.self.inside in
    key_read i.rows i.order.items i.starts.items c.self.invariant c.args.self.now c.self.view_is c.args.group c.requires c.index.result.now c.index-first.result.now c.as_slice.result.now
    c.index-as_slice-first.result c.index.ensures c.index-first.ensures c.as_slice.ensures c.index-as_slice-first.is
