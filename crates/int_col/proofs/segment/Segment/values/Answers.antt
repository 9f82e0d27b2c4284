use Rattle.std.proofs.Common.{◌≡◌, ◌∙◌, ◌≤◌, arith, length}
use Rattle.std.proofs.lemmas.List.{take_at, take_all}
use Rattle.int_col.proofs.Segments.{count_is}
use Rattle.int_col.proofs.segment.Segment.values.Goals as goal

pub copy_values-requires : goal.copy_values-requires
copy_values-requires c =
    omega (arith, c.deref_mut.ensures.len, c.in_ok-values.ensures.len, count_is c.self.inside.count c.self.inside.width c.self.inside.bytes.items c.args.self.now c.self.view_is)

pub returns-clause-values : goal.returns-clause-values
returns-clause-values c =
    let n = count_is c.self.inside.count c.self.inside.width c.self.inside.bytes.items c.args.self.now c.self.view_is in
    let len : length c.copy_values.new.into ≡ c.in_ok-values.values.len = omega (arith, c.copy_values.auto.into, c.deref_mut.ensures.len) in
    let all : length c.args.self.now ≤ length c.deref_mut.result.now = omega (arith, c.deref_mut.ensures.len, c.in_ok-values.ensures.len) in
    take_at c.copy_values.new.into _ c.in_ok-values.values.len len ∙ c.copy_values.ensures ∙ take_all (length c.deref_mut.result.now) c.args.self.now all
