use Rattle.std.proofs.Common.{◌≡◌, ◌∙◌, ℤ, List, ap, FitsSigned, w64, rules, arith, length}
use Rattle.std.proofs.lemmas.Int.{to_z-of_z}
use Rattle.std.proofs.lemmas.List.{take_at}
use Rattle.std.proofs.lemmas.Result.{IfOk-weaker}
use Rattle.segments.specs.Splices.{spliced}
use Rattle.int_col.proofs.Segments.{count_is}
use Rattle.int_col.proofs.segment.Segment.spliced.Goals as goal

pub overflow_sub-size : goal.overflow_sub-size
overflow_sub-size c =
    omega (arith, count_is c.self.inside.count c.self.inside.width c.self.inside.bytes.items c.args.self.now c.self.view_is, c.requires.applies.within)

pub unpack_around-requires-clause-within : goal.unpack_around-requires-clause-within
unpack_around-requires-clause-within c =
    omega (arith, count_is c.self.inside.count c.self.inside.width c.self.inside.bytes.items c.args.self.now c.self.view_is, c.requires.applies.within)

pub returns : goal.returns
returns c =
    let e = c.args.splice.now in
    let fits : FitsSigned w64 c.args.value = search rules in
    let len : length c.unpack_around.new.into ≡ c.in_ok-values.values.len = omega (arith, c.unpack_around.auto.into, c.deref_mut.ensures.len) in
    let read = rw (c.deref.ensures.value, to_z-of_z w64 c.args.value fits) at c.unpack_around.ensures in
    IfOk-weaker c.of.result _ (λ segment. segment ≡ spliced c.args.self.now e.at e.end e.count c.args.value)
    (λ segment is. is ∙ c.deref-2.ensures.value ∙ take_at c.unpack_around.new.into _ c.in_ok-values.values.len len ∙ read ∙ ap (λ (vs : List ℤ). spliced vs e.at e.end e.count c.args.value) c.self.view_is)
    c.of.ensures
