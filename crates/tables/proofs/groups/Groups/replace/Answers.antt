use Rattle.std.proofs.Common.{◌≡◌, ◌≤◌, ◌++◌, ℕ, List, length, take, drop, sum, refl, sym, ap, subst, ◌∙◌, rules, arith}
use Rattle.std.specs.List.{All}
use Rattle.std.specs.Vec.{vec_len}
use Rattle.segments.specs.declared.splice.Splice.{Splice}
use Rattle.segments.specs.Joined.{joined, counts_of}
use Rattle.segments.proofs.Joined.{length-joined}
use Rattle.segments.proofs.Counted.{segments_spliced}
use Rattle.segments.proofs.Grouped.{applies_to_groups, covers_counts, splice_within, parts_replaced, length_replaced}
use Rattle.tables.proofs.groups.Groups.replace.Goals as goal

pub replaced-replaced-requires : goal.replaced-replaced-requires
replaced-replaced-requires c =
    let size : vec_len c.args.fresh ≡ length c.args.fresh.items = search rules in
    (omega arith, applies_to_groups c.self.inside.groups.items c.self.inside.ends c.args.self.now _ c.self.invariant c.self.view_is c.requires.order c.requires.in_range (omega (arith, c.len.ensures, c.requires.few)))

pub regrouped-requires-clause-in_range : goal.regrouped-requires-clause-in_range
regrouped-requires-clause-in_range c =
    let groups = c.self.inside.groups.items in
    let e : Splice = record { at = c.args.first; end = c.args.after; count = c.len.result } in
    let t = c.replaced-replaced.result in
    let covers = covers_counts groups c.self.inside.ends e t c.self.invariant c.replaced-replaced.ensures.covers in
    rw c.deref.ensures.value (splice_within groups e t covers c.requires.order).1

pub spliced-requires : goal.spliced-requires
spliced-requires c =
    let groups = c.self.inside.groups.items in
    let new = c.in_ok-groups.groups.items in
    let e : Splice = record { at = c.args.first; end = c.args.after; count = c.len.result } in
    let t = c.replaced-replaced.result in
    let covers = covers_counts groups c.self.inside.ends e t c.self.invariant c.replaced-replaced.ensures.covers in
    let counted : c.deref-3.result.now ≡ counts_of new = c.deref-3.ensures.value ∙ c.in_ok-counts.ensures ∙ ap counts_of c.deref-2.ensures.value in
    let all = segments_spliced groups c.self.inside.ends c.self.invariant new c.deref-3.result.now _ t.first t.after counted refl in
    let parts = parts_replaced groups e t covers new c.args.fresh.items c.requires.order (rw c.deref.ensures.value at c.in_ok-groups.ensures.chunks) in
    let in_range = rw (← c.self.view_is) at c.requires.in_range in
    let few = rw (← c.self.view_is) at c.requires.few in
    let small : List ℕ → Type 0 = All (λ n. n ≤ 64) in (
      omega arith,
      (
        covers.order,
        (
          c.replaced-replaced.ensures.covers.in_range,
          (
            subst small (sym counted) c.in_ok-groups.ensures.few,
            omega (arith, ap sum all, length-joined (take t.first groups ++ (new ++ drop t.after groups)), ap length parts, length_replaced (joined groups) c.args.fresh.items c.args.first c.args.after c.requires.order in_range, few),
          ),
        ),
      ),
    )

pub invariant_of-self-2 : goal.invariant_of-self-2
invariant_of-self-2 c =
    let new = c.in_ok-groups.groups.items in
    let counted : c.deref-3.result.now ≡ counts_of new = c.deref-3.ensures.value ∙ c.in_ok-counts.ensures ∙ ap counts_of c.deref-2.ensures.value in
    rw c.in_ok-replace_parts.ensures.ok
    (segments_spliced c.self.inside.groups.items c.self.inside.ends c.self.invariant new c.deref-3.result.now c.in_ok-ends.ends c.replaced-replaced.result.first c.replaced-replaced.result.after counted c.in_ok-ends.ensures)

pub returns-clause-ok : goal.returns-clause-ok
returns-clause-ok c =
    let groups = c.self.inside.groups.items in
    let e : Splice = record { at = c.args.first; end = c.args.after; count = c.len.result } in
    let t = c.replaced-replaced.result in
    let covers = covers_counts groups c.self.inside.ends e t c.self.invariant c.replaced-replaced.ensures.covers in
    rw (← c.self.view_is)
    (ap joined c.in_ok-replace_parts.ensures.ok
    ∙ parts_replaced groups e t covers c.in_ok-groups.groups.items c.args.fresh.items c.requires.order (rw c.deref.ensures.value at c.in_ok-groups.ensures.chunks))
