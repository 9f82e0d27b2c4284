use Rattle.std.proofs.Common.{◌≡◌, ◌+◌, ◌-◌, ◌<◌, ◌≤◌, ◌^◌, ◌∙◌, ℕ, List, length, get_or, drop, ap, sym, subst, arith, rules}
use Rattle.std.proofs.lemmas.List.{get_or_read, take_at}
use Rattle.std.specs.Vec.{vec_len}
use Rattle.segments.specs.Segments.{counts_from, AreEnds}
use Rattle.segments.proofs.Counts.{length-counts_from}
use Rattle.segments.proofs.Moved.{ends_behind, recounted, set_few}
use Rattle.segments.proofs.segments.Segments.recount.Goals as goal

pub index-from-requires : goal.index-from-requires
index-from-requires g c =
    let es : List ℕ = c.self.inside.ends.items in
    let within = rw (← c.self.view_is) at c.requires.in_range in
    let size : vec_len c.self.inside.ends ≡ length es = search rules in
    omega (arith, length-counts_from 0 es)

pub overflow_add-to : goal.overflow_add-to
overflow_add-to g c =
    let cs : List ℕ = c.args.self.now in
    omega (arith, c.start.ensures.start, set_few cs c.args.k c.args.count c.requires.in_range c.requires.few)

pub move_ends-requires-clause-in_range : goal.move_ends-requires-clause-in_range
move_ends-requires-clause-in_range g c =
    let es : List ℕ = c.self.inside.ends.items in
    let within = rw (← c.self.view_is) at c.requires.in_range in
    omega (arith, ap length c.deref_mut.ensures.value, length-counts_from 0 es)

pub move_ends-requires-clause-above : goal.move_ends-requires-clause-above
move_ends-requires-clause-above g c =
    let es : List ℕ = c.self.inside.ends.items in
    let within = rw (← c.self.view_is) at c.requires.in_range in
    let in_range : c.args.k < length es = omega (arith, length-counts_from 0 es) in
    let read : c.index-from.result.now ≡ get_or es c.args.k 0 = get_or_read es c.args.k c.index-from.result.now in_range c.index-from.ensures 0 in
    let P : ℕ → Type 0 = λ e. c.index-from.result.now ≤ e in
    rw c.deref_mut.ensures.value (ends_behind P g.row.MOST es c.args.k c.index-from.result.now c.self.invariant in_range read (λ e low high. low))

pub move_ends-requires-clause-fits : goal.move_ends-requires-clause-fits
move_ends-requires-clause-fits g c =
    let es : List ℕ = c.self.inside.ends.items in
    let within = rw (← c.self.view_is) at c.requires.in_range in
    let in_range : c.args.k < length es = omega (arith, length-counts_from 0 es) in
    let read : c.index-from.result.now ≡ get_or es c.args.k 0 = get_or_read es c.args.k c.index-from.result.now in_range c.index-from.ensures 0 in
    let P : ℕ → Type 0 = λ e. e - c.index-from.result.now + (c.start.result + c.args.count) < 2 ^ 64 in
    rw c.deref_mut.ensures.value (ends_behind P g.row.MOST es c.args.k c.index-from.result.now c.self.invariant in_range read (λ e low high. omega (arith, c.start.ensures.start, set_few c.args.self.now c.args.k c.args.count c.requires.in_range c.requires.few)))

pub invariant_of-self : goal.invariant_of-self
invariant_of-self g c =
    let es : List ℕ = c.self.inside.ends.items in
    let within = rw (← c.self.view_is) at c.requires.in_range in
    let few = rw (← c.self.view_is) at c.requires.few in
    let start = rw (← c.self.view_is) at c.start.ensures.start in
    let in_range : c.args.k < length es = omega (arith, length-counts_from 0 es) in
    let read : c.index-from.result.now ≡ get_or es c.args.k 0 = get_or_read es c.args.k c.index-from.result.now in_range c.index-from.ensures 0 in
    let size : c.self.inside.ends.len ≡ length es = search rules in
    let items = rw c.deref_mut.ensures.value at c.move_ends.ensures.items in
    let len : length c.move_ends.new.ends ≡ c.self.inside.ends.len = omega (arith, c.move_ends.ensures.len, ap length c.deref_mut.ensures.value) in
    let P : List ℕ → Type 0 = AreEnds g.row.MOST in
    subst P (sym (take_at c.move_ends.new.ends (drop (length c.move_ends.new.ends) es) c.self.inside.ends.len len))
    (recounted g.row.MOST es c.move_ends.new.ends c.args.k c.args.count c.index-from.result.now (c.start.result + c.args.count) c.self.invariant in_range c.requires.count few read (ap (λ n. n + c.args.count) start) items).0

pub returns : goal.returns
returns g c =
    let es : List ℕ = c.self.inside.ends.items in
    let within = rw (← c.self.view_is) at c.requires.in_range in
    let few = rw (← c.self.view_is) at c.requires.few in
    let start = rw (← c.self.view_is) at c.start.ensures.start in
    let in_range : c.args.k < length es = omega (arith, length-counts_from 0 es) in
    let read : c.index-from.result.now ≡ get_or es c.args.k 0 = get_or_read es c.args.k c.index-from.result.now in_range c.index-from.ensures 0 in
    let size : c.self.inside.ends.len ≡ length es = search rules in
    let items = rw c.deref_mut.ensures.value at c.move_ends.ensures.items in
    let len : length c.move_ends.new.ends ≡ c.self.inside.ends.len = omega (arith, c.move_ends.ensures.len, ap length c.deref_mut.ensures.value) in
    rw (← c.self.view_is)
    (ap (counts_from 0) (take_at c.move_ends.new.ends (drop (length c.move_ends.new.ends) es) c.self.inside.ends.len len)
    ∙ (recounted g.row.MOST es c.move_ends.new.ends c.args.k c.args.count c.index-from.result.now (c.start.result + c.args.count) c.self.invariant in_range c.requires.count few read (ap (λ n. n + c.args.count) start) items).1)
