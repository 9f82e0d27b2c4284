use Rattle.std.proofs.Common.{◌≡◌, ◌+◌, ◌-◌, ◌<◌, ℕ, List, suc, length, get_or, ap, arith, rules}
use Rattle.std.proofs.lemmas.List.{get_or_read}
use Rattle.std.specs.Vec.{vec_len}
use Rattle.segments.specs.Segments.{counts_from}
use Rattle.segments.proofs.Counts.{length-counts_from}
use Rattle.segments.proofs.Places.{end_at, start_within, extended}
use Rattle.segments.proofs.segments.Segments.extend_last.Goals as goal

pub overflow_add-index_mut : goal.overflow_add-index_mut
overflow_add-index_mut g c =
    let es : List ℕ = c.self.inside.ends.items in
    let some = rw (← c.self.view_is) at c.requires.some in
    let last : ℕ = c.len-last.result - 1 in
    let size : vec_len c.self.inside.ends ≡ length es = search rules in
    let l : last < length es = omega (arith, c.len-last.ensures, length-counts_from 0 es) in
    let read : c.index_mut.result.now ≡ get_or es last 0 = get_or_read es last c.index_mut.result.now l c.index_mut.ensures.value 0 in
    omega (arith, c.self.invariant.few, end_at g.row.MOST es last c.self.invariant l, start_within (counts_from 0 es) (suc last) (omega (arith, length-counts_from 0 es)))

pub invariant_of-self : goal.invariant_of-self
invariant_of-self g c =
    let es : List ℕ = c.self.inside.ends.items in
    let some = rw (← c.self.view_is) at c.requires.some in
    let few = rw (← c.self.view_is) at c.requires.few in
    let room = rw (← c.self.view_is) at c.requires.room in
    let last : ℕ = c.len-last.result - 1 in
    let size : vec_len c.self.inside.ends ≡ length es = search rules in
    let counts = length-counts_from 0 es in
    let len : suc last ≡ length es = omega (arith, c.len-last.ensures) in
    let read : c.index_mut.result.now ≡ get_or es last 0 = get_or_read es last c.index_mut.result.now (omega arith) c.index_mut.ensures.value 0 in
    let same : length (counts_from 0 es) - 1 ≡ last = omega arith in
    (extended g.row.MOST es last (c.index_mut.result.now + 1) c.self.invariant len (rw same at room) few (ap (λ e. e + 1) read)).0

pub returns : goal.returns
returns g c =
    let es : List ℕ = c.self.inside.ends.items in
    let some = rw (← c.self.view_is) at c.requires.some in
    let few = rw (← c.self.view_is) at c.requires.few in
    let room = rw (← c.self.view_is) at c.requires.room in
    let last : ℕ = c.len-last.result - 1 in
    let size : vec_len c.self.inside.ends ≡ length es = search rules in
    let counts = length-counts_from 0 es in
    let len : suc last ≡ length es = omega (arith, c.len-last.ensures) in
    let read : c.index_mut.result.now ≡ get_or es last 0 = get_or_read es last c.index_mut.result.now (omega arith) c.index_mut.ensures.value 0 in
    let same : length (counts_from 0 es) - 1 ≡ last = omega arith in
    rw (← c.self.view_is, same)
    (extended g.row.MOST es last (c.index_mut.result.now + 1) c.self.invariant len (rw same at room) few (ap (λ e. e + 1) read)).1
