use Rattle.std.proofs.Common.{◌≡◌, ◌+◌, ◌-◌, ◌≤◌, [], ◌++◌, length, set, take, drop, ap, ◌∙◌, arith}
use Rattle.segments.specs.Joined.{joined}
use Rattle.segments.proofs.Counted.{segments_count}
use Rattle.bytes_col.proofs.Edited.{count_at, few_edited, joined_edited, length-taken, IsSpine-edited}
use Rattle.bytes_col.proofs.Places.{value_within}
use Rattle.bytes_col.proofs.Sizes.{length-sizes, sizes_taken}
use Rattle.bytes_col.proofs.spine.Spine.remove_at.Goals as goal

pub remove_shared-requires-clause-row : goal.remove_shared-requires-clause-row
remove_shared-requires-clause-row g c =
    omega (arith, value_within c.args.self.now c.args.at c.args.place.now c.requires.place.place c.requires.place.before_end, length-sizes (joined c.args.self.now) c.args.sizes.now c.requires.sizes)

pub recount-requires : goal.recount-requires
recount-requires g c =
    let ss = c.self.inside.chunks in
    let p = c.args.place.now in
    let there = rw (← c.self.view_is) at c.requires.place in
    let s = c.in_ok-chunk.chunk.now in
    let own = count_at ss p.segment s there.place.chunk c.in_ok-chunk.ensures.value in
    let read = count_at ss p.segment c.chunk.result.now there.place.chunk (rw (← c.self.view_is) at c.chunk.ensures) in
    let t = c.remove_shared.new.chunk in
    let made : t ≡ take p.offset s ++ ([] ++ drop (p.offset + 1) s) = c.in_ok-remove_shared.ensures.ok in
    let size : length t ≡ c.len-count.result - 1 =
    ap length c.in_ok-remove_shared.ensures.ok ∙ length-taken s p.offset (omega (arith, own, there.before_end)) ∙ (omega (arith, own, read, c.len-count.ensures.count)) in
    let inside : p.offset + 1 ≤ length s = omega (arith, own, there.before_end) in
    let new : joined (set ss p.segment t) ≡ take c.args.at (joined ss) ++ drop (c.args.at + 1) (joined ss) =
    joined_edited ss c.self.inside.ends c.args.at 1 (c.len-count.result - 1) p s t [] c.self.invariant there.place c.in_ok-chunk.ensures.value inside made size in (
      omega arith,
      (
        omega (arith, there.place.chunk, segments_count ss c.self.inside.ends c.self.invariant.counted),
        (
          omega (arith, c.len-count.ensures.few),
          few_edited ss c.self.inside.ends c.args.at 1 (c.len-count.result - 1) p s t [] c.self.invariant there.place c.in_ok-chunk.ensures.value inside made size
              (omega (arith, ap length new, length-taken (joined ss) c.args.at (value_within ss c.args.at p there.place there.before_end), rw (← c.self.view_is) at c.len-list.ensures.len, c.len-list.ensures.few)),
        ),
      ),
    )

pub invariant_of-self-2 : goal.invariant_of-self-2
invariant_of-self-2 g c =
    let ss = c.self.inside.chunks in
    let p = c.args.place.now in
    let there = rw (← c.self.view_is) at c.requires.place in
    let s = c.in_ok-chunk.chunk.now in
    let own = count_at ss p.segment s there.place.chunk c.in_ok-chunk.ensures.value in
    let read = count_at ss p.segment c.chunk.result.now there.place.chunk (rw (← c.self.view_is) at c.chunk.ensures) in
    let t = c.remove_shared.new.chunk in
    let made : t ≡ take p.offset s ++ ([] ++ drop (p.offset + 1) s) = c.in_ok-remove_shared.ensures.ok in
    let size : length t ≡ c.len-count.result - 1 =
    ap length c.in_ok-remove_shared.ensures.ok ∙ length-taken s p.offset (omega (arith, own, there.before_end)) ∙ (omega (arith, own, read, c.len-count.ensures.count)) in
    let inside : p.offset + 1 ≤ length s = omega (arith, own, there.before_end) in
    let new : joined (set ss p.segment t) ≡ take c.args.at (joined ss) ++ drop (c.args.at + 1) (joined ss) =
    joined_edited ss c.self.inside.ends c.args.at 1 (c.len-count.result - 1) p s t [] c.self.invariant there.place c.in_ok-chunk.ensures.value inside made size in
    IsSpine-edited ss c.self.inside.ends c.args.at 1 (c.len-count.result - 1) p s t [] c.self.invariant there.place c.in_ok-chunk.ensures.value inside made size c.recount.new.self (omega (arith, there.more, read, c.len-count.ensures.count)) c.recount.ensures

pub returns-clause-ok : goal.returns-clause-ok
returns-clause-ok g c =
    let ss = c.self.inside.chunks in
    let p = c.args.place.now in
    let there = rw (← c.self.view_is) at c.requires.place in
    let s = c.in_ok-chunk.chunk.now in
    let own = count_at ss p.segment s there.place.chunk c.in_ok-chunk.ensures.value in
    let read = count_at ss p.segment c.chunk.result.now there.place.chunk (rw (← c.self.view_is) at c.chunk.ensures) in
    let t = c.remove_shared.new.chunk in
    let made : t ≡ take p.offset s ++ ([] ++ drop (p.offset + 1) s) = c.in_ok-remove_shared.ensures.ok in
    let size : length t ≡ c.len-count.result - 1 =
    ap length c.in_ok-remove_shared.ensures.ok ∙ length-taken s p.offset (omega (arith, own, there.before_end)) ∙ (omega (arith, own, read, c.len-count.ensures.count)) in
    let inside : p.offset + 1 ≤ length s = omega (arith, own, there.before_end) in
    let new : joined (set ss p.segment t) ≡ take c.args.at (joined ss) ++ drop (c.args.at + 1) (joined ss) =
    joined_edited ss c.self.inside.ends c.args.at 1 (c.len-count.result - 1) p s t [] c.self.invariant there.place c.in_ok-chunk.ensures.value inside made size in
    rw (← c.self.view_is) new

pub returns-clause-sizes : goal.returns-clause-sizes
returns-clause-sizes g c =
    let ss = c.self.inside.chunks in
    let p = c.args.place.now in
    let there = rw (← c.self.view_is) at c.requires.place in
    let s = c.in_ok-chunk.chunk.now in
    let own = count_at ss p.segment s there.place.chunk c.in_ok-chunk.ensures.value in
    let read = count_at ss p.segment c.chunk.result.now there.place.chunk (rw (← c.self.view_is) at c.chunk.ensures) in
    let t = c.remove_shared.new.chunk in
    let made : t ≡ take p.offset s ++ ([] ++ drop (p.offset + 1) s) = c.in_ok-remove_shared.ensures.ok in
    let size : length t ≡ c.len-count.result - 1 =
    ap length c.in_ok-remove_shared.ensures.ok ∙ length-taken s p.offset (omega (arith, own, there.before_end)) ∙ (omega (arith, own, read, c.len-count.ensures.count)) in
    let inside : p.offset + 1 ≤ length s = omega (arith, own, there.before_end) in
    let new : joined (set ss p.segment t) ≡ take c.args.at (joined ss) ++ drop (c.args.at + 1) (joined ss) =
    joined_edited ss c.self.inside.ends c.args.at 1 (c.len-count.result - 1) p s t [] c.self.invariant there.place c.in_ok-chunk.ensures.value inside made size in
    sizes_taken (joined ss) (joined (set ss p.segment t)) c.args.sizes.now c.remove_shared.new.sizes c.args.at 1 (rw (← c.self.view_is) at c.requires.sizes) new c.in_ok-remove_shared.ensures.sizes c.in_ok-remove_shared.ensures.home
