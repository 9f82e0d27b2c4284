use Rattle.std.proofs.Common.{◌≡◌, ◌+◌, ◌≤◌, [], ◌∷◌, ◌++◌, length, set, take, drop, sym, ap, ◌∙◌, arith}
use Rattle.segments.specs.Joined.{joined}
use Rattle.segments.proofs.Counted.{segments_count}
use Rattle.bytes_col.proofs.Edited.{count_at, few_edited, joined_edited, length-put_in, put_in, IsSpine-edited}
use Rattle.bytes_col.proofs.Places.{place_within}
use Rattle.bytes_col.proofs.Sizes.{length-sizes, sizes_put}
use Rattle.bytes_col.proofs.spine.Spine.insert_at.Goals as goal

pub insert_shared-requires-clause-row : goal.insert_shared-requires-clause-row
insert_shared-requires-clause-row g c =
    omega (arith, place_within c.args.self.now c.args.at c.args.place.now c.requires.place.place, length-sizes (joined c.args.self.now) c.args.sizes.now c.requires.sizes)

pub recount-requires : goal.recount-requires
recount-requires g c =
    let ss = c.self.inside.chunks in
    let p = c.args.place.now in
    let there = rw (← c.self.view_is) at c.requires.place in
    let s = c.in_ok-chunk.chunk.now in
    let own = count_at ss p.segment s there.place.chunk c.in_ok-chunk.ensures.value in
    let read = count_at ss p.segment c.chunk.result.now there.place.chunk (rw (← c.self.view_is) at c.chunk.ensures) in
    let t = c.insert_shared.new.chunk in
    let made = c.in_ok-insert_shared.ensures.ok ∙ put_in s p.offset c.args.value.now in
    let size : length t ≡ c.len-count.result + 1 =
    ap length c.in_ok-insert_shared.ensures.ok ∙ length-put_in s p.offset c.args.value.now (omega (arith, own, there.place.within)) ∙ (omega (arith, own, read, c.len-count.ensures.count)) in
    let inside : p.offset + 0 ≤ length s = omega (arith, own, there.place.within) in
    let new : joined (set ss p.segment t) ≡ take c.args.at (joined ss) ++ (c.args.value.now ∷ drop c.args.at (joined ss)) =
    joined_edited ss c.self.inside.ends c.args.at 0 (c.len-count.result + 1) p s t (c.args.value.now ∷ []) c.self.invariant there.place c.in_ok-chunk.ensures.value inside made size
    ∙ sym (put_in (joined ss) c.args.at c.args.value.now) in
    let few = rw (← c.self.view_is) at c.requires.few in (
      omega arith,
      (
        omega (arith, there.place.chunk, segments_count ss c.self.inside.ends c.self.invariant.counted),
        (
          omega (arith, there.room, read, c.len-count.ensures.count),
          few_edited ss c.self.inside.ends c.args.at 0 (c.len-count.result + 1) p s t (c.args.value.now ∷ []) c.self.invariant there.place c.in_ok-chunk.ensures.value inside made size
              (omega (arith, ap length new, length-put_in (joined ss) c.args.at c.args.value.now (place_within ss c.args.at p there.place), few)),
        ),
      ),
    )

pub invariant_of-self-2 : goal.invariant_of-self-2
invariant_of-self-2 g c =
    let ss = c.self.inside.chunks in
    let p = c.args.place.now in
    let there = rw (← c.self.view_is) at c.requires.place in
    let s = c.in_ok-chunk.chunk.now in
    let own = count_at ss p.segment s there.place.chunk c.in_ok-chunk.ensures.value in
    let read = count_at ss p.segment c.chunk.result.now there.place.chunk (rw (← c.self.view_is) at c.chunk.ensures) in
    let t = c.insert_shared.new.chunk in
    let made = c.in_ok-insert_shared.ensures.ok ∙ put_in s p.offset c.args.value.now in
    let size : length t ≡ c.len-count.result + 1 =
    ap length c.in_ok-insert_shared.ensures.ok ∙ length-put_in s p.offset c.args.value.now (omega (arith, own, there.place.within)) ∙ (omega (arith, own, read, c.len-count.ensures.count)) in
    let inside : p.offset + 0 ≤ length s = omega (arith, own, there.place.within) in
    let new : joined (set ss p.segment t) ≡ take c.args.at (joined ss) ++ (c.args.value.now ∷ drop c.args.at (joined ss)) =
    joined_edited ss c.self.inside.ends c.args.at 0 (c.len-count.result + 1) p s t (c.args.value.now ∷ []) c.self.invariant there.place c.in_ok-chunk.ensures.value inside made size
    ∙ sym (put_in (joined ss) c.args.at c.args.value.now) in
    IsSpine-edited ss c.self.inside.ends c.args.at 0 (c.len-count.result + 1) p s t (c.args.value.now ∷ []) c.self.invariant there.place c.in_ok-chunk.ensures.value inside made size c.recount.new.self (omega arith) c.recount.ensures

pub returns-clause-ok : goal.returns-clause-ok
returns-clause-ok g c =
    let ss = c.self.inside.chunks in
    let p = c.args.place.now in
    let there = rw (← c.self.view_is) at c.requires.place in
    let s = c.in_ok-chunk.chunk.now in
    let own = count_at ss p.segment s there.place.chunk c.in_ok-chunk.ensures.value in
    let read = count_at ss p.segment c.chunk.result.now there.place.chunk (rw (← c.self.view_is) at c.chunk.ensures) in
    let t = c.insert_shared.new.chunk in
    let made = c.in_ok-insert_shared.ensures.ok ∙ put_in s p.offset c.args.value.now in
    let size : length t ≡ c.len-count.result + 1 =
    ap length c.in_ok-insert_shared.ensures.ok ∙ length-put_in s p.offset c.args.value.now (omega (arith, own, there.place.within)) ∙ (omega (arith, own, read, c.len-count.ensures.count)) in
    let inside : p.offset + 0 ≤ length s = omega (arith, own, there.place.within) in
    let new : joined (set ss p.segment t) ≡ take c.args.at (joined ss) ++ (c.args.value.now ∷ drop c.args.at (joined ss)) =
    joined_edited ss c.self.inside.ends c.args.at 0 (c.len-count.result + 1) p s t (c.args.value.now ∷ []) c.self.invariant there.place c.in_ok-chunk.ensures.value inside made size
    ∙ sym (put_in (joined ss) c.args.at c.args.value.now) in
    rw (← c.self.view_is) new

pub returns-clause-sizes : goal.returns-clause-sizes
returns-clause-sizes g c =
    let ss = c.self.inside.chunks in
    let p = c.args.place.now in
    let there = rw (← c.self.view_is) at c.requires.place in
    let s = c.in_ok-chunk.chunk.now in
    let own = count_at ss p.segment s there.place.chunk c.in_ok-chunk.ensures.value in
    let read = count_at ss p.segment c.chunk.result.now there.place.chunk (rw (← c.self.view_is) at c.chunk.ensures) in
    let t = c.insert_shared.new.chunk in
    let made = c.in_ok-insert_shared.ensures.ok ∙ put_in s p.offset c.args.value.now in
    let size : length t ≡ c.len-count.result + 1 =
    ap length c.in_ok-insert_shared.ensures.ok ∙ length-put_in s p.offset c.args.value.now (omega (arith, own, there.place.within)) ∙ (omega (arith, own, read, c.len-count.ensures.count)) in
    let inside : p.offset + 0 ≤ length s = omega (arith, own, there.place.within) in
    let new : joined (set ss p.segment t) ≡ take c.args.at (joined ss) ++ (c.args.value.now ∷ drop c.args.at (joined ss)) =
    joined_edited ss c.self.inside.ends c.args.at 0 (c.len-count.result + 1) p s t (c.args.value.now ∷ []) c.self.invariant there.place c.in_ok-chunk.ensures.value inside made size
    ∙ sym (put_in (joined ss) c.args.at c.args.value.now) in
    sizes_put (joined ss) (joined (set ss p.segment t)) c.args.sizes.now c.insert_shared.new.sizes c.args.at 1 c.args.value.now (rw (← c.self.view_is) at c.requires.sizes) new c.in_ok-insert_shared.ensures.sizes c.in_ok-insert_shared.ensures.home
