use Rattle.std.proofs.Common.{◌≡◌, ◌+◌, ◌-◌, ◌++◌, ◌∷◌, [], ℕ, List, length, take, drop, ap, ◌∙◌, arith}
use Rattle.std.specs.List.{concat}
use Rattle.std.proofs.lemmas.List.{length-append}
use Rattle.row_edits.specs.Runs.{run}
use Rattle.places.proofs.Turns.{filled, filled_front}
use Rattle.places.proofs.edits.push_filled.Goals as goal

pub loop-left-preserved : goal.loop-left-preserved
loop-left-preserved c =
    let i = c.loop-left.invariant in
    let t = c.loop-left-test.true in
    let m = c.min-some.ensures in
    let cs : List (List ℕ) = c.loop-left.chunks.items in
    let x : List ℕ = c.push_run.new.self in
    let n : ℕ = length c.args.chunks.now.items in
    let some : ℕ = c.min-some.result in
    let new = c.push_reserved.ensures.items in
    let is : x ≡ run c.loop-left.from some = c.push_run.ensures ∙ ap (λ (ys : List ℕ). ys ++ run c.loop-left.from some) c.take_spare-chunk.ensures.value in
    let long = ap length new ∙ length-append cs (x ∷ []) in
    let less = c.take_spare-chunk.ensures.len in
    let a = i.long in
    let b = i.fits in
    let d = i.spare in
    let s = i.small in
    record {
      front = ap (take n) new ∙ filled_front cs n x i.long ∙ i.front;
      run = ap (λ (ys : List (List ℕ)). concat (drop n ys) ++ run (c.loop-left.from + some) (c.loop-left.left - some)) new
          ∙ filled cs n c.loop-left.from some c.loop-left.left x (run c.args.first c.args.count) i.long is (omega arith) i.run;
      long = omega arith;
      fits = omega arith;
      empty = c.take_spare-chunk.ensures.rest;
      spare = omega arith;
      capacity = c.push_reserved.ensures.capacity ∙ i.capacity;
      small = omega arith;
    }
