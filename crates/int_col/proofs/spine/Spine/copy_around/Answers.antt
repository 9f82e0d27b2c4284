use Rattle.std.proofs.Common.{◌≡◌, ◌∙◌, ◌+◌, ◌-◌, ◌++◌, ℕ, List, ℤ, ap, arith, length, take, drop}
use Rattle.std.proofs.lemmas.List.{length-take, length-take-le, length-drop, length-append, length-replicate, drop_all}
use Rattle.segments.specs.Splices.{size_after}
use Rattle.segments.specs.Joined.{joined}
use Rattle.segments.proofs.Joined.{stop_within}
use Rattle.int_col.proofs.Splices.{arranged}
use Rattle.int_col.proofs.spine.Spine.copy_around.Goals as goal

pub copy_values-requires-2 : goal.copy_values-requires-2
copy_values-requires-2 c =
    let e = c.args.splice.now in
    let t = c.args.replaced.now in
    let size : length c.args.into.now ≡ size_after e t = ap length c.requires.copies ∙ length-replicate (size_after e t) c.args.value in
    let front : length (take (e.at - t.start) c.args.into.now) ≡ e.at - t.start = length-take-le (e.at - t.start) c.args.into.now (omega arith) in
    let copied : length c.copy_values.new.into ≡ e.at - t.start = c.copy_values.auto.into ∙ front in
    let all : length (c.copy_values.new.into ++ drop (e.at - t.start) c.args.into.now) ≡ size_after e t =
    length-append c.copy_values.new.into (drop (e.at - t.start) c.args.into.now) ∙ (omega (arith, length-drop (e.at - t.start) c.args.into.now)) in
    let stop = stop_within c.args.self.now e t c.requires.covers in
    omega (arith, c.requires.covers.behind, length-take (length (c.copy_values.new.into ++ drop (e.at - t.start) c.args.into.now) - (e.at - t.start + e.count)) (drop (e.at - t.start + e.count) (c.copy_values.new.into ++ drop (e.at - t.start) c.args.into.now)))

pub returns : goal.returns
returns c =
    let e = c.args.splice.now in
    let t = c.args.replaced.now in
    let k : ℕ = e.at - t.start + e.count in
    let size : length c.args.into.now ≡ size_after e t = ap length c.requires.copies ∙ length-replicate (size_after e t) c.args.value in
    let front : length (take (e.at - t.start) c.args.into.now) ≡ e.at - t.start = length-take-le (e.at - t.start) c.args.into.now (omega arith) in
    let copied : length c.copy_values.new.into ≡ e.at - t.start = c.copy_values.auto.into ∙ front in
    let middle : List ℤ = c.copy_values.new.into ++ drop (e.at - t.start) c.args.into.now in
    let all : length middle ≡ size_after e t =
    length-append c.copy_values.new.into (drop (e.at - t.start) c.args.into.now) ∙ (omega (arith, length-drop (e.at - t.start) c.args.into.now)) in
    let rest : length (drop k middle) ≡ t.stop - e.end = length-drop k middle ∙ (omega arith) in
    let part : length (take (length middle - k) (drop k middle)) ≡ t.stop - e.end = length-take-le (length middle - k) (drop k middle) (omega (arith, length-drop k middle)) ∙ (omega arith) in
    arranged (joined c.args.self.now) e t c.args.value c.args.into.now c.copy_values.new.into c.copy_values-2.new.into (drop (length middle - k) (drop k middle)) (length (take (length middle - k) (drop k middle)))
    c.requires.copies copied (c.copy_values.ensures ∙ ap (λ n. take n (drop t.start (joined c.args.self.now))) front) c.copy_values-2.ensures part
    (drop_all (length middle - k) (drop k middle) (omega (arith, length-drop k middle)))
