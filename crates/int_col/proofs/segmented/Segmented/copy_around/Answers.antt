use Rattle.std.proofs.Common.{◌≡◌, ◌∙◌, ◌+◌, ◌-◌, ◌++◌, ℕ, List, ℤ, ap, arith, length, take, drop}
use Rattle.std.proofs.lemmas.List.{length-take-le, length-drop, length-append, length-replicate, drop_all}
use Rattle.segments.specs.Joined.{joined}
use Rattle.int_col.proofs.Splices.{arranged_all}
use Rattle.int_col.proofs.segmented.Segmented.copy_around.Goals as goal

pub returns : goal.returns
returns c =
    let e = c.args.splice.now in
    let xs : List ℤ = joined c.args.self.now in
    let k : ℕ = e.at + e.count in
    let size : length c.args.into.now ≡ e.at + e.count + (length xs - e.end) = ap length c.requires.copies ∙ length-replicate (e.at + e.count + (length xs - e.end)) c.args.value in
    let front : length (take e.at c.args.into.now) ≡ e.at = length-take-le e.at c.args.into.now (omega arith) in
    let copied : length c.copy_values.new.into ≡ e.at = c.copy_values.auto.into ∙ front in
    let middle : List ℤ = c.copy_values.new.into ++ drop e.at c.args.into.now in
    let all : length middle ≡ e.at + e.count + (length xs - e.end) =
    length-append c.copy_values.new.into (drop e.at c.args.into.now) ∙ (omega (arith, length-drop e.at c.args.into.now)) in
    let rest : length (drop k middle) ≡ length xs - e.end = length-drop k middle ∙ (omega arith) in
    let part : length (take (length middle - k) (drop k middle)) ≡ length xs - e.end = length-take-le (length middle - k) (drop k middle) (omega (arith, length-drop k middle)) ∙ (omega arith) in
    arranged_all xs e.at e.end e.count c.args.value c.args.into.now c.copy_values.new.into c.copy_values-2.new.into (drop (length middle - k) (drop k middle)) (length (take (length middle - k) (drop k middle)))
    c.requires.copies copied (c.copy_values.ensures ∙ ap (λ n. take n xs) front) c.copy_values-2.ensures part
    (drop_all (length middle - k) (drop k middle) (omega (arith, length-drop k middle)))
