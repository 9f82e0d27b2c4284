use Rattle.std.proofs.Common.{◌≡◌, ◌++◌, ℕ, List, length, take, drop, refl, ap, ◌∙◌, arith}
use Rattle.std.proofs.lemmas.List.{length-append, take-append-le, take_at, drop_at}
use Rattle.row_edits.specs.Runs.{run}
use Rattle.row_edits.proofs.Runs.{length-run}
use Rattle.row_edits.proofs.Rotating.{turn_through}
use Rattle.row_edits.proofs.numbers.insert_run.Goals as goal

pub returns-clause-items : goal.returns-clause-items
returns-clause-items c =
    let old : List ℕ = c.args.kept.now.items in
    let more : List ℕ = run c.args.first c.args.count in
    let xs : List ℕ = c.push_run.new.kept.items in
    let made : xs ≡ old ++ more = c.push_run.ensures.items in
    let long = ap length made ∙ length-append old more in
    let m = length-run c.args.first c.args.count in
    let there = c.requires.there in
    let b = c.deref_mut.ensures.len in
    let a = ap length c.deref_mut.ensures.value in
    turn_through xs c.rotate_right.new.self c.args.place (length old) c.args.count there (omega arith) (omega arith) c.deref_mut.result.now c.push_run.new.kept.len (omega arith) c.deref_mut.ensures.value c.rotate_right.ensures.after
    ∙ ap (λ (ys : List ℕ). take c.args.place ys ++ (drop (length old) ys ++ drop c.args.place (take (length old) ys))) made
    ∙ ap (λ (ys : List ℕ). ys ++ (drop (length old) (old ++ more) ++ drop c.args.place (take (length old) (old ++ more)))) (take-append-le c.args.place old more there)
    ∙ ap (λ (ys : List ℕ). take c.args.place old ++ (ys ++ drop c.args.place (take (length old) (old ++ more)))) (drop_at old more (length old) refl)
    ∙ ap (λ (ys : List ℕ). take c.args.place old ++ (more ++ drop c.args.place ys)) (take_at old more (length old) refl)
