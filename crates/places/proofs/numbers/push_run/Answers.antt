use Rattle.std.proofs.Common.{◌+◌, ◌++◌, ◌∷◌, List, ℕ, [], ap, sym, ◌∙◌, arith}
use Rattle.std.proofs.lemmas.List.{append_assoc}
use Rattle.row_edits.specs.Runs.{run}
use Rattle.row_edits.proofs.Runs.{run_more}
use Rattle.places.proofs.numbers.push_run.Goals as goal

pub loop-k-preserved : goal.loop-k-preserved
loop-k-preserved c =
    let k : ℕ = c.loop-k.k in
    let one : List ℕ = (c.args.first + k) ∷ [] in
    record {
      items =
          c.push_reserved.ensures.items ∙ ap (λ xs. xs ++ one) c.loop-k.invariant.items
          ∙ append_assoc c.args.numbers.now.items (run c.args.first k) one
          ∙ ap (λ xs. c.args.numbers.now.items ++ xs) (sym (run_more c.args.first k));
      len = omega (arith, c.push_reserved.ensures.len, c.loop-k.invariant.len);
      capacity = c.push_reserved.ensures.capacity ∙ c.loop-k.invariant.capacity;
    }
