use Rattle.std.proofs.Common.{◌≡◌, ◌+◌, ◌++◌, ◌<◌, ℕ, List, [], length, get_or, set, ap, arith, ◌∙◌}
use Rattle.std.specs.List.{concat, remove}
use Rattle.places.proofs.Cuts.{by_nil}
use Rattle.places.proofs.Joining.{here, joined, left_long}
use Rattle.places.proofs.joins.join.Goals as goal

pub returns-clause-list : goal.returns-clause-list
returns-clause-list c =
    let cs : List (List ℕ) = c.args.chunks.now.items in
    let k : ℕ = c.args.k in
    let gone : c.remove-behind.new.self.items ≡ remove cs (k + 1) = c.remove-behind.ensures.items in
    let within : k < length c.remove-behind.new.self.items = let a = ap length gone in let b = left_long cs k c.requires.there in omega arith in
    let first : c.index_mut.result.now ≡ get_or cs k [] = by_nil c.remove-behind.new.self.items k c.index_mut.result.now within c.index_mut.ensures.value ∙ ap (λ (ys : List (List ℕ)). get_or ys k []) gone ∙ here cs k c.requires.there [] in
    let second : c.remove-behind.result ≡ get_or cs (k + 1) [] = by_nil cs (k + 1) c.remove-behind.result c.requires.there c.remove-behind.ensures.value in
    ap (λ (ys : List (List ℕ)). concat (set ys k c.append.new.self)) gone
    ∙ ap (λ (x : List ℕ). concat (set (remove cs (k + 1)) k x)) (c.append.ensures.value ∙ ap (λ (x : List ℕ). x ++ c.remove-behind.result) first ∙ ap (λ (x : List ℕ). get_or cs k [] ++ x) second)
    ∙ joined cs k c.requires.there
