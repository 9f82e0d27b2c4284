use Rattle.std.proofs.Common.{◌≡◌, ◌+◌, ◌++◌, ℕ, suc, List, take, drop, ap, ◌∙◌, arith}
use Rattle.mk_value.specs.Data.{Datum}
use Rattle.mapped.specs.Index.{Index}
use Rattle.mapped.proofs.Cutting.{keys_left}
use Rattle.mapped.proofs.hash_index.HashIndex.remove.Goals as goal

pub returns-then-count-eq1-clause-rows : goal.returns-then-count-eq1-clause-rows
returns-then-count-eq1-clause-rows c keys old is =
    let at : ℕ = c.args.at in
    let one : c.args.count ≡ 1 = c.if-count-eq1.true in
    let next : suc at ≡ at + c.args.count = omega arith in
    c.remove.ensures.keys ∙ ap (λ (k : ℕ). take at c.self.inside.keys.items ++ drop k c.self.inside.keys.items) next
    ∙ ap (λ (ks : List (List Datum)). take at ks ++ drop (at + c.args.count) ks) (ap (λ (x : Index). x.keys) c.self.view_is ∙ is) ∙ keys_left keys at c.args.count old

pub returns-else-count-eq1-clause-rows : goal.returns-else-count-eq1-clause-rows
returns-else-count-eq1-clause-rows c keys old is =
    c.remove_many.ensures.keys ∙ ap (λ (ks : List (List Datum)). take c.args.at ks ++ drop (c.args.at + c.args.count) ks) (ap (λ (x : Index). x.keys) c.self.view_is ∙ is)
    ∙ keys_left keys c.args.at c.args.count old
