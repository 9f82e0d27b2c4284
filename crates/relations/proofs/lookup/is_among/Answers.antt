use Rattle.std.proofs.Common.{ℕ, List, ◌∙◌, rules, tests, sym}
use Rattle.std.proofs.lemmas.Iterator.Adapters.{YieldsList-from_rev_slice}
use Rattle.std.proofs.lemmas.Iterator.Search.{any_from_yields_List}
use Rattle.std.proofs.lemmas.List.Sorted.{IsPermutation-reverse, list_any-IsPermutation}
use Rattle.std.specs.Prelude.{reverse}
use Rattle.mk_value.specs.Names.{same_bytes}
use Rattle.relations.proofs.lookup.is_among.Goals as goal

pub returns : goal.returns
returns c =
    let names = c.args.names.now in
    let test = λ (known : List ℕ). same_bytes known c.args.name.now in
    any_from_yields_List test _ _ c.any.result c.any.ensures.ran (YieldsList-from_rev_slice names (cc)) (λ x b q k. search (rules, tests)) ∙ sym (list_any-IsPermutation test names (reverse names) (IsPermutation-reverse names))
