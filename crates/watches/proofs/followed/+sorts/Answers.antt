use Rattle.std.proofs.Common.{◌≡◌, get_or, sym, subst, ◌∙◌}
use Rattle.std.specs.Prelude.{Option, ℕ}
use Rattle.std.specs.List.Sorted.{IsPermutation}
use Rattle.std.proofs.lemmas.List.Sorted.{IsPermutation-refl}
use Rattle.live.specs.Chains.{seen}
use Rattle.live.specs.declared.op.WatchOp.TheVariants.{Sort}
use Rattle.live.proofs.Along.{some_watch}
use Rattle.watches.proofs.Permuted.{sorts_all}
use Rattle.watches.proofs.followed.+sorts.Goals as goal

pub returns-in-None : goal.returns-in-None
returns-in-None t c = λ all schema rows now.
    let watches = c.args.watches.now.watches in
    let d = some_watch watches c.args.place c.requires in
    let op : (get_or watches c.args.place d).op ≡ Sort c.in-Sort.field-0 = sym (c.op_at.ensures d) ∙ c.in-Sort.is in
    sorts_all schema rows watches c.args.place d c.in-Sort.field-0 now c.requires op
    (subst (λ (over : Option ℕ). IsPermutation rows (seen rows watches over)) (sym c.in-None.is ∙ c.source_at.ensures.source d) (IsPermutation-refl rows))

pub returns-in-Some : goal.returns-in-Some
returns-in-Some t c = λ all schema rows now.
    let watches = c.args.watches.now.watches in
    let d = some_watch watches c.args.place c.requires in
    let op : (get_or watches c.args.place d).op ≡ Sort c.in-Sort.field-0 = sym (c.op_at.ensures d) ∙ c.in-Sort.is in
    sorts_all schema rows watches c.args.place d c.in-Sort.field-0 now c.requires op
    (subst (λ (over : Option ℕ). IsPermutation rows (seen rows watches over)) (sym c.in-Some.is ∙ c.source_at.ensures.source d) (c.sorts.ensures all schema rows now))
