use Rattle.std.proofs.Common.{List, ◌++◌, ◌∷◌, [], ap, sym, ◌∙◌}
use Rattle.relations.specs.declared.criteria.Key.{Key}
use Rattle.questions.proofs.Keys.{is_among, key_again, key_more}
use Rattle.questions.proofs.sorted.first_keys.Goals as goal

pub loop-key-preserved-then-is_among : goal.loop-key-preserved-then-is_among
loop-key-preserved-then-is_among c =
    key_again c.args.keys.now c.loop-key.first c.loop-key.key-index c.key-item.result c.loop-key-test.true c.key-item.is c.loop-key.invariant
    (ap (λ (keys : List Key). is_among keys c.key-item.result.prop) (sym c.as_slice.ensures) ∙ sym c.is_among.ensures ∙ c.if-is_among.true)

pub loop-key-preserved : goal.loop-key-preserved
loop-key-preserved c =
    c.in_ok-push.ensures.ok ∙ ap (λ (k : Key). c.loop-key.first ++ k ∷ []) c.in_ok-copy.ensures
    ∙ key_more c.args.keys.now c.loop-key.first c.loop-key.key-index c.key-item.result c.loop-key-test.true c.key-item.is c.loop-key.invariant
    (ap (λ (keys : List Key). is_among keys c.key-item.result.prop) (sym c.as_slice.ensures) ∙ sym c.is_among.ensures ∙ c.if-is_among.false)
