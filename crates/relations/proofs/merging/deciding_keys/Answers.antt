use Rattle.std.proofs.Common.{List, ℕ, ◌+◌, ◌++◌, ◌∷◌, [], ap, sym, subst, take, ◌∙◌}
use Rattle.std.specs.List.{list_any}
use Rattle.mk_value.specs.Names.{same_bytes}
use Rattle.relations.specs.declared.criteria.Key.{Key}
use Rattle.relations.specs.Merging.{OrderAs}
use Rattle.relations.proofs.KeyNames.{order_pushed, order_skipped}
use Rattle.relations.proofs.merging.deciding_keys.Goals as goal

pub loop-key-preserved-then-has_key : goal.loop-key-preserved-then-has_key
loop-key-preserved-then-has_key c =
    order_skipped c.args.keys.now c.loop-key.deciding c.loop-key.key-index c.key-item.result c.loop-key-test.true c.key-item.is c.loop-key.invariant
    (ap (list_any (λ (key : Key). same_bytes key.prop c.key-item.result.prop)) (sym c.as_slice.ensures) ∙ sym c.has_key.ensures ∙ c.if-has_key.true)

pub loop-key-preserved : goal.loop-key-preserved
loop-key-preserved c =
    subst (OrderAs (take (c.loop-key.key-index + 1) c.args.keys.now)) (sym c.in_ok-push.ensures.ok)
    (subst (λ (prop : List ℕ). OrderAs (take (c.loop-key.key-index + 1) c.args.keys.now) (c.loop-key.deciding ++ record { prop = prop; down = c.key-item.result.down } ∷ [])) (sym c.in_ok-prop.ensures)
    (order_pushed c.args.keys.now c.loop-key.deciding c.loop-key.key-index c.key-item.result c.loop-key-test.true c.key-item.is c.loop-key.invariant))
