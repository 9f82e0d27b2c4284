use Rattle.std.proofs.Common.{◌≡◌, ◌+◌, ◌<◌, ◌++◌, [], ◌∷◌, length, get_or, take, drop, ap, sym, ◌∙◌, append_assoc, length-drop, arith}
use Rattle.std.proofs.lemmas.List.{take_more, get_or-drop}
use Rattle.tables.specs.Pools.{no_table}
use Rattle.tables.specs.Tables.{StoredTable}
use Rattle.tables.proofs.chunk.push_pooled.Goals as goal

pub loop-at-preserved : goal.loop-at-preserved
loop-at-preserved c =
    let rest = drop c.args.from c.args.pool.now.value in
    let within : c.loop-at.at < length rest = omega (arith, length-drop c.args.from c.args.pool.now.value) in
    c.in_ok-push_item.ensures.ok
    ∙ ap (λ ts. ts ++ c.in_ok-part.field-0 ∷ []) c.loop-at.invariant
    ∙ append_assoc c.args.list.now (take c.loop-at.at rest) (c.in_ok-part.field-0 ∷ [])
    ∙ ap (λ (t : StoredTable). c.args.list.now ++ (take c.loop-at.at rest ++ t ∷ [])) (c.in_ok-part.ensures ∙ sym (get_or-drop c.args.from c.args.pool.now.value c.loop-at.at no_table))
    ∙ ap (λ ts. c.args.list.now ++ ts) (sym (take_more rest c.loop-at.at no_table within))
