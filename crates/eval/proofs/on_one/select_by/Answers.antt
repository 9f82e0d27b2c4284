use Rattle.std.proofs.Common.{◌≡◌, List, [], ◌∷◌, map, All, refl, ap, sym, subst, ◌∙◌}
use Rattle.std.proofs.lemmas.List.Elements.{All-nil, All-cons}
use Rattle.mk_value.specs.Heading.{Attribute}
use Rattle.relations.specs.Criteria.{Interval, valued}
use Rattle.expr_text.specs.Arguments.{Criterion}
use Rattle.eval.specs.declared.literals.Asked.{Asked}
use Rattle.eval.specs.Literals.{interval_of}
use Rattle.eval.specs.Values.{asked}
use Rattle.eval.proofs.on_one.select_by.Goals as goal

-- what is asked for is the least and the greatest
equal : (schema : List Attribute) (list : List Criterion) → All (λ (c : Interval). c.low ≡ c.high) (map (valued schema) (map asked list))
equal schema [] = All-nil (λ (c : Interval). c.low ≡ c.high)
equal schema (c ∷ list) = All-cons (λ (c : Interval). c.low ≡ c.high) (valued schema (asked c)) (map (valued schema) (map asked list)) refl (equal schema list)

pub select-requires : goal.select-requires
select-requires g c = record {
  equal = subst (λ (values : List Interval). All (λ (v : Interval). v.low ≡ v.high) values)
      (ap (λ (list : List Interval). map (valued c.args.base.schema) list) (sym c.in_ok-items.ensures)
      ∙ sym (c.as_slice.ensures ∙ c.in_ok-values.ensures ∙ ap (λ (schema : List Attribute). map (valued schema) (map interval_of c.deref-2.result.now)) c.schema-2.ensures.value
      ∙ ap (λ (list : List Asked). map (valued c.args.base.schema) (map interval_of list)) c.deref-2.ensures.value))
      (equal c.args.base.schema c.args.criteria.now);
}
