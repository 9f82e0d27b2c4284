-- Each schema inside another is smaller, so that going down into them ends.
use Rattle.std.specs.Prelude.{◌≡◌, ℕ, ◌+◌, ◌≤◌, List, [], ◌∷◌, refl}
use Rattle.std.proofs.Common.{arith}
use denote.Param.Weighed.{most}
use Rattle.mk_value.specs.Heading.{Attribute, heading_of, domain_weight, heading_weight, attributes_weight}
use Rattle.mk_value.specs.declared.schema.Kind.{Kind}
use Rattle.mk_value.specs.declared.schema.Kind.TheVariants.{I, L, S, B, V}
use Rattle.mk_value.specs.declared.schema.Prop.TheDeep.{deep-Prop, deep-Props, deep-Schema}
use Rattle.mk_value.specs.declared.schema.Prop.TheInside as prop
use Rattle.mk_value.specs.declared.schema.Props.TheInside as props
use Rattle.mk_value.specs.declared.schema.Schema.TheInside as schema
use Rattle.mk_value.specs.Kinds.{domain_of}

pub heading_weight-heading_of : (properties : List Attribute) → heading_weight (heading_of properties) ≡ attributes_weight properties
heading_weight-heading_of [] = refl
heading_weight-heading_of (a ∷ rest) = let e = heading_weight-heading_of rest in omega (arith, e)

most-weight : (properties : List Attribute) → most (λ a. domain_weight a.domain + 1) properties ≤ attributes_weight properties
most-weight [] = omega arith
most-weight (a ∷ rest) = omega (arith, most-weight rest)

prop_bound : (n : List ℕ) (k : Kind) → deep-Prop (record { name = n; kind = k }) ≤ domain_weight (domain_of k)
prop_bound n I = omega arith
prop_bound n L = omega arith
prop_bound n S = omega arith
prop_bound n B = omega arith
prop_bound n (V s) = omega (arith, heading_weight-heading_of s)

pub prop_falls : (a : prop.Inside) → deep-Prop a ≤ domain_weight (domain_of a.kind)
prop_falls a = prop_bound a.name a.kind

pub props_fall : (a : props.Inside) → deep-Props a ≤ attributes_weight a.items.items
props_fall a = omega (arith, most-weight a.items.items)

pub schema_falls : (a : schema.Inside) → deep-Schema a ≤ attributes_weight a.props + 1
schema_falls a = omega arith
