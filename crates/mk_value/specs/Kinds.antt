-- What a kind of the program means.
use Rattle.mk_value.specs.Heading.{Domain, heading_of}
use Rattle.mk_value.specs.declared.schema.Kind.{Kind}
use Rattle.mk_value.specs.declared.schema.Kind.TheVariants.{I, L, S, B, V}

-- the domain of a kind
abbrev pub domain_of : Kind → Domain
domain_of I = Domain.integer
domain_of L = Domain.long
domain_of S = Domain.text
domain_of B = Domain.bytes
domain_of (V schema) = Domain.relation (heading_of schema)
