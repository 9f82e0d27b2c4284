-- Values that may be compared.
use Rattle.mk_value.specs.Heading.{Domain}
use Rattle.mk_value.specs.Data.{Datum, IsOf}
use Rattle.mk_value.specs.Tables.{IsPlainDomain, IsComparable}

-- a value that fits a domain which is no view may be compared with those of the domain
pub comparable : (d : Datum) (e : Domain) → IsOf d e → IsPlainDomain e → IsComparable d e
comparable (Datum.integer z) Domain.integer h p = tt
comparable (Datum.long z) Domain.long h p = tt
comparable (Datum.text content) Domain.text h p = tt
comparable (Datum.bytes content) Domain.bytes h p = tt
comparable (Datum.relation r) (Domain.relation t) h p = absurd p
comparable (Datum.integer z) Domain.long h p = absurd h
comparable (Datum.integer z) Domain.text h p = absurd h
comparable (Datum.integer z) Domain.bytes h p = absurd h
comparable (Datum.integer z) (Domain.relation t) h p = absurd h
comparable (Datum.long z) Domain.integer h p = absurd h
comparable (Datum.long z) Domain.text h p = absurd h
comparable (Datum.long z) Domain.bytes h p = absurd h
comparable (Datum.long z) (Domain.relation t) h p = absurd h
comparable (Datum.text content) Domain.integer h p = absurd h
comparable (Datum.text content) Domain.long h p = absurd h
comparable (Datum.text content) Domain.bytes h p = absurd h
comparable (Datum.text content) (Domain.relation t) h p = absurd h
comparable (Datum.bytes content) Domain.integer h p = absurd h
comparable (Datum.bytes content) Domain.long h p = absurd h
comparable (Datum.bytes content) Domain.text h p = absurd h
comparable (Datum.bytes content) (Domain.relation t) h p = absurd h
comparable (Datum.relation r) Domain.integer h p = absurd h
comparable (Datum.relation r) Domain.long h p = absurd h
comparable (Datum.relation r) Domain.text h p = absurd h
comparable (Datum.relation r) Domain.bytes h p = absurd h
