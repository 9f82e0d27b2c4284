-- Values of whole rows.
use Rattle.std.proofs.Common.{ℕ, ◌<◌, List, [], ◌∷◌, length, get_or, All, pos, sym, subst, arith}
use Rattle.std.proofs.lemmas.List.Elements.{All-head, All-tail, All-cons, All-nil}
use Rattle.mk_value.specs.Heading.{Domain, Attribute, attributes_of}
use Rattle.mk_value.specs.Data.{Datum, integer, long, text, bytes, relation, relation_of, rows_of, IsOf, IsRowOf, AreRowsOf}
use Rattle.mk_value.specs.Tables.{domain_at}
use Rattle.mk_value.proofs.Cells.{value_is_of}
use Rattle.mk_value.proofs.Converting.{relation_of-rows_of}
use Rattle.mk_value.proofs.Headings.{heading_of-attributes_of}
use Rattle.mk_value.proofs.Relations.{IsOf-relation}
use Rattle.tables.specs.Homes.{column_of, rows_in}
use Rattle.tables.specs.Tables.{inner_schema}

no_rows : (schema : List Attribute) → AreRowsOf [] schema
no_rows schema = record { few = omega arith; whole = All-nil (λ row. IsRowOf row schema) }

-- the rows in a value are of the schema inside its domain
pub rows_inside : (d : Datum) (e : Domain) → IsOf d e → AreRowsOf (rows_in d) (inner_schema e)
rows_inside (relation r) (Domain.relation h) whole =
    (IsOf-relation (rows_of r) (attributes_of h)).1
    (subst (λ g. IsOf (relation (relation_of (rows_of r))) (Domain.relation g)) (sym (heading_of-attributes_of h))
    (subst (λ s. IsOf (relation s) (Domain.relation h)) (sym (relation_of-rows_of r)) whole))
rows_inside (relation r) Domain.integer whole = absurd whole
rows_inside (relation r) Domain.long whole = absurd whole
rows_inside (relation r) Domain.text whole = absurd whole
rows_inside (relation r) Domain.bytes whole = absurd whole
rows_inside (integer z) e whole = no_rows (inner_schema e)
rows_inside (long z) e whole = no_rows (inner_schema e)
rows_inside (text content) e whole = no_rows (inner_schema e)
rows_inside (bytes content) e whole = no_rows (inner_schema e)

-- the values of a column of whole rows are of its domain
pub column_fits : (schema : List Attribute) (k : ℕ) → k < length schema → (rows : List (List Datum)) → All (λ r. IsRowOf r schema) rows → All (λ d. IsOf d (domain_at schema k)) (column_of rows k)
column_fits schema k p [] h = λ i d q. absurd (omega arith)
column_fits schema k p (r ∷ rows) h =
    All-cons (λ d. IsOf d (domain_at schema k)) (get_or r k (integer (pos 0))) (column_of rows k)
    (value_is_of r schema k (All-head (λ x. IsRowOf x schema) r rows h) p)
    (column_fits schema k p rows (All-tail (λ x. IsRowOf x schema) r rows h))
