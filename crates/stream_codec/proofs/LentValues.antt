-- What is spelled of a value that is lent, and how much smaller the rows inside it are.
use Rattle.std.proofs.Common.{◌≡◌, ℕ, ◌+◌, ◌≤◌, ◌<◌, List, [], length, get_or, pos, ap, arith, Bor}
use Rattle.mk_value.specs.Data.{Datum, integer, long, text, bytes, relation, rows_of, cell, IsOf, AreRowsOf, datum_weight, rows_weight}
use Rattle.mk_value.specs.Heading.{Attribute, Domain}
use Rattle.mk_value.specs.Lending.{Lends}
use Rattle.mk_value.specs.Limits.{max_bytes}
use Rattle.mk_value.specs.declared.table.Lent.TheVariants.{S, B, V}
use Rattle.mk_value.proofs.Cells.{row_length}
use Rattle.mk_value.proofs.Converting.{relation_of-rows_of}
use Rattle.mk_value.proofs.Relations.{relation_weight-relation_of, row_weight_read, rows_weight_read}
use Rattle.mk_value.proofs.Walks.{same_default}
use Rattle.tables.specs.Homes.{rows_in}
use Rattle.tables.specs.Read.{IsViewDomain}
use Rattle.stream_codec.specs.Stream.{spelled_rows, spelled_value}

-- the rows inside are spelled as the value is
pub rows_lent : (n : ℕ) (d : Datum) → Lends (V n) d → spelled_rows (rows_in d) ≡ spelled_value d
rows_lent n (relation r) lent = ap (λ s. spelled_value (relation s)) (relation_of-rows_of r)
rows_lent n (integer z) lent = absurd lent
rows_lent n (long z) lent = absurd lent
rows_lent n (text content) lent = absurd lent
rows_lent n (bytes content) lent = absurd lent

-- ---- what is lent of a value of a domain

pub text_lent_short : (b : Bor (List ℕ)) (d : Datum) (e : Domain) → Lends (S b) d → IsOf d e → length b.now ≤ max_bytes
text_lent_short b (text content) Domain.text lent of = let long = ap length lent in let short = of.1 in omega (arith, long, short)
text_lent_short b (text content) e lent of = absurd of
text_lent_short b (integer z) e lent of = absurd lent
text_lent_short b (long z) e lent of = absurd lent
text_lent_short b (bytes content) e lent of = absurd lent
text_lent_short b (relation r) e lent of = absurd lent

pub bytes_lent_short : (b : Bor (List ℕ)) (d : Datum) (e : Domain) → Lends (B b) d → IsOf d e → length b.now ≤ max_bytes
bytes_lent_short b (bytes content) Domain.bytes lent of = let long = ap length lent in omega (arith, long, of)
bytes_lent_short b (bytes content) e lent of = absurd of
bytes_lent_short b (integer z) e lent of = absurd lent
bytes_lent_short b (long z) e lent of = absurd lent
bytes_lent_short b (text content) e lent of = absurd lent
bytes_lent_short b (relation r) e lent of = absurd lent

pub view_lent : (n : ℕ) (d : Datum) (e : Domain) → Lends (V n) d → IsOf d e → IsViewDomain e
view_lent n (relation r) (Domain.relation h) lent of = tt
view_lent n (relation r) e lent of = absurd of
view_lent n (integer z) e lent of = absurd lent
view_lent n (long z) e lent of = absurd lent
view_lent n (text content) e lent of = absurd lent
view_lent n (bytes content) e lent of = absurd lent

-- ---- the rows inside are fewer

rows_in_weight : (d : Datum) → rows_weight (rows_in d) ≤ datum_weight d
rows_in_weight (relation r) =
    let same = ap (λ s. datum_weight (relation s)) (relation_of-rows_of r) in
    let weight = relation_weight-relation_of (rows_of r) in omega (arith, same, weight)
rows_in_weight (integer z) = omega arith
rows_in_weight (long z) = omega arith
rows_in_weight (text content) = omega arith
rows_in_weight (bytes content) = omega arith

pub inner_lighter : (rows : List (List Datum)) (schema : List Attribute) (i j : ℕ) → AreRowsOf rows schema → i < length rows → j < length schema → rows_weight (rows_in (cell rows i j)) + 2 ≤ rows_weight rows
inner_lighter rows schema i j whole row_in col_in =
    let row = get_or rows i [] in
    let d = cell rows i j in
    let long = row_length rows schema i whole row_in in
    let within : j < length row = omega (arith, long, col_in) in
    let inside = rows_in_weight d in
    let value = row_weight_read row j d within (same_default row j (integer (pos 0)) d within) in
    let line = rows_weight_read rows i row row_in (same_default rows i [] row row_in) in
    omega (arith, inside, value, line)
