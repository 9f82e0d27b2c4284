-- The definitions in the words of the rule.
use Rattle.std.proofs.Common.{◌≡◌, pos, cond, List, [], ◌∷◌, map, refl, ap}
use Rattle.mk_value.specs.Heading.{Domain, Attribute, find}
use Rattle.mk_value.specs.Data.{Datum, integer, long, text, bytes, relation, IsOf}
use Rattle.view_store.proofs.Fitting.{is_of_tells}
use Rattle.restructure.specs.Restructuring.{restructured_value, restructured_row, value_under}
use Rattle.restructure.proofs.Texts.{text_kept}

pub property_by_property : (old new : List Attribute) (row : List Datum) → restructured_row old new row ≡ map (λ a. value_under old (find old a.name) a.domain row) new
property_by_property old [] row = refl
property_by_property old (a ∷ new) row = ap (λ ds. value_under old (find old a.name) a.domain row ∷ ds) (property_by_property old new row)

-- a number of 32 bits
pub number_back : (d : Datum) → IsOf d Domain.integer → restructured_value Domain.long Domain.integer (restructured_value Domain.integer Domain.long d) ≡ d
number_back (integer z) h = ap (λ b. integer (cond b z (pos 0))) ((is_of_tells (integer z) Domain.integer).1 h)
number_back (long z) h = absurd h
number_back (text content) h = absurd h
number_back (bytes content) h = absurd h
number_back (relation r) h = absurd h

-- a text
pub text_back : (d : Datum) → IsOf d Domain.text → restructured_value Domain.bytes Domain.text (restructured_value Domain.text Domain.bytes d) ≡ d
text_back (integer z) h = absurd h
text_back (long z) h = absurd h
text_back (text content) h = ap text (text_kept content h.0)
text_back (bytes content) h = absurd h
text_back (relation r) h = absurd h
