-- What stands in an expression behind its tables.
use Rattle.std.specs.Prelude.{◌≡◌, ◌≢◌, ℕ, ◌<◌, ◌^◌, ℤ, List, [], All, FitsSigned, refl}
use Rattle.std.specs.Coded.{Coded, code_by, coded_ℕ, coded_list, coded×}
use Rattle.std.specs.Int.{w64}
use Rattle.mk_value.specs.Data.{Datum}
use Rattle.mk_value.specs.DataCode.{datum_code}
use Rattle.mk_value.specs.Names.{IsName}
use Rattle.tokens.specs.Literals.{IsLiteral, max_braces}
use Rattle.expr_text.specs.declared.expr.Order.{Order}

-- a property, and the literal that is asked for
pub record Criterion : Type 0 where
  pub prop : List ℕ
  pub value : Datum

abbrev pub criterion_code : Coded Criterion
criterion_code =
    code_by (List ℕ × Datum) (coded× (coded_list coded_ℕ) datum_code) (λ c. (c.prop, c.value)) (λ p. record { prop = p.0; value = p.1 }) (λ _. refl)

-- a property, and the least and the greatest literal that are asked for
pub record Range : Type 0 where
  pub prop : List ℕ
  pub low : Datum
  pub high : Datum

abbrev pub range_code : Coded Range
range_code =
    code_by (List ℕ × (Datum × Datum)) (coded× (coded_list coded_ℕ) (coded× datum_code datum_code))
    (λ r. (r.prop, (r.low, r.high))) (λ p. record { prop = p.0; low = p.1.0; high = p.1.1 }) (λ _. refl)

-- What stands behind the tables of an operator: nothing; criteria; bounds; properties to sort by, or none; names; the name of an inner view; a
-- name and another for it; the first row, the limit and the step; names and one for what is new; a viewer and names; both of these.
pub data Tail : Type 0 where
  nothing : Tail
  criteria : List Criterion → Tail
  bounds : List Range → Tail
  orders : List Order → Tail
  names : List (List ℕ) → Tail
  inner : List ℕ → Tail
  renamed : List ℕ → List ℕ → Tail
  rows : ℕ → ℕ → ℤ → Tail
  named : List (List ℕ) → List ℕ → Tail
  viewed : List ℕ → List (List ℕ) → Tail
  viewed_as : List ℕ → List (List ℕ) → List ℕ → Tail

abbrev pub IsCriterion : Criterion → Type 0
IsCriterion c = IsName c.prop × IsLiteral max_braces c.value

abbrev pub IsRange : Range → Type 0
IsRange r = IsName r.prop × (IsLiteral max_braces r.low × IsLiteral max_braces r.high)

abbrev pub IsOrder : Order → Type 0
IsOrder o = IsName o.prop

-- one or more names
pub record AreNames (names : List (List ℕ)) : Type 0 where
  pub some : names ≢ []
  pub whole : All (λ name. IsName name) names

-- a number without a sign, of 63 bits
abbrev pub IsCount : ℕ → Type 0
IsCount n = n < 2 ^ 63

-- What stands there is what a text may hold. Each list but that of a sorting has a member.
abbrev pub IsTail : Tail → Type 0
IsTail nothing = Unit {0}
IsTail (criteria list) = (list ≢ []) × All IsCriterion list
IsTail (bounds list) = (list ≢ []) × All IsRange list
IsTail (orders list) = All IsOrder list
IsTail (names list) = AreNames list
IsTail (inner name) = IsName name
IsTail (renamed name new) = IsName name × IsName new
IsTail (rows first limit step) = IsCount first × (IsCount limit × FitsSigned w64 step)
IsTail (named list name) = AreNames list × IsName name
IsTail (viewed viewer list) = IsName viewer × AreNames list
IsTail (viewed_as viewer list name) = IsName viewer × (AreNames list × IsName name)
