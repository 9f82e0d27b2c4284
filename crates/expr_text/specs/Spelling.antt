-- The one spelling of an expression.
use Rattle.std.specs.Prelude.{ℕ, ℤ, pos, Bool, if◌then◌else◌, List, [], ◌∷◌, ◌++◌}
use Rattle.std.specs.List.{flat_map}
use Rattle.mk_value.specs.Literals as literals
use Rattle.mk_value.specs.Literals.{spelled}
use Rattle.mk_value.specs.Tokens.{Token, word, number, sign}
use Rattle.tokens.specs.Paths.{path_tokens}
use Rattle.expr_text.specs.Arguments.{Criterion, Range, Tail, nothing, criteria, bounds, orders, names, inner, renamed, rows, named, viewed, viewed_as}
use Rattle.expr_text.specs.Operators.{word_of}
use Rattle.expr_text.specs.Queries.{Query, path, one, two}
use Rattle.expr_text.specs.declared.expr.Order.{Order}

-- the signs: ( ) , : = -
abbrev pub opening : Token
opening = sign 40

abbrev pub closing : Token
closing = sign 41

abbrev pub comma : Token
comma = sign 44

abbrev pub colon : Token
colon = sign 58

abbrev pub equals : Token
equals = sign 61

abbrev pub minus : Token
minus = sign 45

abbrev pub count : ℕ → Token
count n = number (pos n)

-- `PROP=LITERAL`
abbrev pub criterion_tokens : Criterion → List Token
criterion_tokens c = word c.prop ∷ equals ∷ literals.tokens_of c.value

-- `PROP=LITERAL:LITERAL`
abbrev pub range_tokens : Range → List Token
range_tokens r = word r.prop ∷ equals ∷ (literals.tokens_of r.low ++ (colon ∷ literals.tokens_of r.high))

-- `PROP` or `-PROP`
abbrev pub order_tokens : Order → List Token
order_tokens o = if o.down then minus ∷ word o.prop ∷ [] else word o.prop ∷ []

-- each behind a comma
abbrev pub listed : {A : Type 0} → (A → List Token) → List A → List Token
listed tokens list = flat_map (λ x. comma ∷ tokens x) list

abbrev pub names_tokens : List (List ℕ) → List Token
names_tokens list = listed (λ name. word name ∷ []) list

-- what stands behind the tables of an operator
abbrev pub tail_tokens : Tail → List Token
tail_tokens nothing = []
tail_tokens (criteria list) = listed criterion_tokens list
tail_tokens (bounds list) = listed range_tokens list
tail_tokens (orders list) = listed order_tokens list
tail_tokens (names list) = names_tokens list
tail_tokens (inner name) = comma ∷ word name ∷ []
tail_tokens (renamed name new) = comma ∷ word name ∷ comma ∷ word new ∷ []
tail_tokens (rows first limit step) = comma ∷ count first ∷ comma ∷ count limit ∷ comma ∷ number step ∷ []
tail_tokens (named list name) = names_tokens list ++ (colon ∷ word name ∷ [])
tail_tokens (viewed viewer list) = comma ∷ word viewer ∷ names_tokens list
tail_tokens (viewed_as viewer list name) = comma ∷ word viewer ∷ (names_tokens list ++ (colon ∷ word name ∷ []))

-- a path; or the word of an operator and, in parentheses, its tables joined by a comma, and what stands behind them
abbrev pub tokens_of : Query → List Token
tokens_of (path route) = path_tokens route
tokens_of (one operator q tail) = word (word_of operator) ∷ opening ∷ (tokens_of q ++ (tail_tokens tail ++ (closing ∷ [])))
tokens_of (two operator p q tail) =
    word (word_of operator) ∷ opening ∷ (tokens_of p ++ (comma ∷ (tokens_of q ++ (tail_tokens tail ++ (closing ∷ [])))))

-- the text without spaces
abbrev pub query_text : Query → List ℕ
query_text q = spelled (tokens_of q)
