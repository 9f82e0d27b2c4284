-- What an expression of the program means.
use Rattle.expr_text.specs.Arguments.{nothing, criteria, bounds, orders, names, inner, renamed, rows, named, viewed, viewed_as}
use Rattle.expr_text.specs.Queries.{Query, path, one, two}
use Rattle.expr_text.specs.declared.expr.Expr.{Expr, Path, Select', Range', Sort', Project', Without', Rename', Slice', Concat', Pair', Product', Unique', Union', Intersect', Minus', Different', GroupBy', Counts', Join', OuterJoin', JoinProp', OuterJoinProp', Calc', Keep'}
use Rattle.expr_text.specs.declared.operator.Operator.TheVariants as operators

-- the plain expression
abbrev pub query_of : Expr → Query
query_of (Path route) = path route
query_of (Select' p e list) = one operators.Select (query_of e) (criteria list)
query_of (Range' p e list) = one operators.Range (query_of e) (bounds list)
query_of (Sort' p e list) = one operators.Sort (query_of e) (orders list)
query_of (Project' p e list) = one operators.Project (query_of e) (names list)
query_of (Without' p e list) = one operators.Without (query_of e) (names list)
query_of (Rename' p e name new) = one operators.Rename (query_of e) (renamed name new)
query_of (Slice' p e first limit step) = one operators.Slice (query_of e) (rows first limit step)
query_of (Concat' p e q f) = two operators.Concat (query_of e) (query_of f) nothing
query_of (Pair' p e q f) = two operators.Pair (query_of e) (query_of f) nothing
query_of (Product' p e q f) = two operators.Product (query_of e) (query_of f) nothing
query_of (Unique' p e) = one operators.Unique (query_of e) nothing
query_of (Union' p e q f) = two operators.Union (query_of e) (query_of f) nothing
query_of (Intersect' p e q f) = two operators.Intersect (query_of e) (query_of f) nothing
query_of (Minus' p e q f) = two operators.Minus (query_of e) (query_of f) nothing
query_of (Different' p e q f) = two operators.Different (query_of e) (query_of f) nothing
query_of (GroupBy' p e list name) = one operators.GroupBy (query_of e) (named list name)
query_of (Counts' p e list name) = one operators.Counts (query_of e) (named list name)
query_of (Join' p e q f list) = two operators.Join (query_of e) (query_of f) (names list)
query_of (OuterJoin' p e q f list) = two operators.OuterJoin (query_of e) (query_of f) (names list)
query_of (JoinProp' p e name) = one operators.JoinProp (query_of e) (inner name)
query_of (OuterJoinProp' p e name) = one operators.OuterJoinProp (query_of e) (inner name)
query_of (Calc' p e viewer list name) = one operators.Calc (query_of e) (viewed_as viewer list name)
query_of (Keep' p e viewer list) = one operators.Keep (query_of e) (viewed viewer list)
