-- The operators: their words, and what each takes.
use Rattle.std.specs.Prelude.{ℕ, List, codes}
use Rattle.expr_text.specs.Arguments as arguments
use Rattle.expr_text.specs.Arguments.{Tail}
use Rattle.expr_text.specs.declared.operator.Operator.{Operator}
use Rattle.expr_text.specs.declared.operator.Operator.TheVariants.{Select, Range, Sort, Project, Without, Rename, Slice, Concat, Pair, Product, Unique, Union, Intersect, Minus, Different, GroupBy, Counts, Join, OuterJoin, JoinProp, OuterJoinProp, Calc, Keep}

abbrev pub word_of : Operator → List ℕ
word_of Select = codes "select"
word_of Range = codes "range"
word_of Sort = codes "sort"
word_of Project = codes "project"
word_of Without = codes "without"
word_of Rename = codes "rename"
word_of Slice = codes "slice"
word_of Concat = codes "concat"
word_of Pair = codes "pair"
word_of Product = codes "product"
word_of Unique = codes "unique"
word_of Union = codes "union"
word_of Intersect = codes "intersect"
word_of Minus = codes "minus"
word_of Different = codes "different"
word_of GroupBy = codes "groupby"
word_of Counts = codes "counts"
word_of Join = codes "join"
word_of OuterJoin = codes "outerjoin"
word_of JoinProp = codes "joinprop"
word_of OuterJoinProp = codes "outerjoinprop"
word_of Calc = codes "calc"
word_of Keep = codes "keep"

-- the forms of what stands behind the tables
pub data Form : Type 0 where
  nothing : Form
  criteria : Form
  bounds : Form
  orders : Form
  names : Form
  inner : Form
  renamed : Form
  rows : Form
  named : Form
  viewed : Form
  viewed_as : Form

abbrev pub form_of : Tail → Form
form_of arguments.nothing = nothing
form_of (arguments.criteria list) = criteria
form_of (arguments.bounds list) = bounds
form_of (arguments.orders list) = orders
form_of (arguments.names list) = names
form_of (arguments.inner name) = inner
form_of (arguments.renamed name new) = renamed
form_of (arguments.rows first limit step) = rows
form_of (arguments.named list name) = named
form_of (arguments.viewed viewer list) = viewed
form_of (arguments.viewed_as viewer list name) = viewed_as

-- an operator takes one table or two, and behind them a form
pub data Takes : Type 0 where
  one_table : Form → Takes
  two_tables : Form → Takes

abbrev pub takes : Operator → Takes
takes Select = one_table criteria
takes Range = one_table bounds
takes Sort = one_table orders
takes Project = one_table names
takes Without = one_table names
takes Rename = one_table renamed
takes Slice = one_table rows
takes Concat = two_tables nothing
takes Pair = two_tables nothing
takes Product = two_tables nothing
takes Unique = one_table nothing
takes Union = two_tables nothing
takes Intersect = two_tables nothing
takes Minus = two_tables nothing
takes Different = two_tables nothing
takes GroupBy = one_table named
takes Counts = one_table named
takes Join = two_tables names
takes OuterJoin = two_tables names
takes JoinProp = one_table inner
takes OuterJoinProp = one_table inner
takes Calc = one_table viewed_as
takes Keep = one_table viewed
