-- How an expression is read: what is still to come is a list of goals, and each token moves it. That this is the grammar is proved.
use Rattle.std.specs.Prelude.{◌≡◌, ℕ, zero, suc, ◌^◌, ◌+◌, ℤ, pos, negsuc, Bool, true, false, ◌&&◌, ◌==◌, nat_lt, if◌then◌else◌, List, [], ◌∷◌, ◌++◌, length, slice_index, Option, Some, None}
use Rattle.std.specs.Char.{is_ascii_digit}
use Rattle.std.specs.List.{list_all}
use Rattle.std.specs.Str.{bytes_eq, is_utf8}
use Rattle.mk_value.specs.Limits.{max_name}
use Rattle.mk_value.specs.Names.{is_name_byte}
use Rattle.mk_value.specs.Tokens.{Token, word, number, text, bytes, sign}
use Rattle.tokens.specs.Cutting.{Piece}
use Rattle.tokens.specs.Literals.{max_braces}
use Rattle.expr_text.specs.Operators as forms
use Rattle.expr_text.specs.Operators.{Form, Takes, one_table, takes, two_tables, word_of}
use Rattle.expr_text.specs.declared.error.ExprError.{ExprError}
use Rattle.expr_text.specs.declared.error.ExprError.TheVariants.{Syntax, TooDeep}
use Rattle.expr_text.specs.declared.list.Item.{Item}
use Rattle.expr_text.specs.declared.list.Item.TheVariants as items
use Rattle.expr_text.specs.declared.operator.Operator.{Operator}
use Rattle.expr_text.specs.declared.operator.Operator.TheVariants.{Select, Range, Sort, Project, Without, Rename, Slice, Concat, Pair, Product, Unique, Union, Intersect, Minus, Different, GroupBy, Counts, Join, OuterJoin, JoinProp, OuterJoinProp, Calc, Keep}

-- What is still to come: a sign; a name; a number without a sign, and any; an expression with at most so many operators inside one another; a path
-- and its further steps; a literal with braces at most so deep and its parts; a key to sort by; the further members of a list and its end. In a line
-- stand also a word of its own; a selection, a range or a sorting of what a name stands for; and, up to its end, any number of literals, the further
-- criteria, or a text of at most so many bytes, which may be left out.
pub data Goal : Type 0 where
  a_sign : ℕ → Goal
  a_name : Goal
  a_count : Goal
  a_number : Goal
  a_query : ℕ → Goal
  a_path : Goal
  steps : Goal
  a_literal : ℕ → Goal
  rows : ℕ → Goal
  after_row : ℕ → Goal
  a_row : ℕ → Goal
  after_value : ℕ → Goal
  a_key : Goal
  more : Item → Goal
  a_word : List ℕ → Goal
  values : Goal
  more_criteria : Goal
  a_text : ℕ → Goal
  an_operation : Goal

-- a token moves the first goal: it cannot, it opens too deep, it meets the goal up to these, or the goal was met before it
pub data Move : Type 0 where
  wrong : Move
  deep : Move
  push : List Goal → Move
  pass : Move

-- the members of a list, and how it ends
abbrev pub member_goals : Item → List Goal
member_goals items.Criterion = a_name ∷ a_sign 61 ∷ a_literal max_braces ∷ []
member_goals items.Range = a_name ∷ a_sign 61 ∷ a_literal max_braces ∷ a_sign 58 ∷ a_literal max_braces ∷ []
member_goals items.Order = a_key ∷ []
member_goals items.Name = a_name ∷ []
member_goals items.Named = a_name ∷ []

abbrev pub end_sign : Item → ℕ
end_sign items.Criterion = 41
end_sign items.Range = 41
end_sign items.Order = 41
end_sign items.Name = 41
end_sign items.Named = 58

abbrev pub end_goals : Item → List Goal
end_goals items.Criterion = []
end_goals items.Range = []
end_goals items.Order = []
end_goals items.Name = []
end_goals items.Named = a_name ∷ a_sign 41 ∷ []

-- one member or more, each behind a comma, and the end
abbrev pub some_goals : Item → List Goal
some_goals item = a_sign 44 ∷ (member_goals item ++ (more item ∷ []))

-- one criterion or more, up to the end of a line
abbrev pub criteria_goals : List Goal
criteria_goals = member_goals items.Criterion ++ (more_criteria ∷ [])

-- what stands behind the tables of an operator, up to the closing parenthesis
abbrev pub form_goals : Form → List Goal
form_goals forms.nothing = a_sign 41 ∷ []
form_goals forms.criteria = some_goals items.Criterion
form_goals forms.bounds = some_goals items.Range
form_goals forms.orders = more items.Order ∷ []
form_goals forms.names = some_goals items.Name
form_goals forms.inner = a_sign 44 ∷ a_name ∷ a_sign 41 ∷ []
form_goals forms.renamed = a_sign 44 ∷ a_name ∷ a_sign 44 ∷ a_name ∷ a_sign 41 ∷ []
form_goals forms.rows = a_sign 44 ∷ a_count ∷ a_sign 44 ∷ a_count ∷ a_sign 44 ∷ a_number ∷ a_sign 41 ∷ []
form_goals forms.named = some_goals items.Named
form_goals forms.viewed = a_sign 44 ∷ a_name ∷ some_goals items.Name
form_goals forms.viewed_as = a_sign 44 ∷ a_name ∷ some_goals items.Named

-- what stands in the parentheses of an operator, whose tables have at most so many operators inside one another
abbrev pub table_goals : ℕ → Takes → List Goal
table_goals depth (one_table form) = a_query depth ∷ form_goals form
table_goals depth (two_tables form) = a_query depth ∷ a_sign 44 ∷ a_query depth ∷ form_goals form

abbrev pub operators : List Operator
operators =
    Select ∷ Range ∷ Sort ∷ Project ∷ Without ∷ Rename ∷ Slice ∷ Concat ∷ Pair ∷ Product ∷ Unique ∷ Union ∷ Intersect ∷ Minus ∷ Different ∷ GroupBy ∷ Counts ∷ Join ∷ OuterJoin
    ∷ JoinProp ∷ OuterJoinProp ∷ Calc ∷ Keep ∷ []

abbrev pub named_in : List Operator → List ℕ → Option Operator
named_in [] letters = None
named_in (o ∷ os) letters = if bytes_eq letters (word_of o) then Some o else named_in os letters

-- the operator of a word
unfoldable pub operator_named : List ℕ → Option Operator
operator_named letters = named_in operators letters

-- an expression begins with a word: behind that of an operator its tables, else the further steps of a path
abbrev pub opened : Option Operator → ℕ → Move
opened None depth = push (steps ∷ [])
opened (Some operator) zero = deep
opened (Some operator) (suc depth) = push (a_sign 40 ∷ table_goals depth (takes operator))

-- a word opens an operator where a parenthesis follows
abbrev pub begun : List ℕ → Bool → ℕ → Move
begun letters false depth = push (steps ∷ [])
begun letters true depth = opened (operator_named letters) depth

abbrev pub brace : ℕ → Move
brace zero = wrong
brace (suc depth) = push (rows depth ∷ [])

-- what is done with a name: a selection, a range or a sorting
abbrev pub operated : Option Operator → Move
operated (Some Select) = push (a_sign 40 ∷ a_name ∷ form_goals forms.criteria)
operated (Some Range) = push (a_sign 40 ∷ a_name ∷ form_goals forms.bounds)
operated (Some Sort) = push (a_sign 40 ∷ a_name ∷ form_goals forms.orders)
operated (Some Counts) = push (a_sign 40 ∷ a_name ∷ form_goals forms.named)
operated (Some Keep) = push (a_sign 40 ∷ a_name ∷ form_goals forms.viewed)
operated _ = wrong

-- the move of a goal at a token, which an opening parenthesis follows or not
abbrev pub moved : Goal → Token → Bool → Move
moved (a_sign s) (sign c) follows = if c == s then push [] else wrong
moved a_name (word letters) follows = push []
moved a_count (number (pos n)) follows = push []
moved a_number (number z) follows = push []
moved (a_query depth) (word letters) follows = begun letters follows depth
moved a_path (word letters) follows = push (steps ∷ [])
moved steps (sign c) follows = if c == 47 then push (a_count ∷ a_sign 47 ∷ a_name ∷ steps ∷ []) else pass
moved steps t follows = pass
moved (a_literal depth) (number z) follows = push []
moved (a_literal depth) (text content) follows = push []
moved (a_literal depth) (bytes content) follows = push []
moved (a_literal depth) (sign c) follows = if c == 123 then brace depth else wrong
moved (rows depth) (sign c) follows =
    if c == 125 then push [] else (if c == 40 then push (a_literal depth ∷ after_value depth ∷ after_row depth ∷ []) else wrong)
moved (after_row depth) (sign c) follows = if c == 125 then push [] else (if c == 44 then push (a_row depth ∷ after_row depth ∷ []) else wrong)
moved (a_row depth) (sign c) follows = if c == 40 then push (a_literal depth ∷ after_value depth ∷ []) else wrong
moved (after_value depth) (sign c) follows = if c == 41 then push [] else (if c == 44 then push (a_literal depth ∷ after_value depth ∷ []) else wrong)
moved a_key (word letters) follows = push []
moved a_key (sign c) follows = if c == 45 then push (a_name ∷ []) else wrong
moved (more item) (sign c) follows =
    if c == 44 then push (member_goals item ++ (more item ∷ [])) else (if c == end_sign item then push (end_goals item) else wrong)
moved (a_word letters) (word other) follows = if bytes_eq other letters then push [] else wrong
moved values (number z) follows = push (values ∷ [])
moved values (text content) follows = push (values ∷ [])
moved values (bytes content) follows = push (values ∷ [])
moved values (sign c) follows = if c == 123 then push (rows 7 ∷ values ∷ []) else wrong
moved more_criteria (sign c) follows = if c == 44 then push (member_goals items.Criterion ++ (more_criteria ∷ [])) else wrong
moved (a_text most) (text content) follows = if nat_lt (length content) (suc most) then push [] else wrong
moved an_operation (word letters) follows = operated (operator_named letters)
moved _ _ follows = wrong

-- what a token makes of the goals
pub data Next : Type 0 where
  stops : Next
  deepens : Next
  goes : List Goal → Next

abbrev pub followed : Move → List Goal → Next → Next
followed wrong goals passed = stops
followed deep goals passed = deepens
followed (push new) goals passed = goes (new ++ goals)
followed pass goals passed = passed

abbrev pub step : List Goal → Token → Bool → Next
step [] t follows = stops
step (g ∷ goals) t follows = followed (moved g t follows) goals (step goals t follows)

-- the token is one that a text may hold
abbrev pub is_name : List ℕ → Bool
is_name letters =
    nat_lt 0 (length letters)
    && (nat_lt (length letters) (max_name + 1) && (list_all is_name_byte letters && (if is_ascii_digit (slice_index letters 0) then false else true)))

abbrev pub is_long : ℤ → Bool
is_long (pos n) = nat_lt n (2 ^ 63)
is_long (negsuc n) = nat_lt n (2 ^ 63)

unfoldable pub is_held : Token → Bool
is_held (word letters) = is_name letters
is_held (number z) = is_long z
is_held (text content) = is_utf8 content && list_all (λ b. if b == 0 then false else true) content
is_held (bytes content) = list_all (λ b. nat_lt b 256) content
is_held (sign c) = true

-- an opening parenthesis comes first
abbrev pub is_opening : Token → Bool
is_opening (sign c) = c == 40
is_opening t = false

abbrev pub opens : List Piece → Bool
opens [] = false
opens (p ∷ pieces) = is_opening p.token

-- the goals that nothing need meet at the end of a text are met
abbrev pub are_met : List Goal → Bool
are_met [] = true
are_met (steps ∷ goals) = are_met goals
are_met (values ∷ goals) = are_met goals
are_met (more_criteria ∷ goals) = are_met goals
are_met (a_text most ∷ goals) = are_met goals
are_met _ = false

-- what is left of a text to read: pieces, and the length of the text
pub record Rest : Type 0 where
  pub pieces : List Piece
  pub end : ℕ

-- the first offence of the rest against the goals, if it has one
abbrev pub ran : Bool → Next → ℕ → (List Goal → Option ExprError) → Option ExprError
ran false next place on = Some (Syntax place)
ran true stops place on = Some (Syntax place)
ran true deepens place on = Some (TooDeep place)
ran true (goes goals) place on = on goals

unfoldable pub run : List Piece → ℕ → List Goal → Option ExprError
run [] end goals = if are_met goals then None else Some (Syntax end)
run (p ∷ pieces) end goals = ran (is_held p.token) (step goals p.token (opens pieces)) p.place (λ further. run pieces end further)

abbrev pub offence_of : Rest → List Goal → Option ExprError
offence_of rest goals = run rest.pieces rest.end goals
