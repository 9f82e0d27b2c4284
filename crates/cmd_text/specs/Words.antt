-- The table of commands: the word that each begins with, and what stands behind it.
use Rattle.std.specs.Prelude.{ℕ, Bool, true, false, List, [], ◌∷◌, codes}
use Rattle.cmd_text.specs.declared.verb.Verb.{Verb}
use Rattle.cmd_text.specs.declared.verb.Verb.TheVariants.{Drop, Struct, Add, Insert, Set, Remove, Size, Show, Find, Search, Locate, Dup, Undup, Watch, Unwatch, Hash, Ordered, Unmap, Cursor, Uncursor, Next, Prev, Row, Commit, Log, Rollback, Reopen, Revert, Space, Quit}

-- a part: a name, a number without a sign, a path, a literal, an expression, or an operation on what a name stands for
pub data Part : Type 0 where
  a_name : Part
  a_count : Part
  a_path : Part
  a_literal : Part
  an_expression : Part
  an_operation : Part

-- what may stand last: nothing, any number of literals, one criterion or more, or a note, which may be left out
pub data Ending : Type 0 where
  no_more : Ending
  some_values : Ending
  some_criteria : Ending
  a_note : Ending

-- parts in order, and what stands last
pub record Form : Type 0 where
  pub parts : List Part
  pub ending : Ending

abbrev pub parts_and : List Part → Ending → Form
parts_and parts ending = record { parts = parts; ending = ending }

abbrev pub word_of : Verb → List ℕ
word_of Drop = codes "drop"
word_of Struct = codes "struct"
word_of Add = codes "add"
word_of Insert = codes "insert"
word_of Set = codes "set"
word_of Remove = codes "remove"
word_of Size = codes "size"
word_of Show = codes "show"
word_of Find = codes "find"
word_of Search = codes "search"
word_of Locate = codes "locate"
word_of Dup = codes "dup"
word_of Undup = codes "undup"
word_of Watch = codes "watch"
word_of Unwatch = codes "unwatch"
word_of Hash = codes "hash"
word_of Ordered = codes "ordered"
word_of Unmap = codes "unmap"
word_of Cursor = codes "cursor"
word_of Uncursor = codes "uncursor"
word_of Next = codes "next"
word_of Prev = codes "prev"
word_of Row = codes "row"
word_of Commit = codes "commit"
word_of Log = codes "log"
word_of Rollback = codes "rollback"
word_of Reopen = codes "reopen"
word_of Revert = codes "revert"
word_of Space = codes "space"
word_of Quit = codes "quit"

abbrev pub form_of : Verb → Form
form_of Drop = parts_and (a_name ∷ []) no_more
form_of Struct = parts_and [] no_more
form_of Add = parts_and (a_path ∷ []) some_values
form_of Insert = parts_and (a_path ∷ a_count ∷ a_count ∷ []) some_values
form_of Set = parts_and (a_path ∷ a_count ∷ a_name ∷ a_literal ∷ []) no_more
form_of Remove = parts_and (a_path ∷ a_count ∷ a_count ∷ []) no_more
form_of Size = parts_and (an_expression ∷ []) no_more
form_of Show = parts_and (an_expression ∷ []) no_more
form_of Find = parts_and (an_expression ∷ a_count ∷ []) some_criteria
form_of Search = parts_and (an_expression ∷ []) some_criteria
form_of Locate = parts_and (an_expression ∷ []) some_criteria
form_of Dup = parts_and (a_name ∷ an_expression ∷ []) no_more
form_of Undup = parts_and (a_name ∷ []) no_more
form_of Watch = parts_and (a_name ∷ an_operation ∷ []) no_more
form_of Unwatch = parts_and (a_name ∷ []) no_more
form_of Hash = parts_and (a_name ∷ a_count ∷ []) no_more
form_of Ordered = parts_and (a_name ∷ a_count ∷ []) no_more
form_of Unmap = parts_and (a_name ∷ []) no_more
form_of Cursor = parts_and (a_name ∷ a_name ∷ []) no_more
form_of Uncursor = parts_and (a_name ∷ []) no_more
form_of Next = parts_and (a_name ∷ []) no_more
form_of Prev = parts_and (a_name ∷ []) no_more
form_of Row = parts_and (a_name ∷ []) no_more
form_of Commit = parts_and [] a_note
form_of Log = parts_and [] no_more
form_of Rollback = parts_and [] no_more
form_of Reopen = parts_and [] no_more
form_of Revert = parts_and [] no_more
form_of Space = parts_and [] no_more
form_of Quit = parts_and [] no_more

-- each of these words is known
abbrev pub is_known : Verb → Bool
is_known verb = true
