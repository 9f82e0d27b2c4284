-- The parser's own walk over a text, from the left. What it finds is proved to be what the grammar and the offences say;
-- private contracts speak of it, and nobody else has to.
use Rattle.std.specs.Prelude.{ℕ, Bool, cond, ◌||◌, ◌==◌, List, [], ◌∷◌, ◌++◌}
use Rattle.mk_value.specs.Names.{is_name_byte}
use Rattle.struct_text.specs.Bytes.{open_bracket, close_bracket, colon, comma, is_name_start, is_plain_letter, is_floating_letter}

-- for each bracket that is open, the innermost first, the names of its properties so far
abbrev pub Brackets : Type 0
Brackets = List (List (List ℕ))

-- What may come next.
pub data State : Type 0 where
  -- a name begins
  name_start : Brackets → State
  -- a name goes on or ends; its bytes so far
  in_name : List ℕ → Brackets → State
  -- the letter of a kind
  kind : Brackets → State
  -- a comma or a closing bracket, or, with no bracket open, the end
  after : Brackets → State
  -- nothing
  stuck : State

-- the name is that of a property of the innermost bracket; with no bracket open it is that of the view
abbrev pub named : List ℕ → Brackets → Brackets
named name [] = []
named name (names ∷ outer) = (names ++ name ∷ []) ∷ outer

abbrev pub behind_colon : List ℕ → Brackets → State
behind_colon name [] = stuck
behind_colon name (names ∷ outer) = kind ((names ++ name ∷ []) ∷ outer)

abbrev pub is_letter : ℕ → Bool
is_letter b = is_plain_letter b || is_floating_letter b

abbrev pub step : State → ℕ → State
step (name_start brackets) b = cond (is_name_start b) (in_name (b ∷ []) brackets) stuck
step (in_name name brackets) b =
    cond (is_name_byte b) (in_name (name ++ b ∷ []) brackets) (cond (b == open_bracket) (name_start ([] ∷ named name brackets)) (cond (b == colon) (behind_colon name brackets) stuck))
step (kind brackets) b = cond (is_letter b) (after brackets) stuck
step (after []) b = stuck
step (after (names ∷ outer)) b = cond (b == comma) (name_start (names ∷ outer)) (cond (b == close_bracket) (after outer) stuck)
step stuck b = stuck

abbrev pub walk : State → List ℕ → State
walk s [] = s
walk s (b ∷ bs) = walk (step s b) bs

abbrev pub start : State
start = name_start []
