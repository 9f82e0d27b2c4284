-- Going over tokens alone: what spells a goal meets it.
use Rattle.std.proofs.Common.{◌≡◌, ◌≢◌, ℕ, zero, suc, pos, ◌+◌, ◌-◌, ◌<◌, ◌^◌, ◌==◌, Bool, true, false, List, [], ◌∷◌, ◌++◌, All, Some, refl, sym, ap, subst, ◌∙◌, append_assoc, append-nil, arith, if◌then◌else◌}
use Rattle.std.proofs.lemmas.List.Elements.{All-head, All-tail}
use Rattle.std.specs.List.{flat_map}
use Rattle.mk_value.specs.Data.{Datum, integer, long, relation, Tuple, no_values, value, Relation, no_tuples, tuple}
use Rattle.mk_value.specs.Data as data_
use Rattle.mk_value.specs.Literals as literals
use Rattle.mk_value.specs.Literals.{more_rows, more_values, row_tokens, rows_tokens}
use Rattle.mk_value.specs.Names.{IsName}
use Rattle.mk_value.specs.Paths.{Route}
use Rattle.mk_value.specs.Tokens.{Token, word, number, text, bytes, sign}
use Rattle.mk_value.specs.declared.path.Step.{Step}
use Rattle.tokens.specs.Literals.{AreLiteralRows, AreLiterals, IsLiteral, IsLiteralRow, max_braces}
use Rattle.tokens.specs.Paths.{IsPath, IsStep, path_tokens, step_tokens}
use Rattle.expr_text.specs.Arguments as arguments
use Rattle.expr_text.specs.Arguments.{AreNames, Criterion, IsCriterion, IsOrder, IsRange, IsTail, Range, Tail}
use Rattle.expr_text.specs.Operators.{form_of, one_table, takes, two_tables, word_of}
use Rattle.expr_text.specs.Queries as queries
use Rattle.expr_text.specs.Queries.{IsQuery, Query}
use Rattle.expr_text.specs.Spelling.{criterion_tokens, listed, names_tokens, order_tokens, range_tokens, tail_tokens, tokens_of}
use Rattle.expr_text.specs.Walk.{Goal, Next, a_count, a_key, a_literal, a_name, a_number, a_path, a_query, a_row, a_sign, a_text, a_word, after_row, after_value, an_operation, are_met, deepens, end_goals, end_sign, followed, form_goals, goes, is_held, is_opening, member_goals, more, more_criteria, moved, opened, operated, pass, push, rows, some_goals, step, steps, stops, table_goals, values, wrong}
use Rattle.expr_text.specs.declared.expr.Order.{Order}
use Rattle.expr_text.specs.declared.list.Item.{Item}
use Rattle.expr_text.specs.declared.list.Item.TheVariants as items
use Rattle.expr_text.specs.declared.operator.Operator.{Operator}
use Rattle.expr_text.proofs.Held.{held_bytes, held_count, held_number, held_sign, held_text, held_word}
use Rattle.expr_text.proofs.Running.{held_operator, list_ends, list_goes_on, operator_moves}

-- whether an opening parenthesis comes first, or what is known of what stands behind
abbrev pub opens_first : List Token → Bool → Bool
opens_first [] after = after
opens_first (t ∷ ts) after = is_opening t

abbrev pub walked : Bool → Next → (List Goal → Next) → Next
walked false n on = stops
walked true stops on = stops
walked true deepens on = deepens
walked true (goes goals) on = on goals

abbrev pub walk : List Token → Bool → List Goal → Next
walk [] after goals = goes goals
walk (t ∷ ts) after goals = walked (is_held t) (step goals t (opens_first ts after)) (λ further. walk ts after further)

pub walk-goes : (t : Token) (ts : List Token) (after : Bool) (goals further : List Goal) → is_held t ≡ true → step goals t (opens_first ts after) ≡ goes further → walk (t ∷ ts) after goals ≡ walk ts after further
walk-goes t ts after goals further held moves =
    ap (λ h. walked h (step goals t (opens_first ts after)) (λ g. walk ts after g)) held ∙ ap (λ n. walked true n (λ g. walk ts after g)) moves

-- a token moves the first goal
pub walk_first : (t : Token) (ts : List Token) (after : Bool) (g : Goal) (new others : List Goal) → is_held t ≡ true → moved g t (opens_first ts after) ≡ push new → walk (t ∷ ts) after (g ∷ others) ≡ walk ts after (new ++ others)
walk_first t ts after g new others held moves = walk-goes t ts after (g ∷ others) (new ++ others) held (ap (λ m. followed m others (step others t (opens_first ts after))) moves)

pub walk_sign : (s : ℕ) (ts : List Token) (after : Bool) (g : Goal) (new others : List Goal) → moved g (sign s) (opens_first ts after) ≡ push new → walk (sign s ∷ ts) after (g ∷ others) ≡ walk ts after (new ++ others)
walk_sign s ts after g new others moves = walk_first (sign s) ts after g new others (held_sign s) moves

pub walk_word : (letters : List ℕ) (ts : List Token) (after : Bool) (others : List Goal) → IsName letters → walk (word letters ∷ ts) after (a_name ∷ others) ≡ walk ts after others
walk_word letters ts after others named = walk_first (word letters) ts after a_name [] others (held_word letters named) refl

-- the tokens in another order of brackets
pub along : (xs ys : List Token) (after : Bool) (goals : List Goal) → xs ≡ ys → walk xs after goals ≡ walk ys after goals
along xs ys after goals e = ap (λ ts. walk ts after goals) e

-- literals
as_row : (t : Tuple) (deep : ℕ) → IsLiteralRow deep t → (rest : List Token) (after : Bool) (others : List Goal)
    → walk (row_tokens t ++ rest) after (rows deep ∷ others) ≡ walk (row_tokens t ++ rest) after (a_row deep ∷ after_row deep ∷ others)
as_row no_values deep whole rest after others = absurd whole
as_row (value d vs) deep whole rest after others =
    let behind = (literals.tokens_of d ++ (more_values vs ++ (sign 41 ∷ []))) ++ rest in
    walk_sign 40 behind after (rows deep) (a_literal deep ∷ after_value deep ∷ after_row deep ∷ []) others refl
    ∙ sym (walk_sign 40 behind after (a_row deep) (a_literal deep ∷ after_value deep ∷ []) (after_row deep ∷ others) refl)

mutual
  pub literal_walks : (d : Datum) (deep : ℕ) → IsLiteral deep d → (rest : List Token) (after : Bool) (others : List Goal) → walk (literals.tokens_of d ++ rest) after (a_literal deep ∷ others) ≡ walk rest after others
  literal_walks (integer z) deep whole rest after others = absurd whole
  literal_walks (long z) deep whole rest after others = walk_first (number z) rest after (a_literal deep) [] others (held_number z whole) refl
  literal_walks (data_.text content) deep whole rest after others = walk_first (text content) rest after (a_literal deep) [] others (held_text content whole) refl
  literal_walks (data_.bytes content) deep whole rest after others = walk_first (bytes content) rest after (a_literal deep) [] others (held_bytes content whole) refl
  literal_walks (relation r) zero whole rest after others = absurd (omega (arith, whole.0))
  literal_walks (relation r) (suc deep) whole rest after others =
      let less : suc deep - 1 ≡ deep = omega arith in
      walk_sign 123 ((rows_tokens r ++ (sign 125 ∷ [])) ++ rest) after (a_literal (suc deep)) (rows deep ∷ []) others refl
      ∙ along _ _ after (rows deep ∷ others) (append_assoc (rows_tokens r) (sign 125 ∷ []) rest)
      ∙ rows_walk r deep (subst (λ d. AreLiteralRows d r) less whole.1) rest after others

  pub rows_walk : (r : Relation) (deep : ℕ) → AreLiteralRows deep r → (rest : List Token) (after : Bool) (others : List Goal) → walk (rows_tokens r ++ (sign 125 ∷ rest)) after (rows deep ∷ others) ≡ walk rest after others
  rows_walk no_tuples deep whole rest after others = walk_sign 125 rest after (rows deep) [] others refl
  rows_walk (tuple t r) deep whole rest after others =
      along _ _ after (rows deep ∷ others) (append_assoc (row_tokens t) (more_rows r) (sign 125 ∷ rest))
      ∙ as_row t deep whole.0 (more_rows r ++ (sign 125 ∷ rest)) after others
      ∙ row_walks t deep whole.0 (more_rows r ++ (sign 125 ∷ rest)) after (after_row deep ∷ others)
      ∙ more_rows_walk r deep whole.1 rest after others

  row_walks : (t : Tuple) (deep : ℕ) → IsLiteralRow deep t → (rest : List Token) (after : Bool) (others : List Goal) → walk (row_tokens t ++ rest) after (a_row deep ∷ others) ≡ walk rest after others
  row_walks no_values deep whole rest after others = absurd whole
  row_walks (value d vs) deep whole rest after others =
      walk_sign 40 ((literals.tokens_of d ++ (more_values vs ++ (sign 41 ∷ []))) ++ rest) after (a_row deep) (a_literal deep ∷ after_value deep ∷ []) others refl
      ∙ along _ _ after (a_literal deep ∷ after_value deep ∷ others) (append_assoc (literals.tokens_of d) (more_values vs ++ (sign 41 ∷ [])) rest)
      ∙ literal_walks d deep whole.0 ((more_values vs ++ (sign 41 ∷ [])) ++ rest) after (after_value deep ∷ others)
      ∙ along _ _ after (after_value deep ∷ others) (append_assoc (more_values vs) (sign 41 ∷ []) rest)
      ∙ values_walk vs deep whole.1 rest after others

  values_walk : (vs : Tuple) (deep : ℕ) → AreLiterals deep vs → (rest : List Token) (after : Bool) (others : List Goal) → walk (more_values vs ++ (sign 41 ∷ rest)) after (after_value deep ∷ others) ≡ walk rest after others
  values_walk no_values deep whole rest after others = walk_sign 41 rest after (after_value deep) [] others refl
  values_walk (value d vs) deep whole rest after others =
      walk_sign 44 ((literals.tokens_of d ++ more_values vs) ++ (sign 41 ∷ rest)) after (after_value deep) (a_literal deep ∷ after_value deep ∷ []) others refl
      ∙ along _ _ after (a_literal deep ∷ after_value deep ∷ others) (append_assoc (literals.tokens_of d) (more_values vs) (sign 41 ∷ rest))
      ∙ literal_walks d deep whole.0 (more_values vs ++ (sign 41 ∷ rest)) after (after_value deep ∷ others)
      ∙ values_walk vs deep whole.1 rest after others

  more_rows_walk : (r : Relation) (deep : ℕ) → AreLiteralRows deep r → (rest : List Token) (after : Bool) (others : List Goal) → walk (more_rows r ++ (sign 125 ∷ rest)) after (after_row deep ∷ others) ≡ walk rest after others
  more_rows_walk no_tuples deep whole rest after others = walk_sign 125 rest after (after_row deep) [] others refl
  more_rows_walk (tuple t r) deep whole rest after others =
      walk_sign 44 ((row_tokens t ++ more_rows r) ++ (sign 125 ∷ rest)) after (after_row deep) (a_row deep ∷ after_row deep ∷ []) others refl
      ∙ along _ _ after (a_row deep ∷ after_row deep ∷ others) (append_assoc (row_tokens t) (more_rows r) (sign 125 ∷ rest))
      ∙ row_walks t deep whole.0 (more_rows r ++ (sign 125 ∷ rest)) after (after_row deep ∷ others)
      ∙ more_rows_walk r deep whole.1 rest after others

-- paths
pub steps_walk : (ss : List Step) → All IsStep ss → (rest : List Token) (after : Bool) (others : List Goal) → walk (flat_map step_tokens ss ++ rest) after (steps ∷ others) ≡ walk rest after (steps ∷ others)
steps_walk [] whole rest after others = refl
steps_walk (s ∷ ss) whole rest after others =
    let first = All-head IsStep s ss whole in
    let behind = flat_map step_tokens ss ++ rest in
    walk_sign 47 (number (pos s.row) ∷ sign 47 ∷ word s.prop ∷ behind) after steps (a_count ∷ a_sign 47 ∷ a_name ∷ steps ∷ []) others refl
    ∙ walk_first (number (pos s.row)) (sign 47 ∷ word s.prop ∷ behind) after a_count [] (a_sign 47 ∷ a_name ∷ steps ∷ others) (held_count s.row first.0) refl
    ∙ walk_sign 47 (word s.prop ∷ behind) after (a_sign 47) [] (a_name ∷ steps ∷ others) refl
    ∙ walk_word s.prop behind after (steps ∷ others) first.1
    ∙ steps_walk ss (All-tail IsStep s ss whole) rest after others

pub path_walks : (r : Route) → IsPath r → (rest : List Token) (after : Bool) (others : List Goal) → walk (path_tokens r ++ rest) after (a_path ∷ others) ≡ walk rest after (steps ∷ others)
path_walks r whole rest after others =
    walk_first (word r.name) (flat_map step_tokens r.steps ++ rest) after a_path (steps ∷ []) others (held_word r.name whole.name) refl
    ∙ steps_walk r.steps whole.steps rest after others

no_opening_first : (ss : List Step) (rest : List Token) (after : Bool) → opens_first rest after ≡ false → opens_first (flat_map step_tokens ss ++ rest) after ≡ false
no_opening_first [] rest after e = e
no_opening_first (s ∷ ss) rest after e = refl

pub path_query_walks : (r : Route) → IsPath r → (deep : ℕ) (rest : List Token) (after : Bool) (others : List Goal) → opens_first rest after ≡ false
    → walk (path_tokens r ++ rest) after (a_query deep ∷ others) ≡ walk rest after (steps ∷ others)
path_query_walks r whole deep rest after others e =
    walk_first (word r.name) (flat_map step_tokens r.steps ++ rest) after (a_query deep) (steps ∷ []) others (held_word r.name whole.name)
    (ap (λ b. moved (a_query deep) (word r.name) b) (no_opening_first r.steps rest after e))
    ∙ steps_walk r.steps whole.steps rest after others

-- a path ends at any sign but a slash
pub steps_end : (c : ℕ) (rest : List Token) (after : Bool) (others : List Goal) → (c == 47) ≡ false → walk (sign c ∷ rest) after (steps ∷ others) ≡ walk (sign c ∷ rest) after others
steps_end c rest after others e =
    ap (λ b. walked (is_held (sign c)) (followed (if b then push (a_count ∷ a_sign 47 ∷ a_name ∷ steps ∷ []) else pass) others (step others (sign c) (opens_first rest after))) (λ g. walk rest after g)) e

-- the members of a list
more_walk : {X : Type 0} (item : Item) (P : X → Type 0) (f : X → List Token) → ((x : X) → P x → (rest : List Token) (after : Bool) (others : List Goal) → walk (f x ++ rest) after (member_goals item ++ others) ≡ walk rest after others)
    → (xs : List X) → All P xs → (rest : List Token) (after : Bool) (others : List Goal) → walk (listed f xs ++ (sign (end_sign item) ∷ rest)) after (more item ∷ others) ≡ walk rest after (end_goals item ++ others)
more_walk item P f member [] whole rest after others =
    walk_sign (end_sign item) rest after (more item) (end_goals item) others (list_ends item (sign (end_sign item)) refl (opens_first rest after))
more_walk item P f member (x ∷ xs) whole rest after others =
    let behind = listed f xs ++ (sign (end_sign item) ∷ rest) in
    walk_sign 44 ((f x ++ listed f xs) ++ (sign (end_sign item) ∷ rest)) after (more item) (member_goals item ++ (more item ∷ [])) others
    (list_goes_on item (sign 44) refl (opens_first ((f x ++ listed f xs) ++ (sign (end_sign item) ∷ rest)) after))
    ∙ along _ _ after ((member_goals item ++ (more item ∷ [])) ++ others) (append_assoc (f x) (listed f xs) (sign (end_sign item) ∷ rest))
    ∙ ap (λ goals. walk (f x ++ behind) after goals) (append_assoc (member_goals item) (more item ∷ []) others)
    ∙ member x (All-head P x xs whole) behind after (more item ∷ others)
    ∙ more_walk item P f member xs (All-tail P x xs whole) rest after others

some_walk : {X : Type 0} (item : Item) (P : X → Type 0) (f : X → List Token) → ((x : X) → P x → (rest : List Token) (after : Bool) (others : List Goal) → walk (f x ++ rest) after (member_goals item ++ others) ≡ walk rest after others)
    → (xs : List X) → xs ≢ [] → All P xs → (rest : List Token) (after : Bool) (others : List Goal) → walk (listed f xs ++ (sign (end_sign item) ∷ rest)) after (some_goals item ++ others) ≡ walk rest after (end_goals item ++ others)
some_walk item P f member [] some whole rest after others = absurd (some refl)
some_walk item P f member (x ∷ xs) some whole rest after others =
    let behind = listed f xs ++ (sign (end_sign item) ∷ rest) in
    walk_sign 44 ((f x ++ listed f xs) ++ (sign (end_sign item) ∷ rest)) after (a_sign 44) [] ((member_goals item ++ (more item ∷ [])) ++ others) refl
    ∙ along _ _ after ((member_goals item ++ (more item ∷ [])) ++ others) (append_assoc (f x) (listed f xs) (sign (end_sign item) ∷ rest))
    ∙ ap (λ goals. walk (f x ++ behind) after goals) (append_assoc (member_goals item) (more item ∷ []) others)
    ∙ member x (All-head P x xs whole) behind after (more item ∷ others)
    ∙ more_walk item P f member xs (All-tail P x xs whole) rest after others

pub criterion_walks : (c : Criterion) → IsCriterion c → (rest : List Token) (after : Bool) (others : List Goal) → walk (criterion_tokens c ++ rest) after (member_goals items.Criterion ++ others) ≡ walk rest after others
criterion_walks c whole rest after others =
    walk_word c.prop (sign 61 ∷ (literals.tokens_of c.value ++ rest)) after (a_sign 61 ∷ a_literal max_braces ∷ others) whole.0
    ∙ walk_sign 61 (literals.tokens_of c.value ++ rest) after (a_sign 61) [] (a_literal max_braces ∷ others) refl
    ∙ literal_walks c.value max_braces whole.1 rest after others

range_walks : (r : Range) → IsRange r → (rest : List Token) (after : Bool) (others : List Goal) → walk (range_tokens r ++ rest) after (member_goals items.Range ++ others) ≡ walk rest after others
range_walks r whole rest after others =
    let low = literals.tokens_of r.low in
    let high = literals.tokens_of r.high in
    walk_word r.prop (sign 61 ∷ ((low ++ (sign 58 ∷ high)) ++ rest)) after (a_sign 61 ∷ a_literal max_braces ∷ a_sign 58 ∷ a_literal max_braces ∷ others) whole.0
    ∙ walk_sign 61 ((low ++ (sign 58 ∷ high)) ++ rest) after (a_sign 61) [] (a_literal max_braces ∷ a_sign 58 ∷ a_literal max_braces ∷ others) refl
    ∙ along _ _ after (a_literal max_braces ∷ a_sign 58 ∷ a_literal max_braces ∷ others) (append_assoc low (sign 58 ∷ high) rest)
    ∙ literal_walks r.low max_braces whole.1.0 (sign 58 ∷ (high ++ rest)) after (a_sign 58 ∷ a_literal max_braces ∷ others)
    ∙ walk_sign 58 (high ++ rest) after (a_sign 58) [] (a_literal max_braces ∷ others) refl
    ∙ literal_walks r.high max_braces whole.1.1 rest after others

key_walks : (o : Order) → IsOrder o → (rest : List Token) (after : Bool) (others : List Goal) → walk (order_tokens o ++ rest) after (member_goals items.Order ++ others) ≡ walk rest after others
key_walks o whole rest after others = turned o.down
  where
    turned : (down : Bool) → walk ((if down then sign 45 ∷ word o.prop ∷ [] else word o.prop ∷ []) ++ rest) after (a_key ∷ others) ≡ walk rest after others
    turned true = walk_sign 45 (word o.prop ∷ rest) after a_key (a_name ∷ []) others refl ∙ walk_word o.prop rest after others whole
    turned false = walk_first (word o.prop) rest after a_key [] others (held_word o.prop whole) refl

name_walks : (letters : List ℕ) → IsName letters → (rest : List Token) (after : Bool) (others : List Goal) → walk ((word letters ∷ []) ++ rest) after (a_name ∷ others) ≡ walk rest after others
name_walks letters named rest after others = walk_word letters rest after others named

-- what stands behind the tables
named_walk : (list : List (List ℕ)) (name : List ℕ) → AreNames list → IsName name → (rest : List Token) (after : Bool) (others : List Goal)
    → walk ((names_tokens list ++ (sign 58 ∷ word name ∷ [])) ++ (sign 41 ∷ rest)) after (some_goals items.Named ++ others) ≡ walk rest after others
named_walk list name are named rest after others =
    along _ _ after (some_goals items.Named ++ others) (append_assoc (names_tokens list) (sign 58 ∷ word name ∷ []) (sign 41 ∷ rest))
    ∙ some_walk items.Named IsName (λ n. word n ∷ []) name_walks list are.some are.whole (word name ∷ sign 41 ∷ rest) after others
    ∙ walk_word name (sign 41 ∷ rest) after (a_sign 41 ∷ others) named
    ∙ walk_sign 41 rest after (a_sign 41) [] others refl

pub tail_walks : (t : Tail) → IsTail t → (rest : List Token) (after : Bool) (others : List Goal) → walk (tail_tokens t ++ (sign 41 ∷ rest)) after (form_goals (form_of t) ++ others) ≡ walk rest after others
tail_walks arguments.nothing whole rest after others = walk_sign 41 rest after (a_sign 41) [] others refl
tail_walks (arguments.criteria list) whole rest after others = some_walk items.Criterion IsCriterion criterion_tokens criterion_walks list whole.0 whole.1 rest after others
tail_walks (arguments.bounds list) whole rest after others = some_walk items.Range IsRange range_tokens range_walks list whole.0 whole.1 rest after others
tail_walks (arguments.orders list) whole rest after others = more_walk items.Order IsOrder order_tokens key_walks list whole rest after others
tail_walks (arguments.names list) whole rest after others = some_walk items.Name IsName (λ n. word n ∷ []) name_walks list whole.some whole.whole rest after others
tail_walks (arguments.inner name) whole rest after others =
    walk_sign 44 (word name ∷ sign 41 ∷ rest) after (a_sign 44) [] (a_name ∷ a_sign 41 ∷ others) refl
    ∙ walk_word name (sign 41 ∷ rest) after (a_sign 41 ∷ others) whole ∙ walk_sign 41 rest after (a_sign 41) [] others refl
tail_walks (arguments.renamed name new) whole rest after others =
    walk_sign 44 (word name ∷ sign 44 ∷ word new ∷ sign 41 ∷ rest) after (a_sign 44) [] (a_name ∷ a_sign 44 ∷ a_name ∷ a_sign 41 ∷ others) refl
    ∙ walk_word name (sign 44 ∷ word new ∷ sign 41 ∷ rest) after (a_sign 44 ∷ a_name ∷ a_sign 41 ∷ others) whole.0
    ∙ walk_sign 44 (word new ∷ sign 41 ∷ rest) after (a_sign 44) [] (a_name ∷ a_sign 41 ∷ others) refl
    ∙ walk_word new (sign 41 ∷ rest) after (a_sign 41 ∷ others) whole.1 ∙ walk_sign 41 rest after (a_sign 41) [] others refl
tail_walks (arguments.rows first limit z) whole rest after others =
    walk_sign 44 (number (pos first) ∷ sign 44 ∷ number (pos limit) ∷ sign 44 ∷ number z ∷ sign 41 ∷ rest) after (a_sign 44) [] (a_count ∷ a_sign 44 ∷ a_count ∷ a_sign 44 ∷ a_number ∷ a_sign 41 ∷ others) refl
    ∙ walk_first (number (pos first)) (sign 44 ∷ number (pos limit) ∷ sign 44 ∷ number z ∷ sign 41 ∷ rest) after a_count [] (a_sign 44 ∷ a_count ∷ a_sign 44 ∷ a_number ∷ a_sign 41 ∷ others) (held_count first whole.0) refl
    ∙ walk_sign 44 (number (pos limit) ∷ sign 44 ∷ number z ∷ sign 41 ∷ rest) after (a_sign 44) [] (a_count ∷ a_sign 44 ∷ a_number ∷ a_sign 41 ∷ others) refl
    ∙ walk_first (number (pos limit)) (sign 44 ∷ number z ∷ sign 41 ∷ rest) after a_count [] (a_sign 44 ∷ a_number ∷ a_sign 41 ∷ others) (held_count limit whole.1.0) refl
    ∙ walk_sign 44 (number z ∷ sign 41 ∷ rest) after (a_sign 44) [] (a_number ∷ a_sign 41 ∷ others) refl
    ∙ walk_first (number z) (sign 41 ∷ rest) after a_number [] (a_sign 41 ∷ others) (held_number z whole.1.1) refl
    ∙ walk_sign 41 rest after (a_sign 41) [] others refl
tail_walks (arguments.named list name) whole rest after others = named_walk list name whole.0 whole.1 rest after others
tail_walks (arguments.viewed viewer list) whole rest after others =
    walk_sign 44 (word viewer ∷ (names_tokens list ++ (sign 41 ∷ rest))) after (a_sign 44) [] (a_name ∷ (some_goals items.Name ++ others)) refl
    ∙ walk_word viewer (names_tokens list ++ (sign 41 ∷ rest)) after (some_goals items.Name ++ others) whole.0
    ∙ some_walk items.Name IsName (λ n. word n ∷ []) name_walks list whole.1.some whole.1.whole rest after others
tail_walks (arguments.viewed_as viewer list name) whole rest after others =
    walk_sign 44 (word viewer ∷ ((names_tokens list ++ (sign 58 ∷ word name ∷ [])) ++ (sign 41 ∷ rest))) after (a_sign 44) [] (a_name ∷ (some_goals items.Named ++ others)) refl
    ∙ walk_word viewer ((names_tokens list ++ (sign 58 ∷ word name ∷ [])) ++ (sign 41 ∷ rest)) after (some_goals items.Named ++ others) whole.0
    ∙ named_walk list name whole.1.0 whole.1.1 rest after others

-- what stands behind a table begins with a comma, or with the closing parenthesis
pub record Parted (tokens : List Token) : Type 0 where
  pub first : ℕ
  pub rest : List Token
  pub is : tokens ≡ sign first ∷ rest
  pub no_slash : (first == 47) ≡ false
  pub no_opening : (first == 40) ≡ false

pub comma_parts : (rest : List Token) → Parted (sign 44 ∷ rest)
comma_parts rest = record { first = 44; rest = rest; is = refl; no_slash = refl; no_opening = refl }

list_parts : {X : Type 0} (f : X → List Token) (xs : List X) (rest : List Token) → Parted rest → Parted (listed f xs ++ rest)
list_parts f [] rest parted = parted
list_parts f (x ∷ xs) rest parted = comma_parts ((f x ++ listed f xs) ++ rest)

close_parts : (rest : List Token) → Parted (sign 41 ∷ rest)
close_parts rest = record { first = 41; rest = rest; is = refl; no_slash = refl; no_opening = refl }

colon_parts : (rest : List Token) → Parted (sign 58 ∷ rest)
colon_parts rest = record { first = 58; rest = rest; is = refl; no_slash = refl; no_opening = refl }

pub tail_parts : (t : Tail) (rest : List Token) → Parted (tail_tokens t ++ (sign 41 ∷ rest))
tail_parts arguments.nothing rest = close_parts rest
tail_parts (arguments.criteria list) rest = list_parts criterion_tokens list (sign 41 ∷ rest) (close_parts rest)
tail_parts (arguments.bounds list) rest = list_parts range_tokens list (sign 41 ∷ rest) (close_parts rest)
tail_parts (arguments.orders list) rest = list_parts order_tokens list (sign 41 ∷ rest) (close_parts rest)
tail_parts (arguments.names list) rest = list_parts (λ n. word n ∷ []) list (sign 41 ∷ rest) (close_parts rest)
tail_parts (arguments.inner name) rest = comma_parts _
tail_parts (arguments.renamed name new) rest = comma_parts _
tail_parts (arguments.rows first limit z) rest = comma_parts _
tail_parts (arguments.named list name) rest =
    subst Parted (sym (append_assoc (names_tokens list) (sign 58 ∷ word name ∷ []) (sign 41 ∷ rest)))
    (list_parts (λ n. word n ∷ []) list (sign 58 ∷ word name ∷ sign 41 ∷ rest) (colon_parts (word name ∷ sign 41 ∷ rest)))
tail_parts (arguments.viewed viewer list) rest = comma_parts _
tail_parts (arguments.viewed_as viewer list name) rest = comma_parts _

-- an operator opens
open_walks : (o : Operator) (ts : List Token) (after : Bool) (deep : ℕ) (others : List Goal)
    → walk (word (word_of o) ∷ sign 40 ∷ ts) after (a_query (suc deep) ∷ others) ≡ walk ts after (table_goals deep (takes o) ++ others)
open_walks o ts after deep others =
    walk_first (word (word_of o)) (sign 40 ∷ ts) after (a_query (suc deep)) (a_sign 40 ∷ table_goals deep (takes o)) others (held_operator o) (operator_moves o (suc deep))
    ∙ walk_sign 40 ts after (a_sign 40) [] (table_goals deep (takes o) ++ others) refl

-- an expression, behind which something stands with which none goes on
pub query_walks : (q : Query) (deep : ℕ) → IsQuery q deep → (rest : List Token) → Parted rest → (after : Bool) (others : List Goal) → walk (tokens_of q ++ rest) after (a_query deep ∷ others) ≡ walk rest after others
query_walks (queries.path r) deep whole rest parted after others =
    path_query_walks r whole deep rest after others (ap (λ ts. opens_first ts after) parted.is ∙ parted.no_opening)
    ∙ ap (λ ts. walk ts after (steps ∷ others)) parted.is
    ∙ steps_end parted.first parted.rest after others parted.no_slash
    ∙ sym (ap (λ ts. walk ts after others) parted.is)
query_walks (queries.one o q t) zero whole rest parted after others = absurd whole
query_walks (queries.one o q t) (suc deep) whole rest parted after others =
    let behind = tail_tokens t ++ (sign 41 ∷ rest) in
    open_walks o ((tokens_of q ++ (tail_tokens t ++ (sign 41 ∷ []))) ++ rest) after deep others
    ∙ ap (λ x. walk ((tokens_of q ++ (tail_tokens t ++ (sign 41 ∷ []))) ++ rest) after (table_goals deep x ++ others)) whole.1.0
    ∙ along _ _ after (a_query deep ∷ (form_goals (form_of t) ++ others)) (append_assoc (tokens_of q) (tail_tokens t ++ (sign 41 ∷ [])) rest ∙ ap (λ ts. tokens_of q ++ ts) (append_assoc (tail_tokens t) (sign 41 ∷ []) rest))
    ∙ query_walks q deep whole.0 behind (tail_parts t rest) after (form_goals (form_of t) ++ others)
    ∙ tail_walks t whole.1.1 rest after others
query_walks (queries.two o p q t) zero whole rest parted after others = absurd whole
query_walks (queries.two o p q t) (suc deep) whole rest parted after others =
    let behind = tail_tokens t ++ (sign 41 ∷ rest) in
    let second = tokens_of q ++ (tail_tokens t ++ (sign 41 ∷ [])) in
    open_walks o ((tokens_of p ++ (sign 44 ∷ second)) ++ rest) after deep others
    ∙ ap (λ x. walk ((tokens_of p ++ (sign 44 ∷ second)) ++ rest) after (table_goals deep x ++ others)) whole.1.1.0
    ∙ along _ _ after (a_query deep ∷ a_sign 44 ∷ a_query deep ∷ (form_goals (form_of t) ++ others)) (append_assoc (tokens_of p) (sign 44 ∷ second) rest)
    ∙ query_walks p deep whole.0 (sign 44 ∷ (second ++ rest)) (comma_parts (second ++ rest)) after (a_sign 44 ∷ a_query deep ∷ (form_goals (form_of t) ++ others))
    ∙ walk_sign 44 (second ++ rest) after (a_sign 44) [] (a_query deep ∷ (form_goals (form_of t) ++ others)) refl
    ∙ along _ _ after (a_query deep ∷ (form_goals (form_of t) ++ others)) (append_assoc (tokens_of q) (tail_tokens t ++ (sign 41 ∷ [])) rest ∙ ap (λ ts. tokens_of q ++ ts) (append_assoc (tail_tokens t) (sign 41 ∷ []) rest))
    ∙ query_walks q deep whole.1.0 behind (tail_parts t rest) after (form_goals (form_of t) ++ others)
    ∙ tail_walks t whole.1.1.1 rest after others

-- what an operator gives, whatever stands behind
abbrev pub IsApplied : Query → Type 0
IsApplied (queries.path r) = ⊥
IsApplied _ = Unit {0}

pub applied_walks : (q : Query) (deep : ℕ) → IsApplied q → IsQuery q deep → (rest : List Token) (after : Bool) (others : List Goal) → walk (tokens_of q ++ rest) after (a_query deep ∷ others) ≡ walk rest after others
applied_walks (queries.path r) deep applied whole rest after others = absurd applied
applied_walks (queries.one o q t) zero applied whole rest after others = absurd whole
applied_walks (queries.one o q t) (suc deep) applied whole rest after others =
    let behind = tail_tokens t ++ (sign 41 ∷ rest) in
    open_walks o ((tokens_of q ++ (tail_tokens t ++ (sign 41 ∷ []))) ++ rest) after deep others
    ∙ ap (λ x. walk ((tokens_of q ++ (tail_tokens t ++ (sign 41 ∷ []))) ++ rest) after (table_goals deep x ++ others)) whole.1.0
    ∙ along _ _ after (a_query deep ∷ (form_goals (form_of t) ++ others)) (append_assoc (tokens_of q) (tail_tokens t ++ (sign 41 ∷ [])) rest ∙ ap (λ ts. tokens_of q ++ ts) (append_assoc (tail_tokens t) (sign 41 ∷ []) rest))
    ∙ query_walks q deep whole.0 behind (tail_parts t rest) after (form_goals (form_of t) ++ others)
    ∙ tail_walks t whole.1.1 rest after others
applied_walks (queries.two o p q t) zero applied whole rest after others = absurd whole
applied_walks (queries.two o p q t) (suc deep) applied whole rest after others =
    let behind = tail_tokens t ++ (sign 41 ∷ rest) in
    let second = tokens_of q ++ (tail_tokens t ++ (sign 41 ∷ [])) in
    open_walks o ((tokens_of p ++ (sign 44 ∷ second)) ++ rest) after deep others
    ∙ ap (λ x. walk ((tokens_of p ++ (sign 44 ∷ second)) ++ rest) after (table_goals deep x ++ others)) whole.1.1.0
    ∙ along _ _ after (a_query deep ∷ a_sign 44 ∷ a_query deep ∷ (form_goals (form_of t) ++ others)) (append_assoc (tokens_of p) (sign 44 ∷ second) rest)
    ∙ query_walks p deep whole.0 (sign 44 ∷ (second ++ rest)) (comma_parts (second ++ rest)) after (a_sign 44 ∷ a_query deep ∷ (form_goals (form_of t) ++ others))
    ∙ walk_sign 44 (second ++ rest) after (a_sign 44) [] (a_query deep ∷ (form_goals (form_of t) ++ others)) refl
    ∙ along _ _ after (a_query deep ∷ (form_goals (form_of t) ++ others)) (append_assoc (tokens_of q) (tail_tokens t ++ (sign 41 ∷ [])) rest ∙ ap (λ ts. tokens_of q ++ ts) (append_assoc (tail_tokens t) (sign 41 ∷ []) rest))
    ∙ query_walks q deep whole.1.0 behind (tail_parts t rest) after (form_goals (form_of t) ++ others)
    ∙ tail_walks t whole.1.1.1 rest after others

-- the whole of an expression: what is left are steps that a path may go on with, or nothing
pub record WalksWhole (q : Query) (deep : ℕ) : Type 0 where
  pub left : List Goal
  pub walks : walk (tokens_of q) false (a_query deep ∷ []) ≡ goes left
  pub met : are_met left ≡ true

pub whole_walks : (q : Query) (deep : ℕ) → IsQuery q deep → WalksWhole q deep
whole_walks (queries.path r) deep whole = record {
  left = steps ∷ [];
  walks = sym (ap (λ ts. walk ts false (a_query deep ∷ [])) (append-nil (path_tokens r))) ∙ path_query_walks r whole deep [] false [] refl;
  met = refl;
}
whole_walks (queries.one o q t) zero whole = absurd whole
whole_walks (queries.one o q t) (suc deep) whole = record {
  left = [];
  walks = open_walks o (tokens_of q ++ (tail_tokens t ++ (sign 41 ∷ []))) false deep []
      ∙ ap (λ x. walk (tokens_of q ++ (tail_tokens t ++ (sign 41 ∷ []))) false (table_goals deep x ++ [])) whole.1.0
      ∙ query_walks q deep whole.0 (tail_tokens t ++ (sign 41 ∷ [])) (tail_parts t []) false (form_goals (form_of t) ++ [])
      ∙ tail_walks t whole.1.1 [] false [];
  met = refl;
}
whole_walks (queries.two o p q t) zero whole = absurd whole
whole_walks (queries.two o p q t) (suc deep) whole =
    let second = tokens_of q ++ (tail_tokens t ++ (sign 41 ∷ [])) in
    record {
      left = [];
      walks = open_walks o (tokens_of p ++ (sign 44 ∷ second)) false deep []
          ∙ ap (λ x. walk (tokens_of p ++ (sign 44 ∷ second)) false (table_goals deep x ++ [])) whole.1.1.0
          ∙ query_walks p deep whole.0 (sign 44 ∷ second) (comma_parts second) false (a_sign 44 ∷ a_query deep ∷ (form_goals (form_of t) ++ []))
          ∙ walk_sign 44 second false (a_sign 44) [] (a_query deep ∷ (form_goals (form_of t) ++ [])) refl
          ∙ query_walks q deep whole.1.0 (tail_tokens t ++ (sign 41 ∷ [])) (tail_parts t []) false (form_goals (form_of t) ++ [])
          ∙ tail_walks t whole.1.1.1 [] false [];
      met = refl;
    }
