-- Goals one after another: what meets them, that they can be met, and what stands behind them.
use Rattle.std.proofs.Common.{◌≡◌, ◌⊎◌, inl, inr, ℕ, zero, suc, pos, ◌+◌, ◌<◌, ◌≤◌, ◌==◌, Bool, true, false, nat_lt, List, [], ◌∷◌, ◌++◌, length, Option, Some, None, refl, sym, ap, subst, ◌∙◌, append_assoc, append-nil, arith, true≢false, lit<, if◌then◌else◌}
use Rattle.std.proofs.lemmas.Bool.{false≢true}
use Rattle.std.specs.Str.{bytes_eq}
use Rattle.std.proofs.lemmas.List.Elements.{All-nil}
use Rattle.mk_value.specs.Data.{long, no_values, no_tuples, value}
use Rattle.mk_value.specs.Names.{IsName}
use Rattle.mk_value.specs.Tokens.{Token, word, number, text, bytes, sign}
use Rattle.tokens.specs.Fronts.{IsFront}
use Rattle.tokens.specs.Literals.{IsLiteral, max_braces}
use Rattle.tokens.specs.Paths.{IsStep}
use Rattle.expr_text.specs.Arguments as arguments
use Rattle.expr_text.specs.Arguments.{IsCriterion, IsOrder, IsRange}
use Rattle.expr_text.specs.Queries as queries
use Rattle.expr_text.specs.Walk.{Goal, Move, Next, a_count, a_key, a_literal, a_name, a_number, a_path, a_query, a_row, a_sign, a_text, a_word, after_row, after_value, an_operation, are_met, begun, brace, deepens, followed, goes, is_held, is_opening, member_goals, more, more_criteria, moved, opened, operated, operator_named, pass, push, rows, step, steps, stops, values, wrong}
use Rattle.expr_text.specs.Walk as walk_
use Rattle.expr_text.specs.declared.list.Item.{Item}
use Rattle.expr_text.specs.declared.list.Item.TheVariants as items
use Rattle.expr_text.specs.declared.operator.Operator.{Operator}
use Rattle.expr_text.specs.declared.operator.Operator.TheVariants as operators
use Rattle.expr_text.proofs.Held.{IsName-from_is_name, fits_held}
use Rattle.expr_text.proofs.Meaning.{Means, Meant, MeansMore, meant_split, sound}
use Rattle.expr_text.proofs.Walking.{opens_first, walk, walk-goes, walked}

-- only the further steps of a path may be left out
no_push : (b : Bool) (a : List Goal) (x : Move) → (x ≡ pass → ⊥) → (if b then push a else x) ≡ pass → ⊥
no_push true a x none e = cc
no_push false a x none e = none e

opened_no_pass : (found : Option Operator) (depth : ℕ) → opened found depth ≡ pass → ⊥
opened_no_pass None depth e = cc
opened_no_pass (Some o) zero e = cc
opened_no_pass (Some o) (suc depth) e = cc

brace_no_pass : (b : Bool) (depth : ℕ) → (if b then brace depth else wrong) ≡ pass → ⊥
brace_no_pass true zero e = cc
brace_no_pass true (suc depth) e = cc
brace_no_pass false depth e = cc

wrong_no_pass : wrong ≡ pass → ⊥
wrong_no_pass e = cc

operated_no_pass : (found : Option Operator) → operated found ≡ pass → ⊥
operated_no_pass (Some operators.Select) e = cc
operated_no_pass (Some operators.Range) e = cc
operated_no_pass (Some operators.Sort) e = cc
operated_no_pass (Some operators.Counts) e = cc
operated_no_pass (Some operators.Keep) e = cc
operated_no_pass None e = cc
operated_no_pass (Some _) e = cc

pub pass_steps : (g : Goal) (t : Token) (follows : Bool) → moved g t follows ≡ pass → g ≡ steps
pass_steps (a_sign s) (sign c) follows e = absurd (no_push (c == s) [] wrong wrong_no_pass e)
pass_steps a_name (word letters) follows e = cc
pass_steps a_count (number z) follows e = absurd (counted z e)
  where
    counted : (z : _) → moved a_count (number z) follows ≡ pass → ⊥
    counted (pos n) e = cc
    counted _ e = cc
pass_steps a_number (number z) follows e = cc
pass_steps (a_query depth) (word letters) false e = cc
pass_steps (a_query depth) (word letters) true e = absurd (opened_no_pass (operator_named letters) depth e)
pass_steps a_path (word letters) follows e = cc
pass_steps steps t follows e = refl
pass_steps (a_literal depth) (sign c) follows e = absurd (brace_no_pass (c == 123) depth e)
pass_steps (a_literal depth) (number z) follows e = cc
pass_steps (a_literal depth) (text content) follows e = cc
pass_steps (a_literal depth) (bytes content) follows e = cc
pass_steps (rows depth) (sign c) follows e = absurd (no_push (c == 125) [] _ (no_push (c == 40) _ wrong wrong_no_pass) e)
pass_steps (after_row depth) (sign c) follows e = absurd (no_push (c == 125) [] _ (no_push (c == 44) _ wrong wrong_no_pass) e)
pass_steps (a_row depth) (sign c) follows e = absurd (no_push (c == 40) _ wrong wrong_no_pass e)
pass_steps (after_value depth) (sign c) follows e = absurd (no_push (c == 41) [] _ (no_push (c == 44) _ wrong wrong_no_pass) e)
pass_steps a_key (word letters) follows e = cc
pass_steps a_key (sign c) follows e = absurd (no_push (c == 45) _ wrong wrong_no_pass e)
pass_steps (more item) (sign c) follows e = absurd (no_push (c == 44) _ _ (no_push (c == walk_.end_sign item) _ wrong wrong_no_pass) e)
pass_steps (a_word letters) (word other) follows e = absurd (no_push (bytes_eq other letters) [] wrong wrong_no_pass e)
pass_steps values (sign c) follows e = absurd (no_push (c == 123) _ wrong wrong_no_pass e)
pass_steps values (number z) follows e = cc
pass_steps values (text content) follows e = cc
pass_steps values (bytes content) follows e = cc
pass_steps more_criteria (sign c) follows e = absurd (no_push (c == 44) _ wrong wrong_no_pass e)
pass_steps (a_text most) (text content) follows e = absurd (no_push (nat_lt (length content) (suc most)) [] wrong wrong_no_pass e)
pass_steps an_operation (word letters) follows e = absurd (operated_no_pass (operator_named letters) e)
pass_steps _ _ follows e = cc

pass_means : (g : Goal) → g ≡ steps → Means g []
pass_means g e = subst (λ x. Means x []) (sym e) ([], All-nil IsStep, refl)

-- a token before what the next goals mean
pub step_sound : (goals : List Goal) (t : Token) (follows : Bool) (next : List Goal) → step goals t follows ≡ goes next → is_held t ≡ true → (ts : List Token) → Meant next ts → Meant goals (t ∷ ts)
step_sound [] t follows next e held ts m = absurd (cc)
step_sound (g ∷ goals) t follows next e held ts m = chosen (step_sound goals t follows next) (moved g t follows) refl e
  where
    chosen : (step goals t follows ≡ goes next → is_held t ≡ true → (ts : List Token) → Meant next ts → Meant goals (t ∷ ts))
        → (move : Move) → moved g t follows ≡ move → followed move goals (step goals t follows) ≡ goes next → Meant (g ∷ goals) (t ∷ ts)
    chosen others wrong is e = absurd (cc)
    chosen others walk_.deep is e = absurd (cc)
    chosen others (push new) is e =
        let same : new ++ goals ≡ next = cc in
        let parts = meant_split new goals ts (subst (λ n. Meant n ts) (sym same) m) in
        (t ∷ parts.0, parts.1, sound g t follows new is held parts.0 parts.2, parts.3, ap (λ r. t ∷ r) parts.4)
    chosen others pass is e = ([], t ∷ ts, pass_means g (pass_steps g t follows is), others e held ts m, refl)

pub walk_sound : (ts : List Token) (after : Bool) (goals next : List Goal) → walk ts after goals ≡ goes next → (rest : List Token) → Meant next rest → Meant goals (ts ++ rest)
walk_sound [] after goals next e rest m = let same : goals ≡ next = cc in subst (λ n. Meant n rest) (sym same) m
walk_sound (t ∷ ts) after goals next e rest m = chosen (λ further. walk_sound ts after further next) (is_held t) refl (step goals t (opens_first ts after)) refl e
  where
    chosen : ((further : List Goal) → walk ts after further ≡ goes next → (rest : List Token) → Meant next rest → Meant further (ts ++ rest))
        → (b : Bool) → is_held t ≡ b → (n : Next) → step goals t (opens_first ts after) ≡ n → walked b n (λ further. walk ts after further) ≡ goes next → Meant goals (t ∷ (ts ++ rest))
    chosen others false held n is e = absurd (cc)
    chosen others true held stops is e = absurd (cc)
    chosen others true held deepens is e = absurd (cc)
    chosen others true held (goes further) is e = step_sound goals t (opens_first ts after) further is held (ts ++ rest) (others further e rest m)

-- each goal can be met
one_letter : IsName (97 ∷ [])
one_letter = IsName-from_is_name (97 ∷ []) refl

one_name : (letters : List ℕ) × IsName letters
one_name = (97 ∷ [], one_letter)

more_met : (item : Item) → (ts : List Token) × MeansMore item ts
more_met items.Criterion = (_, ([], All-nil IsCriterion, refl))
more_met items.Range = (_, ([], All-nil IsRange, refl))
more_met items.Order = (_, ([], All-nil IsOrder, refl))
more_met items.Name = (_, ([], All-nil IsName, refl))
more_met items.Named = (_, ([], All-nil IsName, (97 ∷ [], one_letter, refl)))

zero_held : is_held (number (pos 0)) ≡ true
unfolding is_held
zero_held = refl

goal_met : (g : Goal) → (ts : List Token) × Means g ts
goal_met (a_sign s) = (sign s ∷ [], refl)
goal_met a_name = (word (97 ∷ []) ∷ [], (97 ∷ [], one_letter, refl))
goal_met a_count = (number (pos 0) ∷ [], (0, lit< tt, refl))
goal_met a_number = (number (pos 0) ∷ [], (pos 0, fits_held (pos 0) zero_held, refl))
goal_met (a_query depth) = (_, (queries.path (record { name = 97 ∷ []; steps = [] }), record { whole = record { name = one_letter; steps = All-nil IsStep }; is = refl }))
goal_met a_path = (_, (record { name = 97 ∷ []; steps = [] }, record { whole = record { name = one_letter; steps = All-nil IsStep }; is = refl }))
goal_met steps = ([], ([], All-nil IsStep, refl))
goal_met (a_literal depth) = (_, (long (pos 0), fits_held (pos 0) zero_held, refl))
goal_met (rows depth) = (sign 125 ∷ [], (no_tuples, tt, refl))
goal_met (after_row depth) = (_, (no_tuples, tt, refl))
goal_met (a_row depth) = (_, (value (long (pos 0)) no_values, (fits_held (pos 0) zero_held, tt), refl))
goal_met (after_value depth) = (_, (no_values, tt, refl))
goal_met a_key = (_, (record { prop = 97 ∷ []; down = false }, one_letter, refl))
goal_met (more item) = more_met item
goal_met (a_word letters) = (word letters ∷ [], refl)
goal_met values = ([], ([], All-nil (λ d. IsLiteral max_braces d), refl))
goal_met more_criteria = ([], ([], All-nil IsCriterion, refl))
goal_met (a_text most) = ([], inl refl)
goal_met an_operation = (
  _,
  (queries.one operators.Sort (queries.path (record { name = 97 ∷ []; steps = [] })) (arguments.orders []), (tt, (refl, one_letter), refl, All-nil IsOrder), refl),
)

pub met : (goals : List Goal) → (ts : List Token) × Meant goals ts
met [] = ([], refl)
met (g ∷ goals) =
    let first = goal_met g in
    let others = met goals in
    (first.0 ++ others.0, (first.0, others.0, first.1, others.1, refl))

pub single : (g : Goal) (ts : List Token) → Meant (g ∷ []) ts → Means g ts
single g ts m = subst (Means g) (sym (m.4 ∙ ap (λ t. m.0 ++ t) m.3 ∙ append-nil m.0)) m.2

-- what a goal lets pass is a front of what it means
pub walk_front : (g : Goal) (ts : List Token) (after : Bool) (next : List Goal) → walk ts after (g ∷ []) ≡ goes next → IsFront (Means g) ts
walk_front g ts after next e = let rest = met next in (rest.0, single g (ts ++ rest.0) (walk_sound ts after (g ∷ []) next e rest.0 rest.1))

-- goals that are met at the end
pub met_empty : (goals : List Goal) → are_met goals ≡ true → Meant goals []
met_empty [] e = refl
met_empty (steps ∷ goals) e = ([], [], ([], All-nil IsStep, refl), met_empty goals e, refl)
met_empty (values ∷ goals) e = ([], [], ([], All-nil (λ d. IsLiteral max_braces d), refl), met_empty goals e, refl)
met_empty (more_criteria ∷ goals) e = ([], [], ([], All-nil IsCriterion, refl), met_empty goals e, refl)
met_empty (a_text most ∷ goals) e = ([], [], inl refl, met_empty goals e, refl)
met_empty (_ ∷ goals) e = absurd (cc)

pub walk_whole : (g : Goal) (ts : List Token) (after : Bool) (next : List Goal) → walk ts after (g ∷ []) ≡ goes next → are_met next ≡ true → Means g ts
walk_whole g ts after next e whole = subst (Means g) (append-nil ts) (single g (ts ++ []) (walk_sound ts after (g ∷ []) next e [] (met_empty next whole)))

-- the same of goals one after another
pub walk_front_of : (goals : List Goal) (ts : List Token) (after : Bool) (next : List Goal) → walk ts after goals ≡ goes next → IsFront (Meant goals) ts
walk_front_of goals ts after next e = let rest = met next in (rest.0, walk_sound ts after goals next e rest.0 rest.1)

pub walk_whole_of : (goals : List Goal) (ts : List Token) (after : Bool) (next : List Goal) → walk ts after goals ≡ goes next → are_met next ≡ true → Meant goals ts
walk_whole_of goals ts after next e whole = subst (Meant goals) (append-nil ts) (walk_sound ts after goals next e [] (met_empty next whole))

-- tokens behind tokens
pub joined_next : Next → (List Goal → Next) → Next
joined_next stops on = stops
joined_next deepens on = deepens
joined_next (goes goals) on = on goals

opens_first-append : (xs ys : List Token) (after : Bool) → opens_first (xs ++ ys) after ≡ opens_first xs (opens_first ys after)
opens_first-append [] ys after = refl
opens_first-append (x ∷ xs) ys after = refl

-- a front that goes, and what stands behind it
pub walk_behind : (xs ys : List Token) (after : Bool) (goals next : List Goal) → walk xs (opens_first ys after) goals ≡ goes next → walk (xs ++ ys) after goals ≡ walk ys after next
walk_behind [] ys after goals next e = let same : goals ≡ next = cc in ap (λ g. walk ys after g) same
walk_behind (t ∷ xs) ys after goals next e = chosen (λ further. walk_behind xs ys after further next) (is_held t) refl (step goals t (opens_first xs (opens_first ys after))) refl e
  where
    chosen : ((further : List Goal) → walk xs (opens_first ys after) further ≡ goes next → walk (xs ++ ys) after further ≡ walk ys after next)
        → (b : Bool) → is_held t ≡ b → (n : Next) → step goals t (opens_first xs (opens_first ys after)) ≡ n → walked b n (λ further. walk xs (opens_first ys after) further) ≡ goes next → walk (t ∷ (xs ++ ys)) after goals ≡ walk ys after next
    chosen others false held n is e = absurd (cc)
    chosen others true held stops is e = absurd (cc)
    chosen others true held deepens is e = absurd (cc)
    chosen others true held (goes further) is e =
        walk-goes t (xs ++ ys) after goals further held (ap (λ b. step goals t b) (opens_first-append xs ys after) ∙ is) ∙ others further e

-- a front of what goes goes
pub record Fronts (xs ys : List Token) (after : Bool) (goals next : List Goal) : Type 0 where
  pub left : List Goal
  pub front : walk xs (opens_first ys after) goals ≡ goes left
  pub back : walk ys after left ≡ goes next

pub walk_fronts : (xs ys : List Token) (after : Bool) (goals next : List Goal) → walk (xs ++ ys) after goals ≡ goes next → Fronts xs ys after goals next
walk_fronts [] ys after goals next e = record { left = goals; front = refl; back = e }
walk_fronts (t ∷ xs) ys after goals next e = chosen (λ further. walk_fronts xs ys after further next) (is_held t) refl (step goals t (opens_first (xs ++ ys) after)) refl e
  where
    chosen : ((further : List Goal) → walk (xs ++ ys) after further ≡ goes next → Fronts xs ys after further next)
        → (b : Bool) → is_held t ≡ b → (n : Next) → step goals t (opens_first (xs ++ ys) after) ≡ n → walked b n (λ further. walk (xs ++ ys) after further) ≡ goes next → Fronts (t ∷ xs) ys after goals next
    chosen others false held n is e = absurd (cc)
    chosen others true held stops is e = absurd (cc)
    chosen others true held deepens is e = absurd (cc)
    chosen others true held (goes further) is e =
        let inner = others further e in
        record {
          left = inner.left;
          front = walk-goes t xs (opens_first ys after) goals further held (ap (λ b. step goals t b) (sym (opens_first-append xs ys after)) ∙ is) ∙ inner.front;
          back = inner.back;
        }

-- one token that goes
pub record Steps (t : Token) (ts : List Token) (after : Bool) (goals next : List Goal) : Type 0 where
  pub held : is_held t ≡ true
  pub further : List Goal
  pub moves : step goals t (opens_first ts after) ≡ goes further
  pub rest : walk ts after further ≡ goes next

pub walk_step : (t : Token) (ts : List Token) (after : Bool) (goals next : List Goal) → walk (t ∷ ts) after goals ≡ goes next → Steps t ts after goals next
walk_step t ts after goals next e = chosen (is_held t) refl (step goals t (opens_first ts after)) refl e
  where
    chosen : (b : Bool) → is_held t ≡ b → (n : Next) → step goals t (opens_first ts after) ≡ n → walked b n (λ further. walk ts after further) ≡ goes next → Steps t ts after goals next
    chosen false held n is e = absurd (cc)
    chosen true held stops is e = absurd (cc)
    chosen true held deepens is e = absurd (cc)
    chosen true held (goes further) is e = record { held = held; further = further; moves = is; rest = e }

-- with others behind
step_others : (goals others : List Goal) (t : Token) (follows : Bool) (next : List Goal) → step goals t follows ≡ goes next → step (goals ++ others) t follows ≡ goes (next ++ others)
step_others [] others t follows next e = absurd (cc)
step_others (g ∷ goals) others t follows next e = chosen (step_others goals others t follows next) (moved g t follows) refl e
  where
    chosen : (step goals t follows ≡ goes next → step (goals ++ others) t follows ≡ goes (next ++ others))
        → (move : Move) → moved g t follows ≡ move → followed move goals (step goals t follows) ≡ goes next → followed (moved g t follows) (goals ++ others) (step (goals ++ others) t follows) ≡ goes (next ++ others)
    chosen inner wrong is e = absurd (cc)
    chosen inner walk_.deep is e = absurd (cc)
    chosen inner (push new) is e =
        let same : new ++ goals ≡ next = cc in
        ap (λ m. followed m (goals ++ others) (step (goals ++ others) t follows)) is ∙ ap goes (sym (append_assoc new goals others) ∙ ap (λ n. n ++ others) same)
    chosen inner pass is e = ap (λ m. followed m (goals ++ others) (step (goals ++ others) t follows)) is ∙ inner e

pub walk_others : (ts : List Token) (after : Bool) (goals others next : List Goal) → walk ts after goals ≡ goes next → walk ts after (goals ++ others) ≡ goes (next ++ others)
walk_others [] after goals others next e = let same : goals ≡ next = cc in ap (λ g. goes (g ++ others)) same
walk_others (t ∷ ts) after goals others next e =
    let s = walk_step t ts after goals next e in
    walk-goes t ts after (goals ++ others) (s.further ++ others) s.held (step_others goals others t (opens_first ts after) s.further s.moves) ∙ walk_others ts after s.further others next s.rest

-- goals that are not met at the end, or stop at a token, do so with others behind
pub unmet_others : (goals others : List Goal) → are_met goals ≡ false → are_met (goals ++ others) ≡ false
unmet_others [] others e = absurd (true≢false e)
unmet_others (steps ∷ goals) others e = unmet_others goals others e
unmet_others (values ∷ goals) others e = unmet_others goals others e
unmet_others (more_criteria ∷ goals) others e = unmet_others goals others e
unmet_others (a_text most ∷ goals) others e = unmet_others goals others e
unmet_others (_ ∷ goals) others e = refl

-- a goal before others is met only where it may be left out
pub steps_met : (g : Goal) (goals : List Goal) → g ≡ steps → are_met (g ∷ goals) ≡ are_met goals
steps_met g goals e = ap (λ x. are_met (x ∷ goals)) e

pub stops_others : (goals others : List Goal) (t : Token) (follows : Bool) → are_met goals ≡ false → step goals t follows ≡ stops → step (goals ++ others) t follows ≡ stops
stops_others [] others t follows unmet e = absurd (true≢false unmet)
stops_others (g ∷ goals) others t follows unmet e = chosen (stops_others goals others t follows) (moved g t follows) refl e
  where
    chosen : (are_met goals ≡ false → step goals t follows ≡ stops → step (goals ++ others) t follows ≡ stops)
        → (move : Move) → moved g t follows ≡ move → followed move goals (step goals t follows) ≡ stops → followed (moved g t follows) (goals ++ others) (step (goals ++ others) t follows) ≡ stops
    chosen inner wrong is e = ap (λ m. followed m (goals ++ others) (step (goals ++ others) t follows)) is
    chosen inner walk_.deep is e = absurd (cc)
    chosen inner (push new) is e = absurd (cc)
    chosen inner pass is e = ap (λ m. followed m (goals ++ others) (step (goals ++ others) t follows)) is ∙ inner (sym (steps_met g goals (pass_steps g t follows is)) ∙ unmet) e
