-- The same goals with a greater depth.
use Rattle.std.proofs.Common.{◌≡◌, ◌⊎◌, inl, inr, ℕ, zero, suc, pos, negsuc, ◌==◌, Bool, true, false, List, [], ◌∷◌, ◌++◌, length, map, nat_lt, Option, Some, None, refl, sym, ap, subst, ◌∙◌, true≢false, if◌then◌else◌}
use Rattle.std.proofs.lemmas.Bool.{false≢true}
use Rattle.std.specs.Str.{bytes_eq}
use Rattle.mk_value.specs.Tokens.{Token, word, number, text, bytes, sign}
use Rattle.expr_text.specs.Operators as forms
use Rattle.expr_text.specs.Operators.{Form, Takes, one_table, takes, two_tables}
use Rattle.expr_text.specs.Queries as queries
use Rattle.expr_text.specs.Queries.{IsQuery, Query}
use Rattle.expr_text.specs.Walk.{Goal, Move, Next, a_count, a_key, a_literal, a_name, a_number, a_path, a_query, a_row, a_sign, a_text, a_word, after_row, after_value, an_operation, are_met, begun, brace, deepens, end_goals, end_sign, followed, form_goals, goes, is_held, member_goals, more, more_criteria, moved, opened, operated, operator_named, pass, push, rows, step, steps, stops, table_goals, values, wrong}
use Rattle.expr_text.specs.Walk as walk_
use Rattle.expr_text.specs.declared.list.Item.{Item}
use Rattle.expr_text.specs.declared.list.Item.TheVariants as items
use Rattle.expr_text.specs.declared.operator.Operator.{Operator}
use Rattle.expr_text.specs.declared.operator.Operator.TheVariants as operators
use Rattle.expr_text.proofs.Walking.{opens_first, walk, walk-goes, walked}
use Rattle.expr_text.proofs.Whole.{walk_step}

-- one operator more may stand in each expression
abbrev pub raise : Goal → Goal
raise (a_query depth) = a_query (suc depth)
raise g = g

abbrev pub raised : List Goal → List Goal
raised [] = []
raised (g ∷ goals) = raise g ∷ raised goals

pub raised-append : (xs ys : List Goal) → raised (xs ++ ys) ≡ raised xs ++ raised ys
raised-append [] ys = refl
raised-append (x ∷ xs) ys = ap (λ g. raise x ∷ g) (raised-append xs ys)

abbrev lift : Move → Move
lift wrong = wrong
lift walk_.deep = walk_.deep
lift (push new) = push (raised new)
lift pass = pass

raised_form : (form : Form) → raised (form_goals form) ≡ form_goals form
raised_form forms.nothing = refl
raised_form forms.criteria = refl
raised_form forms.bounds = refl
raised_form forms.orders = refl
raised_form forms.names = refl
raised_form forms.inner = refl
raised_form forms.renamed = refl
raised_form forms.rows = refl
raised_form forms.named = refl
raised_form forms.viewed = refl
raised_form forms.viewed_as = refl

raised_table : (depth : ℕ) (x : Takes) → raised (table_goals depth x) ≡ table_goals (suc depth) x
raised_table depth (one_table form) = ap (λ g. a_query (suc depth) ∷ g) (raised_form form)
raised_table depth (two_tables form) = ap (λ g. a_query (suc depth) ∷ a_sign 44 ∷ a_query (suc depth) ∷ g) (raised_form form)

raised_item : (item : Item) → raised (member_goals item ++ (more item ∷ [])) ≡ member_goals item ++ (more item ∷ [])
raised_item items.Criterion = refl
raised_item items.Range = refl
raised_item items.Order = refl
raised_item items.Name = refl
raised_item items.Named = refl

raised_end : (item : Item) → raised (end_goals item) ≡ end_goals item
raised_end items.Criterion = refl
raised_end items.Range = refl
raised_end items.Order = refl
raised_end items.Name = refl
raised_end items.Named = refl

-- a choice by a sign
lift_sign : (b : Bool) (a : List Goal) (x : Move) → raised a ≡ a → x ≡ lift x → (if b then push a else x) ≡ lift (if b then push a else x)
lift_sign true a x same e = ap push (sym same)
lift_sign false a x same e = e

lift_brace : (b : Bool) (depth : ℕ) → (if b then brace depth else wrong) ≡ lift (if b then brace depth else wrong)
lift_brace true zero = refl
lift_brace true (suc depth) = refl
lift_brace false depth = refl

opened_lifts : (found : Option Operator) (depth : ℕ) → (opened found depth ≡ walk_.deep) ⊎ (opened found (suc depth) ≡ lift (opened found depth))
opened_lifts None depth = inr refl
opened_lifts (Some o) zero = inl refl
opened_lifts (Some o) (suc depth) = inr (ap (λ g. push (a_sign 40 ∷ g)) (sym (raised_table depth (takes o))))

-- what is done with a name is as deep as ever
operated_lifts : (found : Option Operator) → operated found ≡ lift (operated found)
operated_lifts (Some operators.Select) = refl
operated_lifts (Some operators.Range) = refl
operated_lifts (Some operators.Sort) = refl
operated_lifts (Some operators.Counts) = refl
operated_lifts (Some operators.Keep) = refl
operated_lifts None = refl
operated_lifts (Some _) = refl

operated_no_deep : (found : Option Operator) → operated found ≡ walk_.deep → ⊥
operated_no_deep (Some operators.Select) e = cc
operated_no_deep (Some operators.Range) e = cc
operated_no_deep (Some operators.Sort) e = cc
operated_no_deep (Some operators.Counts) e = cc
operated_no_deep (Some operators.Keep) e = cc
operated_no_deep None e = cc
operated_no_deep (Some _) e = cc

-- a token moves a raised goal as it moves the goal
pub moved_lifts : (g : Goal) (t : Token) (follows : Bool) → (moved g t follows ≡ walk_.deep) ⊎ (moved (raise g) t follows ≡ lift (moved g t follows))
moved_lifts (a_sign s) (sign c) follows = inr (lift_sign (c == s) [] wrong refl refl)
moved_lifts a_name (word letters) follows = inr refl
moved_lifts a_count (number (pos n)) follows = inr refl
moved_lifts a_number (number z) follows = inr refl
moved_lifts (a_query depth) (word letters) false = inr refl
moved_lifts (a_query depth) (word letters) true = opened_lifts (operator_named letters) depth
moved_lifts a_path (word letters) follows = inr refl
moved_lifts steps (sign c) follows = inr (lift_sign (c == 47) (a_count ∷ a_sign 47 ∷ a_name ∷ steps ∷ []) pass refl refl)
moved_lifts (a_literal depth) (sign c) follows = inr (lift_brace (c == 123) depth)
moved_lifts (rows depth) (sign c) follows =
    inr (lift_sign (c == 125) [] (if c == 40 then push (a_literal depth ∷ after_value depth ∷ after_row depth ∷ []) else wrong) refl (lift_sign (c == 40) (a_literal depth ∷ after_value depth ∷ after_row depth ∷ []) wrong refl refl))
moved_lifts (after_row depth) (sign c) follows =
    inr (lift_sign (c == 125) [] (if c == 44 then push (a_row depth ∷ after_row depth ∷ []) else wrong) refl (lift_sign (c == 44) (a_row depth ∷ after_row depth ∷ []) wrong refl refl))
moved_lifts (a_row depth) (sign c) follows = inr (lift_sign (c == 40) (a_literal depth ∷ after_value depth ∷ []) wrong refl refl)
moved_lifts (after_value depth) (sign c) follows =
    inr (lift_sign (c == 41) [] (if c == 44 then push (a_literal depth ∷ after_value depth ∷ []) else wrong) refl (lift_sign (c == 44) (a_literal depth ∷ after_value depth ∷ []) wrong refl refl))
moved_lifts a_key (word letters) follows = inr refl
moved_lifts a_key (sign c) follows = inr (lift_sign (c == 45) (a_name ∷ []) wrong refl refl)
moved_lifts (more item) (sign c) follows =
    inr (lift_sign (c == 44) (member_goals item ++ (more item ∷ [])) (if c == end_sign item then push (end_goals item) else wrong) (raised_item item) (lift_sign (c == end_sign item) (end_goals item) wrong (raised_end item) refl))
moved_lifts (a_word letters) (word other) follows = inr (lift_sign (bytes_eq other letters) [] wrong refl refl)
moved_lifts values (sign c) follows = inr (lift_sign (c == 123) (rows 7 ∷ values ∷ []) wrong refl refl)
moved_lifts more_criteria (sign c) follows = inr (lift_sign (c == 44) (member_goals items.Criterion ++ (more_criteria ∷ [])) wrong refl refl)
moved_lifts (a_text most) (text content) follows = inr (lift_sign (nat_lt (length content) (suc most)) [] wrong refl refl)
moved_lifts an_operation (word letters) follows = inr (operated_lifts (operator_named letters))
moved_lifts _ _ follows = inr refl

-- the same of goals one after another
abbrev lift_next : Next → Next
lift_next stops = stops
lift_next deepens = deepens
lift_next (goes goals) = goes (raised goals)

step_lifts : (goals : List Goal) (t : Token) (follows : Bool) → (step goals t follows ≡ deepens) ⊎ (step (raised goals) t follows ≡ lift_next (step goals t follows))
step_lifts [] t follows = inr refl
step_lifts (g ∷ goals) t follows = chosen (step_lifts goals t follows) (moved g t follows) refl (moved_lifts g t follows)
  where
    chosen : (step goals t follows ≡ deepens) ⊎ (step (raised goals) t follows ≡ lift_next (step goals t follows)) → (m : Move) → moved g t follows ≡ m
        → (moved g t follows ≡ walk_.deep) ⊎ (moved (raise g) t follows ≡ lift (moved g t follows))
        → (followed (moved g t follows) goals (step goals t follows) ≡ deepens) ⊎ (followed (moved (raise g) t follows) (raised goals) (step (raised goals) t follows) ≡ lift_next (followed (moved g t follows) goals (step goals t follows)))
    chosen others m is (inl deep) = inl (ap (λ m. followed m goals (step goals t follows)) deep)
    chosen others wrong is (inr lifts) =
        inr (ap (λ m. followed m (raised goals) (step (raised goals) t follows)) (lifts ∙ ap lift is) ∙ sym (ap (λ m. lift_next (followed m goals (step goals t follows))) is))
    chosen others walk_.deep is (inr lifts) = inl (ap (λ m. followed m goals (step goals t follows)) is)
    chosen others (push new) is (inr lifts) =
        inr (ap (λ m. followed m (raised goals) (step (raised goals) t follows)) (lifts ∙ ap lift is) ∙ ap goes (sym (raised-append new goals)) ∙ sym (ap (λ m. lift_next (followed m goals (step goals t follows))) is))
    chosen (inl deep) pass is (inr lifts) = inl (ap (λ m. followed m goals (step goals t follows)) is ∙ deep)
    chosen (inr same) pass is (inr lifts) =
        inr (ap (λ m. followed m (raised goals) (step (raised goals) t follows)) (lifts ∙ ap lift is) ∙ same ∙ sym (ap (λ m. lift_next (followed m goals (step goals t follows))) is))

pub step_goes_raised : (goals : List Goal) (t : Token) (follows : Bool) (next : List Goal) → step goals t follows ≡ goes next → step (raised goals) t follows ≡ goes (raised next)
step_goes_raised goals t follows next e = chosen (step_lifts goals t follows)
  where
    chosen : (step goals t follows ≡ deepens) ⊎ (step (raised goals) t follows ≡ lift_next (step goals t follows)) → step (raised goals) t follows ≡ goes (raised next)
    chosen (inl deep) = absurd (cc)
    chosen (inr same) = same ∙ ap lift_next e

pub step_stops_raised : (goals : List Goal) (t : Token) (follows : Bool) → step goals t follows ≡ stops → step (raised goals) t follows ≡ stops
step_stops_raised goals t follows e = chosen (step_lifts goals t follows)
  where
    chosen : (step goals t follows ≡ deepens) ⊎ (step (raised goals) t follows ≡ lift_next (step goals t follows)) → step (raised goals) t follows ≡ stops
    chosen (inl deep) = absurd (cc)
    chosen (inr same) = same ∙ ap lift_next e

pub walk_raised : (ts : List Token) (after : Bool) (goals next : List Goal) → walk ts after goals ≡ goes next → walk ts after (raised goals) ≡ goes (raised next)
walk_raised [] after goals next e = let same : goals ≡ next = cc in ap (λ g. goes (raised g)) same
walk_raised (t ∷ ts) after goals next e =
    let s = walk_step t ts after goals next e in
    walk-goes t ts after (raised goals) (raised s.further) s.held (step_goes_raised goals t (opens_first ts after) s.further s.moves) ∙ walk_raised ts after s.further next s.rest

pub met_raised : (goals : List Goal) → are_met (raised goals) ≡ are_met goals
met_raised [] = refl
met_raised (steps ∷ goals) = met_raised goals
met_raised (values ∷ goals) = met_raised goals
met_raised (more_criteria ∷ goals) = met_raised goals
met_raised (a_text most ∷ goals) = met_raised goals
met_raised (a_query depth ∷ goals) = refl
met_raised (_ ∷ goals) = refl

-- raised so many times
abbrev pub more_deep : ℕ → ℕ → ℕ
more_deep zero depth = depth
more_deep (suc k) depth = suc (more_deep k depth)

abbrev pub raised_by : ℕ → List Goal → List Goal
raised_by zero goals = goals
raised_by (suc k) goals = raised (raised_by k goals)

pub query_raised : (k depth : ℕ) → raised_by k (a_query depth ∷ []) ≡ a_query (more_deep k depth) ∷ []
query_raised zero depth = refl
query_raised (suc k) depth = ap raised (query_raised k depth)

pub walk_raised_by : (k : ℕ) (ts : List Token) (after : Bool) (goals next : List Goal) → walk ts after goals ≡ goes next → walk ts after (raised_by k goals) ≡ goes (raised_by k next)
walk_raised_by zero ts after goals next e = e
walk_raised_by (suc k) ts after goals next e = walk_raised ts after (raised_by k goals) (raised_by k next) (walk_raised_by k ts after goals next e)

pub stops_raised_by : (k : ℕ) (goals : List Goal) (t : Token) (follows : Bool) → step goals t follows ≡ stops → step (raised_by k goals) t follows ≡ stops
stops_raised_by zero goals t follows e = e
stops_raised_by (suc k) goals t follows e = step_stops_raised (raised_by k goals) t follows (stops_raised_by k goals t follows e)

pub goes_raised_by : (k : ℕ) (goals : List Goal) (t : Token) (follows : Bool) (next : List Goal) → step goals t follows ≡ goes next → step (raised_by k goals) t follows ≡ goes (raised_by k next)
goes_raised_by zero goals t follows next e = e
goes_raised_by (suc k) goals t follows next e = step_goes_raised (raised_by k goals) t follows (raised_by k next) (goes_raised_by k goals t follows next e)

pub met_raised_by : (k : ℕ) (goals : List Goal) → are_met (raised_by k goals) ≡ are_met goals
met_raised_by zero goals = refl
met_raised_by (suc k) goals = met_raised (raised_by k goals) ∙ met_raised_by k goals

-- what is within a depth is within a greater one
pub deeper_query : (q : Query) (deep k : ℕ) → IsQuery q deep → IsQuery q (more_deep deep k)
deeper_query (queries.path r) deep k whole = whole
deeper_query (queries.one o q t) zero k whole = absurd whole
deeper_query (queries.one o q t) (suc deep) k whole = (deeper_query q deep k whole.0, whole.1)
deeper_query (queries.two o p q t) zero k whole = absurd whole
deeper_query (queries.two o p q t) (suc deep) k whole = (deeper_query p deep k whole.0, (deeper_query q deep k whole.1.0, whole.1.1))

-- an operator that opens too deep opens where one more may
pub record Opens (goals : List Goal) : Type 0 where
  pub left : List Goal
  pub is : goals ≡ a_sign 40 ∷ left

opened_too_deep : (found : Option Operator) (depth : ℕ) → opened found depth ≡ walk_.deep → (left : List Goal) × (opened found (suc depth) ≡ push (a_sign 40 ∷ left))
opened_too_deep None depth e = absurd (cc)
opened_too_deep (Some o) zero e = (table_goals 0 (takes o), refl)
opened_too_deep (Some o) (suc depth) e = absurd (cc)

-- only an expression opens too deep, at a word that a parenthesis follows; without it, it is a path
pub record TooDeepHere (g : Goal) (t : Token) (follows : Bool) : Type 0 where
  pub opens : follows ≡ true
  pub left : List Goal
  pub deeper : moved (raise g) t true ≡ push (a_sign 40 ∷ left)
  pub path : moved g t false ≡ push (steps ∷ [])

no_deep : (b : Bool) (a : List Goal) (x : Move) → (x ≡ walk_.deep → ⊥) → (if b then push a else x) ≡ walk_.deep → ⊥
no_deep true a x none e = cc
no_deep false a x none e = none e

wrong_no_deep : wrong ≡ walk_.deep → ⊥
wrong_no_deep e = cc

pass_no_deep : pass ≡ walk_.deep → ⊥
pass_no_deep e = cc

brace_no_deep : (b : Bool) (depth : ℕ) → (if b then brace depth else wrong) ≡ walk_.deep → ⊥
brace_no_deep true zero e = cc
brace_no_deep true (suc depth) e = cc
brace_no_deep false depth e = cc

pub deep_goal : (g : Goal) (t : Token) (follows : Bool) → moved g t follows ≡ walk_.deep → TooDeepHere g t follows
deep_goal (a_query depth) (word letters) true e =
    let one = opened_too_deep (operator_named letters) depth e in
    record { opens = refl; left = one.0; deeper = one.1; path = refl }
deep_goal (a_query depth) (word letters) false e = absurd (cc)
deep_goal (a_sign s) (sign c) follows e = absurd (no_deep (c == s) [] wrong wrong_no_deep e)
deep_goal a_count (number (pos n)) follows e = absurd (cc)
deep_goal steps (sign c) follows e = absurd (no_deep (c == 47) _ pass pass_no_deep e)
deep_goal (a_literal depth) (sign c) follows e = absurd (brace_no_deep (c == 123) depth e)
deep_goal (rows depth) (sign c) follows e = absurd (no_deep (c == 125) [] _ (no_deep (c == 40) _ wrong wrong_no_deep) e)
deep_goal (after_row depth) (sign c) follows e = absurd (no_deep (c == 125) [] _ (no_deep (c == 44) _ wrong wrong_no_deep) e)
deep_goal (a_row depth) (sign c) follows e = absurd (no_deep (c == 40) _ wrong wrong_no_deep e)
deep_goal (after_value depth) (sign c) follows e = absurd (no_deep (c == 41) [] _ (no_deep (c == 44) _ wrong wrong_no_deep) e)
deep_goal a_key (sign c) follows e = absurd (no_deep (c == 45) _ wrong wrong_no_deep e)
deep_goal (more item) (sign c) follows e = absurd (no_deep (c == 44) _ _ (no_deep (c == end_sign item) _ wrong wrong_no_deep) e)
deep_goal a_name (word letters) follows e = absurd (cc)
deep_goal a_number (number z) follows e = absurd (cc)
deep_goal a_path (word letters) follows e = absurd (cc)
deep_goal (a_word letters) (word other) follows e = absurd (no_deep (bytes_eq other letters) [] wrong wrong_no_deep e)
deep_goal values (sign c) follows e = absurd (no_deep (c == 123) _ wrong wrong_no_deep e)
deep_goal more_criteria (sign c) follows e = absurd (no_deep (c == 44) _ wrong wrong_no_deep e)
deep_goal (a_text most) (text content) follows e = absurd (no_deep (nat_lt (length content) (suc most)) [] wrong wrong_no_deep e)
deep_goal an_operation (word letters) follows e = absurd (operated_no_deep (operator_named letters) e)
deep_goal _ _ follows e = absurd (cc)
