-- What stands in a line is gone over by its goals.
use Rattle.std.proofs.Common.{◌≡◌, ◌≢◌, ◌⊎◌, inl, inr, ℕ, suc, pos, ◌+◌, ◌-◌, ◌<◌, ◌≤◌, ◌^◌, ◌==◌, nat_lt, Bool, true, false, List, [], ◌∷◌, ◌++◌, length, All, Option, Some, None, refl, sym, ap, subst, ◌∙◌, append_assoc, append-nil, arith, if◌then◌else◌}
use Rattle.std.proofs.lemmas.List.Elements.{All-cons, All-head, All-tail}
use borrow.Author.Tests.{lt-ltb}
use Rattle.mk_value.specs.Data.{Datum, IsText, integer, long, relation}
use Rattle.mk_value.specs.Data as data_
use Rattle.mk_value.specs.Literals as literals
use Rattle.mk_value.specs.Literals.{rows_tokens}
use Rattle.mk_value.specs.Names.{IsName}
use Rattle.mk_value.specs.Paths.{Route}
use Rattle.mk_value.specs.Tokens.{Token, word, number, text, bytes, sign}
use Rattle.tokens.specs.Literals.{AreLiteralRows, IsLiteral, max_braces}
use Rattle.tokens.specs.Paths.{IsPath, path_tokens, step_tokens}
use Rattle.std.specs.List.{flat_map}
use Rattle.expr_text.specs.Arguments.{Criterion, IsCriterion, Tail}
use Rattle.expr_text.specs.InLines.{AreValues, IsKeptUp, IsOperation, joined_tokens, values_tokens}
use Rattle.expr_text.specs.Operators as forms
use Rattle.expr_text.specs.Operators.{Form, form_of, one_table, takes, word_of}
use Rattle.expr_text.specs.Queries as queries
use Rattle.expr_text.specs.Queries.{IsQuery, Query}
use Rattle.expr_text.specs.Spelling.{criterion_tokens, listed, tail_tokens, tokens_of}
use Rattle.expr_text.specs.Readers.{kept_form, operator_of}
use Rattle.expr_text.specs.Walk.{Goal, a_count, a_literal, a_name, a_path, a_query, a_sign, a_text, a_word, an_operation, are_met, criteria_goals, followed, form_goals, goes, is_held, member_goals, more_criteria, moved, operated, operator_named, pass, push, rows, step, steps, values, wrong}
use Rattle.expr_text.specs.declared.list.Item.TheVariants as items
use Rattle.expr_text.specs.declared.kept_up.KeptUp.{KeptUp}
use Rattle.expr_text.specs.declared.kept_up.KeptUp.TheVariants as kept_up
use Rattle.expr_text.specs.declared.operator.Operator.{Operator}
use Rattle.expr_text.specs.declared.operator.Operator.TheVariants as operators
use Rattle.expr_text.proofs.Held.{held_bytes, held_count, held_number, held_text, held_word}
use Rattle.expr_text.proofs.Limited.{GoesWhole}
use Rattle.expr_text.proofs.Meaning.{Meant, criterion_sound, meant_split}
use Rattle.expr_text.proofs.Whole.{single}
use Rattle.expr_text.proofs.Running.{held_operator, operator_word, word_operator}
use Rattle.expr_text.proofs.Walking.{along, applied_walks, criterion_walks, literal_walks, opens_first, path_query_walks, path_walks, rows_walk, tail_walks, walk, walk_first, walk_sign, walk_word, walked}

-- nothing begins here with which a path or the word of an operator would go on
abbrev pub Apart : List Token → Type 0
Apart [] = Unit {0}
Apart (sign c ∷ ts) = ((c == 47) ≡ false) × ((c == 40) ≡ false)
Apart (t ∷ ts) = Unit {0}

-- a goal in front of what goes whole
goes_first : (first : List Token) (goals others : List Goal) (ts : List Token) → walk (first ++ ts) false (goals ++ others) ≡ walk ts false others → GoesWhole others ts → GoesWhole (goals ++ others) (first ++ ts)
goes_first first goals others ts e g = record { left = g.left; walks = e ∙ g.walks; met = g.met }

pub word_goes : (letters : List ℕ) (others : List Goal) (ts : List Token) → is_held (word letters) ≡ true → moved (a_word letters) (word letters) (opens_first ts false) ≡ push [] → GoesWhole others ts → GoesWhole (a_word letters ∷ others) (word letters ∷ ts)
word_goes letters others ts held moves g = goes_first (word letters ∷ []) (a_word letters ∷ []) others ts (walk_first (word letters) ts false (a_word letters) [] others held moves) g

pub name_goes : (letters : List ℕ) (others : List Goal) (ts : List Token) → IsName letters → GoesWhole others ts → GoesWhole (a_name ∷ others) (word letters ∷ ts)
name_goes letters others ts named g = goes_first (word letters ∷ []) (a_name ∷ []) others ts (walk_word letters ts false others named) g

pub count_goes : (n : ℕ) (others : List Goal) (ts : List Token) → n < 2 ^ 63 → GoesWhole others ts → GoesWhole (a_count ∷ others) (number (pos n) ∷ ts)
count_goes n others ts small g = goes_first (number (pos n) ∷ []) (a_count ∷ []) others ts (walk_first (number (pos n)) ts false a_count [] others (held_count n small) refl) g

pub literal_goes : (d : Datum) (others : List Goal) (ts : List Token) → IsLiteral max_braces d → GoesWhole others ts → GoesWhole (a_literal max_braces ∷ others) (literals.tokens_of d ++ ts)
literal_goes d others ts whole g = goes_first (literals.tokens_of d) (a_literal max_braces ∷ []) others ts (literal_walks d max_braces whole ts false others) g

-- the further steps of a path may be left out
steps_pass : (t : Token) (ts : List Token) (follows : Bool) → Apart (t ∷ ts) → moved steps t follows ≡ pass
steps_pass (word letters) ts follows apart = refl
steps_pass (number z) ts follows apart = refl
steps_pass (text content) ts follows apart = refl
steps_pass (bytes content) ts follows apart = refl
steps_pass (sign c) ts follows apart = ap (λ b. if b then push (a_count ∷ a_sign 47 ∷ a_name ∷ steps ∷ []) else pass) apart.0

steps_goes : (others : List Goal) (ts : List Token) → Apart ts → GoesWhole others ts → GoesWhole (steps ∷ others) ts
steps_goes others [] apart g = record { left = steps ∷ others; walks = refl; met = (let e : others ≡ g.left = cc in ap are_met e ∙ g.met) }
steps_goes others (t ∷ ts) apart g = record {
  left = g.left;
  walks = ap (λ m. walked (is_held t) (followed m others (step others t (opens_first ts false))) (λ further. walk ts false further)) (steps_pass t ts (opens_first ts false) apart) ∙ g.walks;
  met = g.met;
}

pub path_goes : (r : Route) (others : List Goal) (ts : List Token) → IsPath r → Apart ts → GoesWhole others ts → GoesWhole (a_path ∷ others) (path_tokens r ++ ts)
path_goes r others ts whole apart g =
    let behind = steps_goes others ts apart g in record { left = behind.left; walks = path_walks r whole ts false others ∙ behind.walks; met = behind.met }

no_opening : (ts : List Token) → Apart ts → opens_first ts false ≡ false
no_opening [] apart = refl
no_opening (word letters ∷ ts) apart = refl
no_opening (number z ∷ ts) apart = refl
no_opening (text content ∷ ts) apart = refl
no_opening (bytes content ∷ ts) apart = refl
no_opening (sign c ∷ ts) apart = apart.1

pub query_goes : (q : Query) (depth : ℕ) (others : List Goal) (ts : List Token) → IsQuery q depth → Apart ts → GoesWhole others ts → GoesWhole (a_query depth ∷ others) (tokens_of q ++ ts)
query_goes (queries.path r) depth others ts whole apart g =
    let behind = steps_goes others ts apart g in
    record { left = behind.left; walks = path_query_walks r whole depth ts false others (no_opening ts apart) ∙ behind.walks; met = behind.met }
query_goes (queries.one o q t) depth others ts whole apart g = goes_first (tokens_of (queries.one o q t)) (a_query depth ∷ []) others ts (applied_walks (queries.one o q t) depth tt whole ts false others) g
query_goes (queries.two o p q t) depth others ts whole apart g = goes_first (tokens_of (queries.two o p q t)) (a_query depth ∷ []) others ts (applied_walks (queries.two o p q t) depth tt whole ts false others) g

-- an operation on what a name stands for
kept_moves : (o : Operator) (form : Form) (follows : Bool) → IsKeptUp o → takes o ≡ one_table form → moved an_operation (word (word_of o)) follows ≡ push (a_sign 40 ∷ a_name ∷ form_goals form)
kept_moves operators.Select form follows kept same = let f : forms.criteria ≡ form = cc in ap operated (word_operator operators.Select) ∙ ap (λ x. push (a_sign 40 ∷ a_name ∷ form_goals x)) f
kept_moves operators.Range form follows kept same = let f : forms.bounds ≡ form = cc in ap operated (word_operator operators.Range) ∙ ap (λ x. push (a_sign 40 ∷ a_name ∷ form_goals x)) f
kept_moves operators.Sort form follows kept same = let f : forms.orders ≡ form = cc in ap operated (word_operator operators.Sort) ∙ ap (λ x. push (a_sign 40 ∷ a_name ∷ form_goals x)) f
kept_moves operators.Counts form follows kept same = let f : forms.named ≡ form = cc in ap operated (word_operator operators.Counts) ∙ ap (λ x. push (a_sign 40 ∷ a_name ∷ form_goals x)) f
kept_moves operators.Keep form follows kept same = let f : forms.viewed ≡ form = cc in ap operated (word_operator operators.Keep) ∙ ap (λ x. push (a_sign 40 ∷ a_name ∷ form_goals x)) f
kept_moves _ form follows kept same = absurd kept

operation_walks : (o : Operator) (r : Route) (t : Tail) → IsOperation (queries.one o (queries.path r) t) → (rest : List Token) (others : List Goal)
    → walk (tokens_of (queries.one o (queries.path r) t) ++ rest) false (an_operation ∷ others) ≡ walk rest false others
operation_walks o r t whole rest others =
    let behind = tail_tokens t ++ (sign 41 ∷ []) in
    let goals = form_goals (form_of t) ++ others in
    ap (λ ss. walk (word (word_of o) ∷ sign 40 ∷ (((word r.name ∷ flat_map step_tokens ss) ++ behind) ++ rest)) false (an_operation ∷ others)) whole.1.0
    ∙ walk_first (word (word_of o)) (sign 40 ∷ word r.name ∷ (behind ++ rest)) false an_operation (a_sign 40 ∷ a_name ∷ form_goals (form_of t)) others (held_operator o) (kept_moves o (form_of t) true whole.0 whole.2)
    ∙ walk_sign 40 (word r.name ∷ (behind ++ rest)) false (a_sign 40) [] (a_name ∷ goals) refl
    ∙ walk_word r.name (behind ++ rest) false goals whole.1.1
    ∙ along (behind ++ rest) (tail_tokens t ++ (sign 41 ∷ rest)) false goals (append_assoc (tail_tokens t) (sign 41 ∷ []) rest)
    ∙ tail_walks t whole.3 rest false others

pub operation_goes : (q : Query) (others : List Goal) (ts : List Token) → IsOperation q → GoesWhole others ts → GoesWhole (an_operation ∷ others) (tokens_of q ++ ts)
operation_goes (queries.one o (queries.path r) t) others ts whole g = goes_first (tokens_of (queries.one o (queries.path r) t)) (an_operation ∷ []) others ts (operation_walks o r t whole ts others) g
operation_goes (queries.one o (queries.one i k u) t) others ts whole g = absurd whole.1
operation_goes (queries.one o (queries.two i k l u) t) others ts whole g = absurd whole.1
operation_goes (queries.path r) others ts whole g = absurd whole
operation_goes (queries.two o p q t) others ts whole g = absurd whole

-- up to the end: literals
pub values_go : (xs : List Datum) → AreValues xs → walk (values_tokens xs) false (values ∷ []) ≡ goes (values ∷ [])
values_go [] whole = refl
values_go (d ∷ xs) whole = first d (All-head (λ x. IsLiteral max_braces x) d xs whole) ∙ values_go xs (All-tail (λ x. IsLiteral max_braces x) d xs whole)
  where
    first : (d : Datum) → IsLiteral max_braces d → walk (literals.tokens_of d ++ values_tokens xs) false (values ∷ []) ≡ walk (values_tokens xs) false (values ∷ [])
    first (integer z) whole = absurd whole
    first (long z) whole = walk_first (number z) (values_tokens xs) false values (values ∷ []) [] (held_number z whole) refl
    first (data_.text content) whole = walk_first (text content) (values_tokens xs) false values (values ∷ []) [] (held_text content whole) refl
    first (data_.bytes content) whole = walk_first (bytes content) (values_tokens xs) false values (values ∷ []) [] (held_bytes content whole) refl
    first (relation r) whole =
        let less : max_braces - 1 ≡ 7 = omega arith in
        walk_sign 123 ((rows_tokens r ++ (sign 125 ∷ [])) ++ values_tokens xs) false values (rows 7 ∷ values ∷ []) [] refl
        ∙ along _ _ false (rows 7 ∷ values ∷ []) (append_assoc (rows_tokens r) (sign 125 ∷ []) (values_tokens xs))
        ∙ rows_walk r 7 (subst (λ d. AreLiteralRows d r) less whole.1) (values_tokens xs) false (values ∷ [])

pub values_goes : (xs : List Datum) → AreValues xs → GoesWhole (values ∷ []) (values_tokens xs)
values_goes xs whole = record { left = values ∷ []; walks = values_go xs whole; met = refl }

-- criteria
more_go : (xs : List Criterion) → All IsCriterion xs → walk (listed criterion_tokens xs) false (more_criteria ∷ []) ≡ goes (more_criteria ∷ [])
more_go [] whole = refl
more_go (c ∷ xs) whole =
    walk_sign 44 (criterion_tokens c ++ listed criterion_tokens xs) false more_criteria (member_goals items.Criterion ++ (more_criteria ∷ [])) [] refl
    ∙ criterion_walks c (All-head IsCriterion c xs whole) (listed criterion_tokens xs) false (more_criteria ∷ [])
    ∙ more_go xs (All-tail IsCriterion c xs whole)

pub criteria_goes : (xs : List Criterion) → xs ≢ [] → All IsCriterion xs → GoesWhole criteria_goals (joined_tokens xs)
criteria_goes [] some whole = absurd (some refl)
criteria_goes (c ∷ xs) some whole = record {
  left = more_criteria ∷ [];
  walks = criterion_walks c (All-head IsCriterion c xs whole) (listed criterion_tokens xs) false (more_criteria ∷ []) ∙ more_go xs (All-tail IsCriterion c xs whole);
  met = refl;
}

-- a text, or none
pub text_goes : (most : ℕ) (content : List ℕ) → IsText content → length content ≤ most → GoesWhole (a_text most ∷ []) (text content ∷ [])
text_goes most content whole short = record {
  left = [];
  walks = walk_first (text content) [] false (a_text most) [] [] (held_text content whole) (ap (λ b. if b then push [] else wrong) (lt-ltb (length content) (suc most) (omega (arith, short))));
  met = refl;
}

pub no_text_goes : (most : ℕ) → GoesWhole (a_text most ∷ []) []
no_text_goes most = record { left = a_text most ∷ []; walks = refl; met = refl }

pub nothing_goes : GoesWhole [] []
nothing_goes = record { left = []; walks = refl; met = refl }

-- the operators whose rows may be kept up to date, by their words
pub kept_moved : (kept : KeptUp) (t : Token) → t ≡ word (word_of (operator_of kept)) → (follows : Bool) → moved an_operation t follows ≡ push (a_sign 40 ∷ a_name ∷ form_goals (kept_form kept))
kept_moved kept_up.Select t e follows = ap (λ x. moved an_operation x follows) e ∙ kept_moves operators.Select forms.criteria follows tt refl
kept_moved kept_up.Range t e follows = ap (λ x. moved an_operation x follows) e ∙ kept_moves operators.Range forms.bounds follows tt refl
kept_moved kept_up.Sort t e follows = ap (λ x. moved an_operation x follows) e ∙ kept_moves operators.Sort forms.orders follows tt refl
kept_moved kept_up.Counts t e follows = ap (λ x. moved an_operation x follows) e ∙ kept_moves operators.Counts forms.named follows tt refl
kept_moved kept_up.Keep t e follows = ap (λ x. moved an_operation x follows) e ∙ kept_moves operators.Keep forms.viewed follows tt refl

pub no_kept : (t : Token) → ((kept : KeptUp) → t ≡ word (word_of (operator_of kept)) → ⊥) → (follows : Bool) → moved an_operation t follows ≡ wrong
no_kept (word letters) none follows = chosen (operator_named letters) refl
  where
    chosen : (found : Option Operator) → operator_named letters ≡ found → operated (operator_named letters) ≡ wrong
    chosen None e = ap operated e
    chosen (Some operators.Select) e = absurd (none kept_up.Select (ap word (operator_word letters operators.Select e)))
    chosen (Some operators.Range) e = absurd (none kept_up.Range (ap word (operator_word letters operators.Range e)))
    chosen (Some operators.Sort) e = absurd (none kept_up.Sort (ap word (operator_word letters operators.Sort e)))
    chosen (Some operators.Counts) e = absurd (none kept_up.Counts (ap word (operator_word letters operators.Counts e)))
    chosen (Some operators.Keep) e = absurd (none kept_up.Keep (ap word (operator_word letters operators.Keep e)))
    chosen (Some _) e = ap operated e
no_kept (number z) none follows = refl
no_kept (text content) none follows = refl
no_kept (bytes content) none follows = refl
no_kept (sign s) none follows = refl

-- what meets the goals of criteria
pub criteria_sound : (ts : List Token) → Meant criteria_goals ts → (list : List Criterion) × (list ≢ []) × All IsCriterion list × (ts ≡ joined_tokens list)
criteria_sound ts m =
    let both = meant_split (member_goals items.Criterion) (more_criteria ∷ []) ts m in
    let c = criterion_sound both.0 both.2 in
    let list = single more_criteria both.1 both.3 in
    (c.0 ∷ list.0, not_empty c.0 list.0, All-cons IsCriterion c.0 list.0 c.1 list.1, both.4 ∙ ap (λ t. t ++ both.1) c.2 ∙ ap (λ t. criterion_tokens c.0 ++ t) list.2)
  where
    not_empty : (c : Criterion) (list : List Criterion) → (c ∷ list) ≢ []
    not_empty c list e = cc
