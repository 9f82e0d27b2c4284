-- What stands behind the word of a command is told apart in one way: where an argument ends, and what it is.
use Rattle.std.proofs.Common.{◌≡◌, ◌≢◌, ◌⊎◌, inl, inr, ℕ, false, List, [], ◌∷◌, ◌++◌, All, refl, sym, ap, subst, ◌∙◌, append-nil, if◌then◌else◌}
use Rattle.std.proofs.lemmas.List.Elements.{All-head, All-nil, All-tail}
use Rattle.mk_value.specs.Data.{Datum, integer, long, relation}
use Rattle.mk_value.specs.Data as data_
use Rattle.mk_value.specs.Literals as literals
use Rattle.mk_value.specs.Tokens.{Token, word, number, text, bytes, sign}
use Rattle.tokens.specs.Literals.{IsLiteral, max_braces}
use Rattle.tokens.specs.Paths.{IsStep}
use Rattle.tokens.proofs.Unambiguous.{same_literal}
use Rattle.expr_text.specs.Arguments.{Criterion, IsCriterion}
use Rattle.expr_text.specs.InLines.{AreValues, IsOperation, joined_tokens, values_tokens}
use Rattle.expr_text.specs.Queries as queries
use Rattle.expr_text.specs.Queries.{IsQuery, Query}
use Rattle.expr_text.specs.Spelling as expressions
use Rattle.expr_text.specs.Spelling.{comma, criterion_tokens, listed}
use Rattle.expr_text.specs.Walk.{Goal, a_count, a_name, a_query, a_sign, followed, goes, pass, push, step, steps, stops}
use Rattle.expr_text.proofs.InLines.{Apart, nothing_goes, query_goes}
use Rattle.expr_text.proofs.Unique.{same_query}
use Rattle.expr_text.proofs.Walking.{applied_walks, comma_parts, opens_first, path_query_walks, walk}
use Rattle.expr_text.proofs.Whole.{walk_step}
use Rattle.cmd_text.specs.Arguments.{AreArguments, Argument, IsArgument, IsLast, Last, MayBeLeftOut, count, criteria, ending_of, expression, literal, name, note, nothing, operation, part_of, parts_of, path, values, with_argument, with_arguments, with_last}
use Rattle.cmd_text.specs.Grammar.{SpellsArguments}
use Rattle.cmd_text.proofs.Spelling.{arguments_apart, last_apart}

-- of two fronts of one list the longer has tokens more, which stand behind the other
record Longer (long behind_long short behind_short : List Token) : Type 0 where
  pub more : List Token
  pub is : long ≡ short ++ more
  pub behind : more ++ behind_long ≡ behind_short

longer : (x r y s : List Token) → x ++ r ≡ y ++ s → Longer x r y s ⊎ Longer y s x r
longer x r [] s e = inl (record { more = x; is = refl; behind = e })
longer [] r (u ∷ y) s e = inr (record { more = u ∷ y; is = refl; behind = sym e })
longer (t ∷ x) r (u ∷ y) s e = let first : t ≡ u = cc in let further : x ++ r ≡ y ++ s = cc in chosen first (longer x r y s further)
  where
    chosen : t ≡ u → Longer x r y s ⊎ Longer y s x r → Longer (t ∷ x) r (u ∷ y) s ⊎ Longer (u ∷ y) s (t ∷ x) r
    chosen first (inl l) = inl (record { more = l.more; is = ap (λ z. z ∷ x) first ∙ ap (λ ts. u ∷ ts) l.is; behind = l.behind })
    chosen first (inr l) = inr (record { more = l.more; is = ap (λ z. z ∷ y) (sym first) ∙ ap (λ ts. t ∷ ts) l.is; behind = l.behind })

-- only the first token says whether an expression goes on
apart_first : (more r : List Token) → Apart (more ++ r) → Apart more
apart_first [] r apart = tt
apart_first (word letters ∷ more) r apart = tt
apart_first (number z ∷ more) r apart = tt
apart_first (text content ∷ more) r apart = tt
apart_first (bytes content ∷ more) r apart = tt
apart_first (sign c ∷ more) r apart = apart

no_opening : (t : Token) (ts : List Token) → Apart (t ∷ ts) → opens_first (t ∷ ts) false ≡ false
no_opening (word letters) ts apart = refl
no_opening (number z) ts apart = refl
no_opening (text content) ts apart = refl
no_opening (bytes content) ts apart = refl
no_opening (sign c) ts apart = apart.1

-- no token goes where nothing is still to come, nor such a token where steps may come
no_more_goes : (t : Token) (ts : List Token) (left : List Goal) → walk (t ∷ ts) false [] ≡ goes left → ⊥
no_more_goes t ts left e = let s = walk_step t ts false [] left e in let stopped : stops ≡ goes s.further = s.moves in cc

no_step_goes : (t : Token) (ts : List Token) → Apart (t ∷ ts) → (left : List Goal) → walk (t ∷ ts) false (steps ∷ []) ≡ goes left → ⊥
no_step_goes t ts apart left e = let s = walk_step t ts false (steps ∷ []) left e in let stopped : stops ≡ goes s.further = sym (no_step t apart) ∙ s.moves in cc
  where
    no_step : (t : Token) → Apart (t ∷ ts) → step (steps ∷ []) t (opens_first ts false) ≡ stops
    no_step (word letters) apart = refl
    no_step (number z) apart = refl
    no_step (text content) apart = refl
    no_step (bytes content) apart = refl
    no_step (sign c) apart = ap (λ b. followed (if b then push (a_count ∷ a_sign 47 ∷ a_name ∷ steps ∷ []) else pass) [] stops) apart.0

no_longer : (k : Query) (deep : ℕ) → IsQuery k deep → (t : Token) (ts : List Token) → Apart (t ∷ ts) → (left : List Goal) → walk (expressions.tokens_of k ++ (t ∷ ts)) false (a_query deep ∷ []) ≡ goes left → ⊥
no_longer (queries.path r) deep whole t ts apart left e = no_step_goes t ts apart left (sym (path_query_walks r whole deep (t ∷ ts) false [] (no_opening t ts apart)) ∙ e)
no_longer (queries.one o q u) deep whole t ts apart left e = no_more_goes t ts left (sym (applied_walks (queries.one o q u) deep tt whole (t ∷ ts) false []) ∙ e)
no_longer (queries.two o p q u) deep whole t ts apart left e = no_more_goes t ts left (sym (applied_walks (queries.two o p q u) deep tt whole (t ∷ ts) false []) ∙ e)

-- an expression ends where another does, if what stands there is no sign with which that would go on
expression_ends : (q k : Query) (deep : ℕ) → IsQuery q deep → IsQuery k deep → (more : List Token) → Apart more → expressions.tokens_of q ≡ expressions.tokens_of k ++ more → more ≡ []
expression_ends q k deep v w [] apart e = refl
expression_ends q k deep v w (t ∷ ts) apart e =
    let all = query_goes q deep [] [] v tt nothing_goes in
    absurd (no_longer k deep w t ts apart all.left (ap (λ x. walk x false (a_query deep ∷ [])) (sym e ∙ sym (append-nil (expressions.tokens_of q))) ∙ all.walks))

same_tokens : (q k : Query) (deep : ℕ) → IsQuery q deep → IsQuery k deep → expressions.tokens_of q ≡ expressions.tokens_of k → q ≡ k
same_tokens q k deep v w e = (same_query q k deep deep (comma ∷ []) (comma ∷ []) v w (comma_parts []) (comma_parts []) (ap (λ ts. ts ++ (comma ∷ [])) e)).0

same_ends : (q k : Query) (deep : ℕ) (r s : List Token) → IsQuery q deep → IsQuery k deep → Apart s → Longer (expressions.tokens_of q) r (expressions.tokens_of k) s → (q ≡ k) × (r ≡ s)
same_ends q k deep r s v w apart l =
    let none = expression_ends q k deep v w l.more (apart_first l.more r (subst Apart (sym l.behind) apart)) l.is in (
      same_tokens q k deep v w (l.is ∙ ap (λ more. expressions.tokens_of k ++ more) none ∙ append-nil (expressions.tokens_of k)),
      ap (λ more. more ++ r) (sym none) ∙ l.behind,
    )

one_expression : (q k : Query) (deep : ℕ) (r s : List Token) → IsQuery q deep → IsQuery k deep → Apart r → Apart s → expressions.tokens_of q ++ r ≡ expressions.tokens_of k ++ s → (q ≡ k) × (r ≡ s)
one_expression q k deep r s v w apart_r apart_s e = chosen (longer (expressions.tokens_of q) r (expressions.tokens_of k) s e)
  where
    chosen : Longer (expressions.tokens_of q) r (expressions.tokens_of k) s ⊎ Longer (expressions.tokens_of k) s (expressions.tokens_of q) r → (q ≡ k) × (r ≡ s)
    chosen (inl l) = same_ends q k deep r s v w apart_s l
    chosen (inr l) = let same = same_ends k q deep s r w v apart_r l in (sym same.0, sym same.1)

-- an operation on what a name stands for is an expression with one operator
operation_query : (q : Query) → IsOperation q → IsQuery q 1
operation_query (queries.one o (queries.path r) t) whole = (record { name = whole.1.1; steps = subst (λ ss. All IsStep ss) (sym whole.1.0) (All-nil IsStep) }, (whole.2, whole.3))
operation_query (queries.one o (queries.one i k u) t) whole = absurd whole.1
operation_query (queries.one o (queries.two i k l u) t) whole = absurd whole.1
operation_query (queries.path r) whole = absurd whole
operation_query (queries.two o p q t) whole = absurd whole

-- arguments of one form
one_argument : (deep : ℕ) (a b : Argument) (r s : List Token) → IsArgument deep a → IsArgument deep b → part_of a ≡ part_of b → Apart r → Apart s → with_argument a r ≡ with_argument b s → (a ≡ b) × (r ≡ s)
one_argument deep (name x) (name y) r s v w f apart_r apart_s e = let same : x ≡ y = cc in let behind : r ≡ s = cc in (ap name same, behind)
one_argument deep (count n) (count m) r s v w f apart_r apart_s e = let same : n ≡ m = cc in let behind : r ≡ s = cc in (ap count same, behind)
one_argument deep (path x) (path y) r s v w f apart_r apart_s e =
    let same = one_expression (queries.path x) (queries.path y) deep r s v w apart_r apart_s e in let route : x ≡ y = (let q = same.0 in cc) in (ap path route, same.1)
one_argument deep (literal d) (literal c) r s v w f apart_r apart_s e = let same = same_literal d c max_braces max_braces r s v w e in (ap literal same.0, same.1)
one_argument deep (expression q) (expression k) r s v w f apart_r apart_s e = let same = one_expression q k deep r s v w apart_r apart_s e in (ap expression same.0, same.1)
one_argument deep (operation q) (operation k) r s v w f apart_r apart_s e =
    let same = one_expression q k 1 r s (operation_query q v) (operation_query k w) apart_r apart_s e in (ap operation same.0, same.1)
one_argument deep _ _ r s v w f apart_r apart_s e = absurd (cc)

one_list : (deep : ℕ) (list others : List Argument) (r s : List Token) → AreArguments deep list → AreArguments deep others → parts_of list ≡ parts_of others → Apart r → Apart s → with_arguments list r ≡ with_arguments others s → (list ≡ others) × (r ≡ s)
one_list deep [] [] r s v w f apart_r apart_s e = (refl, e)
one_list deep [] (b ∷ others) r s v w f apart_r apart_s e = absurd (cc)
one_list deep (a ∷ list) [] r s v w f apart_r apart_s e = absurd (cc)
one_list deep (a ∷ list) (b ∷ others) r s v w f apart_r apart_s e =
    let part : part_of a ≡ part_of b = cc in
    let parts : parts_of list ≡ parts_of others = cc in
    let first = one_argument deep a b (with_arguments list r) (with_arguments others s) v.0 w.0 part (arguments_apart deep list v.1 r apart_r) (arguments_apart deep others w.1 s apart_s) e in
    let further = one_list deep list others r s v.1 w.1 parts apart_r apart_s first.1 in
    (ap (λ x. x ∷ list) first.0 ∙ ap (λ xs. b ∷ xs) further.0, further.1)

-- values and criteria, up to the end of a line
literal_begins : (d : Datum) (ts : List Token) → IsLiteral max_braces d → [] ≡ literals.tokens_of d ++ ts → ⊥
literal_begins (integer z) ts whole e = absurd whole
literal_begins (long z) ts whole e = cc
literal_begins (data_.text content) ts whole e = cc
literal_begins (data_.bytes content) ts whole e = cc
literal_begins (relation r) ts whole e = cc

one_values : (xs ys : List Datum) → AreValues xs → AreValues ys → values_tokens xs ≡ values_tokens ys → xs ≡ ys
one_values [] [] v w e = refl
one_values [] (y ∷ ys) v w e = absurd (literal_begins y (values_tokens ys) (All-head (λ d. IsLiteral max_braces d) y ys w) e)
one_values (x ∷ xs) [] v w e = absurd (literal_begins x (values_tokens xs) (All-head (λ d. IsLiteral max_braces d) x xs v) (sym e))
one_values (x ∷ xs) (y ∷ ys) v w e =
    let first = same_literal x y max_braces max_braces (values_tokens xs) (values_tokens ys) (All-head (λ d. IsLiteral max_braces d) x xs v) (All-head (λ d. IsLiteral max_braces d) y ys w) e in
    ap (λ d. d ∷ xs) first.0 ∙ ap (λ ds. y ∷ ds) (one_values xs ys (All-tail (λ d. IsLiteral max_braces d) x xs v) (All-tail (λ d. IsLiteral max_braces d) y ys w) first.1)

abbrev criterion : List ℕ → Datum → Criterion
criterion prop value = record { prop = prop; value = value }

one_criterion : (x y : Criterion) (r s : List Token) → IsCriterion x → IsCriterion y → criterion_tokens x ++ r ≡ criterion_tokens y ++ s → (x ≡ y) × (r ≡ s)
one_criterion x y r s v w e =
    let prop : x.prop ≡ y.prop = cc in
    let behind : literals.tokens_of x.value ++ r ≡ literals.tokens_of y.value ++ s = cc in
    let value = same_literal x.value y.value max_braces max_braces r s v.1 w.1 behind in
    (same_parts prop value.0, value.1)
  where
    same_parts : x.prop ≡ y.prop → x.value ≡ y.value → criterion x.prop x.value ≡ criterion y.prop y.value
    same_parts prop value = ap (λ n. criterion n x.value) prop ∙ ap (criterion y.prop) value

one_listed : (xs ys : List Criterion) → All IsCriterion xs → All IsCriterion ys → listed criterion_tokens xs ≡ listed criterion_tokens ys → xs ≡ ys
one_listed [] [] v w e = refl
one_listed [] (y ∷ ys) v w e = absurd (cc)
one_listed (x ∷ xs) [] v w e = absurd (cc)
one_listed (x ∷ xs) (y ∷ ys) v w e =
    let behind : criterion_tokens x ++ listed criterion_tokens xs ≡ criterion_tokens y ++ listed criterion_tokens ys = cc in
    let first = one_criterion x y (listed criterion_tokens xs) (listed criterion_tokens ys) (All-head IsCriterion x xs v) (All-head IsCriterion y ys w) behind in
    ap (λ c. c ∷ xs) first.0 ∙ ap (λ cs. y ∷ cs) (one_listed xs ys (All-tail IsCriterion x xs v) (All-tail IsCriterion y ys w) first.1)

one_criteria : (xs ys : List Criterion) → xs ≢ [] → ys ≢ [] → All IsCriterion xs → All IsCriterion ys → joined_tokens xs ≡ joined_tokens ys → xs ≡ ys
one_criteria [] ys some others v w e = absurd (some refl)
one_criteria (x ∷ xs) [] some others v w e = absurd (others refl)
one_criteria (x ∷ xs) (y ∷ ys) some others v w e = one_listed (x ∷ xs) (y ∷ ys) v w (ap (λ ts. comma ∷ ts) e)

-- what stands behind the arguments, where an empty note may be left out
abbrev EndsAs : Last → List Token → Type 0
EndsAs last ts = (ts ≡ with_last last []) ⊎ (MayBeLeftOut last × (ts ≡ []))

written : (last : Last) (ts : List Token) → (MayBeLeftOut last → ⊥) → EndsAs last ts → ts ≡ with_last last []
written last ts never (inl e) = e
written last ts never (inr e) = absurd (never e.0)

same_written : (last final : Last) (ts : List Token) → (MayBeLeftOut last → ⊥) → (MayBeLeftOut final → ⊥) → EndsAs last ts → EndsAs final ts → with_last last [] ≡ with_last final []
same_written last final ts never no_other v w = sym (written last ts never v) ∙ written final ts no_other w

-- a note is written in both readings, or left out in both and so empty
one_note : (a b : List ℕ) (ts : List Token) → EndsAs (note a) ts → EndsAs (note b) ts → a ≡ b
one_note a b ts (inl v) (inl w) = let e : text a ∷ [] ≡ text b ∷ [] = sym v ∙ w in cc
one_note a b ts (inl v) (inr w) = let e : text a ∷ [] ≡ [] = sym v ∙ w.1 in absurd (cc)
one_note a b ts (inr v) (inl w) = let e : text b ∷ [] ≡ [] = sym w ∙ v.1 in absurd (cc)
one_note a b ts (inr v) (inr w) = v.0 ∙ sym w.0

one_last : (last final : Last) (ts : List Token) → IsLast last → IsLast final → ending_of last ≡ ending_of final → EndsAs last ts → EndsAs final ts → last ≡ final
one_last nothing nothing ts p q f v w = refl
one_last (values xs) (values ys) ts p q f v w =
    ap values (one_values xs ys p q (sym (append-nil (values_tokens xs)) ∙ same_written (values xs) (values ys) ts (λ none. none) (λ none. none) v w ∙ append-nil (values_tokens ys)))
one_last (criteria xs) (criteria ys) ts p q f v w =
    ap criteria (one_criteria xs ys p.0 q.0 p.1 q.1 (sym (append-nil (joined_tokens xs)) ∙ same_written (criteria xs) (criteria ys) ts (λ none. none) (λ none. none) v w ∙ append-nil (joined_tokens ys)))
one_last (note a) (note b) ts p q f v w = ap note (one_note a b ts v w)
one_last _ _ ts p q f v w = absurd (cc)

-- the arguments and what stands behind them
record IsBehind (list : List Argument) (last : Last) (tokens : List Token) : Type 0 where
  pub ends : List Token
  pub ended : EndsAs last ends
  pub is : tokens ≡ with_arguments list ends

behind_arguments : (list : List Argument) (last : Last) (tokens : List Token) → SpellsArguments list last tokens → IsBehind list last tokens
behind_arguments list last tokens (inl e) = record { ends = with_last last []; ended = inl refl; is = e }
behind_arguments list last tokens (inr e) = record { ends = []; ended = inr (e.0, refl); is = e.1 }

ends_apart : (last : Last) (ts : List Token) → IsLast last → EndsAs last ts → Apart ts
ends_apart last ts whole (inl e) = subst Apart (sym e) (last_apart last whole)
ends_apart last ts whole (inr e) = subst Apart (sym e.1) tt

pub one_behind : (deep : ℕ) (list others : List Argument) (last final : Last) (tokens : List Token) → AreArguments deep list → AreArguments deep others → IsLast last → IsLast final
    → parts_of list ≡ parts_of others → ending_of last ≡ ending_of final → SpellsArguments list last tokens → SpellsArguments others final tokens → (list ≡ others) × (last ≡ final)
one_behind deep list others last final tokens v w p q parts ending spells other_spells =
    let one = behind_arguments list last tokens spells in
    let two = behind_arguments others final tokens other_spells in
    let same = one_list deep list others one.ends two.ends v w parts (ends_apart last one.ends p one.ended) (ends_apart final two.ends q two.ended) (sym one.is ∙ two.is) in
    (same.0, one_last last final two.ends p q ending (subst (EndsAs last) same.1 one.ended) two.ended)
