-- Tokens spell one expression.
use Rattle.std.proofs.Common.{◌≡◌, ◌≢◌, ◌⊎◌, inl, inr, ℕ, zero, suc, pos, ◌==◌, Bool, true, false, List, [], ◌∷◌, ◌++◌, All, Some, refl, sym, ap, subst, ◌∙◌, append_assoc, true≢false, if◌then◌else◌}
use Rattle.std.proofs.lemmas.Bool.{eq-eqb}
use Rattle.std.proofs.lemmas.List.Elements.{All-head, All-tail}
use Rattle.std.specs.List.{flat_map}
use Rattle.mk_value.specs.Literals as literals
use Rattle.mk_value.specs.Names.{IsName}
use Rattle.mk_value.specs.Paths.{Route}
use Rattle.mk_value.specs.Tokens.{Token, word, number, sign}
use Rattle.mk_value.specs.declared.path.Step.{Step}
use Rattle.tokens.specs.Literals.{max_braces}
use Rattle.tokens.specs.Cutting.{Piece}
use Rattle.tokens.specs.Fronts.{tokens_in}
use Rattle.tokens.specs.Paths.{path_tokens, step_tokens}
use Rattle.tokens.proofs.Chains.{cut_once}
use Rattle.tokens.proofs.Unambiguous.{same_literal}
use Rattle.expr_text.specs.Arguments as arguments
use Rattle.expr_text.specs.Arguments.{Criterion, IsCriterion, IsOrder, IsRange, IsTail, Range, Tail}
use Rattle.expr_text.specs.Grammar.{Reads}
use Rattle.expr_text.specs.Operators.{Form, Takes, form_of, one_table, takes, two_tables, word_of}
use Rattle.expr_text.specs.Queries as queries
use Rattle.expr_text.specs.Queries.{IsQuery, Query, max_operators}
use Rattle.expr_text.specs.Spelling.{criterion_tokens, listed, names_tokens, order_tokens, range_tokens, tail_tokens, tokens_of}
use Rattle.expr_text.specs.declared.expr.Order.{Order}
use Rattle.expr_text.specs.declared.operator.Operator.{Operator}
use Rattle.expr_text.proofs.Running.{word_operator}
use Rattle.expr_text.proofs.Walking.{Parted, comma_parts, tail_parts}
use Rattle.expr_text.specs.Walk.{operator_named}

-- what is behind the first token
cut_first : (t u : Token) (x y : List Token) → t ∷ x ≡ u ∷ y → x ≡ y
cut_first t u x y e = cc

signs_differ : (a b : ℕ) (x y : List Token) → (a == b) ≡ false → sign a ∷ x ≡ sign b ∷ y → ⊥
signs_differ a b x y n e = let f : a ≡ b = cc in true≢false (sym (same_number b) ∙ ap (λ c. c == b) (sym f) ∙ n)
  where
    same_number : (n : ℕ) → (n == n) ≡ true
    same_number n = eq-eqb n n refl

-- a list up to the sign behind it
same_list : {X : Type 0} (P : X → Type 0) (f : X → List Token) (end : ℕ) → (end == 44) ≡ false
    → ((x y : X) (r s : List Token) → P x → P y → f x ++ r ≡ f y ++ s → (x ≡ y) × (r ≡ s))
    → (xs ys : List X) (r s : List Token) → All P xs → All P ys → listed f xs ++ (sign end ∷ r) ≡ listed f ys ++ (sign end ∷ s) → (xs ≡ ys) × (r ≡ s)
same_list P f end no_comma member [] [] r s p q e = (refl, cut_first (sign end) (sign end) r s e)
same_list P f end no_comma member [] (y ∷ ys) r s p q e = absurd (signs_differ end 44 r ((f y ++ listed f ys) ++ (sign end ∷ s)) no_comma e)
same_list P f end no_comma member (x ∷ xs) [] r s p q e = absurd (signs_differ end 44 s ((f x ++ listed f xs) ++ (sign end ∷ r)) no_comma (sym e))
same_list P f end no_comma member (x ∷ xs) (y ∷ ys) r s p q e =
    let first = member x y (listed f xs ++ (sign end ∷ r)) (listed f ys ++ (sign end ∷ s)) (All-head P x xs p) (All-head P y ys q) (
    sym (append_assoc (f x) (listed f xs) (sign end ∷ r)) ∙ cut_first (sign 44) (sign 44) ((f x ++ listed f xs) ++ (sign end ∷ r)) ((f y ++ listed f ys) ++ (sign end ∷ s)) e ∙ append_assoc (f y) (listed f ys) (sign end ∷ s)) in
    let others = same_list P f end no_comma member xs ys r s (All-tail P x xs p) (All-tail P y ys q) first.1 in
    (ap (λ z. z ∷ xs) first.0 ∙ ap (λ zs. y ∷ zs) others.0, others.1)

same_name : (x y : List ℕ) (r s : List Token) → IsName x → IsName y → (word x ∷ []) ++ r ≡ (word y ∷ []) ++ s → (x ≡ y) × (r ≡ s)
same_name x y r s p q e = let f : x ≡ y = cc in let g : r ≡ s = cc in (f, g)

same_criterion : (x y : Criterion) (r s : List Token) → IsCriterion x → IsCriterion y → criterion_tokens x ++ r ≡ criterion_tokens y ++ s → (x ≡ y) × (r ≡ s)
same_criterion x y r s p q e =
    let name : x.prop ≡ y.prop = cc in
    let behind : literals.tokens_of x.value ++ r ≡ literals.tokens_of y.value ++ s = cc in
    let value = same_literal x.value y.value max_braces max_braces r s p.1 q.1 behind in
    (ap (λ n. record { prop = n; value = x.value }) name ∙ ap (λ v. record { prop = y.prop; value = v }) value.0, value.1)

same_range : (x y : Range) (r s : List Token) → IsRange x → IsRange y → range_tokens x ++ r ≡ range_tokens y ++ s → (x ≡ y) × (r ≡ s)
same_range x y r s p q e =
    let name : x.prop ≡ y.prop = cc in
    let behind : (literals.tokens_of x.low ++ (sign 58 ∷ literals.tokens_of x.high)) ++ r ≡ (literals.tokens_of y.low ++ (sign 58 ∷ literals.tokens_of y.high)) ++ s = cc in
    let low = same_literal x.low y.low max_braces max_braces (sign 58 ∷ (literals.tokens_of x.high ++ r)) (sign 58 ∷ (literals.tokens_of y.high ++ s)) p.1.0 q.1.0 (
    sym (append_assoc (literals.tokens_of x.low) (sign 58 ∷ literals.tokens_of x.high) r) ∙ behind ∙ append_assoc (literals.tokens_of y.low) (sign 58 ∷ literals.tokens_of y.high) s) in
    let high = same_literal x.high y.high max_braces max_braces r s p.1.1 q.1.1 (cut_first (sign 58) (sign 58) (literals.tokens_of x.high ++ r) (literals.tokens_of y.high ++ s) low.1) in (
      ap (λ n. record { prop = n; low = x.low; high = x.high }) name ∙ ap (λ v. record { prop = y.prop; low = v; high = x.high }) low.0 ∙ ap (λ v. record { prop = y.prop; low = y.low; high = v }) high.0,
      high.1,
    )

same_order : (x y : Order) (r s : List Token) → IsOrder x → IsOrder y → order_tokens x ++ r ≡ order_tokens y ++ s → (x ≡ y) × (r ≡ s)
same_order x y r s p q e = turned x.down y.down refl refl
  where
    both : (one two : List ℕ) (a b : Bool) → x.down ≡ a → y.down ≡ b → a ≡ b → x.prop ≡ y.prop → x ≡ y
    both one two a b xa yb ab name = ap (λ n. record { prop = n; down = x.down }) name ∙ ap (λ d. record { prop = y.prop; down = d }) (xa ∙ ab ∙ sym yb)

    written : (a b : Bool) → x.down ≡ a → y.down ≡ b
        → (if a then sign 45 ∷ word x.prop ∷ [] else word x.prop ∷ []) ++ r ≡ (if b then sign 45 ∷ word y.prop ∷ [] else word y.prop ∷ []) ++ s
    written a b xa yb = ap (λ d. (if d then sign 45 ∷ word x.prop ∷ [] else word x.prop ∷ []) ++ r) (sym xa) ∙ e ∙ ap (λ d. (if d then sign 45 ∷ word y.prop ∷ [] else word y.prop ∷ []) ++ s) yb

    turned : (a b : Bool) → x.down ≡ a → y.down ≡ b → (x ≡ y) × (r ≡ s)
    turned true true xa yb = let w : sign 45 ∷ word x.prop ∷ r ≡ sign 45 ∷ word y.prop ∷ s = written true true xa yb in let n : x.prop ≡ y.prop = cc in let rest : r ≡ s = cc in (both [] [] true true xa yb refl n, rest)
    turned false false xa yb = let w : word x.prop ∷ r ≡ word y.prop ∷ s = written false false xa yb in let n : x.prop ≡ y.prop = cc in let rest : r ≡ s = cc in (both [] [] false false xa yb refl n, rest)
    turned true false xa yb = let w : sign 45 ∷ word x.prop ∷ r ≡ word y.prop ∷ s = written true false xa yb in absurd (cc)
    turned false true xa yb = let w : word x.prop ∷ r ≡ sign 45 ∷ word y.prop ∷ s = written false true xa yb in absurd (cc)

same_named : (xs ys : List (List ℕ)) (n m : List ℕ) (r s : List Token) → All IsName xs → All IsName ys
    → (names_tokens xs ++ (sign 58 ∷ word n ∷ [])) ++ (sign 41 ∷ r) ≡ (names_tokens ys ++ (sign 58 ∷ word m ∷ [])) ++ (sign 41 ∷ s) → (xs ≡ ys) × (n ≡ m) × (r ≡ s)
same_named xs ys n m r s p q e =
    let list = same_list IsName (λ x. word x ∷ []) 58 refl same_name xs ys (word n ∷ sign 41 ∷ r) (word m ∷ sign 41 ∷ s) p q (
    sym (append_assoc (names_tokens xs) (sign 58 ∷ word n ∷ []) (sign 41 ∷ r)) ∙ e ∙ append_assoc (names_tokens ys) (sign 58 ∷ word m ∷ []) (sign 41 ∷ s)) in
    let rest : word n ∷ sign 41 ∷ r ≡ word m ∷ sign 41 ∷ s = list.1 in
    let name : n ≡ m = cc in
    let behind : r ≡ s = cc in
    (list.0, name, behind)

same_names : (xs ys : List (List ℕ)) (r s : List Token) → All IsName xs → All IsName ys → names_tokens xs ++ (sign 41 ∷ r) ≡ names_tokens ys ++ (sign 41 ∷ s) → (xs ≡ ys) × (r ≡ s)
same_names xs ys r s p q e = same_list IsName (λ x. word x ∷ []) 41 refl same_name xs ys r s p q e

-- what stands behind the tables
same_tail : (t u : Tail) (r s : List Token) → IsTail t → IsTail u → form_of t ≡ form_of u → tail_tokens t ++ (sign 41 ∷ r) ≡ tail_tokens u ++ (sign 41 ∷ s) → (t ≡ u) × (r ≡ s)
same_tail arguments.nothing arguments.nothing r s p q f e = (refl, cut_first (sign 41) (sign 41) r s e)
same_tail (arguments.criteria xs) (arguments.criteria ys) r s p q f e =
    let list = same_list IsCriterion criterion_tokens 41 refl same_criterion xs ys r s p.1 q.1 e in (ap arguments.criteria list.0, list.1)
same_tail (arguments.bounds xs) (arguments.bounds ys) r s p q f e = let list = same_list IsRange range_tokens 41 refl same_range xs ys r s p.1 q.1 e in (ap arguments.bounds list.0, list.1)
same_tail (arguments.orders xs) (arguments.orders ys) r s p q f e = let list = same_list IsOrder order_tokens 41 refl same_order xs ys r s p q e in (ap arguments.orders list.0, list.1)
same_tail (arguments.names xs) (arguments.names ys) r s p q f e = let list = same_names xs ys r s p.whole q.whole e in (ap arguments.names list.0, list.1)
same_tail (arguments.inner n) (arguments.inner m) r s p q f e = let name : n ≡ m = cc in let rest : r ≡ s = cc in (ap arguments.inner name, rest)
same_tail (arguments.renamed n k) (arguments.renamed m l) r s p q f e =
    let name : n ≡ m = cc in let new : k ≡ l = cc in let rest : r ≡ s = cc in (ap (λ x. arguments.renamed x k) name ∙ ap (λ x. arguments.renamed m x) new, rest)
same_tail (arguments.rows a b c) (arguments.rows d g h) r s p q f e =
    let first : a ≡ d = cc in
    let limit : b ≡ g = cc in
    let z : c ≡ h = cc in
    let rest : r ≡ s = cc in
    (ap (λ x. arguments.rows x b c) first ∙ ap (λ x. arguments.rows d x c) limit ∙ ap (λ x. arguments.rows d g x) z, rest)
same_tail (arguments.named xs n) (arguments.named ys m) r s p q f e =
    let all = same_named xs ys n m r s p.0.whole q.0.whole e in (ap (λ x. arguments.named x n) all.0 ∙ ap (λ x. arguments.named ys x) all.1, all.2)
same_tail (arguments.viewed v xs) (arguments.viewed w ys) r s p q f e =
    let name : v ≡ w = cc in
    let behind : names_tokens xs ++ (sign 41 ∷ r) ≡ names_tokens ys ++ (sign 41 ∷ s) = cc in
    let list = same_names xs ys r s p.1.whole q.1.whole behind in
    (ap (λ x. arguments.viewed x xs) name ∙ ap (λ x. arguments.viewed w x) list.0, list.1)
same_tail (arguments.viewed_as v xs n) (arguments.viewed_as w ys m) r s p q f e =
    let name : v ≡ w = cc in
    let behind : (names_tokens xs ++ (sign 58 ∷ word n ∷ [])) ++ (sign 41 ∷ r) ≡ (names_tokens ys ++ (sign 58 ∷ word m ∷ [])) ++ (sign 41 ∷ s) = cc in
    let all = same_named xs ys n m r s p.1.0.whole q.1.0.whole behind in
    (ap (λ x. arguments.viewed_as x xs n) name ∙ ap (λ x. arguments.viewed_as w x n) all.0 ∙ ap (λ x. arguments.viewed_as w ys x) all.1, all.2)
same_tail _ _ r s p q f e = absurd (cc)

-- paths
same_steps : (ss others : List Step) (r s : List Token) → Parted r → Parted s → flat_map step_tokens ss ++ r ≡ flat_map step_tokens others ++ s → (ss ≡ others) × (r ≡ s)
same_steps [] [] r s p q e = (refl, e)
same_steps [] (b ∷ bx) r s p q e = absurd (signs_differ p.first 47 p.rest _ p.no_slash (sym p.is ∙ e))
same_steps (a ∷ ax) [] r s p q e = absurd (signs_differ q.first 47 q.rest _ q.no_slash (sym q.is ∙ sym e))
same_steps (a ∷ ax) (b ∷ bx) r s p q e =
    let row : a.row ≡ b.row = cc in
    let prop : a.prop ≡ b.prop = cc in
    let behind : flat_map step_tokens ax ++ r ≡ flat_map step_tokens bx ++ s = cc in
    let others = same_steps ax bx r s p q behind in
    let first : a ≡ b = ap (λ n. record { row = n; prop = a.prop }) row ∙ ap (λ n. record { row = b.row; prop = n }) prop in
    (ap (λ x. x ∷ ax) first ∙ ap (λ xs. b ∷ xs) others.0, others.1)

same_route : (a b : Route) (r s : List Token) → Parted r → Parted s → path_tokens a ++ r ≡ path_tokens b ++ s → (a ≡ b) × (r ≡ s)
same_route a b r s p q e =
    let name : a.name ≡ b.name = cc in
    let behind : flat_map step_tokens a.steps ++ r ≡ flat_map step_tokens b.steps ++ s = cc in
    let others = same_steps a.steps b.steps r s p q behind in
    (ap (λ n. record { name = n; steps = a.steps }) name ∙ ap (λ x. record { name = b.name; steps = x }) others.0, others.1)

-- a path is no operator
no_operator_path : (a : Route) (o : Operator) (ts r : List Token) → Parted r → path_tokens a ++ r ≡ word (word_of o) ∷ sign 40 ∷ ts → ⊥
no_operator_path a o ts r p e = behind_name a.steps (cut_first (word a.name) (word (word_of o)) (flat_map step_tokens a.steps ++ r) (sign 40 ∷ ts) e)
  where
    behind_name : (ss : List Step) → flat_map step_tokens ss ++ r ≡ sign 40 ∷ ts → ⊥
    behind_name [] f = signs_differ p.first 40 p.rest ts p.no_opening (sym p.is ∙ f)
    behind_name (s ∷ ss) f = signs_differ 47 40 _ ts refl f

-- one word, one operator
same_operator : (o k : Operator) → word_of o ≡ word_of k → o ≡ k
same_operator o k e = let f : Some o ≡ Some k = sym (word_operator o) ∙ ap operator_named e ∙ word_operator k in cc

same_form : (o : Operator) (a b : Form) → takes o ≡ one_table a → takes o ≡ one_table b → a ≡ b
same_form o a b p q = let f : one_table a ≡ one_table b = sym p ∙ q in cc

same_form_of_two : (o : Operator) (a b : Form) → takes o ≡ two_tables a → takes o ≡ two_tables b → a ≡ b
same_form_of_two o a b p q = let f : two_tables a ≡ two_tables b = sym p ∙ q in cc

one_not_two : (o : Operator) (a b : Form) → takes o ≡ one_table a → takes o ≡ two_tables b → ⊥
one_not_two o a b p q = let f : one_table a ≡ two_tables b = sym p ∙ q in cc

pub same_query : (q k : Query) (m n : ℕ) (r s : List Token) → IsQuery q m → IsQuery k n → Parted r → Parted s → tokens_of q ++ r ≡ tokens_of k ++ s → (q ≡ k) × (r ≡ s)
same_query (queries.path a) (queries.path b) m n r s v w p z e = let same = same_route a b r s p z e in (ap queries.path same.0, same.1)
same_query (queries.path a) (queries.one o k t) m n r s v w p z e = absurd (no_operator_path a o _ r p e)
same_query (queries.path a) (queries.two o k l t) m n r s v w p z e = absurd (no_operator_path a o _ r p e)
same_query (queries.one o q t) (queries.path b) m n r s v w p z e = absurd (no_operator_path b o _ s z (sym e))
same_query (queries.two o q x t) (queries.path b) m n r s v w p z e = absurd (no_operator_path b o _ s z (sym e))
same_query (queries.one o q t) (queries.one i k u) zero n r s v w p z e = absurd v
same_query (queries.one o q t) (queries.one i k u) (suc m) zero r s v w p z e = absurd w
same_query (queries.one o q t) (queries.one i k u) (suc m) (suc n) r s v w p z e =
    let letters : word_of o ≡ word_of i = cc in
    let operator = same_operator o i letters in
    let inside : (tokens_of q ++ (tail_tokens t ++ (sign 41 ∷ []))) ++ r ≡ (tokens_of k ++ (tail_tokens u ++ (sign 41 ∷ []))) ++ s = cc in
    let table = same_query q k m n (tail_tokens t ++ (sign 41 ∷ r)) (tail_tokens u ++ (sign 41 ∷ s)) v.0 w.0 (tail_parts t r) (tail_parts u s) (
    sym (append_assoc (tokens_of q) (tail_tokens t ++ (sign 41 ∷ [])) r ∙ ap (λ ts. tokens_of q ++ ts) (append_assoc (tail_tokens t) (sign 41 ∷ []) r))
    ∙ inside ∙ append_assoc (tokens_of k) (tail_tokens u ++ (sign 41 ∷ [])) s ∙ ap (λ ts. tokens_of k ++ ts) (append_assoc (tail_tokens u) (sign 41 ∷ []) s)) in
    let tail = same_tail t u r s v.1.1 w.1.1 (same_form o (form_of t) (form_of u) v.1.0 (ap takes operator ∙ w.1.0)) table.1 in
    (ap (λ x. queries.one x q t) operator ∙ ap (λ x. queries.one i x t) table.0 ∙ ap (λ x. queries.one i k x) tail.0, tail.1)
same_query (queries.one o q t) (queries.two i k l u) zero n r s v w p z e = absurd v
same_query (queries.one o q t) (queries.two i k l u) (suc m) zero r s v w p z e = absurd w
same_query (queries.one o q t) (queries.two i k l u) (suc m) (suc n) r s v w p z e =
    let letters : word_of o ≡ word_of i = cc in absurd (one_not_two o (form_of t) (form_of u) v.1.0 (ap takes (same_operator o i letters) ∙ w.1.1.0))
same_query (queries.two o q x t) (queries.one i k u) zero n r s v w p z e = absurd v
same_query (queries.two o q x t) (queries.one i k u) (suc m) zero r s v w p z e = absurd w
same_query (queries.two o q x t) (queries.one i k u) (suc m) (suc n) r s v w p z e =
    let letters : word_of i ≡ word_of o = cc in absurd (one_not_two i (form_of u) (form_of t) w.1.0 (ap takes (same_operator i o letters) ∙ v.1.1.0))
same_query (queries.two o q x t) (queries.two i k l u) zero n r s v w p z e = absurd v
same_query (queries.two o q x t) (queries.two i k l u) (suc m) zero r s v w p z e = absurd w
same_query (queries.two o q x t) (queries.two i k l u) (suc m) (suc n) r s v w p z e =
    let letters : word_of o ≡ word_of i = cc in
    let operator = same_operator o i letters in
    let first_second = tokens_of x ++ (tail_tokens t ++ (sign 41 ∷ [])) in
    let other_second = tokens_of l ++ (tail_tokens u ++ (sign 41 ∷ [])) in
    let inside : (tokens_of q ++ (sign 44 ∷ (tokens_of x ++ (tail_tokens t ++ (sign 41 ∷ []))))) ++ r ≡ (tokens_of k ++ (sign 44 ∷ (tokens_of l ++ (tail_tokens u ++ (sign 41 ∷ []))))) ++ s = cc in
    let table = same_query q k m n (sign 44 ∷ (first_second ++ r)) (sign 44 ∷ (other_second ++ s)) v.0 w.0 (comma_parts (first_second ++ r)) (comma_parts (other_second ++ s)) (
    sym (append_assoc (tokens_of q) (sign 44 ∷ first_second) r) ∙ inside ∙ append_assoc (tokens_of k) (sign 44 ∷ other_second) s) in
    let second = same_query x l m n (tail_tokens t ++ (sign 41 ∷ r)) (tail_tokens u ++ (sign 41 ∷ s)) v.1.0 w.1.0 (tail_parts t r) (tail_parts u s) (
    sym (append_assoc (tokens_of x) (tail_tokens t ++ (sign 41 ∷ [])) r ∙ ap (λ ts. tokens_of x ++ ts) (append_assoc (tail_tokens t) (sign 41 ∷ []) r))
    ∙ cut_first (sign 44) (sign 44) (first_second ++ r) (other_second ++ s) table.1 ∙ append_assoc (tokens_of l) (tail_tokens u ++ (sign 41 ∷ [])) s ∙ ap (λ ts. tokens_of l ++ ts) (append_assoc (tail_tokens u) (sign 41 ∷ []) s)) in
    let tail = same_tail t u r s v.1.1.1 w.1.1.1 (same_form_of_two o (form_of t) (form_of u) v.1.1.0 (ap takes operator ∙ w.1.1.0)) second.1 in
    (ap (λ y. queries.two y q x t) operator ∙ ap (λ y. queries.two i y x t) table.0 ∙ ap (λ y. queries.two i k y t) second.0 ∙ ap (λ y. queries.two i k l y) tail.0, tail.1)

-- a text reads as one expression
pub reads_once : (content : List ℕ) (q k : Query) → Reads content q → Reads content k → q ≡ k
reads_once content q k one two =
    let same : one.0 ≡ two.0 = cut_once 0 content one.0 two.0 one.1 two.1 in
    let tokens : tokens_of q ≡ tokens_of k = sym one.2.is ∙ ap tokens_in same ∙ two.2.is in
    (same_query q k max_operators max_operators (sign 41 ∷ []) (sign 41 ∷ []) one.2.whole two.2.whole (tail_parts arguments.nothing []) (tail_parts arguments.nothing []) (ap (λ ts. ts ++ (sign 41 ∷ [])) tokens)).0
