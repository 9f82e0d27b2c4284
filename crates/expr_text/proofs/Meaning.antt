-- What goals mean: the tokens that meet them. A step of the walk keeps it, and all goals can be met.
use Rattle.std.proofs.Common.{◌≡◌, ◌≢◌, ◌⊎◌, inl, inr, ℕ, zero, suc, ℤ, pos, negsuc, ◌+◌, ◌-◌, ◌<◌, ◌≤◌, ◌^◌, ◌==◌, Bool, true, false, nat_lt, List, [], ◌∷◌, ◌++◌, length, All, FitsSigned, Option, Some, None, refl, sym, ap, subst, ◌∙◌, append_assoc, append-nil, arith, lit<, lit≤, if◌then◌else◌}
use Rattle.std.proofs.lemmas.Bool.Decides.{nat_tests}
use Rattle.std.proofs.lemmas.Slice.Eq.{bytes_eq-Decides}
use Rattle.std.specs.Str.{bytes_eq}
use Rattle.std.proofs.lemmas.List.Elements.{All-cons, All-nil}
use Rattle.std.specs.Int.{w64}
use Rattle.std.specs.List.{flat_map}
use Rattle.mk_value.specs.Data as data_
use borrow.Author.Tests.{ltb-true}
use Rattle.mk_value.specs.Data.{Datum, IsText, long, relation, Tuple, no_values, value, Relation, no_tuples, tuple}
use Rattle.mk_value.specs.Literals as literals
use Rattle.mk_value.specs.Literals.{more_rows, more_values}
use Rattle.mk_value.specs.Names.{IsName}
use Rattle.mk_value.specs.Tokens.{Token, word, number, text, bytes, sign}
use Rattle.mk_value.specs.declared.path.Step.{Step}
use Rattle.tokens.specs.Fronts.{Language}
use Rattle.tokens.specs.Literals.{AreLiteralRows, AreLiterals, IsLiteral, IsLiteralRow, max_braces}
use Rattle.tokens.specs.Parts.{LiteralIn, RowIn, RowsIn}
use Rattle.tokens.specs.Paths.{IsStep, PathTokens, StepTokens, step_tokens}
use Rattle.expr_text.specs.Arguments as arguments
use Rattle.expr_text.specs.Arguments.{AreNames, Criterion, IsCriterion, IsOrder, IsRange, IsTail, Range, Tail}
use Rattle.expr_text.specs.Grammar.{QueryIn}
use Rattle.expr_text.specs.InLines.{AreValues, IsKeptUp, IsOperation, values_tokens}
use Rattle.expr_text.specs.Operators as forms
use Rattle.expr_text.specs.Operators.{Form, Takes, form_of, one_table, takes, two_tables, word_of}
use Rattle.expr_text.specs.Queries as queries
use Rattle.expr_text.specs.Queries.{Query}
use Rattle.expr_text.specs.Spelling.{criterion_tokens, listed, names_tokens, order_tokens, range_tokens, tail_tokens, tokens_of}
use Rattle.expr_text.specs.Walk.{Goal, Move, Next, a_count, a_key, a_literal, a_name, a_number, a_path, a_query, a_row, a_sign, a_text, a_word, after_row, after_value, an_operation, begun, brace, deepens, end_goals, end_sign, followed, form_goals, goes, is_held, member_goals, more, more_criteria, moved, opened, operated, operator_named, pass, push, rows, some_goals, step, steps, stops, table_goals, values, wrong}
use Rattle.expr_text.specs.declared.expr.Order.{Order}
use Rattle.expr_text.specs.declared.list.Item.{Item}
use Rattle.expr_text.specs.declared.list.Item.TheVariants as items
use Rattle.expr_text.specs.declared.operator.Operator.{Operator}
use Rattle.expr_text.specs.declared.operator.Operator.TheVariants as operators
use Rattle.expr_text.proofs.Held.{bytes_held, count_held, fits_held, named_held, text_held}
use Rattle.expr_text.proofs.Running.{operator_word}
use Rattle.expr_text.proofs.Walking.{opens_first, walk, walked}

abbrev pub MeansMore : Item → Language
MeansMore items.Criterion tokens = (xs : List Criterion) × All IsCriterion xs × (tokens ≡ listed criterion_tokens xs ++ (sign 41 ∷ []))
MeansMore items.Range tokens = (xs : List Range) × All IsRange xs × (tokens ≡ listed range_tokens xs ++ (sign 41 ∷ []))
MeansMore items.Order tokens = (xs : List Order) × All IsOrder xs × (tokens ≡ listed order_tokens xs ++ (sign 41 ∷ []))
MeansMore items.Name tokens = (xs : List (List ℕ)) × All IsName xs × (tokens ≡ names_tokens xs ++ (sign 41 ∷ []))
MeansMore items.Named tokens = (xs : List (List ℕ)) × All IsName xs × ((n : List ℕ) × IsName n × (tokens ≡ names_tokens xs ++ (sign 58 ∷ word n ∷ sign 41 ∷ [])))

abbrev pub Means : Goal → Language
Means (a_sign s) tokens = tokens ≡ sign s ∷ []
Means a_name tokens = (letters : List ℕ) × IsName letters × (tokens ≡ word letters ∷ [])
Means a_count tokens = (n : ℕ) × (n < 2 ^ 63) × (tokens ≡ number (pos n) ∷ [])
Means a_number tokens = (z : ℤ) × FitsSigned w64 z × (tokens ≡ number z ∷ [])
Means (a_query depth) tokens = QueryIn depth tokens
Means a_path tokens = PathTokens tokens
Means steps tokens = StepTokens tokens
Means (a_literal depth) tokens = LiteralIn depth tokens
Means (rows depth) tokens = RowsIn depth tokens
Means (after_row depth) tokens = (r : Relation) × AreLiteralRows depth r × (tokens ≡ more_rows r ++ (sign 125 ∷ []))
Means (a_row depth) tokens = RowIn depth tokens
Means (after_value depth) tokens = (vs : Tuple) × AreLiterals depth vs × (tokens ≡ more_values vs ++ (sign 41 ∷ []))
Means a_key tokens = (o : Order) × IsOrder o × (tokens ≡ order_tokens o)
Means (more item) tokens = MeansMore item tokens
Means (a_word letters) tokens = tokens ≡ word letters ∷ []
Means values tokens = (xs : List Datum) × AreValues xs × (tokens ≡ values_tokens xs)
Means more_criteria tokens = (xs : List Criterion) × All IsCriterion xs × (tokens ≡ listed criterion_tokens xs)
Means (a_text most) tokens = (tokens ≡ []) ⊎ ((content : List ℕ) × IsText content × (length content ≤ most) × (tokens ≡ text content ∷ []))
Means an_operation tokens = (q : Query) × IsOperation q × (tokens ≡ tokens_of q)

-- goals one after another
abbrev pub Meant : List Goal → Language
Meant [] tokens = tokens ≡ []
Meant (g ∷ goals) tokens = (front : List Token) × (back : List Token) × Means g front × Meant goals back × (tokens ≡ front ++ back)

pub meant_split : (xs ys : List Goal) (tokens : List Token) → Meant (xs ++ ys) tokens → (front : List Token) × (back : List Token) × Meant xs front × Meant ys back × (tokens ≡ front ++ back)
meant_split [] ys tokens m = ([], tokens, refl, m, refl)
meant_split (g ∷ xs) ys tokens m =
    let inner = meant_split xs ys m.1 m.3 in
    (m.0 ++ inner.0, inner.1, (m.0, inner.0, m.2, inner.2, refl), inner.3, m.4 ∙ ap (λ t. m.0 ++ t) inner.4 ∙ sym (append_assoc m.0 inner.0 inner.1))

-- one goal alone
single : (g : Goal) (tokens : List Token) → Meant (g ∷ []) tokens → Means g tokens
single g tokens m = subst (Means g) (sym (m.4 ∙ ap (λ t. m.0 ++ t) m.3 ∙ append-nil m.0)) m.2

-- a sign that is the one, or another
pub sign_split : (c s : ℕ) (a : List Goal) (x : Move) (new : List Goal) → (if c == s then push a else x) ≡ push new → ((c ≡ s) × (a ≡ new)) ⊎ (x ≡ push new)
sign_split c s a x new e = chosen (c == s) refl e
  where
    chosen : (b : Bool) → (c == s) ≡ b → (if b then push a else x) ≡ push new → ((c ≡ s) × (a ≡ new)) ⊎ (x ≡ push new)
    chosen true same is = let f : a ≡ new = cc in inl (grind (arith, nat_tests), f)
    chosen false same is = inr is

-- what was pushed
pushed : (a new : List Goal) (ts : List Token) → push a ≡ push new → Meant new ts → Meant a ts
pushed a new ts e m = let f : a ≡ new = cc in subst (λ n. Meant n ts) (sym f) m

newly : (a new : List Goal) (ts : List Token) → a ≡ new → Meant new ts → Meant a ts
newly a new ts e m = subst (λ n. Meant n ts) (sym e) m

record Two (g h : Goal) (tokens : List Token) : Type 0 where
  pub first : List Token
  pub second : List Token
  pub one : Means g first
  pub two : Means h second
  pub is : tokens ≡ first ++ second

two_of : (g h : Goal) (tokens : List Token) → Meant (g ∷ h ∷ []) tokens → Two g h tokens
two_of g h tokens m = record {
  first = m.0;
  second = m.3.0;
  one = m.2;
  two = m.3.2;
  is = m.4 ∙ ap (λ t. m.0 ++ t) (m.3.4 ∙ ap (λ t. m.3.0 ++ t) m.3.3 ∙ append-nil m.3.0);
}

-- tokens side by side
joined : (ts a b x y : List Token) → ts ≡ a ++ b → a ≡ x → b ≡ y → ts ≡ x ++ y
joined ts a b x y e p q = e ∙ ap (λ z. z ++ b) p ∙ ap (λ z. x ++ z) q

-- a path behind its name
path_sound : (letters : List ℕ) (ts : List Token) → IsName letters → Meant (steps ∷ []) ts → PathTokens (word letters ∷ ts)
path_sound letters ts named m =
    let s = single steps ts m in
    (record { name = letters; steps = s.0 }, record { whole = record { name = named; steps = s.1 }; is = ap (λ t. word letters ∷ t) s.2 })

path_query : (deep : ℕ) (tokens : List Token) → PathTokens tokens → QueryIn deep tokens
path_query deep tokens p = (queries.path p.0, record { whole = p.1.whole; is = p.1.is })

-- the members of lists
pub criterion_sound : (ts : List Token) → Meant (member_goals items.Criterion) ts → (c : Criterion) × IsCriterion c × (ts ≡ criterion_tokens c)
criterion_sound ts m =
    let name = m.2 in
    let literal = m.3.3.2 in
    let last : m.3.3.1 ≡ [] = m.3.3.3 in (
      record { prop = name.0; value = literal.0 },
      (name.1, literal.1),
      joined ts m.0 m.1 (word name.0 ∷ []) (sign 61 ∷ literals.tokens_of literal.0) m.4 name.2
          (joined m.1 m.3.0 m.3.1 (sign 61 ∷ []) (literals.tokens_of literal.0) m.3.4 m.3.2 (m.3.3.4 ∙ ap (λ t. m.3.3.0 ++ t) last ∙ append-nil m.3.3.0 ∙ literal.2)),
    )

range_sound : (ts : List Token) → Meant (member_goals items.Range) ts → (r : Range) × IsRange r × (ts ≡ range_tokens r)
range_sound ts m =
    let name = m.2 in
    let low = m.3.3.2 in
    let high = m.3.3.3.3.2 in
    let last : m.3.3.3.3.1 ≡ [] = m.3.3.3.3.3 in (
      record { prop = name.0; low = low.0; high = high.0 },
      (name.1, (low.1, high.1)),
      joined ts m.0 m.1 (word name.0 ∷ []) (sign 61 ∷ (literals.tokens_of low.0 ++ (sign 58 ∷ literals.tokens_of high.0))) m.4 name.2
          (joined m.1 m.3.0 m.3.1 (sign 61 ∷ []) (literals.tokens_of low.0 ++ (sign 58 ∷ literals.tokens_of high.0)) m.3.4 m.3.2
          (joined m.3.1 m.3.3.0 m.3.3.1 (literals.tokens_of low.0) (sign 58 ∷ literals.tokens_of high.0) m.3.3.4 low.2
          (joined m.3.3.1 m.3.3.3.0 m.3.3.3.1 (sign 58 ∷ []) (literals.tokens_of high.0) m.3.3.3.4 m.3.3.3.2 (m.3.3.3.3.4 ∙ ap (λ t. m.3.3.3.3.0 ++ t) last ∙ append-nil m.3.3.3.3.0 ∙ high.2)))),
    )

-- one member more at the front of a list
list_more : {X : Type 0} (f : X → List Token) (x : X) (xs : List X) (ts a b end : List Token) → ts ≡ a ++ b → a ≡ f x → b ≡ listed f xs ++ end → sign 44 ∷ ts ≡ listed f (x ∷ xs) ++ end
list_more f x xs ts a b end e p q = ap (λ t. sign 44 ∷ t) (joined ts a b (f x) (listed f xs ++ end) e p q ∙ sym (append_assoc (f x) (listed f xs) end))

more_sound : (item : Item) (ts : List Token) → Meant (member_goals item ++ (more item ∷ [])) ts → MeansMore item (sign 44 ∷ ts)
more_sound items.Criterion ts m =
    let parts = meant_split (member_goals items.Criterion) (more items.Criterion ∷ []) ts m in
    let x = criterion_sound parts.0 parts.2 in
    let xs = single (more items.Criterion) parts.1 parts.3 in
    (x.0 ∷ xs.0, All-cons IsCriterion x.0 xs.0 x.1 xs.1, list_more criterion_tokens x.0 xs.0 ts parts.0 parts.1 (sign 41 ∷ []) parts.4 x.2 xs.2)
more_sound items.Range ts m =
    let parts = meant_split (member_goals items.Range) (more items.Range ∷ []) ts m in
    let x = range_sound parts.0 parts.2 in
    let xs = single (more items.Range) parts.1 parts.3 in
    (x.0 ∷ xs.0, All-cons IsRange x.0 xs.0 x.1 xs.1, list_more range_tokens x.0 xs.0 ts parts.0 parts.1 (sign 41 ∷ []) parts.4 x.2 xs.2)
more_sound items.Order ts m =
    let parts = two_of a_key (more items.Order) ts m in
    let x = parts.one in
    let xs = parts.two in
    (x.0 ∷ xs.0, All-cons IsOrder x.0 xs.0 x.1 xs.1, list_more order_tokens x.0 xs.0 ts parts.first parts.second (sign 41 ∷ []) parts.is x.2 xs.2)
more_sound items.Name ts m =
    let parts = two_of a_name (more items.Name) ts m in
    let x = parts.one in
    let xs = parts.two in
    (x.0 ∷ xs.0, All-cons IsName x.0 xs.0 x.1 xs.1, list_more (λ n. word n ∷ []) x.0 xs.0 ts parts.first parts.second (sign 41 ∷ []) parts.is x.2 xs.2)
more_sound items.Named ts m =
    let parts = two_of a_name (more items.Named) ts m in
    let x = parts.one in
    let xs = parts.two in
    (x.0 ∷ xs.0, All-cons IsName x.0 xs.0 x.1 xs.1, (xs.2.0, xs.2.1, list_more (λ n. word n ∷ []) x.0 xs.0 ts parts.first parts.second (sign 58 ∷ word xs.2.0 ∷ sign 41 ∷ []) parts.is x.2 xs.2.2))

-- the end of a list
end_sound : (item : Item) (ts : List Token) → Meant (end_goals item) ts → MeansMore item (sign (end_sign item) ∷ ts)
end_sound items.Criterion ts m = ([], All-nil IsCriterion, ap (λ t. sign 41 ∷ t) m)
end_sound items.Range ts m = ([], All-nil IsRange, ap (λ t. sign 41 ∷ t) m)
end_sound items.Order ts m = ([], All-nil IsOrder, ap (λ t. sign 41 ∷ t) m)
end_sound items.Name ts m = ([], All-nil IsName, ap (λ t. sign 41 ∷ t) m)
end_sound items.Named ts m =
    let parts = two_of a_name (a_sign 41) ts m in
    let n = parts.one in
    ([], All-nil IsName, (n.0, n.1, ap (λ t. sign 58 ∷ t) (joined ts parts.first parts.second (word n.0 ∷ []) (sign 41 ∷ []) parts.is n.2 parts.two)))

-- a comma and the rest
comma_sound : (goals : List Goal) (ts : List Token) → Meant (a_sign 44 ∷ goals) ts → (rest : List Token) × Meant goals rest × (ts ≡ sign 44 ∷ rest)
comma_sound goals ts m = (m.1, m.3, m.4 ∙ ap (λ t. t ++ m.1) m.2)

name_sound : (goals : List Goal) (ts : List Token) → Meant (a_name ∷ goals) ts → (letters : List ℕ) × IsName letters × ((rest : List Token) × Meant goals rest × (ts ≡ word letters ∷ rest))
name_sound goals ts m = (m.2.0, m.2.1, (m.1, m.3, m.4 ∙ ap (λ t. t ++ m.1) m.2.2))

close_sound : (ts : List Token) → Meant (a_sign 41 ∷ []) ts → ts ≡ sign 41 ∷ []
close_sound ts m = single (a_sign 41) ts m

-- a list that is not empty
not_empty : {X : Type 0} (x : X) (xs : List X) → (x ∷ xs) ≢ []
not_empty x xs e = cc

some_names : (ts : List Token) → Meant (some_goals items.Name) ts → (list : List (List ℕ)) × AreNames list × (ts ≡ names_tokens list ++ (sign 41 ∷ []))
some_names ts m =
    let c = comma_sound (a_name ∷ more items.Name ∷ []) ts m in
    let parts = two_of a_name (more items.Name) c.0 c.1 in
    let x = parts.one in
    let xs = parts.two in
    (x.0 ∷ xs.0, record { some = not_empty x.0 xs.0; whole = All-cons IsName x.0 xs.0 x.1 xs.1 }, c.2 ∙ list_more (λ n. word n ∷ []) x.0 xs.0 c.0 parts.first parts.second (sign 41 ∷ []) parts.is x.2 xs.2)

some_named : (ts : List Token) → Meant (some_goals items.Named) ts
    → (list : List (List ℕ)) × (name : List ℕ) × AreNames list × IsName name × (ts ≡ (names_tokens list ++ (sign 58 ∷ word name ∷ [])) ++ (sign 41 ∷ []))
some_named ts m =
    let c = comma_sound (a_name ∷ more items.Named ∷ []) ts m in
    let parts = two_of a_name (more items.Named) c.0 c.1 in
    let x = parts.one in
    let xs = parts.two in (
      x.0 ∷ xs.0,
      xs.2.0,
      record { some = not_empty x.0 xs.0; whole = All-cons IsName x.0 xs.0 x.1 xs.1 },
      xs.2.1,
      c.2 ∙ list_more (λ n. word n ∷ []) x.0 xs.0 c.0 parts.first parts.second (sign 58 ∷ word xs.2.0 ∷ sign 41 ∷ []) parts.is x.2 xs.2.2
          ∙ sym (append_assoc (names_tokens (x.0 ∷ xs.0)) (sign 58 ∷ word xs.2.0 ∷ []) (sign 41 ∷ [])),
    )

-- what stands behind the tables
record TailOf (form : Form) (ts : List Token) : Type 0 where
  pub tail : Tail
  pub whole : IsTail tail
  pub same : form_of tail ≡ form
  pub is : ts ≡ tail_tokens tail ++ (sign 41 ∷ [])

form_sound : (form : Form) (ts : List Token) → Meant (form_goals form) ts → TailOf form ts
form_sound forms.nothing ts m = record { tail = arguments.nothing; whole = tt; same = refl; is = close_sound ts m }
form_sound forms.criteria ts m =
    let c = comma_sound (member_goals items.Criterion ++ (more items.Criterion ∷ [])) ts m in
    let parts = meant_split (member_goals items.Criterion) (more items.Criterion ∷ []) c.0 c.1 in
    let x = criterion_sound parts.0 parts.2 in
    let xs = single (more items.Criterion) parts.1 parts.3 in
    record {
      tail = arguments.criteria (x.0 ∷ xs.0);
      whole = (not_empty x.0 xs.0, All-cons IsCriterion x.0 xs.0 x.1 xs.1);
      same = refl;
      is = c.2 ∙ list_more criterion_tokens x.0 xs.0 c.0 parts.0 parts.1 (sign 41 ∷ []) parts.4 x.2 xs.2;
    }
form_sound forms.bounds ts m =
    let c = comma_sound (member_goals items.Range ++ (more items.Range ∷ [])) ts m in
    let parts = meant_split (member_goals items.Range) (more items.Range ∷ []) c.0 c.1 in
    let x = range_sound parts.0 parts.2 in
    let xs = single (more items.Range) parts.1 parts.3 in
    record {
      tail = arguments.bounds (x.0 ∷ xs.0);
      whole = (not_empty x.0 xs.0, All-cons IsRange x.0 xs.0 x.1 xs.1);
      same = refl;
      is = c.2 ∙ list_more range_tokens x.0 xs.0 c.0 parts.0 parts.1 (sign 41 ∷ []) parts.4 x.2 xs.2;
    }
form_sound forms.orders ts m =
    let xs = single (more items.Order) ts m in
    record { tail = arguments.orders xs.0; whole = xs.1; same = refl; is = xs.2 }
form_sound forms.names ts m =
    let xs = some_names ts m in
    record { tail = arguments.names xs.0; whole = xs.1; same = refl; is = xs.2 }
form_sound forms.inner ts m =
    let c = comma_sound (a_name ∷ a_sign 41 ∷ []) ts m in
    let n = name_sound (a_sign 41 ∷ []) c.0 c.1 in
    record { tail = arguments.inner n.0; whole = n.1; same = refl; is = c.2 ∙ ap (λ t. sign 44 ∷ t) (n.2.2 ∙ ap (λ t. word n.0 ∷ t) (close_sound n.2.0 n.2.1)) }
form_sound forms.renamed ts m =
    let c = comma_sound (a_name ∷ a_sign 44 ∷ a_name ∷ a_sign 41 ∷ []) ts m in
    let n = name_sound (a_sign 44 ∷ a_name ∷ a_sign 41 ∷ []) c.0 c.1 in
    let d = comma_sound (a_name ∷ a_sign 41 ∷ []) n.2.0 n.2.1 in
    let k = name_sound (a_sign 41 ∷ []) d.0 d.1 in
    record {
      tail = arguments.renamed n.0 k.0;
      whole = (n.1, k.1);
      same = refl;
      is = c.2 ∙ ap (λ t. sign 44 ∷ t) (n.2.2 ∙ ap (λ t. word n.0 ∷ t) (d.2 ∙ ap (λ t. sign 44 ∷ t) (k.2.2 ∙ ap (λ t. word k.0 ∷ t) (close_sound k.2.0 k.2.1))));
    }
form_sound forms.rows ts m =
    let c = comma_sound (a_count ∷ a_sign 44 ∷ a_count ∷ a_sign 44 ∷ a_number ∷ a_sign 41 ∷ []) ts m in
    let a = c.1 in
    let d = comma_sound (a_count ∷ a_sign 44 ∷ a_number ∷ a_sign 41 ∷ []) a.1 a.3 in
    let b = d.1 in
    let e = comma_sound (a_number ∷ a_sign 41 ∷ []) b.1 b.3 in
    let z = e.1 in
    record {
      tail = arguments.rows a.2.0 b.2.0 z.2.0;
      whole = (a.2.1, (b.2.1, z.2.1));
      same = refl;
      is = c.2 ∙ ap (λ t. sign 44 ∷ t) (a.4 ∙ ap (λ t. t ++ a.1) a.2.2 ∙ ap (λ t. number (pos a.2.0) ∷ t) (d.2 ∙ ap (λ t. sign 44 ∷ t) (
          b.4 ∙ ap (λ t. t ++ b.1) b.2.2 ∙ ap (λ t. number (pos b.2.0) ∷ t) (e.2 ∙ ap (λ t. sign 44 ∷ t) (
          z.4 ∙ ap (λ t. t ++ z.1) z.2.2 ∙ ap (λ t. number z.2.0 ∷ t) (close_sound z.1 z.3))))));
    }
form_sound forms.named ts m =
    let xs = some_named ts m in
    record { tail = arguments.named xs.0 xs.1; whole = (xs.2, xs.3); same = refl; is = xs.4 }
form_sound forms.viewed ts m =
    let c = comma_sound (a_name ∷ some_goals items.Name) ts m in
    let n = name_sound (some_goals items.Name) c.0 c.1 in
    let xs = some_names n.2.0 n.2.1 in
    record { tail = arguments.viewed n.0 xs.0; whole = (n.1, xs.1); same = refl; is = c.2 ∙ ap (λ t. sign 44 ∷ t) (n.2.2 ∙ ap (λ t. word n.0 ∷ t) xs.2) }
form_sound forms.viewed_as ts m =
    let c = comma_sound (a_name ∷ some_goals items.Named) ts m in
    let n = name_sound (some_goals items.Named) c.0 c.1 in
    let xs = some_named n.2.0 n.2.1 in
    record { tail = arguments.viewed_as n.0 xs.0 xs.1; whole = (n.1, (xs.2, xs.3)); same = refl; is = c.2 ∙ ap (λ t. sign 44 ∷ t) (n.2.2 ∙ ap (λ t. word n.0 ∷ t) xs.4) }

-- an operator and what stands in its parentheses
open_sound : (letters : List ℕ) (o : Operator) (deep : ℕ) (x : Takes) (ts : List Token) → letters ≡ word_of o → takes o ≡ x → Meant (a_sign 40 ∷ table_goals deep x) ts → QueryIn (suc deep) (word letters ∷ ts)
open_sound letters o deep (one_table form) ts e same m =
    let q = m.3.2 in
    let t = form_sound form m.3.1 m.3.3 in (
      queries.one o q.0 t.tail,
      record {
        whole = (q.1.whole, (same ∙ ap one_table (sym t.same), t.whole));
        is = ap (λ l. word l ∷ ts) e ∙ ap (λ r. word (word_of o) ∷ r) (m.4 ∙ ap (λ r. r ++ m.1) m.2 ∙ ap (λ r. sign 40 ∷ r) (joined m.1 m.3.0 m.3.1 (tokens_of q.0) (tail_tokens t.tail ++ (sign 41 ∷ [])) m.3.4 q.1.is t.is));
      },
    )
open_sound letters o deep (two_tables form) ts e same m =
    let p = m.3.2 in
    let c = comma_sound (a_query deep ∷ form_goals form) m.3.1 m.3.3 in
    let q = c.1.2 in
    let t = form_sound form c.1.1 c.1.3 in (
      queries.two o p.0 q.0 t.tail,
      record {
        whole = (p.1.whole, (q.1.whole, (same ∙ ap two_tables (sym t.same), t.whole)));
        is = ap (λ l. word l ∷ ts) e ∙ ap (λ r. word (word_of o) ∷ r) (m.4 ∙ ap (λ r. r ++ m.1) m.2 ∙ ap (λ r. sign 40 ∷ r) (joined m.1 m.3.0 m.3.1 (tokens_of p.0) (sign 44 ∷ (tokens_of q.0 ++ (tail_tokens t.tail ++ (sign 41 ∷ [])))) m.3.4 p.1.is
            (c.2 ∙ ap (λ r. sign 44 ∷ r) (joined c.0 c.1.0 c.1.1 (tokens_of q.0) (tail_tokens t.tail ++ (sign 41 ∷ [])) c.1.4 q.1.is t.is))));
      },
    )

begun_sound : (letters : List ℕ) (depth : ℕ) (found : Option Operator) (new : List Goal) (ts : List Token) → operator_named letters ≡ found → opened found depth ≡ push new → IsName letters → Meant new ts → QueryIn depth (word letters ∷ ts)
begun_sound letters depth None new ts named e whole m = path_query depth (word letters ∷ ts) (path_sound letters ts whole (pushed (steps ∷ []) new ts e m))
begun_sound letters zero (Some o) new ts named e whole m = absurd (cc)
begun_sound letters (suc depth) (Some o) new ts named e whole m = open_sound letters o depth (takes o) ts (operator_word letters o named) refl (pushed (a_sign 40 ∷ table_goals depth (takes o)) new ts e m)

-- an operation on what a name stands for
operation_sound : (letters : List ℕ) (o : Operator) (form : Form) (ts : List Token) → letters ≡ word_of o → takes o ≡ one_table form → IsKeptUp o → Meant (a_sign 40 ∷ a_name ∷ form_goals form) ts → Means an_operation (word letters ∷ ts)
operation_sound letters o form ts e same kept m =
    let n = name_sound (form_goals form) m.1 m.3 in
    let t = form_sound form n.2.0 n.2.1 in (
      queries.one o (queries.path (record { name = n.0; steps = [] })) t.tail,
      (kept, (refl, n.1), same ∙ ap one_table (sym t.same), t.whole),
      ap (λ l. word l ∷ ts) e ∙ ap (λ r. word (word_of o) ∷ r) (m.4 ∙ ap (λ r. r ++ m.1) m.2 ∙ ap (λ r. sign 40 ∷ r) (n.2.2 ∙ ap (λ r. word n.0 ∷ r) t.is)),
    )

operated_sound : (letters : List ℕ) (found : Option Operator) (new : List Goal) (ts : List Token) → operator_named letters ≡ found → operated found ≡ push new → Meant new ts → Means an_operation (word letters ∷ ts)
operated_sound letters (Some operators.Select) new ts named e m =
    operation_sound letters operators.Select forms.criteria ts (operator_word letters operators.Select named) refl tt (pushed (a_sign 40 ∷ a_name ∷ form_goals forms.criteria) new ts e m)
operated_sound letters (Some operators.Range) new ts named e m =
    operation_sound letters operators.Range forms.bounds ts (operator_word letters operators.Range named) refl tt (pushed (a_sign 40 ∷ a_name ∷ form_goals forms.bounds) new ts e m)
operated_sound letters (Some operators.Sort) new ts named e m =
    operation_sound letters operators.Sort forms.orders ts (operator_word letters operators.Sort named) refl tt (pushed (a_sign 40 ∷ a_name ∷ form_goals forms.orders) new ts e m)
operated_sound letters (Some operators.Counts) new ts named e m =
    operation_sound letters operators.Counts forms.named ts (operator_word letters operators.Counts named) refl tt (pushed (a_sign 40 ∷ a_name ∷ form_goals forms.named) new ts e m)
operated_sound letters (Some operators.Keep) new ts named e m =
    operation_sound letters operators.Keep forms.viewed ts (operator_word letters operators.Keep named) refl tt (pushed (a_sign 40 ∷ a_name ∷ form_goals forms.viewed) new ts e m)
operated_sound letters None new ts named e m = absurd (cc)
operated_sound letters (Some _) new ts named e m = absurd (cc)

-- this very word
this_sound : (b : Bool) (letters other : List ℕ) (new : List Goal) (ts : List Token) → bytes_eq other letters ≡ b → (if b then push [] else wrong) ≡ push new → Meant new ts → word other ∷ ts ≡ word letters ∷ []
this_sound true letters other new ts same e m = ap (λ l. word l ∷ ts) ((bytes_eq-Decides other letters).0 same) ∙ ap (λ r. word letters ∷ r) (pushed [] new ts e m)
this_sound false letters other new ts same e m = absurd (cc)

-- a text that is no longer
short_sound : (b : Bool) (most : ℕ) (content : List ℕ) (new : List Goal) (ts : List Token) → nat_lt (length content) (suc most) ≡ b → (if b then push [] else wrong) ≡ push new → IsText content → Meant new ts → Means (a_text most) (text content ∷ ts)
short_sound true most content new ts short e whole m =
    let less : length content < suc most = ltb-true (length content) (suc most) short in inr (content, whole, omega (arith, less), ap (λ r. text content ∷ r) (pushed [] new ts e m))
short_sound false most content new ts short e whole m = absurd (cc)

-- one token at the front
pub sound : (g : Goal) (t : Token) (follows : Bool) (new : List Goal) → moved g t follows ≡ push new → is_held t ≡ true → (ts : List Token) → Meant new ts → Means g (t ∷ ts)
sound (a_sign s) (sign c) follows new e held ts m = elim (sign_split c s [] wrong new e) [
  | inl one ↦ ap (λ x. sign x ∷ ts) one.0 ∙ ap (λ r. sign s ∷ r) (newly [] new ts one.1 m)
  | inr other ↦ absurd (cc)
]
sound a_name (word letters) follows new e held ts m = (letters, named_held letters held, ap (λ r. word letters ∷ r) (pushed [] new ts e m))
sound a_count (number (pos n)) follows new e held ts m = (n, count_held n held, ap (λ r. number (pos n) ∷ r) (pushed [] new ts e m))
sound a_number (number z) follows new e held ts m = (z, fits_held z held, ap (λ r. number z ∷ r) (pushed [] new ts e m))
sound (a_query depth) (word letters) false new e held ts m = path_query depth (word letters ∷ ts) (path_sound letters ts (named_held letters held) (pushed (steps ∷ []) new ts e m))
sound (a_query depth) (word letters) true new e held ts m = begun_sound letters depth (operator_named letters) new ts refl e (named_held letters held) m
sound a_path (word letters) follows new e held ts m = path_sound letters ts (named_held letters held) (pushed (steps ∷ []) new ts e m)
sound steps (sign c) follows new e held ts m = elim (sign_split c 47 (a_count ∷ a_sign 47 ∷ a_name ∷ steps ∷ []) pass new e) [
  | inl one ↦ step_sound c ts one.0 (newly (a_count ∷ a_sign 47 ∷ a_name ∷ steps ∷ []) new ts one.1 m)
  | inr other ↦ absurd (cc)
]
  where
    step_sound : (c : ℕ) (ts : List Token) → c ≡ 47 → Meant (a_count ∷ a_sign 47 ∷ a_name ∷ steps ∷ []) ts → StepTokens (sign c ∷ ts)
    step_sound c ts e m =
        let n = m.2 in
        let l = m.3.3.2 in
        let s = single steps m.3.3.1 m.3.3.3 in
        let first : Step = record { row = n.0; prop = l.0 } in (
          record { row = n.0; prop = l.0 } ∷ s.0,
          All-cons IsStep (record { row = n.0; prop = l.0 }) s.0 (n.1, l.1) s.1,
          ap (λ x. sign x ∷ ts) e ∙ ap (λ r. sign 47 ∷ r) (joined ts m.0 m.1 (number (pos n.0) ∷ []) (sign 47 ∷ word l.0 ∷ flat_map step_tokens s.0) m.4 n.2
              (joined m.1 m.3.0 m.3.1 (sign 47 ∷ []) (word l.0 ∷ flat_map step_tokens s.0) m.3.4 m.3.2
              (joined m.3.1 m.3.3.0 m.3.3.1 (word l.0 ∷ []) (flat_map step_tokens s.0) m.3.3.4 l.2 s.2))),
        )
sound (a_literal depth) (number z) follows new e held ts m = (long z, fits_held z held, ap (λ r. number z ∷ r) (pushed [] new ts e m))
sound (a_literal depth) (text content) follows new e held ts m = (data_.text content, text_held content held, ap (λ r. text content ∷ r) (pushed [] new ts e m))
sound (a_literal depth) (bytes content) follows new e held ts m = (data_.bytes content, bytes_held content held, ap (λ r. bytes content ∷ r) (pushed [] new ts e m))
sound (a_literal depth) (sign c) follows new e held ts m = braced (c == 123) refl e
  where
    opened_brace : (d : ℕ) → c ≡ 123 → brace d ≡ push new → LiteralIn d (sign c ∷ ts)
    opened_brace zero same is = absurd (cc)
    opened_brace (suc d) same is =
        let inside = single (rows d) ts (pushed (rows d ∷ []) new ts is m) in
        let less : d ≡ suc d - 1 = omega arith in
        (relation inside.0, (omega arith, subst (λ x. AreLiteralRows x inside.0) less inside.1), ap (λ x. sign x ∷ ts) same ∙ inside.2)

    braced : (b : Bool) → (c == 123) ≡ b → (if b then brace depth else wrong) ≡ push new → LiteralIn depth (sign c ∷ ts)
    braced true same is = opened_brace depth (grind (arith, nat_tests)) is
    braced false same is = absurd (cc)
sound (rows depth) (sign c) follows new e held ts m =
    elim (sign_split c 125 [] (if c == 40 then push (a_literal depth ∷ after_value depth ∷ after_row depth ∷ []) else wrong) new e) [
      | inl one ↦ (no_tuples, tt, ap (λ x. sign 123 ∷ sign x ∷ ts) one.0 ∙ ap (λ r. sign 123 ∷ sign 125 ∷ r) (newly [] new ts one.1 m))
      | inr other ↦ elim (sign_split c 40 (a_literal depth ∷ after_value depth ∷ after_row depth ∷ []) wrong new other) [
        | inl one ↦ first_row c ts one.0 (newly (a_literal depth ∷ after_value depth ∷ after_row depth ∷ []) new ts one.1 m)
        | inr none ↦ absurd (cc)
      ]
    ]
  where
    first_row : (c : ℕ) (ts : List Token) → c ≡ 40 → Meant (a_literal depth ∷ after_value depth ∷ after_row depth ∷ []) ts → RowsIn depth (sign c ∷ ts)
    first_row c ts e m =
        let d = m.2 in
        let vs = m.3.2 in
        let r = single (after_row depth) m.3.1 m.3.3 in (
          tuple (value d.0 vs.0) r.0,
          ((d.1, vs.1), r.1),
          ap (λ x. sign 123 ∷ sign x ∷ ts) e ∙ ap (λ z. sign 123 ∷ sign 40 ∷ z) (
              joined ts m.0 m.1 (literals.tokens_of d.0) ((more_values vs.0 ++ (sign 41 ∷ [])) ++ (more_rows r.0 ++ (sign 125 ∷ []))) m.4 d.2
              (joined m.1 m.3.0 m.3.1 (more_values vs.0 ++ (sign 41 ∷ [])) (more_rows r.0 ++ (sign 125 ∷ [])) m.3.4 vs.2 r.2)
              ∙ sym (append_assoc (literals.tokens_of d.0) (more_values vs.0 ++ (sign 41 ∷ [])) (more_rows r.0 ++ (sign 125 ∷ [])))
              ∙ sym (append_assoc (literals.tokens_of d.0 ++ (more_values vs.0 ++ (sign 41 ∷ []))) (more_rows r.0) (sign 125 ∷ []))),
        )
sound (after_row depth) (sign c) follows new e held ts m =
    elim (sign_split c 125 [] (if c == 44 then push (a_row depth ∷ after_row depth ∷ []) else wrong) new e) [
      | inl one ↦ (no_tuples, tt, ap (λ x. sign x ∷ ts) one.0 ∙ ap (λ r. sign 125 ∷ r) (newly [] new ts one.1 m))
      | inr other ↦ elim (sign_split c 44 (a_row depth ∷ after_row depth ∷ []) wrong new other) [
        | inl one ↦ next_row c ts one.0 (newly (a_row depth ∷ after_row depth ∷ []) new ts one.1 m)
        | inr none ↦ absurd (cc)
      ]
    ]
  where
    next_row : (c : ℕ) (ts : List Token) → c ≡ 44 → Meant (a_row depth ∷ after_row depth ∷ []) ts → Means (after_row depth) (sign c ∷ ts)
    next_row c ts e m =
        let parts = two_of (a_row depth) (after_row depth) ts m in
        let t = parts.one in
        let r = parts.two in (
          tuple t.0 r.0,
          (t.1, r.1),
          ap (λ x. sign x ∷ ts) e ∙ ap (λ z. sign 44 ∷ z) (joined ts parts.first parts.second (literals.row_tokens t.0) (more_rows r.0 ++ (sign 125 ∷ [])) parts.is t.2 r.2 ∙ sym (append_assoc (literals.row_tokens t.0) (more_rows r.0) (sign 125 ∷ []))),
        )
sound (a_row depth) (sign c) follows new e held ts m = elim (sign_split c 40 (a_literal depth ∷ after_value depth ∷ []) wrong new e) [
  | inl one ↦ a_row_sound c ts one.0 (newly (a_literal depth ∷ after_value depth ∷ []) new ts one.1 m)
  | inr other ↦ absurd (cc)
]
  where
    a_row_sound : (c : ℕ) (ts : List Token) → c ≡ 40 → Meant (a_literal depth ∷ after_value depth ∷ []) ts → RowIn depth (sign c ∷ ts)
    a_row_sound c ts e m =
        let parts = two_of (a_literal depth) (after_value depth) ts m in
        let d = parts.one in
        let vs = parts.two in
        (value d.0 vs.0, (d.1, vs.1), ap (λ x. sign x ∷ ts) e ∙ ap (λ z. sign 40 ∷ z) (joined ts parts.first parts.second (literals.tokens_of d.0) (more_values vs.0 ++ (sign 41 ∷ [])) parts.is d.2 vs.2))
sound (after_value depth) (sign c) follows new e held ts m =
    elim (sign_split c 41 [] (if c == 44 then push (a_literal depth ∷ after_value depth ∷ []) else wrong) new e) [
      | inl one ↦ (no_values, tt, ap (λ x. sign x ∷ ts) one.0 ∙ ap (λ r. sign 41 ∷ r) (newly [] new ts one.1 m))
      | inr other ↦ elim (sign_split c 44 (a_literal depth ∷ after_value depth ∷ []) wrong new other) [
        | inl one ↦ next_value c ts one.0 (newly (a_literal depth ∷ after_value depth ∷ []) new ts one.1 m)
        | inr none ↦ absurd (cc)
      ]
    ]
  where
    next_value : (c : ℕ) (ts : List Token) → c ≡ 44 → Meant (a_literal depth ∷ after_value depth ∷ []) ts → Means (after_value depth) (sign c ∷ ts)
    next_value c ts e m =
        let parts = two_of (a_literal depth) (after_value depth) ts m in
        let d = parts.one in
        let vs = parts.two in (
          value d.0 vs.0,
          (d.1, vs.1),
          ap (λ x. sign x ∷ ts) e ∙ ap (λ z. sign 44 ∷ z) (joined ts parts.first parts.second (literals.tokens_of d.0) (more_values vs.0 ++ (sign 41 ∷ [])) parts.is d.2 vs.2 ∙ sym (append_assoc (literals.tokens_of d.0) (more_values vs.0) (sign 41 ∷ []))),
        )
sound a_key (word letters) follows new e held ts m = (record { prop = letters; down = false }, named_held letters held, ap (λ r. word letters ∷ r) (pushed [] new ts e m))
sound a_key (sign c) follows new e held ts m = elim (sign_split c 45 (a_name ∷ []) wrong new e) [
  | inl one ↦ let n = single a_name ts (newly (a_name ∷ []) new ts one.1 m) in (record { prop = n.0; down = true }, n.1, ap (λ x. sign x ∷ ts) one.0 ∙ ap (λ r. sign 45 ∷ r) n.2)
  | inr other ↦ absurd (cc)
]
sound (more item) (sign c) follows new e held ts m =
    elim (sign_split c 44 (member_goals item ++ (more item ∷ [])) (if c == end_sign item then push (end_goals item) else wrong) new e) [
      | inl one ↦ subst (λ x. MeansMore item (sign x ∷ ts)) (sym one.0) (more_sound item ts (newly (member_goals item ++ (more item ∷ [])) new ts one.1 m))
      | inr other ↦ elim (sign_split c (end_sign item) (end_goals item) wrong new other) [
        | inl one ↦ subst (λ x. MeansMore item (sign x ∷ ts)) (sym one.0) (end_sound item ts (newly (end_goals item) new ts one.1 m))
        | inr none ↦ absurd (cc)
      ]
    ]
sound (a_word letters) (word other) follows new e held ts m = this_sound (bytes_eq other letters) letters other new ts refl e m
sound values (number z) follows new e held ts m =
    let xs = single values ts (pushed (values ∷ []) new ts e m) in (long z ∷ xs.0, All-cons (λ d. IsLiteral max_braces d) (long z) xs.0 (fits_held z held) xs.1, ap (λ r. number z ∷ r) xs.2)
sound values (text content) follows new e held ts m =
    let xs = single values ts (pushed (values ∷ []) new ts e m) in (data_.text content ∷ xs.0, All-cons (λ d. IsLiteral max_braces d) (data_.text content) xs.0 (text_held content held) xs.1, ap (λ r. text content ∷ r) xs.2)
sound values (bytes content) follows new e held ts m =
    let xs = single values ts (pushed (values ∷ []) new ts e m) in (data_.bytes content ∷ xs.0, All-cons (λ d. IsLiteral max_braces d) (data_.bytes content) xs.0 (bytes_held content held) xs.1, ap (λ r. bytes content ∷ r) xs.2)
sound values (sign c) follows new e held ts m = elim (sign_split c 123 (rows 7 ∷ values ∷ []) wrong new e) [
  | inl one ↦ view_first c ts one.0 (newly (rows 7 ∷ values ∷ []) new ts one.1 m)
  | inr other ↦ absurd (cc)
]
  where
    view_first : (c : ℕ) (ts : List Token) → c ≡ 123 → Meant (rows 7 ∷ values ∷ []) ts → Means values (sign c ∷ ts)
    view_first c ts e m =
        let parts = two_of (rows 7) values ts m in
        let inside = parts.one in
        let xs = parts.two in
        let less : 7 ≡ max_braces - 1 = omega arith in (
          relation inside.0 ∷ xs.0,
          All-cons (λ d. IsLiteral max_braces d) (relation inside.0) xs.0 (omega arith, subst (λ x. AreLiteralRows x inside.0) less inside.1) xs.1,
          ap (λ x. sign x ∷ ts) e ∙ ap (λ r. sign 123 ∷ r) parts.is ∙ ap (λ z. z ++ parts.second) inside.2 ∙ ap (λ z. literals.tokens_of (relation inside.0) ++ z) xs.2,
        )
sound more_criteria (sign c) follows new e held ts m =
    elim (sign_split c 44 (member_goals items.Criterion ++ (more_criteria ∷ [])) wrong new e) [
      | inl one ↦ criterion_first c ts one.0 (newly (member_goals items.Criterion ++ (more_criteria ∷ [])) new ts one.1 m)
      | inr other ↦ absurd (cc)
    ]
  where
    criterion_first : (c : ℕ) (ts : List Token) → c ≡ 44 → Meant (member_goals items.Criterion ++ (more_criteria ∷ [])) ts → Means more_criteria (sign c ∷ ts)
    criterion_first c ts e m =
        let parts = meant_split (member_goals items.Criterion) (more_criteria ∷ []) ts m in
        let x = criterion_sound parts.0 parts.2 in
        let xs = single more_criteria parts.1 parts.3 in (
          x.0 ∷ xs.0,
          All-cons IsCriterion x.0 xs.0 x.1 xs.1,
          ap (λ y. sign y ∷ ts) e ∙ list_more criterion_tokens x.0 xs.0 ts parts.0 parts.1 [] parts.4 x.2 (xs.2 ∙ sym (append-nil (listed criterion_tokens xs.0))) ∙ append-nil (listed criterion_tokens (x.0 ∷ xs.0)),
        )
sound (a_text most) (text content) follows new e held ts m = short_sound (nat_lt (length content) (suc most)) most content new ts refl e (text_held content held) m
sound an_operation (word letters) follows new e held ts m = operated_sound letters (operator_named letters) new ts refl e m
sound _ _ follows new e held ts m = absurd (cc)
