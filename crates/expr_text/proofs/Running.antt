-- What the first piece makes of goals.
use Rattle.std.proofs.Common.{◌≡◌, ◌⊎◌, inl, inr, ℕ, ℤ, pos, negsuc, ◌+◌, ◌<◌, ◌≤◌, ◌-◌, ◌==◌, zero, suc, Bool, true, false, List, [], ◌∷◌, ◌++◌, length, length-drop, take, drop, get_or, Option, None, Some, refl, sym, ap, subst, ◌∙◌, arith, if◌then◌else◌, true≢false}
use Rattle.std.specs.List.{slice_get}
use Rattle.std.specs.Str.{bytes_eq}
use Rattle.std.proofs.lemmas.Slice.Eq.{bytes_eq-Decides}
use Rattle.std.proofs.lemmas.List.{take_all}
use Rattle.std.proofs.lemmas.Bool.{false≢true}
use Rattle.std.proofs.lemmas.Bool.Decides.{nat_tests}
use Rattle.mk_value.specs.Names.{IsName}
use Rattle.mk_value.specs.Tokens.{Token, word, number, text, bytes, sign}
use Rattle.tokens.specs.Cutting as cutting
use Rattle.tokens.specs.Fronts.{tokens_in}
use Rattle.tokens.specs.Meanings.{piece_of, pieces_of, token_of, tokens_of_pieces}
use Rattle.tokens.specs.declared.token.Piece.{Piece}
use Rattle.expr_text.specs.Readers.{Becomes, Fails, place_of_first}
use Rattle.expr_text.specs.Operators.{takes, word_of}
use Rattle.expr_text.specs.Walk.{Goal, Move, Next, Rest, a_count, a_key, a_name, a_number, a_path, a_query, a_sign, are_met, deep, deepens, end_goals, end_sign, followed, goes, is_held, is_opening, member_goals, more, moved, named_in, opened, opens, operator_named, operators, pass, push, ran, run, step, stops, table_goals, wrong}
use Rattle.expr_text.specs.declared.list.Item.{Item}
use Rattle.expr_text.specs.declared.list.Item.TheVariants.{Criterion, Range, Order, Name, Named}
use Rattle.expr_text.specs.declared.operator.Operator.{Operator}
use Rattle.expr_text.specs.declared.operator.Operator.TheVariants as variants
use Rattle.expr_text.specs.declared.operator.Operator.TheVariants.{Select, Sort, Project, Without, Rename, Slice, Concat, Pair, Product, Unique, Union, Intersect, Minus, Different, GroupBy, Counts, Join, OuterJoin, JoinProp, OuterJoinProp, Calc, Keep}
use Rattle.expr_text.specs.declared.error.ExprError.{ExprError}
use Rattle.expr_text.specs.declared.error.ExprError.TheVariants.{Syntax, TooDeep}
use Rattle.expr_text.proofs.Held.{IsName-from_is_name, held_count, held_number, held_sign, held_word, named_held}

pub run-goes : (p : cutting.Piece) (pieces : List cutting.Piece) (end : ℕ) (goals further : List Goal) → is_held p.token ≡ true → step goals p.token (opens pieces) ≡ goes further
    → run (p ∷ pieces) end goals ≡ run pieces end further
unfolding run
run-goes p pieces end goals further held moves =
    ap (λ h. ran h (step goals p.token (opens pieces)) p.place (λ g. run pieces end g)) held ∙ ap (λ n. ran true n p.place (λ g. run pieces end g)) moves

run_unheld : (h : Bool) (n : Next) (place : ℕ) (on : List Goal → Option ExprError) → h ≡ false → ran h n place on ≡ Some (Syntax place)
run_unheld h n place on e = ap (λ x. ran x n place on) e

run_stopped : (h : Bool) (n : Next) (place : ℕ) (on : List Goal → Option ExprError) → n ≡ stops → ran h n place on ≡ Some (Syntax place)
run_stopped true n place on e = ap (λ x. ran true x place on) e
run_stopped false n place on e = refl

pub run-stops : (p : cutting.Piece) (pieces : List cutting.Piece) (end : ℕ) (goals : List Goal) → (is_held p.token ≡ false) ⊎ (step goals p.token (opens pieces) ≡ stops)
    → run (p ∷ pieces) end goals ≡ Some (Syntax p.place)
unfolding run
run-stops p pieces end goals (inl unheld) = run_unheld (is_held p.token) (step goals p.token (opens pieces)) p.place (λ g. run pieces end g) unheld
run-stops p pieces end goals (inr moves) = run_stopped (is_held p.token) (step goals p.token (opens pieces)) p.place (λ g. run pieces end g) moves

pub run-deepens : (p : cutting.Piece) (pieces : List cutting.Piece) (end : ℕ) (goals : List Goal) → is_held p.token ≡ true → step goals p.token (opens pieces) ≡ deepens
    → run (p ∷ pieces) end goals ≡ Some (TooDeep p.place)
unfolding run
run-deepens p pieces end goals held moves =
    ap (λ h. ran h (step goals p.token (opens pieces)) p.place (λ g. run pieces end g)) held ∙ ap (λ n. ran true n p.place (λ g. run pieces end g)) moves

pub run-end : (end : ℕ) (goals : List Goal) → are_met goals ≡ false → run [] end goals ≡ Some (Syntax end)
unfolding run
run-end end goals e = ap (λ b. if b then None else Some (Syntax end)) e

pub run-met : (end : ℕ) (goals : List Goal) → are_met goals ≡ true → run [] end goals ≡ None
unfolding run
run-met end goals e = ap (λ b. if b then None else Some (Syntax end)) e

-- the same of the pieces of the program
pub tokens_in-pieces_of : (pieces : List Piece) → tokens_in (pieces_of pieces) ≡ tokens_of_pieces pieces
tokens_in-pieces_of [] = refl
tokens_in-pieces_of (p ∷ pieces) = ap (λ tokens. token_of p.token ∷ tokens) (tokens_in-pieces_of pieces)

abbrev pub rest_at : ℕ → List Piece → Rest
rest_at end pieces = record { pieces = pieces_of pieces; end = end }

-- what a slice from there on is
abbrev pub from_place : ℕ → List Piece → List Piece
from_place n pieces = take (length pieces - n) (drop n pieces)

pub from_place-drop : (n : ℕ) (pieces : List Piece) → from_place n pieces ≡ drop n pieces
from_place-drop n pieces = let short : length (drop n pieces) ≤ length pieces - n = omega (arith, length-drop n pieces) in take_all (length pieces - n) (drop n pieces) short

-- the first of a list, as it is read
pub none_first : {X : Type 0} (xs : List X) → None ≡ slice_get xs 0 → xs ≡ []
none_first [] e = refl
none_first (x ∷ xs) e = cc

pub some_first : {X : Type 0} (xs : List X) (x : X) → Some x ≡ slice_get xs 0 → xs ≡ x ∷ drop 1 xs
some_first [] x e = cc
some_first (y ∷ xs) x e = ap (λ z. z ∷ xs) (let f : Some x ≡ Some y = e in let g : y ≡ x = cc in g)

pub place_at : (pieces : List Piece) (end n : ℕ) (p : Piece) → n < length pieces → (get_or pieces n p).place ≡ place_of_first end (drop n (pieces_of pieces))
place_at [] end n p h = absurd (omega arith)
place_at (q ∷ pieces) end zero p h = refl
place_at (q ∷ pieces) end (suc n) p h = place_at pieces end n p (omega arith)

-- a goal that one token meets, or cannot begin
pub first_becomes : (all : List Piece) (p : Piece) (end : ℕ) (g : Goal) (left : List Goal) → all ≡ p ∷ drop 1 all → is_held (token_of p.token) ≡ true
    → ((follows : Bool) → moved g (token_of p.token) follows ≡ push left) → Becomes (g ∷ []) (rest_at end all) left (rest_at end (from_place 1 all))
first_becomes all p end g left e held moves =
    subst (λ new. Becomes (g ∷ []) (rest_at end all) left (rest_at end new)) (sym (from_place-drop 1 all)) (record {
      same = λ others.
          ap (λ ps. run (pieces_of ps) end (g ∷ others)) e
          ∙ run-goes (piece_of p) (pieces_of (drop 1 all)) end (g ∷ others) (left ++ others) held
          (ap (λ m. followed m others (step others (token_of p.token) (opens (pieces_of (drop 1 all))))) (moves (opens (pieces_of (drop 1 all)))));
    })

pub first_fails : (all : List Piece) (p : Piece) (end : ℕ) (g : Goal) → all ≡ p ∷ drop 1 all
    → (is_held (token_of p.token) ≡ false) ⊎ ((follows : Bool) → moved g (token_of p.token) follows ≡ wrong) → Fails (g ∷ []) (rest_at end all) (Syntax p.place)
first_fails all p end g e fails = inr (λ others. ap (λ ps. run (pieces_of ps) end (g ∷ others)) e ∙ run-stops (piece_of p) (pieces_of (drop 1 all)) end (g ∷ others) (stops_so others fails))
  where
    stops_so : (others : List Goal) → (is_held (token_of p.token) ≡ false) ⊎ ((follows : Bool) → moved g (token_of p.token) follows ≡ wrong)
        → (is_held (token_of p.token) ≡ false) ⊎ (step (g ∷ others) (token_of p.token) (opens (pieces_of (drop 1 all))) ≡ stops)
    stops_so others (inl unheld) = inl unheld
    stops_so others (inr moves) = inr (ap (λ m. followed m others (step others (token_of p.token) (opens (pieces_of (drop 1 all))))) (moves (opens (pieces_of (drop 1 all)))))

pub end_fails : (all : List Piece) (end : ℕ) (g : Goal) → all ≡ [] → ((others : List Goal) → are_met (g ∷ others) ≡ false) → Fails (g ∷ []) (rest_at end all) (Syntax end)
end_fails all end g e unmet = inr (λ others. ap (λ ps. run (pieces_of ps) end (g ∷ others)) e ∙ run-end end (g ∷ others) (unmet others))

-- names
pub no_name : (t : Token) → ((letters : List ℕ) → IsName letters → t ≡ word letters → ⊥) → (is_held t ≡ false) ⊎ ((follows : Bool) → moved a_name t follows ≡ wrong)
no_name (word letters) none = inl (unheld (is_held (word letters)) refl)
  where
    unheld : (b : Bool) → is_held (word letters) ≡ b → is_held (word letters) ≡ false
    unheld true e = absurd (none letters (named_held letters e) refl)
    unheld false e = e
no_name (number z) none = inr (λ follows. refl)
no_name (text content) none = inr (λ follows. refl)
no_name (bytes content) none = inr (λ follows. refl)
no_name (sign s) none = inr (λ follows. refl)

-- numbers
pub no_count : (t : Token) → ((n : ℕ) → t ≡ number (pos n) → ⊥) → (follows : Bool) → moved a_count t follows ≡ wrong
no_count (word letters) none follows = refl
no_count (number (pos n)) none follows = absurd (none n refl)
no_count (number (negsuc n)) none follows = refl
no_count (text content) none follows = refl
no_count (bytes content) none follows = refl
no_count (sign s) none follows = refl

-- signs
same_sign : (s c : ℕ) → (c == s) ≡ true → c ≡ s
same_sign s c e = grind (arith, nat_tests)

other_sign : (s c : ℕ) → (c ≡ s → ⊥) → (c == s) ≡ false
other_sign s c h = grind (arith, nat_tests)

pub no_sign : (s : ℕ) (t : Token) → (t ≡ sign s → ⊥) → (follows : Bool) → moved (a_sign s) t follows ≡ wrong
no_sign s (word letters) none follows = refl
no_sign s (number z) none follows = refl
no_sign s (text content) none follows = refl
no_sign s (bytes content) none follows = refl
no_sign s (sign c) none follows = ap (λ b. if b then push [] else wrong) (other_sign s c (λ e. none (ap sign e)))

pub is_same : (n : ℕ) → (n == n) ≡ true
is_same n = grind (arith, nat_tests)

pub a_sign_met : (s : ℕ) (t : Token) → t ≡ sign s → (follows : Bool) → moved (a_sign s) t follows ≡ push []
a_sign_met s t e follows = ap (λ x. moved (a_sign s) x follows) e ∙ ap (λ b. if b then push [] else wrong) (is_same s)

pub no_number : (t : Token) → ((z : ℤ) → t ≡ number z → ⊥) → (follows : Bool) → moved a_number t follows ≡ wrong
no_number (word letters) none follows = refl
no_number (number z) none follows = absurd (none z refl)
no_number (text content) none follows = refl
no_number (bytes content) none follows = refl
no_number (sign s) none follows = refl

-- lists
pub list_ends : (item : Item) (t : Token) → t ≡ sign (end_sign item) → (follows : Bool) → moved (more item) t follows ≡ push (end_goals item)
list_ends Criterion t e follows = ap (λ x. moved (more Criterion) x follows) e
list_ends Range t e follows = ap (λ x. moved (more Range) x follows) e
list_ends Order t e follows = ap (λ x. moved (more Order) x follows) e
list_ends Name t e follows = ap (λ x. moved (more Name) x follows) e
list_ends Named t e follows = ap (λ x. moved (more Named) x follows) e

pub list_goes_on : (item : Item) (t : Token) → t ≡ sign 44 → (follows : Bool) → moved (more item) t follows ≡ push (member_goals item ++ (more item ∷ []))
list_goes_on item t e follows = ap (λ x. moved (more item) x follows) e

pub no_list : (item : Item) (t : Token) → (t ≡ sign (end_sign item) → ⊥) → (t ≡ sign 44 → ⊥) → (follows : Bool) → moved (more item) t follows ≡ wrong
no_list item (word letters) end comma follows = refl
no_list item (number z) end comma follows = refl
no_list item (text content) end comma follows = refl
no_list item (bytes content) end comma follows = refl
no_list item (sign c) end comma follows =
    ap (λ b. if b then push (member_goals item ++ (more item ∷ [])) else (if c == end_sign item then push (end_goals item) else wrong)) (other_sign 44 c (λ e. comma (ap sign e)))
    ∙ ap (λ b. if b then push (end_goals item) else wrong) (other_sign (end_sign item) c (λ e. end (ap sign e)))

pub item_unmet : (item : Item) (others : List Goal) → are_met (more item ∷ others) ≡ false
item_unmet item others = refl

-- operators by their words
pub named_none : (os : List Operator) (letters : List ℕ) → ((o : Operator) → letters ≡ word_of o → ⊥) → named_in os letters ≡ None
named_none [] letters none = refl
named_none (o ∷ os) letters none =
    ap (λ b. if b then Some o else named_in os letters) (differs (bytes_eq letters (word_of o)) refl) ∙ named_none os letters none
  where
    differs : (b : Bool) → bytes_eq letters (word_of o) ≡ b → bytes_eq letters (word_of o) ≡ false
    differs true e = absurd (none o ((bytes_eq-Decides letters (word_of o)).0 e))
    differs false e = e

pub no_operator : (letters : List ℕ) → ((o : Operator) → letters ≡ word_of o → ⊥) → operator_named letters ≡ None
unfolding operator_named
no_operator letters none = named_none operators letters none

named_sound : (os : List Operator) (letters : List ℕ) (o : Operator) → named_in os letters ≡ Some o → letters ≡ word_of o
named_sound [] letters o e = cc
named_sound (p ∷ os) letters o e = first (named_sound os letters o) (bytes_eq letters (word_of p)) refl e
  where
    first : (named_in os letters ≡ Some o → letters ≡ word_of o) → (b : Bool) → bytes_eq letters (word_of p) ≡ b → (if b then Some p else named_in os letters) ≡ Some o → letters ≡ word_of o
    first others true same is = let f : p ≡ o = cc in (bytes_eq-Decides letters (word_of p)).0 same ∙ ap word_of f
    first others false same is = others is

pub operator_word : (letters : List ℕ) (o : Operator) → operator_named letters ≡ Some o → letters ≡ word_of o
unfolding operator_named
operator_word letters o e = named_sound operators letters o e

pub word_operator : (o : Operator) → operator_named (word_of o) ≡ Some o
unfolding operator_named
word_operator Select = refl
word_operator variants.Range = refl
word_operator Sort = refl
word_operator Project = refl
word_operator Without = refl
word_operator Rename = refl
word_operator Slice = refl
word_operator Concat = refl
word_operator Pair = refl
word_operator Product = refl
word_operator Unique = refl
word_operator Union = refl
word_operator Intersect = refl
word_operator Minus = refl
word_operator Different = refl
word_operator GroupBy = refl
word_operator Counts = refl
word_operator Join = refl
word_operator OuterJoin = refl
word_operator JoinProp = refl
word_operator OuterJoinProp = refl
word_operator Calc = refl
word_operator Keep = refl

-- an expression that does not begin with an operator is a path
pub query_path : (t : Token) (follows : Bool) (depth : ℕ) → (follows ≡ false) ⊎ ((o : Operator) → t ≡ word (word_of o) → ⊥) → moved (a_query depth) t follows ≡ moved a_path t follows
query_path (word letters) false depth none = refl
query_path (word letters) true depth (inl e) = absurd (true≢false e)
query_path (word letters) true depth (inr none) = ap (λ o. opened o depth) (no_operator letters (λ o e. none o (ap word e)))
query_path (number z) follows depth none = refl
query_path (text content) follows depth none = refl
query_path (bytes content) follows depth none = refl
query_path (sign s) follows depth none = refl

becomes_path : (ps : List cutting.Piece) (end depth : ℕ) (others : List Goal)
    → ((p : cutting.Piece) (pieces : List cutting.Piece) → ps ≡ p ∷ pieces → (opens pieces ≡ false) ⊎ ((o : Operator) → p.token ≡ word (word_of o) → ⊥))
    → run ps end (a_query depth ∷ others) ≡ run ps end (a_path ∷ others)
unfolding run
becomes_path [] end depth others none = refl
becomes_path (p ∷ ps) end depth others none =
    ap (λ m. ran (is_held p.token) (followed m others (step others p.token (opens ps))) p.place (λ g. run ps end g)) (query_path p.token (opens ps) depth (none p ps refl))

pub no_opening : (t : Token) → (t ≡ sign 40 → ⊥) → is_opening t ≡ false
no_opening (word letters) none = refl
no_opening (number z) none = refl
no_opening (text content) none = refl
no_opening (bytes content) none = refl
no_opening (sign c) none = other_sign 40 c (λ e. none (ap sign e))

-- the first two pieces
pub two_first : (xs : List Piece) (d : Piece) → 2 ≤ length xs → xs ≡ get_or xs 0 d ∷ get_or xs 1 d ∷ drop 2 xs
two_first [] d h = absurd (omega arith)
two_first (x ∷ []) d h = absurd (omega arith)
two_first (x ∷ y ∷ xs) d h = refl

pub path_alone : (all : List Piece) (end depth : ℕ) → length all < 2 → Becomes (a_query depth ∷ []) (rest_at end all) (a_path ∷ []) (rest_at end all)
path_alone [] end depth h = record { same = λ others. becomes_path [] end depth others (λ p pieces e. absurd (cc)) }
path_alone (p ∷ []) end depth h = record { same = λ others. becomes_path (piece_of p ∷ []) end depth others (λ q pieces e. let f : [] ≡ pieces = cc in inl (ap opens (sym f))) }
path_alone (p ∷ q ∷ all) end depth h = absurd (omega arith)

pub path_of_two : (all : List Piece) (p q : Piece) (rest : List Piece) (end depth : ℕ) → all ≡ p ∷ q ∷ rest
    → ((o : Operator) → token_of p.token ≡ word (word_of o) → ⊥) ⊎ (token_of q.token ≡ sign 40 → ⊥) → Becomes (a_query depth ∷ []) (rest_at end all) (a_path ∷ []) (rest_at end all)
path_of_two all p q rest end depth e none =
    subst (λ ps. Becomes (a_query depth ∷ []) (rest_at end ps) (a_path ∷ []) (rest_at end ps)) (sym e)
    (record { same = λ others. becomes_path (piece_of p ∷ piece_of q ∷ pieces_of rest) end depth others (λ x pieces f. chosen x pieces f none) })
  where
    chosen : (x : cutting.Piece) (pieces : List cutting.Piece) → piece_of p ∷ piece_of q ∷ pieces_of rest ≡ x ∷ pieces
        → ((o : Operator) → token_of p.token ≡ word (word_of o) → ⊥) ⊎ (token_of q.token ≡ sign 40 → ⊥) → (opens pieces ≡ false) ⊎ ((o : Operator) → x.token ≡ word (word_of o) → ⊥)
    chosen x pieces f (inl none) = let g : piece_of p ≡ x = cc in inr (λ o is. none o (ap (λ y. y.token) g ∙ is))
    chosen x pieces f (inr none) = let g : piece_of q ∷ pieces_of rest ≡ pieces = cc in inl (ap opens (sym g) ∙ no_opening (token_of q.token) none)

-- an operator opens
word_is_name : (o : Operator) → is_held (word (word_of o)) ≡ true
unfolding is_held
word_is_name Select = refl
word_is_name variants.Range = refl
word_is_name Sort = refl
word_is_name Project = refl
word_is_name Without = refl
word_is_name Rename = refl
word_is_name Slice = refl
word_is_name Concat = refl
word_is_name Pair = refl
word_is_name Product = refl
word_is_name Unique = refl
word_is_name Union = refl
word_is_name Intersect = refl
word_is_name Minus = refl
word_is_name Different = refl
word_is_name GroupBy = refl
word_is_name Counts = refl
word_is_name Join = refl
word_is_name OuterJoin = refl
word_is_name JoinProp = refl
word_is_name OuterJoinProp = refl
word_is_name Calc = refl
word_is_name Keep = refl

pub held_operator : (o : Operator) → is_held (word (word_of o)) ≡ true
held_operator o = word_is_name o

pub operator_moves : (o : Operator) (depth : ℕ) → moved (a_query depth) (word (word_of o)) true ≡ opened (Some o) depth
operator_moves o depth = ap (λ x. opened x depth) (word_operator o)

at_opening : (t : Token) → t ≡ sign 40 → is_opening t ≡ true
at_opening t e = ap is_opening e

pub operator_opens : (all : List Piece) (p q : Piece) (end depth : ℕ) (o : Operator) → all ≡ p ∷ q ∷ drop 2 all → token_of p.token ≡ word (word_of o) → token_of q.token ≡ sign 40 → 0 < depth
    → Becomes (a_query depth ∷ []) (rest_at end all) (table_goals (depth - 1) (takes o)) (rest_at end (from_place 2 all))
operator_opens all p q end zero o e is opening h = absurd (omega arith)
operator_opens all p q end (suc depth) o e is opening h =
    let less : suc depth - 1 ≡ depth = omega arith in
    subst (λ d. Becomes (a_query (suc depth) ∷ []) (rest_at end all) (table_goals d (takes o)) (rest_at end (from_place 2 all))) (sym less)
    (subst (λ new. Becomes (a_query (suc depth) ∷ []) (rest_at end all) (table_goals depth (takes o)) (rest_at end new)) (sym (from_place-drop 2 all)) (record {
      same = λ others.
          let rest = pieces_of (drop 2 all) in
          ap (λ ps. run (pieces_of ps) end (a_query (suc depth) ∷ others)) e
          ∙ run-goes (piece_of p) (piece_of q ∷ rest) end (a_query (suc depth) ∷ others) (a_sign 40 ∷ (table_goals depth (takes o) ++ others))
          (ap is_held is ∙ word_is_name o)
          (ap (λ b. followed (moved (a_query (suc depth)) (token_of p.token) b) others (step others (token_of p.token) b)) (at_opening (token_of q.token) opening)
          ∙ ap (λ m. followed m others (step others (token_of p.token) true)) (ap (λ t. moved (a_query (suc depth)) t true) is ∙ operator_moves o (suc depth)))
          ∙ run-goes (piece_of q) rest end (a_sign 40 ∷ (table_goals depth (takes o) ++ others)) (table_goals depth (takes o) ++ others)
          (ap is_held opening ∙ held_sign 40)
          (ap (λ m. followed m (table_goals depth (takes o) ++ others) (step (table_goals depth (takes o) ++ others) (token_of q.token) (opens rest))) (a_sign_met 40 (token_of q.token) opening (opens rest)));
    }))

pub opens_too_deep : (all : List Piece) (p q : Piece) (end depth : ℕ) (o : Operator) → all ≡ p ∷ q ∷ drop 2 all → token_of p.token ≡ word (word_of o) → token_of q.token ≡ sign 40 → depth ≡ 0
    → Fails (a_query depth ∷ []) (rest_at end all) (TooDeep p.place)
opens_too_deep all p q end depth o e is opening h =
    subst (λ d. Fails (a_query d ∷ []) (rest_at end all) (TooDeep p.place)) (sym h)
    (inr (λ others.
    let rest = pieces_of (drop 2 all) in
    ap (λ ps. run (pieces_of ps) end (a_query 0 ∷ others)) e
    ∙ run-deepens (piece_of p) (piece_of q ∷ rest) end (a_query 0 ∷ others) (ap is_held is ∙ word_is_name o)
    (ap (λ b. followed (moved (a_query 0) (token_of p.token) b) others (step others (token_of p.token) b)) (at_opening (token_of q.token) opening)
    ∙ ap (λ m. followed m others (step others (token_of p.token) true)) (ap (λ t. moved (a_query 0) t true) is ∙ operator_moves o 0))))

-- nothing may stand behind the whole
pub nothing_more : (all : List Piece) (p : Piece) (end : ℕ) → all ≡ p ∷ drop 1 all → run (pieces_of all) end [] ≡ Some (Syntax p.place)
nothing_more all p end e = ap (λ ps. run (pieces_of ps) end []) e ∙ run-stops (piece_of p) (pieces_of (drop 1 all)) end [] (inr refl)

-- a property to sort by that does not begin with a minus is a name
key_name : (t : Token) → (t ≡ sign 45 → ⊥) → (follows : Bool) → moved a_key t follows ≡ moved a_name t follows
key_name (word letters) none follows = refl
key_name (number z) none follows = refl
key_name (text content) none follows = refl
key_name (bytes content) none follows = refl
key_name (sign c) none follows = ap (λ b. if b then push (a_name ∷ []) else wrong) (other_sign 45 c (λ e. none (ap sign e)))

pub no_key : (all : List Piece) (end : ℕ) → all ≡ [] → Becomes (a_key ∷ []) (rest_at end all) (a_name ∷ []) (rest_at end all)
no_key all end e = record { same = λ others. ap (λ ps. run (pieces_of ps) end (a_key ∷ others)) e ∙ run-end end (a_key ∷ others) refl ∙ sym (ap (λ ps. run (pieces_of ps) end (a_name ∷ others)) e ∙ run-end end (a_name ∷ others) refl) }

key_run : (p : cutting.Piece) (ps : List cutting.Piece) (end : ℕ) (others : List Goal) → moved a_key p.token (opens ps) ≡ moved a_name p.token (opens ps) → run (p ∷ ps) end (a_key ∷ others) ≡ run (p ∷ ps) end (a_name ∷ others)
unfolding run
key_run p ps end others e = ap (λ m. ran (is_held p.token) (followed m others (step others p.token (opens ps))) p.place (λ g. run ps end g)) e

pub plain_key : (all : List Piece) (p : Piece) (end : ℕ) → all ≡ p ∷ drop 1 all → (token_of p.token ≡ sign 45 → ⊥) → Becomes (a_key ∷ []) (rest_at end all) (a_name ∷ []) (rest_at end all)
plain_key all p end e none = record {
  same = λ others.
      ap (λ ps. run (pieces_of ps) end (a_key ∷ others)) e
      ∙ key_run (piece_of p) (pieces_of (drop 1 all)) end others (key_name (token_of p.token) none (opens (pieces_of (drop 1 all))))
      ∙ sym (ap (λ ps. run (pieces_of ps) end (a_name ∷ others)) e);
}

pub minus_key : (t : Token) → t ≡ sign 45 → (follows : Bool) → moved a_key t follows ≡ push (a_name ∷ [])
minus_key t e follows = ap (λ x. moved a_key x follows) e
