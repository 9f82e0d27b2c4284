-- The goals of a command's form mean its arguments: what spells them goes over all of these, and what meets them is spelled so.
use Rattle.std.proofs.Common.{◌≡◌, ◌≢◌, ◌⊎◌, inl, inr, ℕ, suc, ◌≤◌, List, [], ◌∷◌, ◌++◌, length, refl, sym, ap, subst, ◌∙◌, append-nil, arith}
use Rattle.std.proofs.lemmas.List.Elements.{All-head, All-nil}
use Rattle.std.proofs.lemmas.Str.{IsUtf8-nil}
use Rattle.mk_value.specs.Data.{Datum, IsText, integer, long, relation}
use Rattle.mk_value.specs.Data as data_
use Rattle.mk_value.specs.Literals as literals
use Rattle.mk_value.specs.Tokens.{Token, text}
use Rattle.tokens.specs.Literals.{IsLiteral, max_braces}
use Rattle.expr_text.specs.InLines.{AreValues, joined_tokens, values_tokens}
use Rattle.expr_text.specs.Queries as queries
use Rattle.expr_text.specs.Queries.{IsQuery, Query}
use Rattle.expr_text.specs.Spelling as expressions
use Rattle.expr_text.specs.Spelling.{criterion_tokens, listed}
use Rattle.expr_text.specs.Walk as goals
use Rattle.expr_text.specs.Walk.{Goal}
use Rattle.expr_text.proofs.Deeper.{deeper_query, more_deep, raise, raised}
use Rattle.expr_text.proofs.InLines.{Apart, count_goes, criteria_goes, criteria_sound, literal_goes, name_goes, no_text_goes, nothing_goes, operation_goes, path_goes, query_goes, text_goes, values_goes}
use Rattle.expr_text.proofs.Limited.{GoesWhole}
use Rattle.expr_text.proofs.Meaning.{Meant}
use Rattle.expr_text.proofs.Whole.{single}
use Rattle.cmd_text.specs.Arguments.{AreArguments, Argument, IsArgument, IsLast, Last, MayBeLeftOut, count, criteria, ending_of, expression, literal, name, note, nothing, operation, part_of, parts_of, path, values, with_argument, with_arguments, with_last}
use Rattle.cmd_text.specs.Grammar.{SpellsArguments}
use Rattle.cmd_text.specs.Notes.{IsNote, max_note}
use Rattle.cmd_text.specs.Readers.{ending_goals, goal_of, part_goals}
use Rattle.cmd_text.specs.Words.{Ending, Part, a_count, a_literal, a_name, a_note, a_path, an_expression, an_operation, no_more, some_criteria, some_values}

-- no argument begins as a path or an operator would go on
literal_apart : (d : Datum) → IsLiteral max_braces d → (ts : List Token) → Apart (literals.tokens_of d ++ ts)
literal_apart (integer z) whole ts = absurd whole
literal_apart (long z) whole ts = tt
literal_apart (data_.text content) whole ts = tt
literal_apart (data_.bytes content) whole ts = tt
literal_apart (relation r) whole ts = (refl, refl)

query_apart : (q : Query) (ts : List Token) → Apart (expressions.tokens_of q ++ ts)
query_apart (queries.path r) ts = tt
query_apart (queries.one o q t) ts = tt
query_apart (queries.two o p q t) ts = tt

argument_apart : (deep : ℕ) (a : Argument) → IsArgument deep a → (ts : List Token) → Apart (with_argument a ts)
argument_apart deep (name letters) whole ts = tt
argument_apart deep (count n) whole ts = tt
argument_apart deep (path r) whole ts = tt
argument_apart deep (literal d) whole ts = literal_apart d whole ts
argument_apart deep (expression q) whole ts = query_apart q ts
argument_apart deep (operation q) whole ts = query_apart q ts

pub arguments_apart : (deep : ℕ) (list : List Argument) → AreArguments deep list → (ts : List Token) → Apart ts → Apart (with_arguments list ts)
arguments_apart deep [] whole ts apart = apart
arguments_apart deep (a ∷ list) whole ts apart = argument_apart deep a whole.0 (with_arguments list ts)

pub last_apart : (last : Last) → IsLast last → Apart (with_last last [])
last_apart nothing whole = tt
last_apart (values []) whole = tt
last_apart (values (d ∷ xs)) whole = values_apart d xs whole
  where
    values_apart : (d : Datum) (xs : List Datum) → AreValues (d ∷ xs) → Apart (values_tokens (d ∷ xs) ++ [])
    values_apart d xs whole = subst Apart (sym (append-nil (values_tokens (d ∷ xs)))) (literal_apart d (All-head (λ x. IsLiteral max_braces x) d xs whole) (values_tokens xs))
last_apart (criteria []) whole = tt
last_apart (criteria (c ∷ xs)) whole = tt
last_apart (note content) whole = tt

-- what spells the arguments goes
pub arguments_go : (deep : ℕ) (list : List Argument) → AreArguments deep list → (others : List Goal) (ts : List Token) → Apart ts → GoesWhole others ts → GoesWhole (part_goals deep (parts_of list) others) (with_arguments list ts)
arguments_go deep [] whole others ts apart g = g
arguments_go deep (name letters ∷ list) whole others ts apart g =
    name_goes letters (part_goals deep (parts_of list) others) (with_arguments list ts) whole.0 (arguments_go deep list whole.1 others ts apart g)
arguments_go deep (count n ∷ list) whole others ts apart g =
    count_goes n (part_goals deep (parts_of list) others) (with_arguments list ts) whole.0 (arguments_go deep list whole.1 others ts apart g)
arguments_go deep (path r ∷ list) whole others ts apart g =
    path_goes r (part_goals deep (parts_of list) others) (with_arguments list ts) whole.0 (arguments_apart deep list whole.1 ts apart) (arguments_go deep list whole.1 others ts apart g)
arguments_go deep (literal d ∷ list) whole others ts apart g =
    literal_goes d (part_goals deep (parts_of list) others) (with_arguments list ts) whole.0 (arguments_go deep list whole.1 others ts apart g)
arguments_go deep (expression q ∷ list) whole others ts apart g =
    query_goes q deep (part_goals deep (parts_of list) others) (with_arguments list ts) whole.0 (arguments_apart deep list whole.1 ts apart) (arguments_go deep list whole.1 others ts apart g)
arguments_go deep (operation q ∷ list) whole others ts apart g =
    operation_goes q (part_goals deep (parts_of list) others) (with_arguments list ts) whole.0 (arguments_go deep list whole.1 others ts apart g)

pub last_goes : (last : Last) → IsLast last → GoesWhole (ending_goals (ending_of last)) (with_last last [])
last_goes nothing whole = nothing_goes
last_goes (values list) whole = subst (GoesWhole (goals.values ∷ [])) (sym (append-nil (values_tokens list))) (values_goes list whole)
last_goes (criteria list) whole = subst (GoesWhole goals.criteria_goals) (sym (append-nil (joined_tokens list))) (criteria_goes list whole.0 whole.1)
last_goes (note content) whole = text_goes max_note content whole.text whole.short

pub left_out_goes : (last : Last) → MayBeLeftOut last → GoesWhole (ending_goals (ending_of last)) []
left_out_goes (note content) empty = no_text_goes max_note
left_out_goes nothing empty = absurd empty
left_out_goes (values list) empty = absurd empty
left_out_goes (criteria list) empty = absurd empty

-- what meets the goals is spelled so
record EndsSo (ending : Ending) (ts : List Token) : Type 0 where
  pub last : Last
  pub same : ending_of last ≡ ending
  pub whole : IsLast last
  pub spells : SpellsArguments [] last ts

no_text : IsNote []
no_text = record { text = record { utf8 = IsUtf8-nil; no_zero = All-nil (λ b. b ≢ 0) }; short = omega arith }

ending_sound : (ending : Ending) (ts : List Token) → Meant (ending_goals ending) ts → EndsSo ending ts
ending_sound no_more ts m = record { last = nothing; same = refl; whole = tt; spells = inl m }
ending_sound some_values ts m =
    let list = single goals.values ts m in record { last = values list.0; same = refl; whole = list.1; spells = inl (list.2 ∙ sym (append-nil (values_tokens list.0))) }
ending_sound some_criteria ts m =
    let list = criteria_sound ts m in record { last = criteria list.0; same = refl; whole = (list.1, list.2); spells = inl (list.3 ∙ sym (append-nil (joined_tokens list.0))) }
ending_sound a_note ts m = chosen (single (goals.a_text max_note) ts m)
  where
    chosen : (ts ≡ []) ⊎ ((content : List ℕ) × IsText content × (length content ≤ max_note) × (ts ≡ text content ∷ [])) → EndsSo a_note ts
    chosen (inl none) = record { last = note []; same = refl; whole = no_text; spells = inr (refl, none) }
    chosen (inr some) = record { last = note some.0; same = refl; whole = record { text = some.1; short = some.2 }; spells = inl some.3 }

pub record ReadSo (deep : ℕ) (parts : List Part) (ending : Ending) (ts : List Token) : Type 0 where
  pub list : List Argument
  pub last : Last
  pub parts_same : parts_of list ≡ parts
  pub ending_same : ending_of last ≡ ending
  pub whole : AreArguments deep list
  pub last_whole : IsLast last
  pub spells : SpellsArguments list last ts

-- an argument more at the front
one_more : (deep : ℕ) (part : Part) (parts : List Part) (ending : Ending) (a : Argument) (front behind ts : List Token) → part_of a ≡ part → IsArgument deep a → ((rest : List Token) → front ++ rest ≡ with_argument a rest) → ts ≡ front ++ behind
    → ReadSo deep parts ending behind → ReadSo deep (part ∷ parts) ending ts
one_more deep part parts ending a front behind ts same whole begins e read = record {
  list = a ∷ read.list;
  last = read.last;
  parts_same = ap (λ p. p ∷ parts_of read.list) same ∙ ap (λ ps. part ∷ ps) read.parts_same;
  ending_same = read.ending_same;
  whole = (whole, read.whole);
  last_whole = read.last_whole;
  spells = chosen read.spells;
}
  where
    chosen : SpellsArguments read.list read.last behind → SpellsArguments (a ∷ read.list) read.last ts
    chosen (inl s) = inl (e ∙ ap (λ t. front ++ t) s ∙ begins (with_arguments read.list (with_last read.last [])))
    chosen (inr s) = inr (s.0, e ∙ ap (λ t. front ++ t) s.1 ∙ begins (with_arguments read.list []))

pub parts_sound : (deep : ℕ) (parts : List Part) (ending : Ending) (ts : List Token) → Meant (part_goals deep parts (ending_goals ending)) ts → ReadSo deep parts ending ts
parts_sound deep [] ending ts m =
    let read = ending_sound ending ts m in record { list = []; last = read.last; parts_same = refl; ending_same = read.same; whole = tt; last_whole = read.whole; spells = read.spells }
parts_sound deep (a_name ∷ parts) ending ts m = one_more deep a_name parts ending (name m.2.0) m.0 m.1 ts refl m.2.1 (λ rest. ap (λ t. t ++ rest) m.2.2) m.4 (parts_sound deep parts ending m.1 m.3)
parts_sound deep (a_count ∷ parts) ending ts m = one_more deep a_count parts ending (count m.2.0) m.0 m.1 ts refl m.2.1 (λ rest. ap (λ t. t ++ rest) m.2.2) m.4 (parts_sound deep parts ending m.1 m.3)
parts_sound deep (a_path ∷ parts) ending ts m = one_more deep a_path parts ending (path m.2.0) m.0 m.1 ts refl m.2.1.whole (λ rest. ap (λ t. t ++ rest) m.2.1.is) m.4 (parts_sound deep parts ending m.1 m.3)
parts_sound deep (a_literal ∷ parts) ending ts m = one_more deep a_literal parts ending (literal m.2.0) m.0 m.1 ts refl m.2.1 (λ rest. ap (λ t. t ++ rest) m.2.2) m.4 (parts_sound deep parts ending m.1 m.3)
parts_sound deep (an_expression ∷ parts) ending ts m = one_more deep an_expression parts ending (expression m.2.0) m.0 m.1 ts refl m.2.1.whole (λ rest. ap (λ t. t ++ rest) m.2.1.is) m.4 (parts_sound deep parts ending m.1 m.3)
parts_sound deep (an_operation ∷ parts) ending ts m = one_more deep an_operation parts ending (operation m.2.0) m.0 m.1 ts refl m.2.1 (λ rest. ap (λ t. t ++ rest) m.2.2) m.4 (parts_sound deep parts ending m.1 m.3)

-- one operator more
raised_ending : (ending : Ending) → raised (ending_goals ending) ≡ ending_goals ending
raised_ending no_more = refl
raised_ending some_values = refl
raised_ending some_criteria = refl
raised_ending a_note = refl

raised_part : (deep : ℕ) (part : Part) → raise (goal_of deep part) ≡ goal_of (suc deep) part
raised_part deep a_name = refl
raised_part deep a_count = refl
raised_part deep a_path = refl
raised_part deep a_literal = refl
raised_part deep an_expression = refl
raised_part deep an_operation = refl

pub raised_parts : (deep : ℕ) (parts : List Part) (ending : Ending) → raised (part_goals deep parts (ending_goals ending)) ≡ part_goals (suc deep) parts (ending_goals ending)
raised_parts deep [] ending = raised_ending ending
raised_parts deep (p ∷ parts) ending = ap (λ g. g ∷ raised (part_goals deep parts (ending_goals ending))) (raised_part deep p) ∙ ap (λ gs. goal_of (suc deep) p ∷ gs) (raised_parts deep parts ending)

deeper_argument : (deep k : ℕ) (a : Argument) → IsArgument deep a → IsArgument (more_deep deep k) a
deeper_argument deep k (name letters) whole = whole
deeper_argument deep k (count n) whole = whole
deeper_argument deep k (path r) whole = whole
deeper_argument deep k (literal d) whole = whole
deeper_argument deep k (expression q) whole = deeper_query q deep k whole
deeper_argument deep k (operation q) whole = whole

pub deeper_arguments : (deep k : ℕ) (list : List Argument) → AreArguments deep list → AreArguments (more_deep deep k) list
deeper_arguments deep k [] whole = tt
deeper_arguments deep k (a ∷ list) whole = (deeper_argument deep k a whole.0, deeper_arguments deep k list whole.1)
