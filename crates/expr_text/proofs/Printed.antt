-- The texts of expressions, taken apart into the pieces that are appended one after another.
use Rattle.std.proofs.Common.{◌≡◌, ℕ, List, [], ◌∷◌, ◌++◌, refl, ap, sym, ◌∙◌, append_assoc, append-nil}
use Rattle.std.specs.List.{flat_map}
use Rattle.mk_value.specs.Data.{Datum}
use Rattle.mk_value.specs.Literals as literals
use Rattle.mk_value.specs.Literals.{spelled, value_text}
use Rattle.mk_value.specs.Tokens.{Token, sign, word}
use Rattle.mk_value.specs.declared.path.Step.{Step}
use Rattle.mk_value.proofs.Printed.{spelled-append}
use Rattle.tokens.specs.Paths.{path_tokens, step_tokens}
use Rattle.mk_value.specs.Paths.{Route}
use Rattle.expr_text.specs.Arguments.{Range}
use Rattle.expr_text.specs.Queries.{Query, one, path, two}
use Rattle.expr_text.specs.Spelling.{closing, colon, comma, listed, names_tokens, range_tokens, tail_tokens, tokens_of}
use Rattle.expr_text.specs.Texts.{end_tokens, head_tokens, listed_text, second_tokens, steps_text}

spelled_steps : (ss : List Step) → spelled (flat_map step_tokens ss) ≡ steps_text ss
spelled_steps [] = refl
spelled_steps (s ∷ ss) = spelled-append (step_tokens s) (flat_map step_tokens ss) ∙ ap (λ t. spelled (step_tokens s) ++ t) (spelled_steps ss)

pub path_pieces : (r : Route) (name : List ℕ) (ss : List Step) → name ≡ r.name → ss ≡ r.steps → name ++ steps_text ss ≡ spelled (path_tokens r)
path_pieces r name ss n s = ap (λ x. x ++ steps_text ss) n ∙ ap (λ x. r.name ++ steps_text x) s ∙ ap (λ t. r.name ++ t) (sym (spelled_steps r.steps))

spelled_list : {A : Type 0} (f : A → List Token) (xs : List A) → spelled (listed f xs) ≡ listed_text f xs
spelled_list f [] = refl
spelled_list f (x ∷ xs) = ap (λ t. 44 ∷ t) (spelled-append (f x) (listed f xs) ∙ ap (λ t. spelled (f x) ++ t) (spelled_list f xs))

-- a list and what ends it
pub list_end : {A : Type 0} (f : A → List Token) (lent xs : List A) (end : List Token) → lent ≡ xs → listed_text f lent ++ spelled end ≡ spelled (listed f xs ++ end)
list_end f lent xs end e = ap (λ l. listed_text f l ++ spelled end) e ∙ ap (λ t. t ++ spelled end) (sym (spelled_list f xs)) ∙ sym (spelled-append (listed f xs) end)

pub named_end : (lent xs : List (List ℕ)) (name : List ℕ) → lent ≡ xs
    → listed_text (λ n. word n ∷ []) lent ++ spelled (colon ∷ word name ∷ closing ∷ []) ≡ spelled ((names_tokens xs ++ (colon ∷ word name ∷ [])) ++ (closing ∷ []))
named_end lent xs name e = list_end (λ n. word n ∷ []) lent xs (colon ∷ word name ∷ closing ∷ []) e ∙ ap spelled (sym (append_assoc (names_tokens xs) (colon ∷ word name ∷ []) (closing ∷ [])))

-- a name alone
pub name_alone : (lent name : List ℕ) → lent ≡ name → lent ≡ spelled (word name ∷ [])
name_alone lent name e = e ∙ sym (append-nil name)

-- two literals with a colon between
pub range_pieces : (r : Range) → (r.prop ++ (61 ∷ value_text r.low)) ++ ((58 ∷ []) ++ value_text r.high) ≡ spelled (range_tokens r)
range_pieces r =
    append_assoc r.prop (61 ∷ value_text r.low) (58 ∷ value_text r.high)
    ∙ ap (λ t. r.prop ++ (61 ∷ t)) (sym (spelled-append (literals.tokens_of r.low) (colon ∷ literals.tokens_of r.high)))

-- the whole
pub query_pieces : (q : Query) → spelled (head_tokens q) ++ (spelled (second_tokens q) ++ spelled (end_tokens q)) ≡ spelled (tokens_of q)
query_pieces (path r) = append-nil (spelled (path_tokens r))
query_pieces (one o q t) = sym (spelled-append (head_tokens (one o q t)) (end_tokens (one o q t)))
query_pieces (two o p q t) =
    ap (λ x. spelled (head_tokens (two o p q t)) ++ x) (sym (spelled-append (comma ∷ tokens_of q) (end_tokens (two o p q t))))
    ∙ sym (spelled-append (head_tokens (two o p q t)) (comma ∷ (tokens_of q ++ (tail_tokens t ++ (closing ∷ [])))))
