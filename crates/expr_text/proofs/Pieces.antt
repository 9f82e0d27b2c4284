-- Going over pieces, and the parts that other readers read: paths and literals.
use Rattle.std.proofs.Common.{◌≡◌, ◌⊎◌, inl, inr, ℕ, zero, suc, pos, negsuc, ◌+◌, ◌-◌, ◌<◌, ◌≤◌, ◌==◌, Bool, true, false, List, [], ◌∷◌, ◌++◌, length, length-drop, take, drop, map, Some, None, refl, sym, ap, subst, ◌∙◌, append_assoc, append-nil, take-append-drop, arith, true≢false, if◌then◌else◌}
use Rattle.std.proofs.lemmas.Bool.{eqb-true, false≢true}
use Rattle.std.proofs.lemmas.List.{length-map}
use Rattle.std.specs.List.{flat_map, take-map, drop-map}
use Rattle.mk_value.specs.Data.{Datum}
use Rattle.mk_value.specs.Literals as literals
use Rattle.mk_value.specs.Paths.{Route}
use Rattle.mk_value.specs.Tokens.{Token, word, number, text, bytes, sign}
use Rattle.tokens.specs.Cutting as cutting
use Rattle.tokens.specs.Fronts.{IsFront, Language, Stops, tokens_in}
use Rattle.tokens.specs.Literals.{LiteralTokens, SpellsLiteral, max_braces}
use Rattle.tokens.specs.Meanings.{piece_of, pieces_of, token_of, tokens_of_pieces}
use Rattle.tokens.specs.Paths.{GoesOnWithSlash, PathTokens, SpellsPath, path_tokens}
use Rattle.tokens.specs.declared.error.PartError.{PartError}
use Rattle.tokens.specs.declared.error.PartError.TheVariants as errors
use Rattle.tokens.specs.declared.token.Piece.{Piece}
use Rattle.expr_text.specs.Readers.{Becomes, Fails, Meets, place_of_first}
use Rattle.expr_text.specs.Walk.{Goal, Move, Next, a_count, a_key, a_literal, a_name, a_number, a_path, a_query, a_row, a_sign, a_text, a_word, after_row, after_value, an_operation, are_met, deepens, followed, goes, is_held, is_opening, more, more_criteria, moved, opens, pass, push, ran, rows, run, step, steps, stops, values, wrong}
use Rattle.expr_text.specs.Walk as walk_
use Rattle.expr_text.specs.declared.error.ExprError.TheVariants.{Syntax, TooDeep}
use Rattle.expr_text.proofs.Deeper.{deep_goal, raise, raised, walk_raised}
use Rattle.expr_text.proofs.Held.{held_sign}
use Rattle.expr_text.proofs.Meaning.{Means}
use Rattle.expr_text.proofs.Running.{from_place, from_place-drop, rest_at, run-end, run-goes, run-stops, tokens_in-pieces_of}
use Rattle.expr_text.proofs.Walking.{literal_walks, opens_first, path_walks, walk, walk-goes}
use Rattle.expr_text.proofs.Whole.{stops_others, unmet_others, walk_behind, walk_front, walk_fronts, walk_others, walk_step, walk_whole}

pub opens-append : (front rest : List cutting.Piece) → opens (front ++ rest) ≡ opens_first (tokens_in front) (opens rest)
opens-append [] rest = refl
opens-append (p ∷ front) rest = refl

-- a front that goes
pub run_walk : (front rest : List cutting.Piece) (end : ℕ) (goals left : List Goal) → walk (tokens_in front) (opens rest) goals ≡ goes left → run (front ++ rest) end goals ≡ run rest end left
run_walk [] rest end goals left e = let same : goals ≡ left = cc in ap (λ g. run rest end g) same
run_walk (p ∷ front) rest end goals left e =
    let s = walk_step p.token (tokens_in front) (opens rest) goals left e in
    run-goes p (front ++ rest) end goals s.further s.held (ap (λ b. step goals p.token b) (opens-append front rest) ∙ s.moves) ∙ run_walk front rest end s.further left s.rest

-- goals that hold no expression do not ask what follows a token
pub moved_flag : (g : Goal) (t : Token) (one two : Bool) → raise g ≡ g → moved g t one ≡ moved g t two
moved_flag (a_query depth) t one two e = absurd (never depth e)
  where
    never : (depth : ℕ) → a_query (suc depth) ≡ a_query depth → ⊥
    never depth e = let f : suc depth ≡ depth = cc in omega (arith, f)
moved_flag (a_sign s) (sign c) one two e = refl
moved_flag a_name (word letters) one two e = refl
moved_flag a_count (number (pos n)) one two e = refl
moved_flag a_count (number (negsuc n)) one two e = refl
moved_flag a_number (number z) one two e = refl
moved_flag a_path (word letters) one two e = refl
moved_flag steps (sign c) one two e = refl
moved_flag (a_literal depth) (sign c) one two e = refl
moved_flag (rows depth) (sign c) one two e = refl
moved_flag (after_row depth) (sign c) one two e = refl
moved_flag (a_row depth) (sign c) one two e = refl
moved_flag (after_value depth) (sign c) one two e = refl
moved_flag a_key (sign c) one two e = refl
moved_flag (more item) (sign c) one two e = refl
moved_flag (a_word letters) (word other) one two e = refl
moved_flag values (sign c) one two e = refl
moved_flag more_criteria (sign c) one two e = refl
moved_flag (a_text most) (text content) one two e = refl
moved_flag an_operation (word letters) one two e = refl
moved_flag _ _ one two e = refl

pub step_flag : (goals : List Goal) (t : Token) (one two : Bool) → raised goals ≡ goals → step goals t one ≡ step goals t two
step_flag [] t one two e = refl
step_flag (g ∷ goals) t one two e =
    let first : raise g ≡ g = cc in
    let others : raised goals ≡ goals = cc in
    ap (λ m. followed m goals (step goals t one)) (moved_flag g t one two first) ∙ ap (λ n. followed (moved g t two) goals n) (step_flag goals t one two others)

step_plain : (goals : List Goal) (t : Token) (follows : Bool) → raised goals ≡ goals → step goals t follows ≡ deepens → ⊥
step_plain [] t follows plain e = cc
step_plain (g ∷ goals) t follows plain e = chosen (step_plain goals t follows) (moved g t follows) refl e
  where
    first : raise g ≡ g
    first = cc

    others : raised goals ≡ goals
    others = cc

    chosen : (raised goals ≡ goals → step goals t follows ≡ deepens → ⊥) → (m : Move) → moved g t follows ≡ m → followed m goals (step goals t follows) ≡ deepens → ⊥
    chosen inner wrong is e = cc
    chosen inner walk_.deep is e =
        let here = deep_goal g t follows is in
        let a : moved g t true ≡ walk_.deep = ap (λ b. moved g t b) (sym here.opens) ∙ is in
        let b : moved g t true ≡ push (a_sign 40 ∷ here.left) = ap (λ x. moved x t true) (sym first) ∙ here.deeper in
        deep_push here.left (sym a ∙ b)
      where
        deep_push : (left : List Goal) → walk_.deep ≡ push (a_sign 40 ∷ left) → ⊥
        deep_push left e = cc
    chosen inner (push new) is e = cc
    chosen inner pass is e = inner others e

plain_left : (ts : List Token) (after : Bool) (goals left : List Goal) → raised goals ≡ goals → walk ts after goals ≡ goes left → raised left ≡ left
plain_left ts after goals left plain e =
    let f : goes (raised left) ≡ goes left = sym (walk_raised ts after goals left e) ∙ ap (λ g. walk ts after g) plain ∙ e in
    cc

walk_flag : (ts : List Token) (one two : Bool) (goals left : List Goal) → raised goals ≡ goals → walk ts one goals ≡ goes left → walk ts two goals ≡ goes left
walk_flag [] one two goals left plain e = e
walk_flag (t ∷ ts) one two goals left plain e =
    let s = walk_step t ts one goals left e in
    let moves : step goals t (opens_first ts two) ≡ goes s.further = step_flag goals t (opens_first ts two) (opens_first ts one) plain ∙ s.moves in
    walk-goes t ts two goals s.further s.held moves ∙ walk_flag ts one two s.further left (plain_further t goals (opens_first ts one) s.further plain s.held s.moves) s.rest
  where
    plain_further : (t : Token) (goals : List Goal) (follows : Bool) (further : List Goal) → raised goals ≡ goals → is_held t ≡ true → step goals t follows ≡ goes further → raised further ≡ further
    plain_further t goals follows further plain held moves = plain_left (t ∷ []) follows goals further plain (walk-goes t [] follows goals further held moves)

-- A part that another reader reads: where it stops, its goal fails.
pub part_fails : (g : Goal) → raise g ≡ g → ((ts : List Token) → Means g ts → (left : List Goal) × (walk ts false (g ∷ []) ≡ goes left)) → (pieces : List cutting.Piece) (end n : ℕ) → Stops (Means g) (tokens_in pieces) n
    → (others : List Goal) → run pieces end (g ∷ others) ≡ Some (Syntax (place_of_first end (drop n pieces)))
part_fails g plain accepts pieces end n stuck others =
    ap (λ ps. run ps end (g ∷ others)) (sym (take-append-drop n pieces))
    ∙ run_walk (take n pieces) (drop n pieces) end (g ∷ others) (left ++ others) (walk_others (tokens_in (take n pieces)) (opens (drop n pieces)) (g ∷ []) others left front)
    ∙ ended (drop n pieces) refl
  where
    tokens : List Token
    tokens = tokens_in pieces

    fronts : tokens_in (take n pieces) ≡ take n (tokens_in pieces)
    fronts = sym (take-map (λ p. p.token) n pieces)

    whole : (rest : List Token) × ((next : List Goal) × (walk (take n (tokens_in pieces) ++ rest) false (g ∷ []) ≡ goes next))
    whole = (stuck.goes_on.0, accepts (take n (tokens_in pieces) ++ stuck.goes_on.0) stuck.goes_on.1)

    left : List Goal
    left = (walk_fronts (take n (tokens_in pieces)) whole.0 false (g ∷ []) whole.1.0 whole.1.1).left

    plains : raised (g ∷ []) ≡ g ∷ []
    plains = ap (λ x. x ∷ []) plain

    front : walk (tokens_in (take n pieces)) (opens (drop n pieces)) (g ∷ []) ≡ goes left
    front = subst (λ ts. walk ts (opens (drop n pieces)) (g ∷ []) ≡ goes left) (sym fronts)
        (walk_flag (take n (tokens_in pieces)) (opens_first whole.0 false) (opens (drop n pieces)) (g ∷ []) left plains (walk_fronts (take n (tokens_in pieces)) whole.0 false (g ∷ []) whole.1.0 whole.1.1).front)

    unmet : (b : Bool) → are_met left ≡ b → are_met left ≡ false
    unmet true e = absurd (stuck.unfinished (subst (Means g) fronts (walk_whole g (tokens_in (take n pieces)) (opens (drop n pieces)) left front e)))
    unmet false e = e

    next_front : (p : cutting.Piece) (rest : List cutting.Piece) → drop n pieces ≡ p ∷ rest → take (n + 1) (tokens_in pieces) ≡ tokens_in (take n pieces) ++ (p.token ∷ [])
    next_front p rest e = more_taken pieces n p rest e
      where
        more_taken : (ps : List cutting.Piece) (k : ℕ) (p : cutting.Piece) (rest : List cutting.Piece) → drop k ps ≡ p ∷ rest → take (k + 1) (tokens_in ps) ≡ tokens_in (take k ps) ++ (p.token ∷ [])
        more_taken [] zero p rest e = absurd (cc)
        more_taken [] (suc k) p rest e = absurd (cc)
        more_taken (q ∷ ps) zero p rest e = let f : q ≡ p = cc in ap (λ x. x.token ∷ []) f
        more_taken (q ∷ ps) (suc k) p rest e =
            let more : suc k + 1 ≡ suc (k + 1) = omega arith in
            ap (λ m. take m (tokens_in (q ∷ ps))) more ∙ ap (λ ts. q.token ∷ ts) (more_taken ps k p rest e)

    stops_here : (p : cutting.Piece) (rest : List cutting.Piece) → drop n pieces ≡ p ∷ rest → (IsFront (Means g) (take (n + 1) (tokens_in pieces)) → ⊥)
        → (b : Bool) → is_held p.token ≡ b → (k : Next) → step left p.token (opens rest) ≡ k → (is_held p.token ≡ false) ⊎ (step (left ++ others) p.token (opens rest) ≡ stops)
    stops_here p rest e no_front false held k is = inl held
    stops_here p rest e no_front true held stops is = inr (stops_others left others p.token (opens rest) (unmet (are_met left) refl) is)
    stops_here p rest e no_front true held deepens is = absurd (step_plain left p.token (opens rest) (plain_left (tokens_in (take n pieces)) (opens (drop n pieces)) (g ∷ []) left plains front) is)
    stops_here p rest e no_front true held (goes further) is =
        let first : walk (tokens_in (take n pieces)) (is_opening p.token) (g ∷ []) ≡ goes left = ap (λ ps. walk (tokens_in (take n pieces)) (opens ps) (g ∷ [])) (sym e) ∙ front in
        let all : walk (tokens_in (take n pieces) ++ (p.token ∷ [])) (opens rest) (g ∷ []) ≡ goes further =
        walk_behind (tokens_in (take n pieces)) (p.token ∷ []) (opens rest) (g ∷ []) left first ∙ walk-goes p.token [] (opens rest) left further held is in
        absurd (no_front (subst (IsFront (Means g)) (sym (next_front p rest e)) (walk_front g (tokens_in (take n pieces) ++ (p.token ∷ [])) (opens rest) further all)))

    long : (p : cutting.Piece) (rest : List cutting.Piece) → drop n pieces ≡ p ∷ rest → n ≡ length (tokens_in pieces) → ⊥
    long p rest e same = let f = ap length e in omega (arith, length-drop n pieces, length-map pieces (λ q. q.token), f)

    ended : (ps : List cutting.Piece) → drop n pieces ≡ ps → run (drop n pieces) end (left ++ others) ≡ Some (Syntax (place_of_first end (drop n pieces)))
    ended [] e = ap (λ ps. run ps end (left ++ others)) e ∙ run-end end (left ++ others) (unmet_others left others (unmet (are_met left) refl)) ∙ ap (λ ps. Some (Syntax (place_of_first end ps))) (sym e)
    ended (p ∷ rest) e =
        ap (λ ps. run ps end (left ++ others)) e
        ∙ run-stops p rest end (left ++ others) (chosen stuck.wrong)
        ∙ ap (λ ps. Some (Syntax (place_of_first end ps))) (sym e)
      where
        chosen : (n ≡ length (tokens_in pieces)) ⊎ (IsFront (Means g) (take (n + 1) (tokens_in pieces)) → ⊥) → (is_held p.token ≡ false) ⊎ (step (left ++ others) p.token (opens rest) ≡ stops)
        chosen (inl same) = absurd (long p rest e same)
        chosen (inr no_front) = stops_here p rest e no_front (is_held p.token) refl (step left p.token (opens rest)) refl

-- what a reader took, in pieces
tokens_taken : (n : ℕ) (pieces : List Piece) → tokens_in (take n (pieces_of pieces)) ≡ take n (tokens_of_pieces pieces)
tokens_taken n pieces = sym (take-map (λ p. p.token) n (pieces_of pieces)) ∙ ap (take n) (tokens_in-pieces_of pieces)

tokens_dropped : (n : ℕ) (pieces : List Piece) → tokens_in (drop n (pieces_of pieces)) ≡ drop n (tokens_of_pieces pieces)
tokens_dropped n pieces = sym (drop-map (λ p. p.token) n (pieces_of pieces)) ∙ ap (drop n) (tokens_in-pieces_of pieces)

pieces_dropped : (n : ℕ) (pieces : List Piece) → drop n (pieces_of pieces) ≡ pieces_of (from_place n pieces)
pieces_dropped n pieces = drop-map piece_of n pieces ∙ ap pieces_of (sym (from_place-drop n pieces))

pub spells_front : (pieces : List Piece) (n : ℕ) (front : List Token) → take n (tokens_of_pieces pieces) ≡ front → tokens_in (pieces_of pieces) ≡ front ++ tokens_in (pieces_of (from_place n pieces))
spells_front pieces n front e =
    tokens_in-pieces_of pieces
    ∙ sym (take-append-drop n (tokens_of_pieces pieces))
    ∙ ap (λ t. t ++ drop n (tokens_of_pieces pieces)) e
    ∙ ap (λ t. front ++ t) (sym (tokens_dropped n pieces) ∙ ap tokens_in (pieces_dropped n pieces))

-- a front of so many pieces that goes
front_goes : (pieces : List Piece) (end n : ℕ) (goals left : List Goal) → walk (take n (tokens_of_pieces pieces)) (opens (drop n (pieces_of pieces))) goals ≡ goes left
    → run (pieces_of pieces) end goals ≡ run (drop n (pieces_of pieces)) end left
front_goes pieces end n goals left e =
    ap (λ ps. run ps end goals) (sym (take-append-drop n (pieces_of pieces)))
    ∙ run_walk (take n (pieces_of pieces)) (drop n (pieces_of pieces)) end goals left (subst (λ ts. walk ts (opens (drop n (pieces_of pieces))) goals ≡ goes left) (sym (tokens_taken n pieces)) e)

-- literals
pub literal_meets : (pieces : List Piece) (end n : ℕ) (d : Datum) → SpellsLiteral (take n (tokens_of_pieces pieces)) d → Meets (a_literal max_braces ∷ []) (rest_at end pieces) (rest_at end (from_place n pieces))
literal_meets pieces end n d spells = record {
  same = λ others.
      let after = opens (drop n (pieces_of pieces)) in
      front_goes pieces end n (a_literal max_braces ∷ others) others (
      ap (λ ts. walk ts after (a_literal max_braces ∷ others)) (spells.is ∙ sym (append-nil (literals.tokens_of d))) ∙ literal_walks d max_braces spells.whole [] after others)
      ∙ ap (λ ps. run ps end others) (pieces_dropped n pieces);
}

-- paths
no_slash_first : (t : Token) → (t ≡ sign 47 → ⊥) → (follows : Bool) → moved steps t follows ≡ pass
no_slash_first (word letters) none follows = refl
no_slash_first (number z) none follows = refl
no_slash_first (text content) none follows = refl
no_slash_first (bytes content) none follows = refl
no_slash_first (sign c) none follows = other c refl
  where
    other : (c' : ℕ) → c' ≡ c → moved steps (sign c) follows ≡ pass
    other c' e = elim_cond (c == 47) refl
      where
        elim_cond : (b : Bool) → (c == 47) ≡ b → moved steps (sign c) follows ≡ pass
        elim_cond true same = absurd (none (ap sign (eqb-true c 47 same)))
        elim_cond false same = ap (λ b. if b then push (a_count ∷ a_sign 47 ∷ a_name ∷ steps ∷ []) else pass) same

steps_over : (ps : List cutting.Piece) (end : ℕ) (others : List Goal) → (GoesOnWithSlash (tokens_in ps) → ⊥) → run ps end (steps ∷ others) ≡ run ps end others
unfolding run
steps_over [] end others none = refl
steps_over (p ∷ ps) end others none =
    ap (λ m. ran (is_held p.token) (followed m others (step others p.token (opens ps))) p.place (λ g. run ps end g))
    (no_slash_first p.token (λ e. none (tokens_in ps, ap (λ t. t ∷ tokens_in ps) e)) (opens ps))

pub path_meets : (pieces : List Piece) (end n : ℕ) (route : Route) → SpellsPath (take n (tokens_of_pieces pieces)) route → (GoesOnWithSlash (drop n (tokens_of_pieces pieces)) → ⊥)
    → Meets (a_path ∷ []) (rest_at end pieces) (rest_at end (from_place n pieces))
path_meets pieces end n route spells ends = record {
  same = λ others.
      let after = opens (drop n (pieces_of pieces)) in
      front_goes pieces end n (a_path ∷ others) (steps ∷ others) (
      ap (λ ts. walk ts after (a_path ∷ others)) (spells.is ∙ sym (append-nil (path_tokens route))) ∙ path_walks route spells.whole [] after others)
      ∙ steps_over (drop n (pieces_of pieces)) end others (λ slash. ends (subst GoesOnWithSlash (tokens_dropped n pieces) slash))
      ∙ ap (λ ps. run ps end others) (pieces_dropped n pieces);
}

-- what a part's reader says of its error
abbrev pub Stuck : Language → List Piece → PartError → Type 0
Stuck language pieces error = (error ≡ errors.Memory) ⊎ ((count : ℕ) × (error ≡ errors.Stuck count) × Stops language (tokens_of_pieces pieces) count)

stuck_at : (language : Language) (pieces : List Piece) (n : ℕ) (error : PartError) → error ≡ errors.Stuck n → Stuck language pieces error → Stops language (tokens_of_pieces pieces) n
stuck_at language pieces n error is (inl memory) = absurd (cc)
stuck_at language pieces n error is (inr stuck) = let same : stuck.0 ≡ n = cc in subst (Stops language (tokens_of_pieces pieces)) same stuck.2

path_accepts : (ts : List Token) → Means a_path ts → (left : List Goal) × (walk ts false (a_path ∷ []) ≡ goes left)
path_accepts ts p =
    (steps ∷ [], ap (λ x. walk x false (a_path ∷ [])) (p.1.is ∙ sym (append-nil (path_tokens p.0))) ∙ path_walks p.0 p.1.whole [] false [])

pub path_fails : (pieces : List Piece) (end n : ℕ) (error : PartError) → error ≡ errors.Stuck n → Stuck PathTokens pieces error
    → Fails (a_path ∷ []) (rest_at end pieces) (Syntax (place_of_first end (drop n (pieces_of pieces))))
path_fails pieces end n error is stuck =
    inr (part_fails a_path refl path_accepts (pieces_of pieces) end n (subst (λ ts. Stops PathTokens ts n) (sym (tokens_in-pieces_of pieces)) (stuck_at PathTokens pieces n error is stuck)))

literal_accepts : (ts : List Token) → Means (a_literal max_braces) ts → (left : List Goal) × (walk ts false (a_literal max_braces ∷ []) ≡ goes left)
literal_accepts ts l =
    ([], ap (λ x. walk x false (a_literal max_braces ∷ [])) (l.2 ∙ sym (append-nil (literals.tokens_of l.0))) ∙ literal_walks l.0 max_braces l.1 [] false [])

to_literal : (ts : List Token) → Means (a_literal max_braces) ts → LiteralTokens ts
to_literal ts l = (l.0, record { whole = l.1; is = l.2 })

from_literal : (ts : List Token) → LiteralTokens ts → Means (a_literal max_braces) ts
from_literal ts l = (l.0, l.1.whole, l.1.is)

as_goal : (ts : List Token) (n : ℕ) → Stops LiteralTokens ts n → Stops (Means (a_literal max_braces)) ts n
as_goal ts n s = record {
  within = s.within;
  goes_on = (s.goes_on.0, from_literal (take n ts ++ s.goes_on.0) s.goes_on.1);
  unfinished = λ l. s.unfinished (to_literal (take n ts) l);
  wrong = chosen s.wrong;
}
  where
    chosen : (n ≡ length ts) ⊎ (IsFront LiteralTokens (take (n + 1) ts) → ⊥) → (n ≡ length ts) ⊎ (IsFront (Means (a_literal max_braces)) (take (n + 1) ts) → ⊥)
    chosen (inl e) = inl e
    chosen (inr none) = inr (λ f. none (f.0, to_literal (take (n + 1) ts ++ f.0) f.1))

pub literal_fails : (pieces : List Piece) (end n : ℕ) (error : PartError) → error ≡ errors.Stuck n → Stuck LiteralTokens pieces error
    → Fails (a_literal max_braces ∷ []) (rest_at end pieces) (Syntax (place_of_first end (drop n (pieces_of pieces))))
literal_fails pieces end n error is stuck =
    inr (part_fails (a_literal max_braces) refl literal_accepts (pieces_of pieces) end n
    (as_goal (tokens_in (pieces_of pieces)) n (subst (λ ts. Stops LiteralTokens ts n) (sym (tokens_in-pieces_of pieces)) (stuck_at LiteralTokens pieces n error is stuck))))
