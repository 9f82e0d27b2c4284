-- The first offence of pieces, as the walk finds it, is the first offence against the language that the goals mean.
use Rattle.std.proofs.Common.{◌≡◌, ◌⊎◌, inl, inr, ℕ, zero, suc, Bool, true, false, List, [], ◌∷◌, ◌++◌, length, map, Option, Some, None, refl, sym, ap, subst, ◌∙◌, append_assoc, append-nil, true≢false}
use Rattle.std.proofs.lemmas.Bool.{eqb-true, false≢true}
use Rattle.std.proofs.lemmas.List.{map-append}
use Rattle.mk_value.specs.Tokens.{Token, word, number, text, bytes, sign}
use Rattle.tokens.specs.Cutting.{Piece}
use Rattle.tokens.specs.Depths.{IsWrongAt, Offence, Offends, OpensTooDeep, syntax, too_deep}
use Rattle.tokens.specs.Fronts.{EndsEarly, IsFirstWrong, IsFront, Language, tokens_in}
use Rattle.expr_text.specs.Queries.{max_operators}
use Rattle.expr_text.specs.Walk.{Goal, Move, Next, a_query, a_sign, are_met, deepens, followed, goes, is_held, is_opening, moved, opens, pass, push, ran, run, step, steps, stops, wrong}
use Rattle.expr_text.specs.Walk as walk_
use Rattle.expr_text.specs.declared.error.ExprError.{ExprError}
use Rattle.expr_text.specs.declared.error.ExprError.TheVariants.{Memory, Syntax, TooDeep}
use Rattle.expr_text.proofs.Deeper.{deep_goal, goes_raised_by, met_raised_by, more_deep, raise, raised, raised_by, stops_raised_by, walk_raised, walk_raised_by}
use Rattle.expr_text.proofs.Held.{held_sign}
use Rattle.expr_text.specs.declared.operator.Operator.{Operator}
use Rattle.expr_text.proofs.Pieces.{moved_flag, opens-append, run_walk}
use Rattle.expr_text.proofs.Running.{run-deepens, run-end, run-goes, run-met, run-stops}
use Rattle.expr_text.proofs.Meaning.{Meant}
use Rattle.expr_text.proofs.Walking.{opens_first, walk, walk-goes}
use Rattle.expr_text.proofs.Whole.{pass_steps, walk_behind, walk_front_of, walk_fronts, walk_step, walk_whole_of}

-- where the walk over pieces ends
record Stops (pieces : List Piece) (goals : List Goal) (place : ℕ) : Type 0 where
  pub front : List Piece
  pub piece : Piece
  pub rest : List Piece
  pub split : pieces ≡ front ++ piece ∷ rest
  pub left : List Goal
  pub walks : walk (tokens_in front) (is_opening piece.token) goals ≡ goes left
  pub wrong : (is_held piece.token ≡ false) ⊎ (step left piece.token (opens rest) ≡ stops)
  pub at : place ≡ piece.place

record Deepens (pieces : List Piece) (goals : List Goal) (place : ℕ) : Type 0 where
  pub front : List Piece
  pub piece : Piece
  pub rest : List Piece
  pub split : pieces ≡ front ++ piece ∷ rest
  pub left : List Goal
  pub walks : walk (tokens_in front) (is_opening piece.token) goals ≡ goes left
  pub held : is_held piece.token ≡ true
  pub deep : step left piece.token (opens rest) ≡ deepens
  pub at : place ≡ piece.place

record Ends (pieces : List Piece) (goals : List Goal) (whole : Bool) : Type 0 where
  pub left : List Goal
  pub walks : walk (tokens_in pieces) false goals ≡ goes left
  pub met : are_met left ≡ whole

-- what the walk says, and why
abbrev Found : List Piece → ℕ → List Goal → Option ExprError → Type 0
Found pieces end goals None = Ends pieces goals true
Found pieces end goals (Some (Syntax place)) = Stops pieces goals place ⊎ (Ends pieces goals false × (place ≡ end))
Found pieces end goals (Some (TooDeep place)) = Deepens pieces goals place
Found pieces end goals (Some Memory) = ⊥

opens_of : (pieces : List Piece) → opens pieces ≡ opens_first (tokens_in pieces) false
opens_of [] = refl
opens_of (p ∷ pieces) = refl

opens_split : (pieces front : List Piece) (p : Piece) (rest : List Piece) → pieces ≡ front ++ p ∷ rest → opens pieces ≡ opens_first (tokens_in front) (is_opening p.token)
opens_split pieces front p rest e = ap opens e ∙ opens-append front (p ∷ rest)

-- one piece more at the front
found_more : (p : Piece) (pieces : List Piece) (end : ℕ) (goals further : List Goal) → is_held p.token ≡ true → step goals p.token (opens pieces) ≡ goes further
    → (said : Option ExprError) → Found pieces end further said → Found (p ∷ pieces) end goals said
found_more p pieces end goals further held moves None f = record {
  left = f.left;
  walks = walk-goes p.token (tokens_in pieces) false goals further held (ap (λ b. step goals p.token b) (sym (opens_of pieces)) ∙ moves) ∙ f.walks;
  met = f.met;
}
found_more p pieces end goals further held moves (Some (Syntax place)) (inl s) = inl (record {
  front = p ∷ s.front;
  piece = s.piece;
  rest = s.rest;
  split = ap (λ ps. p ∷ ps) s.split;
  left = s.left;
  walks = walk-goes p.token (tokens_in s.front) (is_opening s.piece.token) goals further held (ap (λ b. step goals p.token b) (sym (opens_split pieces s.front s.piece s.rest s.split)) ∙ moves) ∙ s.walks;
  wrong = s.wrong;
  at = s.at;
})
found_more p pieces end goals further held moves (Some (Syntax place)) (inr f) = inr (
  record {
    left = f.0.left;
    walks = walk-goes p.token (tokens_in pieces) false goals further held (ap (λ b. step goals p.token b) (sym (opens_of pieces)) ∙ moves) ∙ f.0.walks;
    met = f.0.met;
  },
  f.1,
)
found_more p pieces end goals further held moves (Some (TooDeep place)) s = record {
  front = p ∷ s.front;
  piece = s.piece;
  rest = s.rest;
  split = ap (λ ps. p ∷ ps) s.split;
  left = s.left;
  walks = walk-goes p.token (tokens_in s.front) (is_opening s.piece.token) goals further held (ap (λ b. step goals p.token b) (sym (opens_split pieces s.front s.piece s.rest s.split)) ∙ moves) ∙ s.walks;
  held = s.held;
  deep = s.deep;
  at = s.at;
}
found_more p pieces end goals further held moves (Some Memory) f = f

found : (pieces : List Piece) (end : ℕ) (goals : List Goal) → Found pieces end goals (run pieces end goals)
found [] end goals = ended (are_met goals) refl
  where
    ended : (b : Bool) → are_met goals ≡ b → Found [] end goals (run [] end goals)
    ended true e = subst (Found [] end goals) (sym (run-met end goals e)) (record { left = goals; walks = refl; met = e })
    ended false e = subst (Found [] end goals) (sym (run-end end goals e)) (inr (record { left = goals; walks = refl; met = e }, refl))
found (p ∷ pieces) end goals = first (λ further. found pieces end further) (is_held p.token) refl (step goals p.token (opens pieces)) refl
  where
    here : (is_held p.token ≡ false) ⊎ (step goals p.token (opens pieces) ≡ stops) → Found (p ∷ pieces) end goals (run (p ∷ pieces) end goals)
    here w = subst (Found (p ∷ pieces) end goals) (sym (run-stops p pieces end goals w)) (inl (record { front = []; piece = p; rest = pieces; split = refl; left = goals; walks = refl; wrong = w; at = refl }))

    first : ((further : List Goal) → Found pieces end further (run pieces end further)) → (b : Bool) → is_held p.token ≡ b → (n : Next) → step goals p.token (opens pieces) ≡ n → Found (p ∷ pieces) end goals (run (p ∷ pieces) end goals)
    first others false held n is = here (inl held)
    first others true held stops is = here (inr is)
    first others true held deepens is =
        subst (Found (p ∷ pieces) end goals) (sym (run-deepens p pieces end goals held is)) (record { front = []; piece = p; rest = pieces; split = refl; left = goals; walks = refl; held = held; deep = is; at = refl })
    first others true held (goes further) is =
        subst (Found (p ∷ pieces) end goals) (sym (run-goes p pieces end goals further held is)) (found_more p pieces end goals further held is (run pieces end further) (others further))

-- all of the tokens go, and what is left nothing need meet
pub record GoesWhole (goals : List Goal) (tokens : List Token) : Type 0 where
  pub left : List Goal
  pub walks : walk tokens false goals ≡ goes left
  pub met : are_met left ≡ true

-- Languages with a limit of depth, each of which the goals of its depth mean: one operator more may stand where the goals are raised.
pub record Limited (language : ℕ → Language) (start : ℕ → List Goal) : Type 0 where
  pub complete : (depth : ℕ) (tokens : List Token) → language depth tokens → GoesWhole (start depth) tokens
  pub sound : (depth : ℕ) (tokens : List Token) → Meant (start depth) tokens → language depth tokens
  pub raises : (k depth : ℕ) → raised_by k (start depth) ≡ start (more_deep k depth)
  pub deeper : (k depth : ℕ) (tokens : List Token) → language depth tokens → language (more_deep depth k) tokens

-- the language of any depth
abbrev pub AnyDepth : (ℕ → Language) → Language
AnyDepth language tokens = (depth : ℕ) × language depth tokens

-- a front and one token more, at the depth that the whole has
record GoesOver (start : ℕ → List Goal) (depth : ℕ) (front : List Token) (t : Token) (after : Bool) : Type 0 where
  pub left : List Goal
  pub walks : walk front (is_opening t) (start depth) ≡ goes left
  pub held : is_held t ≡ true
  pub further : List Goal
  pub moves : step left t after ≡ goes further

front_over : (language : ℕ → Language) (start : ℕ → List Goal) (known : Limited language start) (depth : ℕ) (front : List Token) (t : Token) (behind : List Token) → language depth (front ++ (t ∷ behind)) → GoesOver start depth front t (opens_first behind false)
front_over language start known depth front t behind q =
    let whole = known.complete depth (front ++ (t ∷ behind)) q in
    let f = walk_fronts front (t ∷ behind) false (start depth) whole.left whole.walks in
    let s = walk_step t behind false f.left whole.left f.back in
    record { left = f.left; walks = f.front; held = s.held; further = s.further; moves = s.moves }

-- the walk goes in one way
same_left : (front : List Token) (after : Bool) (goals one two : List Goal) → walk front after goals ≡ goes one → walk front after goals ≡ goes two → one ≡ two
same_left front after goals one two p q = let e : goes one ≡ goes two = sym p ∙ q in cc

-- of any depth: what is within that is within one that is the limit and so much more
deeper : (language : ℕ → Language) (start : ℕ → List Goal) (known : Limited language start) (depth : ℕ) (tokens : List Token) → language depth tokens → language (more_deep depth max_operators) tokens
deeper language start known depth tokens q = known.deeper max_operators depth tokens q

-- the walk within the limit, and what it is with so much more
walk_deeper : (language : ℕ → Language) (start : ℕ → List Goal) (known : Limited language start) (k : ℕ) (front : List Token) (after : Bool) (left : List Goal) → walk front after (start max_operators) ≡ goes left → walk front after (start (more_deep k max_operators)) ≡ goes (raised_by k left)
walk_deeper language start known k front after left e = ap (λ g. walk front after g) (sym (known.raises k max_operators)) ∙ walk_raised_by k front after (start max_operators) left e

-- whether a token stops does not hang on what follows it
begun_no_wrong : (letters : List ℕ) (follows : Bool) (depth : ℕ) → walk_.begun letters follows depth ≡ wrong → ⊥
begun_no_wrong letters false depth e = cc
begun_no_wrong letters true depth e = opened_no_wrong (walk_.operator_named letters) depth e
  where
    opened_no_wrong : (o : Option Operator) (depth : ℕ) → walk_.opened o depth ≡ wrong → ⊥
    opened_no_wrong None depth e = cc
    opened_no_wrong (Some o) zero e = cc
    opened_no_wrong (Some o) (suc depth) e = cc

stop_flag : (g : Goal) (t : Token) (one two : Bool) → moved g t one ≡ wrong → moved g t two ≡ wrong
stop_flag (a_query depth) (word letters) one two e = absurd (begun_no_wrong letters one depth e)
stop_flag (a_query depth) (number z) one two e = refl
stop_flag (a_query depth) (text content) one two e = refl
stop_flag (a_query depth) (bytes content) one two e = refl
stop_flag (a_query depth) (sign c) one two e = refl
stop_flag g t one two e = moved_flag g t two one refl ∙ e

pass_flag : (g : Goal) (t : Token) (one two : Bool) → g ≡ steps → moved g t one ≡ moved g t two
pass_flag g t one two e = ap (λ x. moved x t one) e ∙ moved_flag steps t one two refl ∙ sym (ap (λ x. moved x t two) e)

stops_flag : (goals : List Goal) (t : Token) (one two : Bool) → step goals t one ≡ stops → step goals t two ≡ stops
stops_flag [] t one two e = refl
stops_flag (g ∷ goals) t one two e = chosen (stops_flag goals t one two) (moved g t one) refl e
  where
    chosen : (step goals t one ≡ stops → step goals t two ≡ stops) → (m : Move) → moved g t one ≡ m → followed m goals (step goals t one) ≡ stops → followed (moved g t two) goals (step goals t two) ≡ stops
    chosen others wrong is e = ap (λ m. followed m goals (step goals t two)) (stop_flag g t one two is)
    chosen others walk_.deep is e = absurd (cc)
    chosen others (push new) is e = absurd (cc)
    chosen others pass is e = ap (λ m. followed m goals (step goals t two)) (sym (pass_flag g t one two (pass_steps g t one is)) ∙ is) ∙ others e

-- a token at which the walk stops is wrong at any depth
no_deeper : (language : ℕ → Language) (start : ℕ → List Goal) (known : Limited language start) (front : List Token) (t : Token) (left : List Goal) (after : Bool) → walk front (is_opening t) (start max_operators) ≡ goes left → (is_held t ≡ false) ⊎ (step left t after ≡ stops) → IsFront (AnyDepth language) (front ++ (t ∷ [])) → ⊥
no_deeper language start known front t left after walks w f = chosen w
  where
    depth : ℕ
    depth = f.1.0

    over : GoesOver start (more_deep depth max_operators) front t (opens_first f.0 false)
    over = front_over language start known (more_deep depth max_operators) front t f.0 (deeper language start known depth (front ++ (t ∷ f.0)) (subst (language depth) (append_assoc front (t ∷ []) f.0) f.1.1))

    same : over.left ≡ raised_by depth left
    same = same_left front (is_opening t) (start (more_deep depth max_operators)) over.left (raised_by depth left) over.walks (walk_deeper language start known depth front (is_opening t) left walks)

    chosen : (is_held t ≡ false) ⊎ (step left t after ≡ stops) → ⊥
    chosen (inl unheld) = true≢false (sym over.held ∙ unheld)
    chosen (inr stopped) =
        let a : step (raised_by depth left) t (opens_first f.0 false) ≡ stops = stops_raised_by depth left t (opens_first f.0 false) (stops_flag left t after (opens_first f.0 false) stopped) in
        let b : step (raised_by depth left) t (opens_first f.0 false) ≡ goes over.further = ap (λ g. step g t (opens_first f.0 false)) (sym same) ∙ over.moves in
        clash over.further (sym a ∙ b)
      where
        clash : (g : List Goal) → stops ≡ goes g → ⊥
        clash g e = cc

-- what goes is a front within the limit, and of any depth
some_front : (language : ℕ → Language) (start : ℕ → List Goal) (known : Limited language start) (depth : ℕ) (front : List Token) (after : Bool) (left : List Goal) → walk front after (start depth) ≡ goes left → IsFront (language depth) front
some_front language start known depth front after left e = let f = walk_front_of (start depth) front after left e in (f.0, known.sound depth (front ++ f.0) f.1)

deep_front : (language : ℕ → Language) (start : ℕ → List Goal) (known : Limited language start) (depth : ℕ) (front : List Token) → IsFront (language depth) front → IsFront (AnyDepth language) front
deep_front language start known depth front f = (f.0, (depth, f.1))

-- tokens side by side, as pieces
tokens_split : (front : List Piece) (p : Piece) (rest : List Piece) → tokens_in (front ++ p ∷ rest) ≡ tokens_in front ++ (p.token ∷ tokens_in rest)
tokens_split [] p rest = refl
tokens_split (q ∷ front) p rest = ap (λ ts. q.token ∷ ts) (tokens_split front p rest)

-- a name that opens too deep
deep_step : (goals : List Goal) (t : Token) (follows : Bool) → step goals t follows ≡ deepens
    → (follows ≡ true) × ((left : List Goal) × (step (raised goals) t true ≡ goes (a_sign 40 ∷ left))) × ((left : List Goal) × (step goals t false ≡ goes left))
deep_step [] t follows e = absurd (cc)
deep_step (g ∷ goals) t follows e = chosen (deep_step goals t follows) (moved g t follows) refl e
  where
    chosen : (step goals t follows ≡ deepens → (follows ≡ true) × ((left : List Goal) × (step (raised goals) t true ≡ goes (a_sign 40 ∷ left))) × ((left : List Goal) × (step goals t false ≡ goes left)))
        → (m : Move) → moved g t follows ≡ m → followed m goals (step goals t follows) ≡ deepens
        → (follows ≡ true) × ((left : List Goal) × (followed (moved (raise g) t true) (raised goals) (step (raised goals) t true) ≡ goes (a_sign 40 ∷ left))) × ((left : List Goal) × (followed (moved g t false) goals (step goals t false) ≡ goes left))
    chosen others wrong is e = absurd (cc)
    chosen others walk_.deep is e =
        let here = deep_goal g t follows is in (
          here.opens,
          (here.left ++ raised goals, ap (λ m. followed m (raised goals) (step (raised goals) t true)) here.deeper),
          (steps ∷ goals, ap (λ m. followed m goals (step goals t false)) here.path),
        )
    chosen others (push new) is e = absurd (cc)
    chosen others pass is e =
        let inner = others e in
        let isteps = pass_steps g t follows is in
        let up : moved (raise g) t true ≡ pass = ap (λ x. moved (raise x) t true) isteps ∙ moved_flag steps t true follows refl ∙ sym (ap (λ x. moved x t follows) isteps) ∙ is in
        let down : moved g t false ≡ pass = pass_flag g t false follows isteps ∙ is in (
          inner.0,
          (inner.1.0, ap (λ m. followed m (raised goals) (step (raised goals) t true)) up ∙ inner.1.1),
          (inner.2.0, ap (λ m. followed m goals (step goals t false)) down ∙ inner.2.1),
        )

opening_is : (t : Token) → is_opening t ≡ true → t ≡ sign 40
opening_is (sign c) e = ap sign (eqb-true c 40 e)
opening_is (word letters) e = absurd (false≢true e)
opening_is (number z) e = absurd (false≢true e)
opening_is (text content) e = absurd (false≢true e)
opening_is (bytes content) e = absurd (false≢true e)

-- what opens too deep is what the walk finds
pub too_deep_found : (language : ℕ → Language) (start : ℕ → List Goal) (known : Limited language start) (pieces : List Piece) (end place : ℕ) → OpensTooDeep (language max_operators) (AnyDepth language) pieces place → run pieces end (start max_operators) ≡ Some (TooDeep place)
too_deep_found language start known pieces end place o = ap (λ ps. run ps end (start max_operators)) o.split ∙ run_walk o.front (o.name ∷ o.opening ∷ o.rest) end (start max_operators) strict.left strict.walks ∙ said (step strict.left name opens_here) refl ∙ ap (λ p. Some (TooDeep p)) (sym o.at)
  where
    front : List Token
    front = tokens_in o.front

    name : Token
    name = o.name.token

    opening : Token
    opening = o.opening.token

    opens_here : Bool
    opens_here = is_opening opening

    strict : GoesOver start max_operators (tokens_in o.front) o.name.token (opens_first o.goes_on.0 false)
    strict = front_over language start known max_operators (tokens_in o.front) o.name.token o.goes_on.0 (subst (language max_operators) (append_assoc (tokens_in o.front) (o.name.token ∷ []) o.goes_on.0) o.goes_on.1)

    depth : ℕ
    depth = o.deeper.1.0

    all : language (more_deep depth max_operators) (tokens_in o.front ++ (o.name.token ∷ o.opening.token ∷ o.deeper.0))
    all = deeper language start known depth (tokens_in o.front ++ (o.name.token ∷ o.opening.token ∷ o.deeper.0)) (subst (language depth) (append_assoc (tokens_in o.front) (o.name.token ∷ o.opening.token ∷ []) o.deeper.0) o.deeper.1.1)

    loose : GoesOver start (more_deep depth max_operators) (tokens_in o.front) o.name.token (is_opening o.opening.token)
    loose = front_over language start known (more_deep depth max_operators) (tokens_in o.front) o.name.token (o.opening.token ∷ o.deeper.0) all

    loose_next : GoesOver start (more_deep depth max_operators) (tokens_in o.front ++ (o.name.token ∷ [])) o.opening.token (opens_first o.deeper.0 false)
    loose_next = front_over language start known (more_deep depth max_operators) (tokens_in o.front ++ (o.name.token ∷ [])) o.opening.token o.deeper.0
        (subst (language (more_deep depth max_operators)) (sym (append_assoc (tokens_in o.front) (o.name.token ∷ []) (o.opening.token ∷ o.deeper.0))) all)

    same : loose.left ≡ raised_by depth strict.left
    same = same_left (tokens_in o.front) (is_opening o.name.token) (start (more_deep depth max_operators)) loose.left (raised_by depth strict.left) loose.walks (walk_deeper language start known depth (tokens_in o.front) (is_opening o.name.token) strict.left strict.walks)

    stop_go : (g : List Goal) → stops ≡ goes g → ⊥
    stop_go g e = cc

    -- so far within the limit, with the opening too
    over_name : (g : List Goal) → step strict.left o.name.token (is_opening o.opening.token) ≡ goes g → walk (tokens_in o.front ++ (o.name.token ∷ [])) (is_opening o.opening.token) (start max_operators) ≡ goes g
    over_name g e =
        walk_behind (tokens_in o.front) (o.name.token ∷ []) (is_opening o.opening.token) (start max_operators) strict.left strict.walks
        ∙ walk-goes o.name.token [] (is_opening o.opening.token) strict.left g strict.held e

    over_opening : (g h : List Goal) → step strict.left o.name.token (is_opening o.opening.token) ≡ goes g → step g o.opening.token false ≡ goes h → IsFront (language max_operators) (tokens_in o.front ++ (o.name.token ∷ o.opening.token ∷ []))
    over_opening g h e f =
        subst (IsFront (language max_operators)) (append_assoc (tokens_in o.front) (o.name.token ∷ []) (o.opening.token ∷ []))
        (some_front language start known max_operators ((tokens_in o.front ++ (o.name.token ∷ [])) ++ (o.opening.token ∷ [])) false h (
        walk_behind (tokens_in o.front ++ (o.name.token ∷ [])) (o.opening.token ∷ []) false (start max_operators) g (over_name g e) ∙ walk-goes o.opening.token [] false g h loose_next.held f))

    next_same : (g : List Goal) → step strict.left o.name.token (is_opening o.opening.token) ≡ goes g → loose_next.left ≡ raised_by depth g
    next_same g e =
        same_left (tokens_in o.front ++ (o.name.token ∷ [])) (is_opening o.opening.token) (start (more_deep depth max_operators)) loose_next.left (raised_by depth g) loose_next.walks
        (walk_deeper language start known depth (tokens_in o.front ++ (o.name.token ∷ [])) (is_opening o.opening.token) g (over_name g e))

    at_opening : (g : List Goal) → step strict.left o.name.token (is_opening o.opening.token) ≡ goes g → (n : Next) → step g o.opening.token false ≡ n → ⊥
    at_opening g e (goes h) is = o.wrong (over_opening g h e is)
    at_opening g e deepens is = false≢true (deep_step g o.opening.token false is).0
    at_opening g e stops is =
        let follows = opens_first o.deeper.0 false in
        let a : step (raised_by depth g) o.opening.token follows ≡ stops = stops_raised_by depth g o.opening.token follows (stops_flag g o.opening.token false follows is) in
        stop_go loose_next.further (sym a ∙ ap (λ x. step x o.opening.token follows) (sym (next_same g e)) ∙ loose_next.moves)

    said : (n : Next) → step strict.left o.name.token (is_opening o.opening.token) ≡ n → run (o.name ∷ o.opening ∷ o.rest) end strict.left ≡ Some (TooDeep o.name.place)
    said deepens is = run-deepens o.name (o.opening ∷ o.rest) end strict.left strict.held is
    said stops is =
        let a : step (raised_by depth strict.left) o.name.token (is_opening o.opening.token) ≡ stops = stops_raised_by depth strict.left o.name.token (is_opening o.opening.token) is in
        absurd (stop_go loose.further (sym a ∙ ap (λ x. step x o.name.token (is_opening o.opening.token)) (sym same) ∙ loose.moves))
    said (goes g) is = absurd (at_opening g is (step g o.opening.token false) refl)

-- and what the walk finds so opens too deep
deep_offends : (language : ℕ → Language) (start : ℕ → List Goal) (known : Limited language start) (pieces : List Piece) (place : ℕ) → Deepens pieces (start max_operators) place → OpensTooDeep (language max_operators) (AnyDepth language) pieces place
deep_offends language start known pieces place s = opened s.rest refl
  where
    tokens : List Token
    tokens = tokens_in s.front

    d : (opens s.rest ≡ true) × ((left : List Goal) × (step (raised s.left) s.piece.token true ≡ goes (a_sign 40 ∷ left))) × ((left : List Goal) × (step s.left s.piece.token false ≡ goes left))
    d = deep_step s.left s.piece.token (opens s.rest) s.deep

    goes_on : IsFront (language max_operators) (tokens_in s.front ++ (s.piece.token ∷ []))
    goes_on = some_front language start known max_operators (tokens_in s.front ++ (s.piece.token ∷ [])) false d.2.0 (
        walk_behind (tokens_in s.front) (s.piece.token ∷ []) false (start max_operators) s.left s.walks ∙ walk-goes s.piece.token [] false s.left d.2.0 s.held d.2.1)

    deep_go : (g : List Goal) → deepens ≡ goes g → ⊥
    deep_go g e = cc

    within : (q : Piece) → is_opening q.token ≡ true → IsFront (AnyDepth language) (tokens_in s.front ++ (s.piece.token ∷ q.token ∷ []))
    within q e = deep_front language start known (suc max_operators) (tokens_in s.front ++ (s.piece.token ∷ q.token ∷ [])) (some_front language start known (suc max_operators) (tokens_in s.front ++ (s.piece.token ∷ q.token ∷ [])) false d.1.0 (
        walk_behind (tokens_in s.front) (s.piece.token ∷ q.token ∷ []) false (start (suc max_operators)) (raised s.left)
        (ap (λ g. walk (tokens_in s.front) (is_opening s.piece.token) g) (sym (known.raises 1 max_operators)) ∙ walk_raised (tokens_in s.front) (is_opening s.piece.token) (start max_operators) s.left s.walks)
        ∙ walk-goes s.piece.token (q.token ∷ []) false (raised s.left) (a_sign 40 ∷ d.1.0) s.held (ap (λ b. step (raised s.left) s.piece.token b) e ∙ d.1.1)
        ∙ walk-goes q.token [] false (a_sign 40 ∷ d.1.0) d.1.0 (ap is_held (opening_is q.token e) ∙ held_sign 40) (ap (λ t. step (a_sign 40 ∷ d.1.0) t false) (opening_is q.token e))))

    too_deep_here : (q : Piece) (rest : List Piece) → s.rest ≡ q ∷ rest → IsFront (language max_operators) (tokens_in s.front ++ (s.piece.token ∷ q.token ∷ [])) → ⊥
    too_deep_here q rest e f =
        let over = front_over language start known max_operators (tokens_in s.front) s.piece.token (q.token ∷ f.0) (subst (language max_operators) (append_assoc (tokens_in s.front) (s.piece.token ∷ q.token ∷ []) f.0) f.1) in
        let same : over.left ≡ s.left = same_left (tokens_in s.front) (is_opening s.piece.token) (start max_operators) over.left s.left over.walks s.walks in
        let deep : step s.left s.piece.token (is_opening q.token) ≡ deepens = ap (λ ps. step s.left s.piece.token (opens ps)) (sym e) ∙ s.deep in
        deep_go over.further (sym deep ∙ ap (λ x. step x s.piece.token (is_opening q.token)) (sym same) ∙ over.moves)

    opened : (rest : List Piece) → s.rest ≡ rest → OpensTooDeep (language max_operators) (AnyDepth language) pieces place
    opened [] e = absurd (false≢true (sym (ap opens e) ∙ d.0))
    opened (q ∷ rest) e = record {
      front = s.front;
      name = s.piece;
      opening = q;
      rest = rest;
      split = s.split ∙ ap (λ ps. s.front ++ s.piece ∷ ps) e;
      goes_on = goes_on;
      deeper = within q (sym (ap opens e) ∙ d.0);
      wrong = too_deep_here q rest e;
      at = s.at;
    }

-- what the walk finds to be wrong
stop_offends : (language : ℕ → Language) (start : ℕ → List Goal) (known : Limited language start) (pieces : List Piece) (place : ℕ) → Stops pieces (start max_operators) place → IsFirstWrong (AnyDepth language) pieces place
stop_offends language start known pieces place s = record {
  front = s.front;
  piece = s.piece;
  rest = s.rest;
  split = s.split;
  goes_on = deep_front language start known max_operators (tokens_in s.front) (some_front language start known max_operators (tokens_in s.front) (is_opening s.piece.token) s.left s.walks);
  wrong = no_deeper language start known (tokens_in s.front) s.piece.token s.left (opens s.rest) s.walks s.wrong;
  at = s.at;
}

end_offends : (language : ℕ → Language) (start : ℕ → List Goal) (known : Limited language start) (pieces : List Piece) (end : ℕ) → Ends pieces (start max_operators) false → EndsEarly (AnyDepth language) pieces end end
end_offends language start known pieces end s = record {
  goes_on = deep_front language start known max_operators (tokens_in pieces) (some_front language start known max_operators (tokens_in pieces) false s.left s.walks);
  unfinished = λ q.
      let whole = known.complete (more_deep q.0 max_operators) (tokens_in pieces) (deeper language start known q.0 (tokens_in pieces) q.1) in
      let same : whole.left ≡ raised_by q.0 s.left = same_left (tokens_in pieces) false (start (more_deep q.0 max_operators)) whole.left (raised_by q.0 s.left) whole.walks (walk_deeper language start known q.0 (tokens_in pieces) false s.left s.walks) in
      true≢false (sym whole.met ∙ ap are_met same ∙ met_raised_by q.0 s.left ∙ s.met);
  at = refl;
}

-- the first offence of pieces
pub none_deep : (language : ℕ → Language) (start : ℕ → List Goal) (known : Limited language start) (pieces : List Piece) (end place : ℕ) → run pieces end (start max_operators) ≡ Some (Syntax place) → (other : ℕ) → OpensTooDeep (language max_operators) (AnyDepth language) pieces other → ⊥
none_deep language start known pieces end place e other o = let f : Some (Syntax place) ≡ Some (TooDeep other) = sym e ∙ too_deep_found language start known pieces end other o in cc

pub none_deep_whole : (language : ℕ → Language) (start : ℕ → List Goal) (known : Limited language start) (pieces : List Piece) (end : ℕ) → run pieces end (start max_operators) ≡ None → (other : ℕ) → OpensTooDeep (language max_operators) (AnyDepth language) pieces other → ⊥
none_deep_whole language start known pieces end e other o = let f : None ≡ Some (TooDeep other) = sym e ∙ too_deep_found language start known pieces end other o in cc

pub offends_syntax : (language : ℕ → Language) (start : ℕ → List Goal) (known : Limited language start) (pieces : List Piece) (end place : ℕ) → run pieces end (start max_operators) ≡ Some (Syntax place) → Offends (language max_operators) (AnyDepth language) pieces None end (syntax place)
offends_syntax language start known pieces end place e = (none_deep language start known pieces end place e, chosen (subst (Found pieces end (start max_operators)) e (found pieces end (start max_operators))))
  where
    chosen : Stops pieces (start max_operators) place ⊎ (Ends pieces (start max_operators) false × (place ≡ end)) → IsWrongAt (AnyDepth language) pieces None end place
    chosen (inl s) = inl (stop_offends language start known pieces place s)
    chosen (inr f) = inr (subst (EndsEarly (AnyDepth language) pieces end) (sym f.1) (end_offends language start known pieces end f.0))

pub offends_deep : (language : ℕ → Language) (start : ℕ → List Goal) (known : Limited language start) (pieces : List Piece) (flaw : Option ℕ) (end place : ℕ) → run pieces end (start max_operators) ≡ Some (TooDeep place) → Offends (language max_operators) (AnyDepth language) pieces flaw end (too_deep place)
offends_deep language start known pieces flaw end place e = deep_offends language start known pieces place (subst (Found pieces end (start max_operators)) e (found pieces end (start max_operators)))

pub never_memory : (pieces : List Piece) (end : ℕ) (goals : List Goal) → run pieces end goals ≡ Some Memory → ⊥
never_memory pieces end goals e = subst (Found pieces end goals) e (found pieces end goals)

pub whole_found : (language : ℕ → Language) (start : ℕ → List Goal) (known : Limited language start) (pieces : List Piece) (end : ℕ) → run pieces end (start max_operators) ≡ None → (language max_operators) (tokens_in pieces)
whole_found language start known pieces end e = let f = subst (Found pieces end (start max_operators)) e (found pieces end (start max_operators)) in known.sound max_operators (tokens_in pieces) (walk_whole_of (start max_operators) (tokens_in pieces) false f.left f.walks f.met)
