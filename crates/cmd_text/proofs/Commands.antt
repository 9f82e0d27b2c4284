-- What stands behind the word of a command is what the goals of its form mean, and the offences of a line are those of its pieces behind the word.
use Rattle.std.proofs.Common.{◌≡◌, inl, inr, ℕ, zero, suc, Bool, true, false, List, [], ◌∷◌, ◌++◌, Option, Some, None, refl, sym, ap, subst, ◌∙◌, if◌then◌else◌}
use Rattle.std.proofs.lemmas.Slice.Eq.{bytes_eq-Decides}
use Rattle.mk_value.specs.Tokens.{Token, word}
use Rattle.tokens.specs.Cutting.{Piece}
use Rattle.tokens.specs.Depths.{IsWrongAt, Offence, Offends, OpensTooDeep, syntax, too_deep}
use Rattle.tokens.specs.Fronts.{IsFront, Language, tokens_in}
use Rattle.expr_text.specs.Queries.{max_operators}
use Rattle.expr_text.specs.Walk.{Goal, a_word, followed, is_held, moved, opens, push, run, step, wrong}
use Rattle.expr_text.specs.declared.error.ExprError.{ExprError}
use Rattle.expr_text.specs.declared.error.ExprError.TheVariants as reading
use Rattle.expr_text.proofs.Deeper.{more_deep, raised, raised_by}
use Rattle.expr_text.proofs.InLines.{word_goes}
use Rattle.expr_text.proofs.Limited as limits
use Rattle.expr_text.proofs.Limited.{AnyDepth, GoesWhole, Limited}
use Rattle.expr_text.proofs.Meaning.{Meant}
use Rattle.expr_text.proofs.Running.{run-goes}
use Rattle.expr_text.proofs.Walking.{opens_first}
use Rattle.cmd_text.specs.Arguments.{Argument, Last, ending_of, parts_of, with_last}
use Rattle.cmd_text.specs.Grammar.{Behind, Call, CommandIn, CommandTokens, DeepCommandTokens, SpellsArguments, SpellsCall, call, keyword, nothing, structure}
use Rattle.cmd_text.specs.Readers.{begun, ending_goals, goals_of, line_run, part_goals, verb_of}
use Rattle.cmd_text.specs.Words.{form_of, is_known, word_of}
use Rattle.cmd_text.specs.declared.verb.Verb.{Verb}
use Rattle.cmd_text.proofs.Leading.{Led, deep_led, led_offends}
use Rattle.cmd_text.proofs.Spelling.{arguments_go, deeper_arguments, last_apart, last_goes, left_out_goes, parts_sound, raised_parts}
use Rattle.cmd_text.proofs.Verbs.{Begins, begins_verb, same_verb, verb_begins, verb_held}

-- the goals of a line that begins with the word
abbrev pub start_of : Verb → ℕ → List Goal
start_of verb depth = a_word (word_of verb) ∷ goals_of depth (form_of verb)

abbrev pub led : Verb → ℕ → Language
led verb depth = Led (keyword (word_of verb)) (CommandIn depth)

first_token : (t u : Token) (x y : List Token) → t ∷ x ≡ u ∷ y → t ≡ u
first_token t u x y e = cc

rest_tokens : (t u : Token) (x y : List Token) → t ∷ x ≡ u ∷ y → x ≡ y
rest_tokens t u x y e = cc

no_token : (t : Token) (x : List Token) → t ∷ x ≡ [] → ⊥
no_token t x e = cc

same_letters : (a b : List ℕ) → word a ≡ word b → a ≡ b
same_letters a b e = cc

-- two words that one line begins with
pub one_verb : (one two : Verb) (tokens x y : List Token) → tokens ≡ keyword (word_of one) ∷ x → tokens ≡ keyword (word_of two) ∷ y → one ≡ two
one_verb one two tokens x y p q = same_verb one two (same_letters (word_of one) (word_of two) (first_token (keyword (word_of one)) (keyword (word_of two)) x y (sym p ∙ q)))

this_word : (letters : List ℕ) (follows : Bool) → moved (a_word letters) (word letters) follows ≡ push []
this_word letters follows = ap (λ b. if b then push [] else wrong) ((bytes_eq-Decides letters letters).1 refl)

-- the arguments go
form_goes : (depth : ℕ) (verb : Verb) (list : List Argument) (last : Last) (ts : List Token) → Behind depth verb list last → GoesWhole (part_goals depth (parts_of list) (ending_goals (ending_of last))) ts → GoesWhole (goals_of depth (form_of verb)) ts
form_goes depth verb list last ts behind g =
    subst (λ parts. GoesWhole (part_goals depth parts (ending_goals (form_of verb).ending)) ts) behind.parts
    (subst (λ ending. GoesWhole (part_goals depth (parts_of list) (ending_goals ending)) ts) behind.ending g)

arguments_go_whole : (depth : ℕ) (verb : Verb) (list : List Argument) (last : Last) (ts : List Token) → Behind depth verb list last → SpellsArguments list last ts → GoesWhole (goals_of depth (form_of verb)) ts
arguments_go_whole depth verb list last ts behind (inl e) =
    form_goes depth verb list last ts behind (subst (GoesWhole (part_goals depth (parts_of list) (ending_goals (ending_of last)))) (sym e)
    (arguments_go depth list behind.whole (ending_goals (ending_of last)) (with_last last []) (last_apart last behind.last) (last_goes last behind.last)))
arguments_go_whole depth verb list last ts behind (inr e) =
    form_goes depth verb list last ts behind (subst (GoesWhole (part_goals depth (parts_of list) (ending_goals (ending_of last)))) (sym e.1)
    (arguments_go depth list behind.whole (ending_goals (ending_of last)) [] tt (left_out_goes last e.0)))

line_goes : (verb : Verb) (depth : ℕ) (tokens : List Token) → led verb depth tokens → GoesWhole (start_of verb depth) tokens
line_goes verb depth tokens l = chosen l.2.0 l.2.1
  where
    chosen : (c : Call) → SpellsCall depth c tokens → GoesWhole (start_of verb depth) tokens
    chosen nothing e = absurd (no_token (keyword (word_of verb)) l.0 (sym l.1 ∙ e))
    chosen (structure letters schema) e = absurd e
    chosen (call other list last) s = subst (λ v. GoesWhole (start_of v depth) tokens) (one_verb other verb tokens s.2.0 l.0 s.2.1 l.1) (subst (GoesWhole (start_of other depth)) (sym s.2.1)
        (word_goes (word_of other) (goals_of depth (form_of other)) s.2.0 (verb_held other) (this_word (word_of other) (opens_first s.2.0 false)) (arguments_go_whole depth other list last s.2.0 s.1 s.2.2)))

-- what meets them is a command
line_sound : (verb : Verb) → is_known verb ≡ true → (depth : ℕ) (tokens : List Token) → Meant (start_of verb depth) tokens → led verb depth tokens
line_sound verb known depth tokens m =
    let read = parts_sound depth (form_of verb).parts (form_of verb).ending m.1 m.3 in
    let is : tokens ≡ keyword (word_of verb) ∷ m.1 = m.4 ∙ ap (λ t. t ++ m.1) m.2 in
    let behind : Behind depth verb read.list read.last = record { parts = read.parts_same; ending = read.ending_same; whole = read.whole; last = read.last_whole } in
    (m.1, is, (call verb read.list read.last, (known, behind, (m.1, is, read.spells))))

raised_line : (verb : Verb) (depth : ℕ) → raised (start_of verb depth) ≡ start_of verb (suc depth)
raised_line verb depth = ap (λ g. a_word (word_of verb) ∷ g) (raised_parts depth (form_of verb).parts (form_of verb).ending)

line_raises : (verb : Verb) (k depth : ℕ) → raised_by k (start_of verb depth) ≡ start_of verb (more_deep k depth)
line_raises verb zero depth = refl
line_raises verb (suc k) depth = ap raised (line_raises verb k depth) ∙ raised_line verb (more_deep k depth)

deeper_call : (k depth : ℕ) (c : Call) (tokens : List Token) → SpellsCall depth c tokens → SpellsCall (more_deep depth k) c tokens
deeper_call k depth nothing tokens s = s
deeper_call k depth (structure letters schema) tokens s = absurd s
deeper_call k depth (call verb list last) tokens s =
    (s.0, record { parts = s.1.parts; ending = s.1.ending; whole = deeper_arguments depth k list s.1.whole; last = s.1.last }, s.2)

verb_limited : (verb : Verb) → is_known verb ≡ true → Limited (led verb) (start_of verb)
verb_limited verb known = record {
  complete = λ depth tokens l. line_goes verb depth tokens l;
  sound = λ depth tokens m. line_sound verb known depth tokens m;
  raises = λ k depth. line_raises verb k depth;
  deeper = λ k depth tokens l. (l.0, l.1, (l.2.0, deeper_call k depth l.2.0 tokens l.2.1));
}

-- a language that is another
pub deep_same : (strict one two : Language) → ((ts : List Token) → one ts → two ts) → (pieces : List Piece) (place : ℕ) → OpensTooDeep strict one pieces place → OpensTooDeep strict two pieces place
deep_same strict one two turn pieces place o = record {
  front = o.front;
  name = o.name;
  opening = o.opening;
  rest = o.rest;
  split = o.split;
  goes_on = o.goes_on;
  deeper = (o.deeper.0, turn (tokens_in o.front ++ (o.name.token ∷ o.opening.token ∷ []) ++ o.deeper.0) o.deeper.1);
  wrong = o.wrong;
  at = o.at;
}

wrong_same : (one two : Language) → ((ts : List Token) → one ts → two ts) → ((ts : List Token) → two ts → one ts) → (pieces : List Piece) (flaw : Option ℕ) (size place : ℕ) → IsWrongAt one pieces flaw size place → IsWrongAt two pieces flaw size place
wrong_same one two turn back pieces (Some flaw) size place at = at
wrong_same one two turn back pieces None size place (inl w) = inl (record {
  front = w.front;
  piece = w.piece;
  rest = w.rest;
  split = w.split;
  goes_on = (w.goes_on.0, turn (tokens_in w.front ++ w.goes_on.0) w.goes_on.1);
  wrong = λ f. w.wrong (f.0, back ((tokens_in w.front ++ (w.piece.token ∷ [])) ++ f.0) f.1);
  at = w.at;
})
wrong_same one two turn back pieces None size place (inr e) = inr (record {
  goes_on = (e.goes_on.0, turn (tokens_in pieces ++ e.goes_on.0) e.goes_on.1);
  unfinished = λ whole. e.unfinished (back (tokens_in pieces) whole);
  at = e.at;
})

offends_same : (strict one two : Language) → ((ts : List Token) → one ts → two ts) → ((ts : List Token) → two ts → one ts) → (pieces : List Piece) (flaw : Option ℕ) (size : ℕ) (offence : Offence)
    → Offends strict one pieces flaw size offence → Offends strict two pieces flaw size offence
offends_same strict one two turn back pieces flaw size (too_deep place) o = deep_same strict one two turn pieces place o
offends_same strict one two turn back pieces flaw size (syntax place) o =
    (λ other d. o.0 other (deep_same strict two one back pieces other d), wrong_same one two turn back pieces flaw size place o.1)

any_led : (verb : Verb) (ts : List Token) → AnyDepth (led verb) ts → Led (keyword (word_of verb)) DeepCommandTokens ts
any_led verb ts a = (a.1.0, a.1.1, (a.0, a.1.2))

led_any : (verb : Verb) (ts : List Token) → Led (keyword (word_of verb)) DeepCommandTokens ts → AnyDepth (led verb) ts
led_any verb ts l = (l.2.0, (l.0, l.1, l.2.1))

-- the offences of a line that begins with a word of a command
behind_offends : (p : Piece) (pieces : List Piece) (verb : Verb) (flaw : Option ℕ) (size : ℕ) (offence : Offence) → p.token ≡ keyword (word_of verb) → Offends (led verb max_operators) (AnyDepth (led verb)) (p ∷ pieces) flaw size offence
    → Offends CommandTokens DeepCommandTokens (p ∷ pieces) flaw size offence
behind_offends p pieces verb flaw size offence is o = led_offends p pieces CommandTokens DeepCommandTokens flaw size offence
    (subst (λ t. Offends (Led t CommandTokens) (Led t DeepCommandTokens) (p ∷ pieces) flaw size offence) (sym is)
    (offends_same (led verb max_operators) (AnyDepth (led verb)) (Led (keyword (word_of verb)) DeepCommandTokens) (any_led verb) (led_any verb) (p ∷ pieces) flaw size offence o))

behind_deep : (p : Piece) (pieces : List Piece) (verb : Verb) (place : ℕ) → p.token ≡ keyword (word_of verb) → OpensTooDeep CommandTokens DeepCommandTokens (p ∷ pieces) place → OpensTooDeep (led verb max_operators) (AnyDepth (led verb)) (p ∷ pieces) place
behind_deep p pieces verb place is o = deep_same (led verb max_operators) (Led (keyword (word_of verb)) DeepCommandTokens) (AnyDepth (led verb)) (led_any verb) (p ∷ pieces) place
    (subst (λ t. OpensTooDeep (Led t CommandTokens) (Led t DeepCommandTokens) (p ∷ pieces) place) is (deep_led p pieces CommandTokens DeepCommandTokens place o))

-- what the walk says of a line
abbrev pub Says : List Piece → Option ℕ → ℕ → Option ExprError → Type 0
Says pieces flaw size None = CommandTokens (tokens_in pieces) × ((other : ℕ) → OpensTooDeep CommandTokens DeepCommandTokens pieces other → ⊥)
Says pieces flaw size (Some (reading.Syntax place)) = Offends CommandTokens DeepCommandTokens pieces None size (syntax place)
Says pieces flaw size (Some (reading.TooDeep place)) = Offends CommandTokens DeepCommandTokens pieces flaw size (too_deep place)
Says pieces flaw size (Some reading.Memory) = ⊥

-- behind the word it says what stands there
pub word_run : (p : Piece) (pieces : List Piece) (size : ℕ) (verb : Verb) → p.token ≡ keyword (word_of verb) → run (p ∷ pieces) size (start_of verb max_operators) ≡ run pieces size (goals_of max_operators (form_of verb))
word_run p pieces size verb is =
    run-goes p pieces size (start_of verb max_operators) (goals_of max_operators (form_of verb)) (ap is_held is ∙ verb_held verb)
    (ap (λ t. followed (moved (a_word (word_of verb)) t (opens pieces)) (goals_of max_operators (form_of verb)) (step (goals_of max_operators (form_of verb)) t (opens pieces))) is
    ∙ ap (λ m. followed m (goals_of max_operators (form_of verb)) (step (goals_of max_operators (form_of verb)) (keyword (word_of verb)) (opens pieces))) (this_word (word_of verb) (opens pieces)))

word_says : (p : Piece) (pieces : List Piece) (flaw : Option ℕ) (size : ℕ) (verb : Verb) → Begins p.token verb → (said : Option ExprError) → run pieces size (goals_of max_operators (form_of verb)) ≡ said → Says (p ∷ pieces) flaw size said
word_says p pieces flaw size verb b said e = chosen said (word_run p pieces size verb b.is ∙ e)
  where
    known : Limited (led verb) (start_of verb)
    known = verb_limited verb b.known

    chosen : (said : Option ExprError) → run (p ∷ pieces) size (start_of verb max_operators) ≡ said → Says (p ∷ pieces) flaw size said
    chosen None e = (
      (limits.whole_found (led verb) (start_of verb) known (p ∷ pieces) size e).2,
      λ other o. limits.none_deep_whole (led verb) (start_of verb) known (p ∷ pieces) size e other (behind_deep p pieces verb other b.is o),
    )
    chosen (Some (reading.Syntax place)) e = behind_offends p pieces verb None size (syntax place) b.is (limits.offends_syntax (led verb) (start_of verb) known (p ∷ pieces) size place e)
    chosen (Some (reading.TooDeep place)) e = behind_offends p pieces verb flaw size (too_deep place) b.is (limits.offends_deep (led verb) (start_of verb) known (p ∷ pieces) flaw size place e)
    chosen (Some reading.Memory) e = limits.never_memory (p ∷ pieces) size (start_of verb max_operators) e

-- a line that begins with no word of a command
command_begins : (t : Token) (rest : List Token) (depth : ℕ) → CommandIn depth (t ∷ rest) → (verb : Verb) × Begins t verb
command_begins t rest depth c = chosen c.0 c.1
  where
    chosen : (c : Call) → SpellsCall depth c (t ∷ rest) → (verb : Verb) × Begins t verb
    chosen nothing e = absurd (no_token t rest e)
    chosen (structure letters schema) e = absurd e
    chosen (call verb list last) s = (verb, record { known = s.0; is = first_token t (keyword (word_of verb)) rest s.2.0 s.2.1 })

no_command : (t : Token) (rest : List Token) (depth : ℕ) → verb_of t ≡ None → CommandIn depth (t ∷ rest) → ⊥
no_command t rest depth e c = let b = command_begins t rest depth c in let f : None ≡ Some b.0 = sym e ∙ begins_verb t b.0 b.1 in cc

none_deep : (p : Piece) (pieces : List Piece) → verb_of p.token ≡ None → (place : ℕ) → OpensTooDeep CommandTokens DeepCommandTokens (p ∷ pieces) place → ⊥
none_deep p pieces e place o = chosen o.front o.split o.goes_on
  where
    chosen : (front : List Piece) → p ∷ pieces ≡ front ++ o.name ∷ o.opening ∷ o.rest → IsFront CommandTokens (tokens_in front ++ (o.name.token ∷ [])) → ⊥
    chosen [] split f = let same : p ≡ o.name = cc in no_command p.token f.0 max_operators e (subst (λ q. CommandTokens (q.token ∷ f.0)) (sym same) f.1)
    chosen (q ∷ front) split f = let same : p ≡ q = cc in no_command p.token ((tokens_in front ++ (o.name.token ∷ [])) ++ f.0) max_operators e (subst (λ x. CommandTokens (x.token ∷ ((tokens_in front ++ (o.name.token ∷ [])) ++ f.0))) (sym same) f.1)

no_word_says : (p : Piece) (pieces : List Piece) (size : ℕ) → verb_of p.token ≡ None → Offends CommandTokens DeepCommandTokens (p ∷ pieces) None size (syntax p.place)
no_word_says p pieces size e = (
  none_deep p pieces e,
  inl (record {
    front = [];
    piece = p;
    rest = pieces;
    split = refl;
    goes_on = ([], (max_operators, (nothing, refl)));
    wrong = λ f. no_command p.token f.0 f.1.0 e f.1.1;
    at = refl;
  }),
)

nothing_deep : (place : ℕ) → OpensTooDeep CommandTokens DeepCommandTokens [] place → ⊥
nothing_deep place o = chosen o.front o.split
  where
    chosen : (front : List Piece) → [] ≡ front ++ o.name ∷ o.opening ∷ o.rest → ⊥
    chosen [] e = cc
    chosen (q ∷ front) e = cc

pub line_says : (pieces : List Piece) (flaw : Option ℕ) (size : ℕ) → Says pieces flaw size (line_run pieces size)
line_says [] flaw size = ((nothing, refl), nothing_deep)
line_says (p ∷ pieces) flaw size = chosen (verb_of p.token) refl
  where
    chosen : (found : Option Verb) → verb_of p.token ≡ found → Says (p ∷ pieces) flaw size (begun (verb_of p.token) p.place (λ verb. run pieces size (goals_of max_operators (form_of verb))))
    chosen None e = subst (λ found. Says (p ∷ pieces) flaw size (begun found p.place (λ verb. run pieces size (goals_of max_operators (form_of verb))))) (sym e) (no_word_says p pieces size e)
    chosen (Some verb) e =
        subst (λ found. Says (p ∷ pieces) flaw size (begun found p.place (λ v. run pieces size (goals_of max_operators (form_of v))))) (sym e)
        (word_says p pieces flaw size verb (verb_begins p.token verb e) (run pieces size (goals_of max_operators (form_of verb))) refl)
