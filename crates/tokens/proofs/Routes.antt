-- Paths as tokens: what stands behind a front of one, and where reading one stops.
use Rattle.std.proofs.Common.{◌≡◌, ◌⊎◌, ℕ, ◌+◌, ◌<◌, ◌≤◌, ◌^◌, pos, List, [], ◌∷◌, ◌++◌, length, take, drop, true, refl, ap, sym, subst, ◌∙◌, arith, inl, inr}
use Rattle.std.proofs.lemmas.List.{drop-drop, take-append-drop, length-drop, length-take-le}
use Rattle.std.proofs.lemmas.List.Concat.{flat_map-append}
use Rattle.std.proofs.lemmas.List.Elements.{All-nil, All-cons, All-head, All-tail, All-push, All-append}
use Rattle.std.specs.List.{All, flat_map}
use Rattle.mk_value.specs.Names.{IsName, is_name_byte}
use Rattle.mk_value.specs.Paths.{Route}
use Rattle.mk_value.specs.Tokens.{Token, word, number, sign}
use Rattle.mk_value.specs.declared.path.Step.{Step}
use Rattle.tokens.specs.Fronts.{IsFront, Stops}
use Rattle.tokens.specs.Paths.{IsPath, IsStep, PathTokens, StandsStep, StepTokens, path_tokens, slash, step_tokens}
use Rattle.tokens.specs.Standing.{Stands}
use Rattle.tokens.proofs.Stopping.{After, stops_after, stops_same, take_behind}

-- a token that is known to come next stands there
pub stands_next : (tokens : List Token) (at : ℕ) (t : Token) (rest : List Token) → drop at tokens ≡ t ∷ rest → Stands tokens at t
stands_next tokens at t rest e = e ∙ ap (λ x. t ∷ x) (sym (ap (drop 1) e) ∙ drop-drop 1 at tokens)

-- what stands behind the front of steps is steps
steps_behind : (front steps : List Step) (tokens : List Token) → All IsStep steps → flat_map step_tokens front ++ tokens ≡ flat_map step_tokens steps
    → (more : List Step) × All IsStep more × (tokens ≡ flat_map step_tokens more)
steps_behind [] steps tokens whole e = (steps, whole, e)
steps_behind (s ∷ front) [] tokens whole e = let f : sign slash ∷ _ ≡ [] = e in cc
steps_behind (s ∷ front) (t ∷ steps) tokens whole e =
    let f : flat_map step_tokens front ++ tokens ≡ flat_map step_tokens steps = cc in
    steps_behind front steps tokens (All-tail IsStep t steps whole) f

abbrev a_name : List ℕ
a_name = 97 ∷ []

is_a_name : IsName a_name
is_a_name = record {
  not_empty = omega arith;
  short = omega arith;
  characters = All-cons (λ x. is_name_byte x ≡ true) 97 [] refl (All-nil (λ x. is_name_byte x ≡ true));
  begins = refl;
}

-- the step that one may always go on with
pub one_step : (row : ℕ) (prop : List ℕ) → row < 2 ^ 63 → IsName prop → StepTokens (sign slash ∷ number (pos row) ∷ sign slash ∷ word prop ∷ [])
one_step row prop r p = (step row prop ∷ [], All-cons IsStep (step row prop) [] (r, p) (All-nil IsStep), refl)
  where
    step : ℕ → List ℕ → Step
    step row prop = record { row = row; prop = prop }

-- the first step of some tokens
abbrev FirstStep : List Token → Type 0
FirstStep tokens = (s : Step) × (more : List Token) × IsStep s × (tokens ≡ sign slash ∷ number (pos s.row) ∷ sign slash ∷ word s.prop ∷ more)

first_step : (t : Token) (tokens : List Token) → StepTokens (t ∷ tokens) → FirstStep (t ∷ tokens)
first_step t tokens steps = go steps.0 steps.1 steps.2
  where
    go : (steps : List Step) → All IsStep steps → t ∷ tokens ≡ flat_map step_tokens steps → FirstStep (t ∷ tokens)
    go [] whole e = absurd (let f : t ∷ tokens ≡ [] = e in cc)
    go (s ∷ steps) whole e = (s, flat_map step_tokens steps, All-head IsStep s steps whole, e)

-- where a step stops: before its row, before its second slash, before its property
pub stops_row : (tail : List Token) → ((row : ℕ) → (rest : List Token) → tail ≡ number (pos row) ∷ rest → ⊥) → Stops StepTokens (sign slash ∷ tail) 1
stops_row tail none = record {
  within = omega arith;
  goes_on = (number (pos 0) ∷ sign slash ∷ word a_name ∷ [], one_step 0 a_name (omega arith) is_a_name);
  unfinished = λ whole. let f = first_step (sign slash) [] whole in let e : sign slash ∷ [] ≡ sign slash ∷ number (pos f.0.row) ∷ sign slash ∷ word f.0.prop ∷ f.1 = f.3 in cc;
  wrong = wrong tail none;
}
  where
    wrong : (tail : List Token) → ((row : ℕ) → (rest : List Token) → tail ≡ number (pos row) ∷ rest → ⊥) → (1 ≡ length (sign slash ∷ tail)) ⊎ (IsFront StepTokens (take 2 (sign slash ∷ tail)) → ⊥)
    wrong [] none = inl refl
    wrong (t ∷ tail) none = inr (λ goes.
        let f = first_step (sign slash) (t ∷ goes.0) goes.1 in
        let e : sign slash ∷ t ∷ goes.0 ≡ sign slash ∷ number (pos f.0.row) ∷ sign slash ∷ word f.0.prop ∷ f.1 = f.3 in
        let g : t ≡ number (pos f.0.row) = cc in
        none f.0.row tail (ap (λ x. x ∷ tail) g))

pub stops_slash : (row : ℕ) (tail : List Token) → row < 2 ^ 63 → ((rest : List Token) → tail ≡ sign slash ∷ rest → ⊥) → Stops StepTokens (sign slash ∷ number (pos row) ∷ tail) 2
stops_slash row tail small none = record {
  within = omega arith;
  goes_on = (sign slash ∷ word a_name ∷ [], one_step row a_name small is_a_name);
  unfinished = λ whole. let f = first_step (sign slash) (number (pos row) ∷ []) whole in
      let e : sign slash ∷ number (pos row) ∷ [] ≡ sign slash ∷ number (pos f.0.row) ∷ sign slash ∷ word f.0.prop ∷ f.1 = f.3 in cc;
  wrong = wrong tail none;
}
  where
    wrong : (tail : List Token) → ((rest : List Token) → tail ≡ sign slash ∷ rest → ⊥)
        → (2 ≡ length (sign slash ∷ number (pos row) ∷ tail)) ⊎ (IsFront StepTokens (take 3 (sign slash ∷ number (pos row) ∷ tail)) → ⊥)
    wrong [] none = inl refl
    wrong (t ∷ tail) none = inr (λ goes.
        let f = first_step (sign slash) (number (pos row) ∷ t ∷ goes.0) goes.1 in
        let e : sign slash ∷ number (pos row) ∷ t ∷ goes.0 ≡ sign slash ∷ number (pos f.0.row) ∷ sign slash ∷ word f.0.prop ∷ f.1 = f.3 in
        let g : t ≡ sign slash = cc in
        none tail (ap (λ x. x ∷ tail) g))

pub stops_prop : (row : ℕ) (tail : List Token) → row < 2 ^ 63 → ((prop : List ℕ) → IsName prop → (rest : List Token) → tail ≡ word prop ∷ rest → ⊥) → Stops StepTokens (sign slash ∷ number (pos row) ∷ sign slash ∷ tail) 3
stops_prop row tail small none = record {
  within = omega arith;
  goes_on = (word a_name ∷ [], one_step row a_name small is_a_name);
  unfinished = λ whole. let f = first_step (sign slash) (number (pos row) ∷ sign slash ∷ []) whole in
      let e : sign slash ∷ number (pos row) ∷ sign slash ∷ [] ≡ sign slash ∷ number (pos f.0.row) ∷ sign slash ∷ word f.0.prop ∷ f.1 = f.3 in cc;
  wrong = wrong tail none;
}
  where
    wrong : (tail : List Token) → ((prop : List ℕ) → IsName prop → (rest : List Token) → tail ≡ word prop ∷ rest → ⊥)
        → (3 ≡ length (sign slash ∷ number (pos row) ∷ sign slash ∷ tail)) ⊎ (IsFront StepTokens (take 4 (sign slash ∷ number (pos row) ∷ sign slash ∷ tail)) → ⊥)
    wrong [] none = inl refl
    wrong (t ∷ tail) none = inr (λ goes.
        let f = first_step (sign slash) (number (pos row) ∷ sign slash ∷ t ∷ goes.0) goes.1 in
        let e : sign slash ∷ number (pos row) ∷ sign slash ∷ t ∷ goes.0 ≡ sign slash ∷ number (pos f.0.row) ∷ sign slash ∷ word f.0.prop ∷ f.1 = f.3 in
        let g : t ≡ word f.0.prop = cc in
        none f.0.prop f.2.1 tail (ap (λ x. x ∷ tail) g))

-- the same, of tokens at a place
module _ (tokens : List Token) (at : ℕ) (opens : Stands tokens at (sign slash)) where
  pub stuck_row : ((row : ℕ) → Stands tokens (at + 1) (number (pos row)) → ⊥) → Stops StepTokens (drop at tokens) 1
  stuck_row none =
      subst (λ x. Stops StepTokens x 1) (sym opens) (stops_row (drop (at + 1) tokens) (λ row rest e. none row (stands_next tokens (at + 1) (number (pos row)) rest e)))

  module _ (row : ℕ) (small : row < 2 ^ 63) (rowed : Stands tokens (at + 1) (number (pos row))) where
    two : drop at tokens ≡ sign slash ∷ number (pos row) ∷ drop (at + 2) tokens
    two = opens ∙ ap (λ x. sign slash ∷ x) (rowed ∙ ap (λ n. number (pos row) ∷ drop n tokens) (let e : at + 1 + 1 ≡ at + 2 = omega arith in e))

    pub stuck_slash : (Stands tokens (at + 2) (sign slash) → ⊥) → Stops StepTokens (drop at tokens) 2
    stuck_slash none =
        subst (λ x. Stops StepTokens x 2) (sym two) (stops_slash row (drop (at + 2) tokens) small (λ rest e. none (stands_next tokens (at + 2) (sign slash) rest e)))

    module _ (slashed : Stands tokens (at + 2) (sign slash)) where
      three : drop at tokens ≡ sign slash ∷ number (pos row) ∷ sign slash ∷ drop (at + 3) tokens
      three = two ∙ ap (λ x. sign slash ∷ number (pos row) ∷ x) (slashed ∙ ap (λ n. sign slash ∷ drop n tokens) (let e : at + 2 + 1 ≡ at + 3 = omega arith in e))

      pub stuck_prop : ((prop : List ℕ) → IsName prop → Stands tokens (at + 3) (word prop) → ⊥) → Stops StepTokens (drop at tokens) 3
      stuck_prop none =
          subst (λ x. Stops StepTokens x 3) (sym three) (stops_prop row (drop (at + 3) tokens) small (λ prop named rest e. none prop named (stands_next tokens (at + 3) (word prop) rest e)))

      pub step_stands : (step : Step) → step.row ≡ row → IsName step.prop → Stands tokens (at + 3) (word step.prop) → StandsStep tokens at step
      step_stands step same named proped =
          let whole : drop at tokens ≡ step_tokens step ++ drop (at + 4) tokens =
          three ∙ ap (λ x. sign slash ∷ number (pos row) ∷ sign slash ∷ x) (proped ∙ ap (λ n. word step.prop ∷ drop n tokens) (let e : at + 3 + 1 ≡ at + 4 = omega arith in e))
          ∙ ap (λ r. sign slash ∷ number (pos r) ∷ sign slash ∷ word step.prop ∷ drop (at + 4) tokens) (sym same) in
          let long = ap length whole in
          record {
            within = omega (arith, long, length-drop at tokens);
            whole = (let small' : step.row < 2 ^ 63 = omega (arith, small, same) in small', named);
            is = whole;
          }

-- paths
pub path_then : (route : Route) → IsPath route → (x : List Token) → StepTokens x → PathTokens (path_tokens route ++ x)
path_then route whole x steps = (
  record { name = route.name; steps = route.steps ++ steps.0 },
  record {
    whole = record { name = whole.name; steps = All-append IsStep route.steps steps.0 whole.steps steps.1 };
    is = ap (λ y. word route.name ∷ y) (ap (λ y. flat_map step_tokens route.steps ++ y) steps.2 ∙ sym (flat_map-append step_tokens route.steps steps.0));
  },
)

pub path_behind : (route : Route) → (x : List Token) → PathTokens (path_tokens route ++ x) → StepTokens x
path_behind route x whole =
    let other = whole.0 in
    let e : word route.name ∷ (flat_map step_tokens route.steps ++ x) ≡ word other.name ∷ flat_map step_tokens other.steps = whole.1.is in
    let tail : flat_map step_tokens route.steps ++ x ≡ flat_map step_tokens other.steps = cc in
    steps_behind route.steps other.steps x whole.1.whole.steps tail

pub path_stuck : (tokens : List Token) (at k : ℕ) (route : Route) → IsPath route → at ≤ length tokens → take at tokens ≡ path_tokens route → Stops StepTokens (drop at tokens) k → Stops PathTokens tokens (at + k)
path_stuck tokens at k route whole within e s =
    let lifted = stops_after PathTokens (path_tokens route) (drop at tokens) k
    (stops_same StepTokens (After PathTokens (path_tokens route)) (drop at tokens) k (path_then route whole) (path_behind route) s) in
    let all : path_tokens route ++ drop at tokens ≡ tokens = ap (λ x. x ++ drop at tokens) (sym e) ∙ take-append-drop at tokens in
    let long : length (path_tokens route) + k ≡ at + k = ap (λ n. n + k) (ap length (sym e) ∙ length-take-le at tokens within) in
    subst (λ n. Stops PathTokens tokens n) long (subst (λ x. Stops PathTokens x (length (path_tokens route) + k)) all lifted)

pub no_path : (tokens : List Token) → ((name : List ℕ) → IsName name → Stands tokens 0 (word name) → ⊥) → Stops PathTokens tokens 0
no_path tokens none = record {
  within = omega arith;
  goes_on = (word a_name ∷ [], (record { name = a_name; steps = [] }, record { whole = record { name = is_a_name; steps = All-nil IsStep }; is = refl }));
  unfinished = λ whole. let e : [] ≡ word whole.0.name ∷ flat_map step_tokens whole.0.steps = whole.1.is in cc;
  wrong = wrong tokens none;
}
  where
    wrong : (tokens : List Token) → ((name : List ℕ) → IsName name → Stands tokens 0 (word name) → ⊥) → (0 ≡ length tokens) ⊎ (IsFront PathTokens (take 1 tokens) → ⊥)
    wrong [] none = inl refl
    wrong (t ∷ tokens) none = inr (λ goes.
        let e : t ∷ goes.0 ≡ word goes.1.0.name ∷ flat_map step_tokens goes.1.0.steps = goes.1.1.is in
        let g : t ≡ word goes.1.0.name = cc in
        none goes.1.0.name goes.1.1.whole.name (ap (λ x. x ∷ tokens) g))

pub path_begins : (tokens : List Token) (route : Route) (name : List ℕ) → Stands tokens 0 (word name) → route.name ≡ name → route.steps ≡ [] → take 1 tokens ≡ path_tokens route
path_begins tokens route name stands named steps =
    ap (take 1) stands ∙ ap (λ n. word n ∷ []) (sym named) ∙ ap (λ s. word route.name ∷ flat_map step_tokens s) (sym steps)

pub path_more : (tokens : List Token) (at : ℕ) (route next : Route) (step : Step) → at ≤ length tokens → take at tokens ≡ path_tokens route → StandsStep tokens at step
    → next.name ≡ route.name → next.steps ≡ route.steps ++ step ∷ [] → take (at + 4) tokens ≡ path_tokens next
path_more tokens at route next step within e s named steps =
    let long : length (take at tokens) ≡ at = length-take-le at tokens within in
    let front : take (at + 4) tokens ≡ take at tokens ++ take 4 (drop at tokens) =
    ap (take (at + 4)) (sym (take-append-drop at tokens)) ∙ ap (λ n. take (n + 4) (take at tokens ++ drop at tokens)) (sym long) ∙ take_behind (take at tokens) (drop at tokens) 4 in
    front ∙ ap (λ x. take at tokens ++ take 4 x) s.is ∙ ap (λ x. x ++ step_tokens step) e
    ∙ ap (λ x. word route.name ∷ x) (sym (flat_map-append step_tokens route.steps (step ∷ [])))
    ∙ ap (λ n. word n ∷ flat_map step_tokens (route.steps ++ step ∷ [])) (sym named) ∙ ap (λ x. word next.name ∷ flat_map step_tokens x) (sym steps)

pub path_whole : (route next : Route) (step : Step) → IsPath route → IsStep step → next.name ≡ route.name → next.steps ≡ route.steps ++ step ∷ [] → IsPath next
path_whole route next step whole good named steps = record {
  name = subst IsName (sym named) whole.name;
  steps = subst (All IsStep) (sym steps) (All-push IsStep route.steps step whole.steps good);
}
