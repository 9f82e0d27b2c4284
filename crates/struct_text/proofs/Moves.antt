-- How the first flaw from one place on is that from a later place on, or stands right there.
use Rattle.std.proofs.Common.{◌≡◌, ℕ, ◌+◌, ◌<◌, ◌≤◌, Bool, true, false, cond, not, ◌&&◌, ◌==◌, nat_lt, List, [], ◌∷◌, ◌++◌, length, drop, refl, sym, ◌∙◌, ap, subst, ⊎_elim, arith, Option, Some, None, take_while, append_assoc, append-nil, get_or, add-zero, eqb-true}
use Rattle.std.proofs.lemmas.Bool.{and_parts, cases_Bool, or_right}
use Rattle.std.proofs.lemmas.List.{drop_more, drop_all}
use Rattle.std.proofs.lemmas.List.Sums.{take_while-cons}
use Rattle.mk_value.specs.Limits.{max_name, max_properties, max_depth}
use Rattle.mk_value.specs.Names.{is_name_byte}
use Rattle.struct_text.specs.Bytes.{open_bracket, close_bracket, colon, comma, is_name_start, is_plain_letter, is_floating_letter}
use Rattle.struct_text.specs.declared.error.StructError.{StructError}
use Rattle.struct_text.specs.declared.error.StructError.TheVariants.{Syntax, Floating, TooDeep}
use Rattle.struct_text.specs.Walk.{Brackets, State, name_start, in_name, kind, after, stuck, named, behind_colon, is_letter, step}
use Rattle.struct_text.specs.Flaws.{is_stuck, is_whole, floats, deepens, is_full, is_long, has_name, repeats, first_of_six, flaw, or_else, first_flaw}
use Rattle.struct_text.proofs.Walk.{name_byte}
use Rattle.struct_text.proofs.Depth.{other_byte}

no_flaw : (wrong deep : Bool) (p : ℕ) → wrong ≡ false → deep ≡ false → first_of_six wrong false deep false false false p ≡ None
no_flaw wrong deep p h k = rw (h, k) refl

-- no flaw here: the first is one further on
pub on : (s t : State) (b : ℕ) (rest : List ℕ) (at : ℕ) → flaw s (b ∷ rest) at ≡ None → step s b ≡ t → first_flaw s at (b ∷ rest) ≡ first_flaw t (at + 1) rest
on s t b rest at h e = ap (λ f. or_else f (first_flaw (step s b) (at + 1) rest)) h ∙ ap (λ r. first_flaw r (at + 1) rest) e

-- a flaw here is the first
pub here : (s : State) (rest : List ℕ) (at : ℕ) (e : StructError) → flaw s rest at ≡ Some e → first_flaw s at rest ≡ Some e
here s [] at e h = h
here s (b ∷ rest) at e h = ap (λ f. or_else f (first_flaw (step s b) (at + 1) rest)) h

-- Over the bytes of a name.
abbrev pub run : List ℕ → List ℕ
run rest = take_while is_name_byte rest

pub run-yes : (b : ℕ) (rest : List ℕ) → is_name_byte b ≡ true → run (b ∷ rest) ≡ b ∷ run rest
run-yes b rest h = take_while-cons is_name_byte b rest ∙ ap (λ t. cond t (b ∷ run rest) []) h

pub run-no : (b : ℕ) (rest : List ℕ) → is_name_byte b ≡ false → run (b ∷ rest) ≡ []
run-no b rest h = take_while-cons is_name_byte b rest ∙ ap (λ t. cond t (b ∷ run rest) []) h

-- the byte behind a name is none of a name's
pub run-stops : (b : ℕ) (rest : List ℕ) → run (b ∷ rest) ≡ [] → is_name_byte b ≡ false
run-stops b rest h = ⊎_elim (λ e. absurd (let two : b ∷ run rest ≡ [] = sym (run-yes b rest e) ∙ h in cc)) (λ e. e) (cases_Bool (is_name_byte b))

in_name_flaw : (name : List ℕ) (brackets : Brackets) (b : ℕ) (rest : List ℕ) (at : ℕ) → is_name_byte b ≡ true → flaw (in_name name brackets) (b ∷ rest) at ≡ None
unfolding flaw
in_name_flaw name brackets b rest at h =
    no_flaw (is_stuck (step (in_name name brackets) b)) ((b == open_bracket) && (length brackets == max_depth)) at
    (ap is_stuck (name_byte name brackets b h)) (ap (λ t. t && (length brackets == max_depth)) (other_byte is_name_byte b open_bracket h refl))

-- the state behind a name, its place, and what follows
abbrev Behind : List ℕ → Brackets → ℕ → List ℕ → List ℕ → Option StructError
Behind name brackets at word rest = first_flaw (in_name (name ++ word) brackets) (at + length word) (drop (length word) rest)

nothing_run : (name : List ℕ) (brackets : Brackets) (at : ℕ) (rest : List ℕ) → first_flaw (in_name name brackets) at rest ≡ Behind name brackets at [] rest
nothing_run name brackets at rest = ap (λ n. first_flaw (in_name n brackets) at rest) (sym (append-nil name)) ∙ ap (λ n. first_flaw (in_name (name ++ []) brackets) n rest) (sym (add-zero at))

one_more : (name : List ℕ) (brackets : Brackets) (at b : ℕ) (word rest : List ℕ) → Behind (name ++ b ∷ []) brackets (at + 1) word rest ≡ Behind name brackets at (b ∷ word) (b ∷ rest)
one_more name brackets at b word rest =
    ap (λ n. first_flaw (in_name n brackets) (at + 1 + length word) (drop (length word) rest)) (append_assoc name (b ∷ []) word)
    ∙ ap (λ n. first_flaw (in_name (name ++ b ∷ word) brackets) n (drop (length word) rest)) (let e : at + 1 + length word ≡ at + length (b ∷ word) = omega arith in e)

in_name_run : (rest name : List ℕ) (brackets : Brackets) (at : ℕ) → first_flaw (in_name name brackets) at rest ≡ Behind name brackets at (run rest) rest
in_name_run [] name brackets at = nothing_run name brackets at []
in_name_run (b ∷ rest) name brackets at =
    let further = in_name_run rest (name ++ b ∷ []) brackets (at + 1) in
    ⊎_elim
    (λ e. on (in_name name brackets) (in_name (name ++ b ∷ []) brackets) b rest at (in_name_flaw name brackets b rest at e) (name_byte name brackets b e)
    ∙ further ∙ one_more name brackets at b (run rest) rest ∙ ap (λ w. Behind name brackets at w (b ∷ rest)) (sym (run-yes b rest e)))
    (λ e. nothing_run name brackets at (b ∷ rest) ∙ ap (λ w. Behind name brackets at w (b ∷ rest)) (sym (run-no b rest e)))
    (cases_Bool (is_name_byte b))

start_stuck : (t : Bool) (b : ℕ) (brackets : Brackets) → is_stuck (cond t (in_name (b ∷ []) brackets) stuck) ≡ not t
start_stuck true b brackets = refl
start_stuck false b brackets = refl

-- a name with no flaw at its start
pub over_name : (rest : List ℕ) (brackets : Brackets) (at : ℕ) → flaw (name_start brackets) rest at ≡ None
    → first_flaw (name_start brackets) at rest ≡ first_flaw (in_name (run rest) brackets) (at + length (run rest)) (drop (length (run rest)) rest)
unfolding flaw
over_name [] brackets at h = absurd (let e : Some (Syntax at) ≡ None = h in cc)
over_name (b ∷ rest) brackets at h =
    ⊎_elim
    (λ e. on (name_start brackets) (in_name (b ∷ []) brackets) b rest at h (ap (λ t. cond t (in_name (b ∷ []) brackets) stuck) e)
    ∙ in_name_run rest (b ∷ []) brackets (at + 1) ∙ one_more [] brackets at b (run rest) rest
    ∙ ap (λ w. Behind [] brackets at w (b ∷ rest)) (sym (run-yes b rest (and_parts (is_name_byte b) _ e).0)))
    (λ e. absurd (let stuck_here : is_stuck (step (name_start brackets) b) ≡ true = start_stuck (is_name_start b) b brackets ∙ ap not e in
    let two : Some (Syntax at) ≡ None = sym (ap (λ t. first_of_six t (floats (name_start brackets) b) (deepens (name_start brackets) b) (is_full (name_start brackets)) (is_long (name_start brackets) (b ∷ rest)) (repeats (name_start brackets) (b ∷ rest)) at) stuck_here) ∙ h in cc))
    (cases_Bool (is_name_start b))

-- The tests at the start of a name.
pub name_flaw : (before : List (List ℕ)) (outer : Brackets) (b : ℕ) (rest : List ℕ) (at : ℕ)
    → flaw (name_start (before ∷ outer)) (b ∷ rest) at
    ≡ first_of_six (not (is_name_start b)) false false (length before == max_properties) (nat_lt max_name (length (run (b ∷ rest)))) (has_name before (run (b ∷ rest))) at
unfolding flaw
name_flaw before outer b rest at =
    ap (λ t. first_of_six t false false (length before == max_properties) (nat_lt max_name (length (run (b ∷ rest)))) (has_name before (run (b ∷ rest))) at) (start_stuck (is_name_start b) b (before ∷ outer))

-- they are those of the view's name, where nothing stands before
pub root_flaw : (rest : List ℕ) (at : ℕ) → flaw (name_start []) rest at ≡ flaw (name_start ([] ∷ [])) rest at
unfolding flaw
root_flaw [] at = refl
root_flaw (b ∷ rest) at =
    ap (λ t. first_of_six t false false false (nat_lt max_name (length (run (b ∷ rest)))) false at) (start_stuck (is_name_start b) b [] ∙ sym (start_stuck (is_name_start b) b ([] ∷ [])))

module _ (bytes : List ℕ) (at : ℕ) (before : List (List ℕ)) where
  pub name_flaw_at : (outer : Brackets) → at < length bytes
      → flaw (name_start (before ∷ outer)) (drop at bytes) at
      ≡ first_of_six (not (is_name_start (get_or bytes at 0))) false false (length before == max_properties) (nat_lt max_name (length (run (drop at bytes)))) (has_name before (run (drop at bytes))) at
  name_flaw_at outer h =
      let P : List ℕ → Type 0 = λ r. flaw (name_start (before ∷ outer)) r at
      ≡ first_of_six (not (is_name_start (get_or bytes at 0))) false false (length before == max_properties) (nat_lt max_name (length (run r))) (has_name before (run r)) at in
      subst P (sym (drop_more bytes at 0 h)) (name_flaw before outer (get_or bytes at 0) (drop (at + 1) bytes) at)

  pub name_at_end : (outer : Brackets) → length bytes ≤ at → flaw (name_start (before ∷ outer)) (drop at bytes) at ≡ Some (Syntax at)
  unfolding flaw
  name_at_end outer h = ap (λ r. flaw (name_start (before ∷ outer)) r at) (drop_all at bytes h)

-- Behind a name.
colon_flaw : (name : List ℕ) (names : List (List ℕ)) (outer : Brackets) (at : ℕ) (rest : List ℕ) → flaw (in_name name (names ∷ outer)) (colon ∷ rest) at ≡ None
unfolding flaw
colon_flaw name names outer at rest = refl

pub over_colon : (name : List ℕ) (names : List (List ℕ)) (outer : Brackets) (at : ℕ) (rest : List ℕ)
    → first_flaw (in_name name (names ∷ outer)) at (colon ∷ rest) ≡ first_flaw (kind ((names ++ name ∷ []) ∷ outer)) (at + 1) rest
over_colon name names outer at rest = on (in_name name (names ∷ outer)) (kind ((names ++ name ∷ []) ∷ outer)) colon rest at (colon_flaw name names outer at rest) refl

deep_flaw : (name : List ℕ) (brackets : Brackets) (at : ℕ) (rest : List ℕ) → flaw (in_name name brackets) (open_bracket ∷ rest) at ≡ cond (length brackets == max_depth) (Some (TooDeep at)) None
unfolding flaw
deep_flaw name brackets at rest = refl

pub over_open : (name : List ℕ) (brackets : Brackets) (at : ℕ) (rest : List ℕ) → (length brackets == max_depth) ≡ false
    → first_flaw (in_name name brackets) at (open_bracket ∷ rest) ≡ first_flaw (name_start ([] ∷ named name brackets)) (at + 1) rest
over_open name brackets at rest h =
    on (in_name name brackets) (name_start ([] ∷ named name brackets)) open_bracket rest at (deep_flaw name brackets at rest ∙ ap (λ t. cond t (Some (TooDeep at)) None) h) refl

pub too_deep : (name : List ℕ) (brackets : Brackets) (at : ℕ) (rest : List ℕ) → (length brackets == max_depth) ≡ true
    → first_flaw (in_name name brackets) at (open_bracket ∷ rest) ≡ Some (TooDeep at)
too_deep name brackets at rest h =
    here (in_name name brackets) (open_bracket ∷ rest) at (TooDeep at) (deep_flaw name brackets at rest ∙ ap (λ t. cond t (Some (TooDeep at)) None) h)

wrong_here : (s : State) (b : ℕ) (rest : List ℕ) (at : ℕ) → step s b ≡ stuck → flaw s (b ∷ rest) at ≡ Some (Syntax at)
unfolding flaw
wrong_here s b rest at h = ap (λ r. first_of_six (is_stuck r) (floats s b) (deepens s b) (is_full s) (is_long s (b ∷ rest)) (repeats s (b ∷ rest)) at) h

ends_here : (s : State) (at : ℕ) → is_whole s ≡ false → flaw s [] at ≡ Some (Syntax at)
unfolding flaw
ends_here s at h = ap (λ t. cond t None (Some (Syntax at))) h

pub wrong_byte : (s : State) (b : ℕ) (rest : List ℕ) (at : ℕ) → step s b ≡ stuck → first_flaw s at (b ∷ rest) ≡ Some (Syntax at)
wrong_byte s b rest at h = here s (b ∷ rest) at (Syntax at) (wrong_here s b rest at h)

pub ends_early : (s : State) (at : ℕ) → is_whole s ≡ false → first_flaw s at [] ≡ Some (Syntax at)
ends_early s at h = here s [] at (Syntax at) (ends_here s at h)

behind_name : (name : List ℕ) (brackets : Brackets) (b : ℕ) → is_name_byte b ≡ false → (b == open_bracket) ≡ false → (b == colon) ≡ false → step (in_name name brackets) b ≡ stuck
behind_name name brackets b h o c = rw (h, o, c) refl

behind_view : (name : List ℕ) (t : Bool) → cond t (behind_colon name []) stuck ≡ stuck
behind_view name true = refl
behind_view name false = refl

-- neither a colon nor a bracket
pub no_kind : (name : List ℕ) (names : List (List ℕ)) (outer : Brackets) (at : ℕ) (rest : List ℕ) → run rest ≡ []
    → ((more : List ℕ) → rest ≡ colon ∷ more → ⊥) → ((more : List ℕ) → rest ≡ open_bracket ∷ more → ⊥)
    → first_flaw (in_name name (names ∷ outer)) at rest ≡ Some (Syntax at)
no_kind name names outer at [] h c o = ends_early (in_name name (names ∷ outer)) at refl
no_kind name names outer at (b ∷ rest) h c o =
    wrong_byte (in_name name (names ∷ outer)) b rest at (behind_name name (names ∷ outer) b (run-stops b rest h)
    (⊎_elim (λ e. absurd (o rest (ap (λ x. x ∷ rest) (eqb-true b open_bracket e)))) (λ e. e) (cases_Bool (b == open_bracket)))
    (⊎_elim (λ e. absurd (c rest (ap (λ x. x ∷ rest) (eqb-true b colon e)))) (λ e. e) (cases_Bool (b == colon))))

-- no bracket behind the view's name
pub no_bracket : (name : List ℕ) (at : ℕ) (rest : List ℕ) → run rest ≡ [] → ((more : List ℕ) → rest ≡ open_bracket ∷ more → ⊥) → first_flaw (in_name name []) at rest ≡ Some (Syntax at)
no_bracket name at [] h o = ends_early (in_name name []) at refl
no_bracket name at (b ∷ rest) h o =
    wrong_byte (in_name name []) b rest at (
    ap (λ t. cond t (in_name (name ++ b ∷ []) []) (cond (b == open_bracket) (name_start ([] ∷ [])) (cond (b == colon) (behind_colon name []) stuck))) (run-stops b rest h)
    ∙ ap (λ t. cond t (name_start ([] ∷ [])) (cond (b == colon) (behind_colon name []) stuck)) (⊎_elim (λ e. absurd (o rest (ap (λ x. x ∷ rest) (eqb-true b open_bracket e)))) (λ e. e) (cases_Bool (b == open_bracket)))
    ∙ behind_view name (b == colon))

-- The letter of a kind.
letter_flaw : (brackets : Brackets) (b : ℕ) (rest : List ℕ) (at : ℕ) → step (kind brackets) b ≡ after brackets → is_floating_letter b ≡ false → flaw (kind brackets) (b ∷ rest) at ≡ None
unfolding flaw
letter_flaw brackets b rest at e k = ap (λ r. first_of_six (is_stuck r) (is_floating_letter b) false false false false at) e ∙ ap (λ t. first_of_six false t false false false false at) k

floating_flaw : (brackets : Brackets) (b : ℕ) (rest : List ℕ) (at : ℕ) → step (kind brackets) b ≡ after brackets → is_floating_letter b ≡ true → flaw (kind brackets) (b ∷ rest) at ≡ Some (Floating at)
unfolding flaw
floating_flaw brackets b rest at e k = ap (λ r. first_of_six (is_stuck r) (is_floating_letter b) false false false false at) e ∙ ap (λ t. first_of_six false t false false false false at) k

pub over_letter : (brackets : Brackets) (b : ℕ) (rest : List ℕ) (at : ℕ) → is_letter b ≡ true → is_floating_letter b ≡ false
    → first_flaw (kind brackets) at (b ∷ rest) ≡ first_flaw (after brackets) (at + 1) rest
over_letter brackets b rest at h k =
    let there : step (kind brackets) b ≡ after brackets = ap (λ t. cond t (after brackets) stuck) h in
    on (kind brackets) (after brackets) b rest at (letter_flaw brackets b rest at there k) there

pub floating_letter : (brackets : Brackets) (b : ℕ) (rest : List ℕ) (at : ℕ) → is_floating_letter b ≡ true → first_flaw (kind brackets) at (b ∷ rest) ≡ Some (Floating at)
floating_letter brackets b rest at h =
    here (kind brackets) (b ∷ rest) at (Floating at) (floating_flaw brackets b rest at (ap (λ t. cond t (after brackets) stuck) (or_right (is_plain_letter b) (is_floating_letter b) h)) h)

pub no_letter : (brackets : Brackets) (b : ℕ) (rest : List ℕ) (at : ℕ) → is_letter b ≡ false → first_flaw (kind brackets) at (b ∷ rest) ≡ Some (Syntax at)
no_letter brackets b rest at h = wrong_byte (kind brackets) b rest at (ap (λ t. cond t (after brackets) stuck) h)

-- Behind a property.
after_flaw : (names : List (List ℕ)) (outer : Brackets) (b : ℕ) (rest : List ℕ) (at : ℕ) → is_stuck (step (after (names ∷ outer)) b) ≡ false → flaw (after (names ∷ outer)) (b ∷ rest) at ≡ None
unfolding flaw
after_flaw names outer b rest at h = ap (λ t. first_of_six t false false false false false at) h

pub over_comma : (names : List (List ℕ)) (outer : Brackets) (at : ℕ) (rest : List ℕ) → first_flaw (after (names ∷ outer)) at (comma ∷ rest) ≡ first_flaw (name_start (names ∷ outer)) (at + 1) rest
over_comma names outer at rest = on (after (names ∷ outer)) (name_start (names ∷ outer)) comma rest at (after_flaw names outer comma rest at refl) refl

pub over_close : (names : List (List ℕ)) (outer : Brackets) (at : ℕ) (rest : List ℕ) → first_flaw (after (names ∷ outer)) at (close_bracket ∷ rest) ≡ first_flaw (after outer) (at + 1) rest
over_close names outer at rest = on (after (names ∷ outer)) (after outer) close_bracket rest at (after_flaw names outer close_bracket rest at refl) refl

pub no_more : (names : List (List ℕ)) (outer : Brackets) (at : ℕ) (rest : List ℕ)
    → ((more : List ℕ) → rest ≡ close_bracket ∷ more → ⊥) → ((more : List ℕ) → rest ≡ comma ∷ more → ⊥)
    → first_flaw (after (names ∷ outer)) at rest ≡ Some (Syntax at)
no_more names outer at [] c o = ends_early (after (names ∷ outer)) at refl
no_more names outer at (b ∷ rest) c o =
    wrong_byte (after (names ∷ outer)) b rest at (
    ap (λ t. cond t (name_start (names ∷ outer)) (cond (b == close_bracket) (after outer) stuck)) (⊎_elim (λ e. absurd (o rest (ap (λ x. x ∷ rest) (eqb-true b comma e)))) (λ e. e) (cases_Bool (b == comma)))
    ∙ ap (λ t. cond t (after outer) stuck) (⊎_elim (λ e. absurd (c rest (ap (λ x. x ∷ rest) (eqb-true b close_bracket e)))) (λ e. e) (cases_Bool (b == close_bracket))))

-- The end of a text.
pub whole_end : (at : ℕ) → first_flaw (after []) at [] ≡ None
unfolding flaw
whole_end at = refl

pub past_end : (at b : ℕ) (rest : List ℕ) → first_flaw (after []) at (b ∷ rest) ≡ Some (Syntax at)
past_end at b rest = wrong_byte (after []) b rest at refl
