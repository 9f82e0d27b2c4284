-- The first flaw that a walk finds is the first offence of the text.
use Rattle.std.proofs.Common.{◌≡◌, ◌≢◌, ℕ, ◌+◌, ◌≤◌, Bool, true, false, cond, List, [], ◌∷◌, ◌++◌, length, refl, sym, ◌∙◌, ap, subst, inl, inr, ⊎_elim, arith, Option, Some, None, MatchOption, append_assoc, append-nil, eq-or-lt_of_le}
use Rattle.std.proofs.lemmas.Bool.{true≢false}
use Rattle.std.proofs.lemmas.List.{length_push}
use Rattle.struct_text.specs.Grammar.{IsLoose}
use Rattle.struct_text.specs.Offences.{Offends, IsFirstOffence, Precedes, place_of, rank_of, EndsEarly}
use Rattle.struct_text.specs.declared.error.StructError.{StructError}
use Rattle.struct_text.specs.declared.error.StructError.TheVariants.{Syntax, Floating, Repeated, TooDeep, TooMany, TooLong, Memory}
use Rattle.struct_text.proofs.Walk.{State, name_start, in_name, kind, after, stuck, step, walk, start, walk-append, walk-stuck}
use Rattle.struct_text.proofs.Reach.{ends_well, loose_from_walk, walk_from_loose}
use Rattle.struct_text.specs.Flaws.{flaw}
use Rattle.struct_text.proofs.Flaws.{is_stuck, is_whole, floats, deepens, is_full, is_long, repeats, or_else, first_flaw, IsPicked, picks}
use Rattle.struct_text.proofs.Local.{Tests, test_of_offence, offence_of_test}

-- no offence stands before the place
abbrev pub CleanTo : List ℕ → ℕ → Type 0
CleanTo text place = (f : StructError) → Offends text f → place ≤ place_of f

whole_state : (s : State) → is_whole s ≡ true → s ≡ after []
whole_state (after []) h = refl
whole_state (after (names ∷ outer)) h = absurd (true≢false (sym h))
whole_state (name_start brackets) h = absurd (true≢false (sym h))
whole_state (in_name name brackets) h = absurd (true≢false (sym h))
whole_state (kind brackets) h = absurd (true≢false (sym h))
whole_state stuck h = absurd (true≢false (sym h))

not_whole : (s : State) → is_whole s ≡ false → s ≢ after []
not_whole s h e = true≢false (sym (ap is_whole e) ∙ h)

-- an offence at the end of the text is that it ends early
at_the_end : (text : List ℕ) (f : StructError) → length text ≤ place_of f → Offends text f → EndsEarly text (place_of f)
at_the_end text (Syntax p) l (inl h) = absurd (omega (arith, h.within))
at_the_end text (Syntax p) l (inr h) = h
at_the_end text (Floating p) l h = absurd (omega (arith, h.stands.within))
at_the_end text (TooDeep p) l h = absurd (omega (arith, h.stands.within))
at_the_end text (TooMany p) l h = absurd (omega (arith, h.stands.within))
at_the_end text (TooLong p) l h = absurd (omega (arith, h.stands.within))
at_the_end text (Repeated p) l h = absurd (omega (arith, h.stands.within))
at_the_end text Memory l h = absurd h

-- no loose text goes on behind another
ends_once : (text : List ℕ) (p : ℕ) → walk start text ≡ after [] → EndsEarly text p → ⊥
ends_once text p e h =
    let b = h.goes_on.0 in
    let rest = h.goes_on.1 in
    let w : after [] ≡ stuck = sym (walk_from_loose (text ++ b ∷ rest) h.goes_on.2) ∙ walk-append start text (b ∷ rest) ∙ ap (λ s. walk (step s b) rest) e ∙ walk-stuck rest in
    cc

-- a text that isn't whole yet goes on
goes_on : (text : List ℕ) (rest : List ℕ) → walk start text ≢ after [] → walk (walk start text) rest ≡ after [] → (b : ℕ) × (more : List ℕ) × IsLoose (text ++ b ∷ more)
goes_on text [] h e = absurd (h e)
goes_on text (b ∷ more) h e = (b, more, loose_from_walk (text ++ b ∷ more) (walk-append start text (b ∷ more) ∙ e))

-- What the walk finds from a place on, where nothing offends before it.
abbrev pub Found : List ℕ → Option StructError → Type 0
Found text found = MatchOption found (((f : StructError) → Offends text f → ⊥) × (walk start text ≡ after [])) (IsFirstOffence text)

comes_first : (e f : StructError) → place_of e ≤ place_of f → (place_of f ≡ place_of e → rank_of e ≤ rank_of f) → Precedes e f
comes_first e f l same = ⊎_elim (λ q. inr (q, same (sym q))) (λ less. inl less) (eq-or-lt_of_le l)

found_at_end : (text : List ℕ) → walk start text ≢ stuck → CleanTo text (length text) → (t : Bool) → is_whole (walk start text) ≡ t → Found text (cond t None (Some (Syntax (length text))))
found_at_end text alive clean true e =
    let w = whole_state (walk start text) e in
    (λ f h. ends_once text (place_of f) w (at_the_end text f (clean f h) h), w)
found_at_end text alive clean false e =
    let well = ends_well (walk start text) alive in
    record {
      offends = inr (record { at_end = refl; goes_on = goes_on text well.0 (not_whole (walk start text) e) well.1 });
      first = λ f h. comes_first (Syntax (length text)) f (clean f h) (λ _. omega arith);
    }

module _ (before : List ℕ) (b : ℕ) (rest : List ℕ) (alive : walk start before ≢ stuck) (clean : CleanTo (before ++ b ∷ rest) (length before)) where
  clean_on : ((f : StructError) → Tests before b rest f → ⊥) → CleanTo (before ++ b ∷ rest) (length before + 1)
  clean_on none f h =
      ⊎_elim (λ q. absurd (none f (test_of_offence before b rest alive f (sym q) h))) (λ less. omega (arith, less)) (eq-or-lt_of_le (clean f h))

  found_at_byte : (o : Option StructError)
      → MatchOption o ((f : StructError) → Tests before b rest f → ⊥)
      (IsPicked (is_stuck (step (walk start before) b)) (floats (walk start before) b) (deepens (walk start before) b) (is_full (walk start before)) (is_long (walk start before) (b ∷ rest)) (repeats (walk start before) (b ∷ rest)) (length before))
      → (later : Option StructError) → (CleanTo (before ++ b ∷ rest) (length before + 1) → step (walk start before) b ≢ stuck → Found (before ++ b ∷ rest) later)
      → Found (before ++ b ∷ rest) (or_else o later)
  found_at_byte None none later on = on (clean_on none) (λ e. none (Syntax 0) (ap is_stuck e))
  found_at_byte (Some e) picked later on = record {
    offends = offence_of_test before b rest alive e picked.placed picked.holds;
    first = λ f h. comes_first e f (let l = clean f h in omega (arith, l, picked.placed)) (λ q. picked.least f (test_of_offence before b rest alive f (q ∙ picked.placed) h));
  }

pub finds : (rest before : List ℕ) → walk start before ≢ stuck → CleanTo (before ++ rest) (length before) → Found (before ++ rest) (first_flaw (walk start before) (length before) rest)
unfolding flaw
finds [] before alive clean =
    let P : List ℕ → Type 0 = λ text. Found text (first_flaw (walk start before) (length before) []) in
    subst P (sym (append-nil before)) (found_at_end before alive (subst (λ (text : List ℕ). CleanTo text (length before)) (append-nil before) clean) (is_whole (walk start before)) refl)
finds (b ∷ rest) before alive clean =
    let at : Option StructError = flaw (walk start before) (b ∷ rest) (length before) in
    let P : List ℕ → Type 0 = λ text. Found text (first_flaw (step (walk start before) b) (length before + 1) rest) in
    let S : State → Type 0 = λ s. Found ((before ++ b ∷ []) ++ rest) (first_flaw s (length before + 1) rest) in
    let N : ℕ → Type 0 = λ n. Found ((before ++ b ∷ []) ++ rest) (first_flaw (walk start (before ++ b ∷ [])) n rest) in
    let same : (before ++ b ∷ []) ++ rest ≡ before ++ b ∷ rest = append_assoc before (b ∷ []) rest in
    let step_is : walk start (before ++ b ∷ []) ≡ step (walk start before) b = walk-append start before (b ∷ []) in
    found_at_byte before b rest alive clean at
    (picks (is_stuck (step (walk start before) b)) (floats (walk start before) b) (deepens (walk start before) b) (is_full (walk start before)) (is_long (walk start before) (b ∷ rest)) (repeats (walk start before) (b ∷ rest)) (length before))
    (first_flaw (step (walk start before) b) (length before + 1) rest)
    (λ clean' alive'. subst P same (subst S step_is (subst N (length_push before b)
    (finds rest (before ++ b ∷ []) (λ e. alive' (sym step_is ∙ e))
    (λ f h. let l = clean' f (subst (λ (text : List ℕ). Offends text f) same h) in omega (arith, l, length_push before b))))))

-- The first flaw of a whole text, and a text with none.
pub finds_all : (text : List ℕ) → Found text (first_flaw start 0 text)
finds_all text = finds text [] (λ e. cc) (λ f h. omega arith)
