-- An offence at one place is what the tests of the walk find there, and the other way round.
use Rattle.std.proofs.Common.{◌≡◌, ◌≢◌, ◌⊎◌, ℕ, ◌+◌, ◌<◌, Bool, true, false, ◌==◌, List, [], ◌∷◌, ◌++◌, length, take, drop, refl, sym, ◌∙◌, ap, subst, inl, inr, ⊎_elim, arith, Contains, slice_index, take_while, append_assoc, eqb-true, eq-eqb, ltb-true, lt-ltb, length-append}
use Rattle.std.proofs.lemmas.Bool.{true≢false, and_parts, and_from}
use Rattle.std.proofs.lemmas.List.{take_at, drop_at, get_or_at, length_push, take-append-le, take-append-drop, nil_from_length}
use Rattle.mk_value.specs.Limits.{max_name, max_properties, max_depth}
use Rattle.mk_value.specs.Names.{is_name_byte}
use Rattle.struct_text.specs.Bytes.{open_bracket, colon, comma, is_floating_letter}
use Rattle.struct_text.specs.Grammar.{AreListed, none, more, BeginsLoose}
use Rattle.struct_text.specs.Offences.{CanStand, Follows, open_brackets, name_at, StandBefore, IsFirstWrongByte, EndsEarly, IsFloatingKind, OpensTooDeep, IsOneTooMany, BeginsTooLong, RepeatsName, Offends, place_of}
use Rattle.struct_text.specs.declared.error.StructError.{StructError}
use Rattle.struct_text.specs.declared.error.StructError.TheVariants.{Syntax, Floating, Repeated, TooDeep, TooMany, TooLong, Memory}
use Rattle.struct_text.proofs.Walk.{Brackets, State, name_start, in_name, kind, after, stuck, named, step, walk, start, walk-append, walk-stuck, walk-listed}
use Rattle.struct_text.proofs.Reach.{Behind, nothing, a_list, a_colon, Behind-at, begins_from_walk, walk_from_begins}
use Rattle.struct_text.proofs.Depth.{depth, open_brackets-walk}
use Rattle.struct_text.proofs.Flaws.{is_stuck, floats, deepens, is_full, is_long, repeats, has_name-from, Contains-from, Holds}

-- The stuck state, by its test.
stuck_by_test : (s : State) → is_stuck s ≡ true → s ≡ stuck
stuck_by_test stuck h = refl
stuck_by_test (name_start brackets) h = absurd (true≢false (sym h))
stuck_by_test (in_name name brackets) h = absurd (true≢false (sym h))
stuck_by_test (kind brackets) h = absurd (true≢false (sym h))
stuck_by_test (after brackets) h = absurd (true≢false (sym h))

pub alive_by_test : (s : State) → is_stuck s ≡ false → s ≢ stuck
alive_by_test s h e = true≢false (sym (ap is_stuck e) ∙ h)

pub test_of_alive : (s : State) → s ≢ stuck → is_stuck s ≡ false
test_of_alive stuck h = absurd (h refl)
test_of_alive (name_start brackets) h = refl
test_of_alive (in_name name brackets) h = refl
test_of_alive (kind brackets) h = refl
test_of_alive (after brackets) h = refl

-- Where a byte may come.
colon_kind : (s : State) → step s colon ≢ stuck → (brackets : Brackets) × (step s colon ≡ kind brackets)
colon_kind (name_start brackets) h = absurd (h refl)
colon_kind (in_name name []) h = absurd (h refl)
colon_kind (in_name name (names ∷ outer)) h = ((names ++ name ∷ []) ∷ outer, refl)
colon_kind (kind brackets) h = absurd (h refl)
colon_kind (after []) h = absurd (h refl)
colon_kind (after (names ∷ outer)) h = absurd (h refl)
colon_kind stuck h = absurd (h refl)

opens_in_name : (s : State) → step s open_bracket ≢ stuck → (name : List ℕ) × (brackets : Brackets) × (s ≡ in_name name brackets)
opens_in_name (name_start brackets) h = absurd (h refl)
opens_in_name (in_name name brackets) h = (name, brackets, refl)
opens_in_name (kind brackets) h = absurd (h refl)
opens_in_name (after []) h = absurd (h refl)
opens_in_name (after (names ∷ outer)) h = absurd (h refl)
opens_in_name stuck h = absurd (h refl)

comma_name : (s : State) → step s comma ≢ stuck → (brackets : Brackets) × (step s comma ≡ name_start brackets)
comma_name (name_start brackets) h = absurd (h refl)
comma_name (in_name name []) h = absurd (h refl)
comma_name (in_name name (names ∷ outer)) h = absurd (h refl)
comma_name (kind brackets) h = absurd (h refl)
comma_name (after []) h = absurd (h refl)
comma_name (after (names ∷ outer)) h = (names ∷ outer, refl)
comma_name stuck h = absurd (h refl)

open_name : (s : State) → step s open_bracket ≢ stuck → (brackets : Brackets) × (step s open_bracket ≡ name_start brackets)
open_name s h =
    let found = opens_in_name s h in
    ([] ∷ named found.0 found.1, ap (λ t. step t open_bracket) found.2)

-- The state, by a test that holds there.
floats_kind : (s : State) (b : ℕ) → floats s b ≡ true → (brackets : Brackets) × (s ≡ kind brackets)
floats_kind (kind brackets) b h = (brackets, refl)
floats_kind (name_start brackets) b h = absurd (true≢false (sym h))
floats_kind (in_name name brackets) b h = absurd (true≢false (sym h))
floats_kind (after brackets) b h = absurd (true≢false (sym h))
floats_kind stuck b h = absurd (true≢false (sym h))

deepens_name : (s : State) (b : ℕ) → deepens s b ≡ true → (b ≡ open_bracket) × (depth s ≡ max_depth)
deepens_name (in_name name brackets) b h =
    let parts = and_parts (b == open_bracket) (length brackets == max_depth) h in
    (eqb-true b open_bracket parts.0, eqb-true (length brackets) max_depth parts.1)
deepens_name (name_start brackets) b h = absurd (true≢false (sym h))
deepens_name (kind brackets) b h = absurd (true≢false (sym h))
deepens_name (after brackets) b h = absurd (true≢false (sym h))
deepens_name stuck b h = absurd (true≢false (sym h))

full_state : (s : State) → is_full s ≡ true → (names : List (List ℕ)) × (outer : Brackets) × (s ≡ name_start (names ∷ outer)) × (length names ≡ max_properties)
full_state (name_start (names ∷ outer)) h = (names, outer, refl, eqb-true (length names) max_properties h)
full_state (name_start []) h = absurd (true≢false (sym h))
full_state (in_name name brackets) h = absurd (true≢false (sym h))
full_state (kind brackets) h = absurd (true≢false (sym h))
full_state (after brackets) h = absurd (true≢false (sym h))
full_state stuck h = absurd (true≢false (sym h))

long_state : (s : State) (rest : List ℕ) → is_long s rest ≡ true → (brackets : Brackets) × (s ≡ name_start brackets) × (max_name < length (take_while is_name_byte rest))
long_state (name_start brackets) rest h = (brackets, refl, ltb-true max_name (length (take_while is_name_byte rest)) h)
long_state (in_name name brackets) rest h = absurd (true≢false (sym h))
long_state (kind brackets) rest h = absurd (true≢false (sym h))
long_state (after brackets) rest h = absurd (true≢false (sym h))
long_state stuck rest h = absurd (true≢false (sym h))

repeats_state : (s : State) (rest : List ℕ) → repeats s rest ≡ true
    → (names : List (List ℕ)) × (outer : Brackets) × (s ≡ name_start (names ∷ outer)) × Contains names (take_while is_name_byte rest)
repeats_state (name_start (names ∷ outer)) rest h = (names, outer, refl, Contains-from names (take_while is_name_byte rest) h)
repeats_state (name_start []) rest h = absurd (true≢false (sym h))
repeats_state (in_name name brackets) rest h = absurd (true≢false (sym h))
repeats_state (kind brackets) rest h = absurd (true≢false (sym h))
repeats_state (after brackets) rest h = absurd (true≢false (sym h))
repeats_state stuck rest h = absurd (true≢false (sym h))

-- The last byte behind a state.
abbrev EndsIn : List ℕ → ℕ → Type 0
EndsIn u b = (front : List ℕ) × (u ≡ front ++ b ∷ [])

ends_in_colon : {brackets : Brackets} {u : List ℕ} → Behind (kind brackets) u → EndsIn u colon
ends_in_colon (a_colon outer front names listed name opened before word) = (front ++ (open_bracket ∷ (listed ++ name)), simp append_assoc)

ends_before_name : {brackets : Brackets} {u : List ℕ} → Behind (name_start brackets) u → (u ≡ []) ⊎ (EndsIn u open_bracket ⊎ EndsIn u comma)
ends_before_name nothing = inl refl
ends_before_name (a_list outer front _ _ opened none) = inr (inl (front, refl))
ends_before_name (a_list outer front _ _ opened (more names listed name bytes before word loose)) =
    inr (inr (front ++ (open_bracket ∷ (listed ++ (name ++ bytes))), simp append_assoc))

list_behind : {names : List (List ℕ)} {outer : Brackets} {u : List ℕ} → Behind (name_start (names ∷ outer)) u
    → (front : List ℕ) × (listed : List ℕ) × (u ≡ front ++ (open_bracket ∷ listed)) × AreListed names listed
list_behind (a_list outer front names listed opened before) = (front, listed, refl, before)

-- At a place with a byte: the text is before ++ b ∷ rest, and the place is the length of before.
module _ (before : List ℕ) (b : ℕ) (rest : List ℕ) where
  front_is : take (length before) (before ++ b ∷ rest) ≡ before
  front_is = take_at before (b ∷ rest) (length before) refl

  through_is : take (length before + 1) (before ++ b ∷ rest) ≡ before ++ b ∷ []
  through_is = ap (take (length before + 1)) (sym (append_assoc before (b ∷ []) rest)) ∙ take_at (before ++ b ∷ []) rest (length before + 1) (length_push before b)

  byte_is : slice_index (before ++ b ∷ rest) (length before) ≡ b
  byte_is = get_or_at before b rest 0 (length before) refl

  name_is : name_at (before ++ b ∷ rest) (length before) ≡ take_while is_name_byte (b ∷ rest)
  name_is = ap (take_while is_name_byte) (drop_at before (b ∷ rest) (length before) refl)

  within_is : length before < length (before ++ b ∷ rest)
  within_is = omega (arith, length-append before (b ∷ rest))

  can_stand : step (walk start before) b ≢ stuck → CanStand (before ++ b ∷ rest) (length before)
  can_stand h = record {
    within = within_is;
    begins = subst BeginsLoose (sym through_is) (begins_from_walk (before ++ b ∷ []) (λ e. h (sym (walk-append start before (b ∷ [])) ∙ e)));
  }

  stands : CanStand (before ++ b ∷ rest) (length before) → step (walk start before) b ≢ stuck
  stands h e = walk_from_begins (before ++ b ∷ []) (subst BeginsLoose through_is h.begins) (walk-append start before (b ∷ []) ∙ e)

  not_stuck : CanStand (before ++ b ∷ rest) (length before) → is_stuck (step (walk start before) b) ≡ false
  not_stuck h = test_of_alive (step (walk start before) b) (stands h)

  stands_by_test : is_stuck (step (walk start before) b) ≡ false → CanStand (before ++ b ∷ rest) (length before)
  stands_by_test h = can_stand (alive_by_test (step (walk start before) b) h)

  followed : (c : ℕ) → Follows (before ++ b ∷ rest) (length before) c → (front : List ℕ) × (walk start before ≡ step (walk start front) c)
  followed c (front, e) = (front, ap (walk start) (sym front_is ∙ e) ∙ walk-append start front (c ∷ []))

  follows : (c : ℕ) → EndsIn before c → Follows (before ++ b ∷ rest) (length before) c
  follows c (front, e) = (front, front_is ∙ e)

  alive_after : (front : List ℕ) (c : ℕ) → walk start before ≢ stuck → walk start before ≡ step (walk start front) c → step (walk start front) c ≢ stuck
  alive_after front c alive e h = alive (e ∙ h)

  wrong_byte : walk start before ≢ stuck → is_stuck (step (walk start before) b) ≡ true → IsFirstWrongByte (before ++ b ∷ rest) (length before)
  wrong_byte alive h = record {
    within = within_is;
    right_before = λ q l. begins_from_walk (take q (before ++ b ∷ rest)) (λ e. alive (
        ap (walk start) (sym (take-append-drop q before))
        ∙ walk-append start (take q before) (drop q before)
        ∙ ap (λ u. walk (walk start u) (drop q before)) (sym (take-append-le q before (b ∷ rest) l))
        ∙ ap (λ s. walk s (drop q before)) e
        ∙ walk-stuck (drop q before)));
    wrong = λ begun. walk_from_begins (before ++ b ∷ []) (subst BeginsLoose through_is begun) (walk-append start before (b ∷ []) ∙ stuck_by_test (step (walk start before) b) h);
  }

  stuck_at_wrong : (t : Bool) → is_stuck (step (walk start before) b) ≡ t → IsFirstWrongByte (before ++ b ∷ rest) (length before) → t ≡ true
  stuck_at_wrong true e h = refl
  stuck_at_wrong false e h = absurd (h.wrong (stands_by_test e).begins)

  stuck_at_syntax : IsFirstWrongByte (before ++ b ∷ rest) (length before) ⊎ EndsEarly (before ++ b ∷ rest) (length before) → is_stuck (step (walk start before) b) ≡ true
  stuck_at_syntax (inl h) = stuck_at_wrong (is_stuck (step (walk start before) b)) refl h
  stuck_at_syntax (inr h) = absurd (omega (arith, h.at_end, within_is))

  floats_at : walk start before ≢ stuck → IsFloatingKind (before ++ b ∷ rest) (length before) → floats (walk start before) b ≡ true
  floats_at alive h =
      let f = followed colon h.kind in
      let k = colon_kind (walk start f.0) (alive_after f.0 colon alive f.1) in
      ap (λ s. floats s b) (f.1 ∙ k.1) ∙ ap is_floating_letter (sym byte_is) ∙ h.floating

  floating_kind : is_stuck (step (walk start before) b) ≡ false → floats (walk start before) b ≡ true → IsFloatingKind (before ++ b ∷ rest) (length before)
  floating_kind alive h =
      let k = floats_kind (walk start before) b h in
      record {
        stands = stands_by_test alive;
        kind = follows colon (ends_in_colon (Behind-at (kind k.0) before k.1));
        floating = ap is_floating_letter byte_is ∙ sym (ap (λ s. floats s b) k.1) ∙ h;
      }

  deepens_at : walk start before ≢ stuck → OpensTooDeep (before ++ b ∷ rest) (length before) → deepens (walk start before) b ≡ true
  deepens_at alive h =
      let is_open : b ≡ open_bracket = sym byte_is ∙ h.bracket in
      let n = opens_in_name (walk start before) (λ e. stands h.stands (ap (step (walk start before)) is_open ∙ e)) in
      let deep : length n.1 ≡ max_depth = sym (ap depth n.2) ∙ sym (open_brackets-walk before alive) ∙ ap open_brackets (sym front_is) ∙ h.deep in
      ap (λ s. deepens s b) n.2 ∙ and_from (b == open_bracket) (length n.1 == max_depth) (eq-eqb b open_bracket is_open) (eq-eqb (length n.1) max_depth deep)

  opens_too_deep : walk start before ≢ stuck → is_stuck (step (walk start before) b) ≡ false → deepens (walk start before) b ≡ true → OpensTooDeep (before ++ b ∷ rest) (length before)
  opens_too_deep alive alive' h =
      let n = deepens_name (walk start before) b h in
      record {
        stands = stands_by_test alive';
        bracket = byte_is ∙ n.0;
        deep = ap open_brackets front_is ∙ open_brackets-walk before alive ∙ n.1;
      }

  listed_state : walk start before ≢ stuck → (names : List (List ℕ)) → StandBefore (before ++ b ∷ rest) (length before) names → (outer : Brackets) × (walk start before ≡ name_start (names ∷ outer))
  listed_state alive names (front, listed, e, l) =
      let w : walk start before ≡ walk (step (walk start front) open_bracket) listed = ap (walk start) (sym front_is ∙ e) ∙ walk-append start front (open_bracket ∷ listed) in
      let n = opens_in_name (walk start front) (λ stopped. alive (w ∙ ap (λ s. walk s listed) stopped ∙ walk-stuck listed)) in
      (named n.0 n.1, w ∙ ap (λ s. walk (step s open_bracket) listed) n.2 ∙ walk-listed l [] (named n.0 n.1))

  stand_before : (names : List (List ℕ)) (outer : Brackets) → walk start before ≡ name_start (names ∷ outer) → StandBefore (before ++ b ∷ rest) (length before) names
  stand_before names outer e =
      let l = list_behind (Behind-at (name_start (names ∷ outer)) before e) in
      (l.0, l.1, front_is ∙ l.2, l.3)

  full_at : walk start before ≢ stuck → IsOneTooMany (before ++ b ∷ rest) (length before) → is_full (walk start before) ≡ true
  full_at alive h =
      let s = listed_state alive h.full.0 h.full.1 in
      ap is_full s.1 ∙ eq-eqb (length h.full.0) max_properties h.full.2

  one_too_many : is_stuck (step (walk start before) b) ≡ false → is_full (walk start before) ≡ true → IsOneTooMany (before ++ b ∷ rest) (length before)
  one_too_many alive h =
      let f = full_state (walk start before) h in
      record { stands = stands_by_test alive; full = (f.0, stand_before f.0 f.1 f.2, f.3) }

  name_begins : walk start before ≢ stuck → (length before ≡ 0) ⊎ (Follows (before ++ b ∷ rest) (length before) open_bracket ⊎ Follows (before ++ b ∷ rest) (length before) comma)
      → (brackets : Brackets) × (walk start before ≡ name_start brackets)
  name_begins alive (inl e) = ([], ap (walk start) (nil_from_length before e))
  name_begins alive (inr (inl h)) =
      let f = followed open_bracket h in
      let n = open_name (walk start f.0) (alive_after f.0 open_bracket alive f.1) in
      (n.0, f.1 ∙ n.1)
  name_begins alive (inr (inr h)) =
      let f = followed comma h in
      let n = comma_name (walk start f.0) (alive_after f.0 comma alive f.1) in
      (n.0, f.1 ∙ n.1)

  long_at : walk start before ≢ stuck → BeginsTooLong (before ++ b ∷ rest) (length before) → is_long (walk start before) (b ∷ rest) ≡ true
  long_at alive h =
      let n = name_begins alive h.starts in
      let long : max_name < length (take_while is_name_byte (b ∷ rest)) = let P : List ℕ → Type 0 = λ w. max_name < length w in subst P name_is h.long in
      ap (λ s. is_long s (b ∷ rest)) n.1 ∙ lt-ltb max_name (length (take_while is_name_byte (b ∷ rest))) long

  begins_too_long : is_stuck (step (walk start before) b) ≡ false → is_long (walk start before) (b ∷ rest) ≡ true → BeginsTooLong (before ++ b ∷ rest) (length before)
  begins_too_long alive h =
      let n = long_state (walk start before) (b ∷ rest) h in
      record {
        stands = stands_by_test alive;
        starts = ⊎_elim (λ e. inl (ap length e)) (λ e. inr (⊎_elim (λ o. inl (follows open_bracket o)) (λ c. inr (follows comma c)) e)) (ends_before_name (Behind-at (name_start n.0) before n.1));
        long = let P : List ℕ → Type 0 = λ w. max_name < length w in subst P (sym name_is) n.2;
      }

  repeats_at : walk start before ≢ stuck → RepeatsName (before ++ b ∷ rest) (length before) → repeats (walk start before) (b ∷ rest) ≡ true
  repeats_at alive h =
      let s = listed_state alive h.before.0 h.before.1 in
      let held : Contains h.before.0 (take_while is_name_byte (b ∷ rest)) = subst (Contains h.before.0) name_is h.before.2 in
      ap (λ s. repeats s (b ∷ rest)) s.1 ∙ has_name-from h.before.0 (take_while is_name_byte (b ∷ rest)) held

  repeats_name : is_stuck (step (walk start before) b) ≡ false → repeats (walk start before) (b ∷ rest) ≡ true → RepeatsName (before ++ b ∷ rest) (length before)
  repeats_name alive h =
      let r = repeats_state (walk start before) (b ∷ rest) h in
      record { stands = stands_by_test alive; before = (r.0, stand_before r.0 r.1 r.2, subst (Contains r.0) (sym name_is) r.3) }

  -- what the six tests say of an offence at the place
  abbrev pub Tests : StructError → Type 0
  Tests f = Holds (is_stuck (step (walk start before) b)) (floats (walk start before) b) (deepens (walk start before) b) (is_full (walk start before)) (is_long (walk start before) (b ∷ rest)) (repeats (walk start before) (b ∷ rest)) f

  pub test_of_offence : walk start before ≢ stuck → (f : StructError) → place_of f ≡ length before → Offends (before ++ b ∷ rest) f → Tests f
  test_of_offence alive (Syntax p) e h = stuck_at_syntax (let P : ℕ → Type 0 = λ q. Offends (before ++ b ∷ rest) (Syntax q) in subst P e h)
  test_of_offence alive (Floating p) e h = let at : IsFloatingKind (before ++ b ∷ rest) (length before) = subst (IsFloatingKind (before ++ b ∷ rest)) e h in (not_stuck at.stands, floats_at alive at)
  test_of_offence alive (TooDeep p) e h = let at : OpensTooDeep (before ++ b ∷ rest) (length before) = subst (OpensTooDeep (before ++ b ∷ rest)) e h in (not_stuck at.stands, deepens_at alive at)
  test_of_offence alive (TooMany p) e h = let at : IsOneTooMany (before ++ b ∷ rest) (length before) = subst (IsOneTooMany (before ++ b ∷ rest)) e h in (not_stuck at.stands, full_at alive at)
  test_of_offence alive (TooLong p) e h = let at : BeginsTooLong (before ++ b ∷ rest) (length before) = subst (BeginsTooLong (before ++ b ∷ rest)) e h in (not_stuck at.stands, long_at alive at)
  test_of_offence alive (Repeated p) e h = let at : RepeatsName (before ++ b ∷ rest) (length before) = subst (RepeatsName (before ++ b ∷ rest)) e h in (not_stuck at.stands, repeats_at alive at)
  test_of_offence alive Memory e h = h

  pub offence_of_test : walk start before ≢ stuck → (f : StructError) → place_of f ≡ length before → Tests f → Offends (before ++ b ∷ rest) f
  offence_of_test alive (Syntax p) e h = let P : ℕ → Type 0 = λ q. Offends (before ++ b ∷ rest) (Syntax q) in subst P (sym e) (inl (wrong_byte alive h))
  offence_of_test alive (Floating p) e h = subst (IsFloatingKind (before ++ b ∷ rest)) (sym e) (floating_kind h.0 h.1)
  offence_of_test alive (TooDeep p) e h = subst (OpensTooDeep (before ++ b ∷ rest)) (sym e) (opens_too_deep alive h.0 h.1)
  offence_of_test alive (TooMany p) e h = subst (IsOneTooMany (before ++ b ∷ rest)) (sym e) (one_too_many h.0 h.1)
  offence_of_test alive (TooLong p) e h = subst (BeginsTooLong (before ++ b ∷ rest)) (sym e) (begins_too_long h.0 h.1)
  offence_of_test alive (Repeated p) e h = subst (RepeatsName (before ++ b ∷ rest)) (sym e) (repeats_name h.0 h.1)
  offence_of_test alive Memory e h = h
