-- What a walk that isn't stuck has behind it, and that it can end well.
use Rattle.std.proofs.Common.{◌≡◌, ◌≢◌, ◌⊎◌, ℕ, true, List, [], ◌∷◌, ◌++◌, refl, sym, ◌∙◌, ap, inl, inr, append_assoc, append-nil, subst}
use Rattle.std.specs.List.{list_all}
use Rattle.std.proofs.lemmas.Bool.{and_from, and_parts, or_cases}
use Rattle.mk_value.specs.Names.{is_name_byte}
use Rattle.struct_text.specs.Bytes.{open_bracket, close_bracket, colon, comma, is_plain_letter, is_floating_letter}
use Rattle.struct_text.specs.Grammar.{IsWord, IsLooseKind, letter, bracketed, AreLooseProperties, joined, AreListed, none, more, IsLoose, BeginsLoose}
use Rattle.struct_text.proofs.Walk.{Brackets, State, name_start, in_name, kind, after, stuck, step, walk, start, walk-append, walk-stuck, Steps, begins, goes_on, opens, has_kind, has_letter, next, closes, seen, walk-word, walk-bracketed}

-- Bytes up to a name whose bracket is open now: the view's name, or for each bracket the properties before and a name.
pub data Open : Brackets → List ℕ → Type 0 where
  view : (name : List ℕ) → IsWord name → Open [] name
  inner : (outer : Brackets) (front : List ℕ) (names : List (List ℕ)) (listed name : List ℕ) → Open outer front → AreListed names listed → IsWord name
      → Open ((names ++ name ∷ []) ∷ outer) (front ++ (open_bracket ∷ (listed ++ name)))

-- The bytes behind a walk, in each state.
pub data Behind : State → List ℕ → Type 0 where
  nothing : Behind (name_start []) []
  a_list : (outer : Brackets) (front : List ℕ) (names : List (List ℕ)) (listed : List ℕ) → Open outer front → AreListed names listed
      → Behind (name_start (names ∷ outer)) (front ++ (open_bracket ∷ listed))
  a_view : (name : List ℕ) → IsWord name → Behind (in_name name []) name
  a_name : (outer : Brackets) (front : List ℕ) (names : List (List ℕ)) (listed name : List ℕ) → Open outer front → AreListed names listed → IsWord name
      → Behind (in_name name (names ∷ outer)) (front ++ (open_bracket ∷ (listed ++ name)))
  a_colon : (outer : Brackets) (front : List ℕ) (names : List (List ℕ)) (listed name : List ℕ) → Open outer front → AreListed names listed → IsWord name
      → Behind (kind ((names ++ name ∷ []) ∷ outer)) (front ++ (open_bracket ∷ (listed ++ (name ++ colon ∷ []))))
  a_property : (outer : Brackets) (front : List ℕ) (names : List (List ℕ)) (listed name bytes : List ℕ) → Open outer front → AreListed names listed → IsWord name → IsLooseKind bytes
      → Behind (after ((names ++ name ∷ []) ∷ outer)) (front ++ (open_bracket ∷ (listed ++ (name ++ bytes))))
  a_text : (text : List ℕ) → IsLoose text → Behind (after []) text
  no_way : (text : List ℕ) → Behind stuck text

as_bytes : (s : State) (u v : List ℕ) → u ≡ v → Behind s u → Behind s v
as_bytes s u v e h = let P : List ℕ → Type 0 = λ x. Behind s x in subst P e h

all_push : (bytes : List ℕ) (b : ℕ) → list_all is_name_byte bytes ≡ true → is_name_byte b ≡ true → list_all is_name_byte (bytes ++ b ∷ []) ≡ true
all_push [] b h e = and_from (is_name_byte b) true e refl
all_push (c ∷ bytes) b h e =
    let parts = and_parts (is_name_byte c) (list_all is_name_byte bytes) h in
    and_from (is_name_byte c) (list_all is_name_byte (bytes ++ b ∷ [])) parts.0 (all_push bytes b parts.1 e)

-- a name with one more byte
IsWord-push : (name : List ℕ) (b : ℕ) → IsWord name → is_name_byte b ≡ true → IsWord (name ++ b ∷ [])
IsWord-push [] b h e = absurd h
IsWord-push (c ∷ cs) b h e = (h.0, all_push cs b h.1 e)

-- A bracket closes: what it holds is the kind of the name before it.
closed : {outer : Brackets} {front : List ℕ} → Open outer front → (properties : List ℕ) → AreLooseProperties properties
    → Behind (after outer) (front ++ (open_bracket ∷ (properties ++ close_bracket ∷ [])))
closed (view name word) properties loose = a_text _ (name, properties, record { named = word; body = loose; spelled = refl })
closed (inner outer front names listed name opened before word) properties loose =
    as_bytes _ _ _ (simp append_assoc) (a_property outer front names listed name (open_bracket ∷ (properties ++ close_bracket ∷ [])) opened before word (bracketed properties loose))

behind_step : {s : State} {b : ℕ} {t : State} {u : List ℕ} → Steps s b t → Behind s u → Behind t (u ++ b ∷ [])
behind_step (begins brackets b e) nothing = a_view (b ∷ []) (e, refl)
behind_step (begins brackets b e) (a_list outer front names listed opened before) =
    as_bytes _ _ _ (simp append_assoc) (a_name outer front names listed (b ∷ []) opened before (e, refl))
behind_step (goes_on name brackets b e) (a_view _ word) = a_view (name ++ b ∷ []) (IsWord-push name b word e)
behind_step (goes_on name brackets b e) (a_name outer front names listed _ opened before word) =
    as_bytes _ _ _ (simp append_assoc) (a_name outer front names listed (name ++ b ∷ []) opened before (IsWord-push name b word e))
behind_step (opens name brackets) (a_view _ word) = a_list [] name [] [] (view name word) none
behind_step (opens name brackets) (a_name outer front names listed _ opened before word) =
    a_list ((names ++ name ∷ []) ∷ outer) (front ++ (open_bracket ∷ (listed ++ name))) [] [] (inner outer front names listed name opened before word) none
behind_step (has_kind name _ _) (a_name outer front names listed _ opened before word) =
    as_bytes _ _ _ (simp append_assoc) (a_colon outer front names listed name opened before word)
behind_step (has_letter brackets b e) (a_colon outer front names listed name opened before word) =
    as_bytes _ _ _ (simp append_assoc) (a_property outer front names listed name (colon ∷ b ∷ []) opened before word (letter b (or_cases (is_plain_letter b) (is_floating_letter b) e)))
behind_step (next _ _) (a_property outer front names listed name bytes opened before word loose) =
    as_bytes _ _ _ (simp append_assoc) (a_list outer front (names ++ name ∷ []) (listed ++ (name ++ (bytes ++ comma ∷ []))) opened (more names listed name bytes before word loose))
behind_step (closes _ _) (a_property outer front names listed name bytes opened before word loose) =
    as_bytes _ _ _ (simp append_assoc) (closed opened (listed ++ (name ++ bytes)) (joined names listed name bytes before word loose))

behind_byte : (s : State) (b : ℕ) (u : List ℕ) → Behind s u → Behind (step s b) (u ++ b ∷ [])
behind_byte s b u h = go (step s b) (seen s b)
  where
    go : (t : State) → (t ≡ stuck) ⊎ Steps s b t → Behind t (u ++ b ∷ [])
    go t (inl e) = let P : State → Type 0 = λ x. Behind x (u ++ b ∷ []) in subst P (sym e) (no_way _)
    go t (inr steps) = behind_step steps h

behind_walk : (s : State) (v u : List ℕ) → Behind s u → Behind (walk s v) (u ++ v)
behind_walk s [] u h = as_bytes s _ _ (sym (append-nil u)) h
behind_walk s (b ∷ v) u h = as_bytes _ _ _ (append_assoc u (b ∷ []) v) (behind_walk (step s b) v (u ++ b ∷ []) (behind_byte s b u h))

-- what a walk from the start has behind it
pub behind : (u : List ℕ) → Behind (walk start u) u
behind u = behind_walk start u [] nothing

pub Behind-at : (s : State) (u : List ℕ) → walk start u ≡ s → Behind s u
Behind-at s u e = let P : State → Type 0 = λ x. Behind x u in subst P e (behind u)

loose_behind : {u : List ℕ} → Behind (after []) u → IsLoose u
loose_behind (a_text _ loose) = loose

-- A walk ends with every bracket closed exactly on loose texts.
pub loose_from_walk : (u : List ℕ) → walk start u ≡ after [] → IsLoose u
loose_from_walk u e = loose_behind (Behind-at (after []) u e)

pub walk_from_loose : (u : List ℕ) → IsLoose u → walk start u ≡ after []
walk_from_loose u (name, properties, h) =
    ap (walk start) h.spelled
    ∙ walk-append start name (open_bracket ∷ (properties ++ close_bracket ∷ []))
    ∙ ap (λ s. walk s (open_bracket ∷ (properties ++ close_bracket ∷ []))) (walk-word name [] h.named)
    ∙ walk-bracketed h.body []

-- Every state but the stuck one can end well.
abbrev closings : Brackets → List ℕ
closings [] = []
closings (names ∷ outer) = close_bracket ∷ closings outer

walk-closings : (brackets : Brackets) → walk (after brackets) (closings brackets) ≡ after []
walk-closings [] = refl
walk-closings (names ∷ outer) = walk-closings outer

pub ends_well : (s : State) → s ≢ stuck → (rest : List ℕ) × (walk s rest ≡ after [])
ends_well (name_start []) h = (97 ∷ 91 ∷ 97 ∷ 58 ∷ 73 ∷ 93 ∷ [], refl)
ends_well (name_start (names ∷ outer)) h = (97 ∷ 58 ∷ 73 ∷ closings (names ∷ outer), walk-closings outer)
ends_well (in_name name []) h = (91 ∷ 97 ∷ 58 ∷ 73 ∷ 93 ∷ [], refl)
ends_well (in_name name (names ∷ outer)) h = (58 ∷ 73 ∷ closings (names ∷ outer), walk-closings outer)
ends_well (kind brackets) h = (73 ∷ closings brackets, walk-closings brackets)
ends_well (after brackets) h = (closings brackets, walk-closings brackets)
ends_well stuck h = absurd (h refl)

-- Some loose text begins with the bytes exactly where the walk over them isn't stuck.
pub begins_from_walk : (u : List ℕ) → walk start u ≢ stuck → BeginsLoose u
begins_from_walk u h =
    let e = ends_well (walk start u) h in
    (e.0, loose_from_walk (u ++ e.0) (walk-append start u e.0 ∙ e.1))

pub walk_from_begins : (u : List ℕ) → BeginsLoose u → walk start u ≢ stuck
walk_from_begins u (rest, loose) stopped = absurd (after≢stuck (sym (walk_from_loose (u ++ rest) loose) ∙ walk-append start u rest ∙ ap (λ s. walk s rest) stopped ∙ walk-stuck rest))
  where
    after≢stuck : after [] ≡ stuck → ⊥
    after≢stuck e = cc
