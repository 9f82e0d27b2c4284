-- Watches beside their names.
use Rattle.std.proofs.Common.{◌≡◌, ℕ, zero, suc, ◌+◌, ◌<◌, ◌||◌, Bool, true, false, cond, not, List, [], ◌∷◌, ◌++◌, length, get_or, map, Some, refl, ap, ◌∙◌, arith}
use Rattle.std.specs.Prelude.{find, remove}
use Rattle.std.specs.List.{list_any, position_or_len}
use Rattle.mk_value.specs.Names.{same_bytes}
use Rattle.live.specs.Putting.{closed_source}
use Rattle.live.specs.States.{WatchState}
use Rattle.watches.specs.Lines.{HaveFollowed, raised_by}
use Rattle.watches.specs.Keeping.{shown_by}
use Rattle.watches.specs.Watches.{Shown, is_among, moved_in, op_in, place_of}

-- a watch by its name
abbrev pub beside : List ℕ → WatchState → Shown
beside name w = record { name = name; source = w.source; op = w.op; followed = w.followed }

pub shown_length : (names : List (List ℕ)) (watches : List WatchState) → length names ≡ length watches → length (shown_by names watches) ≡ length names
shown_length [] [] e = refl
shown_length [] (w ∷ watches) e = absurd (omega arith)
shown_length (n ∷ names) [] e = absurd (omega arith)
shown_length (n ∷ names) (w ∷ watches) e = ap suc (shown_length names watches (omega arith))

pub shown_names : (names : List (List ℕ)) (watches : List WatchState) → length names ≡ length watches → map (λ (s : Shown). s.name) (shown_by names watches) ≡ names
shown_names [] [] e = refl
shown_names [] (w ∷ watches) e = absurd (omega arith)
shown_names (n ∷ names) [] e = absurd (omega arith)
shown_names (n ∷ names) (w ∷ watches) e = ap (λ ns. n ∷ ns) (shown_names names watches (omega arith))

-- a name is among the names, at a place
pub among_names : (names : List (List ℕ)) (watches : List WatchState) (name : List ℕ) → length names ≡ length watches → is_among (shown_by names watches) name ≡ list_any (λ known. same_bytes known name) names
among_names [] [] name e = refl
among_names [] (w ∷ watches) name e = absurd (omega arith)
among_names (n ∷ names) [] name e = absurd (omega arith)
among_names (n ∷ names) (w ∷ watches) name e = ap (λ b. same_bytes n name || b) (among_names names watches name (omega arith))

pub place_names : (names : List (List ℕ)) (watches : List WatchState) (name : List ℕ) → length names ≡ length watches → place_of (shown_by names watches) name ≡ position_or_len (λ known. same_bytes known name) names
place_names [] [] name e = refl
place_names [] (w ∷ watches) name e = absurd (omega arith)
place_names (n ∷ names) [] name e = absurd (omega arith)
place_names (n ∷ names) (w ∷ watches) name e = ap (λ k. cond (not (same_bytes n name)) (1 + k) 0) (place_names names watches name (omega arith))

-- the watch at a place
pub shown_source : (names : List (List ℕ)) (watches : List WatchState) (k : ℕ) (s : Shown) (d : WatchState) → length names ≡ length watches → k < length names
    → get_or (shown_by names watches) k s ≡ beside (get_or names k []) (get_or watches k d)
shown_source [] watches k s d e p = absurd (omega arith)
shown_source (n ∷ names) [] k s d e p = absurd (omega arith)
shown_source (n ∷ names) (w ∷ watches) zero s d e p = refl
shown_source (n ∷ names) (w ∷ watches) (suc k) s d e p = shown_source names watches k s d (omega arith) (omega arith)

-- a name and its watch put behind the others
pub shown_push : (names : List (List ℕ)) (watches : List WatchState) (n : List ℕ) (w : WatchState) → length names ≡ length watches → shown_by (names ++ n ∷ []) (watches ++ w ∷ []) ≡ shown_by names watches ++ beside n w ∷ []
shown_push [] [] n w e = refl
shown_push [] (v ∷ watches) n w e = absurd (omega arith)
shown_push (m ∷ names) [] n w e = absurd (omega arith)
shown_push (m ∷ names) (v ∷ watches) n w e = ap (λ ss. beside m v ∷ ss) (shown_push names watches n w (omega arith))

-- a name and its watch taken out
shown_remove : (names : List (List ℕ)) (watches : List WatchState) (j : ℕ) → length names ≡ length watches → shown_by (remove names j) (remove watches j) ≡ remove (shown_by names watches) j
shown_remove [] [] zero e = refl
shown_remove [] [] (suc j) e = refl
shown_remove [] (w ∷ watches) j e = absurd (omega arith)
shown_remove (n ∷ names) [] j e = absurd (omega arith)
shown_remove (n ∷ names) (w ∷ watches) zero e = refl
shown_remove (n ∷ names) (w ∷ watches) (suc j) e = ap (λ ss. beside n w ∷ ss) (shown_remove names watches j (omega arith))

shown_closed : (j : ℕ) (names : List (List ℕ)) (watches : List WatchState) → shown_by names (map (closed_source j) watches) ≡ map (moved_in j) (shown_by names watches)
shown_closed j [] watches = refl
shown_closed j (n ∷ names) [] = refl
shown_closed j (n ∷ names) (w ∷ watches) = ap (λ ss. beside n (closed_source j w) ∷ ss) (shown_closed j names watches)

pub shown_left : (names : List (List ℕ)) (watches : List WatchState) (j : ℕ) → length names ≡ length watches
    → shown_by (remove names j) (map (closed_source j) (remove watches j)) ≡ map (moved_in j) (remove (shown_by names watches) j)
shown_left names watches j e = shown_closed j (remove names j) (remove watches j) ∙ ap (map (moved_in j)) (shown_remove names watches j e)

-- watches that have followed events
pub shown_followed : (n : ℕ) (names : List (List ℕ)) (old new : List WatchState) → HaveFollowed n old new
    → shown_by names new ≡ map (λ (s : Shown). record s { followed = raised_by n s.followed }) (shown_by names old)
shown_followed n [] old new h = refl
shown_followed n (m ∷ names) [] [] h = refl
shown_followed n (m ∷ names) [] (w ∷ new) h = absurd (let e = h.long in omega arith)
shown_followed n (m ∷ names) (v ∷ old) [] h = absurd (let e = h.long in omega arith)
shown_followed n (m ∷ names) (v ∷ old) (w ∷ new) h =
    let e = h.long in
    let one = h.each 0 v (omega arith) in
    let s : Shown = beside m v in
    let here : beside m w ≡ record s { followed = raised_by n s.followed } =
    ap (λ o. record { name = m; source = o; op = w.op; followed = w.followed }) one.source
    ∙ ap (λ o. record { name = m; source = v.source; op = o; followed = w.followed }) one.op
    ∙ ap (λ f. record { name = m; source = v.source; op = v.op; followed = f }) one.followed in
    ap (λ x. x ∷ shown_by names new) here
    ∙ ap (λ ss. record s { followed = raised_by n s.followed } ∷ ss) (shown_followed n names old new (record { long = omega arith; each = λ k d p. h.each (suc k) d (omega arith) }))

op_cases : (name n : List ℕ) (w : WatchState) (rest : List Shown) (watches : List WatchState) (d : WatchState) (b : Bool)
    → (is_among rest name ≡ true → op_in (find (λ (s : Shown). same_bytes s.name name) rest) ≡ Some (get_or watches (place_of rest name) d).op) → (b || is_among rest name) ≡ true
    → op_in (cond b (Some (beside n w)) (find (λ (s : Shown). same_bytes s.name name) rest)) ≡ Some (get_or (w ∷ watches) (cond (not b) (1 + place_of rest name) 0) d).op
op_cases name n w rest watches d true more h = refl
op_cases name n w rest watches d false more h =
    let k = place_of rest name in
    more h ∙ ap (λ i. Some (get_or (w ∷ watches) i d).op) (let e : suc k ≡ 1 + k = omega arith in e)

-- what the first watch of a name shows
pub shown_op : (names : List (List ℕ)) (watches : List WatchState) (name : List ℕ) (d : WatchState) → length names ≡ length watches → is_among (shown_by names watches) name ≡ true
    → op_in (find (λ (s : Shown). same_bytes s.name name) (shown_by names watches)) ≡ Some (get_or watches (place_of (shown_by names watches) name) d).op
shown_op [] watches name d e h = cc
shown_op (n ∷ names) [] name d e h = absurd (omega arith)
shown_op (n ∷ names) (w ∷ watches) name d e h = op_cases name n w (shown_by names watches) watches d (same_bytes n name) (shown_op names watches name d (omega arith)) h
