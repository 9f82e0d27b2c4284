-- The watches of views, as a list: one put, one taken out, and how many there are.
use Rattle.std.proofs.Common.{◌≡◌, ℕ, zero, suc, Bool, false, cond, List, [], ◌∷◌, ◌++◌, get_or, set, refl, ap, ◌∙◌, arith}
use Rattle.std.specs.Prelude.{remove}
use Rattle.std.specs.List.{All}
use Rattle.mk_value.specs.Names.{same_bytes}
use Rattle.watches.specs.Watches.{Followed, Shown, is_among, listed, place_of, with_watch, without_place, without_watch}
use Rattle.watches.proofs.Finding.{IsFirstAt, later}

-- the watches of no view
abbrev pub no_watches : Followed
no_watches = record { view = []; watches = [] }

abbrev pub is_of : List ℕ → Followed → Bool
is_of view f = same_bytes f.view view

abbrev pub has : List ℕ → Followed → Bool
has name f = is_among f.watches name

pub put_at : (all : List Followed) (view : List ℕ) (s : Shown) (at : ℕ) → IsFirstAt (is_of view) all at
    → with_watch all view s ≡ set all at (let f = get_or all at no_watches in record f { watches = f.watches ++ s ∷ [] })
put_at [] view s at h = absurd (let within = h.within in omega arith)
put_at (f ∷ all) view s zero h = ap (λ b. cond b (record f { watches = f.watches ++ s ∷ [] } ∷ all) (f ∷ with_watch all view s)) (h.here f)
put_at (f ∷ all) view s (suc at) h =
    ap (λ b. cond b (record f { watches = f.watches ++ s ∷ [] } ∷ all) (f ∷ with_watch all view s)) (h.before f 0 (omega arith))
    ∙ ap (λ fs. f ∷ fs) (put_at all view s at (later (is_of view) f all at h))

pub put_last : (all : List Followed) (view : List ℕ) (s : Shown) → All (λ f. is_of view f ≡ false) all → with_watch all view s ≡ all ++ record { view = view; watches = s ∷ [] } ∷ []
put_last [] view s h = refl
put_last (f ∷ all) view s h =
    ap (λ b. cond b (record f { watches = f.watches ++ s ∷ [] } ∷ all) (f ∷ with_watch all view s)) (h 0 f (omega arith))
    ∙ ap (λ fs. f ∷ fs) (put_last all view s (λ k d q. h (suc k) d (omega arith)))

-- the watches of a view once the first of a name is out
abbrev pub left_of : List ℕ → Followed → List Shown
left_of name f = without_place (place_of f.watches name) f.watches

pub taken_some : (all : List Followed) (name : List ℕ) (at : ℕ) → IsFirstAt (has name) all at → (s : Shown) (rest : List Shown) → left_of name (get_or all at no_watches) ≡ s ∷ rest
    → without_watch all name ≡ set all at (let f = get_or all at no_watches in record f { watches = s ∷ rest })
taken_some [] name at h s rest e = absurd (let within = h.within in omega arith)
taken_some (f ∷ all) name zero h s rest e =
    ap (λ b. cond b (listed f.view (left_of name f) all) (f ∷ without_watch all name)) (h.here f) ∙ ap (λ ws. listed f.view ws all) e
taken_some (f ∷ all) name (suc at) h s rest e =
    ap (λ b. cond b (listed f.view (left_of name f) all) (f ∷ without_watch all name)) (h.before f 0 (omega arith))
    ∙ ap (λ fs. f ∷ fs) (taken_some all name at (later (has name) f all at h) s rest e)

pub taken_all : (all : List Followed) (name : List ℕ) (at : ℕ) → IsFirstAt (has name) all at → left_of name (get_or all at no_watches) ≡ [] → without_watch all name ≡ remove all at
taken_all [] name at h e = absurd (let within = h.within in omega arith)
taken_all (f ∷ all) name zero h e =
    ap (λ b. cond b (listed f.view (left_of name f) all) (f ∷ without_watch all name)) (h.here f) ∙ ap (λ ws. listed f.view ws all) e
taken_all (f ∷ all) name (suc at) h e =
    ap (λ b. cond b (listed f.view (left_of name f) all) (f ∷ without_watch all name)) (h.before f 0 (omega arith))
    ∙ ap (λ fs. f ∷ fs) (taken_all all name at (later (has name) f all at h) e)
