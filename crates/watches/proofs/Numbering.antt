-- Watches that have numbers of their own.
use Rattle.std.proofs.Common.{◌≡◌, ◌≢◌, ◌==◌, ℕ, ◌<◌, true, false, List, [], ◌∷◌, ◌++◌, length, get_or, map, Option, refl, ap, sym, subst, ◌∙◌, arith}
use Rattle.std.specs.List.{remove}
use Rattle.std.proofs.lemmas.Bool.Decides.{nat_tests}
use Rattle.std.proofs.lemmas.List.{get_or-map, get_or_push, length-map, length_push}
use Rattle.std.proofs.lemmas.List.Folds.{list_any_at}
use Rattle.std.proofs.lemmas.List.Quantifiers.{all_pairs_push, all_pairs_remove}
use Rattle.std.proofs.lemmas.List.Sums.{position_or_len_is}
use Rattle.mk_value.specs.Data.{Datum}
use Rattle.mk_value.specs.Heading.{Attribute}
use Rattle.live.specs.Numbers.{is_taken, place_of}
use Rattle.live.specs.Putting.{IsPut, closed_source}
use Rattle.live.specs.States.{WatchState}
use Rattle.live.specs.declared.op.WatchOp.{WatchOp}
use Rattle.watches.specs.Groups.{AreNumbered}

other_number : (m n : ℕ) → m ≢ n → (m == n) ≡ false
other_number m n ne = grind (arith, nat_tests)

same_number : (m n : ℕ) → m ≡ n → (m == n) ≡ true
same_number m n e = grind (arith, nat_tests)

-- each stands at the place of its number
pub number_place : (watches : List WatchState) (k : ℕ) (d : WatchState) → AreNumbered watches → k < length watches → place_of watches (get_or watches k d).number ≡ k
number_place watches k d h p =
    let n = (get_or watches k d).number in
    position_or_len_is (λ (w : WatchState). w.number == n) watches k d (omega arith) (λ j q. other_number (get_or watches j d).number n (h j k d q p)) (λ q. same_number n n refl)

pub numbered_push : (watches : List WatchState) (w : WatchState) → AreNumbered watches → is_taken watches w.number ≡ false → AreNumbered (watches ++ w ∷ [])
numbered_push watches w h free =
    all_pairs_push (λ (a b : WatchState). a.number ≢ b.number) watches w h
    (λ k d q e. let taken = list_any_at (λ (v : WatchState). v.number == w.number) watches k d q (same_number (get_or watches k d).number w.number e) in cc)

pub numbered_same : (old new : List WatchState) → length new ≡ length old → ((k : ℕ) (d : WatchState) → k < length old → (get_or new k d).number ≡ (get_or old k d).number) → AreNumbered old → AreNumbered new
numbered_same old new long same h i j d p q e = h i j d p (omega arith) (sym (same i d (omega arith)) ∙ e ∙ same j d (omega arith))

pub numbered_left : (watches : List WatchState) (n : ℕ) → AreNumbered watches → n < length watches → AreNumbered (map (closed_source n) (remove watches n))
numbered_left watches n h p =
    let rest = remove watches n in
    numbered_same rest (map (closed_source n) rest) (length-map rest (closed_source n)) (λ k d q. ap (λ (w : WatchState). w.number) (get_or-map (closed_source n) rest k d d q))
    (all_pairs_remove (λ (a b : WatchState). a.number ≢ b.number) watches n p h)

-- one put behind the others stands there by its number
pub put_numbered : (schema : List Attribute) (rows : List (List Datum)) (old new : List WatchState) (source : Option ℕ) (op : WatchOp) (number : ℕ) → AreNumbered old → IsPut schema rows old source op new number
    → AreNumbered new × (place_of new number ≡ length old)
put_numbered schema rows old new source op number h put =
    let w = put.watch in
    let all = old ++ w ∷ [] in
    let numbered : AreNumbered all = numbered_push old w h (ap (is_taken old) put.numbered ∙ put.least.free) in
    let long = length_push old w in
    let here : get_or all (length old) w ≡ w = get_or_push old w w (length old) refl in
    let place : place_of all number ≡ length old =
    ap (place_of all) (sym (ap (λ (v : WatchState). v.number) here ∙ put.numbered)) ∙ number_place all (length old) w numbered (omega arith) in
    (subst AreNumbered (sym put.last) numbered, ap (λ ws. place_of ws number) put.last ∙ place)
