-- What the first of the watches tell.
use Rattle.std.proofs.Common.{◌≡◌, ℕ, ◌+◌, ◌*◌, ◌<◌, ◌≤◌, List, [], ◌∷◌, ◌++◌, length, get_or, map, take, refl, ap, sym, ◌∙◌, arith}
use Rattle.std.proofs.lemmas.List.{append-nil, append_assoc, length-append, length-map, take_more}
use Rattle.live.specs.States.{WatchState}
use Rattle.live.specs.Telling.{events_of, told_as, told_by}
use Rattle.live.specs.declared.turn.Turn.{Turn}
use Rattle.live.specs.declared.turn.Turn.TheVariants.{Still, Comes, Goes, Changes, Moves}

-- at most two events a watch
pub two_events : (t : Turn) → length (events_of t) ≤ 2
two_events Still = omega arith
two_events (Comes q) = omega arith
two_events (Goes p) = omega arith
two_events (Changes p) = omega arith
two_events (Moves p q) = omega arith

told_append : (xs ys : List WatchState) → told_by (xs ++ ys) ≡ told_by xs ++ told_by ys
told_append [] ys = refl
told_append (x ∷ xs) ys =
    ap (λ ts. map (told_as x.number) (events_of x.turn) ++ ts) (told_append xs ys) ∙ sym (append_assoc (map (told_as x.number) (events_of x.turn)) (told_by xs) (told_by ys))

pub told_few : (watches : List WatchState) → length (told_by watches) ≤ 2 * length watches
told_few [] = omega arith
told_few (w ∷ watches) =
    let a = length-append (map (told_as w.number) (events_of w.turn)) (told_by watches) in
    let b = length-map (events_of w.turn) (told_as w.number) in
    let c = two_events w.turn in
    let d = told_few watches in
    omega arith

-- one watch more
pub told_more : (watches : List WatchState) (i : ℕ) (w : WatchState) → i < length watches → w ≡ get_or watches i w → told_by (take (i + 1) watches) ≡ told_by (take i watches) ++ map (told_as w.number) (events_of w.turn)
told_more watches i w p is =
    ap told_by (take_more watches i w p) ∙ told_append (take i watches) (get_or watches i w ∷ [])
    ∙ ap (λ (v : WatchState). told_by (take i watches) ++ (map (told_as v.number) (events_of v.turn) ++ [])) (sym is)
    ∙ ap (λ ts. told_by (take i watches) ++ ts) (append-nil (map (told_as w.number) (events_of w.turn)))
