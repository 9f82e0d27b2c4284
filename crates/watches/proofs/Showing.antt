-- What the watches of a view show, by name, is what is seen through them.
use Rattle.std.proofs.Common.{◌≡◌, ℕ, suc, ◌<◌, List, [], ◌∷◌, ◌++◌, length, get_or, Option, refl, ap, sym, subst, ◌∙◌, arith}
use Rattle.std.specs.Option.{ForSome}
use Rattle.std.proofs.lemmas.List.{append-nil, append_assoc, get_or_at, length-append, take_at}
use Rattle.mk_value.specs.Data.{Datum}
use Rattle.mk_value.specs.Heading.{Attribute}
use Rattle.relations.specs.Rows.{rows_at}
use Rattle.live.specs.Chains.{AreNow, along, depth, seen, source_depth, source_rows, watch_rows}
use Rattle.live.specs.Laws.{shown}
use Rattle.live.specs.States.{WatchState}
use Rattle.live.specs.Watching.{positions}
use Rattle.live.proofs.Answering as answering
use Rattle.live.proofs.Seeing.{seen_prefix}
use Rattle.watches.specs.Keeping.{shown_by}
use Rattle.watches.specs.Refusals.{depths}
use Rattle.watches.specs.Watches.{rows_shown}

-- each watch has the rows that it shows of its source
AreSeen : List Attribute → List (List Datum) → List (List (List Datum)) → List WatchState → Type 0
AreSeen schema rows done [] = Unit {0}
AreSeen schema rows done (w ∷ watches) =
    (watch_rows rows done w ≡ shown schema w.op (source_rows rows done w.source)) × AreSeen schema rows (done ++ watch_rows rows done w ∷ []) watches

rows_along : (schema : List Attribute) (rows : List (List Datum)) (done : List (List (List Datum))) (names : List (List ℕ)) (watches : List WatchState) → length names ≡ length watches
    → AreSeen schema rows done watches → rows_shown schema rows done (shown_by names watches) ≡ along (watch_rows rows) done watches
unfolding AreSeen
rows_along schema rows done [] [] e h = refl
rows_along schema rows done [] (w ∷ watches) e h = absurd (omega arith)
rows_along schema rows done (n ∷ names) [] e h = absurd (omega arith)
rows_along schema rows done (n ∷ names) (w ∷ watches) e h =
    ap (λ xs. xs ∷ rows_shown schema rows (done ++ xs ∷ []) (shown_by names watches)) (sym h.0)
    ∙ ap (λ xs. watch_rows rows done w ∷ xs) (rows_along schema rows (done ++ watch_rows rows done w ∷ []) names watches (omega arith) h.1)

along_push : {X : Type 0} (each : List X → WatchState → X) (done : List X) (watches : List WatchState) (w : WatchState)
    → along each done (watches ++ w ∷ []) ≡ along each done watches ++ each (done ++ along each done watches) w ∷ []
along_push each done [] w = ap (λ d. each d w ∷ []) (sym (append-nil done))
along_push each done (v ∷ watches) w =
    let x = each done v in
    let more = along each (done ++ x ∷ []) watches in
    ap (λ xs. x ∷ xs) (along_push each (done ++ x ∷ []) watches w ∙ ap (λ d. more ++ each d w ∷ []) (append_assoc done (x ∷ []) more))

seen_from : (schema : List Attribute) (rows : List (List Datum)) (front watches : List WatchState) → AreNow schema rows (front ++ watches)
    → AreSeen schema rows (along (watch_rows rows) [] front) watches
unfolding AreSeen
seen_from schema rows front [] h = tt
seen_from schema rows front (w ∷ watches) h =
    let all = front ++ w ∷ watches in
    let k = length front in
    let here : get_or all k w ≡ w = get_or_at front w watches w k refl in
    let long = length-append front (w ∷ watches) in
    let p : k < length all = omega arith in
    let below : ForSome w.source (λ s. s < k) = λ s e. h.sources k s w p (ap (λ (v : WatchState). v.source) here ∙ e) in
    let is_seen : seen rows front w.source ≡ seen rows all w.source =
    ap (λ ws. seen rows ws w.source) (sym (take_at front (w ∷ watches) k refl)) ∙ seen_prefix rows all k w.source below in
    let kept : w.kept ≡ positions schema w.op (seen rows all w.source) =
    subst (λ (v : WatchState). v.kept ≡ positions schema v.op (seen rows all v.source)) here (h.now k w p) in
    let shows : watch_rows rows (along (watch_rows rows) [] front) w ≡ shown schema w.op (seen rows front w.source) =
    ap (rows_at (seen rows front w.source)) (kept ∙ ap (positions schema w.op) (sym is_seen)) ∙ answering.rows_shown schema w.op (seen rows front w.source) in (
      shows,
      subst (λ done. AreSeen schema rows done watches) (along_push (watch_rows rows) [] front w)
          (seen_from schema rows (front ++ w ∷ []) watches (subst (AreNow schema rows) (sym (append_assoc front (w ∷ []) watches)) h)),
    )

-- the rows that each watch shows
pub rows_seen : (schema : List Attribute) (rows : List (List Datum)) (names : List (List ℕ)) (watches : List WatchState) → length names ≡ length watches → AreNow schema rows watches
    → rows_shown schema rows [] (shown_by names watches) ≡ along (watch_rows rows) [] watches
rows_seen schema rows names watches e h = rows_along schema rows [] names watches e (seen_from schema rows [] watches h)

pub seen_at_place : (schema : List Attribute) (rows : List (List Datum)) (names : List (List ℕ)) (watches : List WatchState) → length names ≡ length watches → AreNow schema rows watches
    → (over : Option ℕ) → source_rows rows (rows_shown schema rows [] (shown_by names watches)) over ≡ seen rows watches over
seen_at_place schema rows names watches e h over = ap (λ done. source_rows rows done over) (rows_seen schema rows names watches e h)

-- how deep a source stands
depths_along : (done : List ℕ) (names : List (List ℕ)) (watches : List WatchState) → length names ≡ length watches
    → depths done (shown_by names watches) ≡ along (λ done w. suc (source_depth done w.source)) done watches
depths_along done [] [] e = refl
depths_along done [] (w ∷ watches) e = absurd (omega arith)
depths_along done (n ∷ names) [] e = absurd (omega arith)
depths_along done (n ∷ names) (w ∷ watches) e =
    ap (λ ds. suc (source_depth done w.source) ∷ ds) (depths_along (done ++ suc (source_depth done w.source) ∷ []) names watches (omega arith))

pub depth_is : (names : List (List ℕ)) (watches : List WatchState) (over : Option ℕ) → length names ≡ length watches → source_depth (depths [] (shown_by names watches)) over ≡ depth watches over
depth_is names watches over e = ap (λ done. source_depth done over) (depths_along [] names watches e)
