-- What is seen through a watch, and where that stands in the root.
use Rattle.std.proofs.Common.{◌≡◌, ℕ, zero, suc, ◌<◌, ◌≤◌, ◌++◌, List, [], length, get_or, map, take, All, Option, Some, None, refl, ap, sym, subst, ◌∙◌, arith}
use Rattle.std.specs.Option.{ForSome}
use Rattle.std.proofs.lemmas.List.{get_or_append_left, get_or-map, get_or-take, length-map}
use Rattle.mk_value.specs.Data.{Datum}
use Rattle.relations.specs.Rows.{rows_at}
use Rattle.live.specs.Chains.{AreInOrder, AreInside, AreLinked, along, depth, place_in_root, seen, source_depth, source_place, source_rows, watch_places, watch_rows}
use Rattle.live.specs.States.{WatchState}
use Rattle.live.proofs.Along.{along_at, along_alike, prefix_along, some_watch}

-- how far a source is from the root
abbrev pub height : Option ℕ → ℕ
height None = 0
height (Some w) = suc w

pub height_below : (o : Option ℕ) (w : ℕ) → ForSome o (λ s. s < w) → height o ≤ w
height_below None w below = omega arith
height_below (Some s) w below = let a = below s refl in omega arith

-- what a watch shows rests on its source alone
rows_further : (rows : List (List Datum)) (done more : List (List (List Datum))) (w : WatchState) → ((s : ℕ) → w.source ≡ Some s → s < length done) → watch_rows rows done w ≡ watch_rows rows (done ++ more) w
rows_further rows done more w below = at w.source below
  where
    at : (o : Option ℕ) → ((s : ℕ) → o ≡ Some s → s < length done) → rows_at (source_rows rows done o) w.kept ≡ rows_at (source_rows rows (done ++ more) o) w.kept
    at None b = refl
    at (Some s) b = ap (λ xs. rows_at xs w.kept) (sym (get_or_append_left done more [] s (b s refl)))

places_further : (done more : List (List ℕ)) (w : WatchState) → ((s : ℕ) → w.source ≡ Some s → s < length done) → watch_places done w ≡ watch_places (done ++ more) w
places_further done more w below = at w.source below
  where
    at : (o : Option ℕ) → ((s : ℕ) → o ≡ Some s → s < length done) → map (source_place done o) w.kept ≡ map (source_place (done ++ more) o) w.kept
    at None b = refl
    at (Some s) b = ap (λ (xs : List ℕ). map (λ i. get_or xs i 0) w.kept) (sym (get_or_append_left done more [] s (b s refl)))

abbrev pub deeper : List ℕ → WatchState → ℕ
deeper done w = suc (source_depth done w.source)

depth_further : (done more : List ℕ) (w : WatchState) → ((s : ℕ) → w.source ≡ Some s → s < length done) → deeper done w ≡ deeper (done ++ more) w
depth_further done more w below = at w.source below
  where
    at : (o : Option ℕ) → ((s : ℕ) → o ≡ Some s → s < length done) → suc (source_depth done o) ≡ suc (source_depth (done ++ more) o)
    at None b = refl
    at (Some s) b = ap suc (sym (get_or_append_left done more 0 s (b s refl)))

-- the rows of a watch are those of its source at the positions that it keeps
pub seen_at : (rows : List (List Datum)) (watches : List WatchState) → AreInOrder watches → (k : ℕ) (d : WatchState) → k < length watches
    → seen rows watches (Some k) ≡ rows_at (seen rows watches (get_or watches k d).source) (get_or watches k d).kept
seen_at rows watches sources k d p = along_at (watch_rows rows) (rows_further rows) [] watches k [] d p (λ j s q e. let r = sources j s d q e in omega arith)

pub place_at : (watches : List WatchState) → AreInOrder watches → (k : ℕ) (d : WatchState) → k < length watches → (i : ℕ) → i < length (get_or watches k d).kept
    → place_in_root watches (Some k) i ≡ place_in_root watches (get_or watches k d).source (get_or (get_or watches k d).kept i 0)
place_at watches sources k d p i q =
    ap (λ (xs : List ℕ). get_or xs i 0) (along_at watch_places places_further [] watches k [] d p (λ j s r e. let t = sources j s d r e in omega arith))
    ∙ get_or-map (source_place (along watch_places [] watches) (get_or watches k d).source) (get_or watches k d).kept i 0 0 q

pub depth_at : (watches : List WatchState) → AreInOrder watches → (k : ℕ) (d : WatchState) → k < length watches → depth watches (Some k) ≡ suc (depth watches (get_or watches k d).source)
depth_at watches sources k d p = along_at deeper depth_further [] watches k 0 d p (λ j s q e. let r = sources j s d q e in omega arith)

-- what is seen through a watch rests on the watches before it alone
pub seen_prefix : (rows : List (List Datum)) (watches : List WatchState) (n : ℕ) (over : Option ℕ) → ForSome over (λ s. s < n) → seen rows (take n watches) over ≡ seen rows watches over
seen_prefix rows watches n None below = refl
seen_prefix rows watches n (Some s) below =
    ap (λ xs. get_or xs s []) (sym (prefix_along (watch_rows rows) [] n watches)) ∙ get_or-take n (along (watch_rows rows) [] watches) s [] (below s refl)

pub seen_alike : (rows : List (List Datum)) (xs ys : List WatchState) (n : ℕ) (over : Option ℕ) → take n xs ≡ take n ys → ForSome over (λ s. s < n) → seen rows xs over ≡ seen rows ys over
seen_alike rows xs ys n over e below = sym (seen_prefix rows xs n over below) ∙ ap (λ ws. seen rows ws over) e ∙ seen_prefix rows ys n over below

-- and on sources and kept positions alone
rows_alike : (rows : List (List Datum)) (done : List (List (List Datum))) (v w : WatchState) → v.source ≡ w.source → v.kept ≡ w.kept → watch_rows rows done v ≡ watch_rows rows done w
rows_alike rows done v w e f = ap (λ s. rows_at (source_rows rows done s) v.kept) e ∙ ap (rows_at (source_rows rows done w.source)) f

pub seen_same : (rows : List (List Datum)) (old new : List WatchState) → length new ≡ length old → ((k : ℕ) (d : WatchState) → k < length old → (get_or new k d).source ≡ (get_or old k d).source)
    → ((k : ℕ) (d : WatchState) → k < length old → (get_or new k d).kept ≡ (get_or old k d).kept) → (over : Option ℕ) → seen rows new over ≡ seen rows old over
seen_same rows old new long source kept over = ap (λ done. source_rows rows done over) (along_alike (watch_rows rows) (rows_alike rows) [] old new long source kept)

pub seen_size : (rows : List (List Datum)) (watches : List WatchState) (over : Option ℕ) → AreInOrder watches → (w : ℕ) (d : WatchState) → over ≡ Some w → w < length watches
    → length (seen rows watches over) ≡ length (get_or watches w d).kept
seen_size rows watches over sources w d e p =
    ap (λ o. length (seen rows watches o)) e ∙ ap length (seen_at rows watches sources w d p)
    ∙ length-map (get_or watches w d).kept (λ i. get_or (seen rows watches (get_or watches w d).source) i [])

-- positions are within their sources also where the root's rows are not looked at
pub linked_inside : (rows : List (List Datum)) (watches : List WatchState) → AreLinked rows watches → AreInside watches
linked_inside rows watches h = record {
  sources = h.sources;
  within = λ k s d e p is.
      let q = h.sources k s d p is in
      subst (λ n. All (λ i. i < n) (get_or watches k d).kept) (seen_size rows watches (get_or watches k d).source h.sources s e is (omega arith)) (h.within k d p);
}

-- a row stands in the root where its watches say
pub through : (rows : List (List Datum)) (watches : List WatchState) → AreLinked rows watches → (fuel : ℕ) (over : Option ℕ) (row : ℕ)
    → ForSome over (λ w. (w < length watches) × (w < fuel)) → row < length (seen rows watches over)
    → (place_in_root watches over row < length rows) × (get_or rows (place_in_root watches over row) [] ≡ get_or (seen rows watches over) row [])
through rows watches h fuel None row there q = (q, refl)
through rows watches h zero (Some w) row there q = absurd (let a = (there w refl).1 in omega arith)
through rows watches h (suc fuel) (Some w) row there q =
    let p = (there w refl).0 in
    let d = some_watch watches w p in
    let src = (get_or watches w d).source in
    let kept = (get_or watches w d).kept in
    let size = seen_size rows watches (Some w) h.sources w d refl p in
    let near : row < length kept = omega arith in
    let at : ℕ = get_or kept row 0 in
    let earlier : ForSome src (λ s. (s < length watches) × (s < fuel)) = λ s e. let a = h.sources w s d p e in let b = (there w refl).1 in (omega arith, omega arith) in
    let rest = through rows watches h fuel src at earlier (h.within w d p row 0 near) in
    let here = place_at watches h.sources w d p row near in (
      subst (λ n. n < length rows) (sym here) rest.0,
      ap (λ n. get_or rows n []) here ∙ rest.1
          ∙ sym (ap (λ xs. get_or xs row []) (seen_at rows watches h.sources w d p) ∙ get_or-map (λ i. get_or (seen rows watches src) i []) kept row 0 [] near),
    )
