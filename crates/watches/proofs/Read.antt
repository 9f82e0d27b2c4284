-- The rows of a watch that are read in its view.
use Rattle.std.proofs.Common.{◌≡◌, ℕ, ◌<◌, List, [], length, get_or, Some, refl, subst, ◌∙◌, arith}
use Rattle.std.proofs.lemmas.List.{get_or_default}
use Rattle.live.specs.Chains.{AreNow, place_in_root, seen}
use Rattle.live.specs.States.{WatchState}
use Rattle.live.proofs.Leading.{row_stands}
use Rattle.live.proofs.Seeing.{seen_size}
use Rattle.live.proofs.Standing.{now_linked}
use Rattle.mk_value.specs.Data.{AreRowsOf, Datum, IsRowOf}
use Rattle.mk_value.specs.Heading.{Attribute}
use Rattle.watches.proofs.Grouped.{any_watch}

module _ (schema : List Attribute) (rows : List (List Datum)) (watches : List WatchState) (k : ℕ) (now : AreNow schema rows watches) (there : k < length watches) where
  -- as many as positions are kept
  pub size_read : (d : WatchState) → length (seen rows watches (Some k)) ≡ length (get_or watches k d).kept
  size_read d = seen_size rows watches (Some k) now.sources k d refl there

  pub row_kept : (row : ℕ) → row < length (seen rows watches (Some k)) → (d : WatchState) → row < length (get_or watches k d).kept
  row_kept row p d = subst (λ n. row < n) (size_read d) p

  pub row_read : (row : ℕ) → row < length (seen rows watches (Some k)) → (place_in_root watches (Some k) row < length rows) × (get_or rows (place_in_root watches (Some k) row) [] ≡ get_or (seen rows watches (Some k)) row [])
  row_read row p = row_stands schema rows watches k any_watch row now there (row_kept row p any_watch)

  -- rows of the view are rows of its schema
  pub rows_fit : AreRowsOf rows schema → AreRowsOf (seen rows watches (Some k)) schema
  rows_fit whole =
      let few = (now_linked schema rows watches now).few k any_watch there in
      let size = size_read any_watch in
      record {
        few = omega arith;
        whole = λ row d p.
            let read = row_read row p in
            subst (λ r. IsRowOf r schema) (read.1 ∙ get_or_default (seen rows watches (Some k)) row [] d p)
            (whole.whole (place_in_root watches (Some k) row) [] read.0);
      }
