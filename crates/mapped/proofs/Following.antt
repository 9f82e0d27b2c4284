-- The keys of rows over an event.
use Rattle.std.proofs.Common.{◌≡◌, ℕ, zero, suc, List, [], ◌∷◌, ◌++◌, get_or, set, map, take, drop, Option, Some, refl, ap, sym, ◌∙◌}
use Rattle.std.specs.List.{insert, remove}
use Rattle.std.proofs.lemmas.List.{map-append, take-map, drop-map, get_or-set_same}
use Rattle.std.proofs.lemmas.List.Edits.{get_or-insert_at}
use Rattle.mk_value.specs.Data.{Datum}
use Rattle.mapped.specs.declared.event.Event.{Event}
use Rattle.mapped.specs.declared.event.Event.TheVariants.{Insert, Remove, Change}
use Rattle.mapped.specs.Events.{keys_after, LeadsTo, IsKeyOfEvent}
use Rattle.mapped.specs.Keys.{keys_of}

module _ {X Y : Type 0} (f : X → Y) where
  map_insert : (xs : List X) (i : ℕ) (x : X) → map f (insert xs i x) ≡ insert (map f xs) i (f x)
  map_insert xs i x =
      map-append f (take i xs) (x ∷ drop i xs) ∙ ap (λ ys. ys ++ f x ∷ map f (drop i xs)) (sym (take-map f i xs)) ∙ ap (λ ys. take i (map f xs) ++ f x ∷ ys) (sym (drop-map f i xs))

  map_remove : (xs : List X) (i : ℕ) → map f (remove xs i) ≡ remove (map f xs) i
  map_remove xs i =
      map-append f (take i xs) (drop (suc i) xs) ∙ ap (λ ys. ys ++ map f (drop (suc i) xs)) (sym (take-map f i xs)) ∙ ap (λ ys. take i (map f xs) ++ ys) (sym (drop-map f (suc i) xs))

  map_set : (xs : List X) (i : ℕ) (x : X) → map f (set xs i x) ≡ set (map f xs) i (f x)
  map_set [] i x = refl
  map_set (y ∷ ys) zero x = refl
  map_set (y ∷ ys) (suc i) x = ap (λ zs. f y ∷ zs) (map_set ys i x)

-- what were the keys of the rows before are those of the rows after
pub rows_follow : (event : Event) (count : ℕ) (old new : List (List Datum)) (key : Option (List Datum)) → LeadsTo event old new → IsKeyOfEvent event count new key
    → keys_after event key (keys_of count old) ≡ keys_of count new
rows_follow (Insert at) count old new key leads is =
    let row = leads.1.0 in
    let here : get_or new at [] ≡ row = ap (λ rows. get_or rows at []) leads.1.1 ∙ get_or-insert_at old at row [] leads.0 in
    ap (λ k. keys_after (Insert at) k (keys_of count old)) (is ∙ ap (λ r. Some (take count r)) here)
    ∙ sym (ap (keys_of count) leads.1.1 ∙ map_insert (take count) old at row)
rows_follow (Remove at) count old new key leads is = sym (ap (keys_of count) leads.1 ∙ map_remove (take count) old at)
rows_follow (Change at) count old new key leads is =
    let row = leads.1.0 in
    let here : get_or new at [] ≡ row = ap (λ rows. get_or rows at []) leads.1.1 ∙ get_or-set_same old at row [] leads.0 in
    ap (λ k. keys_after (Change at) k (keys_of count old)) (is ∙ ap (λ r. Some (take count r)) here)
    ∙ sym (ap (keys_of count) leads.1.1 ∙ map_set (take count) old at row)
