-- One turn of the source: what is kept before it and after it.
pub use Rattle.row_edits.proofs.Rotating.{written}
use Rattle.std.proofs.Common.{◌≡◌, ◌≢◌, ◌==◌, ℕ, suc, ◌+◌, ◌<◌, ◌≤◌, ◌^◌, false, List, [], ◌∷◌, ◌++◌, length, get_or, map, drop, Option, Some, None, refl, ap, sym, subst, ◌∙◌, arith, inl, inr}
use Rattle.std.specs.List.{All, remove}
use Rattle.std.specs.Option.{ForSome}
use Rattle.std.proofs.lemmas.List.{map-id, length-map, get_or-map, take_all, drop_all, append-nil}
use Rattle.std.proofs.lemmas.Bool.{cases_lt}
use Rattle.std.proofs.lemmas.Bool.Decides.{nat_tests}
use Rattle.std.proofs.lemmas.List.Edits.{length-remove}
use Rattle.live.specs.declared.turn.Turn.{Turn}
use Rattle.live.specs.declared.op.WatchOp.{WatchOp}
use Rattle.std.specs.List.{AllPairs, position}
use Rattle.std.specs.declared.cmp.Ordering.TheVariants.{Less}
use Rattle.live.specs.Placing.{closed, opened, closed_by, opened_by, without}
use Rattle.live.specs.Watching.{passes, order, positions, placed, IsTurn, IsDue, goes_from, comes_to}
use Rattle.mk_value.specs.Limits.{max_rows}
use Rattle.relations.proofs.Ascending.{in_at}
use Rattle.live.proofs.Ops.{op_total, positions_few}
use Rattle.live.proofs.Picks.{ArePicked, AreOthers, picked_same, others_closed, picked_opened, picked_from_others, opened_closed}
use Rattle.relations.specs.Positions.{place_cmp}
use Rattle.live.proofs.Placing.{picked_positions, others_placed, pairs_from_ascends, position_absent}
use Rattle.mk_value.specs.Heading.{Attribute}
use Rattle.mk_value.specs.Data.{Datum}

-- what is kept once the row that goes is out, by its new numbers
pub gone_picked : (schema : List Attribute) (op : WatchOp) (old : List (List Datum)) (from : Option ℕ) → ForSome from (λ p. p < length old)
    → ArePicked (passes schema op) (order schema op) [] (without from old) (map (closed_by from) (without (placed (positions schema op old) from) (positions schema op old)))
gone_picked schema op old None there = subst (ArePicked (passes schema op) (order schema op) [] old) (sym (map-id (positions schema op old))) (picked_positions schema op old)
gone_picked schema op old (Some p) there =
    others_closed (passes schema op) (order schema op) (op_total schema op) [] old p (there p refl) (without (placed (positions schema op old) (Some p)) (positions schema op old))
    (others_placed schema op old (positions schema op old) p (picked_positions schema op old))

pub gone : (schema : List Attribute) (op : WatchOp) (old new : List (List Datum)) (turn : Turn) → IsTurn turn old new
    → map (closed_by (goes_from turn)) (without (placed (positions schema op old) (goes_from turn)) (positions schema op old)) ≡ positions schema op (without (comes_to turn) new)
gone schema op old new turn h =
    picked_same (passes schema op) (order schema op) (op_total schema op) [] (without (comes_to turn) new) _ (positions schema op (without (comes_to turn) new))
    (subst (λ rows. ArePicked (passes schema op) (order schema op) [] rows (map (closed_by (goes_from turn)) (without (placed (positions schema op old) (goes_from turn)) (positions schema op old)))) h.rest (gone_picked schema op old (goes_from turn) h.went))
    (picked_positions schema op (without (comes_to turn) new))

-- the row that changes is not among the others
pub others_apart : (schema : List Attribute) (op : WatchOp) (rows : List (List Datum)) (p : ℕ) → All (λ k. k ≢ p) (without (placed (positions schema op rows) (Some p)) (positions schema op rows))
others_apart schema op rows p i d q =
    ((others_placed schema op rows (positions schema op rows) p (picked_positions schema op rows)).inside (get_or (without (placed (positions schema op rows) (Some p)) (positions schema op rows)) i d)
    (in_at (without (placed (positions schema op rows) (Some p)) (positions schema op rows)) i d q)).2

-- all numbers are small
pub positions_in : (schema : List Attribute) (op : WatchOp) (rows : List (List Datum)) → All (λ k. k < length rows) (positions schema op rows)
positions_in schema op rows i d q = ((picked_positions schema op rows).inside (get_or (positions schema op rows) i d) (in_at (positions schema op rows) i d q)).0

-- moved down and up again
pub map_back : (p : ℕ) (xs : List ℕ) → All (λ k. k ≢ p) xs → map (opened p) (map (closed p) xs) ≡ xs
map_back p [] apart = refl
map_back p (x ∷ xs) apart =
    ap (λ y. y ∷ map (opened p) (map (closed p) xs)) (opened_closed p x (apart 0 x (omega arith)))
    ∙ ap (λ ys. x ∷ ys) (map_back p xs (λ i d q. apart (suc i) d (omega arith)))

-- what is kept of the other rows, before the row that has come is put in
module _ (schema : List Attribute) (op : WatchOp) (rows : List (List Datum)) (kept : List ℕ) (row : ℕ) (there : row < length rows) (is : kept ≡ map (opened row) (positions schema op (remove rows row))) where
  pub entered : AreOthers (passes schema op) (order schema op) [] rows row kept
  entered =
      subst (AreOthers (passes schema op) (order schema op) [] rows row) (sym is)
      (picked_opened (passes schema op) (order schema op) (op_total schema op) [] rows row there (positions schema op (remove rows row)) (picked_positions schema op (remove rows row)))

  pub entered_in : All (λ k. k < length rows) kept
  entered_in i d q = (entered.inside (get_or kept i d) (in_at kept i d q)).0

  pub entered_order : AllPairs (λ i j. place_cmp (order schema op) [] rows i j ≡ Less) kept
  entered_order = pairs_from_ascends (place_cmp (order schema op) [] rows) kept entered.ascends

  pub entered_few : length kept + 1 ≤ length rows
  entered_few =
      let a = ap length is ∙ length-map (positions schema op (remove rows row)) (opened row) in
      let b = positions_few schema op (remove rows row) in
      let c = length-remove rows row there in
      omega arith

  pub left_out : passes schema op (get_or rows row []) ≡ false → kept ≡ positions schema op rows
  left_out fails =
      picked_same (passes schema op) (order schema op) (op_total schema op) [] rows kept (positions schema op rows)
      (picked_from_others (passes schema op) (order schema op) (op_total schema op) [] rows row kept entered fails) (picked_positions schema op rows)

  pub left_out_place : position (λ k. k == row) kept ≡ None
  left_out_place = position_absent row kept (λ h. (entered.inside row h).2 refl)

closed_le : (p k : ℕ) → closed p k ≤ k
closed_le p k = grind (arith, nat_tests)

pub closed_small : (p : ℕ) (xs : List ℕ) → All (λ k. k + 1 < 2 ^ 32) xs → All (λ k. k + 1 < 2 ^ 32) (map (closed p) xs)
closed_small p xs small i d q =
    let long = length-map xs (closed p) in
    let one : i < length xs = omega arith in
    let two = small i 0 one in
    let three = closed_le p (get_or xs i 0) in
    subst (λ k. k + 1 < 2 ^ 32) (sym (get_or-map (closed p) xs i 0 d one)) (omega arith)

-- all numbers that are kept once the row that goes is out
gone_in : (schema : List Attribute) (op : WatchOp) (rows : List (List Datum)) (from : Option ℕ) → All (λ k. k < length rows) (without (placed (positions schema op rows) from) (positions schema op rows))
gone_in schema op rows None i d q = positions_in schema op rows i d q
gone_in schema op rows (Some p) i d q =
    ((others_placed schema op rows (positions schema op rows) p (picked_positions schema op rows)).inside (get_or (without (placed (positions schema op rows) (Some p)) (positions schema op rows)) i d)
    (in_at (without (placed (positions schema op rows) (Some p)) (positions schema op rows)) i d q)).0

length-without : {X : Type 0} (from : Option ℕ) (xs : List X) → length xs ≤ length (without from xs) + 1
length-without None xs = omega arith
length-without (Some p) xs = elim (cases_lt p (length xs)) [
  | inl q ↦ let e = length-remove xs p q in omega arith
  | inr q ↦
      let e : remove xs p ≡ xs = ap (λ ys. ys ++ drop (suc p) xs) (take_all p xs q) ∙ ap (λ ys. xs ++ ys) (drop_all (suc p) xs (omega arith)) ∙ append-nil xs in
      let f = ap length e in
      omega arith
]

length-within : {X : Type 0} (to : Option ℕ) (xs : List X) → length (without to xs) ≤ length xs
length-within None xs = omega arith
length-within (Some p) xs = elim (cases_lt p (length xs)) [
  | inl q ↦ let e = length-remove xs p q in omega arith
  | inr q ↦
      let e : remove xs p ≡ xs = ap (λ ys. ys ++ drop (suc p) xs) (take_all p xs q) ∙ ap (λ ys. xs ++ ys) (drop_all (suc p) xs (omega arith)) ∙ append-nil xs in
      let f = ap length e in
      omega arith
]

module _ (schema : List Attribute) (op : WatchOp) (kept : List ℕ) (turn : Turn) (rows : List (List Datum)) (going : Option ℕ) (few : length rows ≤ max_rows) (h : IsDue schema op kept turn rows) (noted : going ≡ placed kept (goes_from turn)) where
  left : without going kept ≡ without (placed (positions schema op h.before) (goes_from turn)) (positions schema op h.before)
  left = ap (λ o. without o kept) noted ∙ ap (λ ks. without (placed ks (goes_from turn)) ks) h.now

  pub due_small : (ks : List ℕ) → ks ≡ without going kept → All (λ k. k + 1 < 2 ^ 32) ks
  due_small ks e i d q =
      let inside = subst (λ xs. All (λ k. k < length h.before) xs) (sym (e ∙ left)) (gone_in schema op h.before (goes_from turn)) in
      let a = inside i d q in
      let b = length-without (goes_from turn) h.before in
      let c = ap length h.made.rest in
      let f = length-within (comes_to turn) rows in
      omega arith

  pub due_apart : (ks : List ℕ) → ks ≡ without going kept → (p : ℕ) → goes_from turn ≡ Some p → All (λ k. k ≢ p) ks
  due_apart ks e p same =
      subst (λ xs. All (λ k. k ≢ p) xs) (sym (e ∙ left ∙ ap (λ o. without (placed (positions schema op h.before) o) (positions schema op h.before)) same)) (others_apart schema op h.before p)

  before_few : length h.before ≤ length rows + 1
  before_few =
      let b = length-without (goes_from turn) h.before in
      let c = ap length h.made.rest in
      let f = length-within (comes_to turn) rows in
      omega arith

  pub due_went : ForSome (goes_from turn) (λ p. p < 2 ^ 32)
  due_went p e = let a = h.made.went p e in let b = before_few in omega arith

  pub due_came : (size : ℕ) → size ≡ length rows → ForSome (comes_to turn) (λ p. p < size)
  due_came size is p e = let a = h.made.came p e in omega arith

  -- the numbers once the row that goes is out are those of the rows without the one that comes
  pub due_within : (ks : List ℕ) → ks ≡ without going kept → (size : ℕ) → size ≡ length rows → ForSome (comes_to turn) (λ p. All (λ k. k + 1 < size) (map (closed_by (goes_from turn)) ks))
  due_within ks e size is p some i d q =
      let others : List (List Datum) = without (comes_to turn) rows in
      let same : map (closed_by (goes_from turn)) ks ≡ positions schema op others = ap (map (closed_by (goes_from turn))) (e ∙ left) ∙ gone schema op h.before rows turn h.made in
      let inside = subst (λ (xs : List ℕ). All (λ k. k < length others) xs) (sym same) (positions_in schema op others) i d q in
      let few : length others + 1 ≡ length rows = ap (λ o. length (without o rows) + 1) some ∙ length-remove rows p (h.made.came p some) in
      omega arith

  pub due_renumbered : (ks : List ℕ) → ks ≡ without going kept → map (opened_by (comes_to turn)) (map (closed_by (goes_from turn)) ks) ≡ map (opened_by (comes_to turn)) (positions schema op (without (comes_to turn) rows))
  due_renumbered ks e = ap (λ xs. map (opened_by (comes_to turn)) (map (closed_by (goes_from turn)) xs)) (e ∙ left) ∙ ap (map (opened_by (comes_to turn))) (gone schema op h.before rows turn h.made)

  pub due_still : (ks : List ℕ) → ks ≡ without going kept → comes_to turn ≡ None → map (opened_by (comes_to turn)) (map (closed_by (goes_from turn)) ks) ≡ positions schema op rows
  due_still ks e none = due_renumbered ks e ∙ ap (λ o. map (opened_by o) (positions schema op (without o rows))) none ∙ map-id (positions schema op rows)

  pub due_some : (ks : List ℕ) → ks ≡ without going kept → (row : ℕ) → comes_to turn ≡ Some row
      → map (opened_by (comes_to turn)) (map (closed_by (goes_from turn)) ks) ≡ map (opened row) (positions schema op (remove rows row))
  due_some ks e row some = due_renumbered ks e ∙ ap (λ o. map (opened_by o) (positions schema op (without o rows))) some
