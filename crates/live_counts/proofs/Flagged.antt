-- A filter as a selection: each row with a flag in front that says whether it passes, and the rows selected by it.
use Rattle.std.proofs.Common.{◌≡◌, ◌≢◌, ◌==◌, ℕ, zero, suc, ◌+◌, ◌^◌, ◌<◌, ◌≤◌, Bool, true, false, cond, pos, List, [], ◌∷◌, ◌++◌, length, get_or, map, take, drop, Option, Some, None, All, refl, ap, sym, subst, ◌∙◌, arith, inl, inr}
use Rattle.std.specs.List.{filter, position, remove}
use Rattle.std.specs.declared.cmp.Ordering.TheVariants.{Less}
use Rattle.std.specs.Ordering.{nat_cmp}
use Rattle.std.proofs.lemmas.List.{get_or-map, length-map, map-append, take-map}
use Rattle.mk_value.specs.Data.{Datum, integer}
use Rattle.mk_value.specs.Heading.{Attribute, Domain}
use Rattle.mk_value.specs.Limits.{max_rows}
use Rattle.relations.specs.Criteria.{Interval, is_in_range}
use Rattle.relations.specs.Positions.{numbers, passing}
use Rattle.relations.specs.Rows.{rows_at}
use Rattle.relations.proofs.Ascending.{Ascends, IsIn, less_nat, nat_less}
use Rattle.relations.proofs.Filtering.{passing_in}
use Rattle.live.specs.Placing.{closed_by, opened_by, without}
use Rattle.live.specs.Watching.{IsDue, IsTurn, comes_to, goes_from, own, passes, placed, positions}
use Rattle.live.specs.declared.op.WatchOp.{WatchOp}
use Rattle.live.specs.declared.op.WatchOp.TheVariants.{Range}
use Rattle.live.specs.declared.turn.Turn.{Turn}
use Rattle.live.specs.declared.turn.Turn.TheVariants.{Changes, Comes, Goes}
use Rattle.live.specs.Laws.{IsAnswer}
use Rattle.live.proofs.Answering.{answers_coming as selection_comes, answers_going as selection_goes, selection_answers}
use Rattle.live.proofs.Members.{in_numbers}
use Rattle.live.proofs.Chaining.{own_turn as own_is_turn}
use Rattle.live.proofs.Placing.{inserted, inserted_place, pairs_from_ascends, picked_positions}
use Rattle.live.proofs.Turning.{due_apart, due_small, due_some, due_still, entered, entered_order, left_out, left_out_place}
use Rattle.live_counts.specs.Filtering.{FitsBy, IsEntered, IsFilterDue, IsFiltered, own_turn}

flag : Bool → Datum
flag b = integer (pos (cond b 1 0))

abbrev flagged : (List Datum → Bool) → List Datum → List Datum
flagged test row = integer (pos (cond (test row) 1 0)) ∷ row

abbrev schema : List Attribute
schema = record { name = 102 ∷ []; domain = Domain.integer } ∷ []

abbrev criteria : List Interval
criteria = record { prop = 102 ∷ []; low = integer (pos 1); high = integer (pos 1) } ∷ []

abbrev op : WatchOp
op = Range criteria

flag_tells : (b : Bool) (row : List Datum) → is_in_range schema criteria (integer (pos (cond b 1 0)) ∷ row) ≡ b
flag_tells true row = refl
flag_tells false row = refl

filter_same : {X : Type 0} (p q : X → Bool) (xs : List X) → ((x : X) → IsIn x xs → p x ≡ q x) → filter p xs ≡ filter q xs
filter_same p q [] h = refl
filter_same p q (x ∷ xs) h =
    ap (λ ys. cond (p x) (x ∷ ys) ys) (filter_same p q xs (λ y i. h y (inr i))) ∙ ap (λ b. cond b (x ∷ filter q xs) (filter q xs)) (h x (inl refl))

module _ (test : List Datum → Bool) where
  abbrev pub rows_flagged : List (List Datum) → List (List Datum)
  rows_flagged rows = map (flagged test) rows

  flagged_at : (rows : List (List Datum)) (i : ℕ) → i < length rows → passes schema op (get_or (rows_flagged rows) i []) ≡ test (get_or rows i [])
  flagged_at rows i p = ap (is_in_range schema criteria) (get_or-map (flagged test) rows i [] [] p) ∙ flag_tells (test (get_or rows i [])) (get_or rows i [])

  pub positions_flagged : (rows : List (List Datum)) → positions schema op (rows_flagged rows) ≡ passing test [] rows
  positions_flagged rows =
      ap (λ n. filter (λ i. is_in_range schema criteria (get_or (rows_flagged rows) i [])) (numbers n)) (length-map rows (flagged test))
      ∙ filter_same (λ i. is_in_range schema criteria (get_or (rows_flagged rows) i [])) (λ i. test (get_or rows i [])) (numbers (length rows)) (λ i h. flagged_at rows i (in_numbers (length rows) i h))

  drop_map : {X Y : Type 0} (f : X → Y) (n : ℕ) (xs : List X) → drop n (map f xs) ≡ map f (drop n xs)
  drop_map f zero xs = refl
  drop_map f (suc n) [] = refl
  drop_map f (suc n) (x ∷ xs) = drop_map f n xs

  without_map : (o : Option ℕ) (rows : List (List Datum)) → without o (rows_flagged rows) ≡ rows_flagged (without o rows)
  without_map None rows = refl
  without_map (Some p) rows =
      ap (λ xs. xs ++ drop (suc p) (rows_flagged rows)) (take-map (flagged test) p rows) ∙ ap (λ ys. rows_flagged (take p rows) ++ ys) (drop_map (flagged test) (suc p) rows)
      ∙ sym (map-append (flagged test) (take p rows) (drop (suc p) rows))

  pub turn_flagged : (turn : Turn) (old new : List (List Datum)) → IsTurn turn old new → IsTurn turn (rows_flagged old) (rows_flagged new)
  turn_flagged turn old new h = record {
    went = λ p e. let q = h.went p e in let n = length-map old (flagged test) in omega arith;
    came = λ p e. let q = h.came p e in let n = length-map new (flagged test) in omega arith;
    rest = without_map (goes_from turn) old ∙ ap rows_flagged h.rest ∙ sym (without_map (comes_to turn) new);
  }

  -- a filter's own events are events of its rows
  unflagged : (rows : List (List Datum)) (ks : List ℕ) → All (λ i. i < length rows) ks → map (drop 1) (rows_at (rows_flagged rows) ks) ≡ rows_at rows ks
  unflagged rows [] h = refl
  unflagged rows (k ∷ ks) h =
      ap (λ row. drop 1 row ∷ map (drop 1) (rows_at (rows_flagged rows) ks)) (get_or-map (flagged test) rows k [] [] (h 0 k (omega arith)))
      ∙ ap (λ rs. get_or rows k [] ∷ rs) (unflagged rows ks (λ i d p. h (suc i) d (omega arith)))

  without_drop : (o : Option ℕ) (rows : List (List Datum)) → map (drop 1) (without o rows) ≡ without o (map (drop 1) rows)
  without_drop None rows = refl
  without_drop (Some p) rows =
      map-append (drop 1) (take p rows) (drop (suc p) rows) ∙ ap (λ xs. xs ++ map (drop 1) (drop (suc p) rows)) (sym (take-map (drop 1) p rows)) ∙ ap (λ ys. take p (map (drop 1) rows) ++ ys) (sym (drop_map (drop 1) (suc p) rows))

  turn_dropped : (turn : Turn) (old new : List (List Datum)) → IsTurn turn old new → IsTurn turn (map (drop 1) old) (map (drop 1) new)
  turn_dropped turn old new h = record {
    went = λ p e. let q = h.went p e in let n = length-map old (drop 1) in omega arith;
    came = λ p e. let q = h.came p e in let n = length-map new (drop 1) in omega arith;
    rest = sym (without_drop (goes_from turn) old) ∙ ap (map (drop 1)) h.rest ∙ without_drop (comes_to turn) new;
  }

  pub filter_turn : (turn : Turn) (old new : List (List Datum)) → IsTurn turn old new
      → IsTurn (own_turn (passing test [] old) (passing test [] new) turn) (rows_at old (passing test [] old)) (rows_at new (passing test [] new))
  filter_turn turn old new h =
      let t = turn_dropped (own op (positions schema op (rows_flagged old)) (positions schema op (rows_flagged new)) turn) _ _ (own_is_turn schema op (rows_flagged old) (rows_flagged new) turn (turn_flagged turn old new h)) in
      let one : map (drop 1) (rows_at (rows_flagged old) (positions schema op (rows_flagged old))) ≡ rows_at old (passing test [] old) =
      ap (λ ks. map (drop 1) (rows_at (rows_flagged old) ks)) (positions_flagged old) ∙ unflagged old (passing test [] old) (passing_in test [] old) in
      let two : map (drop 1) (rows_at (rows_flagged new) (positions schema op (rows_flagged new))) ≡ rows_at new (passing test [] new) =
      ap (λ ks. map (drop 1) (rows_at (rows_flagged new) ks)) (positions_flagged new) ∙ unflagged new (passing test [] new) (passing_in test [] new) in
      let named : own op (positions schema op (rows_flagged old)) (positions schema op (rows_flagged new)) turn ≡ own_turn (passing test [] old) (passing test [] new) turn =
      ap (λ ks. own op ks (positions schema op (rows_flagged new)) turn) (positions_flagged old) ∙ ap (λ ks. own op (passing test [] old) ks turn) (positions_flagged new) ∙ any_range turn in
      let mine : Turn = own op (positions schema op (rows_flagged old)) (positions schema op (rows_flagged new)) turn in
      subst (λ t. IsTurn t (rows_at old (passing test [] old)) (rows_at new (passing test [] new))) named
      (subst (λ rs. IsTurn mine rs (rows_at new (passing test [] new))) one (subst (λ rs. IsTurn mine (map (drop 1) (rows_at (rows_flagged old) (positions schema op (rows_flagged old)))) rs) two t))
    where
      any_range : (turn : Turn) → own op (passing test [] old) (passing test [] new) turn ≡ own_turn (passing test [] old) (passing test [] new) turn
      any_range turn = refl

-- positions of rows that pass stand in order
pub passing_order : (test : List Datum → Bool) (rows : List (List Datum)) (ks : List ℕ) → ks ≡ passing test [] rows → (i j d : ℕ) → i < j → j < length ks → get_or ks i d < get_or ks j d
passing_order test rows ks e i j d p q =
    let up = subst (λ (xs : List ℕ). Ascends nat_cmp xs) (positions_flagged test rows ∙ sym e) (picked_positions schema op (rows_flagged test rows)).ascends in
    nat_less (get_or ks i d) (get_or ks j d) (pairs_from_ascends nat_cmp ks up i j d p q)

-- one turn
module _ (test : List Datum → Bool) (kept : List ℕ) (turn : Turn) (fits : Bool) (rows : List (List Datum)) (h : IsFilterDue test kept turn fits rows) where
  few : length (rows_flagged test rows) ≤ max_rows
  few = let n = length-map rows (flagged test) in let f = h.few in omega arith

  due : IsDue schema op kept turn (rows_flagged test rows)
  due = record {
    before = rows_flagged test h.before;
    now = h.now.positions ∙ sym (positions_flagged test h.before);
    made = turn_flagged test turn h.before rows h.made;
  }

  pub kept_order : (ks : List ℕ) → ks ≡ kept → (i j d : ℕ) → i < j → j < length ks → get_or ks i d < get_or ks j d
  kept_order ks e = passing_order test h.before ks (e ∙ h.now.positions)

  module _ (going : Option ℕ) (noted : going ≡ placed kept (goes_from turn)) (ks : List ℕ) (e : ks ≡ without going kept) where
    pub filter_small : All (λ k. k + 1 < 2 ^ 32) ks
    filter_small = due_small schema op kept turn (rows_flagged test rows) going few due noted ks e

    pub filter_apart : (p : ℕ) → turn ≡ Changes p → All (λ k. k ≢ p) ks
    filter_apart p same = due_apart schema op kept turn (rows_flagged test rows) going few due noted ks e p (ap goes_from same)

    module _ (left : List ℕ) (f : left ≡ map (opened_by (comes_to turn)) (map (closed_by (goes_from turn)) ks)) where
      others : (row : ℕ) → comes_to turn ≡ Some row → left ≡ map (opened_by (Some row)) (positions schema op (remove (rows_flagged test rows) row))
      others row some = f ∙ due_some schema op kept turn (rows_flagged test rows) going few due noted ks e row some

      came : (row : ℕ) → comes_to turn ≡ Some row → row < length (rows_flagged test rows)
      came row some = due.made.came row some

      pub left_small : (row : ℕ) → comes_to turn ≡ Some row → row < 2 ^ 32
      left_small row some = let c = came row some in let n = few in omega arith

      pub left_order : (row : ℕ) → comes_to turn ≡ Some row → (i j d : ℕ) → i < j → j < length left → get_or left i d < get_or left j d
      left_order row some i j d p q =
          nat_less (get_or left i d) (get_or left j d) (entered_order schema op (rows_flagged test rows) left row (came row some) (others row some) i j d p q)

      record IsDone (o place : Option ℕ) (new : List ℕ) : Type 0 where
        items : new ≡ passing test [] rows
        at : place ≡ placed new o

      done : (o place : Option ℕ) (new : List ℕ) → comes_to turn ≡ o → FitsBy test o fits rows → (b : Bool) → fits ≡ b → IsEntered left o b new place → IsDone o place new
      done None place new is answered b fit g = record {
        items = g.1 ∙ f ∙ due_still schema op kept turn (rows_flagged test rows) going few due noted ks e is ∙ positions_flagged test rows;
        at = g.0;
      }
      done (Some p) place new is answered false fit g =
          let q : p < length rows = let c = came p is in let n = length-map rows (flagged test) in omega arith in
          record {
            items = g.1 ∙ left_out schema op (rows_flagged test rows) left p (came p is) (others p is) (flagged_at test rows p q ∙ sym answered ∙ fit) ∙ positions_flagged test rows;
            at = g.0 ∙ sym (ap (position (λ k. k == p)) g.1 ∙ left_out_place schema op (rows_flagged test rows) left p (came p is) (others p is));
          }
      done (Some p) place new is answered true fit g =
          let q : p < length rows = let c = came p is in let n = length-map rows (flagged test) in omega arith in
          let put = g.2 in
          let below : (k : ℕ) → k < g.0 → nat_cmp (get_or left k 0) p ≡ Less = λ k lt. less_nat (get_or left k 0) p (put.below k lt) in
          let above : (k : ℕ) → g.0 ≤ k → k < length left → nat_cmp (get_or left k 0) p ≡ Less → ⊥ =
          λ k le lt less. let a = put.above k le lt in let b = nat_less (get_or left k 0) p less in omega arith in
          record {
            items =
                put.items ∙ inserted schema op (rows_flagged test rows) left p g.0 put.within below above (came p is)
                (entered schema op (rows_flagged test rows) left p (came p is) (others p is)) (flagged_at test rows p q ∙ sym answered ∙ fit) ∙ positions_flagged test rows;
            at = g.1 ∙ sym (ap (position (λ k. k == p)) put.items ∙ inserted_place schema op (rows_flagged test rows) left p g.0 put.within below above);
          }

      pub filter_now : (place : Option ℕ) (new : List ℕ) → IsEntered left (comes_to turn) fits new place → IsFiltered test rows new
      filter_now place new g = record { small = h.few; positions = (done (comes_to turn) place new refl h.answered fits refl g).items }

      pub filter_place : (place : Option ℕ) (new : List ℕ) → IsEntered left (comes_to turn) fits new place → place ≡ placed new (comes_to turn)
      filter_place place new g = (done (comes_to turn) place new refl h.answered fits refl g).at

-- a filter answers as the selection by the flag does
module _ (test : List Datum → Bool) (old new : List (List Datum)) where
  named : (turn : Turn) → own op (positions schema op (rows_flagged test old)) (positions schema op (rows_flagged test new)) turn ≡ own_turn (passing test [] old) (passing test [] new) turn
  named turn = ap (λ ks. own op ks (positions schema op (rows_flagged test new)) turn) (positions_flagged test old) ∙ ap (λ ks. own op (passing test [] old) ks turn) (positions_flagged test new)

pub answers_coming : (test : List Datum → Bool) (q : ℕ) (old new : List (List Datum)) → IsTurn (Comes q) old new
    → IsAnswer false (test (get_or new q [])) (own_turn (passing test [] old) (passing test [] new) (Comes q))
answers_coming test q old new h =
    subst (λ t. IsAnswer false (test (get_or new q [])) t) (named test old new (Comes q))
    (subst (λ b. IsAnswer false b (own op (positions schema op (rows_flagged test old)) (positions schema op (rows_flagged test new)) (Comes q))) (flagged_at test new q (h.came q refl))
    (selection_comes schema op q (rows_flagged test old) (rows_flagged test new) (turn_flagged test (Comes q) old new h)))

pub answers_going : (test : List Datum → Bool) (p : ℕ) (old new : List (List Datum)) → IsTurn (Goes p) old new
    → IsAnswer (test (get_or old p [])) false (own_turn (passing test [] old) (passing test [] new) (Goes p))
answers_going test p old new h =
    subst (λ t. IsAnswer (test (get_or old p [])) false t) (named test old new (Goes p))
    (subst (λ b. IsAnswer b false (own op (positions schema op (rows_flagged test old)) (positions schema op (rows_flagged test new)) (Goes p))) (flagged_at test old p (h.went p refl))
    (selection_goes schema op p (rows_flagged test old) (rows_flagged test new) (turn_flagged test (Goes p) old new h)))

pub answers_change : (test : List Datum → Bool) (p : ℕ) (old new : List (List Datum)) → IsTurn (Changes p) old new
    → IsAnswer (test (get_or old p [])) (test (get_or new p [])) (own_turn (passing test [] old) (passing test [] new) (Changes p))
answers_change test p old new h =
    subst (λ t. IsAnswer (test (get_or old p [])) (test (get_or new p [])) t) (named test old new (Changes p))
    (subst (λ b. IsAnswer b (test (get_or new p [])) (own op (positions schema op (rows_flagged test old)) (positions schema op (rows_flagged test new)) (Changes p))) (flagged_at test old p (h.went p refl))
    (subst (λ b. IsAnswer (passes schema op (get_or (rows_flagged test old) p [])) b (own op (positions schema op (rows_flagged test old)) (positions schema op (rows_flagged test new)) (Changes p))) (flagged_at test new p (h.came p refl))
    (selection_answers schema criteria p (rows_flagged test old) (rows_flagged test new) (turn_flagged test (Changes p) old new h))))
