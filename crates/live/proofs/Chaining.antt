-- The rows of a watch are rows of which the watch's own events are events.
use Rattle.std.proofs.Common.{◌≡◌, ◌≢◌, ◌==◌, ℕ, suc, ◌<◌, Bool, true, false, List, [], ◌∷◌, ◌++◌, length, get_or, map, take, drop, Option, Some, None, refl, ap, sym, subst, ◌∙◌, arith, inl, inr}
use Rattle.std.specs.List.{remove, position}
use Rattle.std.specs.Option.{ForSome}
use Rattle.std.specs.declared.cmp.Ordering.TheVariants.{Less}
use Rattle.std.specs.Ordering.{nat_cmp}
use Rattle.std.proofs.lemmas.List.{map-append, length-map, length-append, take-map, drop-map}
use Rattle.live.specs.declared.turn.Turn.{Turn}
use Rattle.live.specs.declared.turn.Turn.TheVariants.{Still, Comes, Goes, Changes, Moves}
use Rattle.live.specs.declared.op.WatchOp.{WatchOp}
use Rattle.live.specs.declared.op.WatchOp.TheVariants.{Range, Sort}
use Rattle.relations.specs.Criteria.{Interval}
use Rattle.live.specs.Placing.{closed, opened, without}
use Rattle.relations.specs.Rows.{rows_at}
use Rattle.live.specs.Watching.{passes, order, positions, placed, IsTurn, goes_from, comes_to, own, told, stays}
use Rattle.relations.proofs.Ascending.{IsIn, Ascends, in_at, each_in, nat_less}
use Rattle.live.proofs.Ops.{op_total}
use Rattle.live.proofs.Picks.{AreOthers, picked_same, others_closed, row_closed, ascends_across, ascends_right}
use Rattle.live.proofs.Placing.{picked_positions, others_placed, IsMiddle, middle_or_absent, position_middle, position_absent, without_middle}
use Rattle.live.proofs.Turning.{gone_picked, map_back}
use Rattle.mk_value.specs.Heading.{Attribute}
use Rattle.mk_value.specs.Data.{Datum}

-- the rows at the other positions are those of what is left
rows_moved : (schema : List Attribute) (op : WatchOp) (rows : List (List Datum)) (p : ℕ) → p < length rows → (ks : List ℕ) → ((k : ℕ) → IsIn k ks → (k < length rows) × (k ≢ p)) → rows_at (remove rows p) (map (closed p) ks) ≡ rows_at rows ks
rows_moved schema op rows p there [] h = refl
rows_moved schema op rows p there (k ∷ ks) h =
    let one = h k (inl refl) in
    ap (λ y. y ∷ rows_at (remove rows p) (map (closed p) ks)) (row_closed [] rows p there k one.1 one.0)
    ∙ ap (λ ys. get_or rows k [] ∷ ys) (rows_moved schema op rows p there ks (λ j q. h j (inr q)))

-- a watch of what is left has what is left of the watch
pub left_rows : (schema : List Attribute) (op : WatchOp) (rows : List (List Datum)) (from : Option ℕ) → ForSome from (λ p. p < length rows)
    → without (placed (positions schema op rows) from) (rows_at rows (positions schema op rows)) ≡ rows_at (without from rows) (positions schema op (without from rows))
left_rows schema op rows None there = refl
left_rows schema op rows (Some p) there =
    let kept = positions schema op rows in
    let others = others_placed schema op rows kept p (picked_positions schema op rows) in
    let left : List ℕ = without (placed kept (Some p)) kept in
    without_map (placed kept (Some p)) kept
    ∙ sym (rows_moved schema op rows p (there p refl) left (λ k h. let r = others.inside k h in (r.0, r.2)))
    ∙ ap (rows_at (remove rows p)) (picked_same (passes schema op) (order schema op) (op_total schema op) [] (remove rows p) (map (closed p) left) (positions schema op (remove rows p)) (gone_picked schema op rows (Some p) there) (picked_positions schema op (remove rows p)))
  where
    without_map : (o : Option ℕ) (ks : List ℕ) → without o (rows_at rows ks) ≡ rows_at rows (without o ks)
    without_map None ks = refl
    without_map (Some i) ks =
        ap (λ xs. xs ++ drop (suc i) (rows_at rows ks)) (take-map (λ j. get_or rows j []) i ks) ∙ ap (λ xs. rows_at rows (take i ks) ++ xs) (drop-map (λ j. get_or rows j []) (suc i) ks)
        ∙ sym (map-append (λ j. get_or rows j []) (take i ks) (drop (suc i) ks))

some_same : {a b : ℕ} → Some a ≡ Some b → a ≡ b
some_same h = cc

none_some : {a : ℕ} {B : Type 0} → None ≡ Some a → B
none_some h = cc

-- a place among kept positions is one of them
pub placed_in : (kept : List ℕ) (from : Option ℕ) → ForSome (placed kept from) (λ i. i < length kept)
placed_in kept None i e = cc
placed_in kept (Some p) i e = elim (middle_or_absent p kept) [
  | inl m ↦
      let here : i ≡ length m.front = some_same (sym e ∙ ap (position (λ k. k == p)) m.is ∙ position_middle p m.front m.back m.first) in
      let long = ap length m.is ∙ length-append m.front (p ∷ m.back) in
      omega arith
  | inr away ↦ none_some (sym (position_absent p kept away) ∙ e)
]

-- two splits of a list at one number are one
same_split : (c : ℕ) (xs ys xs' ys' : List ℕ) → xs ++ ys ≡ xs' ++ ys' → ((x : ℕ) → IsIn x xs → x < c) → ((y : ℕ) → IsIn y ys → c < y) → ((x : ℕ) → IsIn x xs' → x < c) → ((y : ℕ) → IsIn y ys' → c < y) → length xs ≡ length xs'
same_split c [] ys [] ys' e a b a' b' = refl
same_split c [] ys (x' ∷ xs') ys' e a b a' b' =
    let above : c < x' = b x' (subst (IsIn x') (sym e) (inl refl)) in
    let below : x' < c = a' x' (inl refl) in
    absurd (omega arith)
same_split c (x ∷ xs) ys [] ys' e a b a' b' =
    let above : c < x = b' x (subst (IsIn x) e (inl refl)) in
    let below : x < c = a x (inl refl) in
    absurd (omega arith)
same_split c (x ∷ xs) ys (x' ∷ xs') ys' e a b a' b' =
    ap suc (same_split c xs ys xs' ys' (let t : xs ++ ys ≡ xs' ++ ys' = cc in t) (λ y h. a y (inr h)) b (λ y h. a' y (inr h)) b')

-- a changed row that stays in a selection stays at its place
module _ (schema : List Attribute) (criteria : List Interval) (old new : List (List Datum)) (c : ℕ) (h : IsTurn (Changes c) old new) where
  abbrev op : WatchOp
  op = Range criteria

  others_of : (rows : List (List Datum)) → c < length rows → (m : IsMiddle c (positions schema op rows)) → m.front ++ m.back ≡ map (opened c) (positions schema op (remove rows c))
  others_of rows there m =
      let same : without (placed (positions schema op rows) (Some c)) (positions schema op rows) ≡ m.front ++ m.back =
      ap (λ ks. without (position (λ k. k == c) ks) ks) m.is ∙ ap (λ o. without o (m.front ++ c ∷ m.back)) (position_middle c m.front m.back m.first) ∙ without_middle c m.front m.back in
      let others = subst (AreOthers (passes schema op) (order schema op) [] rows c) same (others_placed schema op rows (positions schema op rows) c (picked_positions schema op rows)) in
      sym (map_back c (m.front ++ m.back) (λ i d q. (others.inside (get_or (m.front ++ m.back) i d) (in_at (m.front ++ m.back) i d q)).2))
      ∙ ap (map (opened c)) (picked_same (passes schema op) (order schema op) (op_total schema op) [] (remove rows c) (map (closed c) (m.front ++ m.back)) (positions schema op (remove rows c))
      (others_closed (passes schema op) (order schema op) (op_total schema op) [] rows c there (m.front ++ m.back) others) (picked_positions schema op (remove rows c)))

  up : (rows : List (List Datum)) (m : IsMiddle c (positions schema op rows)) → Ascends nat_cmp (m.front ++ c ∷ m.back)
  up rows m = subst (Ascends nat_cmp) m.is (picked_positions schema op rows).ascends

  front_below : (rows : List (List Datum)) (m : IsMiddle c (positions schema op rows)) (x : ℕ) → IsIn x m.front → x < c
  front_below rows m x g = nat_less x c (ascends_across nat_cmp m.front (c ∷ m.back) (up rows m) x c g (inl refl))

  back_above : (rows : List (List Datum)) (m : IsMiddle c (positions schema op rows)) (y : ℕ) → IsIn y m.back → c < y
  back_above rows m y g = nat_less c y (each_in (λ z. nat_cmp c z ≡ Less) m.back y (ascends_right nat_cmp m.front (c ∷ m.back) (up rows m)).0 g)

  at_front : (rows : List (List Datum)) (m : IsMiddle c (positions schema op rows)) (p : ℕ) → placed (positions schema op rows) (Some c) ≡ Some p → p ≡ length m.front
  at_front rows m p e = some_same (sym e ∙ ap (position (λ k. k == c)) m.is ∙ position_middle c m.front m.back m.first)

  pub stay_same : (p q : ℕ) → placed (positions schema op old) (Some c) ≡ Some p → placed (positions schema op new) (Some c) ≡ Some q → p ≡ q
  stay_same p q e f = elim (middle_or_absent c (positions schema op old)) [
    | inr away ↦ none_some (sym (position_absent c (positions schema op old) away) ∙ e)
    | inl m ↦ elim (middle_or_absent c (positions schema op new)) [
      | inr away ↦ none_some (sym (position_absent c (positions schema op new) away) ∙ f)
      | inl n ↦
          at_front old m p e
          ∙ same_split c m.front m.back n.front n.back
          (others_of old (h.went c refl) m ∙ ap (λ rows. map (opened c) (positions schema op rows)) h.rest ∙ sym (others_of new (h.came c refl) n))
          (front_below old m) (back_above old m) (front_below new n) (back_above new n)
          ∙ sym (at_front new n q f)
    ]
  ]

stays_same : (schema : List Attribute) (op : WatchOp) (old new : List (List Datum)) (turn : Turn) → IsTurn turn old new → (p q : ℕ) → stays op turn ≡ true → placed (positions schema op old) (goes_from turn) ≡ Some p → placed (positions schema op new) (comes_to turn) ≡ Some q → p ≡ q
stays_same schema (Range criteria) old new (Changes c) h p q s e f = stay_same schema criteria old new c h p q e f
stays_same schema (Range criteria) old new Still h p q s e f = cc
stays_same schema (Range criteria) old new (Comes r) h p q s e f = cc
stays_same schema (Range criteria) old new (Goes r) h p q s e f = cc
stays_same schema (Range criteria) old new (Moves r t) h p q s e f = cc
stays_same schema (Sort keys) old new turn h p q s e f = cc

-- what is told of a row that leaves a place and one that takes a place is a turn
told_turn : (b : Bool) (from to : Option ℕ) (xs ys : List (List Datum)) → ForSome from (λ p. p < length xs) → ForSome to (λ p. p < length ys) → without from xs ≡ without to ys
    → ((p q : ℕ) → b ≡ true → from ≡ Some p → to ≡ Some q → p ≡ q) → IsTurn (told b from to) xs ys
told_turn b None None xs ys f t e same = record { went = f; came = t; rest = e }
told_turn b None (Some q) xs ys f t e same = record { went = f; came = t; rest = e }
told_turn b (Some p) None xs ys f t e same = record { went = f; came = t; rest = e }
told_turn true (Some p) (Some q) xs ys f t e same =
    let here : p ≡ q = same p q refl refl refl in
    record {
      went = λ i g. f i (ap Some here ∙ g);
      came = t;
      rest = ap (λ i. without (Some i) xs) (sym here) ∙ e;
    }
told_turn false (Some p) (Some q) xs ys f t e same = record { went = f; came = t; rest = e }

-- the own events of a watch are events of its rows: they lead from its rows before to its rows after
pub own_turn : (schema : List Attribute) (op : WatchOp) (old new : List (List Datum)) (turn : Turn) → IsTurn turn old new
    → IsTurn (own op (positions schema op old) (positions schema op new) turn) (rows_at old (positions schema op old)) (rows_at new (positions schema op new))
own_turn schema op old new turn h =
    let one = positions schema op old in
    let two = positions schema op new in
    told_turn (stays op turn) (placed one (goes_from turn)) (placed two (comes_to turn)) (rows_at old one) (rows_at new two)
    (λ i e. let a = placed_in one (goes_from turn) i e in let long = length-map one (λ j. get_or old j []) in omega arith)
    (λ i e. let a = placed_in two (comes_to turn) i e in let long = length-map two (λ j. get_or new j []) in omega arith)
    (left_rows schema op old (goes_from turn) h.went ∙ ap (λ rows. rows_at rows (positions schema op rows)) h.rest ∙ sym (left_rows schema op new (comes_to turn) h.came))
    (stays_same schema op old new turn h)

-- the row that a watch's own events take out is the one that it noted
goes_told : (b : Bool) (from to : Option ℕ) → ((p q : ℕ) → b ≡ true → from ≡ Some p → to ≡ Some q → p ≡ q) → goes_from (told b from to) ≡ from
goes_told b None None same = refl
goes_told b None (Some q) same = refl
goes_told b (Some p) None same = refl
goes_told true (Some p) (Some q) same = ap Some (sym (same p q refl refl refl))
goes_told false (Some p) (Some q) same = refl

pub own_goes : (schema : List Attribute) (op : WatchOp) (old new : List (List Datum)) (turn : Turn) → IsTurn turn old new → goes_from (own op (positions schema op old) (positions schema op new) turn) ≡ placed (positions schema op old) (goes_from turn)
own_goes schema op old new turn h = goes_told (stays op turn) (placed (positions schema op old) (goes_from turn)) (placed (positions schema op new) (comes_to turn)) (stays_same schema op old new turn h)
