-- What a watch answers, in the words of the subject.
use Rattle.std.proofs.Common.{◌≡◌, ◌⊎◌, ◌==◌, ℕ, ◌<◌, Bool, true, false, List, [], length, get_or, Option, Some, None, refl, ap, sym, subst, ◌∙◌, inl, inr}
use Rattle.std.specs.List.{position}
use Rattle.mk_value.specs.Data.{Datum}
use Rattle.mk_value.specs.Heading.{Attribute}
use Rattle.relations.specs.Criteria.{Interval, is_in_range}
use Rattle.relations.specs.Rows.{rows_at}
use Rattle.relations.specs.Sorting.{row_cmp}
use Rattle.relations.specs.declared.criteria.Key.{Key}
use Rattle.relations.proofs.Ascending.{IsIn}
use Rattle.relations.proofs.Filtering.{rows_passing}
use Rattle.relations.proofs.Orders.{order_rows}
use Rattle.live.specs.Laws.{IsAnswer, IsMove, shown}
use Rattle.live.specs.Watching.{IsTurn, own, passes, placed, positions, told}
use Rattle.live.specs.declared.op.WatchOp.{WatchOp}
use Rattle.live.specs.declared.op.WatchOp.TheVariants.{Range, Sort}
use Rattle.live.specs.declared.turn.Turn.TheVariants.{Comes, Goes, Changes}
use Rattle.live.proofs.Picks.{middle_in}
use Rattle.live.proofs.Placing.{middle_or_absent, picked_positions, position_absent, position_middle}

-- the rows at a watch's positions are those that it shows
pub rows_shown : (schema : List Attribute) (op : WatchOp) (rows : List (List Datum)) → rows_at rows (positions schema op rows) ≡ shown schema op rows
rows_shown schema (Range criteria) rows = rows_passing (is_in_range schema criteria) [] rows
rows_shown schema (Sort keys) rows = order_rows (row_cmp schema keys) [] rows

-- a row has a place in a watch exactly where the watch has it
record IsThere (o : Option ℕ) : Type 0 where
  at : ℕ
  is : o ≡ Some at

-- an answer to where a row stood and stands, by whether the watch had it and has it
record IsPlaced (passing : Bool) (o : Option ℕ) : Type 0 where
  there : (passing ≡ true × IsThere o) ⊎ (passing ≡ false × (o ≡ None))

placed_where : (schema : List Attribute) (op : WatchOp) (rows : List (List Datum)) (p : ℕ) → p < length rows → IsPlaced (passes schema op (get_or rows p [])) (placed (positions schema op rows) (Some p))
placed_where schema op rows p q = record {
  there = elim (middle_or_absent p (positions schema op rows)) [
    | inl m ↦
        let here = (picked_positions schema op rows).inside p (subst (IsIn p) (sym m.is) (middle_in m.front p m.back p (inl refl))) in
        inl (here.1, record { at = length m.front; is = ap (position (λ k. k == p)) m.is ∙ position_middle p m.front m.back m.first })
    | inr away ↦ inr (not_so (passes schema op (get_or rows p [])) (λ e. away ((picked_positions schema op rows).whole p q e)), position_absent p (positions schema op rows) away)
  ];
}
  where
    not_so : (b : Bool) → (b ≡ true → ⊥) → b ≡ false
    not_so true f = absurd (f refl)
    not_so false f = refl

-- the answer to a row that stays where it is, where it is had before and after
answer : (b c : Bool) (o q : Option ℕ) → IsPlaced b o → IsPlaced c q → IsAnswer b c (told true o q)
answer b c o q h k = elim h.there [
  | inl a ↦ elim k.there [
    | inl d ↦ put a.0 d.0 a.1.is d.1.is tt
    | inr d ↦ put a.0 d.0 a.1.is d.1 tt
  ]
  | inr a ↦ elim k.there [
    | inl d ↦ put a.0 d.0 a.1 d.1.is tt
    | inr d ↦ put a.0 d.0 a.1 d.1 refl
  ]
]
  where
    put : {b2 c2 : Bool} {o2 q2 : Option ℕ} → b ≡ b2 → c ≡ c2 → o ≡ o2 → q ≡ q2 → IsAnswer b2 c2 (told true o2 q2) → IsAnswer b c (told true o q)
    put {b2} {c2} {o2} {q2} e f g i a =
        subst (λ x. IsAnswer x c (told true o q)) (sym e)
        (subst (λ y. IsAnswer b2 y (told true o q)) (sym f) (subst (λ u. IsAnswer b2 c2 (told true u q)) (sym g) (subst (λ v. IsAnswer b2 c2 (told true o2 v)) (sym i) a)))

pub selection_answers : (schema : List Attribute) (criteria : List Interval) (p : ℕ) (old new : List (List Datum)) → IsTurn (Changes p) old new
    → IsAnswer (passes schema (Range criteria) (get_or old p [])) (passes schema (Range criteria) (get_or new p []))
    (own (Range criteria) (positions schema (Range criteria) old) (positions schema (Range criteria) new) (Changes p))
selection_answers schema criteria p old new h =
    answer (passes schema (Range criteria) (get_or old p [])) (passes schema (Range criteria) (get_or new p []))
    (placed (positions schema (Range criteria) old) (Some p)) (placed (positions schema (Range criteria) new) (Some p))
    (placed_where schema (Range criteria) old p (h.went p refl)) (placed_where schema (Range criteria) new p (h.came p refl))

-- where only one of the two stands somewhere, it does not matter whether the row would stay
comes_answer : (c b : Bool) (q : Option ℕ) → IsPlaced c q → IsAnswer false c (told b None q)
comes_answer c b q k = elim k.there [
  | inl d ↦ subst (λ x. IsAnswer false x (told b None q)) (sym d.0) (subst (λ v. IsAnswer false true (told b None v)) (sym d.1.is) tt)
  | inr d ↦ subst (λ x. IsAnswer false x (told b None q)) (sym d.0) (subst (λ v. IsAnswer false false (told b None v)) (sym d.1) refl)
]

goes_answer : (c b : Bool) (o : Option ℕ) → IsPlaced c o → IsAnswer c false (told b o None)
goes_answer c b o k = elim k.there [
  | inl d ↦ subst (λ x. IsAnswer x false (told b o None)) (sym d.0) (subst (λ v. IsAnswer true false (told b v None)) (sym d.1.is) tt)
  | inr d ↦ subst (λ x. IsAnswer x false (told b o None)) (sym d.0) (subst (λ v. IsAnswer false false (told b v None)) (sym d.1) refl)
]

pub answers_coming : (schema : List Attribute) (op : WatchOp) (q : ℕ) (old new : List (List Datum)) → IsTurn (Comes q) old new
    → IsAnswer false (passes schema op (get_or new q [])) (own op (positions schema op old) (positions schema op new) (Comes q))
answers_coming schema (Range criteria) q old new h = comes_answer _ false _ (placed_where schema (Range criteria) new q (h.came q refl))
answers_coming schema (Sort keys) q old new h = comes_answer _ false _ (placed_where schema (Sort keys) new q (h.came q refl))

pub answers_going : (schema : List Attribute) (op : WatchOp) (p : ℕ) (old new : List (List Datum)) → IsTurn (Goes p) old new
    → IsAnswer (passes schema op (get_or old p [])) false (own op (positions schema op old) (positions schema op new) (Goes p))
answers_going schema (Range criteria) p old new h = goes_answer _ false _ (placed_where schema (Range criteria) old p (h.went p refl))
answers_going schema (Sort keys) p old new h = goes_answer _ false _ (placed_where schema (Sort keys) old p (h.went p refl))

pub sorting_answers : (schema : List Attribute) (keys : List Key) (p : ℕ) (old new : List (List Datum)) → IsTurn (Changes p) old new
    → IsMove (own (Sort keys) (positions schema (Sort keys) old) (positions schema (Sort keys) new) (Changes p))
sorting_answers schema keys p old new h = elim (placed_where schema (Sort keys) old p (h.went p refl)).there [
  | inr a ↦ cc
  | inl a ↦ elim (placed_where schema (Sort keys) new p (h.came p refl)).there [
    | inr b ↦ cc
    | inl b ↦
        subst (λ u. IsMove (told false u (placed (positions schema (Sort keys) new) (Some p)))) (sym a.1.is) (subst (λ v. IsMove (told false (Some a.1.at) v)) (sym b.1.is) tt)
  ]
]
