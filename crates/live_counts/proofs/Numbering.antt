-- Raised flags by their places: one flag taken out, and one put in.
use Rattle.std.proofs.Common.{◌≡◌, ◌≢◌, ◌==◌, ℕ, ◌+◌, ◌<◌, ◌≤◌, Bool, true, false, List, ◌∷◌, ◌++◌, length, get_or, is_some, map, take, drop, Some, refl, ap, sym, subst, ◌∙◌, arith, inl, inr}
use Rattle.std.specs.List.{insert, position, remove}
use Rattle.std.specs.declared.cmp.Ordering.TheVariants.{Equal}
use Rattle.std.specs.Ordering.{nat_cmp}
use Rattle.std.proofs.lemmas.Bool.{cases_lt}
use Rattle.std.proofs.lemmas.Bool.Decides.{nat_tests}
use Rattle.std.proofs.lemmas.List.{drop_more, get_or-append-add, get_or-drop, get_or-map, get_or-take, get_or_past, length-drop, length-map, length-take-le, take-append-drop}
use Rattle.std.proofs.lemmas.List.Edits.{length-insert}
use Rattle.relations.proofs.Ascending.{IsIn, in_at, less_nat, nat_less, place_of}
use Rattle.live.specs.Placing.{closed, opened, without}
use Rattle.live.specs.Watching.{placed}
use Rattle.live.proofs.Members.{in_right}
use Rattle.live.proofs.Ops.{equal_total}
use Rattle.live.proofs.Picks.{AreOthers, ArePicked, middle_in, others_closed, picked_from_middle, picked_from_others, picked_opened, picked_same}
use Rattle.live.proofs.Placing.{middle_or_absent, others_left, pairs_from_ascends, picked_passing, position_absent, position_middle, without_middle}
use Rattle.live_counts.specs.Runs.{raised}

abbrev id : Bool → Bool
id b = b

abbrev Picked : List Bool → List ℕ → Type 0
Picked fs ks = ArePicked id (λ a b. Equal) false fs ks

abbrev Others : List Bool → ℕ → List ℕ → Type 0
Others fs p ks = AreOthers id (λ a b. Equal) false fs p ks

pub are_raised : (fs : List Bool) → Picked fs (raised fs)
are_raised fs = picked_passing id false fs

same_raised : (fs : List Bool) (ks : List ℕ) → Picked fs ks → ks ≡ raised fs
same_raised fs ks h = picked_same id (λ a b. Equal) equal_total false fs ks (raised fs) h (are_raised fs)

-- they stand in order, and are those of flags
pub raised_order : (fs : List Bool) (i j d : ℕ) → i < j → j < length (raised fs) → get_or (raised fs) i d < get_or (raised fs) j d
raised_order fs i j d p q = nat_less (get_or (raised fs) i d) (get_or (raised fs) j d) (pairs_from_ascends nat_cmp (raised fs) (are_raised fs).ascends i j d p q)

pub raised_in : (fs : List Bool) (k d : ℕ) → k < length (raised fs) → get_or (raised fs) k d < length fs
raised_in fs k d p = ((are_raised fs).inside (get_or (raised fs) k d) (in_at (raised fs) k d p)).0

-- a number among numbers in order, by the first place from which on they are not below it
module _ (ks : List ℕ) (f at : ℕ) (le : at ≤ length ks) (below : (k : ℕ) → k < at → get_or ks k 0 < f) (above : (k : ℕ) → at ≤ k → k < length ks → f ≤ get_or ks k 0) where
  front_below : (x : ℕ) → IsIn x (take at ks) → x < f
  front_below x h =
      let r = place_of (take at ks) x h in
      let long = length-take-le at ks le in
      let near : r.0 < at = omega (arith, r.1) in
      subst (λ y. y < f) (sym (get_or-take at ks r.0 0 near) ∙ r.2 0) (below r.0 near)

  back_above : (x : ℕ) → IsIn x (drop at ks) → f ≤ x
  back_above x h =
      let r = place_of (drop at ks) x h in
      let long = length-drop at ks in
      let p = r.1 in
      subst (λ y. f ≤ y) (sym (get_or-drop at ks r.0 0) ∙ r.2 0) (above (at + r.0) (omega arith) (omega arith))

  pub found_at : at < length ks → get_or ks at 0 ≡ f → position (λ k. k == f) ks ≡ Some at
  found_at q e =
      ap (position (λ k. k == f)) (sym (take-append-drop at ks) ∙ ap (λ zs. take at ks ++ zs) (drop_more ks at 0 q ∙ ap (λ z. z ∷ drop (at + 1) ks) e))
      ∙ position_middle f (take at ks) (drop (at + 1) ks) (λ h. let a = front_below f h in omega arith) ∙ ap Some (length-take-le at ks le)

  pub absent_from : (at < length ks → get_or ks at 0 ≢ f) → ((i j d : ℕ) → i < j → j < length ks → get_or ks i d < get_or ks j d) → IsIn f ks → ⊥
  absent_from other order h =
      let r = place_of ks f h in
      let q = r.1 in
      let is = r.2 0 in
      elim (cases_lt r.0 at) [
        | inl near ↦ let a = below r.0 near in omega arith
        | inr far ↦ elim (cases_lt at r.0) [
          | inl past ↦ let a = above at (omega arith) (omega arith) in let b = order at r.0 0 past q in omega arith
          | inr here ↦ other (omega arith) (ap (λ k. get_or ks k 0) (let e : at ≡ r.0 = omega arith in e) ∙ is)
        ]
      ]

  -- a number put in at that place, where it is not there yet
  pub put_in : (fs : List Bool) → f < length fs → Others fs f ks → get_or fs f false ≡ true → insert ks at f ≡ raised fs
  put_in fs within others up =
      same_raised fs (insert ks at f)
      (picked_from_middle id (λ a b. Equal) equal_total false fs f (take at ks) (drop at ks) within (subst (Others fs f) (sym (take-append-drop at ks)) others) up
      (λ x h. less_nat x f (front_below x h))
      (λ y h.
      let low = back_above y h in
      let ne : y ≢ f = (others.inside y (subst (IsIn y) (take-append-drop at ks) (back_in y h))).2 in
      less_nat f y (omega arith)))
    where
      back_in : (y : ℕ) → IsIn y (drop at ks) → IsIn y (take at ks ++ drop at ks)
      back_in y h = in_right (take at ks) (drop at ks) y h

-- a flag is raised exactly where its number is there
pub raised_has : (fs : List Bool) (f : ℕ) → is_some (position (λ k. k == f) (raised fs)) ≡ get_or fs f false
raised_has fs f = elim (middle_or_absent f (raised fs)) [
  | inl m ↦
      ap is_some (ap (position (λ k. k == f)) m.is ∙ position_middle f m.front m.back m.first)
      ∙ sym (((are_raised fs).inside f (subst (IsIn f) (sym m.is) (middle_in m.front f m.back f (inl refl)))).1)
  | inr away ↦ ap is_some (position_absent f (raised fs) away) ∙ sym (lowered (get_or fs f false) refl away)
]
  where
    lowered : (b : Bool) → get_or fs f false ≡ b → (IsIn f (raised fs) → ⊥) → get_or fs f false ≡ false
    lowered false e away = e
    lowered true e away = elim (cases_lt f (length fs)) [
      | inl q ↦ absurd (away ((are_raised fs).whole f q e))
      | inr q ↦ get_or_past fs f false q
    ]

-- a flag taken out
pub flag_taken : (fs : List Bool) (f : ℕ) → f < length fs → map (closed f) (without (placed (raised fs) (Some f)) (raised fs)) ≡ raised (remove fs f)
flag_taken fs f q =
    same_raised (remove fs f) (map (closed f) (without (placed (raised fs) (Some f)) (raised fs)))
    (others_closed id (λ a b. Equal) equal_total false fs f q (without (placed (raised fs) (Some f)) (raised fs)) (others_left id (λ a b. Equal) equal_total false fs (raised fs) f (are_raised fs)))

-- a flag put in: the others are moved up, and it is there already where it is lowered
module _ (fs : List Bool) (f : ℕ) (v : Bool) (le : f ≤ length fs) where
  abbrev all : List Bool
  all = insert fs f v

  there : f < length (insert fs f v)
  there = let n = length-insert fs f v le in omega arith

  out_again : remove (insert fs f v) f ≡ fs
  out_again = ap (remove (insert fs f v)) (sym (length-take-le f fs le)) ∙ without_middle v (take f fs) (drop f fs) ∙ take-append-drop f fs

  flag_here : get_or (insert fs f v) f false ≡ v
  flag_here =
      ap (λ n. get_or (take f fs ++ v ∷ drop f fs) n false) (let a = length-take-le f fs le in let e : f ≡ length (take f fs) + 0 = omega arith in e) ∙ get_or-append-add (take f fs) (v ∷ drop f fs) 0 false

  pub others_opened : Others (insert fs f v) f (map (opened f) (raised fs))
  others_opened =
      picked_opened id (λ a b. Equal) equal_total false (insert fs f v) f there (raised fs) (subst (λ gs. Picked gs (raised fs)) (sym out_again) (are_raised fs))

  pub put_lowered : v ≡ false → map (opened f) (raised fs) ≡ raised (insert fs f v)
  put_lowered e =
      same_raised (insert fs f v) (map (opened f) (raised fs)) (picked_from_others id (λ a b. Equal) equal_total false (insert fs f v) f (map (opened f) (raised fs)) others_opened (flag_here ∙ e))

  pub put_raised : v ≡ true → (ks : List ℕ) → ks ≡ map (opened f) (raised fs) → (at : ℕ) → at ≤ length ks → ((k : ℕ) → k < at → get_or ks k 0 < f) → ((k : ℕ) → at ≤ k → k < length ks → f ≤ get_or ks k 0) → insert ks at f ≡ raised (insert fs f v)
  put_raised e ks is at within below above = put_in ks f at within below above (insert fs f v) there (subst (Others (insert fs f v) f) (sym is) others_opened) (flag_here ∙ e)

-- numbers in order stay in order when they are moved up
opened_less : (f a b : ℕ) → a < b → opened f a < opened f b
opened_less f a b p = grind (arith, nat_tests)

pub opened_order : (f : ℕ) (ks : List ℕ) → ((i j d : ℕ) → i < j → j < length ks → get_or ks i d < get_or ks j d) → (i j d : ℕ) → i < j → j < length (map (opened f) ks) → get_or (map (opened f) ks) i d < get_or (map (opened f) ks) j d
opened_order f ks order i j d p q =
    let n = length-map ks (opened f) in
    let r : j < length ks = omega arith in
    let s : i < length ks = omega arith in
    subst (λ x. x < get_or (map (opened f) ks) j d) (sym (get_or-map (opened f) ks i 0 d s))
    (subst (λ y. opened f (get_or ks i 0) < y) (sym (get_or-map (opened f) ks j 0 d r)) (opened_less f (get_or ks i 0) (get_or ks j 0) (order i j 0 p r)))
