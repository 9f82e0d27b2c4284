-- Watches that follow something one after another, each after its source.
use Rattle.std.proofs.Common.{◌≡◌, ◌≢◌, ℕ, zero, suc, ◌+◌, ◌-◌, ◌*◌, ◌^◌, ◌<◌, ◌≤◌, Bool, true, false, if◌then◌else◌, List, [], ◌∷◌, length, get_or, set, take, Option, Some, None, refl, ap, sym, subst, ◌∙◌, arith, inl, inr}
use Rattle.std.specs.List.{All, sum_by}
use Rattle.std.specs.Option.{ForSome}
use Rattle.std.proofs.lemmas.Bool.{cases_lt, cases_eq}
use Rattle.std.proofs.lemmas.List.{get_or-take, take-set, length-set, length-take-le, length-map, get_or-set_same, get_or-set_other}
use Rattle.std.proofs.lemmas.List.Sums.{sum_by_more, sum_by_from}
use Rattle.mk_value.specs.Data.{Datum}
use Rattle.mk_value.specs.Heading.{Attribute}
use Rattle.mk_value.specs.Limits.{max_rows}
use Rattle.relations.specs.Rows.{rows_at}
use Rattle.live.specs.Chains.{AreInOrder, AreLinked, AreNow, seen}
use Rattle.live.specs.Costs.{after_cost, digits}
use Rattle.live.specs.States.{WatchState}
use Rattle.live.specs.Watching.{IsAsked, is_sorting, positions}
use Rattle.live.proofs.Digits.{digits_bound}
use Rattle.live.proofs.Ops.{positions_few}
use Rattle.live.proofs.Seeing.{seen_alike, seen_at, seen_prefix}
use Rattle.live.proofs.Turning.{positions_in}

-- sums of what agrees
sum_by_alike : {X : Type 0} (f g : X → ℕ) (xs : List X) → All (λ x. f x ≡ g x) xs → sum_by f xs ≡ sum_by g xs
sum_by_alike f g [] same = refl
sum_by_alike f g (x ∷ xs) same =
    let one = same 0 x (omega arith) in
    let left : sum_by f (x ∷ xs) ≡ 0 + f x + sum_by f xs = sum_by_from f (0 + f x) xs in
    let right : sum_by g (x ∷ xs) ≡ 0 + g x + sum_by g xs = sum_by_from g (0 + g x) xs in
    let rest = sum_by_alike f g xs (λ k d q. same (suc k) d (omega arith)) in
    omega arith

-- the first i of the watches keep the positions of their rows, the others are as they were, and of all stand sources and what they show
pub record AreOnward (schema : List Attribute) (rows : List (List Datum)) (old : List WatchState) (ls : List WatchState) (i : ℕ) : Type 0 where
  pub long : length ls ≡ length old
  pub within : i ≤ length old
  pub rest : (k : ℕ) (d : WatchState) → i ≤ k → k < length old → get_or ls k d ≡ get_or old k d
  pub source : (k : ℕ) (d : WatchState) → k < length old → (get_or ls k d).source ≡ (get_or old k d).source
  pub op : (k : ℕ) (d : WatchState) → k < length old → (get_or ls k d).op ≡ (get_or old k d).op
  pub now : (k : ℕ) (d : WatchState) → k < i → (get_or ls k d).kept ≡ positions schema (get_or old k d).op (seen rows ls (get_or old k d).source)

pub onward_none : (schema : List Attribute) (rows : List (List Datum)) (old : List WatchState) → AreOnward schema rows old old 0
onward_none schema rows old = record {
  long = refl;
  within = omega arith;
  rest = λ k d p q. refl;
  source = λ k d p. refl;
  op = λ k d p. refl;
  now = λ k d p. absurd (omega arith);
}

module _ (schema : List Attribute) (rows : List (List Datum)) (old : List WatchState) (few : length rows ≤ max_rows) (order : AreInOrder old) (ls : List WatchState) (i : ℕ) (h : AreOnward schema rows old ls i) where
  -- a watch shows no more rows than the root has
  seen_few : (fuel : ℕ) (over : Option ℕ) (d : WatchState) → ForSome over (λ s. (s < i) × (s < fuel)) → length (seen rows ls over) ≤ length rows
  seen_few fuel None d below = omega arith
  seen_few zero (Some s) d below = absurd (let p = (below s refl).1 in omega arith)
  seen_few (suc fuel) (Some s) d below =
      let p = below s refl in
      let w = h.within in
      let q : s < length old = omega (arith, p.0) in
      let r : s < length ls = omega (arith, h.long) in
      let src = (get_or old s d).source in
      let earlier : ForSome src (λ t. (t < i) × (t < fuel)) = λ t e. let u = order s t d q e in (omega (arith, p.0), omega (arith, p.1)) in
      let sources : (j t : ℕ) (e : WatchState) → j < length ls → (get_or ls j e).source ≡ Some t → t < j = λ j t e a b. order j t e (omega (arith, h.long)) (sym (h.source j e (omega (arith, h.long))) ∙ b) in
      let size =
      ap length (seen_at rows ls sources s d r) ∙ length-map (get_or ls s d).kept (λ j. get_or (seen rows ls (get_or ls s d).source) j [])
      ∙ ap length (h.now s d p.0) in
      let one = positions_few schema (get_or old s d).op (seen rows ls src) in
      let two = seen_few fuel src d earlier in
      omega arith

  pub onward_sources : (k s : ℕ) (d : WatchState) → k < length old → (get_or ls k d).source ≡ Some s → s < k
  onward_sources k s d p e = order k s d p (sym (h.source k d p) ∙ e)

  pub source_within : (k : ℕ) (d : WatchState) → k < length old → k ≤ i → ForSome (get_or old k d).source (λ s. s < i)
  source_within k d p q s e = let r = order k s d p e in omega arith

  -- the first i are linked
  pub onward_linked : AreLinked rows (take i ls)
  onward_linked =
      let e = h.long in
      let w = h.within in
      let long = length-take-le i ls (omega arith) in
      record {
        small = few;
        sources = λ k s d p same. onward_sources k s d (omega arith) (ap (λ (l : WatchState). l.source) (sym (get_or-take i ls k d (omega arith))) ∙ same);
        within = λ k d p.
            let q : k < i = omega arith in
            let r : k < length old = omega arith in
            let src = (get_or old k d).source in
            let same = seen_prefix rows ls i src (source_within k d r (omega arith)) in
            let one : (get_or (take i ls) k d).kept ≡ positions schema (get_or old k d).op (seen rows ls src) = ap (λ (l : WatchState). l.kept) (get_or-take i ls k d q) ∙ h.now k d q in
            let two : (get_or (take i ls) k d).source ≡ src = ap (λ (l : WatchState). l.source) (get_or-take i ls k d q) ∙ h.source k d r in
            subst (λ o. All (λ j. j < length (seen rows (take i ls) o)) (get_or (take i ls) k d).kept) (sym two)
            (subst (λ xs. All (λ j. j < length xs) (get_or (take i ls) k d).kept) (sym same)
            (subst (λ xs. All (λ j. j < length (seen rows ls src)) xs) (sym one) (positions_in schema (get_or old k d).op (seen rows ls src))));
        few = λ k d p.
            let q : k < i = omega arith in
            let r : k < length old = omega arith in
            let src = (get_or old k d).source in
            let one = ap length (ap (λ (l : WatchState). l.kept) (get_or-take i ls k d q) ∙ h.now k d q) in
            let two = positions_few schema (get_or old k d).op (seen rows ls src) in
            let three = seen_few k src d (λ s e. let a = order k s d r e in (omega arith, a)) in
            omega arith;
      }

  -- one watch more
  module _ (p : i < length old) (new : WatchState)
      (f_source : (d : WatchState) → new.source ≡ (get_or old i d).source)
      (f_op : (d : WatchState) → new.op ≡ (get_or old i d).op)
      (f_now : (d : WatchState) → new.kept ≡ positions schema (get_or old i d).op (seen rows (take i ls) (get_or old i d).source)) where
    abbrev all : List WatchState
    all = set ls i new

    pub there : i < length ls
    there = let e = h.long in omega arith

    pub here : (d : WatchState) → get_or all i d ≡ new
    here d = get_or-set_same ls i new d there

    pub other : (k : ℕ) (d : WatchState) → k ≢ i → get_or all k d ≡ get_or ls k d
    other k d ne = get_or-set_other ls i k new d ne

    pub seen_all : (over : Option ℕ) → ForSome over (λ s. s < i) → seen rows all over ≡ seen rows ls over
    seen_all over below = seen_alike rows all ls i over (take-set ls i new) below

    pub below_here : (d : WatchState) → ForSome (get_or old i d).source (λ s. s < i)
    below_here d = source_within i d p (omega arith)

    now_here : (d : WatchState) → new.kept ≡ positions schema (get_or old i d).op (seen rows ls (get_or old i d).source)
    now_here d = f_now d ∙ ap (positions schema (get_or old i d).op) (seen_prefix rows ls i (get_or old i d).source (below_here d))

    all_sources : (k s : ℕ) (d : WatchState) → k < length all → (get_or all k d).source ≡ Some s → s < k
    all_sources k s d q e = elim (cases_eq k i) [
      | inl same ↦
          let r : (get_or old k d).source ≡ Some s = ap (λ j. (get_or old j d).source) same ∙ sym (f_source d) ∙ sym (ap (λ (l : WatchState). l.source) (ap (λ j. get_or all j d) same ∙ here d)) ∙ e in
          order k s d (omega arith) r
      | inr ne ↦ onward_sources k s d (let a = length-set ls i new in let b = h.long in omega arith) (sym (ap (λ (l : WatchState). l.source) (other k d ne)) ∙ e)
    ]

    -- the rows of the watch then
    pub new_rows : (d : WatchState) → seen rows all (Some i) ≡ rows_at (seen rows (take i ls) (get_or old i d).source) new.kept
    new_rows d =
        let src = (get_or old i d).source in
        let long = length-set ls i new in
        seen_at rows all all_sources i d (let a = there in omega arith)
        ∙ ap (λ (l : WatchState). rows_at (seen rows all l.source) l.kept) (here d)
        ∙ ap (λ o. rows_at (seen rows all o) new.kept) (f_source d)
        ∙ ap (λ xs. rows_at xs new.kept) (seen_all src (below_here d) ∙ sym (seen_prefix rows ls i src (below_here d)))

    pub onward_more : AreOnward schema rows old all (i + 1)
    onward_more = record {
      long = length-set ls i new ∙ h.long;
      within = omega arith;
      rest = λ k d q r. other k d (omega arith) ∙ h.rest k d (omega arith) r;
      source = λ k d q. elim (cases_eq k i) [
        | inl e ↦ ap (λ (l : WatchState). l.source) (ap (λ j. get_or all j d) e ∙ here d) ∙ f_source d ∙ ap (λ j. (get_or old j d).source) (sym e)
        | inr ne ↦ ap (λ (l : WatchState). l.source) (other k d ne) ∙ h.source k d q
      ];
      op = λ k d q. elim (cases_eq k i) [
        | inl e ↦ ap (λ (l : WatchState). l.op) (ap (λ j. get_or all j d) e ∙ here d) ∙ f_op d ∙ ap (λ j. (get_or old j d).op) (sym e)
        | inr ne ↦ ap (λ (l : WatchState). l.op) (other k d ne) ∙ h.op k d q
      ];
      now = λ k d q. elim (cases_lt k i) [
        | inl lt ↦
            ap (λ (l : WatchState). l.kept) (other k d (omega arith)) ∙ h.now k d lt
            ∙ ap (positions schema (get_or old k d).op) (sym (seen_all (get_or old k d).source (source_within k d (omega arith) (omega arith))))
        | inr ge ↦
            let e : i ≡ k = omega arith in
            subst (λ j. (get_or all j d).kept ≡ positions schema (get_or old j d).op (seen rows all (get_or old j d).source)) e
            (ap (λ (l : WatchState). l.kept) (here d) ∙ now_here d ∙ ap (positions schema (get_or old i d).op) (sym (seen_all (get_or old i d).source (below_here d))))
      ];
    }

    -- what it costs
    cost_alike : (k : ℕ) (d : WatchState) → k < i → after_cost rows all (get_or ls k d) ≡ after_cost rows ls (get_or ls k d)
    cost_alike k d lt =
        let below : ForSome (get_or ls k d).source (λ s. s < i) = λ s e. let a = onward_sources k s d (omega arith) e in omega arith in
        ap (λ xs. if is_sorting (get_or ls k d).op then digits (length xs) else 1) (seen_all (get_or ls k d).source below)

    sum_alike : sum_by (after_cost rows all) (take i all) ≡ sum_by (after_cost rows ls) (take i ls)
    sum_alike =
        ap (sum_by (after_cost rows all)) (take-set ls i new)
        ∙ sum_by_alike (after_cost rows all) (after_cost rows ls) (take i ls) (λ k d q.
        let a = there in
        let long = length-take-le i ls (omega arith) in
        let lt : k < i = omega arith in
        subst (λ l. after_cost rows all l ≡ after_cost rows ls l) (sym (get_or-take i ls k d lt)) (cost_alike k d lt))

    pub cost_more : (start steps after : ℕ) → steps ≤ start + sum_by (after_cost rows ls) (take i ls) → after ≤ steps + after_cost rows all new → after ≤ start + sum_by (after_cost rows all) (take (i + 1) all)
    cost_more start steps after so_far one =
        let long = length-set ls i new in
        let a = there in
        let sum = sum_by_more (after_cost rows all) all i new (omega arith) in
        let same = ap (after_cost rows all) (here new) in
        let alike = sum_alike in
        omega arith

    -- what it costs one watch
    pub onward_cost : (d : WatchState) (below : List WatchState) → below ≡ take i ls → (link : WatchState) → link ≡ get_or old i d → (start after : ℕ)
        → (is_sorting link.op ≡ true → 2 ^ (after - start) ≤ 2 * length (seen rows below link.source) + 1) → (is_sorting link.op ≡ false → after ≤ start + 1)
        → after ≤ start + after_cost rows all new
    onward_cost d below is_below link is_link start after cost test =
        let size : seen rows below link.source ≡ seen rows all new.source =
        ap (λ bs. seen rows bs link.source) is_below ∙ ap (λ (l : WatchState). seen rows (take i ls) l.source) is_link ∙ seen_prefix rows ls i (get_or old i d).source (below_here d)
        ∙ sym (seen_all (get_or old i d).source (below_here d)) ∙ ap (seen rows all) (sym (f_source d)) in
        let op : link.op ≡ new.op = ap (λ (l : WatchState). l.op) is_link ∙ sym (f_op d) in
        by (is_sorting new.op) (λ e. digits_bound (after - start) (length (seen rows all new.source)) (subst (λ xs. 2 ^ (after - start) ≤ 2 * length xs + 1) size (cost (ap is_sorting op ∙ e)))) (λ e. test (ap is_sorting op ∙ e)) refl
      where
        by : (b : Bool) → (b ≡ true → after - start ≤ digits (length (seen rows all new.source))) → (b ≡ false → after ≤ start + 1) → is_sorting new.op ≡ b
            → after ≤ start + (if b then digits (length (seen rows all new.source)) else 1)
        by true f g e = let h = f refl in omega arith
        by false f g e = g refl

-- all have followed
module _ (schema : List Attribute) (before rows : List (List Datum)) (old : List WatchState) (few : length rows ≤ max_rows) (now : AreNow schema before old) (ls : List WatchState) (h : AreOnward schema rows old ls (length old)) where
  pub onward_now : AreNow schema rows ls
  onward_now = record {
    small = few;
    sources = λ k s d p e. let l = h.long in now.sources k s d (omega arith) (sym (h.source k d (omega arith)) ∙ e);
    asked = λ k d p. let l = h.long in subst (IsAsked schema) (sym (h.op k d (omega arith))) (now.asked k d (omega arith));
    now = λ k d p.
        let l = h.long in
        h.now k d (omega arith) ∙ ap (λ o. positions schema o (seen rows ls (get_or old k d).source)) (sym (h.op k d (omega arith)))
        ∙ ap (λ o. positions schema (get_or ls k d).op (seen rows ls o)) (sym (h.source k d (omega arith)));
  }
