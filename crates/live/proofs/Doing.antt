-- What answers say of the rows of watches.
use Rattle.std.proofs.Common.{◌≡◌, ℕ, zero, suc, ◌+◌, ◌-◌, ◌<◌, ◌≤◌, ◌==◌, Bool, true, false, not, if◌then◌else◌, List, [], ◌∷◌, ◌++◌, length, get_or, map, take, drop, Option, Some, None, refl, ap, sym, subst, ◌∙◌, arith, inl, inr}
use Rattle.std.specs.List.{filter}
use Rattle.std.proofs.lemmas.Bool.{cases_lt, eqb-false, eqb-true}
use Rattle.std.proofs.lemmas.List.{append-nil, drop_at, drop_more, get_or_append_left, get_or-append_right, length-append, length-take-le, take_at, take-append-drop}
use Rattle.std.proofs.lemmas.List.Elements.{filter-append}
use Rattle.std.proofs.lemmas.List.Edits.{length-remove}
use Rattle.mk_value.specs.Data.{Datum}
use Rattle.mk_value.specs.Heading.{Attribute}
use Rattle.relations.specs.Positions.{numbers}
use Rattle.relations.proofs.Ascending.{in_at, place_of}
use Rattle.live.specs.Answers.{HasDone}
use Rattle.live.specs.Chains.{AreNow, seen}
use Rattle.live.specs.Edits.{AreLeft, IsSpread}
use Rattle.live.specs.Leaving.{goes_at, is_inside, places_among, rows_left, went}
use Rattle.live.specs.States.{WatchState}
use Rattle.live.specs.Turns.{answer_of, still_watch}
use Rattle.live.specs.Watching.{IsTurn, comes_to, told}
use Rattle.live.specs.declared.answer.Answer.{Answer}
use Rattle.live.specs.declared.answer.Answer.TheVariants.{Nothing, Remove, RemoveAmong}
use Rattle.live.specs.declared.turn.Turn.{Turn}
use Rattle.live.specs.declared.turn.Turn.TheVariants.{Still, Comes, Goes, Changes, Moves}
use Rattle.live.proofs.AtOnce.{still_is, still_long}
use Rattle.live.proofs.Gone.{seen_left}
use Rattle.live.proofs.Seeing.{place_at, seen_same, seen_size}
use Rattle.live.proofs.Leaving.{rows_alike, rows_span, stays_or_goes}
use Rattle.row_edits.proofs.Runs.{inside, outside_high, outside_low}
use Rattle.live.proofs.Members.{filter_in, in_filter, in_numbers, numbers_in}

-- copies of a row that came
pub came_done : (o : Option ℕ) (n : ℕ) → 0 < n → (gone : ℕ → Bool) (row : List Datum) (old new : List (List Datum)) → IsSpread (comes_to (told false None o)) n row old new → HasDone (answer_of n (told false None o)) gone old new
came_done None n some gone row old new h = h.made
came_done (Some p) n some gone row old new h = (row, some, h)

-- one row of a turn
pub turn_done : (t : Turn) (gone : ℕ → Bool) (old new : List (List Datum)) → IsTurn t old new → HasDone (answer_of 1 t) gone old new
turn_done Still gone old new h = sym h.rest
turn_done (Comes p) gone old new h =
    let q = h.came p refl in
    let front = length-take-le p new (omega arith) in
    let one = length-remove new p q in
    let same = ap length h.rest in (
      get_or new p [],
      omega arith,
      record {
        within = λ r e. let f : p ≡ r = cc in omega arith;
        made =
            sym (take-append-drop p new) ∙ ap (λ ys. take p new ++ ys) (drop_more new p [] q)
            ∙ ap (λ ys. ys ++ get_or new p [] ∷ drop (p + 1) new) (sym (ap (take p) h.rest ∙ take_at (take p new) (drop (suc p) new) p front))
            ∙ ap (λ ys. take p old ++ get_or new p [] ∷ ys) (sym (ap (drop p) h.rest ∙ drop_at (take p new) (drop (suc p) new) p front ∙ ap (λ n. drop n new) (let e : suc p ≡ p + 1 = omega arith in e)));
      },
    )
turn_done (Goes p) gone old new h =
    let q = h.went p refl in
    (omega arith, omega arith, sym h.rest ∙ ap (λ n. take p old ++ drop n old) (let e : suc p ≡ p + 1 = omega arith in e))
turn_done (Changes p) gone old new h = h
turn_done (Moves p q) gone old new h = h

-- the places at which rows stood that went, of so many
abbrev places : (ℕ → Bool) → ℕ → List ℕ
places gone n = filter gone (numbers n)

one_more : (gone : ℕ → Bool) (n : ℕ) → gone n ≡ true → places gone (suc n) ≡ places gone n ++ n ∷ []
one_more gone n e = filter-append gone (numbers n) (n ∷ []) ∙ ap (λ b. places gone n ++ (if b then n ∷ [] else [])) e

one_less : (gone : ℕ → Bool) (n : ℕ) → gone n ≡ false → places gone (suc n) ≡ places gone n
one_less gone n e = filter-append gone (numbers n) (n ∷ []) ∙ ap (λ b. places gone n ++ (if b then n ∷ [] else [])) e ∙ append-nil (places gone n)

below : (gone : ℕ → Bool) (n j d : ℕ) → j < length (places gone n) → get_or (places gone n) j d < n
below gone n j d q = in_numbers n (get_or (places gone n) j d) ((in_filter gone (numbers n) (get_or (places gone n) j d) (in_at (places gone n) j d q)).0)

-- they ascend
up : (gone : ℕ → Bool) (n j k : ℕ) → j ≤ k → k < length (places gone n) → get_or (places gone n) j 0 + (k - j) ≤ get_or (places gone n) k 0
up gone zero j k le q = absurd (omega arith)
up gone (suc n) j k le q = elim (stays_or_goes (gone n)) [
  | inl e ↦
      subst (λ ps. get_or ps j 0 + (k - j) ≤ get_or ps k 0) (sym (one_less gone n e))
      (up gone n j k le (let l = ap length (one_less gone n e) in omega arith))
  | inr e ↦
      let l = ap length (one_more gone n e) ∙ length-append (places gone n) (n ∷ []) in
      subst (λ ps. get_or ps j 0 + (k - j) ≤ get_or ps k 0) (sym (one_more gone n e))
      (elim (cases_lt k (length (places gone n))) [
        | inl near ↦
            let a = get_or_append_left (places gone n) (n ∷ []) 0 j (omega arith) in
            let b = get_or_append_left (places gone n) (n ∷ []) 0 k near in
            let c = up gone n j k le near in
            omega arith
        | inr far ↦
            let is : k ≡ length (places gone n) = omega arith in
            let b : get_or (places gone n ++ n ∷ []) k 0 ≡ n = get_or-append_right (places gone n) (n ∷ []) (length (places gone n)) k 0 refl far ∙ ap (λ m. get_or (n ∷ []) m 0) (let z : k - length (places gone n) ≡ 0 = omega arith in z) in
            elim (cases_lt j k) [
              | inl less ↦
                  let a = get_or_append_left (places gone n) (n ∷ []) 0 j (omega arith) in
                  let c = up gone n j (k - 1) (omega arith) (omega arith) in
                  let d = below gone n (k - 1) 0 (omega arith) in
                  omega arith
              | inr same ↦ let z : j ≡ k = omega arith in let y = ap (λ m. get_or (places gone n ++ n ∷ []) m 0) z in omega arith
            ]
      ])
]

-- rows of which those at these places went
module _ (gone : ℕ → Bool) (xs : List (List Datum)) where
  abbrev n : ℕ
  n = length xs

  at_place : (i : ℕ) → i < n → gone i ≡ true → (j : ℕ) × (j < length (places gone n)) × ((d : ℕ) → get_or (places gone n) j d ≡ i)
  at_place i q g = place_of (places gone n) i (filter_in gone (numbers n) i (numbers_in n i q) g)

  gone_at : (j : ℕ) → j < length (places gone n) → gone (get_or (places gone n) j 0) ≡ true
  gone_at j q = (in_filter gone (numbers n) (get_or (places gone n) j 0) (in_at (places gone n) j 0 q)).1

  all_stay : length (places gone n) ≡ 0 → rows_left gone xs ≡ xs
  all_stay none =
      rows_alike gone (is_inside 0 0) xs (λ i q. stay i q)
      ∙ sym (rows_span 0 0 xs (omega arith))
    where
      stay : (i : ℕ) → i < n → gone i ≡ is_inside 0 0 i
      stay i q = elim (stays_or_goes (gone i)) [
        | inl e ↦ e ∙ sym (ap not (outside_high 0 0 i (omega arith)))
        | inr e ↦ let r = at_place i q e in let p = r.1 in absurd (omega arith)
      ]

  module _ (some : 0 < length (places gone n)) (side : get_or (places gone n) (length (places gone n) - 1) 0 + 1 ≡ get_or (places gone n) 0 0 + length (places gone n)) where
    abbrev first : ℕ
    first = get_or (places gone n) 0 0

    abbrev many : ℕ
    many = length (places gone n)

    pub span_within : first + many ≤ n
    span_within = let a = below gone n (many - 1) 0 (omega arith) in omega arith

    here : (i : ℕ) → first ≤ i → i < first + many → gone i ≡ true
    here i p q =
        let j : ℕ = i - first in
        let a = up gone n 0 j (omega arith) (omega arith) in
        let b = up gone n j (many - 1) (omega arith) (omega arith) in
        let is : get_or (places gone n) j 0 ≡ i = omega arith in
        sym (ap gone is) ∙ gone_at j (omega arith)

    spanned : (i : ℕ) → i < n → gone i ≡ is_inside first many i
    spanned i q = elim (cases_lt i first) [
      | inl low ↦ elim (stays_or_goes (gone i)) [
        | inl e ↦ e ∙ sym (ap not (outside_low first many i low))
        | inr e ↦ let r = at_place i q e in let p = r.1 in let is = r.2 0 in let a = up gone n 0 r.0 (omega arith) p in absurd (omega arith)
      ]
      | inr p ↦ elim (cases_lt i (first + many)) [
        | inl near ↦ here i p near ∙ sym (ap not (inside first many i p near))
        | inr far ↦ elim (stays_or_goes (gone i)) [
          | inl e ↦ e ∙ sym (ap not (outside_high first many i far))
          | inr e ↦ let r = at_place i q e in let p = r.1 in let is = r.2 0 in let a = up gone n r.0 (many - 1) (omega arith) (omega arith) in absurd (omega arith)
        ]
      ]
    ]

    pub span_left : rows_left gone xs ≡ take first xs ++ drop (first + many) xs
    span_left = rows_alike gone (is_inside first many) xs spanned ∙ sym (rows_span first many xs span_within)

  by_tests : (a b : Bool) (p m at count : ℕ) (ys : List (List Datum)) → (a ≡ true → HasDone Nothing gone xs ys) → (a ≡ false → b ≡ true → HasDone (Remove p m) gone xs ys) → HasDone (RemoveAmong at count) gone xs ys
      → HasDone (if a then Nothing else (if b then Remove p m else RemoveAmong at count)) gone xs ys
  by_tests true b p m at count ys f g h = f refl
  by_tests false true p m at count ys f g h = g refl refl
  by_tests false false p m at count ys f g h = h

  pub went_done : (at count : ℕ) → HasDone (went at count (places gone n)) gone xs (rows_left gone xs)
  went_done at count =
      by_tests (length (places gone n) == 0) (get_or (places gone n) (length (places gone n) - 1) 0 + 1 == get_or (places gone n) 0 0 + length (places gone n))
      (get_or (places gone n) 0 0) (length (places gone n)) at count (rows_left gone xs)
      (λ e. all_stay (eqb-true (length (places gone n)) 0 e))
      (λ e f.
      let some : 0 < length (places gone n) = elim (cases_lt 0 (length (places gone n))) [ inl p ↦ p | inr p ↦ absurd (eqb-false (length (places gone n)) 0 e (omega arith)) ] in
      let side = eqb-true (get_or (places gone n) (length (places gone n) - 1) 0 + 1) (get_or (places gone n) 0 0 + length (places gone n)) f in
      (some, span_within some side, span_left some side))
      refl

places_alike : (f g : ℕ → Bool) (n : ℕ) → ((j : ℕ) → j < n → f j ≡ g j) → places f n ≡ places g n
places_alike f g zero same = refl
places_alike f g (suc n) same =
    filter-append f (numbers n) (n ∷ []) ∙ ap (λ xs. xs ++ (if f n then n ∷ [] else [])) (places_alike f g n (λ j p. same j (omega arith)))
    ∙ ap (λ b. places g n ++ (if b then n ∷ [] else [])) (same n (omega arith)) ∙ sym (filter-append g (numbers n) (n ∷ []))

-- watches that have left out what went
module _ (schema : List Attribute) (before rows : List (List Datum)) (at count : ℕ) (old new : List WatchState) (le : at + count ≤ length before) (made : rows ≡ take at before ++ drop (at + count) before)
    (h : AreNow schema before old) (left : AreLeft at count old new) (k : ℕ) (d : WatchState) (p : k < length old) where
  pub left_done : HasDone (get_or new k d).answer (goes_at at count old (Some k)) (seen before old (Some k)) (seen rows new (Some k))
  left_done =
      let xs = seen before old (Some k) in
      let gone : ℕ → Bool = goes_at at count old (Some k) in
      let w = get_or old k d in
      let size = seen_size before old (Some k) h.sources k d refl p in
      let same : places_among at count old w ≡ places gone (length xs) =
      places_alike (λ i. goes_at at count old w.source (get_or w.kept i 0)) gone (length w.kept) (λ j q. ap (is_inside at count) (sym (place_at old h.sources k d p j q)))
      ∙ ap (places gone) (sym size) in
      subst (λ (a : Answer). HasDone a gone xs (seen rows new (Some k))) (sym (left.answer k d p ∙ ap (went at count) same))
      (subst (HasDone (went at count (places gone (length xs))) gone xs) (sym (seen_left schema before rows at count old new le made h left (length old) (Some k) d (λ s e. let f : k ≡ s = cc in (omega arith, omega arith))))
      (went_done gone xs at count))

-- watches that have answered nothing
pub still_done : (before rows : List (List Datum)) (old : List WatchState) → rows ≡ before → (gone : ℕ → Bool) (k : ℕ) (d : WatchState) → k < length old
    → HasDone (get_or (map still_watch old) k d).answer gone (seen before old (Some k)) (seen rows (map still_watch old) (Some k))
still_done before rows old same gone k d p =
    subst (λ (w : WatchState). HasDone w.answer gone (seen before old (Some k)) (seen rows (map still_watch old) (Some k))) (sym (still_is old k d p))
    (ap (λ rs. seen rs (map still_watch old) (Some k)) same
    ∙ seen_same before old (map still_watch old) (still_long old) (λ j e r. ap (λ (w : WatchState). w.source) (still_is old j e r)) (λ j e r. ap (λ (w : WatchState). w.kept) (still_is old j e r)) (Some k))
