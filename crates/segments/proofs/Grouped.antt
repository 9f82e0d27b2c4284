-- Laws of a list of parts that is kept in groups.
use Rattle.std.proofs.Common.{◌≡◌, ℕ, ◌+◌, ◌-◌, ◌<◌, ◌≤◌, List, [], ◌∷◌, ◌++◌, length, get_or, set, take, drop, refl, sym, ap, subst, ◌∙◌, arith, sum}
use Rattle.std.proofs.lemmas.List.{append_assoc, length-append, length-drop, length-set, length-take-le, set-get_or, take-append-drop, take-append-le, drop-append-le, take_more}
use Rattle.std.proofs.Math.Seq.{drop-append-add}
use Rattle.std.specs.List.{All}
use Rattle.std.proofs.lemmas.List.Elements.{All-append, All-from_recursion}
use Rattle.segments.specs.declared.segments.Place.{Place}
use Rattle.segments.specs.declared.splice.Splice.{Splice}
use Rattle.segments.specs.declared.splice.Replaced.{Replaced}
use Rattle.segments.specs.Segments.{IsPlace}
use Rattle.segments.specs.Splices.{Applies, Covers}
use Rattle.segments.specs.Joined.{joined, counts_of}
use Rattle.segments.specs.Groups.{HasLastRoom}
use Rattle.segments.proofs.Lists.{take-append-more, take-split, drop-split}
use Rattle.segments.proofs.Joined.{joined-append, length-joined-take, get_or-counts, read_place, set_place, same_counts}
use Rattle.segments.proofs.Counted.{segments_len, segments_count}
use Rattle.segments.proofs.Last.{joined-last, counts-last}

-- part k, which stands at this place in group s
module _ {X : Type 0} (ss : List (List X)) (counts : List ℕ) (k : ℕ) (p : Place) (s : List X) (h : counts ≡ counts_of ss) (found : IsPlace counts k p) (here : s ≡ get_or ss p.segment s) where
  place_is : IsPlace (counts_of ss) k p
  place_is =
      let P : List ℕ → Type 0 = λ cs. IsPlace cs k p in
      subst P h found

  pub part_is : (x : X) → x ≡ get_or s p.offset x → x ≡ get_or (joined ss) k x
  part_is x is = is ∙ read_place ss k p s place_is here x

  -- what is written to the part
  pub part_set : (x : X) → joined (set ss p.segment (set s p.offset x)) ≡ set (joined ss) k x
  part_set x = set_place ss k p s place_is here (set s p.offset x) x refl

  pub counts_with_part : (x : X) → counts ≡ counts_of (set ss p.segment (set s p.offset x))
  counts_with_part x = h ∙ sym (same_counts ss k p s place_is here (set s p.offset x) (length-set s p.offset x))

  -- the group stays as it was
  group_stays : set ss p.segment s ≡ ss
  group_stays = ap (set ss p.segment) here ∙ set-get_or ss p.segment s

  pub parts_stay : joined (set ss p.segment s) ≡ joined ss
  parts_stay = ap joined group_stays

  pub counts_stay : counts ≡ counts_of (set ss p.segment s)
  counts_stay = h ∙ ap counts_of (sym group_stays)

-- groups made of one list

-- one group more, of the items from place `from` up to `to`
pub grouped_more : {X : Type 0} (gs new : List (List X)) (xs g : List X) (from to : ℕ) → joined gs ≡ take from xs → All (λ n. n ≤ 64) (counts_of gs) → from ≤ to → to ≤ length xs → to ≤ from + 64 → g ≡ take (to - from) (drop from xs) → new ≡ gs ++ g ∷ [] → (joined new ≡ take to xs) × All (λ n. n ≤ 64) (counts_of new)
grouped_more gs new xs g from to are few order within small is made =
    let P : ℕ → Type 0 = λ n. n ≤ 64 in
    let len : length g ≤ 64 = omega (arith, ap length is, length-take-le (to - from) (drop from xs) (omega (arith, length-drop from xs))) in (
      ap joined made ∙ joined-last gs g ∙ ap (λ zs. zs ++ g) are ∙ ap (λ zs. take from xs ++ zs) is ∙ sym (take-split xs from to order),
      subst (All P) (sym (ap counts_of made ∙ counts-last gs g)) (All-append P (counts_of gs) (length g ∷ []) few (All-from_recursion P (length g ∷ []) (len, tt))),
    )

pub joined_more : {X : Type 0} (gs : List (List X)) (k : ℕ) (g : List X) → k < length gs → g ≡ get_or gs k g → joined (take (k + 1) gs) ≡ joined (take k gs) ++ g
joined_more gs k g l here = ap joined (take_more gs k g l ∙ ap (λ x. take k gs ++ x ∷ []) (sym here)) ∙ joined-last (take k gs) g

-- parts in place of some, in the groups that hold them

pub covers_counts : {X : Type 0} (gs : List (List X)) (counts : List ℕ) (e : Splice) (t : Replaced) → counts ≡ counts_of gs → Covers counts e t → Covers (counts_of gs) e t
covers_counts gs counts e t h c =
    let P : List ℕ → Type 0 = λ cs. Covers cs e t in
    subst P h c

pub applies_to_groups : {X : Type 0} (gs : List (List X)) (counts : List ℕ) (xs : List X) (e : Splice) → counts ≡ counts_of gs → joined gs ≡ xs → e.at ≤ e.end → e.end ≤ length xs → e.at + e.count + (length xs - e.end) ≤ 16777216 → Applies (sum counts) e
applies_to_groups gs counts xs e h is order within few =
    let len : sum counts ≡ length xs = segments_len gs counts h ∙ ap length is in
    record { order = order; within = omega arith; few = omega arith }

put_between : {X : Type 0} (front mid back new : List X) (i j : ℕ) → i ≤ length mid → j ≤ length mid → front ++ ((take i mid ++ (new ++ drop j mid)) ++ back) ≡ take (length front + i) (front ++ (mid ++ back)) ++ (new ++ drop (length front + j) (front ++ (mid ++ back)))
put_between front mid back new i j il jl =
    let first : take (length front + i) (front ++ (mid ++ back)) ≡ front ++ take i mid = take-append-more front (mid ++ back) i ∙ ap (λ zs. front ++ zs) (take-append-le i mid back il) in
    let rest : drop (length front + j) (front ++ (mid ++ back)) ≡ drop j mid ++ back = drop-append-add front (mid ++ back) j ∙ drop-append-le j mid back jl in
    ap (λ zs. front ++ zs) (append_assoc (take i mid) (new ++ drop j mid) back ∙ ap (λ zs. take i mid ++ zs) (append_assoc new (drop j mid) back))
    ∙ sym (append_assoc front (take i mid) (new ++ (drop j mid ++ back)))
    ∙ ap (λ zs. zs ++ (new ++ (drop j mid ++ back))) (sym first)
    ∙ ap (λ zs. take (length front + i) (front ++ (mid ++ back)) ++ (new ++ zs)) (sym rest)

module _ {X : Type 0} (gs : List (List X)) (e : Splice) (t : Replaced) (c : Covers (counts_of gs) e t) where
  abbrev pub touched : List X
  touched = joined (take (t.after - t.first) (drop t.first gs))

  front_len : length (joined (take t.first gs)) ≡ t.start
  front_len = length-joined-take t.first gs ∙ sym c.start

  touched_parts : joined gs ≡ joined (take t.first gs) ++ (touched ++ joined (drop t.after gs))
  touched_parts =
      sym (ap joined (take-append-drop t.first gs))
      ∙ joined-append (take t.first gs) (drop t.first gs)
      ∙ ap (λ zs. joined (take t.first gs) ++ zs) (ap joined (drop-split gs t.first t.after c.order) ∙ joined-append (take (t.after - t.first) (drop t.first gs)) (drop t.after gs))

  touched_len : length touched ≡ t.stop - t.start
  touched_len =
      omega (arith, front_len, length-joined-take t.after gs, c.stop, ap (λ zs. length (joined zs)) (take-split gs t.first t.after c.order), ap length (joined-append (take t.first gs) (take (t.after - t.first) (drop t.first gs))), length-append (joined (take t.first gs)) touched)

  -- the splice is within the parts of the groups that it touches
  pub splice_within : e.at ≤ e.end → (e.at - t.start ≤ e.end - t.start) × (e.end - t.start ≤ length touched)
  splice_within order = (omega arith, omega (arith, touched_len, c.behind))

  pub parts_replaced : (fresh : List (List X)) (new : List X) → e.at ≤ e.end → joined fresh ≡ take (e.at - t.start) touched ++ (new ++ drop (e.end - t.start) touched) → joined (take t.first gs ++ (fresh ++ drop t.after gs)) ≡ take e.at (joined gs) ++ (new ++ drop e.end (joined gs))
  parts_replaced fresh new order are =
      let front : List X = joined (take t.first gs) in
      let back : List X = joined (drop t.after gs) in
      let i : ℕ = e.at - t.start in
      let j : ℕ = e.end - t.start in
      let at : length front + i ≡ e.at = omega (arith, front_len, c.before) in
      let end : length front + j ≡ e.end = omega (arith, front_len, c.before) in
      let all = splice_within order in
      joined-append (take t.first gs) (fresh ++ drop t.after gs)
      ∙ ap (λ zs. front ++ zs) (joined-append fresh (drop t.after gs) ∙ ap (λ zs. zs ++ back) are)
      ∙ put_between front touched back new i j (omega (arith, all)) all.1
      ∙ ap (λ zs. take (length front + i) zs ++ (new ++ drop (length front + j) zs)) (sym touched_parts)
      ∙ ap (λ n. take n (joined gs) ++ (new ++ drop (length front + j) (joined gs))) at
      ∙ ap (λ n. take e.at (joined gs) ++ (new ++ drop n (joined gs))) end

pub length_replaced : {X : Type 0} (xs new : List X) (at end : ℕ) → at ≤ end → end ≤ length xs → length (take at xs ++ (new ++ drop end xs)) ≡ at + length new + (length xs - end)
length_replaced xs new at end order within =
    omega (arith, length-append (take at xs) (new ++ drop end xs), length-take-le at xs (omega arith), length-append new (drop end xs), length-drop end xs)

-- the last group, which has room
pub room_in_last : {X : Type 0} (gs : List (List X)) (counts : List ℕ) → counts ≡ counts_of gs → HasLastRoom gs → (0 < length counts) × (get_or counts (length counts - 1) 0 < 64)
room_in_last gs counts h r =
    let len : length counts ≡ length gs = segments_count gs counts h in
    let count : get_or counts (length counts - 1) 0 ≡ length (get_or gs (length gs - 1) []) =
    ap (λ k. get_or counts (k - 1) 0) len ∙ ap (λ cs. get_or cs (length gs - 1) 0) h ∙ get_or-counts gs (length gs - 1) (omega (arith, r.some)) in
    (omega (arith, r.some), omega (arith, r.room))
