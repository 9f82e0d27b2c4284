-- Laws of a list that is kept in parts, one for each segment, and of the places of items in it.
use Rattle.std.proofs.Common.{◌≡◌, ℕ, zero, suc, ◌+◌, ◌-◌, ◌<◌, ◌≤◌, Some, List, [], ◌∷◌, ◌++◌, length, get_or, set, take, drop, replicate, slice_get, refl, sym, ap, ◌∙◌, arith, sum}
use Rattle.std.proofs.lemmas.List.{append_assoc, append-nil, length-append, length-map, length-take, length-drop, length-replicate, length_push, get_or-map, get_or_default, map-set, set-get_or, take-append-drop, take-map, drop-map, map-append, map_more, take_at, drop_at, drop-drop, drop-append-le, take-append-le, take-set, drop-set}
use Rattle.std.proofs.Math.Seq.{drop-append-add}
use Rattle.std.proofs.lemmas.List.Concat.{flat_map-append, length-flat_map, get_or-flat_map}
use Rattle.std.proofs.lemmas.List.Sums.{sum-map}
use Rattle.std.proofs.lemmas.Option.{slice_get-get_or, get_or_from_slice_get}
use Rattle.segments.specs.declared.segments.Place.{Place}
use Rattle.segments.specs.declared.splice.Splice.{Splice}
use Rattle.segments.specs.declared.splice.Replaced.{Replaced}
use Rattle.segments.specs.Segments.{start_of, IsPlace}
use Rattle.segments.specs.Splices.{Applies, Covers, size_after, spliced, items_after}
use Rattle.segments.specs.Joined.{joined, counts_of}
use Rattle.segments.proofs.Lists.{take-append-more, take-split, drop-split, drop-cons-at, last_parts, set_last}
use Rattle.segments.proofs.Counts.{sum-take-suc}
use Rattle.segments.proofs.Places.{start_within}

pub joined-append : {X : Type 0} (xs ys : List (List X)) → joined (xs ++ ys) ≡ joined xs ++ joined ys
joined-append xs ys = flat_map-append (λ s. s) xs ys

pub length-joined : {X : Type 0} (ss : List (List X)) → length (joined ss) ≡ sum (counts_of ss)
length-joined ss = length-flat_map (λ s. s) ss ∙ sym (sum-map length ss)

pub length-counts : {X : Type 0} (ss : List (List X)) → length (counts_of ss) ≡ length ss
length-counts ss = length-map ss length

-- the place where part k begins
pub length-joined-take : {X : Type 0} (k : ℕ) (ss : List (List X)) → length (joined (take k ss)) ≡ start_of (counts_of ss) k
length-joined-take k ss = length-joined (take k ss) ∙ ap sum (sym (take-map length k ss))

joined-parts : {X : Type 0} (k : ℕ) (ss : List (List X)) → joined (take k ss) ++ joined (drop k ss) ≡ joined ss
joined-parts k ss = sym (joined-append (take k ss) (drop k ss)) ∙ ap joined (take-append-drop k ss)

pub part_within : {X : Type 0} (k : ℕ) (ss : List (List X)) → length (joined (take k ss)) ≤ length (joined ss)
part_within k ss =
    omega (arith, ap length (joined-parts k ss), length-append (joined (take k ss)) (joined (drop k ss)))

pub take-joined : {X : Type 0} (k : ℕ) (ss : List (List X)) → take (start_of (counts_of ss) k) (joined ss) ≡ joined (take k ss)
take-joined k ss =
    ap (take (start_of (counts_of ss) k)) (sym (joined-parts k ss)) ∙ take_at (joined (take k ss)) (joined (drop k ss)) _ (length-joined-take k ss)

pub drop-joined : {X : Type 0} (k : ℕ) (ss : List (List X)) → drop (start_of (counts_of ss) k) (joined ss) ≡ joined (drop k ss)
drop-joined k ss =
    ap (drop (start_of (counts_of ss) k)) (sym (joined-parts k ss)) ∙ drop_at (joined (take k ss)) (joined (drop k ss)) _ (length-joined-take k ss)

pub get_or-counts : {X : Type 0} (ss : List (List X)) (k : ℕ) → k < length ss → get_or (counts_of ss) k 0 ≡ length (get_or ss k [])
get_or-counts ss k l = get_or-map length ss k [] 0 l

-- the count of a part that was read
pub count_is : {X : Type 0} (ss : List (List X)) (k : ℕ) (s : List X) → k < length ss → s ≡ get_or ss k s → get_or (counts_of ss) k 0 ≡ length s
count_is ss k s l here = get_or-counts ss k l ∙ ap length (sym (here ∙ get_or_default ss k s [] l))

-- one part more
pub start_more : {X : Type 0} (ss : List (List X)) (k : ℕ) (s : List X) → k < length ss → s ≡ get_or ss k s → start_of (counts_of ss) (k + 1) ≡ start_of (counts_of ss) k + length s
start_more ss k s l here =
    let next : k + 1 ≡ suc k = omega arith in
    omega (arith, ap (start_of (counts_of ss)) next, sum-take-suc k (counts_of ss) (omega (arith, length-counts ss)), count_is ss k s l here)

pub counts_more : {X : Type 0} (ss : List (List X)) (k : ℕ) (s : List X) → k < length ss → s ≡ get_or ss k s → counts_of (take (k + 1) ss) ≡ counts_of (take k ss) ++ length s ∷ []
counts_more ss k s l here = map_more length ss k s l ∙ ap (λ x. counts_of (take k ss) ++ length x ∷ []) (sym here)

pub set-append : {X : Type 0} (xs ys : List X) (i : ℕ) (v : X) → xs ++ set ys i v ≡ set (xs ++ ys) (length xs + i) v
set-append [] ys i v = ap (λ n. set ys n v) (let e : i ≡ 0 + i = omega arith in e)
set-append (x ∷ xs) ys i v = ap (λ zs. x ∷ zs) (set-append xs ys i v) ∙ ap (λ n. set (x ∷ (xs ++ ys)) n v) (let e : suc (length xs + i) ≡ suc (length xs) + i = omega arith in e)

pub set-append-left : {X : Type 0} (xs ys : List X) (i : ℕ) (v : X) → i < length xs → set xs i v ++ ys ≡ set (xs ++ ys) i v
set-append-left [] ys i v l = absurd (omega arith)
set-append-left (x ∷ xs) ys zero v l = refl
set-append-left (x ∷ xs) ys (suc i) v l = ap (λ zs. x ∷ zs) (set-append-left xs ys i v (omega arith))

joined-set : {X : Type 0} (ss : List (List X)) (k i : ℕ) (v : X) → k < length ss → i < length (get_or ss k []) → joined (set ss k (set (get_or ss k []) i v)) ≡ set (joined ss) (length (joined (take k ss)) + i) v
joined-set [] k i v l within = absurd (omega arith)
joined-set (s ∷ ss) zero i v l within =
    set-append-left s (joined ss) i v within ∙ ap (λ n. set (s ++ joined ss) n v) (let e : i ≡ 0 + i = omega arith in e)
joined-set (s ∷ ss) (suc k) i v l within =
    ap (λ zs. s ++ zs) (joined-set ss k i v (omega arith) within)
    ∙ set-append s (joined ss) (length (joined (take k ss)) + i) v
    ∙ ap (λ n. set (s ++ joined ss) n v) (let e : length s + (length (joined (take k ss)) + i) ≡ length (s ++ joined (take k ss)) + i = omega (arith, length-append s (joined (take k ss))) in e)

-- an item of part s, which stands at this place
module _ {X : Type 0} (ss : List (List X)) (at : ℕ) (p : Place) (s : List X) (place : IsPlace (counts_of ss) at p) (here : s ≡ get_or ss p.segment s) where
  segment_in_range : p.segment < length ss
  segment_in_range = omega (arith, place.segment, length-counts ss)

  pub within_part : p.offset < length s
  within_part = omega (arith, place.within, count_is ss p.segment s segment_in_range here)

  part_is : s ≡ get_or ss p.segment []
  part_is = here ∙ get_or_default ss p.segment s [] segment_in_range

  start_is : length (joined (take p.segment ss)) + p.offset ≡ at
  start_is = omega (arith, length-joined-take p.segment ss, place.sum)

  -- it is the item at that place of the whole
  pub read_place : (d : X) → get_or s p.offset d ≡ get_or (joined ss) at d
  read_place d =
      ap (λ x. get_or x p.offset d) part_is
      ∙ sym (get_or-flat_map (λ s. s) ss p.segment p.offset [] d segment_in_range (omega (arith, within_part, ap length part_is)))
      ∙ ap (λ i. get_or (joined ss) i d) start_is

  pub get_place : (v : X) → slice_get s p.offset ≡ Some v → slice_get (joined ss) at ≡ Some v
  get_place v got =
      let bound : at < length (joined ss) =
      omega (arith, place.sum, place.within, sum-take-suc p.segment (counts_of ss) place.segment, start_within (counts_of ss) (suc p.segment) (omega (arith, place.segment)), length-joined ss) in
      slice_get-get_or (joined ss) at v bound ∙ ap (λ x. Some x) (sym (read_place v) ∙ get_or_from_slice_get s p.offset v v got)

  -- set in its part, it is set in the whole
  pub set_place : (t : List X) (v : X) → t ≡ set s p.offset v → joined (set ss p.segment t) ≡ set (joined ss) at v
  set_place t v put =
      ap (λ x. joined (set ss p.segment x)) (put ∙ ap (λ x. set x p.offset v) part_is)
      ∙ joined-set ss p.segment p.offset v segment_in_range (omega (arith, within_part, ap length part_is))
      ∙ ap (λ i. set (joined ss) i v) start_is

  -- a part of the same count in place of its part
  pub same_counts : (t : List X) → length t ≡ length s → counts_of (set ss p.segment t) ≡ counts_of ss
  same_counts t same =
      map-set length ss p.segment t ∙ ap (set (counts_of ss) p.segment) (same ∙ sym (count_is ss p.segment s segment_in_range here)) ∙ set-get_or (counts_of ss) p.segment 0

  -- the items from there on, as far as its part has them
  pub items_from_place : (n : ℕ) → p.offset + n ≤ length s → take n (drop at (joined ss)) ≡ take n (drop p.offset s)
  items_from_place n enough =
      let rest : drop (start_of (counts_of ss) p.segment) (joined ss) ≡ s ++ joined (drop (suc p.segment) ss) =
      drop-joined p.segment ss ∙ ap joined (drop-cons-at ss p.segment [] segment_in_range) ∙ ap (λ x. x ++ joined (drop (suc p.segment) ss)) (sym part_is) in
      let whole : drop at (joined ss) ≡ drop p.offset s ++ joined (drop (suc p.segment) ss) =
      ap (λ i. drop i (joined ss)) (sym place.sum) ∙ sym (drop-drop p.offset (start_of (counts_of ss) p.segment) (joined ss)) ∙ ap (drop p.offset) rest ∙ drop-append-le p.offset s (joined (drop (suc p.segment) ss)) (omega arith) in
      ap (take n) whole ∙ take-append-le n (drop p.offset s) (joined (drop (suc p.segment) ss)) (omega (arith, length-drop p.offset s))

-- one item more in the last part, s
module _ {X : Type 0} (ss : List (List X)) (s : List X) (v : X) (last : ℕ) (len : suc last ≡ length ss) (here : s ≡ get_or ss last s) where
  pub joined-pushed : joined (set ss last (s ++ v ∷ [])) ≡ joined ss ++ v ∷ []
  joined-pushed =
      ap joined (set_last ss s (s ++ v ∷ []) last len here)
      ∙ joined-append (take last ss) ((s ++ v ∷ []) ∷ [])
      ∙ ap (λ z. joined (take last ss) ++ z) (append-nil (s ++ v ∷ []))
      ∙ sym (append_assoc (joined (take last ss)) s (v ∷ []))
      ∙ ap (λ z. z ++ v ∷ []) (ap (λ z. joined (take last ss) ++ z) (sym (append-nil s)) ∙ sym (joined-append (take last ss) (s ∷ [])) ∙ ap joined (sym (last_parts ss s last len here)))

  pub counts-pushed : counts_of (set ss last (s ++ v ∷ [])) ≡ set (counts_of ss) last (get_or (counts_of ss) last 0 + 1)
  counts-pushed =
      map-set length ss last (s ++ v ∷ []) ∙ ap (set (counts_of ss) last) (length_push s v ∙ ap (λ n. n + 1) (sym (count_is ss last s (omega arith) here)))

-- parts in place of those from a up to b

joined-spliced : {X : Type 0} (ss fresh : List (List X)) (a b : ℕ) → joined (take a ss ++ (fresh ++ drop b ss)) ≡ take (start_of (counts_of ss) a) (joined ss) ++ (joined fresh ++ drop (start_of (counts_of ss) b) (joined ss))
joined-spliced ss fresh a b =
    joined-append (take a ss) (fresh ++ drop b ss)
    ∙ ap (λ zs. joined (take a ss) ++ zs) (joined-append fresh (drop b ss))
    ∙ ap (λ zs. zs ++ (joined fresh ++ joined (drop b ss))) (sym (take-joined a ss))
    ∙ ap (λ zs. take (start_of (counts_of ss) a) (joined ss) ++ (joined fresh ++ zs)) (sym (drop-joined b ss))

pub counts-spliced : {X : Type 0} (ss fresh : List (List X)) (a b : ℕ) → counts_of (take a ss ++ (fresh ++ drop b ss)) ≡ take a (counts_of ss) ++ (counts_of fresh ++ drop b (counts_of ss))
counts-spliced ss fresh a b =
    map-append length (take a ss) (fresh ++ drop b ss)
    ∙ ap (λ zs. counts_of (take a ss) ++ zs) (map-append length fresh (drop b ss))
    ∙ ap (λ zs. zs ++ (counts_of fresh ++ counts_of (drop b ss))) (sym (take-map length a ss))
    ∙ ap (λ zs. take a (counts_of ss) ++ (counts_of fresh ++ zs)) (sym (drop-map length b ss))

-- the items around the replaced parts, and in place of theirs, are those that the splice makes
spliced_is : {X : Type 0} (xs : List X) (e : Splice) (t : Replaced) (v : X) → t.start ≤ e.at → e.end ≤ t.stop → take t.start xs ++ (items_after xs e t v ++ drop t.stop xs) ≡ spliced xs e.at e.end e.count v
spliced_is {X} xs e t v before behind =
    let front : take e.at xs ≡ take t.start xs ++ take (e.at - t.start) (drop t.start xs) = take-split xs t.start e.at before in
    let back : drop e.end xs ≡ take (t.stop - e.end) (drop e.end xs) ++ drop t.stop xs = drop-split xs e.end t.stop behind in
    let near : List X = take (e.at - t.start) (drop t.start xs) in
    let far : List X = take (t.stop - e.end) (drop e.end xs) in
    let copies : List X = replicate e.count v in
    let inner : items_after xs e t v ++ drop t.stop xs ≡ near ++ (copies ++ (far ++ drop t.stop xs)) =
    append_assoc near (copies ++ far) (drop t.stop xs) ∙ ap (λ ys. near ++ ys) (append_assoc copies far (drop t.stop xs)) in
    ap (λ ys. take t.start xs ++ ys) inner
    ∙ sym (append_assoc (take t.start xs) near (copies ++ (far ++ drop t.stop xs)))
    ∙ ap (λ ys. ys ++ (copies ++ (far ++ drop t.stop xs))) (sym front)
    ∙ ap (λ ys. take e.at xs ++ (copies ++ ys)) (sym back)

-- what the edited parts are together
pub joined_after : {X : Type 0} (ss fresh : List (List X)) (e : Splice) (t : Replaced) (v : X) → Covers (counts_of ss) e t → joined fresh ≡ items_after (joined ss) e t v → joined (take t.first ss ++ (fresh ++ drop t.after ss)) ≡ spliced (joined ss) e.at e.end e.count v
joined_after ss fresh e t v c made =
    joined-spliced ss fresh t.first t.after
    ∙ ap (λ n. take n (joined ss) ++ (joined fresh ++ drop (start_of (counts_of ss) t.after) (joined ss))) (sym c.start)
    ∙ ap (λ n. take t.start (joined ss) ++ (joined fresh ++ drop n (joined ss))) (sym c.stop)
    ∙ ap (λ xs. take t.start (joined ss) ++ (xs ++ drop t.stop (joined ss))) made
    ∙ spliced_is (joined ss) e t v c.before c.behind

pub length-spliced : {X : Type 0} (xs : List X) (e : Splice) (v : X) → Applies (length xs) e → length (spliced xs e.at e.end e.count v) ≡ e.at + e.count + (length xs - e.end)
length-spliced xs e v a =
    length-append (take e.at xs) (replicate e.count v ++ drop e.end xs)
    ∙ (omega (arith, length-take e.at xs, length-append (replicate e.count v) (drop e.end xs), length-replicate e.count v, length-drop e.end xs, a.order, a.within))

-- the counts of the edited parts are few
pub few_after : {X : Type 0} (ss fresh : List (List X)) (e : Splice) (t : Replaced) (v : X) → Applies (length (joined ss)) e → Covers (counts_of ss) e t → joined fresh ≡ items_after (joined ss) e t v → sum (take t.first (counts_of ss) ++ (counts_of fresh ++ drop t.after (counts_of ss))) ≤ 16777216
few_after ss fresh e t v a c made =
    omega (arith, ap sum (counts-spliced ss fresh t.first t.after), length-joined (take t.first ss ++ (fresh ++ drop t.after ss)), ap length (joined_after ss fresh e t v c made), length-spliced (joined ss) e v a, a.few)

pub stop_within : {X : Type 0} (ss : List (List X)) (e : Splice) (t : Replaced) → Covers (counts_of ss) e t → t.stop ≤ length (joined ss)
stop_within ss e t c = omega (arith, start_within (counts_of ss) t.after c.in_range, length-joined ss, c.stop)

pub length-items_after : {X : Type 0} (ss : List (List X)) (e : Splice) (t : Replaced) (v : X) → Applies (length (joined ss)) e → Covers (counts_of ss) e t → length (items_after (joined ss) e t v) ≡ size_after e t
length-items_after {X} ss e t v a c =
    let xs : List X = joined ss in
    let stop : t.stop ≤ length xs = stop_within ss e t c in
    let near : length (take (e.at - t.start) (drop t.start xs)) ≡ e.at - t.start = length-take (e.at - t.start) (drop t.start xs) ∙ (omega (arith, length-drop t.start xs, a.order, a.within)) in
    let far : length (take (t.stop - e.end) (drop e.end xs)) ≡ t.stop - e.end = length-take (t.stop - e.end) (drop e.end xs) ∙ (omega (arith, length-drop e.end xs)) in
    length-append (take (e.at - t.start) (drop t.start xs)) (replicate e.count v ++ take (t.stop - e.end) (drop e.end xs))
    ∙ (omega (arith, near, far, length-append (replicate e.count v) (take (t.stop - e.end) (drop e.end xs)), length-replicate e.count v))

pub size_few_of : {X : Type 0} (ss : List (List X)) (e : Splice) (t : Replaced) → Applies (length (joined ss)) e → Covers (counts_of ss) e t → size_after e t ≤ 16777216
size_few_of ss e t a c = omega (arith, a.few, a.within, stop_within ss e t c)

-- a part with items in place of n of its own, from a place on

module _ {X : Type 0} (ss : List (List X)) (k at offset n : ℕ) (s r : List X) (l : k < length ss) (here : s ≡ get_or ss k s) (place : start_of (counts_of ss) k + offset ≡ at) (within : offset + n ≤ length s) where
  abbrev before : List X
  before = joined (take k ss)

  abbrev behind : List X
  behind = joined (drop (k + 1) ss)

  begins : length before ≡ start_of (counts_of ss) k
  begins = length-joined-take k ss

  all_parts : (t : List X) → joined (set ss k t) ≡ before ++ (t ++ behind)
  all_parts t =
      ap joined (sym (take-append-drop k (set ss k t)))
      ∙ joined-append (take k (set ss k t)) (drop k (set ss k t))
      ∙ ap (λ z. joined z ++ joined (drop k (set ss k t))) (take-set ss k t)
      ∙ ap (λ z. before ++ joined z) (drop-set ss k t l)

  whole : joined ss ≡ before ++ (s ++ behind)
  whole = ap joined (sym (set-get_or ss k s)) ∙ all_parts (get_or ss k s) ∙ ap (λ z. before ++ (z ++ behind)) (sym here)

  taken : take at (joined ss) ≡ before ++ take offset s
  taken =
      ap (λ i. take i (joined ss)) (let e : at ≡ length before + offset = omega (arith, begins, place) in e)
      ∙ ap (take (length before + offset)) whole
      ∙ take-append-more before (s ++ behind) offset
      ∙ ap (λ z. before ++ z) (take-append-le offset s behind (omega arith))

  dropped : drop (at + n) (joined ss) ≡ drop (offset + n) s ++ behind
  dropped =
      ap (λ i. drop i (joined ss)) (let e : at + n ≡ length before + (offset + n) = omega (arith, begins, place) in e)
      ∙ ap (drop (length before + (offset + n))) whole
      ∙ drop-append-add before (s ++ behind) (offset + n)
      ∙ drop-append-le (offset + n) s behind within

  pub spliced_part : joined (set ss k (take offset s ++ (r ++ drop (offset + n) s))) ≡ take at (joined ss) ++ (r ++ drop (at + n) (joined ss))
  spliced_part =
      all_parts (take offset s ++ (r ++ drop (offset + n) s))
      ∙ ap (λ z. before ++ z) (append_assoc (take offset s) (r ++ drop (offset + n) s) behind ∙ ap (λ z. take offset s ++ z) (append_assoc r (drop (offset + n) s) behind))
      ∙ sym (append_assoc before (take offset s) (r ++ (drop (offset + n) s ++ behind)))
      ∙ ap (λ z. z ++ (r ++ (drop (offset + n) s ++ behind))) (sym taken)
      ∙ ap (λ z. take at (joined ss) ++ (r ++ z)) (sym dropped)
