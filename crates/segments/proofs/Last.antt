-- Laws of a list that is kept in parts, the last of which stands by itself.
use Rattle.std.proofs.Common.{◌≡◌, ℕ, ◌+◌, ◌-◌, ◌<◌, ◌≤◌, Some, List, [], ◌∷◌, ◌++◌, length, get_or, set, take, drop, slice_get, refl, sym, ap, subst, ◌∙◌, arith, inl, inr, min, sum}
use Rattle.std.proofs.lemmas.List.{append_assoc, append-nil, length-append, map-append, get_or_append_left, get_or-append_right, get_or_default, drop-append-le, take-append-le, take_all, take_at, length-drop, length_push}
use Rattle.std.proofs.lemmas.Bool.{cases_lt}
use Rattle.std.proofs.Math.Seq.{drop-append-add, get_or-append_seam}
use Rattle.std.proofs.lemmas.Option.{slice_get-get_or, get_or_from_slice_get}
use Rattle.segments.specs.declared.segments.Place.{Place}
use Rattle.segments.specs.Segments.{IsPlace}
use Rattle.segments.specs.Joined.{joined, counts_of}
use Rattle.segments.proofs.Lists.{last_parts, take-append-more}
use Rattle.segments.proofs.Joined.{joined-append, set-append, length-joined, length-counts}

-- reads in a list that is made of two

pub slice_get-left : {X : Type 0} (xs ys : List X) (i : ℕ) (v : X) → i < length xs → slice_get xs i ≡ Some v → slice_get (xs ++ ys) i ≡ Some v
slice_get-left xs ys i v l got =
    slice_get-get_or (xs ++ ys) i v (omega (arith, length-append xs ys))
    ∙ ap (λ x. Some x) (get_or_append_left xs ys v i l ∙ get_or_from_slice_get xs i v v got)

pub slice_get-right : {X : Type 0} (xs ys : List X) (i : ℕ) (v : X) → length xs ≤ i → i - length xs < length ys → slice_get ys (i - length xs) ≡ Some v → slice_get (xs ++ ys) i ≡ Some v
slice_get-right xs ys i v le l got =
    slice_get-get_or (xs ++ ys) i v (omega (arith, length-append xs ys))
    ∙ ap (λ x. Some x) (get_or-append_right xs ys (length xs) i v refl le ∙ get_or_from_slice_get ys (i - length xs) v v got)

pub set-right : {X : Type 0} (xs ys : List X) (i : ℕ) (v : X) → length xs ≤ i → xs ++ set ys (i - length xs) v ≡ set (xs ++ ys) i v
set-right xs ys i v le = set-append xs ys (i - length xs) v ∙ ap (λ k. set (xs ++ ys) k v) (let e : length xs + (i - length xs) ≡ i = omega arith in e)

pub drop-right : {X : Type 0} (xs ys : List X) (n : ℕ) → length xs ≤ n → drop n (xs ++ ys) ≡ drop (n - length xs) ys
drop-right xs ys n le =
    ap (λ k. drop k (xs ++ ys)) (let e : n ≡ length xs + (n - length xs) = omega arith in e) ∙ drop-append-add xs ys (n - length xs)

-- the items from a place on, of which the first list has n, and the second k more
pub take-both : {X : Type 0} (xs ys : List X) (from n k : ℕ) → from ≤ length xs → n ≡ length xs - from → take (n + k) (drop from (xs ++ ys)) ≡ take n (drop from xs) ++ take k ys
take-both xs ys from n k le is =
    let rest = drop from xs in
    let len : length rest ≡ n = omega (arith, length-drop from xs) in
    ap (take (n + k)) (drop-append-le from xs ys le)
    ∙ ap (λ m. take (m + k) (rest ++ ys)) (sym len)
    ∙ take-append-more rest ys k
    ∙ ap (λ zs. zs ++ take k ys) (sym (take_all n rest (omega arith)))

-- so many items from a place on, of which the first list has m
pub take-across : {X : Type 0} (xs ys : List X) (from n m : ℕ) → from ≤ length xs → m ≡ min n (length xs - from) → take n (drop from (xs ++ ys)) ≡ take m (drop from xs) ++ take (n - m) ys
take-across xs ys from n m le is =
    elim (cases_lt (length xs - from) n) [
      | inl more ↦
          let all : m ≡ length xs - from = omega arith in
          ap (λ k. take k (drop from (xs ++ ys))) (let e : n ≡ m + (n - m) = omega arith in e) ∙ take-both xs ys from m (n - m) le all
      | inr enough ↦
          let some : n ≡ m = omega arith in
          ap (take n) (drop-append-le from xs ys le)
          ∙ take-append-le n (drop from xs) ys (omega (arith, length-drop from xs))
          ∙ ap (λ k. take k (drop from xs)) some
          ∙ sym (append-nil (take m (drop from xs)))
          ∙ ap (λ k. take m (drop from xs) ++ take k ys) (let e : 0 ≡ n - m = omega arith in e)
    ]

-- what was copied of both, the second behind the first
pub copied-across : {X : Type 0} (xs ys into front back post : List X) (from m : ℕ) → from ≤ length xs → m ≡ min (length into) (length xs - from) → length front ≡ m → front ≡ take m (drop from xs) → back ≡ take (length into - m) ys → post ≡ []
    → take m (front ++ drop m into) ++ (back ++ post) ≡ take (length into) (drop from (xs ++ ys))
copied-across xs ys into front back post from m le is len first second none =
    ap (λ zs. zs ++ (back ++ post)) (take_at front (drop m into) m len)
    ∙ ap (λ zs. front ++ zs) (ap (λ zs. back ++ zs) none ∙ append-nil back ∙ second)
    ∙ ap (λ zs. zs ++ take (length into - m) ys) first
    ∙ sym (take-across xs ys from (length into) m le is)

-- a list of parts with one more

module _ {X : Type 0} (head : List (List X)) (s : List X) where
  pub joined-last : joined (head ++ s ∷ []) ≡ joined head ++ s
  joined-last = joined-append head (s ∷ []) ∙ ap (λ z. joined head ++ z) (append-nil s)

  pub counts-last : counts_of (head ++ s ∷ []) ≡ counts_of head ++ length s ∷ []
  counts-last = map-append length head (s ∷ [])

  pub length-last : length (head ++ s ∷ []) ≡ length head + 1
  length-last = length-append head (s ∷ [])

  pub last_is : get_or (head ++ s ∷ []) (length (head ++ s ∷ []) - 1) [] ≡ s
  last_is =
      let e : length (head ++ s ∷ []) - 1 ≡ length head = omega (arith, length-last) in
      ap (λ k. get_or (head ++ s ∷ []) k []) e ∙ get_or-append_seam head s [] []

  pub joined-last-more : (v : X) → joined (head ++ (s ++ v ∷ []) ∷ []) ≡ joined (head ++ s ∷ []) ++ v ∷ []
  joined-last-more v =
      joined-append head ((s ++ v ∷ []) ∷ [])
      ∙ ap (λ z. joined head ++ z) (append-nil (s ++ v ∷ []))
      ∙ sym (append_assoc (joined head) s (v ∷ []))
      ∙ ap (λ z. z ++ v ∷ []) (sym joined-last)

-- a list of some parts is those before the last, and the last
pub front_and_last : {X : Type 0} (ss : List (List X)) → 0 < length ss → ss ≡ take (length ss - 1) ss ++ get_or ss (length ss - 1) [] ∷ []
front_and_last ss some =
    let last : ℕ = length ss - 1 in
    last_parts ss (get_or ss last []) last (omega arith) (get_or_default ss last [] (get_or ss last []) (omega arith))

-- a list without its last item

pub front-push : {X : Type 0} (xs : List X) (x : X) → take (length (xs ++ x ∷ []) - 1) (xs ++ x ∷ []) ≡ xs
front-push xs x = take_at xs (x ∷ []) (length (xs ++ x ∷ []) - 1) (omega (arith, length_push xs x))

pub front_parts : {X : Type 0} (xs : List X) (d : X) → 0 < length xs → xs ≡ take (length xs - 1) xs ++ get_or xs (length xs - 1) d ∷ []
front_parts xs d some =
    let last : ℕ = length xs - 1 in
    last_parts xs (get_or xs last d) last (omega arith) (get_or_default xs last d (get_or xs last d) (omega arith))

-- the last part without its last item
pub joined-front : {X : Type 0} (head : List (List X)) (s : List X) (d : X) → 0 < length s → joined (head ++ take (length s - 1) s ∷ []) ≡ take (length (joined (head ++ s ∷ [])) - 1) (joined (head ++ s ∷ []))
joined-front head s d some =
    let t = take (length s - 1) s in
    let x = get_or s (length s - 1) d in
    let whole : joined (head ++ s ∷ []) ≡ joined (head ++ t ∷ []) ++ x ∷ [] =
    ap (λ z. joined (head ++ z ∷ [])) (front_parts s d some) ∙ joined-last-more head t x in
    sym (front-push (joined (head ++ t ∷ [])) x) ∙ ap (λ z. take (length z - 1) z) (sym whole)

-- places in a list of parts with one more

module _ {X : Type 0} (head : List (List X)) (s : List X) (at : ℕ) where
  pub place-left : (p : Place) → IsPlace (counts_of head) at p → IsPlace (counts_of (head ++ s ∷ [])) at p
  place-left p h =
      let P : List ℕ → Type 0 = λ cs. IsPlace cs at p in
      let cs : List ℕ = counts_of head in
      subst P (sym (counts-last head s)) (record {
        segment = omega (arith, h.segment, length-append cs (length s ∷ []));
        within = omega (arith, h.within, get_or_append_left cs (length s ∷ []) 0 p.segment h.segment);
        sum = ap (λ n. n + p.offset) (ap sum (take-append-le p.segment cs (length s ∷ []) (omega (arith, h.segment)))) ∙ h.sum;
      })

  pub place-last : (p : Place) → length (joined head) ≤ at → at < length (joined (head ++ s ∷ [])) → p.segment ≡ length head → p.offset ≡ at - length (joined head) → IsPlace (counts_of (head ++ s ∷ [])) at p
  place-last p le l is off =
      let P : List ℕ → Type 0 = λ cs. IsPlace cs at p in
      let cs : List ℕ = counts_of head in
      let len : length cs ≡ length head = length-counts head in
      let here : p.segment ≡ length cs = is ∙ sym len in
      let count : get_or (cs ++ length s ∷ []) p.segment 0 ≡ length s = ap (λ k. get_or (cs ++ length s ∷ []) k 0) here ∙ get_or-append_seam cs (length s) [] 0 in
      let front : take p.segment (cs ++ length s ∷ []) ≡ cs = take_at cs (length s ∷ []) p.segment (sym here) in
      let start : sum (take p.segment (cs ++ length s ∷ [])) ≡ length (joined head) = ap sum front ∙ sym (length-joined head) in
      subst P (sym (counts-last head s)) (record {
        segment = omega (arith, here, length-append cs (length s ∷ []));
        within = omega (arith, count, off, l, le, ap length (joined-last head s), length-append (joined head) s);
        sum = omega (arith, start, off, le);
      })
