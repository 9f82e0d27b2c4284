-- A chunk in two.
use Rattle.std.proofs.Common.{◌≡◌, ℕ, suc, ◌+◌, ◌-◌, ◌<◌, ◌≤◌, List, [], ◌∷◌, ◌++◌, length, get_or, set, take, drop, refl, ap, sym, subst, ◌∙◌, arith}
use Rattle.std.specs.List.{concat}
use Rattle.std.proofs.lemmas.List.{length-append, length-drop, length-take-le, take_at, drop_at, drop-drop, take_all, drop_all, take_more, take-append-le, drop-append-le, append_assoc, append-nil, get_or-append_right, get_or_default}
use Rattle.std.proofs.lemmas.List.Folds.{concat-append}
use Rattle.places.specs.Chunks.{AreHeld, IsSeat, cut, ends_of}
use Rattle.places.proofs.Parts.{concat_cut, concat_parts, concat_set}

module _ (cs : List (List ℕ)) (k h : ℕ) (l : k < length cs) where
  abbrev pub c : List ℕ
  c = get_or cs k []

  front_long : length (take k cs) ≡ k
  front_long = length-take-le k cs (omega arith)

  pub length-cut : length (cut k h cs) ≡ length cs + 1
  length-cut =
      let a = length-append (take k cs) (take h c ∷ drop h c ∷ drop (k + 1) cs) in
      let b = length-drop (k + 1) cs in
      let f = front_long in
      omega arith

  pub first_half : get_or (cut k h cs) k [] ≡ take h c
  first_half =
      get_or-append_right (take k cs) (take h c ∷ drop h c ∷ drop (k + 1) cs) k k [] front_long (omega arith)
      ∙ ap (λ n. get_or (take h c ∷ drop h c ∷ drop (k + 1) cs) n []) (let e : k - k ≡ 0 = omega arith in e)

  pub second_half : get_or (cut k h cs) (k + 1) [] ≡ drop h c
  second_half =
      get_or-append_right (take k cs) (take h c ∷ drop h c ∷ drop (k + 1) cs) k (k + 1) [] front_long (omega arith)
      ∙ ap (λ n. get_or (take h c ∷ drop h c ∷ drop (k + 1) cs) n []) (let e : k + 1 - k ≡ 1 = omega arith in e)

  same_front : take k (cut k h cs) ≡ take k cs
  same_front = take_at (take k cs) (take h c ∷ drop h c ∷ drop (k + 1) cs) k front_long

  pub longer_front : take (k + 1) (cut k h cs) ≡ take k cs ++ take h c ∷ []
  longer_front =
      let one : List (List ℕ) = take h c ∷ [] in
      let a = length-append (take k cs) one in
      let f = front_long in
      ap (take (k + 1)) (sym (append_assoc (take k cs) one (drop h c ∷ drop (k + 1) cs)))
      ∙ take_at (take k cs ++ one) (drop h c ∷ drop (k + 1) cs) (k + 1) (omega arith)

  pub behind_cut : drop (k + 1) (cut k h cs) ≡ drop h c ∷ drop (k + 1) cs
  behind_cut =
      let one : List (List ℕ) = take h c ∷ [] in
      let a = length-append (take k cs) one in
      let f = front_long in
      ap (drop (k + 1)) (sym (append_assoc (take k cs) one (drop h c ∷ drop (k + 1) cs)))
      ∙ drop_at (take k cs ++ one) (drop h c ∷ drop (k + 1) cs) (k + 1) (omega arith)

  pub low_seat : (o at : ℕ) → h ≤ length c → IsSeat cs k o at → o ≤ h → IsSeat (cut k h cs) k o at
  low_seat o at within s le =
      let n = length-cut in
      let a = ap length first_half in
      let b = length-take-le h c within in
      let t = s.total in
      let e = ap (λ ys. length (concat ys)) same_front in
      record {
        there = omega arith;
        within = omega arith;
        total = omega arith;
      }

  pub high_seat : (o at : ℕ) → h ≤ length c → IsSeat cs k o at → h < o → IsSeat (cut k h cs) (k + 1) (o - h) at
  high_seat o at within s lt =
      let n = length-cut in
      let a = ap length second_half in
      let b = length-drop h c in
      let t = s.total in
      let w = s.within in
      let e = ap (λ ys. length (concat ys)) longer_front in
      let f = ap length (concat-append (take k cs) (take h c ∷ [])) in
      let g = length-append (concat (take k cs)) (take h c ++ []) in
      let i = ap length (append-nil (take h c)) in
      let j = length-take-le h c within in
      record {
        there = omega arith;
        within = omega arith;
        total = omega arith;
      }

-- an element as it is read, by another default
pub by_nil : (cs : List (List ℕ)) (k : ℕ) (x : List ℕ) → k < length cs → x ≡ get_or cs k x → x ≡ get_or cs k []
by_nil cs k x l e = e ∙ get_or_default cs k x [] l

-- the front of a list and some more
pub take-append-more : {X : Type 0} (xs ys : List X) (r : ℕ) → take (length xs + r) (xs ++ ys) ≡ xs ++ take r ys
take-append-more [] ys r = ap (λ n. take n ys) (let e : 0 + r ≡ r = omega arith in e)
take-append-more (x ∷ xs) ys r =
    ap (λ n. take n (x ∷ (xs ++ ys))) (let e : suc (length xs) + r ≡ suc (length xs + r) = omega arith in e) ∙ ap (λ zs. x ∷ zs) (take-append-more xs ys r)

pub cut_list : (cs new : List (List ℕ)) (k h : ℕ) → k < length cs → new ≡ cut k h cs → concat new ≡ concat cs
cut_list cs new k h l e = ap concat e ∙ concat_cut cs k h l

-- what is held once a chunk is in two, and an empty one is gone
pub cut_held : (cs new : List (List ℕ)) (room room2 : ℕ) (ends ends2 : List ℕ) (ends_room ends_room2 : ℕ) (spare spare2 : List (List ℕ)) (k o : ℕ) → AreHeld cs room ends ends_room spare → k < length cs → new ≡ cut k o cs
    → ends2 ≡ ends_of 0 new → room ≤ room2 → ends_room2 ≡ ends_room → ((i : ℕ) (d : List ℕ) → i < length spare2 → get_or spare2 i d ≡ []) → length spare2 + 1 ≡ length spare → AreHeld new room2 ends2 ends_room2 spare2
cut_held cs new room room2 ends ends2 ends_room ends_room2 spare spare2 k o h l e p r er empty n =
    let a = ap length e in
    let b = length-cut cs k o l in
    let f = h.fits in
    let g = h.ends_fit in
    record {
      placed = p;
      few = subst (λ (xs : List ℕ). length xs ≤ 16777216) (sym (cut_list cs new k o l e)) h.few;
      empty = empty;
      fits = omega arith;
      ends_fit = omega arith;
    }

-- the parts around a seat
module _ (cs : List (List ℕ)) (k o at : ℕ) (s : IsSeat cs k o at) where
  front_is : take at (concat cs) ≡ concat (take k cs) ++ take o (get_or cs k [])
  front_is =
      let c : List ℕ = get_or cs k [] in
      let back : List ℕ = concat (drop (k + 1) cs) in
      ap (take at) (concat_parts cs k s.there) ∙ ap (λ n. take n (concat (take k cs) ++ (c ++ back))) (sym s.total)
      ∙ take-append-more (concat (take k cs)) (c ++ back) o ∙ ap (λ ys. concat (take k cs) ++ ys) (take-append-le o c back s.within)

  back_is : drop at (concat cs) ≡ drop o (get_or cs k []) ++ concat (drop (k + 1) cs)
  back_is =
      let c : List ℕ = get_or cs k [] in
      let back : List ℕ = concat (drop (k + 1) cs) in
      ap (drop at) (concat_parts cs k s.there) ∙ ap (λ n. drop n (concat (take k cs) ++ (c ++ back))) (sym s.total)
      ∙ sym (drop-drop o (length (concat (take k cs))) (concat (take k cs) ++ (c ++ back)))
      ∙ ap (drop o) (drop_at (concat (take k cs)) (c ++ back) (length (concat (take k cs))) refl) ∙ drop-append-le o c back s.within

  -- where it is the end of a chunk
  pub front_end : o ≡ length (get_or cs k []) → concat (take (k + 1) cs) ≡ take at (concat cs)
  front_end e =
      let c : List ℕ = get_or cs k [] in
      ap concat (take_more cs k [] s.there) ∙ concat-append (take k cs) (c ∷ []) ∙ ap (λ ys. concat (take k cs) ++ ys) (append-nil c ∙ sym (take_all o c (omega arith))) ∙ sym front_is

  pub back_end : o ≡ length (get_or cs k []) → concat (drop (k + 1) cs) ≡ drop at (concat cs)
  back_end e =
      let c : List ℕ = get_or cs k [] in
      ap (λ ys. ys ++ concat (drop (k + 1) cs)) (sym (drop_all o c (omega arith))) ∙ sym back_is

  -- and once the chunk is in two there
  pub front_cut : (new : List (List ℕ)) → new ≡ cut k o cs → concat (take (k + 1) new) ≡ take at (concat cs)
  front_cut new e =
      let c : List ℕ = get_or cs k [] in
      ap (λ ys. concat (take (k + 1) ys)) e ∙ ap concat (longer_front cs k o s.there) ∙ concat-append (take k cs) (take o c ∷ [])
      ∙ ap (λ ys. concat (take k cs) ++ ys) (append-nil (take o c)) ∙ sym front_is

  pub back_cut : (new : List (List ℕ)) → new ≡ cut k o cs → concat (drop (k + 1) new) ≡ drop at (concat cs)
  back_cut new e = ap (λ ys. concat (drop (k + 1) ys)) e ∙ ap concat (behind_cut cs k o s.there) ∙ sym back_is

  -- other positions come in there
  pub came_in : (more : List ℕ) → concat (set cs k (take o (get_or cs k []) ++ (more ++ drop o (get_or cs k [])))) ≡ take at (concat cs) ++ (more ++ drop at (concat cs))
  came_in more =
      let c : List ℕ = get_or cs k [] in
      let front : List ℕ = concat (take k cs) in
      let back : List ℕ = concat (drop (k + 1) cs) in
      concat_set cs k (take o c ++ (more ++ drop o c)) s.there
      ∙ ap (λ ys. front ++ ys) (append_assoc (take o c) (more ++ drop o c) back ∙ ap (λ ys. take o c ++ ys) (append_assoc more (drop o c) back))
      ∙ sym (append_assoc front (take o c) (more ++ (drop o c ++ back)))
      ∙ ap (λ ys. ys ++ (more ++ (drop o c ++ back))) (sym front_is) ∙ ap (λ ys. take at (concat cs) ++ (more ++ ys)) (sym back_is)
