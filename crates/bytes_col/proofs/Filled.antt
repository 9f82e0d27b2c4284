-- Laws of short bytes that are written from a place on.
use Rattle.std.proofs.Common.{◌≡◌, ℕ, suc, ◌+◌, ◌-◌, ◌<◌, ◌≤◌, List, [], ◌∷◌, ◌++◌, length, min, get_or, take, drop, inl, inr, refl, sym, ap, ◌∙◌, arith}
use Rattle.std.proofs.lemmas.Bool.{cases_lt}
use Rattle.std.proofs.lemmas.List.{take-append-drop, take-append-le, take_all, length-append, length-drop, drop-append-le, drop-drop, drop_all, drop_at, drop_more}
use Rattle.segments.specs.declared.segments.Place.{Place}
use Rattle.segments.specs.Segments.{IsPlace, start_of}
use Rattle.segments.specs.Joined.{joined, counts_of}
use Rattle.segments.proofs.Lists.{drop-split, drop-cons-at}
use Rattle.segments.proofs.Joined.{drop-joined, start_more, length-joined-take, part_within}
use Rattle.int_col.proofs.Lists.{copied_more}
use Rattle.bytes_col.specs.declared.fill.Filled.{Filled}
use Rattle.bytes_col.specs.Strings.{short_bytes}
use Rattle.bytes_col.specs.Filled.{short_from, HasFilled, Fills}
use Rattle.bytes_col.proofs.Short.{short_cons, short-append}

drop-past : (b p : List ℕ) (skip : ℕ) → drop (length b + skip) (b ++ p) ≡ drop skip p
drop-past b p skip = sym (drop-drop skip (length b) (b ++ p)) ∙ ap (drop skip) (drop_at b p (length b) refl)

-- what is still to come behind a place
pub rest_of : (vs : List (List ℕ)) (row skip : ℕ) (f : Filled) → row ≤ f.row → skip + f.bytes + length (short_bytes (drop f.row vs)) ≡ f.skip + length (short_bytes (drop row vs)) → short_from vs f.row f.skip ≡ drop f.bytes (short_from vs row skip)
rest_of vs row skip f onward place =
    let passed : List ℕ = short_bytes (take (f.row - row) (drop row vs)) in
    let rest : List ℕ = short_bytes (drop f.row vs) in
    let whole : short_bytes (drop row vs) ≡ passed ++ rest =
    ap short_bytes (drop-split vs row f.row onward) ∙ short-append (take (f.row - row) (drop row vs)) (drop f.row vs) in
    let sum : skip + f.bytes ≡ length passed + f.skip = omega (arith, place, ap length whole, length-append passed rest) in
    sym (drop-drop f.bytes skip (short_bytes (drop row vs))
    ∙ ap (λ k. drop k (short_bytes (drop row vs))) sum
    ∙ ap (drop (length passed + f.skip)) whole
    ∙ drop-past passed rest f.skip)

-- nothing is written yet
pub nothing_filled : (vs : List (List ℕ)) (row skip room : ℕ) (bytes : List ℕ) → row ≤ length vs → HasFilled vs row skip room bytes (record { row = row; skip = skip; bytes = 0 })
nothing_filled vs row skip room bytes within = record {
  in_range = within;
  onward = omega arith;
  within = omega arith;
  there = omega arith;
  filled = refl;
  place = omega arith;
}

-- a piece more
pub filled_on : (vs : List (List ℕ)) (row skip room : ℕ) (xs ys zs old : List ℕ) (f g h : Filled) → HasFilled vs row skip room xs f → Fills vs f.row f.skip old ys g → length xs ≡ room → length old ≡ room - f.bytes → g.bytes ≤ length ys → h.row ≡ g.row → h.skip ≡ g.skip → h.bytes ≡ f.bytes + g.bytes → HasFilled vs row skip room (take f.bytes xs ++ (ys ++ zs)) h
filled_on vs row skip room xs ys zs old f g h has more size left fits at_row at_skip sum =
    let all : List ℕ = short_from vs row skip in
    let rest : short_from vs f.row f.skip ≡ drop f.bytes all = rest_of vs row skip f has.onward has.place in
    let len : length (short_from vs f.row f.skip) ≡ length all - f.bytes = ap length rest ∙ length-drop f.bytes all in
    let zero_more : 0 + f.bytes ≡ f.bytes = omega arith in
    let piece : ys ≡ take g.bytes (drop (0 + f.bytes) all) ++ drop g.bytes ys =
    sym (take-append-drop g.bytes ys)
    ∙ ap (λ z. z ++ drop g.bytes ys) (more.has.filled ∙ ap (take g.bytes) rest ∙ ap (λ k. take g.bytes (drop k all)) (sym zero_more)) in
    let enough : f.bytes + g.bytes ≤ length all = omega (arith, more.has.there, len, has.there) in
    let made = copied_more all xs ys zs (drop g.bytes ys) 0 f.bytes g.bytes (omega (arith, has.within, size)) (omega (arith, enough)) piece has.filled in
    record {
      in_range = omega (arith, at_row, more.has.in_range);
      onward = omega (arith, at_row, more.has.onward, has.onward);
      within = omega (arith, sum, more.has.within, left, has.within);
      there = omega (arith, sum, enough);
      filled = ap (λ k. take k (take f.bytes xs ++ (ys ++ zs))) sum ∙ made ∙ ap (λ k. take k all) (sym sum);
      place = omega (arith, sum, at_skip, more.has.place, has.place, ap (λ k. length (short_bytes (drop k vs))) at_row);
    }

-- some short bytes of one value
pub fills_value : (vs : List (List ℕ)) (row skip n : ℕ) (p old new : List ℕ) (f : Filled) → row < length vs → 0 < length old → p ≡ short_bytes (get_or vs row [] ∷ []) → n ≡ min (length p - skip) (length old) → take n new ≡ take n (drop skip p) → (skip + n < length p → (f.row ≡ row) × (f.skip ≡ skip + n)) → (length p ≤ skip + n → (f.row ≡ row + 1) × (f.skip ≡ skip + n - length p)) → f.bytes ≡ n → Fills vs row skip old new f
fills_value vs row skip n p old new f l some is count written stays goes same =
    let rest : List ℕ = short_bytes (drop (row + 1) vs) in
    let whole : short_bytes (drop row vs) ≡ p ++ rest =
    ap short_bytes (drop_more vs row [] l) ∙ short_cons (get_or vs row []) (drop (row + 1) vs) ∙ ap (λ z. z ++ rest) (sym is) in
    let size : length (short_bytes (drop row vs)) ≡ length p + length rest = ap length whole ∙ length-append p rest in
    let enough : f.bytes ≤ length (short_from vs row skip) = omega (arith, same, count, size, length-drop skip (short_bytes (drop row vs))) in
    let front : take n (short_from vs row skip) ≡ take n (drop skip p) =
    ap (λ z. take n (drop skip z)) whole
    ∙ elim (cases_lt (length p) skip) [
      | inl past ↦
          let none : n ≡ 0 = omega arith in
          ap (λ k. take k (drop skip (p ++ rest))) none ∙ sym (ap (λ k. take k (drop skip p)) none)
      | inr inside ↦ ap (take n) (drop-append-le skip p rest inside) ∙ take-append-le n (drop skip p) rest (omega (arith, length-drop skip p))
    ] in
    let filled : take f.bytes new ≡ take f.bytes (short_from vs row skip) =
    ap (λ k. take k new) same ∙ written ∙ sym front ∙ ap (λ k. take k (short_from vs row skip)) (sym same) in
    elim (cases_lt (skip + n) (length p)) [
      | inl within ↦
          let at = stays within in
          record {
            has = record {
              in_range = omega (arith, at.0);
              onward = omega (arith, at.0);
              within = omega (arith, same, count);
              there = enough;
              filled = filled;
              place = omega (arith, same, at.1, ap (λ k. length (short_bytes (drop k vs))) at.0);
            };
            goes = omega (arith, at.0, same, count);
          }
      | inr past ↦
          let at = goes past in
          record {
            has = record {
              in_range = omega (arith, at.0);
              onward = omega (arith, at.0);
              within = omega (arith, same, count);
              there = enough;
              filled = filled;
              place = omega (arith, same, at.1, size, ap (λ k. length (short_bytes (drop k vs))) at.0);
            };
            goes = omega (arith, at.0);
          }
    ]

-- all short bytes are passed
pub fills_none : (vs : List (List ℕ)) (skip : ℕ) (old new : List ℕ) (f : Filled) → 0 < length vs → length (short_bytes vs) ≤ skip → f.row ≡ length vs → f.skip ≡ skip - length (short_bytes vs) → f.bytes ≡ 0 → Fills vs 0 skip old new f
fills_none vs skip old new f some past at_row at_skip none =
    let empty : drop f.row vs ≡ [] = drop_all f.row vs (omega (arith, at_row)) in
    record {
      has = record {
        in_range = omega (arith, at_row);
        onward = omega arith;
        within = omega (arith, none);
        there = omega (arith, none);
        filled = ap (λ k. take k new) none ∙ sym (ap (λ k. take k (short_from vs 0 skip)) none);
        place = omega (arith, none, at_skip, past, ap (λ z. length (short_bytes z)) empty);
      };
      goes = omega (arith, at_row, some, none);
    }

-- what stands from a place of a chunk on, and behind the chunk
behind_chunk : (ss : List (List (List ℕ))) (at r : ℕ) (p : Place) (s : List (List ℕ)) → IsPlace (counts_of ss) at p → s ≡ get_or ss p.segment s → p.segment < length ss → p.offset ≤ r → r ≤ length s → drop (at + (r - p.offset)) (joined ss) ≡ drop r s ++ joined (drop (suc p.segment) ss)
behind_chunk ss at r p s place here l from within =
    let start : ℕ = start_of (counts_of ss) p.segment in
    let B : List (List ℕ) = joined (drop (suc p.segment) ss) in
    let sum : at + (r - p.offset) ≡ start + r = omega (arith, place.sum) in
    let there : drop start (joined ss) ≡ s ++ B = drop-joined p.segment ss ∙ ap joined (drop-cons-at ss p.segment s l) ∙ ap (λ x. x ++ B) (sym here) in
    ap (λ k. drop k (joined ss)) sum ∙ sym (drop-drop r start (joined ss)) ∙ ap (drop r) there ∙ drop-append-le r s B within

-- a row of a chunk is one of the list
pub row_in_place : (ss : List (List (List ℕ))) (at r : ℕ) (p : Place) (s : List (List ℕ)) → IsPlace (counts_of ss) at p → s ≡ get_or ss p.segment s → p.segment < length ss → p.offset ≤ r → r ≤ length s → at + (r - p.offset) ≤ length (joined ss)
row_in_place ss at r p s place here l from within =
    omega (arith, place.sum, start_more ss p.segment s l here, length-joined-take (p.segment + 1) ss, part_within (p.segment + 1) ss)

-- short bytes of a chunk are those of the list at its place
pub fills_in_place : (ss : List (List (List ℕ))) (at skip : ℕ) (p : Place) (s : List (List ℕ)) (old new : List ℕ) (f g : Filled) → IsPlace (counts_of ss) at p → s ≡ get_or ss p.segment s → p.segment < length ss → Fills s p.offset skip old new f → g.row ≡ at + (f.row - p.offset) → g.skip ≡ f.skip → g.bytes ≡ f.bytes → g.row ≤ length (joined ss) → Fills (joined ss) at skip old new g
fills_in_place ss at skip p s old new f g place here l fills at_row at_skip same in_range =
    let B : List (List ℕ) = joined (drop (suc p.segment) ss) in
    let A : List ℕ = short_bytes (drop p.offset s) in
    let none : at + (p.offset - p.offset) ≡ at = omega arith in
    let first : drop at (joined ss) ≡ drop p.offset s ++ B =
    ap (λ k. drop k (joined ss)) (sym none) ∙ behind_chunk ss at p.offset p s place here l (omega arith) (omega (arith, fills.has.onward, fills.has.in_range)) in
    let last : drop g.row (joined ss) ≡ drop f.row s ++ B =
    ap (λ k. drop k (joined ss)) at_row ∙ behind_chunk ss at f.row p s place here l fills.has.onward fills.has.in_range in
    let whole : short_bytes (drop at (joined ss)) ≡ A ++ short_bytes B = ap short_bytes first ∙ short-append (drop p.offset s) B in
    let after : short_bytes (drop g.row (joined ss)) ≡ short_bytes (drop f.row s) ++ short_bytes B = ap short_bytes last ∙ short-append (drop f.row s) B in
    let front : take f.bytes (short_from (joined ss) at skip) ≡ take f.bytes (short_from s p.offset skip) =
    ap (λ z. take f.bytes (drop skip z)) whole
    ∙ elim (cases_lt (length A) skip) [
      | inl past ↦
          let zero_bytes : f.bytes ≡ 0 = omega (arith, fills.has.there, length-drop skip A) in
          ap (λ k. take k (drop skip (A ++ short_bytes B))) zero_bytes ∙ sym (ap (λ k. take k (drop skip A)) zero_bytes)
      | inr inside ↦ ap (take f.bytes) (drop-append-le skip A (short_bytes B) inside) ∙ take-append-le f.bytes (drop skip A) (short_bytes B) fills.has.there
    ] in
    record {
      has = record {
        in_range = in_range;
        onward = omega (arith, at_row);
        within = omega (arith, same, fills.has.within);
        there = omega (arith, same, fills.has.there, length-drop skip A, length-drop skip (short_bytes (drop at (joined ss))), ap length whole, length-append A (short_bytes B));
        filled = ap (λ k. take k new) same ∙ fills.has.filled ∙ sym front ∙ ap (λ k. take k (short_from (joined ss) at skip)) (sym same);
        place = omega (arith, same, at_skip, fills.has.place, ap length whole, length-append A (short_bytes B), ap length after, length-append (short_bytes (drop f.row s)) (short_bytes B));
      };
      goes = omega (arith, at_row, same, fills.goes, fills.has.onward);
    }

-- all is written
pub filled_all : (vs : List (List ℕ)) (row skip room : ℕ) (bytes : List ℕ) (f : Filled) → HasFilled vs row skip room bytes f → length bytes ≡ room → room ≤ f.bytes → bytes ≡ take room (short_from vs row skip)
filled_all vs row skip room bytes f has size full =
    let same : f.bytes ≡ room = omega (arith, has.within) in
    sym (take_all room bytes (omega (arith, size))) ∙ ap (λ k. take k bytes) (sym same) ∙ has.filled ∙ ap (λ k. take k (short_from vs row skip)) same

-- while some are to be written there is a row that has them
pub row_there : (vs : List (List ℕ)) (row skip room : ℕ) (bytes : List ℕ) (f : Filled) → HasFilled vs row skip room bytes f → room ≤ length (short_from vs row skip) → f.bytes < room → f.row < length vs
row_there vs row skip room bytes f has enough less =
    elim (cases_lt f.row (length vs)) [
      | inl l ↦ l
      | inr past ↦
          let empty : drop f.row vs ≡ [] = drop_all f.row vs past in
          absurd (omega (arith, has.place, length-drop skip (short_bytes (drop row vs)), ap (λ z. length (short_bytes z)) empty))
    ]
