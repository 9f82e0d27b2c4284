-- One edit, and edits one after another: how many rows are left, and where each of them comes from.
use Rattle.std.proofs.Common.{◌≡◌, ℕ, zero, suc, ◌+◌, ◌-◌, ◌<◌, ◌≤◌, Bool, true, false, cond, ◌||◌, ltb, List, [], ◌∷◌, ◌++◌, length, get_or, set, take, drop, replicate, Option, Some, None, MatchOption, refl, ap, sym, subst, ◌∙◌, arith, inl, inr}
use Rattle.std.proofs.lemmas.Bool.{cases_lt, cases_eq, lt-ltb, le-ltb, eq-eqb, ne_eqb}
use Rattle.std.proofs.lemmas.List.{get_or_append_left, get_or-append_right, get_or-take, get_or-drop, get_or-replicate, get_or-set_same, get_or-set_other, length-append, length-drop, length-replicate, length-set, length-take-le, get_or_default, take_more}
use Rattle.mk_value.specs.Data.{Datum, AreRowsOf, IsRowOf}
use Rattle.mk_value.specs.Heading.{Attribute}
use Rattle.mk_value.specs.Limits.{max_rows}
use Rattle.row_edits.specs.declared.edit.RowEdit.{RowEdit}
use Rattle.row_edits.specs.declared.edit.RowEdit.TheVariants.{Insert, Remove, Change}
use Rattle.row_edits.specs.Edits.{AreInRange, IsInRange, bring, brings, edited, edited_by, size_after, size_by}
use Rattle.std.proofs.lemmas.List.Folds.{list_any_at}
use Rattle.row_edits.specs.Origins.{StandAfter, StandsAfter, stood_at}

-- how many rows are left
pub length_edited : (came : List Datum) (e : RowEdit) (rows : List (List Datum)) → IsInRange e (length rows) → length (edited came e rows) ≡ size_after e (length rows)
length_edited came (Insert at count) rows h =
    let a = length-append (take at rows) (replicate count came ++ drop at rows) in
    let b = length-append (replicate count came) (drop at rows) in
    let c = length-take-le at rows h.0 in
    let d = length-replicate count came in
    let e = length-drop at rows in
    let le = h.0 in
    omega arith
length_edited came (Remove at count) rows h =
    let a = length-append (take at rows) (drop (at + count) rows) in
    let c = length-take-le at rows (omega arith) in
    let e = length-drop (at + count) rows in
    omega arith
length_edited came (Change at) rows h = length-set rows at came

pub length_edited_by : (came : List Datum) (edits : List RowEdit) (rows : List (List Datum)) → AreInRange edits (length rows) → length (edited_by came edits rows) ≡ size_by edits (length rows)
length_edited_by came [] rows h = refl
length_edited_by came (e ∷ edits) rows h =
    let n = length_edited came e rows h.0 in
    length_edited_by came edits (edited came e rows) (subst (AreInRange edits) (sym n) h.1) ∙ ap (size_by edits) n

-- where a row stood before an edit
abbrev pub IsFrom : RowEdit → ℕ → Option ℕ → List Datum → List (List Datum) → Type 0
IsFrom e i found came rows =
    MatchOption found ((brings e ≡ true) × (get_or (edited came e rows) i [] ≡ came)) (λ at. (at < length rows) × (get_or (edited came e rows) i [] ≡ get_or rows at []))

module _ (came : List Datum) (at count : ℕ) (rows : List (List Datum)) (i : ℕ) where
  put_below : at ≤ length rows → i < at → get_or (take at rows ++ (replicate count came ++ drop at rows)) i [] ≡ get_or rows i []
  put_below le p =
      let n = length-take-le at rows le in
      get_or_append_left (take at rows) (replicate count came ++ drop at rows) [] i (omega arith) ∙ get_or-take at rows i [] p

  put_at : at ≤ length rows → at ≤ i → i < at + count → get_or (take at rows ++ (replicate count came ++ drop at rows)) i [] ≡ came
  put_at le p q =
      let n = length-take-le at rows le in
      let m = length-replicate count came in
      get_or-append_right (take at rows) (replicate count came ++ drop at rows) at i [] n p
      ∙ get_or_append_left (replicate count came) (drop at rows) [] (i - at) (omega arith)
      ∙ get_or-replicate count (i - at) came [] (omega arith)

  put_above : at ≤ length rows → at + count ≤ i → get_or (take at rows ++ (replicate count came ++ drop at rows)) i [] ≡ get_or rows (i - count) []
  put_above le p =
      let n = length-take-le at rows le in
      get_or-append_right (take at rows) (replicate count came ++ drop at rows) at i [] n (omega arith)
      ∙ get_or-append_right (replicate count came) (drop at rows) count (i - at) [] (length-replicate count came) (omega arith)
      ∙ get_or-drop at rows (i - at - count) []
      ∙ ap (λ k. get_or rows k []) (let e : at + (i - at - count) ≡ i - count = omega arith in e)

  cut_below : at ≤ length rows → i < at → get_or (take at rows ++ drop (at + count) rows) i [] ≡ get_or rows i []
  cut_below le p =
      let n = length-take-le at rows le in
      get_or_append_left (take at rows) (drop (at + count) rows) [] i (omega arith) ∙ get_or-take at rows i [] p

  cut_above : at ≤ length rows → at ≤ i → get_or (take at rows ++ drop (at + count) rows) i [] ≡ get_or rows (i + count) []
  cut_above le p =
      let n = length-take-le at rows le in
      get_or-append_right (take at rows) (drop (at + count) rows) at i [] n p
      ∙ get_or-drop (at + count) rows (i - at) []
      ∙ ap (λ k. get_or rows k []) (let e : at + count + (i - at) ≡ i + count = omega arith in e)

pub is_from : (came : List Datum) (e : RowEdit) (rows : List (List Datum)) (i : ℕ) → IsInRange e (length rows) → i < size_after e (length rows) → IsFrom e i (stood_at e i) came rows
is_from came (Insert at count) rows i h p = elim (cases_lt i at) [
  | inl below ↦
      let le = h.0 in
      subst (λ b. IsFrom (Insert at count) i (cond b (Some i) (cond (ltb i (at + count)) None (Some (i - count)))) came rows) (sym (lt-ltb i at below)) (omega arith, put_below came at count rows i h.0 below)
  | inr past ↦
      subst (λ b. IsFrom (Insert at count) i (cond b (Some i) (cond (ltb i (at + count)) None (Some (i - count)))) came rows) (sym (le-ltb i at past))
      (elim (cases_lt i (at + count)) [
        | inl inside ↦
            subst (λ b. IsFrom (Insert at count) i (cond b None (Some (i - count))) came rows) (sym (lt-ltb i (at + count) inside))
            (lt-ltb 0 count (omega arith), put_at came at count rows i h.0 past inside)
        | inr above ↦
            subst (λ b. IsFrom (Insert at count) i (cond b None (Some (i - count))) came rows) (sym (le-ltb i (at + count) above))
            (omega arith, put_above came at count rows i h.0 above)
      ])
]
is_from came (Remove at count) rows i h p = elim (cases_lt i at) [
  | inl below ↦
      subst (λ b. IsFrom (Remove at count) i (cond b (Some i) (Some (i + count))) came rows) (sym (lt-ltb i at below)) (omega arith, cut_below came at count rows i (omega arith) below)
  | inr past ↦
      subst (λ b. IsFrom (Remove at count) i (cond b (Some i) (Some (i + count))) came rows) (sym (le-ltb i at past)) (omega arith, cut_above came at count rows i (omega arith) past)
]
is_from came (Change at) rows i h p = elim (cases_eq i at) [
  | inl here ↦
      subst (λ b. IsFrom (Change at) i (cond b None (Some i)) came rows) (sym (eq-eqb i at here))
      (refl, ap (λ k. get_or (set rows at came) k []) here ∙ get_or-set_same rows at came [] h)
  | inr other ↦
      subst (λ b. IsFrom (Change at) i (cond b None (Some i)) came rows) (sym (ne_eqb i at other))
      (p, get_or-set_other rows at i came [] other)
]

-- the last of edits
pub edited_last : (came : List Datum) (edits : List RowEdit) (e : RowEdit) (rows : List (List Datum)) → edited_by came (edits ++ e ∷ []) rows ≡ edited came e (edited_by came edits rows)
edited_last came [] e rows = refl
edited_last came (f ∷ edits) e rows = edited_last came edits e (edited came f rows)

pub size_last : (edits : List RowEdit) (e : RowEdit) (size : ℕ) → size_by (edits ++ e ∷ []) size ≡ size_after e (size_by edits size)
size_last [] e size = refl
size_last (f ∷ edits) e size = size_last edits e (size_after f size)

pub range_last : (edits : List RowEdit) (e : RowEdit) (size : ℕ) → AreInRange (edits ++ e ∷ []) size → AreInRange edits size × IsInRange e (size_by edits size)
range_last [] e size h = (tt, h.0)
range_last (f ∷ edits) e size h = let r = range_last edits e (size_after f size) h.1 in ((h.0, r.0), r.1)

pub last_range : (edits : List RowEdit) (e : RowEdit) (size : ℕ) → AreInRange edits size → IsInRange e (size_by edits size) → AreInRange (edits ++ e ∷ []) size
last_range [] e size h q = (q, tt)
last_range (f ∷ edits) e size h q = (h.0, last_range edits e (size_after f size) h.1 q)

-- the first of edits
pub range_front : (edits : List RowEdit) (k size : ℕ) → AreInRange edits size → AreInRange (take k edits) size
range_front edits zero size h = tt
range_front [] (suc k) size h = tt
range_front (e ∷ edits) (suc k) size h = (h.0, range_front edits k (size_after e size) h.1)

-- a size stays within the limit
pub few_after : (e : RowEdit) (size : ℕ) → IsInRange e size → size ≤ max_rows → size_after e size ≤ max_rows
few_after (Insert at count) size h few = h.1
few_after (Remove at count) size h few = omega arith
few_after (Change at) size h few = few

pub few_by : (edits : List RowEdit) (size : ℕ) → AreInRange edits size → size ≤ max_rows → size_by edits size ≤ max_rows
few_by [] size h few = few
few_by (e ∷ edits) size h few = few_by edits (size_after e size) h.1 (few_after e size h.0 few)

-- rows stay whole
pub edited_whole : (came : List Datum) (e : RowEdit) (rows : List (List Datum)) (schema : List Attribute) → IsInRange e (length rows) → (brings e ≡ true → IsRowOf came schema) → AreRowsOf rows schema → AreRowsOf (edited came e rows) schema
edited_whole came e rows schema h fits whole =
    let long = length_edited came e rows h in
    record {
      few = subst (λ n. n ≤ max_rows) (sym long) (few_after e (length rows) h whole.few);
      whole = λ k d p.
          let q : k < size_after e (length rows) = omega arith in
          subst (λ row. IsRowOf row schema) (get_or_default (edited came e rows) k [] d p) (by_origin k (stood_at e k) (is_from came e rows k h q));
    }
  where
    by_origin : (k : ℕ) (found : Option ℕ) → IsFrom e k found came rows → IsRowOf (get_or (edited came e rows) k []) schema
    by_origin k None g = subst (λ row. IsRowOf row schema) (sym g.1) (fits g.0)
    by_origin k (Some at) g = subst (λ row. IsRowOf row schema) (sym g.1) (whole.whole at [] g.0)

pub edited_by_whole : (came : List Datum) (edits : List RowEdit) (rows : List (List Datum)) (schema : List Attribute) → AreInRange edits (length rows) → (bring edits ≡ true → IsRowOf came schema) → AreRowsOf rows schema → AreRowsOf (edited_by came edits rows) schema
edited_by_whole came [] rows schema h fits whole = whole
edited_by_whole came (e ∷ edits) rows schema h fits whole =
    let n = length_edited came e rows h.0 in
    edited_by_whole came edits (edited came e rows) schema (subst (AreInRange edits) (sym n) h.1) (λ b. fits (later (brings e) (bring edits) b))
    (edited_whole came e rows schema h.0 (λ b. fits (first (brings e) (bring edits) b)) whole)
  where
    later : (a b : Bool) → b ≡ true → (a || b) ≡ true
    later true b e = refl
    later false b e = e

    first : (a b : Bool) → a ≡ true → (a || b) ≡ true
    first a b e = ap (λ x. x || b) e

-- where no row comes it does not matter which would
pub edited_by_any : (came other : List Datum) (edits : List RowEdit) (rows : List (List Datum)) → bring edits ≡ false → edited_by came edits rows ≡ edited_by other edits rows
edited_by_any came other [] rows e = refl
edited_by_any came other (Insert at zero ∷ edits) rows e = edited_by_any came other edits (take at rows ++ drop at rows) e
edited_by_any came other (Insert at (suc n) ∷ edits) rows e =
    let t : (ltb 0 (suc n) || bring edits) ≡ true = ap (λ b. b || bring edits) (lt-ltb 0 (suc n) (omega arith)) in cc
edited_by_any came other (Remove at count ∷ edits) rows e = edited_by_any came other edits (take at rows ++ drop (at + count) rows) e
edited_by_any came other (Change at ∷ edits) rows e = cc

-- a walk back along edits
pub stood_within : (e : RowEdit) (i b size : ℕ) → IsInRange e size → i < size_after e size → stood_at e i ≡ Some b → b < size
stood_within e i b size h p is =
    let rows : List (List Datum) = replicate size [] in
    let n : length rows ≡ size = length-replicate size [] in
    let g = subst (λ o. IsFrom e i o [] rows) is (is_from [] e rows i (subst (IsInRange e) (sym n) h) (subst (λ m. i < size_after e m) (sym n) p)) in
    omega (arith, g.0)

module _ (edits : List RowEdit) (left : ℕ) (d : RowEdit) (p : 0 < left) (q : left ≤ length edits) where
  front : take left edits ≡ take (left - 1) edits ++ get_or edits (left - 1) d ∷ []
  front = ap (λ k. take k edits) (let e : left ≡ left - 1 + 1 = omega arith in e) ∙ take_more edits (left - 1) d (omega arith)

  pub walk_range : (i row size : ℕ) → StandAfter edits row size → i < size_by (take left edits) size → StandsAfter (get_or edits (left - 1) d) i (size_by (take (left - 1) edits) size)
  walk_range i row size h lt =
      let r = range_last (take (left - 1) edits) (get_or edits (left - 1) d) size (subst (λ es. AreInRange es size) front (range_front edits left size h.in_range)) in
      record {
        in_range = r.1;
        few = few_by (take (left - 1) edits) size r.0 h.few;
        there = subst (λ n. i < n) (ap (λ es. size_by es size) front ∙ size_last (take (left - 1) edits) (get_or edits (left - 1) d) size) lt;
      }

  pub walk_stands : (i b row size : ℕ) → StandAfter edits row size → i < size_by (take left edits) size → stood_at (get_or edits (left - 1) d) i ≡ Some b → b < size_by (take (left - 1) edits) size
  walk_stands i b row size h lt is =
      let s = walk_range i row size h lt in
      stood_within (get_or edits (left - 1) d) i b (size_by (take (left - 1) edits) size) s.in_range s.there is

  module _ (came : List Datum) (rows : List (List Datum)) (i row : ℕ) (h : StandAfter edits row (length rows)) (lt : i < size_by (take left edits) (length rows)) where
    one : IsFrom (get_or edits (left - 1) d) i (stood_at (get_or edits (left - 1) d) i) came (edited_by came (take (left - 1) edits) rows)
    one =
        let s = walk_range i row (length rows) h lt in
        let n = length_edited_by came (take (left - 1) edits) rows (range_front edits (left - 1) (length rows) h.in_range) in
        is_from came (get_or edits (left - 1) d) (edited_by came (take (left - 1) edits) rows) i (subst (IsInRange (get_or edits (left - 1) d)) (sym n) s.in_range)
        (subst (λ m. i < size_after (get_or edits (left - 1) d) m) (sym n) s.there)

    last_is : get_or (edited_by came (take left edits) rows) i [] ≡ get_or (edited came (get_or edits (left - 1) d) (edited_by came (take (left - 1) edits) rows)) i []
    last_is = ap (λ es. get_or (edited_by came es rows) i []) front ∙ ap (λ rs. get_or rs i []) (edited_last came (take (left - 1) edits) (get_or edits (left - 1) d) rows)

    pub walk_same : (b : ℕ) → stood_at (get_or edits (left - 1) d) i ≡ Some b → get_or (edited_by came (take (left - 1) edits) rows) b [] ≡ get_or (edited_by came (take left edits) rows) i []
    walk_same b is = let g = subst (λ o. IsFrom (get_or edits (left - 1) d) i o came (edited_by came (take (left - 1) edits) rows)) is one in sym (last_is ∙ g.1)

    pub walk_came : stood_at (get_or edits (left - 1) d) i ≡ None → (bring edits ≡ true) × (get_or (edited_by came (take left edits) rows) i [] ≡ came)
    walk_came is =
        let g = subst (λ o. IsFrom (get_or edits (left - 1) d) i o came (edited_by came (take (left - 1) edits) rows)) is one in
        (list_any_at brings edits (left - 1) d (omega arith) g.0, last_is ∙ g.1)
