-- What is appended part by part.
use Rattle.std.proofs.Common.{◌≡◌, ℕ, zero, suc, ◌+◌, ◌<◌, ◌≤◌, List, [], ◌∷◌, ◌++◌, length, drop, get_or, map, sym, ◌∙◌, ap, arith}
use Rattle.std.proofs.lemmas.List.{append-nil, append_assoc, drop_all}
use Rattle.mk_value.proofs.Walks.{drop_read}
use Rattle.dir_codec.specs.declared.dir.DirBody.{DirBody}
use Rattle.dir_codec.specs.declared.dir.DirCol.{DirCol}
use Rattle.dir_codec.specs.DirCode.{columns_weight, entry_weight, tables_weight}
use Rattle.dir_codec.specs.Values.{body_of, entry_of}

-- two parts, one behind the other
pub both : (old mid new one two : List ℕ) → mid ≡ old ++ one → new ≡ mid ++ two → new ≡ old ++ (one ++ two)
both old mid new one two first second = second ∙ ap (λ (l : List ℕ). l ++ two) first ∙ append_assoc old one two

-- The parts so far and those to come are all parts, in a loop over what they are of.
module _ {X : Type 0} (part : X → List ℕ) (all : List X → List ℕ) (step : (x : X) (xs : List X) → all (x ∷ xs) ≡ part x ++ all xs) where
  pub one_more : (xs : List X) (i : ℕ) (x : X) (whole old new : List ℕ) → i < length xs → x ≡ get_or xs i x → old ++ all (drop i xs) ≡ whole → new ≡ old ++ part x → new ++ all (drop (i + 1) xs) ≡ whole
  one_more xs i x whole old new within at so_far is =
      let rest = all (drop (i + 1) xs) in
      ap (λ (l : List ℕ). l ++ rest) is ∙ append_assoc old (part x) rest ∙ ap (λ (l : List ℕ). old ++ l) (sym (ap all (drop_read xs i x within at) ∙ step x (drop (i + 1) xs))) ∙ so_far

  pub at_end : (xs : List X) (i : ℕ) (whole new : List ℕ) → all [] ≡ [] → length xs ≤ i → new ++ all (drop i xs) ≡ whole → new ≡ whole
  at_end xs i whole new none past so_far = sym (append-nil new) ∙ ap (λ (l : List ℕ). new ++ l) (sym (ap all (drop_all i xs past) ∙ none)) ∙ so_far

-- ---- what is inside is smaller

pub column_weight : (xs : List DirCol) (i : ℕ) (x : DirCol) → i < length xs → x ≡ get_or xs i x → entry_weight (entry_of x) + 1 ≤ columns_weight (map entry_of xs)
column_weight [] i x within at = absurd (omega (arith, within))
column_weight (y ∷ xs) zero x within at = let e = ap (λ (c : DirCol). entry_weight (entry_of c)) at in omega (arith, e)
column_weight (y ∷ xs) (suc i) x within at = let r = column_weight xs i x (omega (arith, within)) at in omega (arith, r)

pub body_weight : (xs : List DirBody) (i : ℕ) (x : DirBody) → i < length xs → x ≡ get_or xs i x → columns_weight x.cols + 2 ≤ tables_weight (map body_of xs)
body_weight [] i x within at = absurd (omega (arith, within))
body_weight (y ∷ xs) zero x within at = let e = ap (λ (b : DirBody). columns_weight b.cols) at in omega (arith, e)
body_weight (y ∷ xs) (suc i) x within at = let r = body_weight xs i x (omega (arith, within)) at in omega (arith, r)
