-- How bytes are cut into lines, as more of them are looked at.
use Rattle.std.proofs.Common.{◌≡◌, ℕ, zero, suc, ◌+◌, ◌-◌, ◌<◌, ◌≤◌, min, true, Option, Some, None, MatchOption, List, [], ◌∷◌, ◌++◌, length, take, get_or, flat_map, refl, sym, ap, ◌∙◌, subst, ◌⊎◌, inl, inr, append_assoc, length-take, arith}
use Rattle.std.proofs.lemmas.List.{append-nil, get_or-take, take_min}
use Rattle.std.proofs.Math.Seq.{take-append-add}
use Rattle.std.proofs.Math.Nat.{min_comm}
use Rattle.memchr.specs.Find.{IsFirstByte, is_byte}
use Rattle.std.proofs.lemmas.List.Concat.{flat_map-append}
use Rattle.std.proofs.lemmas.Bool.{cases_eq}
use Rattle.lines.specs.Lines.{newline, ended, HasNoNewline, AreLines, Splits}

pub HasNoNewline-append : (front back : List ℕ) → HasNoNewline front → HasNoNewline back → HasNoNewline (front ++ back)
HasNoNewline-append [] back none more = more
HasNoNewline-append (byte ∷ front) back none more = (none.0, HasNoNewline-append front back none.1 more)

pub AreLines-append : (front back : List (List ℕ)) → AreLines front → AreLines back → AreLines (front ++ back)
AreLines-append [] back each more = more
AreLines-append (line ∷ front) back each more = (each.0, AreLines-append front back each.1 more)

pub Splits-empty : Splits [] [] []
Splits-empty = record { whole = refl; each = tt; front = tt }

-- more bytes of the line that has not ended
pub Splits-span : (bytes span : List ℕ) (lines : List (List ℕ)) (rest : List ℕ)
    → Splits bytes lines rest → HasNoNewline span → Splits (bytes ++ span) lines (rest ++ span)
Splits-span bytes span lines rest splits none = record {
  whole = ap (λ (x : List ℕ). x ++ span) splits.whole ∙ append_assoc (flat_map ended lines) rest span;
  each = splits.each;
  front = HasNoNewline-append rest span splits.front none;
}

-- bytes that begin behind a newline
pub Splits-join : (bytes more : List ℕ) (lines later : List (List ℕ)) (rest : List ℕ)
    → Splits bytes lines [] → Splits more later rest → Splits (bytes ++ more) (lines ++ later) rest
Splits-join bytes more lines later rest splits others = record {
  whole = rw (splits.whole, others.whole, append-nil, flat_map-append) (sym (append_assoc (flat_map ended lines) (flat_map ended later) rest));
  each = AreLines-append lines later splits.each others.each;
  front = others.front;
}

-- a newline ends the line
pub Splits-newline : (bytes : List ℕ) (lines : List (List ℕ)) (rest : List ℕ)
    → Splits bytes lines rest → Splits (bytes ++ newline ∷ []) (lines ++ rest ∷ []) []
Splits-newline bytes lines rest splits = record {
  whole = simp (splits.whole, flat_map-append, append-nil, append_assoc);
  each = AreLines-append lines (rest ∷ []) splits.each (splits.front, tt);
  front = tt;
}

-- a newline, and what stands behind it
pub Splits-ended : (bytes more : List ℕ) (lines later : List (List ℕ)) (rest behind : List ℕ)
    → Splits bytes lines rest → Splits more later behind → Splits (bytes ++ newline ∷ more) ((lines ++ rest ∷ []) ++ later) behind
Splits-ended bytes more lines later rest behind splits others =
    let joined = Splits-join (bytes ++ newline ∷ []) more (lines ++ rest ∷ []) later behind (Splits-newline bytes lines rest splits) others in
    rw append_assoc at joined

pub record SomeSplit (bytes : List ℕ) : Type 0 where
  pub lines : List (List ℕ)
  pub rest : List ℕ
  pub splits : Splits bytes lines rest

-- one byte more at the front
front_byte : (byte : ℕ) (bytes : List ℕ) (lines : List (List ℕ)) (rest : List ℕ)
    → (byte ≡ newline) ⊎ (¬ (byte ≡ newline)) → Splits bytes lines rest → SomeSplit (byte ∷ bytes)
front_byte byte bytes lines rest (inl is) splits = record {
  lines = [] ∷ lines;
  rest = rest;
  splits = record { whole = rw (is, splits.whole) refl; each = (tt, splits.each); front = splits.front };
}
front_byte byte bytes [] rest (inr isnt) splits = record {
  lines = [];
  rest = byte ∷ rest;
  splits = record { whole = ap (λ (x : List ℕ). byte ∷ x) splits.whole; each = tt; front = (isnt, splits.front) };
}
front_byte byte bytes (line ∷ lines) rest (inr isnt) splits = record {
  lines = (byte ∷ line) ∷ lines;
  rest = rest;
  splits = record { whole = ap (λ (x : List ℕ). byte ∷ x) splits.whole; each = ((isnt, splits.each.0), splits.each.1); front = splits.front };
}

-- all bytes are lines and a rest
pub some_split : (bytes : List ℕ) → SomeSplit bytes
some_split [] = record { lines = []; rest = []; splits = Splits-empty }
some_split (byte ∷ bytes) =
    let later = some_split bytes in
    front_byte byte bytes later.lines later.rest (cases_eq byte newline) later.splits

-- bytes none of which is a newline
pub HasNoNewline-places : (bytes : List ℕ) → ((k : ℕ) → k < length bytes → ¬ (get_or bytes k 0 ≡ newline)) → HasNoNewline bytes
HasNoNewline-places [] none = tt
HasNoNewline-places (byte ∷ bytes) none =
    let later : (k : ℕ) → k < length bytes → ¬ (get_or bytes k 0 ≡ newline) = λ k below is. none (suc k) (omega arith) is in
    (none 0 (omega arith), HasNoNewline-places bytes later)

isnt_newline : (byte : ℕ) → ¬ (is_byte newline byte ≡ true) → ¬ (byte ≡ newline)
isnt_newline byte isnt is = let P : ℕ → Type 0 = λ b. is_byte newline b ≡ true in isnt (subst P (sym is) refl)

-- up to the first newline there is none
pub before_newline : (bytes : List ℕ) (place : Option ℕ) → IsFirstByte (is_byte newline) bytes place
    → MatchOption place (HasNoNewline bytes) (λ at. HasNoNewline (take at bytes))
before_newline bytes None nowhere = HasNoNewline-places bytes (λ k below. isnt_newline _ (nowhere k (omega arith) below))
before_newline bytes (Some at) first =
    let within = first.0.high in
    HasNoNewline-places (take at bytes) (λ k below is.
    let before : k < at = omega (arith, below, length-take at bytes) in
    isnt_newline (get_or bytes k 0) (first.0.before k (omega arith) before) (sym (get_or-take at bytes k 0 before) ∙ is))

-- what is held of a line, and more of it
pub take_held : (held bytes : List ℕ) (most : ℕ) → length held ≤ most
    → held ++ take (min (length bytes) (most - length held)) bytes ≡ take most (held ++ bytes)
take_held held bytes most short =
    let n : ℕ = most - length held in
    let all : most ≡ length held + n = omega arith in
    let P : ℕ → Type 0 = λ m. held ++ take (min (length bytes) n) bytes ≡ take m (held ++ bytes) in
    subst P (sym all) (ap (λ (x : List ℕ). held ++ x) (take-min bytes n) ∙ sym (take-append-add held bytes n))
  where
    take-min : (xs : List ℕ) (n : ℕ) → take (min (length xs) n) xs ≡ take n xs
    take-min xs n = rw (min_comm (length xs) n) (take_min n xs)

-- what a full room holds, and more bytes
pub take_more_held : (most : ℕ) (line bytes : List ℕ) → take most (take most line ++ bytes) ≡ take most (line ++ bytes)
take_more_held zero line bytes = refl
take_more_held (suc most) [] bytes = refl
take_more_held (suc most) (byte ∷ line) bytes = ap (λ (x : List ℕ). byte ∷ x) (take_more_held most line bytes)
