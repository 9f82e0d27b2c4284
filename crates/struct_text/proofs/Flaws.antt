-- The first of the tests for flaws, and names among names.
use Rattle.std.proofs.Common.{◌≡◌, ◌⊎◌, ℕ, zero, suc, ◌≤◌, Bool, true, false, List, [], ◌∷◌, refl, sym, inl, inr, ⊎_elim, MatchOption, arith, Contains}
use Rattle.std.proofs.lemmas.Bool.{true≢false, or_left, or_right, or_cases}
use Rattle.std.specs.Cmp.Lexicographic.{bytes_decides}
use Rattle.mk_value.specs.Names.{same_bytes}
use Rattle.struct_text.specs.Offences.{place_of, rank_of}
use Rattle.struct_text.specs.declared.error.StructError.{StructError}
use Rattle.struct_text.specs.declared.error.StructError.TheVariants.{Syntax, Floating, Repeated, TooDeep, TooMany, TooLong, Memory}
pub use Rattle.struct_text.specs.Flaws.{is_stuck, is_whole, floats, deepens, is_full, is_long, has_name, repeats, first_of_six, flaw, or_else, first_flaw}

-- What the first of six tests says of the others.
abbrev pub Holds : (wrong floating deep many long repeated : Bool) → StructError → Type 0
Holds wrong floating deep many long repeated (Syntax p) = wrong ≡ true
Holds wrong floating deep many long repeated (Floating p) = (wrong ≡ false) × (floating ≡ true)
Holds wrong floating deep many long repeated (TooDeep p) = (wrong ≡ false) × (deep ≡ true)
Holds wrong floating deep many long repeated (TooMany p) = (wrong ≡ false) × (many ≡ true)
Holds wrong floating deep many long repeated (TooLong p) = (wrong ≡ false) × (long ≡ true)
Holds wrong floating deep many long repeated (Repeated p) = (wrong ≡ false) × (repeated ≡ true)
Holds wrong floating deep many long repeated Memory = ⊥

pub record IsPicked (wrong floating deep many long repeated : Bool) (p : ℕ) (e : StructError) : Type 0 where
  pub holds : Holds wrong floating deep many long repeated e
  pub placed : place_of e ≡ p
  pub least : (f : StructError) → Holds wrong floating deep many long repeated f → rank_of e ≤ rank_of f

no : false ≡ true → ⊥
no e = true≢false (sym e)

below1 : (b c d e f : Bool) (x : StructError) → Holds false b c d e f x → 1 ≤ rank_of x
below1 b c d e f (Syntax p) h = absurd (no h)
below1 b c d e f (Floating p) h = omega arith
below1 b c d e f (TooDeep p) h = omega arith
below1 b c d e f (TooMany p) h = omega arith
below1 b c d e f (TooLong p) h = omega arith
below1 b c d e f (Repeated p) h = omega arith
below1 b c d e f Memory h = absurd h

below2 : (c d e f : Bool) (x : StructError) → Holds false false c d e f x → 2 ≤ rank_of x
below2 c d e f (Syntax p) h = absurd (no h)
below2 c d e f (Floating p) h = absurd (no h.1)
below2 c d e f (TooDeep p) h = omega arith
below2 c d e f (TooMany p) h = omega arith
below2 c d e f (TooLong p) h = omega arith
below2 c d e f (Repeated p) h = omega arith
below2 c d e f Memory h = absurd h

below3 : (d e f : Bool) (x : StructError) → Holds false false false d e f x → 3 ≤ rank_of x
below3 d e f (Syntax p) h = absurd (no h)
below3 d e f (Floating p) h = absurd (no h.1)
below3 d e f (TooDeep p) h = absurd (no h.1)
below3 d e f (TooMany p) h = omega arith
below3 d e f (TooLong p) h = omega arith
below3 d e f (Repeated p) h = omega arith
below3 d e f Memory h = absurd h

below4 : (e f : Bool) (x : StructError) → Holds false false false false e f x → 4 ≤ rank_of x
below4 e f (Syntax p) h = absurd (no h)
below4 e f (Floating p) h = absurd (no h.1)
below4 e f (TooDeep p) h = absurd (no h.1)
below4 e f (TooMany p) h = absurd (no h.1)
below4 e f (TooLong p) h = omega arith
below4 e f (Repeated p) h = omega arith
below4 e f Memory h = absurd h

below5 : (f : Bool) (x : StructError) → Holds false false false false false f x → 5 ≤ rank_of x
below5 f (Syntax p) h = absurd (no h)
below5 f (Floating p) h = absurd (no h.1)
below5 f (TooDeep p) h = absurd (no h.1)
below5 f (TooMany p) h = absurd (no h.1)
below5 f (TooLong p) h = absurd (no h.1)
below5 f (Repeated p) h = omega arith
below5 f Memory h = absurd h

below6 : (x : StructError) → Holds false false false false false false x → ⊥
below6 (Syntax p) h = no h
below6 (Floating p) h = no h.1
below6 (TooDeep p) h = no h.1
below6 (TooMany p) h = no h.1
below6 (TooLong p) h = no h.1
below6 (Repeated p) h = no h.1
below6 Memory h = h

pub picks : (wrong floating deep many long repeated : Bool) (p : ℕ)
    → MatchOption (first_of_six wrong floating deep many long repeated p) ((f : StructError) → Holds wrong floating deep many long repeated f → ⊥) (IsPicked wrong floating deep many long repeated p)
picks true b c d e f p = record { holds = refl; placed = refl; least = λ x h. omega arith }
picks false true c d e f p = record { holds = (refl, refl); placed = refl; least = below1 true c d e f }
picks false false true d e f p = record { holds = (refl, refl); placed = refl; least = below2 true d e f }
picks false false false true e f p = record { holds = (refl, refl); placed = refl; least = below3 true e f }
picks false false false false true f p = record { holds = (refl, refl); placed = refl; least = below4 true f }
picks false false false false false true p = record { holds = (refl, refl); placed = refl; least = below5 true }
picks false false false false false false p = below6

-- Whether a name is among others.
pub Contains-head : (name : List ℕ) (names : List (List ℕ)) (word : List ℕ) → name ≡ word → Contains (name ∷ names) word
Contains-head name names word e = (0, omega arith, e)

pub Contains-tail : (name : List ℕ) (names : List (List ℕ)) (word : List ℕ) → Contains names word → Contains (name ∷ names) word
Contains-tail name names word (k, l, e) = (suc k, omega arith, e)

pub Contains-cases : (name : List ℕ) (names : List (List ℕ)) (word : List ℕ) → Contains (name ∷ names) word → (name ≡ word) ⊎ Contains names word
Contains-cases name names word (zero, l, e) = inl e
Contains-cases name names word (suc k, l, e) = inr (k, omega arith, e)

pub has_name-from : (names : List (List ℕ)) (word : List ℕ) → Contains names word → has_name names word ≡ true
has_name-from [] word (k, l, e) = absurd (omega arith)
has_name-from (name ∷ names) word h =
    ⊎_elim (λ e. or_left (same_bytes name word) (has_name names word) ((bytes_decides name word).1 e)) (λ c. or_right (same_bytes name word) (has_name names word) (has_name-from names word c)) (Contains-cases name names word h)

pub Contains-from : (names : List (List ℕ)) (word : List ℕ) → has_name names word ≡ true → Contains names word
Contains-from [] word h = absurd (no h)
Contains-from (name ∷ names) word h =
    ⊎_elim (λ e. Contains-head name names word ((bytes_decides name word).0 e)) (λ c. Contains-tail name names word (Contains-from names word c)) (or_cases (same_bytes name word) (has_name names word) h)
