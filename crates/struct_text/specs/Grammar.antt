-- The grammar of loose structure texts: structure texts without the limits on the lengths of names, on depth,
-- on the number of properties and on repetition, and with the letters of the floating kinds.
use Rattle.std.specs.Prelude.{◌≡◌, ◌⊎◌, ℕ, List, [], ◌∷◌, ◌++◌, IsTrue}
use Rattle.std.specs.List.{list_all}
use Rattle.mk_value.specs.Names.{is_name_byte}
use Rattle.struct_text.specs.Bytes.{open_bracket, close_bracket, colon, comma, is_name_start, is_plain_letter, is_floating_letter}

-- a name of any length: letters, digits or `_`, the first no digit
abbrev pub IsWord : List ℕ → Type 0
IsWord [] = ⊥
IsWord (b ∷ bs) = IsTrue (is_name_start b) × IsTrue (list_all is_name_byte bs)

mutual
  -- What stands behind a property's name: `:K` with the letter of a kind, or `[PROPS]`.
  pub data IsLooseKind : List ℕ → Type 0 where
    letter : (k : ℕ) → IsTrue (is_plain_letter k) ⊎ IsTrue (is_floating_letter k) → IsLooseKind (colon ∷ k ∷ [])
    bracketed : (properties : List ℕ) → AreLooseProperties properties → IsLooseKind (open_bracket ∷ (properties ++ close_bracket ∷ []))

  -- One or more properties, joined by commas: those with a comma behind them, and the last.
  pub data AreLooseProperties : List ℕ → Type 0 where
    joined : (names : List (List ℕ)) (front name kind : List ℕ) → AreListed names front → IsWord name → IsLooseKind kind
        → AreLooseProperties (front ++ (name ++ kind))

  -- Properties of these names, in order, each with a comma behind it.
  pub data AreListed : List (List ℕ) → List ℕ → Type 0 where
    none : AreListed [] []
    more : (names : List (List ℕ)) (front name kind : List ℕ) → AreListed names front → IsWord name → IsLooseKind kind
        → AreListed (names ++ name ∷ []) (front ++ (name ++ (kind ++ comma ∷ [])))

-- `NAME[PROPS]`
pub record IsLooseOf (name properties text : List ℕ) : Type 0 where
  pub named : IsWord name
  pub body : AreLooseProperties properties
  pub spelled : text ≡ name ++ (open_bracket ∷ (properties ++ close_bracket ∷ []))

abbrev pub IsLoose : List ℕ → Type 0
IsLoose text = (name : List ℕ) × (properties : List ℕ) × IsLooseOf name properties text

-- some loose text begins with these bytes
abbrev pub BeginsLoose : List ℕ → Type 0
BeginsLoose front = (rest : List ℕ) × IsLoose (front ++ rest)
