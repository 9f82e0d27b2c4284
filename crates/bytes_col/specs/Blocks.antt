-- A column made of its blocks.
use Rattle.std.specs.Prelude.{◌≡◌, ℕ, ◌≤◌, ℤ, Bool, false, ◌==◌, nat_le, if◌then◌else◌, List, [], ◌∷◌, ◌++◌, length, take}
use Rattle.bytes_col.specs.declared.blocks.BlocksError.{BlocksError}
use Rattle.bytes_col.specs.declared.blocks.BlocksError.TheVariants.{Mismatch, Memory}
use Rattle.bytes_col.specs.declared.blocks.Next.{Next}
use Rattle.bytes_col.specs.Strings.{sizes_of, short_bytes, long_values}

-- these are the sizes of the values, the short ones joined, and the memos
pub record AreBlocks (values : List (List ℕ)) (sizes : List ℤ) (short : List ℕ) (memos : List (List ℕ)) : Type 0 where
  pub sized : sizes ≡ sizes_of values
  pub brief : short ≡ short_bytes values
  pub long : memos ≡ long_values values

-- Why a column is not made: no values have these blocks. Want of memory has no cause in the blocks.
abbrev pub IsBlocksRefusal : List ℤ → List ℕ → List (List ℕ) → BlocksError → Type 0
IsBlocksRefusal sizes short memos Mismatch = (values : List (List ℕ)) → ¬ AreBlocks values sizes short memos
IsBlocksRefusal sizes short memos Memory = Unit {0}

-- whether the first of these memos has this size
abbrev pub first_has : ℕ → List (List ℕ) → Bool
first_has n [] = false
first_has n (memo ∷ memos) = length memo == n

-- whether the next short bytes, or the next memo, are a value of this size
abbrev pub fits_first : ℕ → List ℕ → List (List ℕ) → Bool
fits_first n short memos = if nat_le n 512 then nat_le n (length short) else first_has n memos

-- a value of this size was added, which the next short bytes or the next memo are
pub record TakesNext (size : ℕ) (short : List ℕ) (memos : List (List ℕ)) (old new : List (List ℕ)) (from to : Next) : Type 0 where
  pub value : List ℕ
  pub added : new ≡ old ++ value ∷ []
  pub sized : size ≡ length value
  pub brief : take to.byte short ≡ take from.byte short ++ short_bytes (value ∷ [])
  pub long : take to.memo memos ≡ take from.memo memos ++ long_values (value ∷ [])
  pub byte : to.byte ≤ length short
  pub memo : to.memo ≤ length memos
