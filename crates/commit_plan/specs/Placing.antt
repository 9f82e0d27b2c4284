-- Blocks placed one after another, by a map of what is free.
use Rattle.std.specs.Prelude.{◌≡◌, ℕ, ◌+◌, ◌<◌, ◌≤◌, List, [], ◌∷◌, ◌++◌, length, map, nat_lt, Bool, All, Contains}
use Rattle.mk_value.specs.declared.span.Span.{Span}
use Rattle.free_space.specs.Extents.{extent_end}
use Rattle.free_space.specs.FreeSpace.{FreeSpace, IsFree}
use Rattle.free_space.specs.Sites.{ArePlaced, IsPlaced}
use Rattle.commit_plan.specs.Following.{last_end}

-- the same extents are free beside both
pub record LeaveSame (one other : List Span) : Type 0 where
  pub there : (s : Span) → IsFree one s → IsFree other s
  pub back : (s : Span) → IsFree other s → IsFree one s

-- spans put on a list one after another
abbrev pub stacked : List Span → List Span → List Span
stacked [] used = used
stacked (s ∷ spans) used = stacked spans (s ∷ used)

-- the spans are in use as well, and as many less can be taken without memory
pub record AreTaken (spans : List Span) (old new : FreeSpace) : Type 0 where
  pub floor : new.floor ≡ old.floor
  pub used : LeaveSame new.used (stacked spans old.used)
  pub spare : old.spare ≤ new.spare + length spans

-- a block of so many bytes has its span
pub record IsPut (len : ℕ) (old new : FreeSpace) (span : Span) : Type 0 where
  pub placed : IsPlaced old.floor old.used len span
  pub fits : extent_end span ≤ last_end
  pub taken : AreTaken (span ∷ []) old new

-- at its least place the block would pass the last end
abbrev pub Passes : ℕ → FreeSpace → Type 0
Passes len map = (span : Span) → IsPlaced map.floor map.used len span → last_end < extent_end span

-- blocks of these lengths have their spans
pub record ArePut (lens : List ℕ) (old new : FreeSpace) (spans : List Span) : Type 0 where
  pub placed : ArePlaced old.floor old.used lens spans
  pub fit : All (λ s. extent_end s ≤ last_end) spans
  pub taken : AreTaken spans old new

-- one of these blocks passes the last end, whatever comes behind them
abbrev pub OnePasses : List ℕ → FreeSpace → Type 0
OnePasses lens map =
    (more : List ℕ) (spans : List Span) → ArePlaced map.floor map.used (lens ++ more) spans → (s : Span) × Contains spans s × (last_end < extent_end s)

-- the span has bytes
abbrev pub has_bytes : Span → Bool
has_bytes s = nat_lt 0 s.len
