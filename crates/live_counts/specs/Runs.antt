-- Runs of rows with equal keys, in the order of the keys.
use Rattle.std.specs.Prelude.{ℕ, suc, ◌==◌, Bool, true, false, not, ◌||◌, ◌&&◌, if◌then◌else◌, List, [], ◌∷◌, length, remove, slice_index_or, Option, Some, None}
use Rattle.std.specs.Ordering.{is_eq}
use Rattle.mk_value.specs.Data.{Datum}
use Rattle.mk_value.specs.Heading.{Attribute}
use Rattle.relations.specs.Positions.{passing}
use Rattle.live.specs.Watching.{order}
use Rattle.live.specs.declared.op.WatchOp.{WatchOp}

-- the rows at two positions have equal keys
abbrev pub ties : List Attribute → WatchOp → List (List Datum) → ℕ → ℕ → Bool
ties schema op rows i j = is_eq (order schema op (slice_index_or rows i []) (slice_index_or rows j []))

-- whether a run begins with an element, after the one before it
abbrev pub begins : (ℕ → ℕ → Bool) → Option ℕ → ℕ → Bool
begins same None k = true
begins same (Some before) k = not (same before k)

-- for each element whether a run begins with it
abbrev pub flags_from : (ℕ → ℕ → Bool) → Option ℕ → List ℕ → List Bool
flags_from same before [] = []
flags_from same before (k ∷ ks) = begins same before k ∷ flags_from same (Some k) ks

abbrev pub flags : (ℕ → ℕ → Bool) → List ℕ → List Bool
flags same ks = flags_from same None ks

-- the places where the runs begin
abbrev pub raised : List Bool → List ℕ
raised fs = passing (λ b. b) false fs

abbrev pub starts : (ℕ → ℕ → Bool) → List ℕ → List ℕ
starts same ks = raised (flags same ks)

-- which flag is gone when the element at a place goes: where it began a run that goes on, the next element's, which begins it now
abbrev pub going_flag : List Bool → ℕ → ℕ
going_flag fs at =
    if slice_index_or fs at false && not (suc at == length fs || slice_index_or fs (suc at) false) then suc at else at

-- the flags once the element at a place is gone, if one is
abbrev pub without_flag : List Bool → Option ℕ → List Bool
without_flag fs None = fs
without_flag fs (Some at) = remove fs (going_flag fs at)
