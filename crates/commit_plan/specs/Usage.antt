-- What spans take up of a file.
use Rattle.std.specs.Prelude.{◌≡◌, ℕ, ◌+◌, ◌-◌, ◌^◌, min, List, length}
use Rattle.std.specs.List.{filter, sum_by}
use Rattle.mk_value.specs.declared.span.Span.{Span}
use Rattle.free_space.specs.Extents.{extent_len}
use Rattle.commit_plan.specs.Placing.{has_bytes}
use Rattle.commit_plan.specs.declared.measuring.Usage.{Usage}

-- a count that stands still at the last number of 64 bits
abbrev pub held : ℕ → ℕ
held n = min n (2 ^ 64 - 1)

-- the sum of the extents
abbrev pub extents_sum : List Span → ℕ
extents_sum spans = sum_by (λ s. extent_len s.len) spans

-- how many have bytes
abbrev pub block_count : List Span → ℕ
block_count spans = length (filter has_bytes spans)

abbrev pub usage_of : List Span → Usage
usage_of spans = record { bytes = held (extents_sum spans); blocks = held (block_count spans) }

-- what is taken up, after these spans were added
pub record Adds (spans : List Span) (old new : Usage) : Type 0 where
  pub bytes : new.bytes ≡ held (old.bytes + extents_sum spans)
  pub blocks : new.blocks ≡ held (old.blocks + block_count spans)
