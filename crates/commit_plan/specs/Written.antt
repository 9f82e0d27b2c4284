-- One block of a plan that is written.
use Rattle.std.specs.Prelude.{◌≡◌, ℕ, ◌<◌, List, Result, IsOk}
use Rattle.mk_value.specs.declared.span.Span.{Span}
use Rattle.host_io.specs.Outside.{Outside}
use Rattle.host_io.specs.Ranges.{Puts}
use Rattle.block_io.specs.Parts.{rounded}

-- a block that has bytes is put at its span, and for another nothing is done
pub record PutsSome {T E : Type 0} (span : Span) (bytes : List ℕ) (old new : Outside) (result : Result T E) : Type 0 where
  pub some : 0 < span.len → Puts span.place (rounded bytes) old new result
  pub none : span.len ≡ 0 → (new ≡ old) × IsOk result
