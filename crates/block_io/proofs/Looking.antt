-- Bytes that are read piece by piece.
use Rattle.std.proofs.Common.{◌≡◌, sym, ◌∙◌, ap, ℕ, ◌+◌, List, ◌++◌, take, drop}
use Rattle.std.proofs.lemmas.List.{drop-drop}
use Rattle.std.proofs.Math.Seq.{take-add}
use Rattle.host_io.specs.Calls.{Looks}
use Rattle.host_io.specs.Outside.{Outside}

-- two calls that only look are one
pub looks_joins : {old mid new : Outside} → Looks old mid → Looks mid new → Looks old new
looks_joins first then = record {
  still = record { now = then.still.now ∙ first.still.now; past = then.still.past ∙ first.still.past };
  input = then.input ∙ first.input;
}

-- the bytes behind those that were read
pub read_more : (file : List ℕ) (at done count : ℕ) → take done (drop at file) ++ take count (drop (at + done) file) ≡ take (done + count) (drop at file)
read_more file at done count =
    ap (λ (l : List ℕ). take done (drop at file) ++ take count l) (sym (drop-drop done at file)) ∙ sym (take-add done count (drop at file))
