-- The pieces so far lead the text, and what comes next is one more, or its first flaw, or nothing.
use Rattle.std.proofs.Common.{ℕ, [], ◌∷◌, ◌++◌, drop, arith, subst, sym, Some, None}
use Rattle.tokens.specs.Cutting.{Cuts, FlawFrom}
use Rattle.tokens.specs.Meanings.{piece_of}
use Rattle.tokens.proofs.Chains.{Walks, found_further, walks_none, walks_push, walks_cuts, walks_flaw}
use Rattle.tokens.proofs.cutting.some_cutting.Goals as goal

pub pieces-init : goal.pieces-init
pieces-init c = (omega arith, [], walks_none 0 c.as_bytes-bytes.result.now)

pub pieces-smaller : goal.pieces-smaller
pieces-smaller c =
    let some = rw c.in-Ok-Some.field-0-is at c.in-Ok-Some.ensures.found in
    let further = found_further c.pieces.end (drop c.pieces.end c.as_bytes-bytes.result.now) (piece_of c.in-Ok-Some.field-0-0-0) (drop c.in-Ok-Some.next c.as_bytes-bytes.result.now) some.2 in
    omega (arith, some.0, some.1, further)

pub pieces-preserved : goal.pieces-preserved
pieces-preserved c =
    let some = rw c.in-Ok-Some.field-0-is at c.in-Ok-Some.ensures.found in
    let pieces = c.pieces.invariant.1 in
    let walked = walks_push 0 c.as_bytes-bytes.result.now pieces c.pieces.end (drop c.pieces.end c.as_bytes-bytes.result.now) (piece_of c.in-Ok-Some.field-0-0-0)
    (drop c.in-Ok-Some.next c.as_bytes-bytes.result.now) c.pieces.invariant.2 some.2 in
    let P : ℕ → Type 0 = λ n. Walks 0 c.as_bytes-bytes.result.now (pieces ++ piece_of c.in-Ok-Some.field-0-0-0 ∷ []) n (drop c.in-Ok-Some.next c.as_bytes-bytes.result.now) in
    (some.0, pieces ++ piece_of c.in-Ok-Some.field-0-0-0 ∷ [], subst P (sym some.1) walked)

pub returns-in-Ok-None : goal.returns-in-Ok-None
returns-in-Ok-None c =
    let none = rw c.in-Ok-None.field-0-is at c.in-Ok-None.ensures.found in
    let pieces = c.pieces.invariant.1 in (
      pieces,
      None,
      subst (λ t. Cuts t pieces) c.as_bytes-bytes.ensures.value
          (walks_cuts 0 c.as_bytes-bytes.result.now pieces c.pieces.end (drop c.pieces.end c.as_bytes-bytes.result.now) c.pieces.invariant.2 none),
    )

pub returns-in-Err : goal.returns-in-Err
returns-in-Err c =
    let pieces = c.pieces.invariant.1 in (
      pieces,
      Some c.in-Err.field-0,
      subst (λ t. FlawFrom 0 t pieces c.in-Err.field-0) c.as_bytes-bytes.ensures.value
          (walks_flaw 0 c.as_bytes-bytes.result.now pieces c.pieces.end (drop c.pieces.end c.as_bytes-bytes.result.now) c.in-Err.field-0 c.pieces.invariant.2 c.in-Err.ensures.fails),
    )
