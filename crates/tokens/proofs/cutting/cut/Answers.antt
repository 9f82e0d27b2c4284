-- The pieces so far lead the text, and what comes next is one more, or its first flaw, or nothing.
use Rattle.std.proofs.Common.{ℕ, [], ◌∷◌, ◌++◌, drop, arith, subst, sym}
use Rattle.std.proofs.lemmas.Bool.{false≢true}
use Rattle.tokens.specs.Cutting.{Cuts, CutsUpTo, FlawFrom}
use Rattle.tokens.specs.Meanings.{piece_of}
use Rattle.tokens.proofs.Chains.{Walks, found_further, one_more_of, walks_push, walks_cuts, walks_flaw}
use Rattle.tokens.proofs.cutting.cut.Goals as goal

pub returns-in_err-push-in-Ok-Some-clause-in_place : goal.returns-in_err-push-in-Ok-Some-clause-in_place
returns-in_err-push-in-Ok-Some-clause-in_place c = λ pieces flaw cuts few.
    let some = rw c.in-Ok-Some.field-0-is at c.in-Ok-Some.ensures.found in
    let more = one_more_of c.as_bytes-bytes.result.now c.pieces.pieces pieces c.pieces.end (drop c.pieces.end c.as_bytes-bytes.result.now) (piece_of c.in-Ok-Some.piece)
    (drop c.in-Ok-Some.next c.as_bytes-bytes.result.now) flaw c.pieces.invariant.walked (subst (λ t. CutsUpTo t pieces flaw) (sym c.as_bytes-bytes.ensures.value) cuts) some.2 in
    absurd (false≢true (c.in_err-push-in-Ok-Some.ensures.in_place (omega (arith, more, few))))

pub pieces-smaller : goal.pieces-smaller
pieces-smaller c =
    let some = rw c.in-Ok-Some.field-0-is at c.in-Ok-Some.ensures.found in
    let further = found_further c.pieces.end (drop c.pieces.end c.as_bytes-bytes.result.now) (piece_of c.in-Ok-Some.piece) (drop c.in-Ok-Some.next c.as_bytes-bytes.result.now) some.2 in
    omega (arith, some.0, some.1, further)

pub pieces-preserved : goal.pieces-preserved
pieces-preserved c =
    let some = rw c.in-Ok-Some.field-0-is at c.in-Ok-Some.ensures.found in
    let walked = walks_push 0 c.as_bytes-bytes.result.now c.pieces.pieces c.pieces.end (drop c.pieces.end c.as_bytes-bytes.result.now) (piece_of c.in-Ok-Some.piece)
    (drop c.in-Ok-Some.next c.as_bytes-bytes.result.now) c.pieces.invariant.walked some.2 in
    let P : ℕ → Type 0 = λ n. Walks 0 c.as_bytes-bytes.result.now (c.pieces.pieces ++ piece_of c.in-Ok-Some.piece ∷ []) n (drop c.in-Ok-Some.next c.as_bytes-bytes.result.now) in
    record {
      within = some.0;
      walked = rw c.in_ok-push-in-Ok-Some.ensures.ok (subst P (sym some.1) walked);
    }

pub returns-in-Ok-None-clause-cuts : goal.returns-in-Ok-None-clause-cuts
returns-in-Ok-None-clause-cuts c =
    let none = rw c.in-Ok-None.field-0-is at c.in-Ok-None.ensures.found in
    subst (λ t. Cuts t c.pieces.pieces) c.as_bytes-bytes.ensures.value
    (walks_cuts 0 c.as_bytes-bytes.result.now c.pieces.pieces c.pieces.end (drop c.pieces.end c.as_bytes-bytes.result.now) c.pieces.invariant.walked none)

pub returns-in-Err-clause-cuts : goal.returns-in-Err-clause-cuts
returns-in-Err-clause-cuts c =
    subst (λ t. FlawFrom 0 t c.pieces.pieces c.in-Err.place) c.as_bytes-bytes.ensures.value
    (walks_flaw 0 c.as_bytes-bytes.result.now c.pieces.pieces c.pieces.end (drop c.pieces.end c.as_bytes-bytes.result.now) c.in-Err.place c.pieces.invariant.walked c.in-Err.ensures.fails)
