use Rattle.std.proofs.Common.{◌≡◌, ◌-◌, ℕ, List, length, take, drop, refl, ap, ◌∙◌, arith}
use Rattle.std.proofs.lemmas.List.{length-take, length-drop}
use Rattle.segments.specs.Joined.{joined}
use Rattle.bytes_col.specs.Filled.{short_from}
use Rattle.bytes_col.proofs.Filled.{filled_on, rest_of}
use Rattle.bytes_col.proofs.chunked.Chunked.fill_short.Goals as goal

pub loop-filled-preserved : goal.loop-filled-preserved
loop-filled-preserved c =
    let vs : List (List ℕ) = joined c.args.self.now in
    let into = c.loop-filled.into in
    let done = c.loop-filled.filled.bytes in
    let old : List ℕ = take (length into - done) (drop done into) in
    let size : length old ≡ length into - done = length-take (length into - done) (drop done into) ∙ (omega (arith, length-drop done into)) in
    filled_on vs c.args.row c.args.skip (length c.args.into.now) into c.fill_some-more.new.into _ old c.loop-filled.filled c.fill_some-more.result _ c.loop-filled.invariant c.fill_some-more.ensures c.loop-filled.auto.into
    (omega (arith, size, c.loop-filled.auto.into)) (omega (arith, c.fill_some-more.ensures.has.within, c.fill_some-more.auto.into)) refl refl refl

pub returns-clause-rest : goal.returns-clause-rest
returns-clause-rest c =
    let vs : List (List ℕ) = joined c.args.self.now in
    let all : c.loop-filled.filled.bytes ≡ length c.args.into.now = omega (arith, c.loop-filled-test.false, c.loop-filled.auto.into, c.loop-filled.invariant.within) in
    rest_of vs c.args.row c.args.skip c.loop-filled.filled c.loop-filled.invariant.onward c.loop-filled.invariant.place
    ∙ ap (λ k. drop k (short_from vs c.args.row c.args.skip)) all
