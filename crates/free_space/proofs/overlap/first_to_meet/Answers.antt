use Rattle.std.proofs.Common.{◌≡◌, ◌+◌, ◌-◌, ◌<◌, get_or, length, arith}
use Rattle.std.proofs.lemmas.List.{get_or_default}
use Rattle.std.proofs.lemmas.List.Sorted.{all_adjacent_more}
use Rattle.std.proofs.lemmas.Option.{slice_get-get_or}
use Rattle.mk_value.specs.declared.span.Span.{Span}
use Rattle.free_space.specs.Extents.{Meets}
use Rattle.free_space.proofs.ExtentLemmas.{apart_from_end, meets_within}
use Rattle.free_space.proofs.overlap.first_to_meet.Goals as goal

abbrev blank : Span
blank = record { place = 0; len = 0 }

pub returns-then-other-extent_end-clause-found : goal.returns-then-other-extent_end-clause-found
returns-then-other-extent_end-clause-found c =
    let spans = c.args.ordered.now in
    let at = c.loop-at.at in
    let inside : at < length spans = c.loop-at-test.true in
    let next : at ≡ (at - 1) + 1 = omega arith in
    record {
      at = at - 1;
      first = slice_get-get_or spans (at - 1) blank (omega arith);
      second = rw (← next) (slice_get-get_or spans at blank inside);
      meet = meets_within (get_or spans (at - 1) blank) (get_or spans at blank) (c.requires.blocks at blank inside).not_empty (c.requires.by_place (at - 1) at blank (omega arith) inside) (rw (← c.extent_end.ensures) c.if-other-extent_end.true);
      none_before = rw (← next) c.loop-at.invariant;
    }

pub loop-at-preserved : goal.loop-at-preserved
loop-at-preserved c =
    let spans = c.args.ordered.now in
    let at = c.loop-at.at in
    let inside : at < length spans = c.loop-at-test.true in
    let apart : ¬ Meets (get_or spans (at - 1) blank) (get_or spans at blank) = apart_from_end (get_or spans (at - 1) blank) (get_or spans at blank) (rw (← c.extent_end.ensures) c.if-other-extent_end.false) in
    all_adjacent_more spans (λ one later. ¬ Meets one later) at (omega arith) c.loop-at.invariant (λ d. rw (get_or_default spans (at - 1) d blank (omega arith), get_or_default spans at d blank inside) apart)

pub returns-clause-none : goal.returns-clause-none
returns-clause-none c = λ k d within. c.loop-at.invariant k d (omega arith)
