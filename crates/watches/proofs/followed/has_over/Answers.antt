use Rattle.std.proofs.Common.{◌≡◌, ◌||◌, get_or, [], true, false, ap, sym, ◌∙◌, arith}
use Rattle.std.specs.List.{list_any}
use Rattle.std.proofs.lemmas.List.{take_all}
use Rattle.std.proofs.lemmas.List.Folds.{list_any_at, list_any_more}
use Rattle.watches.specs.Keeping.{shown_by}
use Rattle.watches.specs.Watches.{Shown, stands_over}
use Rattle.watches.proofs.Grouped.{any_watch, stands_at}
use Rattle.watches.proofs.Naming.{shown_length, beside}
use Rattle.watches.proofs.followed.has_over.Goals as goal

pub is_over-requires : goal.is_over-requires
is_over-requires c s e = let p = c.source_at.ensures.before s e in let t = c.loop-place-test.true in omega arith

pub loop-place-preserved : goal.loop-place-preserved
loop-place-preserved c =
    let names = c.args.names.now in
    let ws = c.args.watches.now.watches in
    let name = c.args.name.now in
    let i = c.loop-place.place in
    let all = shown_by names ws in
    let over = λ (s : Shown). stands_over all name s.source in
    let long = shown_length names ws c.requires in
    let t = c.loop-place-test.true in
    let here : over (get_or all i (beside [] any_watch)) ≡ false =
    stands_at names ws name i c.source_at.result c.requires (omega arith) c.source_at.ensures.source ∙ sym c.is_over.ensures ∙ c.if-is_over.false in
    list_any_more over all i (beside [] any_watch) (omega arith) ∙ ap (λ b. b || over (get_or all i (beside [] any_watch))) c.loop-place.invariant ∙ here

pub returns-then-is_over : goal.returns-then-is_over
returns-then-is_over c =
    let names = c.args.names.now in
    let ws = c.args.watches.now.watches in
    let name = c.args.name.now in
    let i = c.loop-place.place in
    let all = shown_by names ws in
    let over = λ (s : Shown). stands_over all name s.source in
    let long = shown_length names ws c.requires in
    let t = c.loop-place-test.true in
    let here : over (get_or all i (beside [] any_watch)) ≡ true =
    stands_at names ws name i c.source_at.result c.requires (omega arith) c.source_at.ensures.source ∙ sym c.is_over.ensures ∙ c.if-is_over.true in
    sym (list_any_at over all i (beside [] any_watch) (omega arith) here)

pub returns : goal.returns
returns c =
    let names = c.args.names.now in
    let ws = c.args.watches.now.watches in
    let all = shown_by names ws in
    let over = λ (s : Shown). stands_over all c.args.name.now s.source in
    let long = shown_length names ws c.requires in
    let t = c.loop-place-test.false in
    sym (ap (list_any over) (sym (take_all c.loop-place.place all (omega arith))) ∙ c.loop-place.invariant)
