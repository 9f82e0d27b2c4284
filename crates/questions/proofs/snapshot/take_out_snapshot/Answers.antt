use Rattle.std.proofs.Common.{position, refl, ap, sym, ◌∙◌}
use Rattle.mk_value.specs.Names.{same_bytes}
use Rattle.questions.specs.Kept.{Kept, without_kept}
use Rattle.questions.proofs.Firsts.{any_first, any_none, first_placed, made_none, none_placed, removed_first}
use Rattle.questions.proofs.snapshot.take_out_snapshot.Goals as goal

pub returns-in-Some : goal.returns-in-Some
returns-in-Some c =
    let name = c.args.name.now in
    let test = λ (x : Kept). same_bytes x.name name in
    let all = c.args.snapshots.now in
    let at = c.in-Some.at in
    let first = first_placed test all at (ap (position test) (sym c.as_slice.ensures) ∙ sym c.place_of.ensures ∙ c.in-Some.is) in
    record {
      there = sym (any_first test all at first);
      rest = c.remove.ensures.rest ∙ sym (removed_first test (λ xs. without_kept xs name) (λ _ _. refl) all at first);
    }

pub returns-in-None : goal.returns-in-None
returns-in-None c =
    let name = c.args.name.now in
    let test = λ (x : Kept). same_bytes x.name name in
    let all = c.args.snapshots.now in
    let none = none_placed test all (ap (position test) (sym c.as_slice.ensures) ∙ sym c.place_of.ensures ∙ c.in-None.is) in
    record {
      there = sym (any_none test all none);
      rest = sym (made_none test (λ _ xs. xs) (λ xs. without_kept xs name) refl (λ _ _. refl) all none);
    }
