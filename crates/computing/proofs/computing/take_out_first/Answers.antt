use Rattle.std.proofs.Common.{position, refl, ap, sym, ◌∙◌}
use Rattle.mk_value.specs.Names.{same_bytes}
use Rattle.computing.specs.Computed.{ComputedWatch, without_first}
use Rattle.computing.proofs.Firsts.{first_placed, made_none, none_placed, removed_first}
use Rattle.computing.proofs.computing.take_out_first.Goals as goal

pub returns-in-Some : goal.returns-in-Some
returns-in-Some c =
    let name = c.args.name.now in
    let test = λ (w : ComputedWatch). same_bytes w.name name in
    let all = c.args.watches.now.items in
    let at = c.in-Some.at in
    let first = first_placed test all at (ap (position test) (sym c.deref.ensures.value) ∙ sym c.place_of.ensures ∙ c.in-Some.is) in
    c.remove.ensures.items ∙ sym (removed_first test (λ xs. without_first xs name) (λ _ _. refl) all at first)

pub returns-in_default : goal.returns-in_default
returns-in_default c =
    let name = c.args.name.now in
    let test = λ (w : ComputedWatch). same_bytes w.name name in
    let all = c.args.watches.now.items in
    let none = none_placed test all (ap (position test) (sym c.deref.ensures.value) ∙ sym c.place_of.ensures ∙ c.in_default.is) in
    sym (made_none test (λ _ xs. xs) (λ xs. without_first xs name) refl (λ _ _. refl) all none)
