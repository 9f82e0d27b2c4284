use Rattle.std.proofs.Common.{◌≡◌, refl, subst, inl, inr, arith}
use Rattle.std.proofs.Common.{Equal}
use Rattle.std.proofs.lemmas.Cmp.{ranked}
use Rattle.commit_marks.specs.Marks.{HasMark, IsSpoiled}
use Rattle.commit_marks.specs.Slots.{HasSlot}
use Rattle.commit_marks.proofs.choosing.pick.Goals as goal

pub returns-in-Equal-clause-gives : goal.returns-in-Equal-clause-gives
returns-in-Equal-clause-gives c = λ image headed first second.
    let one : HasMark image 0 c.in-Open-Open.one = subst (HasSlot image 0) c.in-Open-Open.is-0 first in
    let two : HasMark image 1 c.in-Open-Open.two = subst (HasSlot image 1) c.in-Open-Open.is-1 second in
    (headed, inr (inl ((c.in-Open-Open.one, c.in-Open-Open.two, one, two, ranked c.in-Open-Open.one.number c.in-Open-Open.two.number Equal c.in-Equal.ensures), refl)))

-- the first slot is open over a mark, and so not spoiled
pub returns-in_default-Spoiled-2-clause-gives : goal.returns-in_default-Spoiled-2-clause-gives
returns-in_default-Spoiled-2-clause-gives c = λ image headed first second.
    let one : HasMark image 0 c.in_default-Spoiled.field-0-0 = subst (HasSlot image 0) c.in_default-Spoiled.is-0 first in
    let two : IsSpoiled image 1 = subst (HasSlot image 1) c.in_default-Spoiled.is-1 second in
    (headed, inl (1, (omega arith, two, (λ s below spoiled. let zero : s ≡ 0 = omega (arith, below) in (subst (IsSpoiled image) zero spoiled).spoiled c.in_default-Spoiled.field-0-0 one)), refl))
