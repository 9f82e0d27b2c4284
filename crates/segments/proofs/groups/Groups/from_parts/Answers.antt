use Rattle.std.proofs.Common.{◌≡◌, ◌≤◌, ℕ, List, sum, ap, sym, subst, ◌∙◌, length, arith}
use Rattle.std.specs.List.{All}
use Rattle.segments.specs.Joined.{counts_of}
use Rattle.segments.proofs.Joined.{length-joined}
use Rattle.segments.proofs.groups.Groups.from_parts.Goals as goal

pub from_counts-requires : goal.from_counts-requires
from_counts-requires g c =
    let groups = c.in_ok-groups.groups.items in
    let counted : c.deref-3.result.now ≡ counts_of groups = c.deref-3.ensures.value ∙ c.in_ok-counts.ensures ∙ ap counts_of c.deref-2.ensures.value in
    let few : List ℕ → Type 0 = All (λ n. n ≤ 64) in (
      omega arith,
      (
        omega arith,
        (
          subst few (sym counted) c.in_ok-groups.ensures.few,
          omega (arith, ap sum counted, length-joined groups, ap length c.in_ok-groups.ensures.parts, ap length c.deref.ensures.value, c.requires),
        ),
      ),
    )
