use Rattle.std.proofs.Common.{◌≡◌, ◌≤◌, List, ℕ, sum, ap, sym, subst, ◌∙◌, length, arith}
use Rattle.std.specs.List.{All}
use Rattle.segments.specs.Joined.{counts_of}
use Rattle.segments.proofs.Joined.{length-joined}
use Rattle.tables.proofs.groups.Groups.of_chunks.Goals as goal

pub from_counts-requires : goal.from_counts-requires
from_counts-requires c =
    let groups = c.in_ok-groups.groups.items in
    let counted : c.deref-3.result.now ≡ counts_of groups = c.deref-3.ensures.value ∙ c.in_ok-counts.ensures ∙ ap counts_of c.deref-2.ensures.value in
    let few : List ℕ → Type 0 = All (λ n. n ≤ 64) in (
      omega arith,
      (
        omega arith,
        (
          subst few (sym counted) c.in_ok-groups.ensures.few,
          omega (arith, ap sum counted, length-joined groups, ap length c.in_ok-groups.ensures.chunks, ap length c.deref.ensures.value, c.requires),
        ),
      ),
    )
