use Rattle.std.proofs.Common.{◌-◌, ◌<◌, ◌≤◌, ℕ, List, All, length, get_or, min, ap, arith, sym, subst, ◌∙◌, vec_len}
use Rattle.std.specs.Vec.{vec_capacity}
use Rattle.std.proofs.Math.Nat.{le-min, min-le_left, min-le_right}
use Rattle.mk_value.specs.Limits.{max_rows}
use Rattle.live.specs.Watching.{goes_from, placed, root_turn}
use Rattle.live_counts.proofs.counts.LiveCounts.reserve.Goals as goal

pub invariant_of-self : goal.invariant_of-self
invariant_of-self c =
    let i = c.self.invariant in
    let k = c.reserve.ensures in
    let old_kept = c.self.inside.keeper.kept in
    let old_starts = c.self.inside.starts in
    let new_kept = c.reserve.new.self in
    record {
      sorting = i.sorting;
      in_range = subst (λ (ks : List ℕ). All (λ x. x < length ks) old_starts.items) (sym k.list) i.in_range;
      in_order = i.in_order;
      small = subst (λ (ks : List ℕ). length ks ≤ max_rows) (sym k.list) i.small;
      ready = λ e is.
          let r = i.ready e is in
          let one = r.1 in
          let a = min-le_left old_kept.spare (vec_capacity old_starts - vec_len old_starts) in
          let b = min-le_right old_kept.spare (vec_capacity old_starts - vec_len old_starts) in
          let grown = k.grown in
          let first : 1 ≤ new_kept.spare = omega arith in
          let second : 1 ≤ vec_capacity old_starts - vec_len old_starts = omega arith in
          let both : 1 ≤ min new_kept.spare (vec_capacity old_starts - vec_len old_starts) = le-min first second in
          (r.0 ∙ ap (λ (ks : List ℕ). placed ks (goes_from (root_turn e))) (sym k.list), omega arith);
    }

pub invariant_of-self-in_err-reserve-2 : goal.invariant_of-self-in_err-reserve-2
invariant_of-self-in_err-reserve-2 c =
    let i = c.self.invariant in
    let k = c.in_ok-reserve.ensures in
    let s = c.in_err-reserve-2.ensures in
    let old_kept = c.self.inside.keeper.kept in
    let old_starts = c.self.inside.starts in
    let new_kept = c.reserve.new.self in
    let new_starts = c.reserve-2.new.self in
    record {
      sorting = i.sorting;
      in_range = subst (λ (xs : List ℕ). All (λ x. x < length new_kept.list) xs) (sym s.items) (subst (λ (ks : List ℕ). All (λ x. x < length ks) old_starts.items) (sym k.list) i.in_range);
      in_order = subst (λ (xs : List ℕ). (a b d : ℕ) → a < b → b < length xs → get_or xs a d < get_or xs b d) (sym s.items) i.in_order;
      small = subst (λ (ks : List ℕ). length ks ≤ max_rows) (sym k.list) i.small;
      ready = λ e is.
          let r = i.ready e is in
          let one = r.1 in
          let a = min-le_left old_kept.spare (vec_capacity old_starts - vec_len old_starts) in
          let b = min-le_right old_kept.spare (vec_capacity old_starts - vec_len old_starts) in
          let grown = k.grown in
          let starts_len = s.len in
          let starts_cap = s.capacity in
          let first : 1 ≤ new_kept.spare = omega arith in
          let second : 1 ≤ vec_capacity new_starts - vec_len new_starts = omega arith in
          let both : 1 ≤ min new_kept.spare (vec_capacity new_starts - vec_len new_starts) = le-min first second in
          (r.0 ∙ ap (λ (ks : List ℕ). placed ks (goes_from (root_turn e))) (sym k.list), omega arith);
    }
