use Rattle.std.proofs.Common.{◌==◌, ℕ, List, length, map, ap, sym, ◌∙◌}
use Rattle.std.specs.List.{position}
use Rattle.std.proofs.lemmas.List.{length-map}
use Rattle.live.specs.Placing.{closed, without}
use Rattle.live.proofs.Turning.{written}
use Rattle.live_counts.proofs.Numbering.{flag_taken}
use Rattle.live_counts.proofs.flags.take_flag.Goals as goal

pub returns-clause-flags : goal.returns-clause-flags
returns-clause-flags c =
    let left = c.leave.new.kept in
    let long = left.ok.0 in
    let flag = c.args.flag in
    let size = ap length c.close.ensures ∙ length-map c.deref_mut.result.now (closed flag) ∙ ap length c.deref_mut.ensures.value ∙ sym long in
    λ fs is lt.
    written left.len c.close.new.kept left.items (sym long) size ∙ c.close.ensures
    ∙ ap (map (closed flag)) (c.deref_mut.ensures.value ∙ c.leave.ensures.items ∙ ap (λ o. without o c.args.starts.now.items) (c.number_at-at.ensures ∙ ap (position (λ k. k == flag)) c.deref.ensures.value)
    ∙ ap (λ (ks : List ℕ). without (position (λ k. k == flag) ks) ks) is)
    ∙ flag_taken fs flag lt
