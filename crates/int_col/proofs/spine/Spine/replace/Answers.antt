use Rattle.std.proofs.Common.{◌≡◌, ◌∙◌, ℕ, ap, drop, length, subst, sym, FitsSigned, w64, rules}
use Rattle.std.proofs.lemmas.Int.{to_z-of_z}
use Rattle.std.proofs.lemmas.Result.{on_ok_weaker}
use Rattle.segments.specs.Splices.{AreApartBefore, AreApartBehind, size_after}
use Rattle.segments.specs.Joined.{joined, counts_of}
use Rattle.segments.proofs.Joined.{joined_after, few_after, length-items_after}
use Rattle.int_col.proofs.spine.Spine.replace.Goals as goal

pub cut_for-requires-clause-before : goal.cut_for-requires-clause-before
cut_for-requires-clause-before c =
    let fits : FitsSigned w64 c.args.value = search rules in
    let e = c.args.splice.now in
    let t = c.replaced-replaced.result in
    let size : length c.deref.result.now ≡ size_after e t =
    ap length (c.deref.ensures.value ∙ rw (to_z-of_z w64 c.args.value fits) at c.in_ok-values.ensures) ∙ length-items_after c.args.self.now e t c.args.value c.requires c.replaced-replaced.ensures.covers in
    let P : ℕ → Type 0 = AreApartBefore 2048 (counts_of c.args.self.now) t.first in
    subst P (sym size) c.replaced-replaced.ensures.before

pub cut_for-requires-clause-behind : goal.cut_for-requires-clause-behind
cut_for-requires-clause-behind c =
    let fits : FitsSigned w64 c.args.value = search rules in
    let e = c.args.splice.now in
    let t = c.replaced-replaced.result in
    let size : length c.deref.result.now ≡ size_after e t =
    ap length (c.deref.ensures.value ∙ rw (to_z-of_z w64 c.args.value fits) at c.in_ok-values.ensures) ∙ length-items_after c.args.self.now e t c.args.value c.requires c.replaced-replaced.ensures.covers in
    let P : ℕ → Type 0 = λ n. AreApartBehind 2048 n (drop t.after (counts_of c.args.self.now)) in
    subst P (sym size) c.replaced-replaced.ensures.behind

pub put-requires-clause-few : goal.put-requires-clause-few
put-requires-clause-few c =
    let fits : FitsSigned w64 c.args.value = search rules in
    few_after c.args.self.now c.in_ok-fresh.fresh.items c.args.splice.now c.replaced-replaced.result c.args.value c.requires c.replaced-replaced.ensures.covers
    (c.in_ok-fresh.ensures.values ∙ c.deref.ensures.value ∙ rw (to_z-of_z w64 c.args.value fits) at c.in_ok-values.ensures)

pub returns-clause-ok : goal.returns-clause-ok
returns-clause-ok c =
    let fits : FitsSigned w64 c.args.value = search rules in
    on_ok_weaker c.put.result
    (λ put. ap joined put ∙ joined_after c.args.self.now c.in_ok-fresh.fresh.items c.args.splice.now c.replaced-replaced.result c.args.value c.replaced-replaced.ensures.covers
    (c.in_ok-fresh.ensures.values ∙ c.deref.ensures.value ∙ rw (to_z-of_z w64 c.args.value fits) at c.in_ok-values.ensures))
    c.put.ensures.ok
