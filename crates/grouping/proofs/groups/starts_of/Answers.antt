use Rattle.std.proofs.Common.{◌≡◌, ℕ, suc, ◌+◌, Bool, true, false, cond, List, [], ◌∷◌, ◌++◌, refl, ap, sym, ◌∙◌, arith}
use Rattle.mk_value.specs.Data.{Datum}
use Rattle.grouping.specs.Index.{is_start, starts_below}
use Rattle.grouping.proofs.groups.starts_of.Goals as goal
use Rattle.grouping.proofs.groups.starts_of.Goals.{then-is_start_at+in_ok-push, else-is_start_at}

end_nil : (xs : List ℕ) → xs ++ [] ≡ xs
end_nil [] = refl
end_nil (x ∷ xs) = ap (λ ys. x ∷ ys) (end_nil xs)

starts : (rows : List (List Datum)) (order : List ℕ) (n : ℕ) (old new : List ℕ) (b : Bool) → is_start rows order n ≡ b → old ≡ starts_below rows order n → new ≡ old ++ cond b (n ∷ []) [] → new ≡ starts_below rows order (n + 1)
starts rows order n old new b e before added =
    let next : suc n ≡ n + 1 = omega arith in
    added ∙ (λ i. before i ++ cond (sym e i) (n ∷ []) []) ∙ ap (starts_below rows order) next

pub loop-place-preserved : goal.loop-place-preserved
loop-place-preserved g c =
    elim c.if-is_start_at.branch [
      | then-is_start_at+in_ok-push w ↦ (let pushed : c.if-is_start_at.starts.items ≡ c.loop-place.starts.items ++ c.loop-place.place ∷ [] = cc (w.in_ok-push.ensures.items, w.starts-is) in
          starts (g.K.Keys.keys c.args.keys.now) c.args.order.now c.loop-place.place c.loop-place.starts.items c.if-is_start_at.starts.items true (sym c.is_start_at.ensures ∙ w.if-is_start_at.true) c.loop-place.invariant pushed)
      | else-is_start_at w ↦ (let kept : c.if-is_start_at.starts.items ≡ c.loop-place.starts.items = cc w.starts-is in
          starts (g.K.Keys.keys c.args.keys.now) c.args.order.now c.loop-place.place c.loop-place.starts.items c.if-is_start_at.starts.items false (sym c.is_start_at.ensures ∙ w.if-is_start_at.false) c.loop-place.invariant (kept ∙ sym (end_nil c.loop-place.starts.items)))
    ]
