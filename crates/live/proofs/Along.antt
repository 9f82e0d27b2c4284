-- What watches have one after another, each by what those before it have.
use Rattle.std.proofs.Common.{◌≡◌, ℕ, zero, suc, ◌+◌, ◌<◌, List, [], ◌∷◌, ◌++◌, length, get_or, take, Some, refl, ap, ◌∙◌, arith}
use Rattle.std.proofs.lemmas.List.{append_assoc, length-append}
use Rattle.live.specs.Chains.{along}
use Rattle.live.specs.States.{WatchState}

-- a watch of a list that is not empty
pub some_watch : (watches : List WatchState) (k : ℕ) → k < length watches → WatchState
some_watch [] k p = absurd (omega arith)
some_watch (w ∷ watches) k p = w

module _ {X : Type 0} (each : List X → WatchState → X) where
  pub length-along : (done : List X) (watches : List WatchState) → length (along each done watches) ≡ length watches
  length-along done [] = refl
  length-along done (w ∷ watches) = ap suc (length-along (done ++ each done w ∷ []) watches)

  -- what a watch has rests on those before it alone
  pub prefix_along : (done : List X) (n : ℕ) (watches : List WatchState) → take n (along each done watches) ≡ along each done (take n watches)
  prefix_along done zero watches = refl
  prefix_along done (suc n) [] = refl
  prefix_along done (suc n) (w ∷ watches) = ap (λ xs. each done w ∷ xs) (prefix_along (done ++ each done w ∷ []) n watches)

  -- a watch has what it has of all, where only what its source has counts
  pub along_at : ((done more : List X) (w : WatchState) → ((s : ℕ) → w.source ≡ Some s → s < length done) → each done w ≡ each (done ++ more) w)
      → (done : List X) (watches : List WatchState) (k : ℕ) (x : X) (d : WatchState) → k < length watches
      → ((j s : ℕ) → j < length watches → (get_or watches j d).source ≡ Some s → s < length done + j)
      → get_or (along each done watches) k x ≡ each (done ++ along each done watches) (get_or watches k d)
  along_at further done [] k x d p sources = absurd (omega arith)
  along_at further done (w ∷ watches) zero x d p sources =
      further done (along each done (w ∷ watches)) w (λ s e. let q = sources 0 s p e in omega arith)
  along_at further done (w ∷ watches) (suc k) x d p sources =
      let here : X = each done w in
      let long = length-append done (here ∷ []) in
      along_at further (done ++ here ∷ []) watches k x d (omega arith) (λ j s q e. let r = sources (suc j) s (omega arith) e in omega arith)
      ∙ ap (λ all. each all (get_or watches k d)) (append_assoc done (here ∷ []) (along each (done ++ here ∷ []) watches))

  -- watches alike have the same
  pub along_alike : ((done : List X) (v w : WatchState) → v.source ≡ w.source → v.kept ≡ w.kept → each done v ≡ each done w)
      → (done : List X) (old new : List WatchState) → length new ≡ length old
      → ((k : ℕ) (d : WatchState) → k < length old → (get_or new k d).source ≡ (get_or old k d).source)
      → ((k : ℕ) (d : WatchState) → k < length old → (get_or new k d).kept ≡ (get_or old k d).kept)
      → along each done new ≡ along each done old
  along_alike alike done [] [] long source kept = refl
  along_alike alike done [] (n ∷ new) long source kept = absurd (omega arith)
  along_alike alike done (o ∷ old) [] long source kept = absurd (omega arith)
  along_alike alike done (o ∷ old) (n ∷ new) long source kept =
      let same : each done n ≡ each done o = alike done n o (source 0 o (omega arith)) (kept 0 o (omega arith)) in
      ap (λ x. x ∷ along each (done ++ x ∷ []) new) same
      ∙ ap (λ xs. each done o ∷ xs)
      (along_alike alike (done ++ each done o ∷ []) old new (omega arith) (λ k d p. source (suc k) d (omega arith)) (λ k d p. kept (suc k) d (omega arith)))
