-- Laws of a list that is kept in parts, beside segments that have the counts of the parts.
use Rattle.std.proofs.Common.{◌≡◌, ℕ, suc, ◌+◌, ◌-◌, List, [], ◌∷◌, ◌++◌, length, get_or, set, take, drop, sym, ap, subst, ◌∙◌, arith, sum}
use Rattle.segments.specs.declared.splice.Splice.{Splice}
use Rattle.segments.specs.Splices.{Applies}
use Rattle.segments.specs.Joined.{joined, counts_of}
use Rattle.segments.proofs.Joined.{length-joined, length-counts, count_is, counts-pushed, counts-spliced}

module _ {X : Type 0} (ss : List (List X)) (counts : List ℕ) (h : counts ≡ counts_of ss) where
  pub segments_len : sum counts ≡ length (joined ss)
  segments_len = ap sum h ∙ sym (length-joined ss)

  pub segments_count : length counts ≡ length ss
  segments_count = ap length h ∙ length-counts ss

  -- a splice of the list is one of the segments
  pub applies_to_segments : (e : Splice) → Applies (length (joined ss)) e → Applies (sum counts) e
  applies_to_segments e a =
      let P : ℕ → Type 0 = λ n. Applies n e in
      subst P (sym segments_len) a

  -- parts in place of those from a up to b
  pub segments_spliced : (fresh : List (List X)) (made new : List ℕ) (a b : ℕ) → made ≡ counts_of fresh → new ≡ take a counts ++ (made ++ drop b counts) → new ≡ counts_of (take a ss ++ (fresh ++ drop b ss))
  segments_spliced fresh made new a b are is =
      is ∙ ap (λ cs. take a cs ++ (made ++ drop b cs)) h ∙ ap (λ ns. take a (counts_of ss) ++ (ns ++ drop b (counts_of ss))) are ∙ sym (counts-spliced ss fresh a b)

  -- the last part, s
  module _ (s : List X) (last : ℕ) (len : suc last ≡ length ss) (here : s ≡ get_or ss last s) where
    last_segment : length counts - 1 ≡ last
    last_segment = omega (arith, segments_count)

    pub last_count : get_or counts (length counts - 1) 0 ≡ length s
    last_count = ap (λ k. get_or counts k 0) last_segment ∙ ap (λ cs. get_or cs last 0) h ∙ count_is ss last s (omega arith) here

    -- with one item more
    pub segments_pushed : (new : List ℕ) (v : X) → new ≡ set counts (length counts - 1) (get_or counts (length counts - 1) 0 + 1) → new ≡ counts_of (set ss last (s ++ v ∷ []))
    segments_pushed new v is =
        is ∙ ap (λ k. set counts k (get_or counts k 0 + 1)) last_segment ∙ ap (λ cs. set cs last (get_or cs last 0 + 1)) h ∙ sym (counts-pushed ss s v last len here)
