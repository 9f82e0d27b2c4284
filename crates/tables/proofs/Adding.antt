-- Chunks that are added behind others.
use Rattle.std.proofs.Common.{◌≡◌, ℕ, ◌+◌, ◌-◌, ◌<◌, ◌≤◌, List, [], ◌∷◌, ◌++◌, length, get_or, take, drop, All, refl, ap, sym, subst, ◌∙◌, append_assoc, append-nil, length-drop, arith}
use Rattle.std.specs.List.{flat_map}
use Rattle.std.proofs.lemmas.List.{map-append, length-take-le, take_all}
use Rattle.std.proofs.lemmas.List.Concat.{flat_map-append}
use Rattle.std.proofs.lemmas.List.Elements.{All-nil, All-cons, All-append}
use Rattle.segments.specs.Joined.{joined, counts_of}
use Rattle.segments.proofs.Lists.{take-split}
use Rattle.segments.proofs.Grouped.{joined_more as joined_next}
use Rattle.tables.specs.Pools.{Adds}
use Rattle.tables.specs.Tables.{StoredTable}

pub adds_none : (chunks : List (List StoredTable)) → Adds chunks [] chunks
adds_none chunks = record { joined_is = sym (append-nil (joined chunks)); some = λ h. h; each = λ h. h }

pub joined_more : (chunks : List (List StoredTable)) (ts : List StoredTable) → joined (chunks ++ ts ∷ []) ≡ joined chunks ++ ts
joined_more chunks ts = flat_map-append (λ (part : List StoredTable). part) chunks (ts ∷ []) ∙ ap (λ us. joined chunks ++ us) (append-nil ts)

counts_more : (P : ℕ → Type 0) (chunks new : List (List StoredTable)) (ts : List StoredTable) → new ≡ chunks ++ ts ∷ [] → All P (counts_of chunks) → P (length ts) → All P (counts_of new)
counts_more P chunks new ts e all one =
    rw (e, map-append (λ (part : List StoredTable). length part) chunks (ts ∷ [])) (All-append P (counts_of chunks) (length ts ∷ []) all (All-cons P (length ts) [] one (All-nil P)))

-- one chunk more
pub adds_chunk : (old chunks new : List (List StoredTable)) (before ts : List StoredTable) → Adds old before chunks → new ≡ chunks ++ ts ∷ [] → 0 < length ts → length ts ≤ 1024 → Adds old (before ++ ts) new
adds_chunk old chunks new before ts h e some few = record {
  joined_is = ap joined e ∙ joined_more chunks ts ∙ ap (λ us. us ++ ts) h.joined_is ∙ append_assoc (joined old) before ts;
  some = λ o. counts_more (λ n. 0 < n) chunks new ts e (h.some o) some;
  each = λ o. counts_more (λ n. n ≤ 1024) chunks new ts e (h.each o) few;
}

-- one chunk more, of tables from a place on
pub adds_part : (old chunks new : List (List StoredTable)) (ts part : List StoredTable) (from count : ℕ) → Adds old (take from ts) chunks → new ≡ chunks ++ part ∷ [] → part ≡ take count (drop from ts) → 0 < count → count ≤ 1024 → from + count ≤ length ts → Adds old (take (from + count) ts) new
adds_part old chunks new ts part from count h e is some few within =
    let long : length part ≡ count = ap length is ∙ length-take-le count (drop from ts) (omega (arith, length-drop from ts)) in
    let step : from + count - from ≡ count = omega arith in
    let all : take from ts ++ part ≡ take (from + count) ts =
    ap (λ us. take from ts ++ us) is ∙ ap (λ n. take from ts ++ take n (drop from ts)) (sym step) ∙ sym (take-split ts from (from + count) (omega arith)) in
    subst (λ us. Adds old us new) all (adds_chunk old chunks new (take from ts) part h e (omega (arith, long, some)) (omega (arith, long, few)))

-- all of them
pub adds_all : (old new : List (List StoredTable)) (ts : List StoredTable) (n : ℕ) → Adds old (take n ts) new → length ts ≤ n → Adds old ts new
adds_all old new ts n h p = subst (λ us. Adds old us new) (take_all n ts p) h

-- a chunk as it is
pub adds_kept : (old new : List (List StoredTable)) (ts : List StoredTable) → new ≡ old ++ ts ∷ [] → 0 < length ts → length ts ≤ 1024 → Adds old ts new
adds_kept old new ts e some few = adds_chunk old old new [] ts (adds_none old) e some few

-- some, and then others
pub adds_more : (old chunks new : List (List StoredTable)) (before ts : List StoredTable) → Adds old before chunks → Adds chunks ts new → Adds old (before ++ ts) new
adds_more old chunks new before ts h g = record {
  joined_is = g.joined_is ∙ ap (λ us. us ++ ts) h.joined_is ∙ append_assoc (joined old) before ts;
  some = λ o. g.some (h.some o);
  each = λ o. g.each (h.each o);
}

-- the tables of one chunk more of a list
pub adds_next : (old chunks new cs : List (List StoredTable)) (k : ℕ) (part : List StoredTable) → k < length cs → part ≡ get_or cs k part → Adds old (joined (take k cs)) chunks → Adds chunks part new → Adds old (joined (take (k + 1) cs)) new
adds_next old chunks new cs k part p read h g = subst (λ us. Adds old us new) (sym (joined_next cs k part p read)) (adds_more old chunks new (joined (take k cs)) part h g)
