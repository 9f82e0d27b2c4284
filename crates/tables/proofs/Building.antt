-- Tables that are put together, chunk by chunk.
use Rattle.std.proofs.Common.{◌≡◌, ℕ, ◌+◌, ◌<◌, ◌≤◌, List, [], ◌∷◌, ◌++◌, length, take, drop, All, refl, ap, sym, subst, ◌∙◌, append_assoc, append-nil, length-append, arith}
use Rattle.std.proofs.lemmas.List.Elements.{All-nil}
use Rattle.segments.specs.Joined.{joined, counts_of}
use Rattle.tables.specs.Building.{IsBuilding}
use Rattle.tables.specs.Pools.{Adds, IsChunkAt}
use Rattle.tables.specs.Tables.{StoredTable}
use Rattle.tables.proofs.Adding.{adds_chunk, adds_none, joined_more}

pub building_none : (chunks : List (List StoredTable)) (last : List StoredTable) → chunks ≡ [] → last ≡ [] → IsBuilding chunks last
building_none chunks last e f = record {
  some = subst (λ cs. All (λ n. 0 < n) (counts_of cs)) (sym e) (All-nil (λ n. 0 < n));
  each = subst (λ cs. All (λ n. n ≤ 1024) (counts_of cs)) (sym e) (All-nil (λ n. n ≤ 1024));
  few = let long = ap length f in omega (arith, long);
}

-- one table more in the chunk that comes
pub building_more : (chunks : List (List StoredTable)) (last new : List StoredTable) → IsBuilding chunks last → length new ≤ 1024 → IsBuilding chunks new
building_more chunks last new h few = record { some = h.some; each = h.each; few = few }

-- the chunk that came is behind the others
pub building_sealed : (chunks new : List (List StoredTable)) (last next : List StoredTable) → IsBuilding chunks last → Adds chunks last new → next ≡ [] → IsBuilding new next
building_sealed chunks new last next h added none = record { some = added.some h.some; each = added.each h.each; few = let long = ap length none in omega (arith, long) }

pub joined_sealed : (chunks new : List (List StoredTable)) (last next : List StoredTable) → Adds chunks last new → next ≡ [] → joined new ++ next ≡ joined chunks ++ last
joined_sealed chunks new last next added none = ap (λ us. joined new ++ us) none ∙ append-nil (joined new) ∙ added.joined_is

-- a chunk more, and none to come
pub building_chunk : (chunks new : List (List StoredTable)) (last next chunk : List StoredTable) → IsBuilding chunks last → last ≡ [] → next ≡ [] → new ≡ chunks ++ chunk ∷ [] → 0 < length chunk → length chunk ≤ 1024 → IsBuilding new next
building_chunk chunks new last next chunk h none same e some few =
    let added = adds_chunk chunks chunks new [] chunk (adds_none chunks) e some few in
    record { some = added.some h.some; each = added.each h.each; few = let long = ap length same in omega (arith, long) }

pub joined_chunk : (chunks new : List (List StoredTable)) (last next chunk : List StoredTable) → last ≡ [] → next ≡ [] → new ≡ chunks ++ chunk ∷ [] → joined new ++ next ≡ (joined chunks ++ last) ++ chunk
joined_chunk chunks new last next chunk none same e =
    ap (λ us. joined new ++ us) same ∙ append-nil (joined new) ∙ ap joined e ∙ joined_more chunks chunk
    ∙ ap (λ us. us ++ chunk) (sym (ap (λ us. joined chunks ++ us) none ∙ append-nil (joined chunks)))
