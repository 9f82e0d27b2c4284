-- Laws of packed values with a splice made of them.
use Rattle.std.proofs.Common.{◌≡◌, ℕ, ◌+◌, ◌-◌, ◌*◌, ◌/◌, ◌%◌, ◌<◌, ◌≤◌, ℤ, ◌⊎◌, inl, inr, pos, List, [], ◌++◌, length, get_or, take, drop, replicate, sym, ap, subst, ◌∙◌, arith}
use Rattle.std.proofs.lemmas.List.{append_assoc, drop_at, get_or-take, get_or-drop, drop-append-le, drop-take, length-append, length-drop, length-replicate, length-take-le, take-append-drop, take-append-le, take-take, take_all}
use Rattle.std.specs.List.{All}
use Rattle.std.proofs.lemmas.List.Elements.{All-append, All-replicate, All-take, All-drop, All-same}
use Rattle.bit_pack.specs.declared.widths.Width.{Width}
use Rattle.bit_pack.specs.Width.{bit_count, Holds, HoldsAll, IsLeastWidth, IsNarrower}
use Rattle.bit_pack.specs.Packed.{PackedAt, packed_len, packing, values_from}
use Rattle.bit_pack.proofs.Changes.{packed-append}
use Rattle.bit_pack.proofs.Parts.{packed-packing, ends_at_edge}
use Rattle.bit_pack.proofs.LeastWidth.{same_least, least_by_narrower, least_of_none}
use Rattle.segments.specs.declared.splice.Splice.{Splice}
use Rattle.segments.specs.declared.splice.Replaced.{Replaced}
use Rattle.segments.specs.Splices.{spliced}
use Rattle.int_col.proofs.Fills.{packed_len-rises}
use Rattle.int_col.proofs.PackedCuts.{front}
use Rattle.int_col.proofs.Segments.{segment_made}
use Rattle.int_col.proofs.Splices.{arranged}
use Rattle.int_col.specs.Segment.{IsSegment}

pub length-spliced : (vs : List ℤ) (at end n : ℕ) (v : ℤ) → at ≤ end → end ≤ length vs → length (spliced vs at end n v) ≡ at + n + (length vs - end)
length-spliced vs at end n v order within =
    omega (arith, length-append (take at vs) (replicate n v ++ drop end vs), length-take-le at vs (omega arith), length-append (replicate n v) (drop end vs), length-replicate n v, length-drop end vs)

-- the values after a splice, from a place before it on
pub spliced_from : (vs : List ℤ) (from at end n : ℕ) (v : ℤ) → from ≤ at → at ≤ length vs → drop from (spliced vs at end n v) ≡ take (at - from) (drop from vs) ++ (replicate n v ++ drop end vs)
spliced_from vs from at end n v order within =
    drop-append-le from (take at vs) (replicate n v ++ drop end vs) (omega (arith, length-take-le at vs within))
    ∙ ap (λ k. drop from (take k vs) ++ (replicate n v ++ drop end vs)) (let e : at ≡ from + (at - from) = omega arith in e)
    ∙ ap (λ xs. xs ++ (replicate n v ++ drop end vs)) (drop-take from (at - from) vs)

-- the values before that place
pub spliced_before : (vs : List ℤ) (from at end n : ℕ) (v : ℤ) → from ≤ at → at ≤ length vs → take from (spliced vs at end n v) ≡ take from vs
spliced_before vs from at end n v order within =
    take-append-le from (take at vs) (replicate n v ++ drop end vs) (omega (arith, length-take-le at vs within)) ∙ take-take from at vs order

-- copies of a value, with the values around a splice written over their front and their end
pub unpacked : (vs : List ℤ) (e : Splice) (from count : ℕ) (v : ℤ) (copies front back post : List ℤ) (m : ℕ) → from ≤ e.at → e.at ≤ e.end → e.end ≤ count → length vs ≡ count → copies ≡ replicate ((e.at - from) + e.count + (count - e.end)) v → length front ≡ e.at - from → front ≡ take (e.at - from) (drop from vs)
    → back ≡ take m (drop e.end vs) → m ≡ count - e.end → post ≡ [] → take (e.at - from + e.count) (front ++ drop (e.at - from) copies) ++ (back ++ post) ≡ drop from (spliced vs e.at e.end e.count v)
unpacked vs e from count v copies front back post m order ends within long are len before behind is none =
    let t : Replaced = record { first = 0; after = 0; start = from; stop = count } in
    arranged vs e t v copies front back post m are len before behind is none
    ∙ ap (λ ys. take (e.at - from) (drop from vs) ++ (replicate e.count v ++ ys)) (take_all (count - e.end) (drop e.end vs) (omega (arith, length-drop e.end vs, long)))
    ∙ sym (spliced_from vs from e.at e.end e.count v order (omega arith))

-- the values before a place at whole bytes, and those behind it packed anew
pub packed_behind : (w : Width) (vs us tail : List ℤ) (bytes : List ℕ) (from : ℕ) → PackedAt w vs bytes → from % 8 ≡ 0 → from ≤ length vs → HoldsAll w us → take from us ≡ take from vs → tail ≡ drop from us → PackedAt w us (take (packed_len w from) bytes ++ packing w tail)
packed_behind w vs us tail bytes from h edge within held before behind =
    let first : PackedAt w (take from vs) (take (packed_len w from) bytes) = front w vs bytes from h edge within in
    let H : List ℤ → Type 0 = λ xs. HoldsAll w xs in
    let held_tail : HoldsAll w tail = subst H (sym behind) (record { each = All-drop (Holds w) from us held.each }) in
    let len : length (take from vs) ≡ from = length-take-le from vs within in
    let at_edge : bit_count w * length (take from vs) ≡ 8 * length (take (packed_len w from) bytes) = ends_at_edge w (length (take from vs)) (from / 8) (omega (arith, len, edge)) ∙ ap (λ n. 8 * n) (sym first.len) in
    let P : List ℤ → Type 0 = λ xs. PackedAt w xs (take (packed_len w from) bytes ++ packing w tail) in
    let parts : take from vs ++ tail ≡ us = ap (λ xs. xs ++ tail) (sym before) ∙ ap (λ xs. take from us ++ xs) behind ∙ take-append-drop from us in
    subst P parts (packed-append w (take from vs) tail (take (packed_len w from) bytes) (packing w tail) first (packed-packing w tail held_tail) at_edge)

-- bytes that are as many as the values before a place take are there
pub front_there : (w : Width) (vs : List ℤ) (bytes : List ℕ) (from : ℕ) → PackedAt w vs bytes → from ≤ length vs → packed_len w from ≤ length bytes
front_there w vs bytes from h within = omega (arith, h.len, packed_len-rises w from (length vs) within)

-- which widths hold the values after a splice

pub all_before : (P : ℤ → Type 0) (vs : List ℤ) (at end n : ℕ) (v : ℤ) → at ≤ length vs → All P (spliced vs at end n v) → All P (take at vs)
all_before P vs at end n v within h =
    All-same P (take at vs) (take at (spliced vs at end n v)) (sym (spliced_before vs at at end n v (omega arith) within)) (All-take P at (spliced vs at end n v) h)

pub all_behind : (P : ℤ → Type 0) (vs : List ℤ) (at end n : ℕ) (v : ℤ) → at ≤ length vs → All P (spliced vs at end n v) → All P (drop end vs)
all_behind P vs at end n v within h =
    let front : length (take at vs ++ replicate n v) ≡ at + n = omega (arith, length-append (take at vs) (replicate n v), length-take-le at vs within, length-replicate n v) in
    let rest : drop (at + n) (spliced vs at end n v) ≡ drop end vs =
    ap (drop (at + n)) (sym (append_assoc (take at vs) (replicate n v) (drop end vs))) ∙ drop_at (take at vs ++ replicate n v) (drop end vs) (at + n) front in
    All-same P (drop end vs) (drop (at + n) (spliced vs at end n v)) (sym rest) (All-drop P (at + n) (spliced vs at end n v) h)

pub exceeds_by_all : (u : Width) (vs : List ℤ) (at end n : ℕ) (v : ℤ) → at ≡ end → at ≤ length vs → (HoldsAll u vs → ⊥) → HoldsAll u (spliced vs at end n v) → ⊥
exceeds_by_all u vs at end n v none within exceeds all =
    let P : ℤ → Type 0 = Holds u in
    let parts : take at vs ++ drop end vs ≡ vs = ap (λ k. take at vs ++ drop k vs) (sym none) ∙ take-append-drop at vs in
    exceeds (record { each = All-same P vs (take at vs ++ drop end vs) (sym parts) (All-append P (take at vs) (drop end vs) (all_before P vs at end n v within all.each) (all_behind P vs at end n v within all.each)) })

pub exceeds_beside : (u : Width) (vs : List ℤ) (at end n : ℕ) (v : ℤ) → at ≤ length vs → (k : ℕ) × (k < length vs) × ((k < at) ⊎ (end ≤ k)) × (Holds u (get_or vs k (pos 0)) → ⊥) → HoldsAll u (spliced vs at end n v) → ⊥
exceeds_beside u vs at end n v within other all =
    let P : ℤ → Type 0 = Holds u in
    let k : ℕ = other.0 in
    let l : k < length vs = other.1 in
    elim other.2 [
      | inl before ↦ other.3 (subst P (get_or-take at vs k (pos 0) before) (all_before P vs at end n v within all.each k (pos 0) (omega (arith, length-take-le at vs within, before))))
      | inr behind ↦
          let there : end + (k - end) ≡ k = omega (arith, behind) in
          other.3 (subst P (get_or-drop end vs (k - end) (pos 0) ∙ ap (λ i. get_or vs i (pos 0)) there) (all_behind P vs at end n v within all.each (k - end) (pos 0) (omega (arith, length-drop end vs, behind, l))))
    ]

pub held_after : (w : Width) (vs : List ℤ) (at end n : ℕ) (v : ℤ) → HoldsAll w vs → Holds w v → HoldsAll w (spliced vs at end n v)
held_after w vs at end n v h holds =
    let P : ℤ → Type 0 = Holds w in
    record { each = All-append P (take at vs) (replicate n v ++ drop end vs) (All-take P at vs h.each) (All-append P (replicate n v) (drop end vs) (All-replicate P n v holds) (All-drop P end vs h.each)) }

-- the least width stays, where the next narrower one does not hold the values after the splice
pub keeps_least_after : (u w : Width) (vs : List ℤ) (at end n : ℕ) (v : ℤ) → IsLeastWidth w vs → IsNarrower u w → Holds w v → (HoldsAll u (spliced vs at end n v) → ⊥) → (x : Width) → IsLeastWidth x vs → IsLeastWidth x (spliced vs at end n v)
keeps_least_after u w vs at end n v least narrower holds exceeds x other =
    let P : Width → Type 0 = λ y. IsLeastWidth y (spliced vs at end n v) in
    subst P (same_least w x vs least other) (least_by_narrower u w (spliced vs at end n v) narrower (held_after w vs at end n v least.held holds) exceeds)

-- a segment with a splice made in its bytes
pub spliced_segment : (count size : ℕ) (w : Width) (bytes new : List ℕ) (vs : List ℤ) (e : Splice) (v : ℤ) → IsSegment count w bytes → values_from w bytes 0 count ≡ vs → e.at ≤ e.end → e.end ≤ length vs → size ≡ e.at + e.count + (length vs - e.end) → size ≤ 2048
    → PackedAt w (spliced (values_from w bytes 0 count) e.at e.end e.count v) new → IsLeastWidth w (spliced vs e.at e.end e.count v) → IsSegment size w new × (values_from w new 0 size ≡ spliced vs e.at e.end e.count v)
spliced_segment count size w bytes new vs e v h view order within is few packed least =
    let us : List ℤ = spliced vs e.at e.end e.count v in
    let P : List ℤ → Type 0 = λ xs. PackedAt w (spliced xs e.at e.end e.count v) new in
    segment_made size w us new (subst P view packed) least (length-spliced vs e.at e.end e.count v order within ∙ sym is) few

-- the least width stays, where there is no narrower one
pub keeps_none_after : (w : Width) (vs : List ℤ) (at end n : ℕ) (v : ℤ) → IsLeastWidth w vs → Holds w v → bit_count w ≡ 0 → (x : Width) → IsLeastWidth x vs → IsLeastWidth x (spliced vs at end n v)
keeps_none_after w vs at end n v least holds none x other =
    let P : Width → Type 0 = λ y. IsLeastWidth y (spliced vs at end n v) in
    subst P (same_least w x vs least other) (least_of_none w (spliced vs at end n v) (held_after w vs at end n v least.held holds) none)
