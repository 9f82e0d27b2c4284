-- Blocks of a plan that are written one after another.
use Rattle.std.proofs.Common.{◌≡◌, ℕ, zero, suc, ◌+◌, ◌<◌, ◌≤◌, min, List, [], ◌∷◌, ◌++◌, length, get_or, take, drop, map, Bool, true, false, cond, All, Result, Ok, Err, refl, ap, sym, subst, ◌∙◌, arith, append_assoc, append-nil, true≢false}
use Rattle.std.specs.Prelude.{nat_lt}
use Rattle.std.specs.List.{filter}
use Rattle.std.proofs.lemmas.Bool.{ltb-false}
use Rattle.std.proofs.lemmas.Bool.Decides.{Decides-ltb}
use Rattle.std.proofs.lemmas.List.{get_or-map, get_or_default, length-map, take_all, take_more}
use Rattle.std.proofs.lemmas.List.Elements.{filter-append}
use Rattle.mk_value.specs.declared.span.Span.{Span}
use Rattle.host_io.specs.Outside.{Outside}
use Rattle.host_io.specs.Ranges.{Puts}
use Rattle.free_space.specs.Extents.{Meets, extent_len}
use Rattle.block_io.specs.Parts.{rounded}
use Rattle.block_io.proofs.Rounding.{length-rounded, take-rounded}
use Rattle.commit_writes.specs.Blocks.{AreWritable, BeginWithin, Block, IsWritable}
use Rattle.commit_writes.specs.Writing.{PutsBlocks}
use Rattle.commit_writes.proofs.Writers.{IsRounded, next_within, puts_failed, puts_more, writable_next}
use Rattle.recovery.specs.Commits.{blocks_at}
use Rattle.commit_plan.specs.Following.{is_some}
use Rattle.commit_plan.specs.declared.payload.Payload.{Payload}
use Rattle.commit_plan.specs.Payloads.{payload_bytes}
use Rattle.commit_plan.specs.Written.{PutsSome}

none : Block
none = record { span = record { place = 0; len = 0 }; bytes = [] }

abbrev pub one : Span → List ℕ → Block
one span bytes = record { span = span; bytes = bytes }

pub at_place : (spans : List Span) (bytes : List (List ℕ)) (k : ℕ) (s : Span) (b : List ℕ) (d : Block) → k < length spans → k < length bytes → s ≡ get_or spans k s → b ≡ get_or bytes k b → get_or (blocks_at spans bytes) k d ≡ one s b
at_place [] bytes k s b d p q e f = absurd (omega (arith, p))
at_place (x ∷ spans) [] k s b d p q e f = absurd (omega (arith, q))
at_place (x ∷ spans) (y ∷ bytes) zero s b d p q e f = ap (λ z. one z y) (sym e) ∙ ap (λ z. one s z) (sym f)
at_place (x ∷ spans) (y ∷ bytes) (suc k) s b d p q e f = at_place spans bytes k s b d (omega (arith, p)) (omega (arith, q)) e f

pub many_blocks : (spans : List Span) (bytes : List (List ℕ)) → length (blocks_at spans bytes) ≡ min (length bytes) (length spans)
many_blocks [] bytes = omega arith
many_blocks (x ∷ spans) [] = omega arith
many_blocks (x ∷ spans) (y ∷ bytes) = let e = many_blocks spans bytes in omega (arith, e)

-- the blocks before a place, the one there, and the others
split_here : (all : List Block) (k : ℕ) (d : Block) → k < length all → all ≡ take k all ++ get_or all k d ∷ drop (k + 1) all
split_here [] k d p = absurd (omega (arith, p))
split_here (b ∷ all) zero d p = refl
split_here (b ∷ all) (suc k) d p =
    ap (λ bs. b ∷ bs) (split_here all k d (omega (arith, p))) ∙ ap (λ j. b ∷ (take k all ++ get_or all k d ∷ drop j (b ∷ all))) (let e : suc (k + 1) ≡ suc k + 1 = omega arith in e)

some_first : (b : Block) (rest : List Block) → 0 < b.span.len → filter is_some (b ∷ rest) ≡ b ∷ filter is_some rest
some_first b rest p = ap (λ (t : Bool). cond t (b ∷ filter is_some rest) (filter is_some rest)) ((Decides-ltb 0 b.span.len).1 p)

none_first : (b : Block) (rest : List Block) → b.span.len ≡ 0 → filter is_some (b ∷ rest) ≡ filter is_some rest
none_first b rest e = ap (λ n. cond (nat_lt 0 n) (b ∷ filter is_some rest) (filter is_some rest)) e

-- the written blocks, at one that has bytes
written_at : (all : List Block) (k : ℕ) (b : Block) → k < length all → get_or all k b ≡ b → 0 < b.span.len → filter is_some all ≡ filter is_some (take k all) ++ b ∷ filter is_some (drop (k + 1) all)
written_at all k b p at some =
    ap (filter is_some) (split_here all k b p ∙ ap (λ x. take k all ++ x ∷ drop (k + 1) all) at) ∙ filter-append is_some (take k all) (b ∷ drop (k + 1) all)
    ∙ ap (λ bs. filter is_some (take k all) ++ bs) (some_first b (drop (k + 1) all) some)

pub next_writable : (all : List Block) (k : ℕ) (b : Block) → k < length all → get_or all k b ≡ b → AreWritable (filter is_some all) → 0 < b.span.len → IsWritable b × All (λ o. ¬ Meets o.span b.span) (filter is_some (take k all))
next_writable all k b p at writable some =
    writable_next (filter is_some (take k all)) b (filter is_some (drop (k + 1) all)) (subst AreWritable (written_at all k b p at some) writable)

pub next_begins : {E : Type 0} (all : List Block) (k : ℕ) (b : Block) {old mid : Outside} → k < length all → get_or all k b ≡ b → BeginWithin (length old.now.disk.seen) (filter is_some all)
    → PutsBlocks {T = Unit {0}} {E = E} (filter is_some (take k all)) old mid (Ok tt) → 0 < b.span.len → b.span.place ≤ length mid.now.disk.seen
next_begins {E = E} all k b {old} {mid} p at begins puts some =
    next_within (filter is_some (take k all)) b (filter is_some (drop (k + 1) all)) (subst (BeginWithin (length old.now.disk.seen)) (written_at all k b p at some) begins) puts

more_some : (all : List Block) (k : ℕ) (b : Block) → k < length all → get_or all k b ≡ b → 0 < b.span.len → filter is_some (take (k + 1) all) ≡ filter is_some (take k all) ++ b ∷ []
more_some all k b p at some =
    ap (filter is_some) (take_more all k b p ∙ ap (λ x. take k all ++ x ∷ []) at) ∙ filter-append is_some (take k all) (b ∷ []) ∙ ap (λ bs. filter is_some (take k all) ++ bs) (some_first b [] some)

more_none : (all : List Block) (k : ℕ) (b : Block) → k < length all → get_or all k b ≡ b → b.span.len ≡ 0 → filter is_some (take (k + 1) all) ≡ filter is_some (take k all)
more_none all k b p at empty =
    ap (filter is_some) (take_more all k b p ∙ ap (λ x. take k all ++ x ∷ []) at) ∙ filter-append is_some (take k all) (b ∷ []) ∙ ap (λ bs. filter is_some (take k all) ++ bs) (none_first b [] empty) ∙ append-nil (filter is_some (take k all))

rounds : (span : Span) (bytes : List ℕ) → span.len ≡ length bytes → IsRounded (one span bytes) (rounded bytes)
rounds span bytes e = record { is = refl; own = ap (λ n. take n (rounded bytes)) e ∙ take-rounded bytes; long = length-rounded bytes ∙ ap extent_len (sym e) }

-- One block more is put.
puts_next : {U E : Type 0} {result : Result U E} (all : List Block) (k : ℕ) (span : Span) (bytes : List ℕ) {old mid new : Outside} → k < length all → get_or all k (one span bytes) ≡ one span bytes → AreWritable (filter is_some all) → BeginWithin (length old.now.disk.seen) (filter is_some all)
    → PutsBlocks {T = Unit {0}} {E = E} (filter is_some (take k all)) old mid (Ok tt) → 0 < span.len → Puts span.place (rounded bytes) mid new result → PutsBlocks (filter is_some (take k all) ++ one span bytes ∷ []) old new result
puts_next {E = E} {result = result} all k span bytes {old} {mid} {new} p at writable begins puts some put =
    let next = next_writable all k (one span bytes) p at writable some in
    puts_more {T = Unit {0}} {x = tt} (filter is_some (take k all)) (one span bytes) (rounded bytes) (rounds span bytes next.0.len) next.1 (next_begins {E = E} all k (one span bytes) p at begins puts some) puts put

pub puts_some_more : {E : Type 0} (all : List Block) (k : ℕ) (span : Span) (bytes : List ℕ) {old mid new : Outside} → k < length all → get_or all k (one span bytes) ≡ one span bytes → AreWritable (filter is_some all) → BeginWithin (length old.now.disk.seen) (filter is_some all)
    → PutsBlocks {T = Unit {0}} {E = E} (filter is_some (take k all)) old mid (Ok tt) → PutsSome {T = Unit {0}} {E = E} span bytes mid new (Ok tt) → PutsBlocks {T = Unit {0}} {E = E} (filter is_some (take (k + 1) all)) old new (Ok tt)
puts_some_more {E = E} all k span bytes {old} {mid} {new} p at writable begins puts put = by_test (nat_lt 0 span.len) refl
  where
    by_test : (t : Bool) → nat_lt 0 span.len ≡ t → PutsBlocks {T = Unit {0}} {E = E} (filter is_some (take (k + 1) all)) old new (Ok tt)
    by_test true e =
        let some : 0 < span.len = (Decides-ltb 0 span.len).0 e in
        subst (λ bs. PutsBlocks {T = Unit {0}} {E = E} bs old new (Ok tt)) (sym (more_some all k (one span bytes) p at some)) (puts_next all k span bytes p at writable begins puts some (put.some some))
    by_test false e =
        let empty : span.len ≡ 0 = omega (arith, ltb-false 0 span.len e) in
        subst (λ bs. PutsBlocks {T = Unit {0}} {E = E} bs old new (Ok tt)) (sym (more_none all k (one span bytes) p at empty)) (subst (λ o. PutsBlocks {T = Unit {0}} {E = E} (filter is_some (take k all)) old o (Ok tt)) (sym (put.none empty).0) puts)

-- or putting it failed
pub puts_some_failed : {E F : Type 0} {e : E} {f : F} (all : List Block) (k : ℕ) (span : Span) (bytes : List ℕ) {old mid new : Outside} → k < length all → get_or all k (one span bytes) ≡ one span bytes → AreWritable (filter is_some all) → BeginWithin (length old.now.disk.seen) (filter is_some all)
    → PutsBlocks {T = Unit {0}} {E = E} (filter is_some (take k all)) old mid (Ok tt) → PutsSome {T = Unit {0}} {E = E} span bytes mid new (Err e) → PutsBlocks {T = Unit {0}} {E = F} (filter is_some all) old new (Err f)
puts_some_failed {E = E} {F = F} {e = e} {f = f} all k span bytes {old} {mid} {new} p at writable begins puts put = by_test (nat_lt 0 span.len) refl
  where
    by_test : (t : Bool) → nat_lt 0 span.len ≡ t → PutsBlocks {T = Unit {0}} {E = F} (filter is_some all) old new (Err f)
    by_test true g =
        let some : 0 < span.len = (Decides-ltb 0 span.len).0 g in
        subst (λ bs. PutsBlocks {T = Unit {0}} {E = F} bs old new (Err f)) (sym (written_at all k (one span bytes) p at some ∙ sym (append_assoc (filter is_some (take k all)) (one span bytes ∷ []) (filter is_some (drop (k + 1) all)))))
        (puts_failed {T = Unit {0}} {e = e} (filter is_some (take k all) ++ one span bytes ∷ []) (filter is_some (drop (k + 1) all)) (puts_next all k span bytes p at writable begins puts some (put.some some)))
    by_test false g = let empty : span.len ≡ 0 = omega (arith, ltb-false 0 span.len g) in absurd (true≢false (sym (put.none empty).1))

-- The block of a payload at its span.
pub record IsHere (all : List Block) (k : ℕ) (span : Span) (bytes : List ℕ) : Type 0 where
  pub within : k < length all
  pub here : get_or all k (one span bytes) ≡ one span bytes

pub payload_here : (spans : List Span) (payloads : List Payload) (k n : ℕ) (p : Payload) (empty : Span) → k < n → n ≡ min (length payloads) (length spans) → p ≡ get_or payloads k p
    → IsHere (blocks_at spans (map payload_bytes payloads)) k (get_or spans k empty) (payload_bytes p)
payload_here spans payloads k n p empty below least is =
    let long = length-map payloads payload_bytes in
    let many = many_blocks spans (map payload_bytes payloads) in
    let in_payloads : k < length payloads = omega (arith, below, least) in
    let in_spans : k < length spans = omega (arith, below, least) in
    record {
      within = omega (arith, below, least, long, many);
      here = at_place spans (map payload_bytes payloads) k (get_or spans k empty) (payload_bytes p) (one (get_or spans k empty) (payload_bytes p)) in_spans (omega (arith, in_payloads, long))
          (get_or_default spans k empty (get_or spans k empty) in_spans) (ap payload_bytes is ∙ sym (get_or-map payload_bytes payloads k p (payload_bytes p) in_payloads));
    }

pub all_written : (spans : List Span) (payloads : List Payload) (k n : ℕ) → n ≤ k → n ≡ min (length payloads) (length spans) → take k (blocks_at spans (map payload_bytes payloads)) ≡ blocks_at spans (map payload_bytes payloads)
all_written spans payloads k n past least =
    let long = length-map payloads payload_bytes in
    let many = many_blocks spans (map payload_bytes payloads) in
    take_all k (blocks_at spans (map payload_bytes payloads)) (omega (arith, past, least, long, many))
