-- For callers of `carry`: blocks that are put one after another, and the conditions that a sound commit meets.
use Rattle.std.proofs.Common.{◌≡◌, refl, sym, ◌∙◌, ap, subst, ℕ, suc, ◌≤◌, inl, inr, ⊎_elim, List, [], ◌∷◌, ◌++◌, length, take, drop, max, arith, All, Contains, Result, Ok, Err, OnOk}
use Rattle.std.proofs.lemmas.List.{take-take}
use Rattle.std.proofs.lemmas.List.Elements.{All-append, All-contains, All-contains_itself, All-cons, All-head, All-nil, All-tail, All-weaker}
use Rattle.mk_value.specs.declared.span.Span.{Span}
use Rattle.host_io.specs.Disk.{DiskState}
use Rattle.host_io.specs.Calls.{put_bytes}
use Rattle.host_io.specs.Outside.{Outside}
use Rattle.host_io.specs.Ranges.{AgreesBut, AreWithin, IsClear, Puts, WritesWithin, bytes_in}
use Rattle.host_io.proofs.Bytes.{length-put_bytes, read-put_bytes}
use Rattle.host_io.proofs.Moments.{begins, joins, weaker}
use Rattle.host_io.proofs.Ranges.{bytes_agree, within_joins, within_same, within_wider}
use Rattle.free_space.specs.Extents.{AreApart, Meets, extent_end, extent_len}
use Rattle.free_space.proofs.ExtentLemmas.{le-extent_len}
use Rattle.commit_writes.specs.Blocks.{Block, AreWritable, BeginWithin, IsBlockWithin, IsWritable, extent_bytes, extent_range, extents_of, span_range, spans_of, with_blocks}
use Rattle.commit_writes.specs.Footprints.{Footprint}
use Rattle.commit_writes.specs.Plans.{IsSoundAfter}
use Rattle.commit_writes.specs.Writing.{IsWhole, PutsBlocks}
use Rattle.commit_writes.proofs.Files.{with_last}

among_front : (xs ys : List Block) → AreWithin (extents_of xs) (extents_of (xs ++ ys))
among_front [] ys place among = absurd among
among_front (x ∷ xs) ys place among = ⊎_elim (λ here. inl here) (λ later. inr (among_front xs ys place later)) among

among_last : (xs : List Block) (b : Block) → AreWithin (extent_range b.span ∷ []) (extents_of (xs ++ b ∷ []))
among_last [] b place among = among
among_last (x ∷ xs) b place among = inr (among_last xs b place among)

-- no block is put
pub puts_none : {T E : Type 0} {x : T} (outside : Outside) → PutsBlocks {E = E} [] outside outside (Ok x)
puts_none outside = record {
  file = refl;
  ok = All-nil (IsWhole outside.now.disk.seen);
  within = within_same [] outside.now.disk;
  moments = begins outside;
  said = refl;
  input = refl;
}

-- The bytes of a block as they are put: those of its extent, its own first, and as many as the extent has.
pub record IsRounded (b : Block) (bytes : List ℕ) : Type 0 where
  pub is : bytes ≡ extent_bytes b
  pub own : take b.span.len bytes ≡ b.bytes
  pub long : length bytes ≡ extent_len b.span.len

-- One block more is put, which meets none of those before it.
pub puts_more : {T U E : Type 0} {x : T} {result : Result U E} (blocks : List Block) (b : Block) (bytes : List ℕ) {old mid new : Outside} → IsRounded b bytes → All (λ o. ¬ Meets o.span b.span) blocks → b.span.place ≤ length mid.now.disk.seen
    → PutsBlocks {E = E} blocks old mid (Ok x) → Puts b.span.place bytes mid new result → PutsBlocks (blocks ++ b ∷ []) old new result
puts_more {result = result} blocks b bytes {old} {mid} {new} rounds apart within first then = record {
  file = filled result then.ok;
  ok = all result then.ok;
  within = both new.now.disk then.within;
  moments = joins
      (weaker (λ at is. (is.0, within_wider (extents_of blocks) (extents_of (blocks ++ b ∷ [])) old.now.disk at.disk (among_front blocks (b ∷ [])) is.1)) first.moments)
      (weaker (λ at is. (is.0 ∙ first.said, both at.disk is.1)) then.moments);
  said = then.said ∙ first.said;
  input = then.input ∙ first.input;
} where
  extent : (disk : DiskState) → WritesWithin ((record { start = b.span.place; count = length bytes }) ∷ []) mid.now.disk disk → WritesWithin (extent_range b.span ∷ []) mid.now.disk disk
  extent disk = subst (λ (n : ℕ). WritesWithin ((record { start = b.span.place; count = n }) ∷ []) mid.now.disk disk) rounds.long

  both : (disk : DiskState) → WritesWithin ((record { start = b.span.place; count = length bytes }) ∷ []) mid.now.disk disk → WritesWithin (extents_of (blocks ++ b ∷ [])) old.now.disk disk
  both disk more = within_joins (extents_of (blocks ++ b ∷ [])) old.now.disk mid.now.disk disk
      (within_wider (extents_of blocks) (extents_of (blocks ++ b ∷ [])) old.now.disk mid.now.disk (among_front blocks (b ∷ [])) first.within)
      (within_wider (extent_range b.span ∷ []) (extents_of (blocks ++ b ∷ [])) mid.now.disk disk (among_last blocks b) (extent disk more))

  agrees : AgreesBut (extent_range b.span ∷ []) mid.now.disk.seen new.now.disk.seen
  agrees = (extent new.now.disk then.within).changes.agrees

  clear : (o : Block) → ¬ Meets o.span b.span → IsClear (extent_range b.span ∷ []) (span_range o.span)
  clear o meets place there among = ⊎_elim
      (λ here. meets (place, (there.0, let l = le-extent_len o.span.len in let w = there.1 in omega (arith, l, w)), here))
      (λ none. absurd none)
      among

  still : (o : Block) → Contains blocks o → IsWhole mid.now.disk.seen o → IsWhole new.now.disk.seen o
  still o there whole = record {
    stands = bytes_agree (extent_range b.span ∷ []) mid.now.disk.seen new.now.disk.seen (span_range o.span) agrees
        (clear o (All-contains (λ o. ¬ Meets o.span b.span) blocks o apart there))
        (let l = whole.long in let e = le-extent_len o.span.len in omega (arith, l, e)) ∙ whole.stands;
    long = let l = whole.long in let a = agrees.no_shorter in omega (arith, l, a);
  }

  filled : {U E : Type 0} (r : Result U E) → OnOk r (new.now.disk.seen ≡ put_bytes mid.now.disk.seen b.span.place bytes) → OnOk r (new.now.disk.seen ≡ with_blocks (blocks ++ b ∷ []) old.now.disk.seen)
  filled (Ok y) is =
      is ∙ ap (λ (l : List ℕ). put_bytes l b.span.place bytes) first.file
      ∙ ap (λ (l : List ℕ). put_bytes (with_blocks blocks old.now.disk.seen) b.span.place l) rounds.is
      ∙ sym (with_last blocks b old.now.disk.seen)
  filled (Err e) is = tt

  shorter : b.span.len ≤ length bytes
  shorter = let e = le-extent_len b.span.len in let l = rounds.long in omega (arith, e, l)

  put : new.now.disk.seen ≡ put_bytes mid.now.disk.seen b.span.place bytes → IsWhole new.now.disk.seen b
  put is = record {
    stands = ap (λ (l : List ℕ). bytes_in l (span_range b.span)) is
        ∙ sym (take-take b.span.len (length bytes) (drop b.span.place (put_bytes mid.now.disk.seen b.span.place bytes)) shorter)
        ∙ ap (λ (l : List ℕ). take b.span.len l) (read-put_bytes mid.now.disk.seen b.span.place bytes within)
        ∙ rounds.own;
    long = let n = length-put_bytes mid.now.disk.seen b.span.place bytes within in let s = ap length is in let l = rounds.long in omega (arith, n, s, l);
  }

  all : {U E : Type 0} (r : Result U E) → OnOk r (new.now.disk.seen ≡ put_bytes mid.now.disk.seen b.span.place bytes) → OnOk r (All (IsWhole new.now.disk.seen) (blocks ++ b ∷ []))
  all (Ok y) is = All-append (IsWhole new.now.disk.seen) blocks (b ∷ [])
      (All-weaker (Contains blocks) (IsWhole new.now.disk.seen) (λ o there. still o there (All-contains (IsWhole mid.now.disk.seen) blocks o first.ok there)) blocks (All-contains_itself blocks))
      (All-cons (IsWhole new.now.disk.seen) b [] (put is) (All-nil (IsWhole new.now.disk.seen)))
  all (Err e) is = tt

-- where putting the first ones failed, so did putting all
pub puts_failed : {T U E F : Type 0} {e : E} {f : F} (front rest : List Block) {old new : Outside} → PutsBlocks {T = T} front old new (Err e) → PutsBlocks {T = U} (front ++ rest) old new (Err f)
puts_failed front rest {old} {new} puts = record {
  file = tt;
  ok = tt;
  within = within_wider (extents_of front) (extents_of (front ++ rest)) old.now.disk new.now.disk (among_front front rest) puts.within;
  moments = weaker (λ at is. (is.0, within_wider (extents_of front) (extents_of (front ++ rest)) old.now.disk at.disk (among_front front rest) is.1)) puts.moments;
  said = puts.said;
  input = puts.input;
}

next_begins : (end len : ℕ) (front : List Block) (b : Block) (rest : List Block) → BeginWithin end (front ++ b ∷ rest) → end ≤ len → All (λ o. extent_end o.span ≤ len) front → b.span.place ≤ len
next_begins end len [] b rest begin reach long = omega (arith, begin.0, reach)
next_begins end len (o ∷ front) b rest begin reach long =
    let here = All-head (λ o. extent_end o.span ≤ len) o front long in
    next_begins (max end (extent_end o.span)) len front b rest begin.1 (omega (arith, here, reach)) (All-tail (λ o. extent_end o.span ≤ len) o front long)

-- the next block begins within the file, once those before it were put
pub next_within : {T E : Type 0} {x : T} {old mid : Outside} (front : List Block) (b : Block) (rest : List Block) → BeginWithin (length old.now.disk.seen) (front ++ b ∷ rest) → PutsBlocks {E = E} front old mid (Ok x) → b.span.place ≤ length mid.now.disk.seen
next_within {old = old} {mid} front b rest begin puts = next_begins (length old.now.disk.seen) (length mid.now.disk.seen) front b rest begin puts.within.changes.agrees.no_shorter
    (All-weaker (IsWhole mid.now.disk.seen) (λ o. extent_end o.span ≤ length mid.now.disk.seen) (λ o whole. whole.long) front puts.ok)

begin_later : (end later : ℕ) (blocks : List Block) → end ≤ later → BeginWithin end blocks → BeginWithin later blocks
begin_later end later [] le begin = tt
begin_later end later (b ∷ blocks) le begin =
    (omega (arith, begin.0, le), begin_later (max end (extent_end b.span)) (max later (extent_end b.span)) blocks (omega (arith, le)) begin.1)

all_middle : (P : Block → Type 0) (front : List Block) (b : Block) (rest : List Block) → All P (front ++ b ∷ rest) → P b
all_middle P [] b rest all = All-head P b rest all
all_middle P (o ∷ front) b rest all = all_middle P front b rest (All-tail P o (front ++ b ∷ rest) all)

span_middle : (P : Span → Type 0) (front : List Block) (b : Block) (rest : List Block) → All P (spans_of (front ++ b ∷ rest)) → P b.span
span_middle P [] b rest all = All-head P b.span (spans_of rest) all
span_middle P (o ∷ front) b rest all = span_middle P front b rest (All-tail P o.span (spans_of (front ++ b ∷ rest)) all)

apart_first : (one : Span) (others : List Span) → AreApart (one ∷ others) → All (λ other. ¬ Meets one other) others
apart_first one others apart = λ k d within. apart 0 (suc k) d (omega arith) (omega (arith, within))

apart_rest : (one : Span) (others : List Span) → AreApart (one ∷ others) → AreApart others
apart_rest one others apart = λ i j d below within. apart (suc i) (suc j) d (omega (arith, below)) (omega (arith, within))

apart_before : (front : List Block) (b : Block) (rest : List Block) → AreApart (spans_of (front ++ b ∷ rest)) → All (λ o. ¬ Meets o.span b.span) front
apart_before [] b rest apart = All-nil (λ o. ¬ Meets o.span b.span)
apart_before (o ∷ front) b rest apart = All-cons (λ o. ¬ Meets o.span b.span) o front
    (span_middle (λ other. ¬ Meets o.span other) front b rest (apart_first o.span (spans_of (front ++ b ∷ rest)) apart))
    (apart_before front b rest (apart_rest o.span (spans_of (front ++ b ∷ rest)) apart))

-- of blocks that can be written each one can, and it meets none of those before it
pub writable_next : (front : List Block) (b : Block) (rest : List Block) → AreWritable (front ++ b ∷ rest) → IsWritable b × All (λ o. ¬ Meets o.span b.span) front
writable_next front b rest writable = (all_middle IsWritable front b rest writable.each, apart_before front b rest writable.apart)

-- what a sound commit writes can be written
pub sound_writable : (old next : Footprint) (writes : List Block) → IsSoundAfter old writes next → AreWritable writes
sound_writable old next writes sound = record {
  each = All-weaker (IsBlockWithin next.mark.end) IsWritable (λ b is. record {
    behind = is.site.behind;
    len = is.len;
    end_fits = let w = is.site.within in let e = sound.whole.mark.end in omega (arith, w, e);
  }) writes sound.sited;
  apart = sound.apart;
}

pub sound_begins : (old next : Footprint) (writes : List Block) (len : ℕ) → IsSoundAfter old writes next → old.mark.end ≤ len → BeginWithin len writes
sound_begins old next writes len sound within = begin_later old.mark.end len writes within sound.begins
