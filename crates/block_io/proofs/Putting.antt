-- Bytes that are put at a place piece by piece.
use Rattle.std.proofs.Common.{◌≡◌, refl, sym, ◌∙◌, ap, subst, ℕ, ◌+◌, ◌≤◌, inl, ⊎_elim, List, [], ◌∷◌, ◌++◌, length, take, drop, arith, Result, Ok, Err, OnOk, length-append}
use Rattle.std.proofs.lemmas.List.{append_assoc, append-nil, drop-drop, length-take-le, take-append-drop, take_at}
use Rattle.host_io.specs.Disk.{Range, DiskState}
use Rattle.host_io.specs.Calls.{put_bytes}
use Rattle.host_io.specs.Outside.{Outside}
use Rattle.host_io.specs.Ranges.{AreWithin, Puts, WritesWithin}
use Rattle.host_io.proofs.Bytes.{drop-put_bytes, length-put_bytes}
use Rattle.host_io.proofs.Moments.{begins, joins, weaker}
use Rattle.host_io.proofs.Ranges.{within_joins, within_same, within_wider}

abbrev range : ℕ → ℕ → List Range
range place count = (record { start = place; count = count }) ∷ []

put_bytes-nil : (file : List ℕ) (place : ℕ) → file ≡ put_bytes file place []
put_bytes-nil file place =
    sym (take-append-drop place file)
    ∙ ap (λ (n : ℕ). take place file ++ drop n file) (let same : place ≡ place + 0 = omega arith in same)
    ∙ ap (λ (l : List ℕ). l ++ drop (place + 0) file) (sym (append-nil (take place file)))

-- two pieces side by side
put_bytes-joins : (file : List ℕ) (place : ℕ) (one two : List ℕ) → place ≤ length file
    → put_bytes (put_bytes file place one) (place + length one) two ≡ put_bytes file place (one ++ two)
put_bytes-joins file place one two within =
    ap (λ (l : List ℕ). l ++ two ++ drop (place + length one + length two) (put_bytes file place one)) front
    ∙ ap (λ (l : List ℕ). (take place file ++ one) ++ two ++ l) behind
    ∙ ap (λ (l : List ℕ). l ++ drop (place + length (one ++ two)) file) (append_assoc (take place file) one two)
  where
    both : length (take place file ++ one) ≡ place + length one
    both = omega (arith, length-append (take place file) one, length-take-le place file within)

    front : take (place + length one) (put_bytes file place one) ≡ take place file ++ one
    front = take_at (take place file ++ one) (drop (place + length one) file) (place + length one) both

    further : (l : List ℕ) → drop (place + length one + length two) l ≡ drop (length two) (drop (place + length one) l)
    further l = sym (drop-drop (length two) (place + length one) l)

    behind : drop (place + length one + length two) (put_bytes file place one) ≡ drop (place + length (one ++ two)) file
    behind =
        further (put_bytes file place one)
        ∙ ap (λ (l : List ℕ). drop (length two) l) (drop-put_bytes file place one within)
        ∙ sym (further file)
        ∙ ap (λ (n : ℕ). drop n file) (omega (arith, length-append one two))

-- nothing was put
pub puts_none : {T E : Type 0} {x : T} (place : ℕ) (outside : Outside) → Puts {E = E} place [] outside outside (Ok x)
puts_none place outside = record {
  ok = put_bytes-nil outside.now.disk.seen place;
  within = within_same (range place 0) outside.now.disk;
  moments = begins outside;
  said = refl;
  input = refl;
}

first_within : (place one two : ℕ) → one ≤ two → AreWithin (range place one) (range place two)
first_within place one two le k among = ⊎_elim (λ here. inl (here.0, let w = here.1 in omega (arith, w, le))) (λ none. absurd none) among

later_within : (place one two : ℕ) → AreWithin (range (place + one) two) (range place (one + two))
later_within place one two k among =
    ⊎_elim (λ here. inl (let l = here.0 in omega (arith, l), let w = here.1 in omega (arith, w))) (λ none. absurd none) among

-- one piece, and the next behind it
pub puts_joins : {T U E : Type 0} {x : T} {result : Result U E} {place : ℕ} (one two : List ℕ) {old mid new : Outside} → place ≤ length old.now.disk.seen
    → Puts {E = E} place one old mid (Ok x) → Puts (place + length one) two mid new result → Puts place (one ++ two) old new result
puts_joins {result = result} {place} one two {old} {mid} {new} within first then = record {
  ok = both result then.ok;
  within = joined new.now.disk then.within;
  moments = joins
      (weaker (λ at is. (is.0, subst (λ (n : ℕ). WritesWithin (range place n) old.now.disk at.disk) (sym longer) (within_wider (range place (length one)) (range place (length one + length two)) old.now.disk at.disk (first_within place (length one) (length one + length two) (omega arith)) is.1))) first.moments)
      (weaker (λ at is. (is.0 ∙ first.said, joined at.disk is.1)) then.moments);
  said = then.said ∙ first.said;
  input = then.input ∙ first.input;
} where
  longer : length (one ++ two) ≡ length one + length two
  longer = length-append one two

  joined : (disk : DiskState) → WritesWithin (range (place + length one) (length two)) mid.now.disk disk → WritesWithin (range place (length (one ++ two))) old.now.disk disk
  joined disk more = subst (λ (n : ℕ). WritesWithin (range place n) old.now.disk disk) (sym longer) (within_joins (range place (length one + length two)) old.now.disk mid.now.disk disk
      (within_wider (range place (length one)) (range place (length one + length two)) old.now.disk mid.now.disk (first_within place (length one) (length one + length two) (omega arith)) first.within)
      (within_wider (range (place + length one) (length two)) (range place (length one + length two)) mid.now.disk disk (later_within place (length one) (length two)) more))

  both : {U E : Type 0} (r : Result U E) → OnOk r (new.now.disk.seen ≡ put_bytes mid.now.disk.seen (place + length one) two) → OnOk r (new.now.disk.seen ≡ put_bytes old.now.disk.seen place (one ++ two))
  both (Ok y) is = is ∙ ap (λ (l : List ℕ). put_bytes l (place + length one) two) first.ok ∙ put_bytes-joins old.now.disk.seen place one two within
  both (Err e) is = tt

-- where putting a front failed, so did putting all
pub puts_failed : {T U E F : Type 0} {e : E} {f : F} {place : ℕ} (front rest : List ℕ) {old new : Outside} → Puts {T = T} place front old new (Err e) → Puts {T = U} place (front ++ rest) old new (Err f)
puts_failed {place = place} front rest {old} {new} puts = record {
  ok = tt;
  within = wider new.now.disk puts.within;
  moments = weaker (λ at is. (is.0, wider at.disk is.1)) puts.moments;
  said = puts.said;
  input = puts.input;
} where
  wider : (disk : DiskState) → WritesWithin (range place (length front)) old.now.disk disk → WritesWithin (range place (length (front ++ rest))) old.now.disk disk
  wider disk = within_wider (range place (length front)) (range place (length (front ++ rest))) old.now.disk disk (first_within place (length front) (length (front ++ rest)) (omega (arith, length-append front rest)))

-- the file reaches as far as what was put
pub long_after : {T E : Type 0} {x : T} {place : ℕ} (bytes : List ℕ) {old new : Outside} → place ≤ length old.now.disk.seen → Puts {E = E} place bytes old new (Ok x) → place + length bytes ≤ length new.now.disk.seen
long_after {place = place} bytes {old} within puts = omega (arith, ap length puts.ok, length-put_bytes old.now.disk.seen place bytes within)
