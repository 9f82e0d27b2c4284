-- A record that is put behind a log, by one write or by two.
use Rattle.std.proofs.Common.{◌≡◌, sym, ◌∙◌, ap, subst, ℕ, ◌+◌, ◌-◌, ◌≤◌, inl, inr, ⊎_elim, List, [], ◌∷◌, ◌++◌, length, length-append, length-drop, take, drop, arith, Result, Ok, Err}
use Rattle.std.proofs.lemmas.List.{append_assoc, drop-drop, length-take-le}
use Rattle.std.proofs.lemmas.Result.{on_ok_weaker}
use Rattle.std.proofs.Math.Seq.{take-add}
use Rattle.host_io.specs.Disk.{DiskState}
use Rattle.host_io.specs.Calls.{Writes, put_bytes}
use Rattle.host_io.specs.Outside.{Outside}
use Rattle.host_io.specs.Ranges.{AreWithin, Puts, WritesWithin, bytes_in}
use Rattle.host_io.proofs.Bytes.{length-put_bytes, read-put_bytes}
use Rattle.host_io.proofs.Moments.{joins, weaker}
use Rattle.host_io.proofs.Ranges.{Puts-writes, bytes_agree, within_joins, within_wider}
use Rattle.aside_disk.specs.Records.{Entry, head_bytes, record_len}
use Rattle.aside_disk.specs.Phases.{tail_range}
use Rattle.aside_disk.specs.Appending.{Appends, Lays}
use Rattle.aside_disk.proofs.Phases.{apart}

-- one write
pub lays_writes : {T E : Type 0} (result : Result T E) {place : ℕ} {bytes : List ℕ} {old new : Outside} → place ≤ length old.now.disk.seen → Writes place bytes old new result → Lays place bytes old new result
lays_writes {T} {E} result {place} {bytes} {old} {new} within writes =
    let puts : Puts place bytes old new result = Puts-writes within writes in
    record { ok = on_ok_weaker result there puts.ok; within = puts.within; moments = puts.moments; said = puts.said; input = puts.input }
  where
    there : new.now.disk.seen ≡ put_bytes old.now.disk.seen place bytes → (place + length bytes ≤ length new.now.disk.seen) × (bytes_in new.now.disk.seen (record { start = place; count = length bytes }) ≡ bytes)
    there is = (
      let l = ap length is in let p = length-put_bytes old.now.disk.seen place bytes within in omega (arith, l, p),
      ap (λ (l : List ℕ). bytes_in l (record { start = place; count = length bytes })) is ∙ read-put_bytes old.now.disk.seen place bytes within,
    )

first_within : (place one two : ℕ) → AreWithin (tail_range place one ∷ []) (tail_range place (one + two) ∷ [])
first_within place one two k among = ⊎_elim (λ here. inl (here.0, let w = here.1 in omega (arith, w))) (λ none. absurd none) among

later_within : (place one two : ℕ) → AreWithin (tail_range (place + one) two ∷ []) (tail_range place (one + two) ∷ [])
later_within place one two k among = ⊎_elim (λ here. inl (let l = here.0 in omega (arith, l), let w = here.1 in omega (arith, w))) (λ none. absurd none) among

module _ (place : ℕ) (one two : List ℕ) (old mid : Outside) where
  whole : length (one ++ two) ≡ length one + length two
  whole = length-append one two

  wider : (disk : DiskState) → WritesWithin (tail_range place (length one) ∷ []) old.now.disk disk → WritesWithin (tail_range place (length (one ++ two)) ∷ []) old.now.disk disk
  wider disk writes = subst (λ (n : ℕ). WritesWithin (tail_range place n ∷ []) old.now.disk disk) (sym whole)
      (within_wider (tail_range place (length one) ∷ []) (tail_range place (length one + length two) ∷ []) old.now.disk disk (first_within place (length one) (length two)) writes)

  joined : WritesWithin (tail_range place (length one) ∷ []) old.now.disk mid.now.disk → (disk : DiskState) → WritesWithin (tail_range (place + length one) (length two) ∷ []) mid.now.disk disk
      → WritesWithin (tail_range place (length (one ++ two)) ∷ []) old.now.disk disk
  joined first disk then = subst (λ (n : ℕ). WritesWithin (tail_range place n ∷ []) old.now.disk disk) (sym whole)
      (within_joins (tail_range place (length one + length two) ∷ []) old.now.disk mid.now.disk disk
      (within_wider (tail_range place (length one) ∷ []) (tail_range place (length one + length two) ∷ []) old.now.disk mid.now.disk (first_within place (length one) (length two)) first)
      (within_wider (tail_range (place + length one) (length two) ∷ []) (tail_range place (length one + length two) ∷ []) mid.now.disk disk (later_within place (length one) (length two)) then))

  -- the first of two failed
  pub lays_fails : {T U E F : Type 0} {e : E} {f : F} → Lays {T = T} place one old mid (Err e) → Lays {T = U} place (one ++ two) old mid (Err f)
  lays_fails first = record { ok = tt; within = wider mid.now.disk first.within; moments = weaker (λ at is. (is.0, wider at.disk is.1)) first.moments; said = first.said; input = first.input }

  -- the second followed
  pub lays_joins : {T U E F : Type 0} {x : T} (result : Result U F) (new : Outside) → Lays {E = E} place one old mid (Ok x) → Lays (place + length one) two mid new result → Lays place (one ++ two) old new result
  lays_joins result new first then = record {
    ok = on_ok_weaker result both then.ok;
    within = joined first.within new.now.disk then.within;
    moments = joins (weaker (λ at is. (is.0, wider at.disk is.1)) first.moments) (weaker (λ at is. (is.0 ∙ first.said, joined first.within at.disk is.1)) then.moments);
    said = then.said ∙ first.said;
    input = then.input ∙ first.input;
  } where
    both : (place + length one + length two ≤ length new.now.disk.seen) × (bytes_in new.now.disk.seen (record { start = place + length one; count = length two }) ≡ two)
        → (place + length (one ++ two) ≤ length new.now.disk.seen) × (bytes_in new.now.disk.seen (record { start = place; count = length (one ++ two) }) ≡ one ++ two)
    both is = (
      let l = is.0 in omega (arith, whole, l),
      ap (λ (n : ℕ). take n (drop place new.now.disk.seen)) whole ∙ take-add (length one) (length two) (drop place new.now.disk.seen)
          ∙ ap (λ (l : List ℕ). take (length one) (drop place new.now.disk.seen) ++ take (length two) l) (drop-drop (length one) place new.now.disk.seen)
          ∙ ap (λ (l : List ℕ). l ++ bytes_in new.now.disk.seen (record { start = place + length one; count = length two })) (stays ∙ first.ok.1)
          ∙ ap (λ (l : List ℕ). one ++ l) is.1,
    )
      where
        stays : bytes_in new.now.disk.seen (record { start = place; count = length one }) ≡ bytes_in mid.now.disk.seen (record { start = place; count = length one })
        stays = bytes_agree (tail_range (place + length one) (length two) ∷ []) mid.now.disk.seen new.now.disk.seen (record { start = place; count = length one }) then.within.changes.agrees
            (apart (tail_range (place + length one) (length two)) (record { start = place; count = length one }) (inr (omega arith))) first.ok.0

-- The bytes of a record with zeros behind it, as far as the record goes, are the record.
module _ (end : ℕ) (entry : Entry) (bytes : List ℕ) (long : record_len (length entry.bytes) ≤ length bytes) (begins : take (16 + length entry.bytes) bytes ≡ head_bytes entry ++ entry.bytes) where
  abbrev n : ℕ
  n = length entry.bytes

  abbrev fill : List ℕ
  fill = take (record_len n - (16 + n)) (drop (16 + n) bytes)

  fill_long : length fill ≡ record_len n - (16 + n)
  fill_long = length-take-le (record_len n - (16 + n)) (drop (16 + n) bytes) (let d = length-drop (16 + n) bytes in omega (arith, d, long))

  all_is : take (record_len n) bytes ≡ head_bytes entry ++ (entry.bytes ++ fill)
  all_is =
      let parts : record_len n ≡ (16 + n) + (record_len n - (16 + n)) = omega arith in
      ap (λ (k : ℕ). take k bytes) parts ∙ take-add (16 + n) (record_len n - (16 + n)) bytes ∙ ap (λ (l : List ℕ). l ++ fill) begins ∙ append_assoc (head_bytes entry) entry.bytes fill

  all_long : length (take (record_len n) bytes) ≡ record_len n
  all_long = length-take-le (record_len n) bytes long

  pub appends_lays : {T E : Type 0} (result : Result T E) {old new : Outside} → Lays end (take (record_len n) bytes) old new result → Appends end entry old new result
  appends_lays result {old} {new} lays = record {
    ok = on_ok_weaker result (λ is. record {
      long = let l = is.0 in let a = all_long in omega (arith, l, a);
      fill = fill;
      whole = let f = fill_long in omega (arith, f);
      bytes = ap (λ (k : ℕ). bytes_in new.now.disk.seen (record { start = end; count = k })) (sym all_long) ∙ is.1 ∙ all_is;
    }) lays.ok;
    within = on new.now.disk lays.within;
    moments = weaker (λ at is. (is.0, on at.disk is.1)) lays.moments;
    said = lays.said;
    input = lays.input;
  } where
    on : (disk : DiskState) → WritesWithin (tail_range end (length (take (record_len n) bytes)) ∷ []) old.now.disk disk → WritesWithin (tail_range end (record_len n) ∷ []) old.now.disk disk
    on disk writes = subst (λ (k : ℕ). WritesWithin (tail_range end k ∷ []) old.now.disk disk) all_long writes
