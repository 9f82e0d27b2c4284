-- A walk over the records of a log, record by record.
use Rattle.std.proofs.Common.{◌≡◌, refl, sym, ◌∙◌, ap, subst, ℕ, ◌+◌, ◌-◌, ◌<◌, ◌≤◌, ◌⊎◌, ⊎_elim, List, [], ◌∷◌, ◌++◌, length, length-append, length-drop, take, drop, max, arith, Some, None, Ok, IsErr}
use Rattle.std.proofs.lemmas.List.{append_assoc, append-nil, drop-drop, length-take-le, take_at, take-take, drop_at, drop-take, ext_get_or, get_or-take, get_or-drop}
use Rattle.std.proofs.Math.Seq.{take-add}
use Rattle.host_io.specs.Ranges.{bytes_in}
use Rattle.host_io.specs.Calls.{Looks, put_bytes}
use Rattle.host_io.specs.Outside.{Moment, Outside}
use Rattle.aside_disk.specs.declared.walking.Walk.{Walk}
use Rattle.aside_disk.specs.declared.walking.Record.{Record}
use Rattle.aside_disk.specs.Records.{Entry, Fit, Fits, IsRecordAt, Spells, applied, head_bytes, record_len}
use Rattle.aside_disk.specs.Logical.{records_range}
use Rattle.aside_disk.specs.declared.walking.Piece.{Piece}
use Rattle.aside_disk.specs.Walking.{HasPiece, IsOf, IsWalk, Steps, Walked}
use Rattle.aside_disk.specs.Reading.{Covers, IsFound}
use Rattle.aside_disk.proofs.Spelled.{applied_append, fit_later, fit_snoc, grown_append, length-applied, longer_log, spells_snoc, splits}

pub walked_begins : (image : List ℕ) (len : ℕ) → Walked image len 256 len []
walked_begins image len = record { spells = refl; fit = tt; len_is = refl }

-- a record is its head, its bytes and its filling
module _ (image : List ℕ) (end at len : ℕ) (entry : Entry) (is : IsRecordAt image end at len entry) (long : end ≤ length image) where
  abbrev n : ℕ
  n = length entry.bytes

  abbrev fill : List ℕ
  fill = take (record_len n - (16 + n)) (drop (16 + n) (drop at image))

  fill_long : length fill ≡ record_len n - (16 + n)
  fill_long = length-take-le (record_len n - (16 + n)) (drop (16 + n) (drop at image)) (let a = length-drop (16 + n) (drop at image) in let b = length-drop at image in let i = is.inside in omega (arith, a, b, i, long))

  pub whole : 16 + (n + length fill) ≡ record_len n
  whole = let f = fill_long in omega (arith, f)

  pub block_is : bytes_in image (record { start = at; count = record_len n }) ≡ head_bytes entry ++ (entry.bytes ++ fill)
  block_is =
      let all : record_len n ≡ (16 + n) + (record_len n - (16 + n)) = omega arith in
      ap (λ (k : ℕ). take k (drop at image)) all ∙ take-add (16 + n) (record_len n - (16 + n)) (drop at image)
      ∙ ap (λ (l : List ℕ). l ++ fill) is.bytes ∙ append_assoc (head_bytes entry) entry.bytes fill

  -- its bytes stand behind its head
  pub found_is : (found : Record) → IsOf found at entry → IsFound image found entry
  found_is found of = record {
    place = of.place;
    len = of.len;
    bytes = ap (λ (k : ℕ). take n (drop k image)) of.from ∙ sym (ap (λ (l : List ℕ). take n l) (drop-drop 16 at image)) ∙ sym (drop-take 16 n (drop at image))
        ∙ ap (λ (l : List ℕ). drop 16 l) is.bytes ∙ drop_at (head_bytes entry) entry.bytes 16 refl;
  }

  -- the walk goes over it
  pub walked_step : (start : ℕ) (before : List Entry) → 256 ≤ at → Walked image start at len before → Walked image start (at + record_len n) (max len (entry.place + n)) (before ++ entry ∷ [])
  walked_step start before behind walked = record {
    spells = subst (λ (l : List ℕ). Spells (before ++ entry ∷ []) l) (sym (longer_log image at (record_len n) behind))
        (spells_snoc before (bytes_in image (records_range at)) (bytes_in image (record { start = at; count = record_len n })) fill entry walked.spells block_is whole);
    fit = fit_snoc start before entry walked.fit (subst (λ (k : ℕ). Fits k entry) walked.len_is is.fits);
    len_is = ap (λ (k : ℕ). max k (entry.place + n)) walked.len_is ∙ sym (grown_append start before (entry ∷ []));
  }

-- the first record of those that a part of a log spells stands there
pub spelled_here : (image : List ℕ) (at end len : ℕ) (e : Entry) (es : List Entry) → at ≤ end → end ≤ length image → Fits len e → Spells (e ∷ es) (bytes_in image (record { start = at; count = end - at })) → IsRecordAt image end at len e
spelled_here image at end len e es order long fits has =
    let count : length (bytes_in image (record { start = at; count = end - at })) ≡ end - at = length-take-le (end - at) (drop at image) (let d = length-drop at image in omega (arith, d, order, long)) in
    let all = ap length has.2 in
    let a = length-append (head_bytes e) (e.bytes ++ (has.0 ++ has.1)) in
    let b = length-append e.bytes (has.0 ++ has.1) in
    let d = length-append has.0 has.1 in
    let w = has.3 in
    let inside : at + record_len (length e.bytes) ≤ end = omega (arith, count, all, a, b, d, w, order) in
    record {
      fits = fits;
      inside = inside;
      bytes = sym (take-take-here (16 + length e.bytes) (omega (arith, inside)))
          ∙ ap (λ (l : List ℕ). take (16 + length e.bytes) l) (has.2 ∙ sym (append_assoc (head_bytes e) e.bytes (has.0 ++ has.1)))
          ∙ take_at (head_bytes e ++ e.bytes) (has.0 ++ has.1) (16 + length e.bytes) (length-append (head_bytes e) e.bytes);
    }
  where
    take-take-here : (k : ℕ) → k ≤ end - at → take k (take (end - at) (drop at image)) ≡ take k (drop at image)
    take-take-here k low = take-take k (end - at) (drop at image) low

-- Where a walk over a log stays, it went over all records of the log.
pub walk_ends : (image : List ℕ) (start at end len : ℕ) (before entries : List Entry) → 256 ≤ at → at ≤ end → end ≤ length image → Walked image start at len before
    → Spells entries (bytes_in image (records_range end)) → Fit start entries
    → (at ≡ end) ⊎ ((at < end) × ((entry : Entry) → ¬ IsRecordAt image end at len entry)) → entries ≡ before
walk_ends image start at end len before entries behind order long walked spells fit stays =
    let parts : at + (end - at) ≡ end = omega (arith, order) in
    let all : bytes_in image (records_range end) ≡ bytes_in image (records_range at) ++ bytes_in image (record { start = at; count = end - at }) =
    ap (λ (k : ℕ). bytes_in image (records_range k)) (sym parts) ∙ longer_log image at (end - at) behind in
    let s = splits start start before entries (bytes_in image (records_range at)) (bytes_in image (record { start = at; count = end - at })) walked.fit fit walked.spells (subst (λ (l : List ℕ). Spells entries l) all spells) in
    none s.0 s.1 s.2
  where
    none : (rest : List Entry) → entries ≡ before ++ rest → Spells rest (bytes_in image (record { start = at; count = end - at })) → entries ≡ before
    none [] is has = is ∙ append-nil before
    none (e ∷ rest) is has =
        let here = spelled_here image at end len e rest order long (subst (λ (k : ℕ). Fits k e) (sym walked.len_is) (fit_later start before (e ∷ rest) (subst (λ (l : List Entry). Fit start l) is fit)).0) has in
        absurd (⊎_elim (λ same. let i = here.inside in omega (arith, i, same)) (λ broken. broken.1 e here) stays)

-- a piece that covers a file to its end is that part of it
pub covered : (file : List ℕ) (at : ℕ) (piece : List ℕ) → at + length piece ≤ length file → Covers file at piece → piece ≡ take (length piece) (drop at file)
covered file at piece within covers = ext_get_or 0 piece (take (length piece) (drop at file)) (sym long)
    (λ i below. covers i below (omega (arith, below, within)) ∙ sym (get_or-take (length piece) (drop at file) i 0 below ∙ get_or-drop at file i 0))
  where
    long : length (take (length piece) (drop at file)) ≡ length piece
    long = length-take-le (length piece) (drop at file) (let d = length-drop at file in omega (arith, d, within))

-- what is known of a walk that fills a piece
abbrev pub Filled : List ℕ → List ℕ → ℕ → ℕ → ℕ → List ℕ → Type 0
Filled image base place at len piece = (before : List Entry) × Walked image (length base) at len before × Covers (applied base before) place piece

-- one record more was laid over the piece
pub read_step : (image base : List ℕ) (place : ℕ) (old new : Walk) (found : Record) (piece after : List ℕ) → old.end ≤ length image → 256 ≤ old.at → Steps image old new (Some found) → Filled image base place old.at old.len piece
    → ((file : List ℕ) (entry : Entry) → IsFound image found entry → entry.place ≤ length file → Covers file place piece → Covers (put_bytes file entry.place entry.bytes) place after)
    → Filled image base place new.at new.len after
read_step image base place old new found piece after long behind steps filled lays =
    let entry = steps.0 in
    let is = steps.1 in
    let walked = filled.1 in
    let on : Walked image (length base) (old.at + record_len (length entry.bytes)) (max old.len (entry.place + length entry.bytes)) (filled.0 ++ entry ∷ []) = walked_step image old.end old.at old.len entry is long (length base) filled.0 behind walked in
    let within : entry.place ≤ length (applied base filled.0) = let f = is.fits.within in let l = length-applied base filled.0 walked.fit in let g = walked.len_is in omega (arith, f, l, g) in (
      filled.0 ++ entry ∷ [],
      subst (λ (a : ℕ). Walked image (length base) a new.len (filled.0 ++ entry ∷ [])) (sym steps.3)
          (subst (λ (l : ℕ). Walked image (length base) (old.at + record_len (length entry.bytes)) l (filled.0 ++ entry ∷ [])) (sym steps.4) on),
      subst (λ (file : List ℕ). Covers file place after) (sym (applied_append base filled.0 (entry ∷ []))) (lays (applied base filled.0) entry (found_is image old.end old.at old.len entry is long found steps.2) within filled.2),
    )

-- the walk stays, so the piece is filled
pub read_ends : (image base : List ℕ) (place : ℕ) (old new : Walk) (piece : List ℕ) (entries : List Entry) → 256 ≤ old.at → old.at ≤ old.end → old.end ≤ length image → Steps image old new None → Filled image base place old.at old.len piece
    → Spells entries (bytes_in image (records_range old.end)) → Fit (length base) entries → place + length piece ≤ length (applied base entries) → piece ≡ take (length piece) (drop place (applied base entries))
read_ends image base place old new piece entries behind order long steps filled spells fit within =
    let same : entries ≡ filled.0 = walk_ends image (length base) old.at old.end old.len filled.0 entries behind order long filled.1 spells fit steps.2 in
    covered (applied base entries) place piece within (subst (λ (l : List Entry). Covers (applied base l) place piece) (sym same) filled.2)

-- two looks are one
pub looks_joins : {old mid new : Outside} → Looks old mid → Looks mid new → Looks old new
looks_joins first then = record {
  still = record { now = then.still.now ∙ first.still.now; past = then.still.past ∙ first.still.past };
  input = then.input ∙ first.input;
}

pub seen_same : {old new : Outside} → Looks old new → new.now.disk.seen ≡ old.now.disk.seen
seen_same looks = ap (λ (m : Moment). m.disk.seen) looks.still.now

pub not_err : (T E : Type 0) (x : T) → IsErr {T = T} {E = E} (Ok x) → ⊥
not_err T E x err = cc

-- a piece of no bytes
pub begun_piece : {image : List ℕ} {piece : Piece} {at end : ℕ} → end ≤ length image → piece.place ≡ at → piece.count ≡ 0 → IsWalk at end → HasPiece image piece
begun_piece {image} {piece} {at} {end} long place none walk = record {
  long = let w = walk.within in omega (arith, long, place, none, w);
  bytes = ap (λ (k : ℕ). take k piece.bytes) none ∙ sym (ap (λ (k : ℕ). take k (drop piece.place image)) none);
}
