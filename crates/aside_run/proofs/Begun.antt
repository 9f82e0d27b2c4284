-- What a run over an aside file begins with.
use Rattle.std.proofs.Common.{◌≡◌, ◌≢◌, ℕ, ◌+◌, ◌^◌, ◌<◌, ◌≤◌, List, [], ◌∷◌, length, refl, sym, ap, ◌∙◌, subst, inl, inr, max, Ok, None, arith}
use Rattle.host_io.specs.Disk.{DiskState}
use Rattle.host_io.specs.Outside.{Moment, Outside, moment}
use Rattle.host_io.specs.Calls.{CountsDisk, CountsFaults, Looks}
use Rattle.std.proofs.lemmas.List.{nil_from_length}
use Rattle.aside_disk.specs.declared.log.Log.{Log}
use Rattle.aside_disk.specs.Logical.{Logical, entries_of, record_of}
use Rattle.aside_disk.specs.Opening.{Opens, first_mark, new_bytes, opened_at}
use Rattle.aside_disk.specs.Records.{Entry, applied, grown}
use Rattle.aside_disk.proofs.Openings.{new_log}
use Rattle.aside_disk.proofs.Parsed.{logical_unique}
use Rattle.aside_disk.proofs.Spelled.{length-applied}
use Rattle.aside_disk.proofs.Standing.{begins_is}
use Rattle.aside_run.specs.Bases.{StandsFirst}
use Rattle.aside_run.specs.Seen.{BeginsOver}

-- records make a file no shorter
grown_longer : (len : ℕ) (entries : List Entry) → len ≤ grown len entries
grown_longer len [] = omega arith
grown_longer len (entry ∷ entries) = let more = grown_longer (max len (entry.place + length entry.bytes)) entries in omega (arith, more)

-- so what stands over a base with bytes has some
pub logical_some : (base : List ℕ) (number : ℕ) (image file : List ℕ) → base ≢ [] → Logical base number image file → file ≢ []
logical_some base number image file some logical none =
    let as_long : length file ≡ grown (length base) logical.entries = ap length logical.file_is ∙ length-applied base logical.entries logical.has.fit in
    some (nil_from_length base (let longer = grown_longer (length base) logical.entries in let zero_long = ap length none in omega (arith, as_long, longer, zero_long)))

-- a new aside file stands for its base
new_stands : (base : List ℕ) (number : ℕ) → length base < 2 ^ 64 → number < 2 ^ 64 → Logical base number (new_bytes (record_of base number)) base
new_stands base number long fits = record { slot = 0; chosen = first_mark; other = None; entries = []; has = new_log (record_of base number) long fits; file_is = refl }

stands_first : (base : List ℕ) (number : ℕ) (image file : List ℕ) → (image ≡ [] → file ≡ base) → (image ≢ [] → Logical base number image file) → StandsFirst base number image file
stands_first base number [] file empty some = empty refl
stands_first base number (byte ∷ bytes) file empty some = some (λ none. cc)

module _ (base : List ℕ) (number : ℕ) (log : Log) (old new : Outside) (long : length base < 2 ^ 63) (fits : number < 2 ^ 64) (opens : Opens (record_of base number) old new (Ok log)) where
  -- the file that the log stands for
  pub logical_opened : Logical base number new.now.disk.seen (applied base (entries_of new.now.disk.seen log.end))
  logical_opened = (begins_is 0 base number log old new opens).logical

  pub opened_stands : StandsFirst base number old.now.disk.seen (applied base (entries_of new.now.disk.seen log.end))
  opened_stands = elim opens.3 [
    | inl made ↦
        let at_new = subst (λ (image : List ℕ). Logical base number image (applied base (entries_of new.now.disk.seen log.end))) made.1 logical_opened in
        stands_first base number old.now.disk.seen (applied base (entries_of new.now.disk.seen log.end))
        (λ none. logical_unique base number (new_bytes (record_of base number)) _ base at_new (new_stands base number (omega (arith, long)) fits)) (λ some. absurd (some made.0))
    | inr looks ↦
        let same : new.now.disk.seen ≡ old.now.disk.seen = ap (λ (m : Moment). m.disk.seen) looks.still.now in
        let at_old = subst (λ (image : List ℕ). Logical base number image (applied base (entries_of new.now.disk.seen log.end))) same logical_opened in
        stands_first base number old.now.disk.seen (applied base (entries_of new.now.disk.seen log.end)) (λ none. absurd (no_log_in_none none at_old)) (λ some. at_old)
  ]
    where
      no_log_in_none : old.now.disk.seen ≡ [] → Logical base number old.now.disk.seen (applied base (entries_of new.now.disk.seen log.end)) → ⊥
      no_log_in_none none logical = let headed = logical.has.chooses.headed.long in let short = ap length none in omega (arith, headed, short)

-- the same seen from before looks at the file
pub begins_after : (file : List ℕ) (old mid opened begin : Outside) → Looks old mid → mid.take_faults ≡ old.take_faults → mid.say_faults ≡ old.say_faults
    → opened.now.said ≡ mid.now.said → opened.input ≡ mid.input → opened.take_faults ≡ mid.take_faults → opened.say_faults ≡ mid.say_faults
    → BeginsOver file opened begin → BeginsOver file old begin
begins_after file old mid opened begin looks takes says said input takes_too says_too begins = record {
  disk = begins.disk;
  past = begins.past;
  said = begins.said ∙ said ∙ ap (λ (m : Moment). m.said) looks.still.now;
  input = begins.input ∙ input ∙ looks.input;
  take_faults = begins.take_faults ∙ takes_too ∙ takes;
  say_faults = begins.say_faults ∙ says_too ∙ says;
}

pub opened_at_looks : (old mid : Outside) → Looks old mid → opened_at mid ≡ opened_at old
opened_at_looks old mid looks = let now = looks.still.now in let past = looks.still.past in cc
