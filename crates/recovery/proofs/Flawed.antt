-- What is read under a mark: its directory, or the first flaw of its bytes.
use Rattle.std.proofs.Common.{◌≡◌, ℕ, ◌+◌, ◌^◌, ◌<◌, ◌≤◌, List, length, sym, subst, ◌∙◌, arith}
use Rattle.std.specs.Prelude.{Result, Ok, Err, IsErrAnd, IfErr}
use Rattle.block_io.specs.declared.error.BlockError.{BlockError}
use Rattle.block_io.specs.declared.error.BlockError.TheVariants as block_error
use Rattle.host_io.specs.Ranges.{bytes_in}
use Rattle.free_space.specs.Sites.{IsSite}
use Rattle.free_space.proofs.ExtentLemmas.{le-extent_len}
use Rattle.commit_marks.specs.declared.mark.Mark.{Mark}
use Rattle.commit_marks.specs.Marks.{FitsFile, IsMark, dir_span}
use Rattle.commit_writes.specs.Blocks.{span_range}
use Rattle.dir_codec.specs.declared.error.DirError.{DirError}
use Rattle.dir_codec.specs.declared.error.DirError.TheVariants as dir_error
use Rattle.dir_codec.specs.Dir.{Dir, IsDir, spelled}
use Rattle.dir_codec.specs.Fields.{IsFirstFlaw}
use Rattle.dir_codec.specs.Reads.{IsRefused}
use Rattle.recovery.specs.declared.directory.DirectoryError.{DirectoryError}
use Rattle.recovery.specs.Flaws.{NamesFlaw, cause_of_dir, cause_of_reading}
use Rattle.recovery.specs.Refusals.{HasDir}

pub ends_below : (m : Mark) → IsMark m → IsSite m.end (dir_span m) → m.place + m.len < 2 ^ 64
ends_below m good site = let end = good.end in let within = site.within in let len = le-extent_len m.len in omega (arith, end, within, len)

pub ends_within : (image : List ℕ) (m : Mark) → FitsFile (length image) m → m.place + m.len ≤ length image
ends_within image m fits = let end = fits.within in let within = fits.dir.within in let len = le-extent_len m.len in omega (arith, end, within, len)

pub by_cause : {T : Type 0} (P : DirectoryError → Type 0) (r : Result T DirectoryError) (cause : DirectoryError) → IsErrAnd r (λ e. e ≡ cause) → P cause → IfErr r P
by_cause P (Ok x) cause h p = absurd h
by_cause P (Err e) cause h p = subst P (sym h) p

pub not_read : (image : List ℕ) (m : Mark) (e : BlockError) → NamesFlaw image m (cause_of_reading e)
not_read image m block_error.Failed = tt
not_read image m block_error.Memory = tt

pub first_flaw : (image bytes : List ℕ) (m : Mark) (e : DirError) → FitsFile (length image) m → bytes ≡ bytes_in image (span_range (dir_span m)) → IsRefused m.version m.number m.end bytes e → NamesFlaw image m (cause_of_dir e)
first_flaw image bytes m (dir_error.At offset) fits here refused =
    record { fits = fits; first = subst (λ bs. IsFirstFlaw m.version m.number m.end bs offset) here refused }
first_flaw image bytes m dir_error.Memory fits here refused = tt

pub has_dir : (image bytes : List ℕ) (m : Mark) (d : Dir) → FitsFile (length image) m → bytes ≡ bytes_in image (span_range (dir_span m)) → IsDir m.version m.number m.end d × (bytes ≡ spelled d) → HasDir image m d
has_dir image bytes m d fits here found = record { fits = fits; good = found.0; spells = sym here ∙ found.1 }
