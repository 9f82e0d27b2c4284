-- What a whole commit has in a file is a whole footprint.
use Rattle.std.proofs.Common.{◌≡◌, ℕ, ◌<◌, ◌^◌, ◌⊎◌, inl, inr, ⊎_elim, Some, List, [], ◌∷◌, refl, sym, subst, arith}
use Rattle.std.specs.Prelude.{Contains}
use Rattle.std.specs.List.{flat_map}
use Rattle.std.proofs.lemmas.List.{map-append}
use Rattle.std.proofs.lemmas.List.Elements.{Contains-append_right}
use Rattle.mk_value.specs.declared.span.Span.{Span}
use Rattle.free_space.specs.Sites.{IsSite}
use Rattle.free_space.proofs.ExtentLemmas.{le-extent_len}
use Rattle.commit_marks.specs.Marks.{Chooses}
use Rattle.commit_writes.specs.Blocks.{spans_of}
use Rattle.commit_writes.specs.Footprints.{HasBefore, IsFootprint, StandsFor as PrintStandsFor, MayStand as PrintMayStand}
use Rattle.dir_codec.specs.Dir.{NoteEntry}
use Rattle.recovery.specs.Commits.{Commit, IsCommit, column_blocks, commit_blocks, dir_block, footprint_of, mark_of, plain_views, version_of}
use Rattle.recovery.specs.Standing.{StandsFor}
use Rattle.recovery.specs.Refusals.{IsBefore, MayStand, Older}

version_is : (notes : List NoteEntry) → (version_of notes ≡ 1) ⊎ (version_of notes ≡ 2)
version_is [] = inl refl
version_is (note ∷ notes) = inr refl

-- what lies below an end that a number of 64 bits holds
site_fits : (end : ℕ) (span : Span) → IsSite end span → end < 2 ^ 64 → (span.place < 2 ^ 64) × (span.len < 2 ^ 64)
site_fits end span site p =
    let within = site.within in
    let long = le-extent_len span.len in
    (omega (arith, within, long, p), omega (arith, within, long, p))

dir_among : (c : Commit) → Contains (spans_of (commit_blocks c)) c.dir
dir_among c =
    let columns = flat_map column_blocks (plain_views c.views) in
    subst (λ spans. Contains spans c.dir) (sym (map-append (λ b. b.span) columns (dir_block c ∷ [])))
    (Contains-append_right (spans_of columns) (c.dir ∷ []) c.dir (0, omega arith, refl))

pub footprint_whole : (c : Commit) → IsCommit c → IsFootprint (footprint_of c)
footprint_whole c h =
    let fits = site_fits c.end c.dir h.fits.dir h.end_fits in
    record {
      mark = record { version = version_is c.notes; number = h.number; place = fits.0; len = fits.1; end = h.end_fits };
      fits = h.fits;
      sited = h.sited;
      apart = h.apart;
      dir = dir_among c;
    }

-- What a footprint stands for, its commit stands for.
pub stands_for : (c : Commit) (image : List ℕ) → IsCommit c → PrintStandsFor image (footprint_of c) → StandsFor image c
stands_for c image whole h = (h.0, mark_of c, h.1, h.2, record { whole = whole; mark = refl; holds = h.3 })

pub has_before : (c : Commit) (image : List ℕ) → IsCommit c → HasBefore image (footprint_of c) → IsBefore image (Older.whole c)
has_before c image whole h = (h.0, h.1, Some (mark_of c), h.2, record { whole = whole; mark = refl; holds = h.3 })

pub may_stand : (kept next : Commit) (image : List ℕ) → IsCommit kept → IsCommit next → PrintMayStand (footprint_of kept) (footprint_of next) image → MayStand kept next image
may_stand kept next image one two h =
    ⊎_elim (λ old. inl (stands_for kept image one old)) (λ both. inr (stands_for next image two both.0, has_before kept image one both.1)) h

-- and back
pub print_stands : (c : Commit) (image : List ℕ) → StandsFor image c → PrintStandsFor image (footprint_of c)
print_stands c image h = (h.0, h.2, subst (λ m. Chooses image h.0 m h.2) h.4.mark h.3, h.4.holds)
