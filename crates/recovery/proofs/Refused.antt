-- What is found under a mark is why it is refused, at this place, or the commit that stands under it.
use Rattle.std.proofs.Common.{◌≡◌, ℕ, ◌+◌, ◌≤◌, inl, inr, List, ◌∷◌, ◌++◌, length, drop, map, refl, ap, sym, subst, ◌∙◌, arith}
use Rattle.std.specs.Prelude.{Contains, Result, Ok, Err, IfErr, IfOk}
use Rattle.std.proofs.lemmas.List.{length-take}
use Rattle.std.proofs.lemmas.List.Elements.{All-contains, Contains-append_right}
use Rattle.mk_value.specs.declared.span.Span.{Span}
use Rattle.host_io.specs.Ranges.{bytes_in}
use Rattle.free_space.specs.Extents.{AreApart}
use Rattle.free_space.proofs.ExtentLemmas.{le-extent_len}
use Rattle.commit_marks.specs.declared.mark.Mark.{Mark}
use Rattle.commit_marks.specs.declared.error.MarkError.{MarkError}
use Rattle.commit_marks.specs.declared.error.MarkError.TheVariants as mark_error
use Rattle.commit_marks.specs.Marks.{FitsFile, IsMark, IsMarkRefusal, dir_span}
use Rattle.commit_writes.specs.Blocks.{StandsAt, span_range}
use Rattle.dir_codec.specs.Columns.{PlainEntry, dir_columns}
use Rattle.dir_codec.specs.Dir.{Dir, NoteEntry, spelled}
use Rattle.dir_codec.specs.Values.{note_of}
use Rattle.view_store.specs.Views.{NamedTable}
use Rattle.recovery.specs.declared.error.ColumnsError.{ColumnsError}
use Rattle.recovery.specs.declared.error.ColumnsError.TheVariants as columns_error
use Rattle.recovery.specs.declared.directory.DirectoryError.{DirectoryError}
use Rattle.recovery.specs.declared.directory.DirectoryError.TheVariants as directory_error
use Rattle.recovery.specs.declared.error.OpenError.{OpenError}
use Rattle.recovery.specs.declared.error.OpenError.TheVariants as open_error
use Rattle.recovery.specs.declared.kept.Kept.{Kept}
use Rattle.recovery.specs.Commits.{Commit, IsCommit}
use Rattle.recovery.specs.Flaws.{NamesFlaw}
use Rattle.recovery.specs.Found.{AreEntriesOfViews, AreViewsFound, HasLength, NamesUnreadable}
use Rattle.recovery.specs.Keeping.{commit_in}
use Rattle.recovery.specs.Opening.{IsKeptOf, NamesCause, NamesColumn, NamesPlace, cause_of_columns, cause_of_directory, cause_of_marks, place_in}
use Rattle.recovery.specs.Reading.{all_spans}
use Rattle.recovery.specs.Refusals.{HasDir}
use Rattle.recovery.specs.Standing.{Stands}
use Rattle.recovery.proofs.Restored.{IsDirOf, commit_stands, commit_whole}
use Rattle.recovery.proofs.Roots.{views_shaped, whole_views}
use Rattle.recovery.proofs.Starts.{columns_start}

-- an offset within the directory is a place of the file
place_within : (m : Mark) (len offset : ℕ) → IsMark m → FitsFile len m → offset ≤ m.len → place_in m.place offset ≡ m.place + offset
place_within m len offset mark fits p =
    let within = fits.dir.within in
    let long = le-extent_len m.len in
    let small = mark.end in
    omega (arith, within, long, small, p)

bytes_within : (image : List ℕ) (span : Span) → length (bytes_in image (span_range span)) ≤ span.len
bytes_within image span = let e = length-take span.len (drop span.place image) in omega (arith, e)

pub by_directory : (image : List ℕ) (slot : ℕ) (m : Mark) (error : DirectoryError) → IsMark m → NamesFlaw image m error → NamesPlace image slot m (cause_of_directory m.place error)
by_directory image slot m (directory_error.At offset) mark flaw =
    let within = flaw.first.within in
    let long = bytes_within image (dir_span m) in
    inr (inl (offset, flaw, place_within m (length image) offset mark flaw.fits (omega (arith, within, long))))
by_directory image slot m directory_error.Failed mark flaw = tt
by_directory image slot m directory_error.Memory mark flaw = tt

-- what is named of the columns of a directory, as a place of the file
pub unread_column : (image : List ℕ) (m : Mark) (d : Dir) (error : ColumnsError) → NamesUnreadable image (dir_columns d) error → NamesColumn image m d (cause_of_columns m.place error)
unread_column image m d (columns_error.At offset) named = (offset, named, refl)
unread_column image m d columns_error.Failed named = tt
unread_column image m d columns_error.Memory named = tt

-- a column of the directory begins within it
start_within : (image : List ℕ) (m : Mark) (d : Dir) (e : PlainEntry) (before after : List PlainEntry) → HasDir image m d → dir_columns d ≡ before ++ e ∷ after → e.start ≤ m.len
start_within image m d e before after has among =
    let there : Contains (dir_columns d) e = subst (λ es. Contains es e) (sym among) (Contains-append_right before (e ∷ after) e (0, omega arith, refl)) in
    let start = All-contains (λ (x : PlainEntry). x.start ≤ length (spelled d)) (dir_columns d) e (columns_start d) there in
    let same = ap length has.spells in
    let long = bytes_within image (dir_span m) in
    omega (arith, start, same, long)

pub by_column : (image : List ℕ) (slot : ℕ) (m : Mark) (d : Dir) (error : OpenError) → IsMark m → HasDir image m d → AreApart (all_spans d (dir_span m)) → NamesColumn image m d error → NamesPlace image slot m error
by_column image slot m d open_error.NotAStore mark has apart named = named
by_column image slot m d (open_error.Damaged place) mark has apart named =
    let e = named.1.0 in
    let first = named.1.1 in
    let start = start_within image m d e first.before first.after has first.among in
    inr (inr (inr (
      e,
      record { dir = d; has = has; apart = apart; first = first },
      named.2 ∙ ap (λ n. place_in m.place n) named.1.2 ∙ place_within m (length image) e.start mark has.fits start,
    )))
by_column image slot m d open_error.Failed mark has apart named = tt
by_column image slot m d open_error.Memory mark has apart named = tt

pub column_refused : (image : List ℕ) (slot : ℕ) (m : Mark) (d : Dir) (r : Result Kept OpenError) → IsMark m → HasDir image m d → AreApart (all_spans d (dir_span m)) → IfErr r (NamesColumn image m d) → IfErr r (NamesPlace image slot m)
column_refused image slot m d (Ok kept) mark has apart named = tt
column_refused image slot m d (Err error) mark has apart named = by_column image slot m d error mark has apart named

commit : ℕ → List NamedTable → List NoteEntry → Span → ℕ → Commit
commit number views notes dir end = record { number = number; views = views; notes = notes; dir = dir; end = end }

same_commit : (m : Mark) (d : Dir) (kept : Kept) → IsKeptOf m d kept → commit_in kept ≡ commit m.number kept.views d.notes (dir_span m) m.end
unfolding commit
same_commit m d kept is =
    ap (λ n. commit n kept.views (map note_of kept.notes) kept.dir kept.end) is.number
    ∙ ap (λ ns. commit m.number kept.views ns kept.dir kept.end) is.notes
    ∙ ap (λ s. commit m.number kept.views d.notes s kept.end) is.dir
    ∙ ap (λ e. commit m.number kept.views d.notes (dir_span m) e) is.end

module _ (m : Mark) (d : Dir) (kept : Kept) (mark : IsMark m) (has : IsDirOf m d) (is : IsKeptOf m d kept) (made : AreViewsFound HasLength d.views kept.views) where
  entries : AreEntriesOfViews m.end d.views
  entries = record { few = has.good.few; distinct = has.good.distinct; each = has.good.each }

  kept_whole : IsCommit (commit_in kept)
  unfolding commit
  kept_whole = subst IsCommit (sym (same_commit m d kept is))
      (commit_whole m d kept.views mark has (whole_views m.end d.views kept.views entries is.formed) (views_shaped d.views kept.views is.formed) is.formed made)

  kept_stands : (image : List ℕ) → HasDir image m d → AreViewsFound (StandsAt image) d.views kept.views → Stands image m (commit_in kept)
  unfolding commit
  kept_stands image dir found = subst (Stands image m) (sym (same_commit m d kept is))
      (commit_stands m d kept.views mark has (whole_views m.end d.views kept.views entries is.formed) (views_shaped d.views kept.views is.formed) is.formed made image dir.fits.within dir.spells found)

pub all_whole : (m : Mark) (d : Dir) (r : Result Kept OpenError) → IsMark m → IsDirOf m d → IfOk r (IsKeptOf m d) → IfOk r (λ kept. AreViewsFound HasLength d.views kept.views) → IfOk r (λ kept. IsCommit (commit_in kept))
all_whole m d (Ok kept) mark has is made = kept_whole m d kept mark has is made
all_whole m d (Err error) mark has is made = tt

pub all_kept : (image : List ℕ) (m : Mark) (d : Dir) (r : Result Kept OpenError) → IsMark m → IsDirOf m d → HasDir image m d → IfOk r (IsKeptOf m d) → IfOk r (λ kept. AreViewsFound HasLength d.views kept.views)
    → IfOk r (λ kept. AreViewsFound (StandsAt image) d.views kept.views) → IfOk r (λ kept. Stands image m (commit_in kept))
all_kept image m d (Ok kept) mark has dir is made found = kept_stands m d kept mark has is made image dir found
all_kept image m d (Err error) mark has dir is made found = tt

-- why a file has no marks
pub by_marks : (image : List ℕ) (error : MarkError) → IsMarkRefusal image error → NamesCause image (cause_of_marks error)
by_marks image mark_error.NotAStore h = h
by_marks image mark_error.NoOpenMark h = inr (inl (h, refl))
by_marks image (mark_error.BadMark place) h = inl h
by_marks image mark_error.Failed h = tt
