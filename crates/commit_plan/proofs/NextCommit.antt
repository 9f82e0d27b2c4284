-- The commit that a plan is of follows, and each that follows is that one.
use Rattle.std.proofs.Common.{◌≡◌, ℕ, zero, suc, ◌+◌, ◌%◌, ◌^◌, ◌<◌, ◌≤◌, min, List, [], ◌∷◌, ◌++◌, length, map, All, refl, ap, sym, subst, ◌∙◌, arith, ◌≢◌, Result, Ok, Err, IfOk}
use Rattle.std.specs.Prelude.{Contains}
use Rattle.std.proofs.lemmas.List.{length-map}
use Rattle.std.proofs.lemmas.List.Elements.{All-append, All-cons, All-contains, All-nil, Contains-append_right}
use Rattle.mk_value.specs.declared.span.Span.{Span}
use Rattle.free_space.specs.Extents.{extent_end}
use Rattle.free_space.specs.FreeSpace.{FreeSpace, end_of}
use Rattle.free_space.specs.Sites.{ArePlaced, IsPlaced}
use Rattle.free_space.proofs.EndLemmas.{end_of-le, extents-le-end_of}
use Rattle.free_space.proofs.Placing.{placed_unique}
use Rattle.dir_codec.specs.Dir.{NoteEntry, spelled}
use Rattle.tables.proofs.Gathering.{map-map}
use Rattle.view_store.specs.Views.{NamedTable}
use Rattle.recovery.specs.Commits.{Commit, IsCommit, directory, footprint_of, plain_views}
use Rattle.commit_writes.specs.Plans.{IsSoundAfter}
use Rattle.commit_plan.specs.Following.{FollowsAt, MayFollow, blocks_due, commit_spans, last_end, noted, settled_at, writes_at}
use Rattle.commit_plan.specs.declared.payload.Payload.{Payload}
use Rattle.commit_plan.specs.Payloads.{payload_bytes}
use Rattle.commit_plan.specs.Placing.{ArePut, IsPut, LeaveSame, OnePasses, Passes, stacked}
use Rattle.commit_plan.specs.Plans.{AreContents, AreDrafted, EndsAt, IsPlanOf, Planned, blocks_written, last_number}
use Rattle.commit_plan.proofs.Followed.{next_sound, next_whole}
use Rattle.commit_plan.proofs.Placed.{all_placed_beside, leave_joins, leave_stacked, placed_beside, placed_count, placed_more}
use Rattle.commit_plan.proofs.SameViews.{heads, same_views}

-- the first blocks, and the last
split_last : (floor : ℕ) (used : List Span) (lens : List ℕ) (len : ℕ) (spans : List Span) (s : Span) → ArePlaced floor used (lens ++ len ∷ []) (spans ++ s ∷ []) → ArePlaced floor used lens spans × IsPlaced floor (stacked spans used) len s
split_last floor used [] len [] s h = (tt, h.0)
split_last floor used [] len (o ∷ []) s h = absurd h.1
split_last floor used [] len (o ∷ p ∷ spans) s h = absurd h.1
split_last floor used (n ∷ []) len [] s h = absurd h.1
split_last floor used (n ∷ m ∷ lens) len [] s h = absurd h.1
split_last floor used (n ∷ lens) len (o ∷ spans) s h = let rest = split_last floor (o ∷ used) lens len spans s h.1 in ((h.0, rest.0), rest.1)

one_place : (floor : ℕ) (used : List Span) (len : ℕ) (s o : Span) → IsPlaced floor used len s → IsPlaced floor used len o → s ≡ o
one_place floor used len s o p q = heads s o [] [] (placed_unique floor used (len ∷ []) (s ∷ []) (o ∷ []) (p, tt) (q, tt))

turn : (a b : List Span) → LeaveSame a b → LeaveSame b a
turn a b same = record { there = same.back; back = same.there }

-- what any commit that follows has, beside blocks that are drafted and contents that were made
pub record IsSameCommit (spans : List Span) (settled : List NamedTable) (notes : List NoteEntry) (bytes : List ℕ) (used : List Span) (floor : ℕ) (others : List Span) (next : Commit) : Type 0 where
  pub spans_are : others ≡ spans
  pub dir_len : next.dir.len ≡ length bytes
  pub dir_placed : IsPlaced floor (stacked spans used) (length bytes) next.dir

pub same_commit : (floor : ℕ) (kept : Commit) (views : List NamedTable) (note : List ℕ) (drafted : List (List ℕ)) (spans : List Span) (free : FreeSpace) (settled : List NamedTable) (notes : List NoteEntry) (bytes : List ℕ) (others : List Span) (next : Commit)
    → free.floor ≡ floor → AreDrafted kept views drafted spans free → AreContents kept views note spans settled notes bytes → FollowsAt floor kept views note others next
    → IsSameCommit spans settled notes bytes (commit_spans kept) floor others next
same_commit floor kept views note drafted spans free settled notes bytes others next at d c f =
    let parts = split_last floor (commit_spans kept) (map length (blocks_due (plain_views views))) next.dir.len others next.dir f.placed in
    let own : ArePlaced floor (commit_spans kept) (map length (blocks_due (plain_views views))) spans =
    subst (λ n. ArePlaced n (commit_spans kept) (map length (blocks_due (plain_views views))) spans) at (subst (λ bs. ArePlaced free.floor (commit_spans kept) (map length bs) spans) d.bytes_are d.placed) in
    let spans_are : others ≡ spans = placed_unique floor (commit_spans kept) (map length (blocks_due (plain_views views))) others spans parts.0 own in
    let views_are : next.views ≡ settled =
    same_views next.views settled (f.same_rows ∙ sym c.settled_are.same_rows) f.shaped c.settled_are.shaped
    (f.settled_columns ∙ ap (λ ss. settled_at (plain_views views) ss) spans_are ∙ sym c.settled_are.plain) in
    let notes_are : next.notes ≡ notes = f.notes ∙ ap (λ n. noted kept.notes n note) f.number ∙ sym c.notes_are in
    let len : next.dir.len ≡ length bytes =
    f.dir ∙ ap (λ vs. length (spelled (directory vs next.notes))) views_are ∙ ap (λ ns. length (spelled (directory settled ns))) notes_are ∙ ap length (sym c.spells) in
    record {
      spans_are = spans_are;
      dir_len = len;
      dir_placed = subst (λ n. IsPlaced floor (stacked spans (commit_spans kept)) n next.dir) len
          (subst (λ ss. IsPlaced floor (stacked ss (commit_spans kept)) next.dir.len next.dir) spans_are parts.1);
    }

-- where a block passes the last end, the commit ends there
passes_end : (end : ℕ) (all : List Span) (s : Span) (next : ℕ) → next ≡ min last_end (end_of end all) → Contains all s → last_end < extent_end s → next ≡ last_end
passes_end end all s next is there passes =
    let below : extent_end s ≤ end_of end all = All-contains (λ o. extent_end o ≤ end_of end all) all s (extents-le-end_of end all) there in
    omega (arith, is, passes, below)

pub dir_passes : (floor : ℕ) (kept : Commit) (views : List NamedTable) (note : List ℕ) (drafted : List (List ℕ)) (spans : List Span) (free : FreeSpace) (settled : List NamedTable) (notes : List NoteEntry) (bytes : List ℕ)
    → free.floor ≡ floor → AreDrafted kept views drafted spans free → AreContents kept views note spans settled notes bytes → Passes (length bytes) free → EndsAt floor kept views note last_end
dir_passes floor kept views note drafted spans free settled notes bytes at d c passes others next f =
    let same = same_commit floor kept views note drafted spans free settled notes bytes others next at d c f in
    let placed : IsPlaced free.floor free.used (length bytes) next.dir =
    subst (λ n. IsPlaced n free.used (length bytes) next.dir) (sym at) (placed_beside floor (length bytes) next.dir (stacked spans (commit_spans kept)) free.used (turn free.used (stacked spans (commit_spans kept)) d.used) same.dir_placed) in
    passes_end kept.end (others ++ next.dir ∷ []) next.dir next.end f.end (Contains-append_right others (next.dir ∷ []) next.dir (0, omega arith, refl)) (passes next.dir placed)

-- one of the due blocks passes it
pub block_passes : (floor : ℕ) (kept : Commit) (views : List NamedTable) (note : List ℕ) (lens : List ℕ) (free : FreeSpace)
    → free.floor ≡ floor → LeaveSame free.used (commit_spans kept) → lens ≡ map length (blocks_due (plain_views views)) → OnePasses lens free → EndsAt floor kept views note last_end
block_passes floor kept views note lens free at used same passes others next f =
    let placed : ArePlaced free.floor free.used (lens ++ next.dir.len ∷ []) (others ++ next.dir ∷ []) =
    subst (λ ls. ArePlaced free.floor free.used (ls ++ next.dir.len ∷ []) (others ++ next.dir ∷ [])) (sym same)
    (subst (λ n. ArePlaced n free.used (map length (blocks_due (plain_views views)) ++ next.dir.len ∷ []) (others ++ next.dir ∷ [])) (sym at)
    (all_placed_beside floor (map length (blocks_due (plain_views views)) ++ next.dir.len ∷ []) (others ++ next.dir ∷ []) (commit_spans kept) free.used (turn free.used (commit_spans kept) used) f.placed)) in
    let found = passes (next.dir.len ∷ []) (others ++ next.dir ∷ []) placed in
    passes_end kept.end (others ++ next.dir ∷ []) found.0 next.end f.end found.1 found.2

-- The commit that is made.
below_last : (end : ℕ) → end % 16 ≡ 0 → end < 2 ^ 64 → end ≤ last_end
below_last end even few = omega (arith, even, few)

not_capped : (low high : ℕ) → high ≤ low → high ≡ min low high
not_capped low high p = omega (arith, p)

pub fits_last : (kept : Commit) (spans : List Span) (dir : Span) → IsCommit kept → All (λ s. extent_end s ≤ last_end) spans → extent_end dir ≤ last_end → end_of kept.end (spans ++ dir ∷ []) ≤ last_end
fits_last kept spans dir whole fit fits =
    end_of-le kept.end (spans ++ dir ∷ []) last_end (below_last kept.end whole.fits.aligned whole.end_fits)
    (All-append (λ s. extent_end s ≤ last_end) spans (dir ∷ []) fit (All-cons (λ s. extent_end s ≤ last_end) dir [] fits (All-nil (λ s. extent_end s ≤ last_end))))

pub made_follows : (floor : ℕ) (kept : Commit) (views : List NamedTable) (note : List ℕ) (drafted : List (List ℕ)) (spans : List Span) (free after : FreeSpace) (settled : List NamedTable) (notes : List NoteEntry) (bytes : List ℕ) (dir : Span) (end : ℕ) (next : Commit)
    → IsCommit kept → free.floor ≡ floor → AreDrafted kept views drafted spans free → AreContents kept views note spans settled notes bytes → IsPut (length bytes) free after dir → end ≡ end_of kept.end (spans ++ dir ∷ [])
    → next ≡ record { number = kept.number + 1; views = settled; notes = notes; dir = dir; end = end } → FollowsAt floor kept views note spans next
made_follows floor kept views note drafted spans free after settled notes bytes dir end next whole at d c put ends is =
    subst (FollowsAt floor kept views note spans) (sym is) (record {
      number = refl;
      same_rows = c.settled_are.same_rows;
      shaped = c.settled_are.shaped;
      settled_columns = c.settled_are.plain;
      notes = c.notes_are;
      placed = subst (λ n. ArePlaced floor (commit_spans kept) (map length (blocks_due (plain_views views)) ++ n ∷ []) (spans ++ dir ∷ [])) (sym (dir_long (length bytes) put.placed))
          (placed_more floor (commit_spans kept) (map length (blocks_due (plain_views views))) spans (length bytes) dir
          (subst (λ n. ArePlaced n (commit_spans kept) (map length (blocks_due (plain_views views))) spans) at (subst (λ bs. ArePlaced free.floor (commit_spans kept) (map length bs) spans) d.bytes_are d.placed))
          (placed_beside floor (length bytes) dir free.used (stacked spans (commit_spans kept)) d.used (subst (λ n. IsPlaced n free.used (length bytes) dir) at put.placed)));
      dir = dir_long (length bytes) put.placed ∙ ap length c.spells;
      end = ends ∙ not_capped last_end (end_of kept.end (spans ++ dir ∷ [])) (fits_last kept spans dir whole d.fit put.fits);
    })
  where
    dir_long : (n : ℕ) → IsPlaced free.floor free.used n dir → dir.len ≡ n
    dir_long zero p = ap (λ (s : Span). s.len) p
    dir_long (suc n) p = p.0

-- and any that follows ends there
pub made_ends : (floor : ℕ) (kept : Commit) (views : List NamedTable) (note : List ℕ) (drafted : List (List ℕ)) (spans : List Span) (free after : FreeSpace) (settled : List NamedTable) (notes : List NoteEntry) (bytes : List ℕ) (dir : Span) (end : ℕ)
    → IsCommit kept → free.floor ≡ floor → AreDrafted kept views drafted spans free → AreContents kept views note spans settled notes bytes → IsPut (length bytes) free after dir → end ≡ end_of kept.end (spans ++ dir ∷ [])
    → EndsAt floor kept views note end
made_ends floor kept views note drafted spans free after settled notes bytes dir end whole at d c put ends others next f =
    let same = same_commit floor kept views note drafted spans free settled notes bytes others next at d c f in
    let own : IsPlaced floor (stacked spans (commit_spans kept)) (length bytes) dir =
    placed_beside floor (length bytes) dir free.used (stacked spans (commit_spans kept)) d.used (subst (λ n. IsPlaced n free.used (length bytes) dir) at put.placed) in
    let one : next.dir ≡ dir = one_place floor (stacked spans (commit_spans kept)) (length bytes) next.dir dir same.dir_placed own in
    f.end ∙ ap (λ ss. min last_end (end_of kept.end (ss ++ next.dir ∷ []))) same.spans_are ∙ ap (λ s. min last_end (end_of kept.end (spans ++ s ∷ []))) one
    ∙ sym (ends ∙ not_capped last_end (end_of kept.end (spans ++ dir ∷ [])) (fits_last kept spans dir whole d.fit put.fits))

-- the blocks that it writes
pub made_writes : (views : List NamedTable) (spans all : List Span) (drafted payloads : List (List ℕ)) (bytes : List ℕ) (dir : Span) (next : Commit) (settled : List NamedTable) (notes : List NoteEntry)
    → drafted ≡ blocks_due (plain_views views) → all ≡ spans ++ dir ∷ [] → payloads ≡ drafted ++ bytes ∷ [] → bytes ≡ spelled (directory settled notes) → next.views ≡ settled → next.notes ≡ notes → next.dir ≡ dir
    → blocks_written all payloads ≡ writes_at views spans next
made_writes views spans all drafted payloads bytes dir next settled notes due all_are payloads_are spells views_are notes_are dir_is =
    ap (λ ss. blocks_written ss payloads) (all_are ∙ ap (λ s. spans ++ s ∷ []) (sym dir_is))
    ∙ ap (λ bs. blocks_written (spans ++ next.dir ∷ []) bs) (payloads_are ∙ ap (λ d. d ++ bytes ∷ []) due
    ∙ ap (λ b. blocks_due (plain_views views) ++ b ∷ []) (spells ∙ ap (λ vs. spelled (directory vs notes)) (sym views_are) ∙ ap (λ ns. spelled (directory next.views ns)) (sym notes_are)))

-- What was placed beside what `kept` uses.
lens_are : (payloads slice : List Payload) → slice ≡ payloads → map (λ p. length (payload_bytes p)) slice ≡ map length (map payload_bytes payloads)
lens_are payloads slice same = ap (map (λ p. length (payload_bytes p))) same ∙ sym (map-map payload_bytes length payloads)

pub lens_due : (payloads slice : List Payload) (due : List (List ℕ)) → slice ≡ payloads → map payload_bytes payloads ≡ due → map (λ p. length (payload_bytes p)) slice ≡ map length due
lens_due payloads slice due same is = lens_are payloads slice same ∙ ap (map length) is

pub drafted_are : (kept : Commit) (views : List NamedTable) (payloads slice : List Payload) (free mid after : FreeSpace) (spans : List Span) → slice ≡ payloads → map payload_bytes payloads ≡ blocks_due (plain_views views) → LeaveSame free.used (commit_spans kept)
    → mid.used ≡ free.used → ArePut (map (λ p. length (payload_bytes p)) slice) mid after spans → length payloads + 1 ≤ mid.spare → AreDrafted kept views (map payload_bytes payloads) spans after
drafted_are kept views payloads slice free mid after spans same due used unchanged put enough =
    let beside : LeaveSame mid.used (commit_spans kept) = subst (λ u. LeaveSame u (commit_spans kept)) (sym unchanged) used in
    let placed : ArePlaced mid.floor mid.used (map length (map payload_bytes payloads)) spans = subst (λ ls. ArePlaced mid.floor mid.used ls spans) (lens_are payloads slice same) put.placed in
    let count = placed_count mid.floor mid.used (map length (map payload_bytes payloads)) spans placed in
    let long = length-map (map payload_bytes payloads) length in
    let longer = length-map payloads payload_bytes in
    let spare = put.taken.spare in
    record {
      bytes_are = due;
      placed = subst (λ f. ArePlaced f (commit_spans kept) (map length (map payload_bytes payloads)) spans) (sym put.taken.floor)
          (all_placed_beside mid.floor (map length (map payload_bytes payloads)) spans mid.used (commit_spans kept) beside placed);
      fit = put.fit;
      used = leave_joins after.used (stacked spans mid.used) (stacked spans (commit_spans kept)) put.taken.used (leave_stacked spans mid.used (commit_spans kept) beside);
      spare = omega (arith, count, long, longer, spare, enough);
    }

pub enough_spans : (kept : Commit) (views : List NamedTable) (drafted : List (List ℕ)) (spans slice : List Span) (free : FreeSpace) → AreDrafted kept views drafted spans free → slice ≡ spans → length (blocks_due (plain_views views)) ≤ length slice
enough_spans kept views drafted spans slice free d same =
    let count = placed_count free.floor (commit_spans kept) (map length drafted) spans d.placed in
    let long = length-map drafted length in
    let due = ap length d.bytes_are in
    let all = ap length same in
    omega (arith, count, long, due, all)

-- A plan within its cap is whole and sound.
pub plan_whole : (floor : ℕ) (kept : Commit) (views : List NamedTable) (note : List ℕ) (cap : ℕ) (p : Planned) → IsCommit kept → MayFollow floor kept views note → kept.number ≢ last_number → cap < 2 ^ 63 → IsPlanOf floor kept views note p → p.next.end ≤ cap → IsCommit p.next
plan_whole floor kept views note cap p whole may low few is within =
    let number = is.follows.number in
    let below = whole.number in
    next_whole floor kept views note is.spans p.next whole may is.follows (omega (arith, few, within)) (omega (arith, number, below, low))

pub plan_sound : (floor : ℕ) (kept : Commit) (views : List NamedTable) (note : List ℕ) (cap : ℕ) (p : Planned) → IsCommit kept → MayFollow floor kept views note → kept.number ≢ last_number → cap < 2 ^ 63 → IsPlanOf floor kept views note p → p.next.end ≤ cap
    → IsSoundAfter (footprint_of kept) p.writes (footprint_of p.next)
plan_sound floor kept views note cap p whole may low few is within =
    let number = is.follows.number in
    let below = whole.number in
    subst (λ ws. IsSoundAfter (footprint_of kept) ws (footprint_of p.next)) (sym is.writes)
    (next_sound floor kept views note is.spans p.next whole may is.follows (omega (arith, few, within)) (omega (arith, number, below, low)))

pub both_ok : {T E : Type 0} {P Q R : T → Type 0} (r : Result T E) → IfOk r P → IfOk r Q → ((x : T) → P x → Q x → R x) → IfOk r R
both_ok (Ok x) p q f = f x p q
both_ok (Err e) p q f = tt

-- There is at most one commit that follows.
pub one_follows : (floor : ℕ) (kept : Commit) (views : List NamedTable) (note : List ℕ) (spans others : List Span) (a b : Commit) → FollowsAt floor kept views note spans a → FollowsAt floor kept views note others b → a ≡ b
one_follows floor kept views note spans others a b f g =
    let lens = map length (blocks_due (plain_views views)) in
    let first = split_last floor (commit_spans kept) lens a.dir.len spans a.dir f.placed in
    let second = split_last floor (commit_spans kept) lens b.dir.len others b.dir g.placed in
    let spans_are : spans ≡ others = placed_unique floor (commit_spans kept) lens spans others first.0 second.0 in
    let numbers : a.number ≡ b.number = f.number ∙ sym g.number in
    let kept_views : a.views ≡ b.views =
    same_views a.views b.views (f.same_rows ∙ sym g.same_rows) f.shaped g.shaped (f.settled_columns ∙ ap (λ ss. settled_at (plain_views views) ss) spans_are ∙ sym g.settled_columns) in
    let notes : a.notes ≡ b.notes = f.notes ∙ ap (λ n. noted kept.notes n note) numbers ∙ sym g.notes in
    let len : a.dir.len ≡ b.dir.len = f.dir ∙ ap (λ vs. length (spelled (directory vs a.notes))) kept_views ∙ ap (λ ns. length (spelled (directory b.views ns))) notes ∙ sym g.dir in
    let dirs : a.dir ≡ b.dir = one_place floor (stacked others (commit_spans kept)) b.dir.len a.dir b.dir
    (subst (λ ss. IsPlaced floor (stacked ss (commit_spans kept)) b.dir.len a.dir) spans_are (subst (λ n. IsPlaced floor (stacked spans (commit_spans kept)) n a.dir) len first.1)) second.1 in
    let ends : a.end ≡ b.end = f.end ∙ ap (λ ss. min last_end (end_of kept.end (ss ++ a.dir ∷ []))) spans_are ∙ ap (λ s. min last_end (end_of kept.end (others ++ s ∷ []))) dirs ∙ sym g.end in
    ap (λ x. let c : Commit = record { number = x; views = a.views; notes = a.notes; dir = a.dir; end = a.end } in c) numbers
    ∙ ap (λ x. let c : Commit = record { number = b.number; views = x; notes = a.notes; dir = a.dir; end = a.end } in c) kept_views
    ∙ ap (λ x. let c : Commit = record { number = b.number; views = b.views; notes = x; dir = a.dir; end = a.end } in c) notes
    ∙ ap (λ x. let c : Commit = record { number = b.number; views = b.views; notes = b.notes; dir = x; end = a.end } in c) dirs
    ∙ ap (λ x. let c : Commit = record { number = b.number; views = b.views; notes = b.notes; dir = b.dir; end = x } in c) ends
