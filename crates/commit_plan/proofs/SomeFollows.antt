-- A commit follows, whatever is to be kept: there is room for its blocks behind all others, however far behind.
use Rattle.std.proofs.Common.{◌≡◌, ℕ, zero, suc, ◌+◌, min, List, [], ◌∷◌, ◌++◌, length, map, refl, ap, sym, subst, arith}
use Rattle.std.proofs.lemmas.List.{length-map}
use Rattle.mk_value.specs.declared.span.Span.{Span}
use Rattle.free_space.specs.FreeSpace.{end_of}
use Rattle.free_space.specs.Sites.{ArePlaced, IsPlaced}
use Rattle.dir_codec.specs.Dir.{NoteEntry, spelled}
use Rattle.view_store.specs.Views.{NamedTable}
use Rattle.recovery.specs.Commits.{Commit, IsCommit, directory, plain_views}
use Rattle.commit_plan.specs.Following.{FollowsAt, MayFollow, blocks_due, commit_spans, last_end, noted}
use Rattle.commit_plan.specs.Placing.{stacked}
use Rattle.commit_plan.proofs.Followed.{spans_aligned}
use Rattle.commit_plan.proofs.LeastPlaces.{one_place_found, places_found}
use Rattle.commit_plan.proofs.Placed.{placed_count, placed_more}
use Rattle.commit_plan.proofs.SettledHomes.{views_settled_at}

placed_len : (floor : ℕ) (used : List Span) (len : ℕ) (span : Span) → IsPlaced floor used len span → span.len ≡ len
placed_len floor used zero span placed = ap (λ (s : Span). s.len) placed
placed_len floor used (suc n) span placed = placed.0

pub some_follows : (floor : ℕ) (kept : Commit) (views : List NamedTable) (note : List ℕ) → IsCommit kept → MayFollow floor kept views note → (spans : List Span) × (next : Commit) × FollowsAt floor kept views note spans next
some_follows floor kept views note whole may =
    let used = commit_spans kept in
    let lens = map length (blocks_due (plain_views views)) in
    let placed = places_found floor used lens may.aligned (spans_aligned kept whole) in
    let count = placed_count floor used lens placed.spans placed.placed in
    let long = length-map (blocks_due (plain_views views)) length in
    let settled = views_settled_at views placed.spans may.shaped (omega (arith, count, long)) in
    let notes : List NoteEntry = noted kept.notes (kept.number + 1) note in
    let bytes : List ℕ = spelled (directory settled.made notes) in
    let last = one_place_found floor (stacked placed.spans used) (length bytes) may.aligned placed.aligned in
    let dir_long : last.span.len ≡ length bytes = placed_len floor (stacked placed.spans used) (length bytes) last.span last.placed in
    let next : Commit = record {
      number = kept.number + 1;
      views = settled.made;
      notes = notes;
      dir = last.span;
      end = min last_end (end_of kept.end (placed.spans ++ last.span ∷ []));
    } in (
      placed.spans,
      next,
      record {
        number = refl;
        same_rows = settled.are.same_rows;
        shaped = settled.are.shaped;
        settled_columns = settled.are.plain;
        notes = refl;
        placed = subst (λ n. ArePlaced floor used (lens ++ n ∷ []) (placed.spans ++ last.span ∷ [])) (sym dir_long) (placed_more floor used lens placed.spans (length bytes) last.span placed.placed last.placed);
        dir = dir_long;
        end = refl;
      },
    )
