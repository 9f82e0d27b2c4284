-- The commit that follows is whole, and it is sound to write its blocks after the one before.
use Rattle.std.proofs.Common.{◌≡◌, ◌≢◌, ℕ, ◌+◌, ◌<◌, ◌≤◌, ◌^◌, ◌⊎◌, inl, inr, ⊎_elim, min, List, [], ◌∷◌, ◌++◌, length, map, Bool, true, cond, All, refl, ap, sym, subst, ◌∙◌, arith, true≢false}
use Rattle.std.specs.Prelude.{Contains}
use Rattle.std.specs.List.{filter, flat_map}
use Rattle.std.proofs.lemmas.List.{length-append, length-map, map-append}
use Rattle.std.proofs.lemmas.List.Elements.{All-head, All-tail, All-cons, All-nil, All-append, All-contains, All-weaker, All-map, Contains-append_left, Contains-append_right, Contains-append_cases, filter-append}
use Rattle.mk_value.specs.declared.span.Span.{Span}
use Rattle.free_space.specs.Extents.{AreApart, IsAligned, Meets, extent_end, extent_len}
use Rattle.free_space.specs.FreeSpace.{IsFree, end_of}
use Rattle.free_space.specs.Sites.{ArePlaced, IsSite, no_span}
use Rattle.free_space.proofs.EndLemmas.{end_of-le, extents-le-end_of, floor-le-end_of}
use Rattle.free_space.proofs.Placing.{IsApartFrom, IsPut, end_aligned, extent_of_none, placed_apart, placed_begins, placed_free, BeginBelow}
use Rattle.commit_writes.specs.Blocks.{Block, IsBlockWithin, IsSited, no_block, spans_of}
use Rattle.commit_writes.specs.Plans.{IsSoundAfter}
use Rattle.dir_codec.specs.Dir.{AreNotes, Dir, spelled}
use Rattle.tables.specs.Homes.{no_home, numbers, strings, tables, Home, PlainColumn}
use Rattle.tables.specs.Shapes.{HasHomes}
use Rattle.tables.specs.Rests.{Rest, blocks}
use Rattle.tables.specs.Blocks.{has_home, is_homed, plain_columns}
use Rattle.tables.proofs.Apart.{Clear, apart_clear, apart_join, apart_left, blocks_within, in_cons, none_in}
use Rattle.tables.proofs.PlainColumns.{homed_columns-plain}
use Rattle.view_store.specs.Views.{NamedTable}
use Rattle.view_store.specs.Rests.{homed_views}
use Rattle.recovery.specs.Commits.{Commit, IsCommit, IsHomed, blocks_at, column_blocks, commit_blocks, dir_block, directory, footprint_of, plain_views, version_of}
use Rattle.recovery.proofs.Footprints.{footprint_whole}
use Rattle.commit_plan.specs.Following.{FollowsAt, MayFollow, blocks_due, commit_spans, is_some, last_end, noted, settled_at, writes_at}
use Rattle.recovery.proofs.PlainParts.{IsPlainPart, blocks_at-append, columns_spans, spans_of-blocks_at, views_parts}
use Rattle.commit_plan.proofs.SettledColumns.{AreSettled, homed, new_blocks, old_blocks, settle_all}
use Rattle.commit_plan.proofs.SameRows.{out_of_map, same_rows_whole}
use Rattle.commit_plan.proofs.Noted.{noted_are}
use Rattle.commit_plan.proofs.PutBlocks.{IsNoneOrSome, no_extent, begin_some, kept_some, placed_long, placed_sited, some_apart, writes_end, written_or_none}

-- the homed columns of views are those of their plain columns
homed_views-plain : (views : List NamedTable) → All (λ v. HasHomes v.table) views → homed_views views ≡ homed (plain_views views)
homed_views-plain [] h = refl
homed_views-plain (v ∷ views) h =
    ap (λ cs. cs ++ homed_views views) (homed_columns-plain v.table (All-head (λ v. HasHomes v.table) v views h))
    ∙ ap (λ cs. homed (plain_columns v.table) ++ cs) (homed_views-plain views (All-tail (λ v. HasHomes v.table) v views h))
    ∙ sym (filter-append is_homed (plain_columns v.table) (plain_views views))

has_one : (h : Home) → h ≢ no_home → has_home h ≡ true
has_one no_home e = absurd (e refl)
has_one (numbers block) e = refl
has_one (strings sizes short memos) e = refl
has_one (tables rows) e = refl

is_one : (c : PlainColumn) → is_homed c ≡ true → IsHomed c
is_one c e same = true≢false (sym e ∙ ap has_home same)

all_homed : (columns : List PlainColumn) → All IsHomed columns → homed columns ≡ columns
all_homed [] h = refl
all_homed (c ∷ columns) h =
    ap (λ (b : Bool). cond b (c ∷ homed columns) (homed columns)) (has_one c.home (All-head IsHomed c columns h))
    ∙ ap (λ cs. c ∷ cs) (all_homed columns (All-tail IsHomed c columns h))

part_within : {X Y : Type 0} (f : X → List Y) (xs : List X) (x : X) (y : Y) → Contains xs x → Contains (f x) y → Contains (flat_map f xs) y
part_within f [] x y there in_part = absurd (none_in x there)
part_within f (z ∷ xs) x y there in_part =
    ⊎_elim
    (λ (same : z ≡ x). Contains-append_left (f z) (flat_map f xs) y (subst (λ w. Contains (f w) y) (sym same) in_part))
    (λ (later : Contains xs x). Contains-append_right (f z) (flat_map f xs) y (part_within f xs x y later in_part))
    (in_cons z xs x there)

parts_within : {X Y : Type 0} (f : X → List Y) (xs ys : List X) (y : Y) → All (Contains ys) xs → Contains (flat_map f xs) y → Contains (flat_map f ys) y
parts_within f [] ys y h there = absurd (none_in y there)
parts_within f (x ∷ xs) ys y h there =
    ⊎_elim
    (λ (here : Contains (f x) y). part_within f ys x y (All-head (Contains ys) x xs h) here)
    (λ (later : Contains (flat_map f xs) y). parts_within f xs ys y (All-tail (Contains ys) x xs h) later)
    (Contains-append_cases (f x) (flat_map f xs) y there)

-- what was placed meets nothing in use
put_clear : (floor : ℕ) (used : List Span) (a b : Span) → Contains used a → IsPut floor used b → ¬ Meets a b
put_clear floor used a b there put meets =
    ⊎_elim
    (λ (none : b ≡ no_span). let m = subst (λ (s : Span). (s.place ≤ meets.0) × (meets.0 < s.place + extent_len s.len)) none meets.2 in let p = m.1 in let z : extent_len 0 ≡ 0 = extent_of_none in absurd (omega (arith, p, z)))
    (λ (apart : IsApartFrom floor used b). All-contains (λ o. ¬ Meets o b) used a apart.free there meets)
    put

end_uncapped : (end cap most : ℕ) → end ≡ min cap most → end < cap → end ≡ most
end_uncapped end cap most e p = omega (arith, e, p)

raised : (low high : ℕ) (b : Block) → low ≤ high → IsSited low b → IsSited high b
raised low high b p =
    ⊎_elim (λ none. inl none)
    (λ (site : IsBlockWithin low b). inr (record {
      site = record { aligned = site.site.aligned; behind = site.site.behind; some = site.site.some; within = let w = site.site.within in omega (arith, w, p) };
      len = site.len;
    }))

none_extent : (b : Block) → b ≡ no_block → extent_end b.span ≡ 0
none_extent b none = ap (λ (x : Block). extent_end x.span) none ∙ no_extent

site_end : (end : ℕ) (b : Block) → IsSited end b → extent_end b.span ≤ end
site_end end b = ⊎_elim (λ (none : b ≡ no_block). let z = none_extent b none in omega (arith, z)) (λ (site : IsBlockWithin end b). site.site.within)

site_aligned : (end : ℕ) (b : Block) → IsSited end b → IsAligned b.span.place
site_aligned end b = ⊎_elim (λ (none : b ≡ no_block). subst (λ (x : Block). IsAligned x.span.place) (sym none) refl) (λ (site : IsBlockWithin end b). site.site.aligned)

-- what a whole commit uses stands at multiples of 16
pub spans_aligned : (kept : Commit) → IsCommit kept → All (λ s. IsAligned s.place) (commit_spans kept)
spans_aligned kept whole = All-map (λ s. IsAligned s.place) (λ b. b.span) (commit_blocks kept) (All-weaker (IsSited kept.end) (λ b. IsAligned b.span.place) (λ b h. site_aligned kept.end b h) (commit_blocks kept) whole.sited)

put_aligned : (floor : ℕ) (used : List Span) (s : Span) → IsPut floor used s → IsAligned s.place
put_aligned floor used s = ⊎_elim (λ (none : s ≡ no_span). subst (λ (x : Span). IsAligned x.place) (sym none) refl) (λ (apart : IsApartFrom floor used s). apart.aligned)

put_sure : (floor : ℕ) (used : List Span) (s : Span) → IsPut floor used s → IsNoneOrSome s
put_sure floor used s = ⊎_elim (λ none. inl none) (λ (apart : IsApartFrom floor used s). inr apart.some)

some_bytes : (d : Dir) → 0 < length (spelled d)
some_bytes d = omega arith

one_apart : (s : Span) → AreApart (s ∷ [])
one_apart s = λ i j d p q. absurd (omega (arith, p, q))

module _ (floor : ℕ) (kept : Commit) (views : List NamedTable) (note : List ℕ) (spans : List Span) (next : Commit)
    (whole : IsCommit kept) (may : MayFollow floor kept views note) (f : FollowsAt floor kept views note spans next)
    (end_few : next.end < last_end) (number_few : next.number < 2 ^ 63) where
  abbrev columns : List PlainColumn
  columns = plain_views views

  abbrev used : List Span
  used = commit_spans kept

  abbrev bytes : List (List ℕ)
  bytes = blocks_due columns ++ spelled (directory next.views next.notes) ∷ []

  abbrev all : List Span
  all = spans ++ next.dir ∷ []

  plain : All IsPlainPart columns
  plain = views_parts views may.views_are.whole may.shaped

  lens_are : map length (blocks_due columns) ++ next.dir.len ∷ [] ≡ map length bytes
  lens_are = ap (λ n. map length (blocks_due columns) ++ n ∷ []) f.dir ∙ sym (map-append length (blocks_due columns) (spelled (directory next.views next.notes) ∷ []))

  placed : ArePlaced floor used (map length bytes) all
  placed = subst (λ lens. ArePlaced floor used lens all) lens_are f.placed

  all_long : length all ≡ length bytes
  all_long = placed_long floor used (map length bytes) all placed ∙ length-map bytes length

  long : length spans ≡ length (blocks_due columns)
  long =
      let one = length-append spans (next.dir ∷ []) in
      let two = length-append (blocks_due columns) (spelled (directory next.views next.notes) ∷ []) in
      let e = all_long in
      omega (arith, one, two, e)

  are : AreSettled columns spans
  are = settle_all columns spans plain long

  put : All (IsPut floor used) all
  put = placed_free floor used (map length bytes) all placed

  all_apart : AreApart all
  all_apart = placed_apart floor used (map length bytes) all placed

  end_is : next.end ≡ end_of kept.end all
  end_is = end_uncapped next.end last_end (end_of kept.end all) f.end end_few

  ends : All (λ s. extent_end s ≤ next.end) all
  ends = subst (λ e. All (λ s. extent_end s ≤ e) all) (sym end_is) (extents-le-end_of kept.end all)

  kept_end : kept.end ≤ next.end
  kept_end = subst (λ e. kept.end ≤ e) (sym end_is) (floor-le-end_of kept.end all)

  put_blocks : List Block
  put_blocks = blocks_at all bytes

  put_sited : All (IsSited next.end) (blocks_at all bytes)
  put_sited = placed_sited floor used bytes all next.end may.from placed ends

  put_split : blocks_at all bytes ≡ new_blocks columns spans ++ dir_block next ∷ []
  put_split = blocks_at-append spans (next.dir ∷ []) (blocks_due columns) (spelled (directory next.views next.notes) ∷ []) long

  kept_plain : All IsPlainPart (plain_views kept.views)
  kept_plain = views_parts kept.views whole.views.whole whole.shaped

  rests : Rest (homed columns) (plain_views kept.views)
  rests =
      subst (λ cs. Rest cs (plain_views kept.views)) (homed_views-plain views may.shaped)
      (subst (λ cs. Rest (homed_views views) cs) (homed_views-plain kept.views whole.shaped ∙ all_homed (plain_views kept.views) whole.homed) may.rests)

  kept_spans : used ≡ blocks (plain_views kept.views) ++ kept.dir ∷ []
  kept_spans =
      map-append (λ b. b.span) (flat_map column_blocks (plain_views kept.views)) (dir_block kept ∷ [])
      ∙ ap (λ ss. ss ++ kept.dir ∷ []) (columns_spans (plain_views kept.views) kept_plain)

  old_apart : AreApart (blocks (homed columns))
  old_apart = rests.apart (apart_left (blocks (plain_views kept.views)) (kept.dir ∷ []) (subst AreApart kept_spans whole.apart))

  old_used : (a : Span) → Contains (blocks (homed columns)) a → Contains used a
  old_used a h =
      subst (λ ss. Contains ss a) (sym kept_spans)
      (Contains-append_left (blocks (plain_views kept.views)) (kept.dir ∷ []) a (blocks_within (homed columns) (plain_views kept.views) a rests.kept h))

  clear : Clear (blocks (homed columns)) all
  clear a b in_a in_b = put_clear floor used a b (old_used a in_a) (All-contains (IsPut floor used) all b put in_b)

  columns_apart : AreApart (blocks (settled_at columns spans))
  columns_apart = are.apart old_apart (apart_left spans (next.dir ∷ []) all_apart) (λ a b in_a in_b. clear a b in_a (Contains-append_left spans (next.dir ∷ []) b in_b))

  with_dir_apart : AreApart (blocks (settled_at columns spans) ++ next.dir ∷ [])
  with_dir_apart =
      apart_join (blocks (settled_at columns spans)) (next.dir ∷ []) columns_apart (one_apart next.dir)
      (λ a b in_a in_b. ⊎_elim
      (λ (old : Contains (blocks (homed columns)) a). clear a b old (Contains-append_right spans (next.dir ∷ []) b in_b))
      (λ (new : Contains spans a). apart_clear spans (next.dir ∷ []) all_apart a b new in_b)
      (All-contains (λ s. Contains (blocks (homed columns)) s ⊎ Contains spans s) (blocks (settled_at columns spans)) a are.spans_among in_a))

  next_spans : commit_spans next ≡ blocks (settled_at columns spans) ++ next.dir ∷ []
  next_spans =
      map-append (λ b. b.span) (flat_map column_blocks (plain_views next.views)) (dir_block next ∷ [])
      ∙ ap (λ ss. ss ++ next.dir ∷ []) (columns_spans (plain_views next.views) (views_parts next.views (same_rows_whole next.views views f.same_rows may.views_are).whole f.shaped) ∙ ap blocks f.settled_columns)

  old_in : (b : Block) → Contains (old_blocks columns) b → Contains (commit_blocks kept) b
  old_in b h =
      Contains-append_left (flat_map column_blocks (plain_views kept.views)) (dir_block kept ∷ []) b
      (parts_within column_blocks (homed columns) (plain_views kept.views) b rests.kept h)

  -- each block of the next commit is one of the old, or was placed
  abbrev IsMade : Block → Type 0
  IsMade b = Contains (commit_blocks kept) b ⊎ Contains (blocks_at all bytes) b

  made : All IsMade (commit_blocks next)
  made =
      All-append IsMade (flat_map column_blocks (plain_views next.views)) (dir_block next ∷ [])
      (subst (λ cs. All IsMade (flat_map column_blocks cs)) (sym f.settled_columns)
      (All-weaker (λ b. Contains (old_blocks columns) b ⊎ Contains (new_blocks columns spans) b) IsMade
      (λ b h. ⊎_elim (λ o. inl (old_in b o)) (λ n. inr (subst (λ bs. Contains bs b) (sym put_split) (Contains-append_left (new_blocks columns spans) (dir_block next ∷ []) b n))) h)
      (flat_map column_blocks (settled_at columns spans)) are.among))
      (All-cons IsMade (dir_block next) []
      (inr (subst (λ bs. Contains bs (dir_block next)) (sym put_split) (Contains-append_right (new_blocks columns spans) (dir_block next ∷ []) (dir_block next) (0, omega arith, refl))))
      (All-nil IsMade))

  sited : All (IsSited next.end) (commit_blocks next)
  sited =
      All-weaker IsMade (IsSited next.end)
      (λ b h. ⊎_elim
      (λ (old : Contains (commit_blocks kept) b). raised kept.end next.end b kept_end (All-contains (IsSited kept.end) (commit_blocks kept) b whole.sited old))
      (λ (new : Contains (blocks_at all bytes) b). All-contains (IsSited next.end) (blocks_at all bytes) b put_sited new) h)
      (commit_blocks next) made

  dir_site : IsSite next.end next.dir
  dir_site =
      let d = directory next.views next.notes in
      let l = f.dir in
      let p = some_bytes d in
      ⊎_elim
      (λ (none : next.dir ≡ no_span). let z = ap (λ (s : Span). s.len) none in absurd (omega (arith, l, p, z)))
      (λ (apart : IsApartFrom floor used next.dir). record {
        aligned = apart.aligned;
        behind = let a = may.from in let b = apart.behind in omega (arith, a, b);
        some = apart.some;
        within = All-contains (λ s. extent_end s ≤ next.end) all next.dir ends (Contains-append_right spans (next.dir ∷ []) next.dir (0, omega arith, refl));
      })
      (All-contains (IsPut floor used) all next.dir put (Contains-append_right spans (next.dir ∷ []) next.dir (0, omega arith, refl)))

  end_is_aligned : IsAligned next.end
  end_is_aligned = subst IsAligned (sym end_is) (end_aligned kept.end all whole.fits.aligned (All-weaker (IsPut floor used) (λ s. IsAligned s.place) (λ s h. put_aligned floor used s h) all put))

  pub next_whole : IsCommit next
  next_whole = record {
    number = number_few;
    views = same_rows_whole next.views views f.same_rows may.views_are;
    shaped = f.shaped;
    homed = subst (All IsHomed) (sym f.settled_columns) (All-weaker (λ c. is_homed c ≡ true) IsHomed (λ c e. is_one c e) (settled_at columns spans) are.homes);
    notes =
        subst (λ notes. AreNotes (version_of notes) next.number notes) (sym f.notes)
        (subst (λ n. AreNotes (version_of (noted kept.notes n note)) n (noted kept.notes n note)) (sym f.number) (noted_are kept.notes kept.number note whole.notes may.note_is));
    fits = record { aligned = end_is_aligned; behind = (let a = whole.fits.behind in let b = kept_end in omega (arith, a, b)); within = omega arith; dir = dir_site };
    end_fits = omega (arith, end_few);
    sited = sited;
    apart = subst AreApart (sym next_spans) with_dir_apart;
  }

  -- what is written
  abbrev writes : List Block
  writes = filter is_some (blocks_at all bytes)

  put_spans : spans_of (blocks_at all bytes) ≡ all
  put_spans = spans_of-blocks_at all bytes all_long

  blocks_put : All (λ b. IsPut floor used b.span) (blocks_at all bytes)
  blocks_put = out_of_map (IsPut floor used) (λ b. b.span) (blocks_at all bytes) (subst (All (IsPut floor used)) (sym put_spans) put)

  within : (b : Block) → 0 < b.span.len → IsSited next.end b → IsBlockWithin next.end b
  within b some = ⊎_elim (λ (none : b ≡ no_block). let z = ap (λ (x : Block). x.span.len) none in absurd (omega (arith, some, z))) (λ site. site)

  free : (b : Block) → 0 < b.span.len → IsPut floor used b.span → IsFree used b.span
  free b some = ⊎_elim (λ (none : b.span ≡ no_span). let z = ap (λ (s : Span). s.len) none in absurd (omega (arith, some, z))) (λ (apart : IsApartFrom floor used b.span). apart.free)

  used_end : end_of floor used ≤ kept.end
  used_end =
      end_of-le floor used kept.end may.within
      (All-map (λ s. extent_end s ≤ kept.end) (λ b. b.span) (commit_blocks kept) (All-weaker (IsSited kept.end) (λ b. extent_end b.span ≤ kept.end) (λ b h. site_end kept.end b h) (commit_blocks kept) whole.sited))

  pub next_sound : IsSoundAfter (footprint_of kept) (writes_at views spans next) (footprint_of next)
  next_sound = record {
    sited = kept_some (IsBlockWithin next.end) (blocks_at all bytes) (All-weaker (IsSited next.end) (λ b. 0 < b.span.len → IsBlockWithin next.end b) (λ b h some. within b some h) (blocks_at all bytes) put_sited);
    free = kept_some (λ b. IsFree used b.span) (blocks_at all bytes) (All-weaker (λ b. IsPut floor used b.span) (λ b. 0 < b.span.len → IsFree used b.span) (λ b h some. free b some h) (blocks_at all bytes) blocks_put);
    apart = some_apart (blocks_at all bytes) (subst AreApart (sym put_spans) all_apart);
    begins = begin_some floor used (blocks_at all bytes) kept.end used_end
        (subst (All IsNoneOrSome) (sym put_spans) (All-weaker (IsPut floor used) IsNoneOrSome (λ s h. put_sure floor used s h) all put))
        (subst (BeginBelow floor used) (sym put_spans) (placed_begins floor used (map length bytes) all may.aligned (spans_aligned kept whole) placed));
    number = f.number;
    end = end_is ∙ sym (writes_end floor kept.end used (blocks_at all bytes) (subst (All (IsPut floor used)) (sym put_spans) put) ∙ ap (λ ss. end_of kept.end ss) put_spans);
    whole = footprint_whole next next_whole;
    made = All-weaker IsMade (λ b. (b ≡ no_block) ⊎ (Contains (commit_blocks kept) b ⊎ Contains (writes_at views spans next) b))
        (λ b h. ⊎_elim
        (λ (old : Contains (commit_blocks kept) b). inr (inl old))
        (λ (new : Contains (blocks_at all bytes) b). ⊎_elim (λ none. inl none) (λ w. inr (inr w)) (written_or_none next.end (blocks_at all bytes) b put_sited new)) h)
        (commit_blocks next) made;
  }
