-- Under one mark an image stands for one commit.
use Rattle.std.proofs.Common.{◌≡◌, ℕ, ◌<◌, ◌^◌, List, [], ◌∷◌, All, refl, ap, sym, subst, ◌∙◌, arith}
use Rattle.std.specs.List.{flat_map}
use Rattle.std.proofs.lemmas.List.Elements.{All-head, All-tail, All-cons, All-nil, All-contains, Contains-append_right}
use Rattle.mk_value.specs.declared.span.Span.{Span}
use Rattle.host_io.specs.Ranges.{bytes_in}
use Rattle.commit_marks.specs.declared.mark.Mark.{Mark}
use Rattle.commit_writes.specs.Blocks.{StandsAt, span_range}
use Rattle.commit_writes.specs.Footprints.{Holds}
use Rattle.dir_codec.specs.Dir.{Dir, IsDir, NoteEntry, spelled}
use Rattle.dir_codec.proofs.Spelled.{one_dir}
use Rattle.tables.specs.Homes.{PlainColumn}
use Rattle.tables.specs.Shapes.{HasHomes}
use Rattle.tables.specs.Blocks.{plain_columns}
use Rattle.view_store.specs.Views.{IsView, NamedTable}
use Rattle.recovery.specs.Commits.{Commit, IsCommit, IsHomed, column_blocks, commit_blocks, dir_block, directory, footprint_of, mark_of, plain_views, version_of}
use Rattle.recovery.specs.Standing.{Stands}
use Rattle.recovery.proofs.Directories.{dir_of_commit, each_part, split_all}
use Rattle.recovery.proofs.PlainParts.{IsPlainPart, views_parts}
use Rattle.recovery.proofs.SamePlain.{IsThere}
use Rattle.recovery.proofs.SameTables.{IsViewThere, same_views}

-- the plain columns of a commit that stands
all_there : (image : List ℕ) (columns : List PlainColumn) → All IsPlainPart columns → All IsHomed columns → All (λ c. All (StandsAt image) (column_blocks c)) columns → All (IsThere image) columns
all_there image [] h g s = All-nil (IsThere image)
all_there image (c ∷ columns) h g s =
    All-cons (IsThere image) c columns (record { part = All-head IsPlainPart c columns h; homed = All-head IsHomed c columns g; stands = All-head (λ c. All (StandsAt image) (column_blocks c)) c columns s })
    (all_there image columns (All-tail IsPlainPart c columns h) (All-tail IsHomed c columns g) (All-tail (λ c. All (StandsAt image) (column_blocks c)) c columns s))

views_there : (image : List ℕ) (views : List NamedTable) → All IsView views → All (λ v. HasHomes v.table) views → All (IsThere image) (plain_views views) → All (IsViewThere image) views
views_there image [] h g s = All-nil (IsViewThere image)
views_there image (v ∷ views) h g s =
    let parts = split_all (IsThere image) (plain_columns v.table) (plain_views views) s in
    All-cons (IsViewThere image) v views (record { whole = All-head IsView v views h; shaped = All-head (λ v. HasHomes v.table) v views g; there = parts.0 })
    (views_there image views (All-tail IsView v views h) (All-tail (λ v. HasHomes v.table) v views g) parts.1)

commit_there : (image : List ℕ) (c : Commit) → IsCommit c → Holds image (footprint_of c) → All (IsViewThere image) c.views
commit_there image c whole holds =
    let stand = (split_all (StandsAt image) (flat_map column_blocks (plain_views c.views)) (dir_block c ∷ []) holds.blocks).0 in
    views_there image c.views whole.views.whole whole.shaped
    (all_there image (plain_views c.views) (views_parts c.views whole.views.whole whole.shaped) whole.homed (each_part (StandsAt image) column_blocks (plain_views c.views) stand))

dir_stands : (image : List ℕ) (c : Commit) → Holds image (footprint_of c) → bytes_in image (span_range c.dir) ≡ spelled (directory c.views c.notes)
dir_stands image c holds = All-contains (StandsAt image) (commit_blocks c) (dir_block c) holds.blocks (Contains-append_right (flat_map column_blocks (plain_views c.views)) (dir_block c ∷ []) (dir_block c) (0, omega arith, refl))

span : ℕ → ℕ → Span
span place len = record { place = place; len = len }

commit : ℕ → List NamedTable → List NoteEntry → Span → ℕ → Commit
commit number views notes dir end = record { number = number; views = views; notes = notes; dir = dir; end = end }

pub one_commit : (image : List ℕ) (m : Mark) (c d : Commit) → Stands image m c → Stands image m d → c ≡ d
unfolding span commit
one_commit image m c d one other =
    let marks : mark_of c ≡ mark_of d = sym one.mark ∙ other.mark in
    let number : c.number ≡ d.number = ap (λ (x : Mark). x.number) marks in
    let end : c.end ≡ d.end = ap (λ (x : Mark). x.end) marks in
    let dir : c.dir ≡ d.dir = ap (λ p. span p c.dir.len) (ap (λ (x : Mark). x.place) marks) ∙ ap (λ n. span d.dir.place n) (ap (λ (x : Mark). x.len) marks) in
    let bytes : spelled (directory c.views c.notes) ≡ spelled (directory d.views d.notes) =
    sym (dir_stands image c one.holds) ∙ ap (λ s. bytes_in image (span_range s)) dir ∙ dir_stands image d other.holds in
    let number_fits : c.number < 2 ^ 64 = let p = one.whole.number in omega (arith, p) in
    let other_dir : IsDir (version_of c.notes) c.number c.end (directory d.views d.notes) =
    subst (λ v. IsDir v c.number c.end (directory d.views d.notes)) (sym (ap (λ (x : Mark). x.version) marks))
    (subst (λ n. IsDir (version_of d.notes) n c.end (directory d.views d.notes)) (sym number)
    (subst (λ e. IsDir (version_of d.notes) d.number e (directory d.views d.notes)) (sym end) (dir_of_commit d other.whole))) in
    let same : directory c.views c.notes ≡ directory d.views d.notes =
    one_dir (version_of c.notes) c.number c.end (directory c.views c.notes) (directory d.views d.notes) number_fits one.whole.end_fits (dir_of_commit c one.whole) other_dir bytes in
    let notes : c.notes ≡ d.notes = ap (λ (x : Dir). x.notes) same in
    let views : c.views ≡ d.views = same_views image c.views d.views (commit_there image c one.whole one.holds) (commit_there image d other.whole other.holds) (ap (λ (x : Dir). x.views) same) in
    ap (λ n. commit n c.views c.notes c.dir c.end) number
    ∙ ap (λ vs. commit d.number vs c.notes c.dir c.end) views
    ∙ ap (λ ns. commit d.number d.views ns c.dir c.end) notes
    ∙ ap (λ s. commit d.number d.views d.notes s c.end) dir
    ∙ ap (λ e. commit d.number d.views d.notes d.dir e) end
