-- An image that stands for no commit under a mark has one place for it.
use Rattle.std.proofs.Common.{◌≡◌, ℕ, ◌+◌, ◌<◌, ◌^◌, ⊎_elim, List, [], ◌∷◌, ◌++◌, length, get_or, drop, All, ap, sym, subst, ◌∙◌, arith}
use Rattle.std.proofs.lemmas.List.Elements.{All-head, All-tail}
use Rattle.mk_value.specs.declared.span.Span.{Span}
use Rattle.host_io.specs.Ranges.{bytes_in}
use Rattle.free_space.specs.Overlaps.{AreFirstToMeet}
use Rattle.free_space.proofs.OverlapLemmas.{first_to_meet_unique}
use Rattle.commit_marks.specs.declared.mark.Mark.{Mark}
use Rattle.commit_marks.specs.Marks.{FitsFile, IsMark, dir_span, slot_place}
use Rattle.commit_writes.specs.Blocks.{span_range}
use Rattle.dir_codec.specs.Dir.{Dir}
use Rattle.dir_codec.specs.Columns.{PlainEntry, dir_columns}
use Rattle.dir_codec.specs.Fields.{IsFirstFlaw}
use Rattle.dir_codec.proofs.Going.{one_first_flaw}
use Rattle.dir_codec.proofs.Spelled.{one_dir}
use Rattle.dir_codec.proofs.Whole.{no_flaw}
use Rattle.recovery.specs.Reading.{IsFirstUnreadable, IsReadable, all_spans}
use Rattle.recovery.specs.Refusals.{HasDir, HasFlaw, HasOverlap, HasUnreadable, IsRefusedAt}
use Rattle.recovery.proofs.Exact.{none_meet}

-- a list has one first unreadable column
first_of : (image : List ℕ) (before after others behind : List PlainEntry) (e f : PlainEntry) → ◌≡◌ {A = List PlainEntry} (before ++ e ∷ after) (others ++ f ∷ behind)
    → All (IsReadable image) before → All (IsReadable image) others → ¬ IsReadable image e → ¬ IsReadable image f → e ≡ f
first_of image [] after [] behind e f same h g here there = ap (λ xs. get_or xs 0 e) same
first_of image [] after (o ∷ others) behind e f same h g here there = absurd (here (subst (IsReadable image) (sym (ap (λ xs. get_or xs 0 e) same)) (All-head (IsReadable image) o others g)))
first_of image (b ∷ before) after [] behind e f same h g here there = absurd (there (subst (IsReadable image) (ap (λ xs. get_or xs 0 f) same) (All-head (IsReadable image) b before h)))
first_of image (b ∷ before) after (o ∷ others) behind e f same h g here there =
    first_of image before after others behind e f (ap (λ xs. drop 1 xs) same) (All-tail (IsReadable image) b before h) (All-tail (IsReadable image) o others g) here there

module _ (image : List ℕ) (m : Mark) (mark : IsMark m) where
  number_fits : m.number < 2 ^ 64
  number_fits = let p = mark.number in omega (arith, p)

  same_dir : (d e : Dir) → HasDir image m d → HasDir image m e → d ≡ e
  same_dir d e one other = one_dir m.version m.number m.end d e number_fits mark.end one.good other.good (sym one.spells ∙ other.spells)

  flaw_or_dir : (offset : ℕ) (d : Dir) → HasFlaw image m offset → HasDir image m d → ⊥
  flaw_or_dir offset d flaw has =
      no_flaw m.version m.number m.end d offset number_fits mark.end has.good (subst (λ bs. IsFirstFlaw m.version m.number m.end bs offset) has.spells flaw.first)

  one_flaw : (p q : ℕ) → HasFlaw image m p → HasFlaw image m q → p ≡ q
  one_flaw p q one other = one_first_flaw m.version m.number m.end (bytes_in image (span_range (dir_span m))) p q one.first other.first

  one_overlap : (s t : Span) → HasOverlap image m s → HasOverlap image m t → s ≡ t
  one_overlap s t one other =
      let spans = all_spans one.dir (dir_span m) in
      (first_to_meet_unique spans one.one s other.one t one.first
      (subst (λ x. AreFirstToMeet (all_spans x (dir_span m)) other.one t) (same_dir other.dir one.dir other.has one.has) other.first)).1

  overlap_or_unreadable : (s : Span) (e : PlainEntry) → HasOverlap image m s → HasUnreadable image m e → ⊥
  overlap_or_unreadable s e one other =
      none_meet (all_spans other.dir (dir_span m)) one.one s other.apart
      (subst (λ x. AreFirstToMeet (all_spans x (dir_span m)) one.one s) (same_dir one.dir other.dir one.has other.has) one.first)

  one_unreadable : (e f : PlainEntry) → HasUnreadable image m e → HasUnreadable image m f → e ≡ f
  one_unreadable e f one other =
      let first = one.first in
      let second = subst (λ x. IsFirstUnreadable image (dir_columns x) f) (same_dir other.dir one.dir other.has one.has) other.first in
      first_of image first.before first.after second.before second.after e f (sym first.among ∙ second.among) first.readable second.readable first.unreadable second.unreadable

  abbrev IsUnfit : ℕ → ℕ → Type 0
  IsUnfit slot p = (¬ FitsFile (length image) m) × (p ≡ slot_place slot)

  abbrev IsFlawed : ℕ → Type 0
  IsFlawed p = (offset : ℕ) × HasFlaw image m offset × (p ≡ m.place + offset)

  abbrev IsOverlapped : ℕ → Type 0
  IsOverlapped p = (named : Span) × HasOverlap image m named × (p ≡ named.place)

  abbrev IsUnreadableAt : ℕ → Type 0
  IsUnreadableAt p = (e : PlainEntry) × HasUnreadable image m e × (p ≡ m.place + e.start)

  pub one_refused_at : (slot p q : ℕ) → IsRefusedAt image slot m p → IsRefusedAt image slot m q → p ≡ q
  one_refused_at slot p q one other =
      ⊎_elim
      (λ (u : IsUnfit slot p). ⊎_elim
      (λ (v : IsUnfit slot q). u.1 ∙ sym v.1)
      (⊎_elim (λ (f : IsFlawed q). absurd (u.0 f.1.fits)) (⊎_elim (λ (o : IsOverlapped q). absurd (u.0 o.1.has.fits)) (λ (r : IsUnreadableAt q). absurd (u.0 r.1.has.fits)))) other)
      (⊎_elim
      (λ (f : IsFlawed p). ⊎_elim
      (λ (v : IsUnfit slot q). absurd (v.0 f.1.fits))
      (⊎_elim (λ (g : IsFlawed q). f.2 ∙ ap (λ n. m.place + n) (one_flaw f.0 g.0 f.1 g.1) ∙ sym g.2)
      (⊎_elim (λ (o : IsOverlapped q). absurd (flaw_or_dir f.0 o.1.dir f.1 o.1.has)) (λ (r : IsUnreadableAt q). absurd (flaw_or_dir f.0 r.1.dir f.1 r.1.has)))) other)
      (⊎_elim
      (λ (o : IsOverlapped p). ⊎_elim
      (λ (v : IsUnfit slot q). absurd (v.0 o.1.has.fits))
      (⊎_elim (λ (g : IsFlawed q). absurd (flaw_or_dir g.0 o.1.dir g.1 o.1.has))
      (⊎_elim (λ (x : IsOverlapped q). o.2 ∙ ap (λ (s : Span). s.place) (one_overlap o.0 x.0 o.1 x.1) ∙ sym x.2) (λ (r : IsUnreadableAt q). absurd (overlap_or_unreadable o.0 r.0 o.1 r.1)))) other)
      (λ (r : IsUnreadableAt p). ⊎_elim
      (λ (v : IsUnfit slot q). absurd (v.0 r.1.has.fits))
      (⊎_elim (λ (g : IsFlawed q). absurd (flaw_or_dir g.0 r.1.dir g.1 r.1.has))
      (⊎_elim (λ (x : IsOverlapped q). absurd (overlap_or_unreadable x.0 r.0 x.1 r.1)) (λ (w : IsUnreadableAt q). r.2 ∙ ap (λ (e : PlainEntry). m.place + e.start) (one_unreadable r.0 w.0 r.1 w.1) ∙ sym w.2))) other)))
      one
