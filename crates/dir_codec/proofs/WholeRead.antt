-- A whole directory, from its views and its notes.
use Rattle.std.proofs.Common.{◌≡◌, ℕ, ◌<◌, ◌≤◌, ◌^◌, ◌⊎◌, inl, inr, ⊎_elim, List, [], ◌∷◌, ◌++◌, length, length-drop, map, drop, refl, sym, ◌∙◌, ap, subst, arith, Result, Ok, Err}
use Rattle.std.specs.List.{flat_map}
use Rattle.std.specs.Result.{IfErr, IfOk, MatchResult}
use Rattle.std.proofs.lemmas.Result.{MatchResult-weaker}
use Rattle.std.proofs.lemmas.List.{append-nil, drop_all, length-map}
use Rattle.byteorder.specs.Endian.{little_bytes}
use Rattle.dir_codec.specs.declared.dir.Dir.{Dir as Found}
use Rattle.dir_codec.specs.declared.dir.DirView.{DirView}
use Rattle.dir_codec.specs.declared.dir.Note.{Note}
use Rattle.dir_codec.specs.declared.error.DirError.{DirError}
use Rattle.dir_codec.specs.declared.error.DirError.TheVariants.{At, Memory}
use Rattle.dir_codec.specs.Dir.{AreNotes, AreNotesFrom, Dir, IsDir, spelled, spelled_notes, spelled_view}
use Rattle.dir_codec.specs.Fields.{Due, all_due, Goes, IsFirstFlaw, note_count, view_count}
use Rattle.dir_codec.specs.Parts.{AreViews, notes_behind, spelled_views}
use Rattle.dir_codec.specs.Reads.{Flaws, GivesPart, IsRefused, Reads}
use Rattle.dir_codec.specs.Values.{dir_of, note_of, view_of}
use Rattle.dir_codec.proofs.Going.{one_first_flaw}
use Rattle.dir_codec.proofs.Reading.{flaws_first, flaws_then, reads_joins, reads_none}
use Rattle.dir_codec.proofs.Spelled.{one_dir}
use Rattle.dir_codec.proofs.Whole.{no_flaw}

module _ (version number end : ℕ) (bytes : List ℕ) where
  whole_flaw : (e : DirError) → Flaws number end (all_due version) bytes 0 e → IsRefused version number end bytes e
  whole_flaw Memory flaws = tt
  whole_flaw (At place) flaws = let there = flaws [] in record {
    due = there.left;
    before = subst (λ (l : List Due). Goes number end l bytes there.left (drop place bytes)) (append-nil (all_due version)) there.goes;
    within = there.within;
    flawed = there.flawed;
  }

  -- a flaw in the views
  pub views_flaw : (e : DirError) → Flaws number end (view_count ∷ []) bytes 0 e → IsRefused version number end bytes e
  views_flaw e flaws = whole_flaw e (flaws_first number end bytes (view_count ∷ []) (notes_behind version) 0 e flaws)

  -- and in the notes behind them
  pub notes_flaw : (next : ℕ) (s : List ℕ) (e : DirError) → Reads number end (view_count ∷ []) bytes 0 next s → Flaws number end (notes_behind version) bytes next e → IsRefused version number end bytes e
  notes_flaw next s e reads flaws = whole_flaw e (flaws_then number end bytes (view_count ∷ []) (notes_behind version) 0 next s e reads flaws)

  some_left : (to : ℕ) → to < length bytes → drop to bytes ≡ [] → ⊥
  some_left to more none = let l = length-drop to bytes in let z = ap length none in omega (arith, l, z, more)

  -- and a byte behind both
  pub byte_behind : (next to : ℕ) (s t : List ℕ) → Reads number end (view_count ∷ []) bytes 0 next s → Reads number end (notes_behind version) bytes next to t → to < length bytes → IsFirstFlaw version number end bytes to
  byte_behind next to s t views notes more =
      let both = reads_joins number end bytes (view_count ∷ []) (notes_behind version) 0 next to s t views notes in
      record {
        due = [];
        before = subst (λ (l : List Due). Goes number end l bytes [] (drop to bytes)) (append-nil (all_due version)) (both.goes []);
        within = both.within;
        flawed = some_left to more;
      }

  -- what is read of both is the directory
  pub dir_read : (next to : ℕ) (views : List DirView) (notes : List Note) → AreViews end views → AreNotes version number (map note_of notes) → Reads number end (view_count ∷ []) bytes 0 next (spelled_views views)
      → Reads number end (notes_behind version) bytes next to (spelled_notes (map note_of notes)) → length bytes ≤ to
      → IsDir version number end (record { views = map view_of views; notes = map note_of notes }) × (bytes ≡ spelled (record { views = map view_of views; notes = map note_of notes }))
  dir_read next to views notes are_views are_notes first then past =
      let both = reads_joins number end bytes (view_count ∷ []) (notes_behind version) 0 next to (spelled_views views) (spelled_notes (map note_of notes)) first then in
      let long = length-map views view_of in
      let few = are_views.few in (
        record { few = omega (arith, long, few); distinct = are_views.distinct; each = are_views.each; notes = are_notes },
        both.spells ∙ ap (λ (l : List ℕ). (spelled_views views ++ spelled_notes (map note_of notes)) ++ l) (drop_all to bytes past)
            ∙ append-nil (spelled_views views ++ spelled_notes (map note_of notes))
            ∙ ap (λ (n : ℕ). (little_bytes 4 n ++ flat_map spelled_view (map view_of views)) ++ spelled_notes (map note_of notes)) (sym long),
      )

-- bytes that are refused spell no directory, and a flaw is the one that is named
module _ (version number end : ℕ) (bytes : List ℕ) (number_fits : number < 2 ^ 64) (end_fits : end < 2 ^ 64) where
  not_refused : (d : Dir) (e : DirError) → IsDir version number end d → bytes ≡ spelled d → IsRefused version number end bytes e → e ≡ Memory
  not_refused d Memory is spells refused = refl
  not_refused d (At place) is spells refused =
      absurd (no_flaw version number end d place number_fits end_fits is (subst (λ (l : List ℕ). IsFirstFlaw version number end l place) spells refused))

  pub accepts : (d : Dir) (result : Result Found DirError) → IsDir version number end d → bytes ≡ spelled d
      → IfOk result (λ found. IsDir version number end (dir_of found) × (bytes ≡ spelled (dir_of found))) → IfErr result (IsRefused version number end bytes)
      → MatchResult result (λ found. dir_of found ≡ d) (λ e. e ≡ Memory)
  accepts d (Ok found) is spells read refused = one_dir version number end (dir_of found) d number_fits end_fits read.0 is (sym read.1 ∙ spells)
  accepts d (Err e) is spells read refused = not_refused d e is spells refused

  the_flaw : (place : ℕ) (e : DirError) → IsFirstFlaw version number end bytes place → IsRefused version number end bytes e → (e ≡ At place) ⊎ (e ≡ Memory)
  the_flaw place Memory flaw refused = inr refl
  the_flaw place (At other) flaw refused = inl (ap At (one_first_flaw version number end bytes other place refused flaw))

  pub finds_flaw : (place : ℕ) (result : Result Found DirError) → IsFirstFlaw version number end bytes place
      → IfOk result (λ found. IsDir version number end (dir_of found) × (bytes ≡ spelled (dir_of found))) → IfErr result (IsRefused version number end bytes)
      → (result ≡ Err (At place)) ⊎ (result ≡ Err Memory)
  finds_flaw place (Ok found) flaw is refused =
      absurd (no_flaw version number end (dir_of found) place number_fits end_fits is.0 (subst (λ (l : List ℕ). IsFirstFlaw version number end l place) is.1 flaw))
  finds_flaw place (Err e) flaw is refused = elim (the_flaw place e flaw refused) [ inl here ↦ inl (ap Err here) | inr memory ↦ inr (ap Err memory) ]

-- ---- the notes behind the views

module _ (version number end : ℕ) (bytes : List ℕ) (at : ℕ) where
  abbrev GivesNotes : ℕ → Result (List Note × ℕ) DirError → Type 0
  GivesNotes v result = GivesPart number end (notes_behind v) bytes at (λ (notes : List Note). AreNotes v number (map note_of notes)) (λ (notes : List Note). spelled_notes (map note_of notes)) result

  two_notes : (result : Result (List Note × ℕ) DirError)
      → GivesPart number end (note_count ∷ []) bytes at (λ (notes : List Note). AreNotesFrom number 1 (map note_of notes) × (1 ≤ length notes) × (length notes ≤ 64)) (λ (notes : List Note). spelled_notes (map note_of notes)) result
      → GivesNotes 2 result
  two_notes result gives = MatchResult-weaker result gives (λ r is.
      let long = length-map r.0 note_of in
      let some = is.0.1 in
      let few = is.0.2 in
      (record { each = is.0.0; few = omega (arith, long, few); counted = inr (refl, omega (arith, long, some)) }, is.1))
      (λ e is. is)

  pub some_notes : (result : Result (List Note × ℕ) DirError) → version ≡ 2
      → GivesPart number end (note_count ∷ []) bytes at (λ (notes : List Note). AreNotesFrom number 1 (map note_of notes) × (1 ≤ length notes) × (length notes ≤ 64)) (λ (notes : List Note). spelled_notes (map note_of notes)) result
      → GivesNotes version result
  some_notes result two gives = subst (λ (v : ℕ). GivesNotes v result) (sym two) (two_notes result gives)

  pub no_notes : at ≤ length bytes → (version ≡ 1) ⊎ (version ≡ 2) → (version ≡ 2 → ⊥) → AreNotes version number [] × Reads number end (notes_behind version) bytes at at []
  no_notes within known not_two = ⊎_elim
      (λ one. subst (λ (v : ℕ). AreNotes v number [] × Reads number end (notes_behind v) bytes at at []) (sym one)
      (record { each = tt; few = omega arith; counted = inl (refl, refl) }, reads_none number end bytes at within))
      (λ two. absurd (not_two two)) known
