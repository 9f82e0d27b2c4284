-- Lines that were followed one after another.
use Rattle.std.proofs.Common.{◌≡◌, ℕ, ◌+◌, Bool, true, false, cond, List, [], ◌∷◌, map, refl, ap, sym, ◌∙◌, arith}
use Rattle.watches.specs.Lines.{raised_by}
use Rattle.live.proofs.Rising.{raised_more}
use Rattle.mk_value.specs.Names.{same_bytes}
use Rattle.row_edits.specs.Events.{count_all}
use Rattle.view_store.specs.Views.{NamedTable}
use Rattle.watches.specs.Histories.{AreFollowed, HaveFollowedLines, Lined, events_on}
use Rattle.watches.specs.Keeping.{AreKept, Kept, followed}
use Rattle.watches.specs.Watches.{Followed, Shown, followed_by, raised}

-- counts that are raised by nothing, and one after the other
shown_raised_none : (watches : List Shown) → map (λ (s : Shown). record s { followed = raised_by 0 s.followed }) watches ≡ watches
shown_raised_none [] = refl
shown_raised_none (s ∷ watches) = ap (λ ss. s ∷ ss) (shown_raised_none watches)

shown_raised_more : (n m : ℕ) (watches : List Shown) → map (λ (s : Shown). record s { followed = raised_by m s.followed }) (map (λ (s : Shown). record s { followed = raised_by n s.followed }) watches)
    ≡ map (λ (s : Shown). record s { followed = raised_by (n + m) s.followed }) watches
shown_raised_more n m [] = refl
shown_raised_more n m (s ∷ watches) =
    ap (λ k. record s { followed = k } ∷ map (λ (s : Shown). record s { followed = raised_by m s.followed }) (map (λ (s : Shown). record s { followed = raised_by n s.followed }) watches)) (raised_more n m s.followed)
    ∙ ap (λ ss. record s { followed = raised_by (n + m) s.followed } ∷ ss) (shown_raised_more n m watches)

raised_none : (f : Followed) → raised 0 f ≡ f
raised_none f = ap (λ ss. record f { watches = ss }) (shown_raised_none f.watches)

raised_twice : (n m : ℕ) (f : Followed) → raised m (raised n f) ≡ raised (n + m) f
raised_twice n m f = ap (λ ss. record f { watches = ss }) (shown_raised_more n m f.watches)

none_counted : (all : List Followed) → all ≡ map (λ (f : Followed). raised 0 f) all
none_counted [] = refl
none_counted (f ∷ all) = ap (λ x. x ∷ all) (sym (raised_none f)) ∙ ap (λ xs. raised 0 f ∷ xs) (none_counted all)

-- one line, and then those behind it
one_counted : (l : Lined) (later : List Lined) (all : List Followed)
    → map (λ (f : Followed). raised (events_on later f.view) f) (followed_by all l.view (count_all l.edits)) ≡ map (λ (f : Followed). raised (events_on (l ∷ later) f.view) f) all
one_counted l later [] = refl
one_counted l later (f ∷ all) =
    ap (λ x. x ∷ map (λ (g : Followed). raised (events_on later g.view) g) (followed_by all l.view (count_all l.edits))) (at (same_bytes f.view l.view))
    ∙ ap (λ xs. raised (cond (same_bytes f.view l.view) (count_all l.edits) 0 + events_on later f.view) f ∷ xs) (one_counted l later all)
  where
    at : (b : Bool) → raised (events_on later (cond b (raised (count_all l.edits) f) f).view) (cond b (raised (count_all l.edits) f) f) ≡ raised (cond b (count_all l.edits) 0 + events_on later f.view) f
    at true = raised_twice (count_all l.edits) (events_on later f.view) f
    at false = ap (λ n. raised n f) (let e : events_on later f.view ≡ 0 + events_on later f.view = omega arith in e)

pub have_followed : (views : List NamedTable) (old : List Kept) (lines : List Lined) → AreKept views old → AreFollowed views old lines → HaveFollowedLines views old lines
have_followed views old [] kept all = record { kept = kept; counted = none_counted (followed old) }
have_followed views old (l ∷ later) kept all =
    let is = all.0 in
    let rest = have_followed l.views l.watches later (is.keeps views l.views kept is.changes) all.1 in
    record {
      kept = rest.kept;
      counted = rest.counted ∙ ap (map (λ (f : Followed). raised (events_on later f.view) f)) is.counted ∙ one_counted l later (followed old);
    }
