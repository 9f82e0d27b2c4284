-- What is kept notes an edit of one row, and follows it.
use Rattle.std.proofs.Common.{◌≡◌, ℕ, ◌<◌, true, false, eqb, List, ◌++◌, length, take, drop, Some, None, ap, sym, subst, ◌∙◌, arith}
use Rattle.std.specs.Option.{ForSome}
use Rattle.std.proofs.Common.{add-one}
use Rattle.std.proofs.lemmas.Bool.{eqb-true}
use Rattle.std.proofs.lemmas.Option.{cond_some, same_Some}
use Rattle.live.specs.Putting.{IsPlace}
use Rattle.live.specs.Watching.{IsTurn, positions, root_turn}
use Rattle.live.proofs.Edits.{inserted_turn, removed_turn, set_turn}
use Rattle.live_counts.specs.Counting.{AreCounts, AreDue, IsSame}
use Rattle.live_counts.specs.Filtering.{IsFiltered}
use Rattle.live_counts.specs.Runs.{starts, ties}
use Rattle.live_counts.specs.States.{CountsState, FilterState}
use Rattle.mk_value.specs.Data.{Datum}
use Rattle.mk_value.specs.Heading.{Attribute}
use Rattle.mk_value.specs.Names.{same_bytes}
use Rattle.row_edits.specs.Edits.{IsInRange, edited}
use Rattle.row_edits.specs.declared.edit.RowEdit.{RowEdit}
use Rattle.row_edits.specs.declared.edit.RowEdit.TheVariants.{Insert, Remove, Change}
use Rattle.row_edits.specs.declared.event.Event.{Event}
use Rattle.row_edits.specs.declared.event.Event.TheVariants as event
use Rattle.viewers.specs.declared.law.Law.{Law}
use Rattle.kept_counts.specs.Following.{Follows, FollowsOn, Notes}
use Rattle.kept_counts.specs.declared.kept.Kept.{Kept}
use Rattle.kept_counts.specs.declared.kept.Kept.TheVariants.{Counts, Filter}
use Rattle.kept_counts.specs.Keeping.{AreWaiting, Counted, HasNoted, HaveNoted, IsCountedOver, IsFilterBy, IsReady, IsWaiting, is_kept_by, single, what_kept}

-- counts but for what they have noted, and how much room they have, are the same
pub counts_alike : (schema : List Attribute) (rows : List (List Datum)) (old new : CountsState) → AreCounts schema rows old → IsSame old new → AreCounts schema rows new
counts_alike schema rows old new h same = record {
  small = h.small;
  asked = rw same.op h.asked;
  kept = same.kept ∙ h.kept ∙ ap (λ o. positions schema o rows) (sym same.op);
  starts_are =
      same.starts_are ∙ h.starts_are ∙ ap (λ o. starts (ties schema o rows) old.kept) (sym same.op) ∙ ap (λ ks. starts (ties schema new.op rows) ks) (sym same.kept);
}

-- an edit of one row is an event
pub record IsOne (edit : RowEdit) (e : Event) (rows : List (List Datum)) : Type 0 where
  pub place : IsPlace e (length rows)
  pub turn : (row : List Datum) → IsTurn (root_turn e) rows (edited row edit rows)

pub is_one : (edit : RowEdit) (e : Event) (rows : List (List Datum)) → single edit ≡ Some e → IsInRange edit (length rows) → IsOne edit e rows
is_one (Insert at count) e rows h range =
    let of = cond_some (eqb count 1) (event.Insert at) e h in
    let one = eqb-true count 1 of.0 in
    let within = range.0 in
    subst (λ x. IsOne (Insert at count) x rows) of.1
    (subst (λ n. IsOne (Insert at n) (event.Insert at) rows) (sym one) (record { place = within; turn = λ row. inserted_turn rows at row within }))
is_one (Remove at count) e rows h range =
    let of = cond_some (eqb count 1) (event.Remove at) e h in
    let one = eqb-true count 1 of.0 in
    let within : at < length rows = omega arith in
    subst (λ x. IsOne (Remove at count) x rows) of.1
    (subst (λ n. IsOne (Remove at n) (event.Remove at) rows) (sym one) (record { place = within; turn = λ row. subst (λ n. IsTurn (root_turn (event.Remove at)) rows (take at rows ++ drop n rows)) (sym (add-one at)) (removed_turn rows at within) }))
is_one (Change at) e rows h range = subst (λ x. IsOne (Change at) x rows) (same_Some (event.Change at) e h) (record { place = range; turn = λ row. set_turn rows at row range })

-- what holds of one holds of it as of something
pub for_some : {X : Type 0} (P : X → Type 0) (x : X) → P x → ForSome (Some x) P
for_some P x h y e = subst P (same_Some x y e) h

-- what is kept of a view has noted an edit
pub notes_here : (view : List ℕ) (schema : List Attribute) (rows : List (List Datum)) (edit : RowEdit) (old new : Counted) → same_bytes old.view view ≡ true → new.view ≡ old.view → ForSome new.kept (HasNoted schema rows edit)
    → Notes view schema rows edit old new
notes_here view schema rows edit old new is of noted = record {
  of = of;
  noted = λ _. noted;
  others = λ e. absurd (let f : true ≡ false = sym is ∙ e in cc);
}

pub notes_others : (view : List ℕ) (schema : List Attribute) (rows : List (List Datum)) (edit : RowEdit) (old new : Counted) → same_bytes old.view view ≡ false → new ≡ old → Notes view schema rows edit old new
notes_others view schema rows edit old new is same = record {
  of = ap (λ (e : Counted). e.view) same;
  noted = λ e. absurd (let f : true ≡ false = sym e ∙ is in cc);
  others = λ _. same;
}

-- and has followed it, or a line
pub follows_here : (view : List ℕ) (schema : List Attribute) (rows : List (List Datum)) (old new : Counted) → same_bytes old.view view ≡ true → new.view ≡ old.view → IsCountedOver schema rows new → Follows view schema rows old new
follows_here view schema rows old new is of over = record {
  of = of;
  over = λ _. over;
  others = λ e. absurd (let f : true ≡ false = sym is ∙ e in cc);
}

pub follows_others : (view : List ℕ) (schema : List Attribute) (rows : List (List Datum)) (old new : Counted) → same_bytes old.view view ≡ false → new ≡ old → Follows view schema rows old new
follows_others view schema rows old new is same = record {
  of = ap (λ (e : Counted). e.view) same;
  over = λ e. absurd (let f : true ≡ false = sym e ∙ is in cc);
  others = λ _. same;
}

pub follows_on_others : (view : List ℕ) (schema : List Attribute) (rows : List (List Datum)) (old new : Counted) → same_bytes old.view view ≡ false → new ≡ old → FollowsOn view schema rows old new
follows_on_others view schema rows old new is same = record { follows = follows_others view schema rows old new is same; stays = ap what_kept same }

-- what has noted an edit noted one of one row
pub noted_one : (schema : List Attribute) (rows : List (List Datum)) (edit : RowEdit) (kept : Kept) → HasNoted schema rows edit kept → (e : Event) × (single edit ≡ Some e)
noted_one schema rows edit (Counts keys counts) h = (h.event, h.one)
noted_one schema rows edit (Filter law props filter) h = (h.event, h.one)

-- counts that noted an edit
pub counts_noted : (schema : List Attribute) (rows : List (List Datum)) (edit : RowEdit) (event : Event) (keys : List (List ℕ)) (old new : CountsState) → AreWaiting schema rows keys old → single edit ≡ Some event → IsInRange edit (length rows)
    → AreCounts schema rows new → new.op ≡ old.op → new.noted ≡ Some event → HaveNoted schema rows edit keys new
counts_noted schema rows edit event keys old new was one range now op noted =
    record { by = record { keyed = was.by.keyed; op = op ∙ was.by.op; now = now }; event = event; one = one; noted = noted; range = range }

-- can follow it
module _ (schema : List Attribute) (before rows : List (List Datum)) (edit : RowEdit) (event : Event) (row : List Datum) (one : single edit ≡ Some event) (made : rows ≡ edited row edit before) where
  turn_of : (e : Event) → single edit ≡ Some e → IsInRange edit (length before) → IsTurn (root_turn event) before rows
  turn_of e is range = subst (IsTurn (root_turn event) before) (sym made) ((is_one edit event before one range).turn row)

  pub counts_due : (keys : List (List ℕ)) (counts : CountsState) → HaveNoted schema before edit keys counts → AreDue schema counts event rows
  counts_due keys counts h = record { before = before; now = h.by.now; made = turn_of h.event h.one h.range }

  pub counts_told : (keys : List (List ℕ)) (counts : CountsState) → HaveNoted schema before edit keys counts → counts.noted ≡ Some event
  counts_told keys counts h = h.noted ∙ sym h.one ∙ one

  pub filter_due : (law : Law) (props : List (List ℕ)) (filter : FilterState) → IsReady schema before edit law props filter
      → (was : List (List Datum)) × IsFiltered (is_kept_by schema law props) was filter.kept × IsTurn (root_turn event) was rows
  filter_due law props filter h = (before, h.by.now, turn_of h.event h.one h.range)

-- and has followed it
pub counts_follow : (schema : List Attribute) (before rows : List (List Datum)) (edit : RowEdit) (keys : List (List ℕ)) (old new : CountsState) → HaveNoted schema before edit keys old → AreCounts schema rows new → new.op ≡ old.op → new.noted ≡ None
    → AreWaiting schema rows keys new
counts_follow schema before rows edit keys old new was now op noted = record { by = record { keyed = was.by.keyed; op = op ∙ was.by.op; now = now }; noted = noted }

-- or a line
pub counts_follow_line : (schema : List Attribute) (before rows : List (List Datum)) (keys : List (List ℕ)) (old new : CountsState) → AreWaiting schema before keys old → AreCounts schema rows new → new.op ≡ old.op → new.noted ≡ None
    → AreWaiting schema rows keys new
counts_follow_line schema before rows keys old new was now op noted = record { by = record { keyed = was.by.keyed; op = op ∙ was.by.op; now = now }; noted = noted }

-- a filter that has room is ready
pub filter_ready : (schema : List Attribute) (rows : List (List Datum)) (edit : RowEdit) (event : Event) (law : Law) (props : List (List ℕ)) (old new : FilterState) → IsFilterBy schema rows law props old → single edit ≡ Some event → IsInRange edit (length rows)
    → new.kept ≡ old.kept → 0 < new.room → IsReady schema rows edit law props new
filter_ready schema rows edit event law props old new was one range same room = record {
  by = record { present = was.present; now = subst (IsFiltered (is_kept_by schema law props) rows) (sym same) was.now };
  event = event;
  one = one;
  room = room;
  range = range;
}
