-- The events of an edit are events of the rows, one after another.
use Rattle.std.proofs.Common.{◌≡◌, ℕ, ◌+◌, ◌-◌, ◌<◌, List, length, ap, sym, subst, arith}
use Rattle.mk_value.specs.Data.{Datum}
use Rattle.row_edits.specs.declared.edit.RowEdit.{RowEdit}
use Rattle.row_edits.specs.declared.edit.RowEdit.TheVariants.{Insert, Remove, Change}
use Rattle.row_edits.specs.declared.event.Event.{Event}
use Rattle.row_edits.specs.declared.event.Event.TheVariants as event
use Rattle.row_edits.specs.Edits.{IsInRange, edited, size_after}
use Rattle.row_edits.specs.Events.{begun, count_of, event_of, happened}
use Rattle.row_edits.proofs.Editing.{length_edited}
use Rattle.row_edits.proofs.Eventing.{begun_more, begun_range}
use Rattle.live.specs.Putting.{IsPlace}
use Rattle.live.specs.Watching.{IsTurn, root_turn}
use Rattle.live.proofs.Edits.{inserted_turn, removed_turn, set_turn}

begun_size : (e : RowEdit) (k size : ℕ) → k < count_of e → (n : ℕ) → IsInRange e size → size_after (begun k e) size ≡ n → IsPlace (event_of e k) n
begun_size (Insert at count) k size p n h e = (let le = h.0 in omega arith)
begun_size (Remove at count) k size p n h e = omega arith
begun_size (Change at) k size p n h e =
    let zero_is : k ≡ 0 = omega arith in
    let same : size_after (begun k (Change at)) size ≡ size - 0 = ap (λ j. size_after (begun j (Change at)) size) zero_is in
    omega arith

pub begun_place : (e : RowEdit) (k : ℕ) (row : List Datum) (rows : List (List Datum)) → IsInRange e (length rows) → k < count_of e → IsPlace (event_of e k) (length (edited row (begun k e) rows))
begun_place e k row rows h p =
    begun_size e k (length rows) p (length (edited row (begun k e) rows)) h (sym (length_edited row (begun k e) rows (begun_range e k (length rows) h (omega arith))))

happened_turn : (row : List Datum) (e : Event) (rows : List (List Datum)) → IsPlace e (length rows) → IsTurn (root_turn e) rows (happened row e rows)
happened_turn row (event.Insert at) rows p = inserted_turn rows at row p
happened_turn row (event.Remove at) rows p = removed_turn rows at p
happened_turn row (event.Change at) rows p = set_turn rows at row p

pub begun_turn : (e : RowEdit) (k : ℕ) (row : List Datum) (rows : List (List Datum)) → IsInRange e (length rows) → k < count_of e
    → IsTurn (root_turn (event_of e k)) (edited row (begun k e) rows) (edited row (begun (k + 1) e) rows)
begun_turn e k row rows h p =
    subst (IsTurn (root_turn (event_of e k)) (edited row (begun k e) rows)) (sym (begun_more row e k rows h p))
    (happened_turn row (event_of e k) (edited row (begun k e) rows) (begun_place e k row rows h p))
