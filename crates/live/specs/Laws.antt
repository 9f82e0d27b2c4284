-- What the definitions come to, in the words of the subject.
use Rattle.std.specs.Prelude.{◌≡◌, Bool, true, false, List, filter}
use Rattle.mk_value.specs.Data.{Datum}
use Rattle.mk_value.specs.Heading.{Attribute}
use Rattle.relations.specs.Criteria.{is_in_range}
use Rattle.relations.specs.Sorting.{row_cmp, sorted}
use Rattle.live.specs.declared.op.WatchOp.{WatchOp}
use Rattle.live.specs.declared.op.WatchOp.TheVariants.{Range, Sort}
use Rattle.live.specs.declared.turn.Turn.{Turn}
use Rattle.live.specs.declared.turn.Turn.TheVariants.{Still, Comes, Goes, Changes, Moves}

-- the rows that a watch shows of its source's: those within the bounds, or all in the order of the keys
abbrev pub shown : List Attribute → WatchOp → List (List Datum) → List (List Datum)
shown schema (Range criteria) rows = filter (is_in_range schema criteria) rows
shown schema (Sort keys) rows = sorted (row_cmp schema keys) rows

-- a turn is an insertion, a removal, a change, or a removal and then an insertion
abbrev pub IsComing : Turn → Type 0
IsComing (Comes q) = Unit {0}
IsComing _ = ⊥

abbrev pub IsGoing : Turn → Type 0
IsGoing (Goes p) = Unit {0}
IsGoing _ = ⊥

abbrev pub IsChange : Turn → Type 0
IsChange (Changes p) = Unit {0}
IsChange _ = ⊥

abbrev pub IsMove : Turn → Type 0
IsMove (Moves p q) = Unit {0}
IsMove _ = ⊥

-- what a watch answers, by whether it had the row, and whether it has it
abbrev pub IsAnswer : Bool → Bool → Turn → Type 0
IsAnswer true true t = IsChange t
IsAnswer false true t = IsComing t
IsAnswer true false t = IsGoing t
IsAnswer false false t = t ≡ Still
