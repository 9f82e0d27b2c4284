use Rattle.std.proofs.Common.{◌≡◌, ℕ, List, map, All, get_or, []}
use Rattle.mk_value.specs.Data.{Datum}
use Rattle.grouping.specs.Index.{numbers}
use Rattle.grouping.specs.declared.entry.Entry.{Entry}
use Rattle.grouping.proofs.index.entries_of.Given as goal

-- so many entries, each with its position and the row there
pub record AreEntries (entries : List Entry) (rows : List (List Datum)) (n : ℕ) : Type 0 where
  pub numbered : map (λ (e : Entry). e.at) entries ≡ numbers n
  pub right : All (λ (e : Entry). e.row.now ≡ get_or rows e.at []) entries

abbrev pub invariant-loop-at : goal.invariant-loop-at
invariant-loop-at l = AreEntries l.entries.items l.row-items l.at
