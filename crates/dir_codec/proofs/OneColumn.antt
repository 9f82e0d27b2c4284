-- A column of a domain, from what is read of its numbers, its texts or its tables.
use Rattle.std.proofs.Common.{ℕ, List, Result}
use Rattle.std.proofs.lemmas.Result.{MatchResult-weaker}
use Rattle.mk_value.specs.Heading.{Domain}
use Rattle.dir_codec.specs.declared.dir.DirCol.{DirCol}
use Rattle.dir_codec.specs.declared.error.DirError.{DirError}
use Rattle.dir_codec.specs.Dir.{Entry, numbers, strings, tables, IsEntry, spelled_entry}
use Rattle.dir_codec.specs.Fields.{Due}
use Rattle.dir_codec.specs.Parts.{AreNumbers, numbers_due, strings_due}
use Rattle.dir_codec.specs.Reads.{GivesPart}
use Rattle.dir_codec.specs.Values.{entry_of}

are_integers : (end rows : ℕ) (e : Entry) → AreNumbers end rows 32 e → IsEntry end rows Domain.integer e
are_integers end rows (numbers w block) are = are
are_integers end rows (strings w sizes short memos) are = absurd are
are_integers end rows (tables held) are = absurd are

are_longs : (end rows : ℕ) (e : Entry) → AreNumbers end rows 64 e → IsEntry end rows Domain.long e
are_longs end rows (numbers w block) are = are
are_longs end rows (strings w sizes short memos) are = absurd are
are_longs end rows (tables held) are = absurd are

abbrev Gives : ℕ → ℕ → List Due → List ℕ → ℕ → (Entry → Type 0) → Result (DirCol × ℕ) DirError → Type 0
Gives number end due bytes at P result = GivesPart number end due bytes at (λ (column : DirCol). P (entry_of column)) (λ (column : DirCol). spelled_entry (entry_of column)) result

module _ (number end rows : ℕ) (bytes : List ℕ) (at : ℕ) (result : Result (DirCol × ℕ) DirError) where
  pub integers : Gives number end (numbers_due rows 32) bytes at (AreNumbers end rows 32) result → Gives number end (numbers_due rows 32) bytes at (IsEntry end rows Domain.integer) result
  integers gives = MatchResult-weaker result gives (λ r is. (are_integers end rows (entry_of r.0) is.0, is.1)) (λ e is. is)

  pub longs : Gives number end (numbers_due rows 64) bytes at (AreNumbers end rows 64) result → Gives number end (numbers_due rows 64) bytes at (IsEntry end rows Domain.long) result
  longs gives = MatchResult-weaker result gives (λ r is. (are_longs end rows (entry_of r.0) is.0, is.1)) (λ e is. is)

  pub texts : Gives number end (strings_due rows) bytes at (λ e. IsEntry end rows Domain.text e × IsEntry end rows Domain.bytes e) result → Gives number end (strings_due rows) bytes at (IsEntry end rows Domain.text) result
  texts gives = MatchResult-weaker result gives (λ r is. (is.0.0, is.1)) (λ e is. is)

  pub byte_strings : Gives number end (strings_due rows) bytes at (λ e. IsEntry end rows Domain.text e × IsEntry end rows Domain.bytes e) result → Gives number end (strings_due rows) bytes at (IsEntry end rows Domain.bytes) result
  byte_strings gives = MatchResult-weaker result gives (λ r is. (is.0.1, is.1)) (λ e is. is)
