-- A plan of a commit, and why there is none.
use Rattle.std.specs.Prelude.{◌≡◌, ℕ, ◌+◌, ◌-◌, ◌^◌, ◌<◌, ◌≤◌, List, length, map, All, refl}
use Rattle.std.specs.Coded.{Coded, code_by, coded_ℕ, coded_list, coded×}
use Rattle.std.specs.List.{filter}
use Rattle.mk_value.specs.declared.span.Span.{Span}
use Rattle.free_space.specs.Extents.{extent_end}
use Rattle.free_space.specs.FreeSpace.{FreeSpace}
use Rattle.free_space.specs.Sites.{ArePlaced}
use Rattle.commit_writes.specs.Blocks.{Block}
use Rattle.dir_codec.specs.Dir.{NoteEntry, spelled}
use Rattle.view_store.specs.Views.{NamedTable, views_code}
use Rattle.recovery.specs.Commits.{Commit, blocks_at, directory, plain_views}
use Rattle.commit_plan.specs.Following.{FollowsAt, blocks_due, commit_spans, is_some, last_end, noted, writes_at}
use Rattle.commit_plan.specs.Placing.{LeaveSame, stacked}
use Rattle.commit_plan.specs.Settling.{AreSettledViews}
use Rattle.commit_plan.specs.declared.error.PlanError.{PlanError}
use Rattle.commit_plan.specs.declared.error.PlanError.TheVariants.{LastNumber, Full, Memory}

-- the commit that follows, and the blocks that are written for it
pub record Planned : Type 0 where
  pub next : Commit
  pub writes : List Block

-- Plans are coded by their parts, so that a proof can tell two of them apart.
abbrev span_code : Coded Span
span_code = code_by (ℕ × ℕ) (coded× coded_ℕ coded_ℕ) (λ s. (s.place, s.len)) (λ p. record { place = p.0; len = p.1 }) (λ _. refl)

abbrev bytes_code : Coded (List ℕ)
bytes_code = coded_list coded_ℕ

abbrev notes_code : Coded (List NoteEntry)
notes_code = coded_list (code_by (ℕ × List ℕ) (coded× coded_ℕ bytes_code) (λ n. (n.number, n.text)) (λ p. record { number = p.0; text = p.1 }) (λ _. refl))

abbrev commit_code : Coded Commit
commit_code =
    code_by (ℕ × (List NamedTable × (List NoteEntry × (Span × ℕ)))) (coded× coded_ℕ (coded× views_code (coded× notes_code (coded× span_code coded_ℕ))))
    (λ c. (c.number, (c.views, (c.notes, (c.dir, c.end))))) (λ p. record { number = p.0; views = p.1.0; notes = p.1.1.0; dir = p.1.1.1.0; end = p.1.1.1.1 }) (λ _. refl)

abbrev writes_code : Coded (List Block)
writes_code = coded_list (code_by (Span × List ℕ) (coded× span_code bytes_code) (λ b. (b.span, b.bytes)) (λ p. record { span = p.0; bytes = p.1 }) (λ _. refl))

abbrev pub planned_code : Coded Planned
planned_code = code_by (Commit × List Block) (coded× commit_code writes_code) (λ p. (p.next, p.writes)) (λ p. record { next = p.0; writes = p.1 }) (λ _. refl)

-- the blocks of these spans that have bytes
abbrev pub blocks_written : List Span → List (List ℕ) → List Block
blocks_written spans bytes = filter is_some (blocks_at spans bytes)

-- it plans a commit that follows `kept` at the least places
pub record IsPlanOf (floor : ℕ) (kept : Commit) (views : List NamedTable) (note : List ℕ) (p : Planned) : Type 0 where
  pub spans : List Span
  pub follows : FollowsAt floor kept views note spans p.next
  pub writes : p.writes ≡ writes_at views spans p.next

-- each commit that follows at the least places ends here
abbrev pub EndsAt : ℕ → Commit → List NamedTable → List ℕ → ℕ → Type 0
EndsAt floor kept views note end = (spans : List Span) (next : Commit) → FollowsAt floor kept views note spans next → next.end ≡ end

-- the greatest number of a commit
abbrev pub last_number : ℕ
last_number = 2 ^ 63 - 1

-- why no commit is planned
abbrev pub IsPlanRefusal : ℕ → Commit → List NamedTable → List ℕ → ℕ → PlanError → Type 0
IsPlanRefusal floor kept views note cap LastNumber = kept.number ≡ last_number
IsPlanRefusal floor kept views note cap (Full end limit) = (limit ≡ cap) × (cap < end) × EndsAt floor kept views note end
IsPlanRefusal floor kept views note cap Memory = Unit {0}

-- The blocks that are due have their spans beside what `kept` uses, and one more can be placed.
pub record AreDrafted (kept : Commit) (views : List NamedTable) (bytes : List (List ℕ)) (spans : List Span) (free : FreeSpace) : Type 0 where
  pub bytes_are : bytes ≡ blocks_due (plain_views views)
  pub placed : ArePlaced free.floor (commit_spans kept) (map length bytes) spans
  pub fit : All (λ s. extent_end s ≤ last_end) spans
  pub used : LeaveSame free.used (stacked spans (commit_spans kept))
  pub spare : 0 < free.spare

-- what the next commit keeps, where its due blocks have these spans: its views and its notes, and its directory as bytes
pub record AreContents (kept : Commit) (views : List NamedTable) (note : List ℕ) (spans : List Span) (settled : List NamedTable) (notes : List NoteEntry) (bytes : List ℕ) : Type 0 where
  pub settled_are : AreSettledViews views spans settled
  pub notes_are : notes ≡ noted kept.notes (kept.number + 1) note
  pub spells : bytes ≡ spelled (directory settled notes)

-- What was drafted and made suits the commit that follows with these views and this note, at this floor.
pub record AreReady (floor : ℕ) (kept : Commit) (views : List NamedTable) (note : List ℕ) (drafted : List (List ℕ)) (spans : List Span) (free : FreeSpace) (settled : List NamedTable) (notes : List NoteEntry) (bytes : List ℕ) : Type 0 where
  pub floor_is : free.floor ≡ floor
  pub draft : AreDrafted kept views drafted spans free
  pub contents : AreContents kept views note spans settled notes bytes
