-- Each column of a directory begins within its bytes.
use Rattle.std.proofs.Common.{ℕ, ◌+◌, ◌≤◌, List, [], ◌∷◌, ◌++◌, length, All, arith, length-append}
use Rattle.std.specs.List.{flat_map}
use Rattle.std.proofs.lemmas.List.Elements.{All-append, All-cons, All-nil, All-weaker}
use Rattle.mk_value.specs.Heading.{Domain, Heading, no_attributes, attribute, heading_of}
use Rattle.struct_text.specs.Spelling.{spelling}
use Rattle.dir_codec.specs.Columns.{PlainEntry, dir_columns, plain_bodies, plain_entries, plain_entry, plain_view_entries}
use Rattle.dir_codec.specs.Dir.{Bodies, no_bodies, body, Dir, Entries, no_entries, entry, Entry, ViewEntry, spelled, spelled_bodies, spelled_entries, spelled_entry, spelled_notes, spelled_view}
use Rattle.recovery.proofs.ViewsSoFar.{view_len}

-- these columns begin at or before an offset
BeginUpTo : ℕ → List PlainEntry → Type 0
BeginUpTo most entries = All (λ (e : PlainEntry). e.start ≤ most) entries

up_to : (least most : ℕ) (entries : List PlainEntry) → least ≤ most → BeginUpTo least entries → BeginUpTo most entries
unfolding BeginUpTo
up_to least most entries p h = All-weaker (λ (e : PlainEntry). e.start ≤ least) (λ (e : PlainEntry). e.start ≤ most) (λ e q. omega (arith, p, q)) entries h

joined : (most : ℕ) (one other : List PlainEntry) → BeginUpTo most one → BeginUpTo most other → BeginUpTo most (one ++ other)
unfolding BeginUpTo
joined most one other h g = All-append (λ (e : PlainEntry). e.start ≤ most) one other h g

none : (most : ℕ) → BeginUpTo most []
unfolding BeginUpTo
none most = All-nil (λ (e : PlainEntry). e.start ≤ most)

alone : (most : ℕ) (e : PlainEntry) → e.start ≤ most → BeginUpTo most (e ∷ [])
unfolding BeginUpTo
alone most e p = All-cons (λ (e : PlainEntry). e.start ≤ most) e [] p (All-nil (λ (e : PlainEntry). e.start ≤ most))

mutual
  entry_starts : (e : Entry) (d : Domain) (at rows : ℕ) → BeginUpTo (at + length (spelled_entry e)) (plain_entry e d at rows)
  entry_starts (Entry.numbers w block) d at rows = alone (at + length (spelled_entry (Entry.numbers w block))) _ (omega arith)
  entry_starts (Entry.strings w sizes short memos) d at rows = alone (at + length (spelled_entry (Entry.strings w sizes short memos))) _ (omega arith)
  entry_starts (Entry.tables inner) (Domain.relation g) at rows = bodies_starts inner g at
  entry_starts (Entry.tables inner) Domain.integer at rows = alone (at + length (spelled_entry (Entry.tables inner))) _ (omega arith)
  entry_starts (Entry.tables inner) Domain.long at rows = alone (at + length (spelled_entry (Entry.tables inner))) _ (omega arith)
  entry_starts (Entry.tables inner) Domain.text at rows = alone (at + length (spelled_entry (Entry.tables inner))) _ (omega arith)
  entry_starts (Entry.tables inner) Domain.bytes at rows = alone (at + length (spelled_entry (Entry.tables inner))) _ (omega arith)

  entries_starts : (es : Entries) (g : Heading) (at rows : ℕ) → BeginUpTo (at + length (spelled_entries es)) (plain_entries es g at rows)
  entries_starts no_entries no_attributes at rows = none _
  entries_starts no_entries (attribute n d g) at rows = none _
  entries_starts (entry e rest) no_attributes at rows = none _
  entries_starts (entry e rest) (attribute n d g) at rows =
      let all = length-append (spelled_entry e) (spelled_entries rest) in
      joined (at + length (spelled_entries (entry e rest))) (plain_entry e d at rows) (plain_entries rest g (at + length (spelled_entry e)) rows)
      (up_to (at + length (spelled_entry e)) (at + length (spelled_entries (entry e rest))) (plain_entry e d at rows) (omega (arith, all)) (entry_starts e d at rows))
      (up_to (at + length (spelled_entry e) + length (spelled_entries rest)) (at + length (spelled_entries (entry e rest))) (plain_entries rest g (at + length (spelled_entry e)) rows) (omega (arith, all))
      (entries_starts rest g (at + length (spelled_entry e)) rows))

  bodies_starts : (bs : Bodies) (g : Heading) (at : ℕ) → BeginUpTo (at + length (spelled_bodies bs)) (plain_bodies bs g at)
  bodies_starts no_bodies g at = none _
  bodies_starts (body rows columns rest) g at =
      let all = length-append (spelled_entries columns) (spelled_bodies rest) in
      let behind = at + 4 + length (spelled_entries columns) in
      joined (at + length (spelled_bodies (body rows columns rest))) (plain_entries columns g (at + 4) rows) (plain_bodies rest g behind)
      (up_to behind (at + length (spelled_bodies (body rows columns rest))) (plain_entries columns g (at + 4) rows) (omega (arith, all)) (entries_starts columns g (at + 4) rows))
      (up_to (behind + length (spelled_bodies rest)) (at + length (spelled_bodies (body rows columns rest))) (plain_bodies rest g behind) (omega (arith, all)) (bodies_starts rest g behind))

views_starts : (at : ℕ) (vs : List ViewEntry) → BeginUpTo (at + length (flat_map spelled_view vs)) (plain_view_entries at vs)
views_starts at [] = none _
views_starts at (v ∷ vs) =
    let all = length-append (spelled_view v) (flat_map spelled_view vs) in
    let own = view_len v in
    let from = at + 8 + length (spelling v.name v.schema) in
    let behind = at + length (spelled_view v) in
    joined (at + length (flat_map spelled_view (v ∷ vs))) (plain_entries v.columns (heading_of v.schema) from v.rows) (plain_view_entries behind vs)
    (up_to (from + length (spelled_entries v.columns)) (at + length (flat_map spelled_view (v ∷ vs))) (plain_entries v.columns (heading_of v.schema) from v.rows) (omega (arith, all, own))
    (entries_starts v.columns (heading_of v.schema) from v.rows))
    (up_to (behind + length (flat_map spelled_view vs)) (at + length (flat_map spelled_view (v ∷ vs))) (plain_view_entries behind vs) (omega (arith, all)) (views_starts behind vs))

pub columns_start : (d : Dir) → All (λ (e : PlainEntry). e.start ≤ length (spelled d)) (dir_columns d)
unfolding BeginUpTo
columns_start d =
    let all = length-append (flat_map spelled_view d.views) (spelled_notes d.notes) in
    up_to (4 + length (flat_map spelled_view d.views)) (length (spelled d)) (dir_columns d) (omega (arith, all)) (views_starts 4 d.views)
