-- A plain column that is read is the one of its entry.
use Rattle.std.proofs.Common.{◌≡◌, ◌≢◌, ℕ, ◌+◌, ◌≤◌, ⊎_elim, inl, inr, Some, List, [], ◌∷◌, map, All, refl, ap, sym, subst, ◌∙◌, arith}
use Rattle.std.specs.Prelude.{Option}
use Rattle.std.proofs.lemmas.List.Elements.{All-cons, All-nil}
use Rattle.mk_value.specs.declared.span.Span.{Span}
use Rattle.mk_value.specs.Heading.{Domain}
use Rattle.mk_value.specs.Data.{Datum}
use Rattle.bit_pack.specs.declared.widths.Width.{Width}
use Rattle.bytes_col.specs.Strings.{Strings}
use Rattle.bytes_col.specs.declared.home.BytesHome.{BytesHome}
use Rattle.int_col.specs.Numbers.{Numbers}
use Rattle.free_space.specs.Sites.{IsSite, no_span}
use Rattle.free_space.proofs.ExtentLemmas.{le-extent_len}
use Rattle.commit_writes.specs.Blocks.{Block, StandsAt}
use Rattle.dir_codec.specs.declared.dir.Memo.{Memo}
use Rattle.dir_codec.specs.Columns.{PlainEntry, plain_entry}
use Rattle.dir_codec.specs.Dir.{AreMemos, Entry, IsEntry, IsSpan}
use Rattle.tables.specs.Homes.{Home, no_home, numbers, strings}
use Rattle.tables.specs.Blocks.{plain_in}
use Rattle.tables.specs.Columns.{column_values, home_of, home_of_numbers, home_of_strings, integers, texts}
use Rattle.recovery.specs.declared.error.ReadError.{ReadError}
use Rattle.recovery.specs.declared.error.ReadError.TheVariants as read_error
use Rattle.recovery.specs.Commits.{entry_of}
use Rattle.recovery.specs.Contents.{content_in}
use Rattle.recovery.specs.Found.{IsColumnFound, IsColumnRead, IsFound, NamesUnreadable, located}
use Rattle.recovery.specs.Memos.{EndWithin}
use Rattle.recovery.specs.Numbers.{IsNumberEntry}
use Rattle.recovery.specs.Reading.{IsColumnBy, IsColumnOf, IsReadable, home_in}
use Rattle.recovery.specs.Strings.{IsStringEntry, Parts, home_at}
use Rattle.recovery.proofs.FirstUnreadable.{one_unreadable}

-- where the blocks of a column end
span_within : (end : ℕ) (span : Span) → IsSpan end span → span.place + span.len ≤ end
span_within end span =
    ⊎_elim (λ (none : span ≡ no_span). (let p : span.place ≡ 0 = ap (λ (s : Span). s.place) none in let q : span.len ≡ 0 = ap (λ (s : Span). s.len) none in omega (arith, p, q)))
    (λ (site : IsSite end span). (let p = site.within in let q = le-extent_len span.len in omega (arith, p, q)))

pub numbers_within : (end rows : ℕ) (e : Domain) (w : Width) (block : Span) → IsEntry end rows e (Entry.numbers w block) → block.place + block.len ≤ end
numbers_within end rows Domain.integer w block h = span_within end block h.span
numbers_within end rows Domain.long w block h = span_within end block h.span
numbers_within end rows Domain.text w block h = absurd h
numbers_within end rows Domain.bytes w block h = absurd h
numbers_within end rows (Domain.relation g) w block h = absurd h

memos_within : (end rows least : ℕ) (memos : List Memo) → AreMemos end rows least memos → EndWithin end memos
memos_within end rows least [] h = All-nil (λ (m : Memo). m.span.place + m.span.len ≤ end)
memos_within end rows least (m ∷ memos) h =
    All-cons (λ (m : Memo). m.span.place + m.span.len ≤ end) m memos (span_within end m.span (inr h.2)) (memos_within end rows (m.row + 1) memos h.5)

pub record EndBelow (end : ℕ) (p : Parts) : Type 0 where
  pub sizes : p.sizes.place + p.sizes.len ≤ end
  pub short : p.short.place + p.short.len ≤ end
  pub memos : EndWithin end p.memos

pub strings_within : (end rows : ℕ) (e : Domain) (p : Parts) → IsEntry end rows e (Entry.strings p.width p.sizes p.short p.memos) → EndBelow end p
strings_within end rows Domain.integer p h = absurd h
strings_within end rows Domain.long p h = absurd h
strings_within end rows Domain.text p h = record { sizes = span_within end p.sizes h.sizes_are.span; short = span_within end p.short h.short_is; memos = memos_within end rows 0 p.memos h.memos_are }
strings_within end rows Domain.bytes p h = record { sizes = span_within end p.sizes h.sizes_are.span; short = span_within end p.short h.short_is; memos = memos_within end rows 0 p.memos h.memos_are }
strings_within end rows (Domain.relation g) p h = absurd h

pub ends_lower : (end len : ℕ) (memos : List Memo) → end ≤ len → EndWithin end memos → EndWithin len memos
ends_lower end len memos p h = λ k d within. (let q = h k d within in omega (arith, p, q))

pub numbers_entry : (end rows at : ℕ) (e : Domain) (w : Width) (block : Span) → IsEntry end rows e (Entry.numbers w block) → IsNumberEntry rows w block (record { start = at; domain = e; rows = rows; entry = Entry.numbers w block })
numbers_entry end rows at Domain.integer w block h = record { domain = inl (refl, h.narrow); rows_are = refl; entry = refl }
numbers_entry end rows at Domain.long w block h = record { domain = inr refl; rows_are = refl; entry = refl }
numbers_entry end rows at Domain.text w block h = absurd h
numbers_entry end rows at Domain.bytes w block h = absurd h
numbers_entry end rows at (Domain.relation g) w block h = absurd h

pub strings_entry : (end rows at : ℕ) (e : Domain) (p : Parts) → IsEntry end rows e (Entry.strings p.width p.sizes p.short p.memos)
    → IsStringEntry rows (content_in e) p (record { start = at; domain = e; rows = rows; entry = Entry.strings p.width p.sizes p.short p.memos })
strings_entry end rows at Domain.integer p h = absurd h
strings_entry end rows at Domain.long p h = absurd h
strings_entry end rows at Domain.text p h = record { domain = refl; rows_are = refl; entry = refl }
strings_entry end rows at Domain.bytes p h = record { domain = refl; rows_are = refl; entry = refl }
strings_entry end rows at (Domain.relation g) p h = absurd h

-- a plain column of its entry
module _ (P : Block → Type 0) (e : Domain) (own : Entry) (rows at : ℕ) (values : List Datum) (h : Home)
    (is : IsColumnBy P (record { start = at; domain = e; rows = rows; entry = own }) values) (home : h ≡ home_in own) (some : home_in own ≢ no_home)
    (one : plain_in (home_in own) e values ≡ (record { domain = e; values = values; home = home_in own }) ∷ []) where
  found_there : All (IsFound P) (plain_in h e values)
  found_there = subst (λ k. All (IsFound P) (plain_in k e values)) (sym home) (subst (All (IsFound P)) (sym one)
      (All-cons (IsFound P) (record { domain = e; values = values; home = home_in own }) [] (record { homed = some; blocks = is.blocks }) (All-nil (IsFound P))))

  entry_there : own ≡ entry_of h e values
  entry_there = is.entry ∙ ap (λ k. entry_of k e values) (sym home)

-- it is readable
readable_there : (image : List ℕ) (e : Domain) (own : Entry) (rows at : ℕ) (values : List Datum) → IsColumnOf image (record { start = at; domain = e; rows = rows; entry = own }) values
    → plain_entry own e at rows ≡ (record { start = at; domain = e; rows = rows; entry = own }) ∷ [] → All (IsReadable image) (plain_entry own e at rows)
readable_there image e own rows at values is alone =
    subst (All (IsReadable image)) (sym alone) (All-cons (IsReadable image) (record { start = at; domain = e; rows = rows; entry = own }) [] (values, is) (All-nil (IsReadable image)))

home_is_numbers : (home : Option Span) (block : Span) → home ≡ Some block → home_of_numbers home ≡ numbers block
home_is_numbers home block e = ap home_of_numbers e

-- the numbers that are read are the column of the entry
pub number_found : (P : Block → Type 0) (end rows at : ℕ) (e : Domain) (w : Width) (block : Span) (c : Numbers) → IsEntry end rows e (Entry.numbers w block) → c.home ≡ Some block
    → ((x : PlainEntry) → IsNumberEntry rows w block x → IsColumnBy P x (column_values x.domain (integers c))) → IsColumnFound P e (Entry.numbers w block) (integers c)
number_found P end rows at Domain.integer w block c h home column =
    let own = Entry.numbers w block in
    let is = column (record { start = at; domain = Domain.integer; rows = rows; entry = own }) (numbers_entry end rows at Domain.integer w block h) in
    let values = column_values Domain.integer (integers c) in
    let same = home_is_numbers c.home block home in
    record {
      entry = entry_there P Domain.integer own rows at values (home_of (integers c)) is same (λ e. cc) refl;
      found = found_there P Domain.integer own rows at values (home_of (integers c)) is same (λ e. cc) refl;
    }
number_found P end rows at Domain.long w block c h home column =
    let own = Entry.numbers w block in
    let is = column (record { start = at; domain = Domain.long; rows = rows; entry = own }) (numbers_entry end rows at Domain.long w block h) in
    let values = column_values Domain.long (integers c) in
    let same = home_is_numbers c.home block home in
    record {
      entry = entry_there P Domain.long own rows at values (home_of (integers c)) is same (λ e. cc) refl;
      found = found_there P Domain.long own rows at values (home_of (integers c)) is same (λ e. cc) refl;
    }
number_found P end rows at Domain.text w block c h home column = absurd h
number_found P end rows at Domain.bytes w block c h home column = absurd h
number_found P end rows at (Domain.relation g) w block c h home column = absurd h

pub number_column : (image : List ℕ) (end rows at : ℕ) (e : Domain) (w : Width) (block : Span) (c : Numbers) → IsEntry end rows e (Entry.numbers w block) → c.home ≡ Some block
    → ((x : PlainEntry) → IsNumberEntry rows w block x → IsColumnOf image x (column_values x.domain (integers c))) → IsColumnRead image e (Entry.numbers w block) rows at (integers c)
number_column image end rows at Domain.integer w block c h home column = record {
  column = number_found (StandsAt image) end rows at Domain.integer w block c h home column;
  readable = readable_there image Domain.integer (Entry.numbers w block) rows at (column_values Domain.integer (integers c)) (column _ (numbers_entry end rows at Domain.integer w block h)) refl;
}
number_column image end rows at Domain.long w block c h home column = record {
  column = number_found (StandsAt image) end rows at Domain.long w block c h home column;
  readable = readable_there image Domain.long (Entry.numbers w block) rows at (column_values Domain.long (integers c)) (column _ (numbers_entry end rows at Domain.long w block h)) refl;
}
number_column image end rows at Domain.text w block c h home column = absurd h
number_column image end rows at Domain.bytes w block c h home column = absurd h
number_column image end rows at (Domain.relation g) w block c h home column = absurd h

home_is_strings : (home : Option BytesHome) (p : Parts) → home ≡ Some (home_at p) → home_of_strings home ≡ strings p.sizes p.short (map (λ (m : Memo). m.span) p.memos)
home_is_strings home p e = ap home_of_strings e

-- the texts or byte strings that are read are the column of the entry
pub string_found : (P : Block → Type 0) (end rows at : ℕ) (e : Domain) (p : Parts) (c : Strings) → IsEntry end rows e (Entry.strings p.width p.sizes p.short p.memos) → c.home ≡ Some (home_at p)
    → ((x : PlainEntry) → IsStringEntry rows (content_in e) p x → IsColumnBy P x (column_values x.domain (texts c))) → IsColumnFound P e (Entry.strings p.width p.sizes p.short p.memos) (texts c)
string_found P end rows at Domain.integer p c h home column = absurd h
string_found P end rows at Domain.long p c h home column = absurd h
string_found P end rows at Domain.text p c h home column =
    let own = Entry.strings p.width p.sizes p.short p.memos in
    let is = column (record { start = at; domain = Domain.text; rows = rows; entry = own }) (strings_entry end rows at Domain.text p h) in
    let values = column_values Domain.text (texts c) in
    let same = home_is_strings c.home p home in
    record {
      entry = entry_there P Domain.text own rows at values (home_of (texts c)) is same (λ e. cc) refl;
      found = found_there P Domain.text own rows at values (home_of (texts c)) is same (λ e. cc) refl;
    }
string_found P end rows at Domain.bytes p c h home column =
    let own = Entry.strings p.width p.sizes p.short p.memos in
    let is = column (record { start = at; domain = Domain.bytes; rows = rows; entry = own }) (strings_entry end rows at Domain.bytes p h) in
    let values = column_values Domain.bytes (texts c) in
    let same = home_is_strings c.home p home in
    record {
      entry = entry_there P Domain.bytes own rows at values (home_of (texts c)) is same (λ e. cc) refl;
      found = found_there P Domain.bytes own rows at values (home_of (texts c)) is same (λ e. cc) refl;
    }
string_found P end rows at (Domain.relation g) p c h home column = absurd h

pub string_column : (image : List ℕ) (end rows at : ℕ) (e : Domain) (p : Parts) (c : Strings) → IsEntry end rows e (Entry.strings p.width p.sizes p.short p.memos) → c.home ≡ Some (home_at p)
    → ((x : PlainEntry) → IsStringEntry rows (content_in e) p x → IsColumnOf image x (column_values x.domain (texts c))) → IsColumnRead image e (Entry.strings p.width p.sizes p.short p.memos) rows at (texts c)
string_column image end rows at Domain.integer p c h home column = absurd h
string_column image end rows at Domain.long p c h home column = absurd h
string_column image end rows at Domain.text p c h home column = record {
  column = string_found (StandsAt image) end rows at Domain.text p c h home column;
  readable = readable_there image Domain.text (Entry.strings p.width p.sizes p.short p.memos) rows at (column_values Domain.text (texts c)) (column _ (strings_entry end rows at Domain.text p h)) refl;
}
string_column image end rows at Domain.bytes p c h home column = record {
  column = string_found (StandsAt image) end rows at Domain.bytes p c h home column;
  readable = readable_there image Domain.bytes (Entry.strings p.width p.sizes p.short p.memos) rows at (column_values Domain.bytes (texts c)) (column _ (strings_entry end rows at Domain.bytes p h)) refl;
}
string_column image end rows at (Domain.relation g) p c h home column = absurd h

-- one that is not read is the first of its own
pub numbers_unread : (image : List ℕ) (end rows at : ℕ) (e : Domain) (w : Width) (block : Span) (error : ReadError) → IsEntry end rows e (Entry.numbers w block)
    → (error ≡ read_error.Unreadable → (x : PlainEntry) → IsNumberEntry rows w block x → ¬ IsReadable image x) → NamesUnreadable image (plain_entry (Entry.numbers w block) e at rows) (located at error)
numbers_unread image end rows at e w block read_error.Failed h unreadable = tt
numbers_unread image end rows at e w block read_error.Memory h unreadable = tt
numbers_unread image end rows at Domain.integer w block read_error.Unreadable h unreadable =
    one_unreadable image (record { start = at; domain = Domain.integer; rows = rows; entry = Entry.numbers w block }) (unreadable refl _ (numbers_entry end rows at Domain.integer w block h))
numbers_unread image end rows at Domain.long w block read_error.Unreadable h unreadable =
    one_unreadable image (record { start = at; domain = Domain.long; rows = rows; entry = Entry.numbers w block }) (unreadable refl _ (numbers_entry end rows at Domain.long w block h))
numbers_unread image end rows at Domain.text w block read_error.Unreadable h unreadable = absurd h
numbers_unread image end rows at Domain.bytes w block read_error.Unreadable h unreadable = absurd h
numbers_unread image end rows at (Domain.relation g) w block read_error.Unreadable h unreadable = absurd h

pub strings_unread : (image : List ℕ) (end rows at : ℕ) (e : Domain) (p : Parts) (error : ReadError) → IsEntry end rows e (Entry.strings p.width p.sizes p.short p.memos)
    → (error ≡ read_error.Unreadable → (x : PlainEntry) → IsStringEntry rows (content_in e) p x → ¬ IsReadable image x) → NamesUnreadable image (plain_entry (Entry.strings p.width p.sizes p.short p.memos) e at rows) (located at error)
strings_unread image end rows at e p read_error.Failed h unreadable = tt
strings_unread image end rows at e p read_error.Memory h unreadable = tt
strings_unread image end rows at Domain.text p read_error.Unreadable h unreadable =
    one_unreadable image (record { start = at; domain = Domain.text; rows = rows; entry = Entry.strings p.width p.sizes p.short p.memos }) (unreadable refl _ (strings_entry end rows at Domain.text p h))
strings_unread image end rows at Domain.bytes p read_error.Unreadable h unreadable =
    one_unreadable image (record { start = at; domain = Domain.bytes; rows = rows; entry = Entry.strings p.width p.sizes p.short p.memos }) (unreadable refl _ (strings_entry end rows at Domain.bytes p h))
strings_unread image end rows at Domain.integer p read_error.Unreadable h unreadable = absurd h
strings_unread image end rows at Domain.long p read_error.Unreadable h unreadable = absurd h
strings_unread image end rows at (Domain.relation g) p read_error.Unreadable h unreadable = absurd h
