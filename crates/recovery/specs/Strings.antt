-- The texts or byte strings that blocks have.
use Rattle.std.specs.Prelude.{◌≡◌, ℕ, List, length, map}
use Rattle.mk_value.specs.declared.span.Span.{Span}
use Rattle.bit_pack.specs.declared.widths.Width.{Width}
use Rattle.bytes_col.specs.Strings.{long_values, short_bytes, sizes_of}
use Rattle.bytes_col.specs.declared.home.BytesHome.{BytesHome}
use Rattle.host_io.specs.Ranges.{bytes_in}
use Rattle.commit_writes.specs.Blocks.{span_range}
use Rattle.dir_codec.specs.declared.dir.Memo.{Memo}
use Rattle.dir_codec.specs.Dir.{Entry}
use Rattle.dir_codec.specs.Columns.{PlainEntry}
use Rattle.recovery.specs.declared.contents.Content.{Content}
use Rattle.recovery.specs.Contents.{domain_of}
use Rattle.recovery.specs.Memos.{memo_bytes}
use Rattle.recovery.specs.Numbers.{AreNumbersAt, ArePackedIn}

-- the blocks of a column: the width of the sizes, their block, the block of the short values, and the memos
pub record Parts : Type 0 where
  pub width : Width
  pub sizes : Span
  pub short : Span
  pub memos : List Memo

-- the blocks are those of these values, one for each row
pub record AreStringsAt (image : List ℕ) (p : Parts) (rows : ℕ) (values : List (List ℕ)) : Type 0 where
  pub sized : AreNumbersAt image p.width p.sizes rows (sizes_of values)
  pub brief : bytes_in image (span_range p.short) ≡ short_bytes values
  pub long : memo_bytes image p.memos ≡ long_values values

-- the blocks are as long as those of these values, one for each row
pub record AreAsLong (p : Parts) (rows : ℕ) (values : List (List ℕ)) : Type 0 where
  pub sized : ArePackedIn p.width p.sizes rows (sizes_of values)
  pub brief : p.short.len ≡ length (short_bytes values)
  pub long : map (λ m. m.span.len) p.memos ≡ map length (long_values values)

-- a directory has these blocks of a column of so many texts or byte strings
pub record IsStringEntry (rows : ℕ) (content : Content) (p : Parts) (e : PlainEntry) : Type 0 where
  pub domain : e.domain ≡ domain_of content
  pub rows_are : e.rows ≡ rows
  pub entry : e.entry ≡ Entry.strings p.width p.sizes p.short p.memos

-- the home of a column that was read from these blocks
abbrev pub home_at : Parts → BytesHome
home_at p = record { sizes = p.sizes; short = p.short; memos = map (λ m. m.span) p.memos }

-- so many values, with a memo for each long one
pub record AreCounted (rows : ℕ) (p : Parts) (values : List (List ℕ)) : Type 0 where
  pub count : length values ≡ rows
  pub long : length p.memos ≡ length (long_values values)
