use Rattle.std.proofs.Common.{◌^◌, ◌-◌, length, sym, subst, ap, arith}
use Rattle.std.specs.Prelude.{Err}
use Rattle.mk_value.specs.Kinds.{domain_of}
use Rattle.dir_codec.specs.Columns.{PlainEntry, plain_entry}
use Rattle.dir_codec.specs.Dir.{Entry}
use Rattle.recovery.specs.Blobs.{parts_of}
use Rattle.recovery.specs.Found.{HasLength, NamesUnreadable}
use Rattle.recovery.specs.Strings.{IsStringEntry}
use Rattle.recovery.proofs.PlainColumnsRead.{ends_lower, string_column, string_found, strings_entry, strings_unread, strings_within}
use Rattle.recovery.proofs.columns.read_string_column.Goals as goal

pub read_strings-requires-clause-sizes_end : goal.read_strings-requires-clause-sizes_end
read_strings-requires-clause-sizes_end g c =
    let below = (strings_within c.requires.fits.end c.args.rows (domain_of c.args.kind.now) (parts_of c.args.blocks c.args.memos.now) c.requires.fits.has).sizes in
    let small = c.requires.fits.small in omega (arith, below, small)

pub read_strings-requires-clause-short_ends : goal.read_strings-requires-clause-short_ends
read_strings-requires-clause-short_ends g c =
    let below = (strings_within c.requires.fits.end c.args.rows (domain_of c.args.kind.now) (parts_of c.args.blocks c.args.memos.now) c.requires.fits.has).short in
    let small = c.requires.fits.small in omega (arith, below, small)

pub read_strings-requires-clause-memos_end : goal.read_strings-requires-clause-memos_end
read_strings-requires-clause-memos_end g c =
    let below = (strings_within c.requires.fits.end c.args.rows (domain_of c.args.kind.now) (parts_of c.args.blocks c.args.memos.now) c.requires.fits.has).memos in
    let small = c.requires.fits.small in
    ends_lower c.requires.fits.end (2 ^ 64 - 1) c.args.memos.now (omega (arith, small)) below

pub read_strings-requires-clause-sizes_within : goal.read_strings-requires-clause-sizes_within
read_strings-requires-clause-sizes_within g c = λ tells.
    let below = (strings_within c.requires.fits.end c.args.rows (domain_of c.args.kind.now) (parts_of c.args.blocks c.args.memos.now) c.requires.fits.has).sizes in
    let within = c.requires.fits.within tells in omega (arith, below, within)

pub read_strings-requires-clause-short_within : goal.read_strings-requires-clause-short_within
read_strings-requires-clause-short_within g c = λ tells.
    let below = (strings_within c.requires.fits.end c.args.rows (domain_of c.args.kind.now) (parts_of c.args.blocks c.args.memos.now) c.requires.fits.has).short in
    let within = c.requires.fits.within tells in omega (arith, below, within)

pub read_strings-requires-clause-memos_within : goal.read_strings-requires-clause-memos_within
read_strings-requires-clause-memos_within g c = λ tells.
    ends_lower c.requires.fits.end (length (g.D.Disk.outside c.args.disk.now).now.disk.seen) c.args.memos.now (c.requires.fits.within tells)
    (strings_within c.requires.fits.end c.args.rows (domain_of c.args.kind.now) (parts_of c.args.blocks c.args.memos.now) c.requires.fits.has).memos

pub returns-in-Ok-clause-whole : goal.returns-in-Ok-clause-whole
returns-in-Ok-clause-whole g c =
    let p = parts_of c.args.blocks c.args.memos.now in
    let x : PlainEntry = record { start = c.args.at; domain = domain_of c.args.kind.now; rows = c.args.rows; entry = Entry.strings p.width p.sizes p.short p.memos } in
    c.in-Ok.ensures.whole x (subst (λ k. IsStringEntry c.args.rows k p x) (sym c.content_of.ensures)
    (strings_entry c.requires.fits.end c.args.rows c.args.at (domain_of c.args.kind.now) p c.requires.fits.has))

pub returns-in-Ok-clause-made : goal.returns-in-Ok-clause-made
returns-in-Ok-clause-made g c =
    let p = parts_of c.args.blocks c.args.memos.now in
    string_found HasLength c.requires.fits.end c.args.rows c.args.at (domain_of c.args.kind.now) p c.in-Ok.column c.requires.fits.has c.in-Ok.ensures.home
    (λ x is. c.in-Ok.ensures.made x (subst (λ k. IsStringEntry c.args.rows k p x) (sym c.content_of.ensures) is))

pub returns-in-Ok-clause-column : goal.returns-in-Ok-clause-column
returns-in-Ok-clause-column g c = λ tells.
    let p = parts_of c.args.blocks c.args.memos.now in
    string_column (g.D.Disk.outside c.args.disk.now).now.disk.seen c.requires.fits.end c.args.rows c.args.at (domain_of c.args.kind.now) p c.in-Ok.column c.requires.fits.has c.in-Ok.ensures.home
    (λ x is. c.in-Ok.ensures.column tells x (subst (λ k. IsStringEntry c.args.rows k p x) (sym c.content_of.ensures) is))

pub returns-in-Err-clause-unreadable : goal.returns-in-Err-clause-unreadable
returns-in-Err-clause-unreadable g c = λ tells.
    let image = (g.D.Disk.outside c.args.disk.now).now.disk.seen in
    let p = parts_of c.args.blocks c.args.memos.now in
    subst (NamesUnreadable image (plain_entry (Entry.strings p.width p.sizes p.short p.memos) (domain_of c.args.kind.now) c.args.at c.args.rows)) (sym c.at_column.ensures)
    (strings_unread image c.requires.fits.end c.args.rows c.args.at (domain_of c.args.kind.now) p c.in-Err.error c.requires.fits.has
    (λ is x entry. c.in-Err.ensures.unreadable tells (ap Err is) x (subst (λ k. IsStringEntry c.args.rows k p x) (sym c.content_of.ensures) entry)))
