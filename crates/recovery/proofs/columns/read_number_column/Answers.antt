use Rattle.std.proofs.Common.{sym, subst, ap, arith}
use Rattle.std.specs.Prelude.{Err}
use Rattle.mk_value.specs.Kinds.{domain_of}
use Rattle.dir_codec.specs.Columns.{plain_entry}
use Rattle.dir_codec.specs.Dir.{Entry}
use Rattle.recovery.specs.Found.{HasLength, NamesUnreadable}
use Rattle.recovery.proofs.PlainColumnsRead.{number_column, number_found, numbers_entry, numbers_unread, numbers_within}
use Rattle.recovery.proofs.columns.read_number_column.Goals as goal

pub read_numbers-requires-clause-ends : goal.read_numbers-requires-clause-ends
read_numbers-requires-clause-ends g c =
    let below = numbers_within c.requires.fits.end c.args.rows (domain_of c.args.kind.now) c.args.width c.args.block c.requires.fits.has in
    let small = c.requires.fits.small in omega (arith, below, small)

pub read_numbers-requires-clause-within : goal.read_numbers-requires-clause-within
read_numbers-requires-clause-within g c = λ tells.
    let below = numbers_within c.requires.fits.end c.args.rows (domain_of c.args.kind.now) c.args.width c.args.block c.requires.fits.has in
    let within = c.requires.fits.within tells in omega (arith, below, within)

pub returns-in-Ok-clause-whole : goal.returns-in-Ok-clause-whole
returns-in-Ok-clause-whole g c = c.in-Ok.ensures.whole _ (numbers_entry c.requires.fits.end c.args.rows c.args.at (domain_of c.args.kind.now) c.args.width c.args.block c.requires.fits.has)

pub returns-in-Ok-clause-made : goal.returns-in-Ok-clause-made
returns-in-Ok-clause-made g c =
    number_found HasLength c.requires.fits.end c.args.rows c.args.at (domain_of c.args.kind.now) c.args.width c.args.block c.in-Ok.column c.requires.fits.has c.in-Ok.ensures.home c.in-Ok.ensures.made

pub returns-in-Ok-clause-column : goal.returns-in-Ok-clause-column
returns-in-Ok-clause-column g c = λ tells.
    number_column (g.D.Disk.outside c.args.disk.now).now.disk.seen c.requires.fits.end c.args.rows c.args.at (domain_of c.args.kind.now) c.args.width c.args.block c.in-Ok.column c.requires.fits.has
    c.in-Ok.ensures.home (c.in-Ok.ensures.column tells)

pub returns-in-Err-clause-unreadable : goal.returns-in-Err-clause-unreadable
returns-in-Err-clause-unreadable g c = λ tells.
    let image = (g.D.Disk.outside c.args.disk.now).now.disk.seen in
    subst (NamesUnreadable image (plain_entry (Entry.numbers c.args.width c.args.block) (domain_of c.args.kind.now) c.args.at c.args.rows)) (sym c.at_column.ensures)
    (numbers_unread image c.requires.fits.end c.args.rows c.args.at (domain_of c.args.kind.now) c.args.width c.args.block c.in-Err.error c.requires.fits.has
    (λ is. c.in-Err.ensures.unreadable tells (ap Err is)))
