use Rattle.std.proofs.Common.{◌∙◌, ap, sym, take, drop, length}
use Rattle.mk_value.specs.Kinds.{domain_of}
use Rattle.tables.specs.Stored.{stored_of}
use Rattle.tables.proofs.Reading.{numbers_read}
use Rattle.tables.proofs.column.Column.fill.Goals as goal

pub returns : goal.returns
returns c =
    c.read.ensures
    ∙ ap (λ zs. take (length c.args.into.now) (drop c.args.from zs))
    (sym (numbers_read (domain_of c.args.self.now.kind.now) (stored_of c.args.self.now.col.now) c.ints.result.now c.requires.numbers c.ints.ensures))
