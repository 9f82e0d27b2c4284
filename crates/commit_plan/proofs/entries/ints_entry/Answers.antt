use Rattle.std.proofs.Common.{◌∙◌, ap}
use Rattle.bit_pack.proofs.Least.{least_is}
use Rattle.dir_codec.specs.Dir.{Entry}
use Rattle.commit_plan.specs.Entries.{numbers_entry}
use Rattle.commit_plan.proofs.entries.ints_entry.Goals as goal

pub returns-in-Some : goal.returns-in-Some
returns-in-Some c =
    ap (λ w. Entry.numbers w c.in-Some.span) (least_is c.width.result c.args.column.now.values c.width.ensures) ∙ ap (λ h. numbers_entry c.args.column.now h) c.in-Some.ensures
