use Rattle.std.proofs.Common.{refl, rules, inr, sym, ap, ◌∙◌, ◌+◌}
use Rattle.aside_disk.proofs.Heads.{entry_here, entry_long, no_record, record_here}
use Rattle.aside_disk.specs.Records.{record_len}
use Rattle.aside_disk.proofs.walking.next_record.Goals as goal

pub returns-in_default-clause-steps : goal.returns-in_default-clause-steps
returns-in_default-clause-steps g c = λ tells.
    (refl, refl, inr (search rules, no_record _ c.args.walk.now.at c.args.walk.now.end c.args.walk.now.len c.in_ok-head.head (c.in_ok-head.ensures.head tells) (c.in_default.ensures)))

pub returns-clause-steps : goal.returns-clause-steps
returns-clause-steps g c = λ tells.
    let stands = c.in_ok-head.ensures.head tells in
    let long = c.requires.within tells in
    let passes = c.in-Some.ensures.0 in
    let l = entry_long _ c.args.walk.now.at c.args.walk.now.end c.args.walk.now.len c.in_ok-head.head stands passes long in (
      entry_here _ c.args.walk.now.at c.args.walk.now.end c.args.walk.now.len c.in_ok-head.head stands,
      record_here _ c.args.walk.now.at c.args.walk.now.end c.args.walk.now.len c.in_ok-head.head stands passes long,
      record { place = refl; len = sym l; from = refl },
      c.in-Some.ensures.1 ∙ ap (λ n. c.args.walk.now.at + record_len n) (sym l),
      rw l (search rules),
    )
