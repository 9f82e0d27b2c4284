use Rattle.std.proofs.Common.{refl, subst, sym, ◌∙◌}
use Rattle.std.specs.Option.{IsSome}
use Rattle.watches.specs.Keeping.{Kept, followed_of}
use Rattle.watches.specs.Watches.{is_among}
use Rattle.watches.proofs.Finding.{position_some}
use Rattle.watches.proofs.listed.at.Goals as goal

pub unwrap-requires : goal.unwrap-requires
unwrap-requires c =
    let test = λ (k : Kept). is_among (followed_of k).watches c.args.name.now in
    subst IsSome (sym (c.find.ensures ∙ position_some test c.args.list.now c.requires)) refl
