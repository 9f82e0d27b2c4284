use Rattle.std.proofs.Common.{ℕ, List, refl, subst, sym, ◌∙◌}
use Rattle.std.specs.Option.{IsSome}
use Rattle.mk_value.specs.Names.{same_bytes}
use Rattle.watches.proofs.Finding.{position_some}
use Rattle.watches.proofs.followed.place_of_name.Goals as goal

pub unwrap-requires : goal.unwrap-requires
unwrap-requires c =
    let test = λ (known : List ℕ). same_bytes known c.args.name.now in
    subst IsSome (sym (c.find_name.ensures ∙ position_some test c.args.names.now c.requires)) refl
