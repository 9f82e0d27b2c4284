use Rattle.std.proofs.Common.{refl, subst, sym, ◌∙◌}
use Rattle.std.specs.Option.{IsSome}
use Rattle.mk_value.specs.Names.{same_bytes}
use Rattle.keyed_views.specs.declared.kept.Kept.{Kept}
use Rattle.keyed_views.proofs.Finding.{position_some}
use Rattle.keyed_views.proofs.list.at.Goals as goal

pub unwrap-requires : goal.unwrap-requires
unwrap-requires c =
    subst IsSome (sym (c.find.ensures ∙ position_some (λ (k : Kept). same_bytes k.view c.args.view.now) c.args.list.now c.requires)) refl
