use Rattle.std.proofs.Common.{◌≡◌, List, MatchOption, None, Some, ap, subst}
use Rattle.std.specs.Prelude.{find}
use Rattle.mk_value.specs.Names.{same_bytes}
use Rattle.questions.specs.Kept.{Kept, Names, table_of}
use Rattle.questions.proofs.known.Known.snapshot_of.Goals as goal

pub returns : goal.returns
returns c =
    let name = c.args.name.now in
    subst (λ (kept : List Kept). MatchOption c.snapshot_of.result (find (λ (s : Kept). same_bytes s.name name) kept ≡ None)
    (λ t. find (λ (s : Kept). same_bytes s.name name) kept ≡ Some (record { name = name; table = table_of t.now })))
    (ap (λ (n : Names). n.snapshots) c.self.view_is) c.snapshot_of.ensures
