use Rattle.std.proofs.Common.{◌≡◌, sym, ap, ◌∙◌, map, arith}
use Rattle.std.proofs.lemmas.Bool.{OnTrue_at, OnTrue_from}
use Rattle.tables.specs.Columns.{home_of}
use Rattle.tables.proofs.SameHomes.{same_empty}
use Rattle.tables.proofs.table.Table.is_same_empty.Goals as goal

pub returns : goal.returns
returns c =
    let same : c.self.inside.schema ≡ c.other.inside.schema = sym c.get-ours.ensures ∙ c.is_same.ensures.0 c.if-not-is_same.false ∙ c.get-theirs.ensures in
    OnTrue_from c.have_same_empty_homes.result _
    (λ yes. sym c.self.view_is
    ∙ same_empty c.self.inside.rows c.other.inside.rows c.self.inside.schema c.other.inside.schema c.self.inside.cols c.other.inside.cols (omega arith) (omega arith) same
    (ap (map home_of) (sym c.as_slice.ensures) ∙ OnTrue_at yes c.have_same_empty_homes.ensures ∙ ap (map home_of) c.as_slice-2.ensures)
    ∙ c.other.view_is)
