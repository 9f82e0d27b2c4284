use Rattle.std.proofs.Common.{ℤ, List, ◌∙◌, length, take, drop, get_or, map, pos, ap, sym}
use Rattle.mk_value.specs.Data.{Datum, integer}
use Rattle.mk_value.specs.Tables.{number_in}
use Rattle.tables.proofs.Slices.{map_sliced, sliced_again}
use Rattle.tables.proofs.slice.Slice.fill.Goals as goal

pub returns : goal.returns
returns c =
    let s = c.args.self.now in
    let number = λ (row : List Datum). number_in (get_or row c.args.col (integer (pos 0))) in
    let n = length c.args.into.now in
    c.fill.ensures
    ∙ sym (ap (λ (zs : List ℤ). take n (drop c.args.from zs)) (map_sliced number s.from s.count s.table.now.rows) ∙ sliced_again s.from s.count c.args.from n (map number s.table.now.rows) c.requires.rows_in)
