-- Each table inside a column is smaller, so that going down into them ends.
use Rattle.std.specs.Prelude.{◌≡◌, ◌≤◌, List, [], ◌∷◌, map, refl}
use Rattle.std.proofs.Common.{arith}
use denote.Param.Weighed.{most}
use Rattle.dir_codec.specs.Dir.{Entry, Body, entries_from, bodies_from}
use Rattle.dir_codec.specs.DirCode.{entry_weight, entries_weight, bodies_weight, columns_weight, tables_weight}
use Rattle.dir_codec.specs.Values.{entry_of, body_of}
use Rattle.dir_codec.specs.declared.dir.DirCol.{DirCol}
use Rattle.dir_codec.specs.declared.dir.DirCol.TheVariants.{Ints, Blobs, Views}
use Rattle.dir_codec.specs.declared.dir.DirBody.{DirBody}
use Rattle.dir_codec.specs.declared.dir.DirBodies.TheDeep.{deep-DirBodies, deep-DirBody, deep-DirCol, deep-DirCols}
use Rattle.dir_codec.specs.declared.dir.DirCols.TheInside as columns
use Rattle.dir_codec.specs.declared.dir.DirBodies.TheInside as bodies

entries_weight-from : (es : List Entry) → entries_weight (entries_from es) ≡ columns_weight es
entries_weight-from [] = refl
entries_weight-from (e ∷ rest) = let r = entries_weight-from rest in omega (arith, r)

pub bodies_weight-from : (bs : List Body) → bodies_weight (bodies_from bs) ≡ tables_weight bs
bodies_weight-from [] = refl
bodies_weight-from (b ∷ rest) = let c = entries_weight-from b.columns in let r = bodies_weight-from rest in omega (arith, c, r)

column_bound : (c : DirCol) → deep-DirCol c ≤ entry_weight (entry_of c)
column_bound (Ints w s) = omega arith
column_bound (Blobs w s x memos) = omega arith
column_bound (Views bs) = omega (arith, bodies_weight-from bs)

most-columns : (cs : List DirCol) → most deep-DirCol cs ≤ columns_weight (map entry_of cs)
most-columns [] = omega arith
most-columns (c ∷ rest) = omega (arith, column_bound c, most-columns rest)

most-bodies : (bs : List DirBody) → most deep-DirBody bs ≤ tables_weight (map body_of bs)
most-bodies [] = omega arith
most-bodies (b ∷ rest) = omega (arith, most-bodies rest)

pub columns_fall : (a : columns.Inside) → deep-DirCols a ≤ columns_weight (map entry_of a.items.items)
columns_fall a = omega (arith, most-columns a.items.items)

pub tables_fall : (a : bodies.Inside) → deep-DirBodies a ≤ tables_weight (map body_of a.items.items)
tables_fall a = omega (arith, most-bodies a.items.items)
