use Rattle.std.proofs.Common.{◌<◌, length, Some, ap, sym, ◌∙◌, arith}
use Rattle.view_store.proofs.Named.{IsPlace-position, IsAbsent-position}
use Rattle.view_store.proofs.Roots.{found_table, absent_table}
use Rattle.view_store.proofs.root.Root.table.Goals as goal

pub returns-in-Some : goal.returns-in-Some
returns-in-Some c =
    let names = c.self.inside.names in
    let tables = c.self.inside.tables.items in
    let root = c.self.invariant in
    let at = c.in-Some.at in
    let place = IsPlace-position names c.args.name.now at (sym c.place_in.ensures ∙ c.in-Some.is) in
    let within : at < length tables = let paired = root.paired in let here = place.within in omega arith in
    found_table names tables c.args.self.now c.args.name.now at c.index.result.now c.self.view_is root.paired place within c.index.ensures ∙ ap Some (sym c.table.ensures)

pub returns-in-None : goal.returns-in-None
returns-in-None c =
    let names = c.self.inside.names in
    let absent = IsAbsent-position names c.args.name.now (sym c.place_in.ensures ∙ c.in-None.is) in
    absent_table names c.self.inside.tables.items c.args.self.now c.args.name.now c.self.view_is c.self.invariant.paired absent
