use Rattle.std.proofs.Common.{◌≡◌, ◌<◌, ◌≤◌, length, get_or}
use Rattle.free_space.specs.Cursors.{IsCursor}
use Rattle.free_space.proofs.CursorLemmas.{cursor_longer}
use Rattle.free_space.proofs.free_map.FreeMap.cursor_place.Goals as goal

pub returns-in-Some : goal.returns-in-Some
returns-in-Some c =
    let cursor = c.index.result.now in
    let cursors = c.self.inside.cursors.items in
    let is : cursor ≡ get_or cursors c.in-Some.at cursor = c.index.ensures in
    let within : c.in-Some.at < length cursors = rw c.deref.ensures.value at c.in-Some.ensures.within in
    let there : IsCursor c.self.inside.floor c.self.inside.used.items (get_or cursors c.in-Some.at cursor) = c.self.invariant.2 c.in-Some.at cursor within in
    let here : IsCursor c.self.inside.floor c.self.inside.used.items cursor = rw (← is) at there in
    let long : (get_or cursors c.in-Some.at cursor).len ≤ c.args.len = rw c.deref.ensures.value at (c.in-Some.ensures.fits cursor) in
    let fits : cursor.len ≤ c.args.len = rw (← is) at long in
    rw (← c.self.view_is) (cursor_longer c.self.inside.floor c.self.inside.used.items cursor c.args.len fits here)
