use Rattle.std.proofs.Common.{◌≡◌, ◌+◌, ◌≤◌, length, map, All, refl, sym, subst, arith}
use Rattle.std.proofs.lemmas.Result.{err_from_is_err_and}
use Rattle.std.proofs.lemmas.List.{length-map}
use Rattle.host_io.specs.Outside.{Moment}
use Rattle.host_io.proofs.Faults.{CountsFaults-joins}
use Rattle.block_io.proofs.Looking.{looks_joins}
use Rattle.mk_value.specs.Heading.{heading_of}
use Rattle.mk_value.proofs.Walks.{drop_map_read}
use Rattle.struct_text.specs.Spelling.{spelling}
use Rattle.commit_writes.specs.Blocks.{StandsAt}
use Rattle.dir_codec.specs.Columns.{plain_entries}
use Rattle.dir_codec.specs.Values.{view_of}
use Rattle.recovery.specs.Found.{IsTableFound, NamesUnreadable}
use Rattle.recovery.specs.Reading.{IsReadable}
use Rattle.recovery.proofs.ReadSoFar.{take_map_read}
use Rattle.recovery.proofs.Roots.{views_shaped, whole_views}
use Rattle.recovery.proofs.ViewsSoFar.{next_view, view_room, view_unread, views_end, views_grow}
use Rattle.recovery.proofs.views.read_views.Goals as goal

pub overflow_add-columns : goal.overflow_add-columns
overflow_add-columns g c =
    let k = c.loop-view.view-index in
    let v = view_of c.view-item.result in
    let left = drop_map_read view_of c.args.views.now k c.view-item.result c.loop-view-test.true c.view-item.is in
    let done = take_map_read view_of c.args.views.now k c.view-item.result c.loop-view-test.true c.view-item.is in
    let room = view_room g.D.Disk.tells (g.D.Disk.outside c.args.disk.now).now.disk.seen (map view_of c.args.views.now) k c.loop-view.at c.loop-view.names c.loop-view.tables.items c.loop-view.invariant.so v left done c.requires.room in
    let long : c.in_ok-structure.structure ≡ length (spelling v.name v.schema) = c.in_ok-structure.ensures in
    record { fits = omega (arith, room, long) }

pub overflow_add-columns-in-loop-view : goal.overflow_add-columns-in-loop-view
overflow_add-columns-in-loop-view g c =
    let k = c.loop-view.view-index in
    let v = view_of c.view-item.result in
    let left = drop_map_read view_of c.args.views.now k c.view-item.result c.loop-view-test.true c.view-item.is in
    let done = take_map_read view_of c.args.views.now k c.view-item.result c.loop-view-test.true c.view-item.is in
    let room = view_room g.D.Disk.tells (g.D.Disk.outside c.args.disk.now).now.disk.seen (map view_of c.args.views.now) k c.loop-view.at c.loop-view.names c.loop-view.tables.items c.loop-view.invariant.so v left done c.requires.room in
    let long : c.in_ok-structure.structure ≡ length (spelling v.name v.schema) = c.in_ok-structure.ensures in
    record { fits = omega (arith, room, long) }

pub read_root_table-requires-clause-few : goal.read_root_table-requires-clause-few
read_root_table-requires-clause-few g c =
    let k = c.loop-view.view-index in
    let left = drop_map_read view_of c.args.views.now k c.view-item.result c.loop-view-test.true c.view-item.is in
    (next_view c.requires.fits.end k (map view_of c.args.views.now) (view_of c.view-item.result) left c.requires.fits.has.each).few

pub read_root_table-requires-clause-fits : goal.read_root_table-requires-clause-fits
read_root_table-requires-clause-fits g c =
    let k = c.loop-view.view-index in
    let left = drop_map_read view_of c.args.views.now k c.view-item.result c.loop-view-test.true c.view-item.is in
    record {
      end = c.requires.fits.end;
      small = c.requires.fits.small;
      within = λ tells. subst (λ (m : Moment). c.requires.fits.end ≤ length m.disk.seen) (sym (c.loop-view.invariant.same tells).still.now) (c.requires.fits.within tells);
      has = (next_view c.requires.fits.end k (map view_of c.args.views.now) (view_of c.view-item.result) left c.requires.fits.has.each).entries;
    }

pub read_root_table-requires-clause-room : goal.read_root_table-requires-clause-room
read_root_table-requires-clause-room g c =
    let k = c.loop-view.view-index in
    let v = view_of c.view-item.result in
    let left = drop_map_read view_of c.args.views.now k c.view-item.result c.loop-view-test.true c.view-item.is in
    let done = take_map_read view_of c.args.views.now k c.view-item.result c.loop-view-test.true c.view-item.is in
    let room = view_room g.D.Disk.tells (g.D.Disk.outside c.args.disk.now).now.disk.seen (map view_of c.args.views.now) k c.loop-view.at c.loop-view.names c.loop-view.tables.items c.loop-view.invariant.so v left done c.requires.room in
    let long : c.in_ok-structure.structure ≡ length (spelling v.name v.schema) = c.in_ok-structure.ensures in
    omega (arith, room, long)

pub returns-in_err-table-clause-unreadable : goal.returns-in_err-table-clause-unreadable
returns-in_err-table-clause-unreadable g c = λ tells.
    let k = c.loop-view.view-index in
    let v = view_of c.view-item.result in
    let image = (g.D.Disk.outside c.args.disk.now).now.disk.seen in
    let left = drop_map_read view_of c.args.views.now k c.view-item.result c.loop-view-test.true c.view-item.is in
    let done = take_map_read view_of c.args.views.now k c.view-item.result c.loop-view-test.true c.view-item.is in
    let long : c.in_ok-structure.structure ≡ length (spelling v.name v.schema) = c.in_ok-structure.ensures in
    let at : c.loop-view.at + c.in_ok-structure.structure + 8 ≡ c.loop-view.at + 8 + length (spelling v.name v.schema) = omega (arith, long) in
    let p = err_from_is_err_and c.from_residual-in_err-table.result c.from_residual-in_err-table.ensures.1 in
    rw (p.1, p.2)
    (view_unread g.D.Disk.tells image (map view_of c.args.views.now) k c.loop-view.at c.loop-view.names c.loop-view.tables.items c.loop-view.invariant.so v left done c.in_err-table.field-0.0 tells
    (subst (λ n. NamesUnreadable image (plain_entries v.columns (heading_of v.schema) n v.rows) c.in_err-table.field-0.0) at
    (subst (λ (m : Moment). NamesUnreadable m.disk.seen (plain_entries v.columns (heading_of v.schema) (c.loop-view.at + c.in_ok-structure.structure + 8) v.rows) c.in_err-table.field-0.0)
    (c.loop-view.invariant.same tells).still.now (c.in_err-table.ensures.unreadable tells))))

pub loop-view-preserved : goal.loop-view-preserved
loop-view-preserved g c =
    let k = c.loop-view.view-index in
    let v = view_of c.view-item.result in
    let image = (g.D.Disk.outside c.args.disk.now).now.disk.seen in
    let left = drop_map_read view_of c.args.views.now k c.view-item.result c.loop-view-test.true c.view-item.is in
    let done = take_map_read view_of c.args.views.now k c.view-item.result c.loop-view-test.true c.view-item.is in
    let long : c.in_ok-structure.structure ≡ length (spelling v.name v.schema) = c.in_ok-structure.ensures in
    let at : c.loop-view.at + c.in_ok-structure.structure + 8 ≡ c.loop-view.at + 8 + length (spelling v.name v.schema) = omega (arith, long) in
    let next = c.in_ok-table.ensures.next in
    rw (c.in_ok-push.ensures.ok, c.in_ok-push-2.ensures.items, c.in_ok-share.ensures, c.in_ok-copy.ensures)
    (record {
      counts = CountsFaults-joins ⊥ _ ⊥ c.loop-view.invariant.counts c.in_ok-table.ensures.counts (λ failed. absurd failed);
      same = λ tells. looks_joins (c.loop-view.invariant.same tells) (c.in_ok-table.ensures.same tells);
      so = views_grow g.D.Disk.tells image (map view_of c.args.views.now) k c.loop-view.at c.loop-view.names c.loop-view.tables.items c.loop-view.invariant.so v left done v.name c.in_ok-table.table c.in_ok-table.next
          refl (omega (arith, next, at)) c.in_ok-table.ensures.whole c.in_ok-table.ensures.made
          (λ tells. subst (λ (m : Moment). IsTableFound (StandsAt m.disk.seen) v.columns c.in_ok-table.table) (c.loop-view.invariant.same tells).still.now (c.in_ok-table.ensures.table tells).table)
          (λ tells. subst (λ n. All (IsReadable image) (plain_entries v.columns (heading_of v.schema) n v.rows)) at
          (subst (λ (m : Moment). All (IsReadable m.disk.seen) (plain_entries v.columns (heading_of v.schema) (c.loop-view.at + c.in_ok-structure.structure + 8) v.rows))
          (c.loop-view.invariant.same tells).still.now (c.in_ok-table.ensures.table tells).readable));
    })

pub of-requires : goal.of-requires
of-requires g c =
    let own = map view_of c.args.views.now in
    let long = length-map c.args.views.now view_of in
    let past = c.loop-view-test.false in
    let all = views_end g.D.Disk.tells (g.D.Disk.outside c.args.disk.now).now.disk.seen own c.loop-view.view-index c.loop-view.at c.loop-view.names c.loop-view.tables.items c.loop-view.invariant.so (omega (arith, long, past)) in
    record {
      paired = all.paired;
      views = whole_views c.requires.fits.end own _ c.requires.fits.has all.formed;
      shaped = views_shaped own _ all.formed;
    }
