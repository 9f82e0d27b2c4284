use Rattle.std.proofs.Common.{List, map, sym, subst}
use Rattle.dir_codec.specs.declared.dir.DirView.{DirView}
use Rattle.dir_codec.specs.Columns.{plain_view_entries}
use Rattle.dir_codec.specs.Values.{dir_of, view_of}
use Rattle.recovery.specs.Found.{AreEntriesOfViews, NamesUnreadable}
use Rattle.recovery.specs.Opening.{NamesColumn}
use Rattle.recovery.proofs.Refused.{unread_column}
use Rattle.recovery.proofs.opening.read_kept.Goals as goal

pub read_views-requires-clause-fits : goal.read_views-requires-clause-fits
read_views-requires-clause-fits g c =
    record {
      end = c.args.mark.now.end;
      small = c.requires.small;
      within = λ tells. (c.requires.fits tells).within;
      has = subst (λ (vs : List DirView). AreEntriesOfViews c.args.mark.now.end (map view_of vs)) (sym c.as_slice.ensures)
          (record { few = c.requires.good.few; distinct = c.requires.good.distinct; each = c.requires.good.each });
    }

pub returns-clause-unreadable : goal.returns-clause-unreadable
returns-clause-unreadable g c = λ tells.
    let image = (g.D.Disk.outside c.args.disk.now).now.disk.seen in
    subst (NamesColumn image c.args.mark.now (dir_of c.args.dir)) (sym c.in_columns.ensures)
    (unread_column image c.args.mark.now (dir_of c.args.dir) c.in-Err.error
    (subst (λ (vs : List DirView). NamesUnreadable image (plain_view_entries 4 (map view_of vs)) c.in-Err.error) c.as_slice.ensures (c.in-Err.ensures.unreadable tells)))
