-- The columns of a table are read one after another, and the tables of a view column row by row.
use Rattle.std.proofs.Common.{◌≡◌, ℕ, ◌+◌, ◌<◌, ◌≤◌, ◌^◌, List, length, map, refl, ap, sym, subst, ◌∙◌, arith}
use Rattle.std.proofs.lemmas.Result.{err_from_is_err_and}
use Rattle.std.proofs.lemmas.List.{length-map}
use Rattle.host_io.specs.Outside.{Moment}
use Rattle.host_io.proofs.Faults.{CountsFaults-begins, CountsFaults-joins}
use Rattle.block_io.proofs.Looking.{looks_joins}
use Rattle.mk_value.specs.Heading.{Attribute, Domain, heading_of}
use Rattle.mk_value.specs.Kinds.{domain_of}
use Rattle.mk_value.proofs.Walks.{drop_map_read}
use Rattle.commit_writes.specs.Blocks.{StandsAt}
use Rattle.dir_codec.specs.Columns.{plain_entries, plain_entry}
use Rattle.dir_codec.specs.Dir.{AreBodies, AreEntries, Body, Entry, IsEntry, bodies_from, entries_from, spelled_bodies, spelled_entries, spelled_entry}
use Rattle.dir_codec.specs.declared.dir.DirCol.{DirCol}
use Rattle.dir_codec.specs.DirCode.{columns_weight, entry_weight, tables_weight}
use Rattle.dir_codec.specs.DirFalls.{bodies_weight-from}
use Rattle.dir_codec.specs.Values.{body_of, entry_of}
use Rattle.dir_codec.proofs.Written.{body_weight, column_weight}
use Rattle.tables.specs.Columns.{IsColumnOf}
use Rattle.tables.specs.Stored.{stored_of}
use Rattle.tables.proofs.Gathering.{AreRowsOf-columns, HasHomes-columns, length-rows_of_columns}
use Rattle.recovery.specs.Found.{AreTablesRead, HasLength, IsColumnFound, IsColumnRead, IsTableRead, NamesUnreadable}
use Rattle.recovery.proofs.FoundTables.{table_found, views_found, views_whole}
use Rattle.recovery.proofs.ReadSoFar.{IsNext, as_many_entries, bodies_begin, bodies_end, bodies_grow, body_room, body_unread, column_room, column_unread, columns_begin, columns_end, columns_grow, next_body, next_entry, next_read, strings_len, take_map_read}
use Rattle.recovery.proofs.columns.+read.Goals as goal

-- each property has an entry
items_within : (end rows k : ℕ) (schema props : List Attribute) (own : List Entry) (items : List DirCol) → AreEntries end rows (heading_of schema) (entries_from own) → props ≡ schema → map entry_of items ≡ own → k < length props → k < length items
items_within end rows k schema props own items has same is p =
    let many = as_many_entries end rows schema own has in
    let a = ap length same in
    let b = ap length is in
    let long = length-map items entry_of in
    omega (arith, many, a, b, long, p)

-- ---- the tables of a view column

pub read_each-loop-body-init : goal.read_each-loop-body-init
read_each-loop-body-init g t c =
    rw c.new-tables.ensures
    (record {
      counts = CountsFaults-begins (g.D.Disk.outside c.args.disk.now) ⊥ (λ failed. failed);
      same = λ tells. record { still = record { now = refl; past = refl }; input = refl };
      so = bodies_begin g.D.Disk.tells (g.D.Disk.outside c.args.disk.now).now.disk.seen c.args.at c.args.schema.now (map body_of c.as_slice-body-items.result.now);
    })

pub read_each-overflow_add-next : goal.read_each-overflow_add-next
read_each-overflow_add-next g t c =
    let items = c.as_slice-body-items.result.now in
    let k = c.loop-body.body-index in
    let own = map body_of items in
    let b = body_of c.body-item.result in
    let left = drop_map_read body_of items k c.body-item.result c.loop-body-test.true c.body-item.is in
    let done = take_map_read body_of items k c.body-item.result c.loop-body-test.true c.body-item.is in
    let room = body_room g.D.Disk.tells (g.D.Disk.outside c.args.disk.now).now.disk.seen c.args.at c.args.schema.now own k c.loop-body.next c.loop-body.tables c.loop-body.invariant.so b left done
    (subst (λ (bs : List Body). c.args.at + length (spelled_bodies (bodies_from bs)) < 2 ^ 64) (sym c.as_slice-body-items.ensures) c.requires.room) in
    record { fits = omega (arith, room) }

pub read_each-read_table-requires : goal.read_each-read_table-requires
read_each-read_table-requires g t c κs within =
    let items = c.as_slice-body-items.result.now in
    let k = c.loop-body.body-index in
    let own = map body_of items in
    let b = body_of c.body-item.result in
    let whole = ap tables_weight c.as_slice-body-items.ensures in
    let left = drop_map_read body_of items k c.body-item.result c.loop-body-test.true c.body-item.is in
    let done = take_map_read body_of items k c.body-item.result c.loop-body-test.true c.body-item.is in
    let next = next_body c.requires.fits.end k c.args.schema.now own b left (subst (λ (bs : List Body). AreBodies c.requires.fits.end (heading_of c.args.schema.now) (bodies_from bs)) (sym c.as_slice-body-items.ensures) c.requires.fits.has) in
    let room = body_room g.D.Disk.tells (g.D.Disk.outside c.args.disk.now).now.disk.seen c.args.at c.args.schema.now own k c.loop-body.next c.loop-body.tables c.loop-body.invariant.so b left done
    (subst (λ (bs : List Body). c.args.at + length (spelled_bodies (bodies_from bs)) < 2 ^ 64) (sym c.as_slice-body-items.ensures) c.requires.room) in (
      omega (arith, whole, body_weight items k c.body-item.result c.loop-body-test.true c.body-item.is, c.decreases),
      (
        within,
        (
          next.0,
          (
            record {
              end = c.requires.fits.end;
              small = c.requires.fits.small;
              within = λ tells. subst (λ (m : Moment). c.requires.fits.end ≤ length m.disk.seen) (sym (c.loop-body.invariant.same tells).still.now) (c.requires.fits.within tells);
              has = next.1;
            },
            room,
          ),
        ),
      ),
    )

pub read_each-returns-in_err-table-clause-unreadable : goal.read_each-returns-in_err-table-clause-unreadable
read_each-returns-in_err-table-clause-unreadable g t c = λ tells.
    let items = c.as_slice-body-items.result.now in
    let k = c.loop-body.body-index in
    let own = map body_of items in
    let b = body_of c.body-item.result in
    let image = (g.D.Disk.outside c.args.disk.now).now.disk.seen in
    let left = drop_map_read body_of items k c.body-item.result c.loop-body-test.true c.body-item.is in
    let done = take_map_read body_of items k c.body-item.result c.loop-body-test.true c.body-item.is in
    let p = err_from_is_err_and c.from_residual.result c.from_residual.ensures.1 in
    rw (p.1, p.2, ← c.as_slice-body-items.ensures)
    (body_unread g.D.Disk.tells image c.args.at c.args.schema.now own k c.loop-body.next c.loop-body.tables c.loop-body.invariant.so b left done c.in_err-table.field-0.0 tells
    (subst (λ (m : Moment). NamesUnreadable m.disk.seen (plain_entries (entries_from b.columns) (heading_of c.args.schema.now) (c.loop-body.next + 4) b.rows) c.in_err-table.field-0.0)
    (c.loop-body.invariant.same tells).still.now (c.in_err-table.ensures.unreadable tells)))

pub read_each-loop-body-preserved : goal.read_each-loop-body-preserved
read_each-loop-body-preserved g t c =
    let items = c.as_slice-body-items.result.now in
    let k = c.loop-body.body-index in
    let own = map body_of items in
    let b = body_of c.body-item.result in
    let image = (g.D.Disk.outside c.args.disk.now).now.disk.seen in
    let left = drop_map_read body_of items k c.body-item.result c.loop-body-test.true c.body-item.is in
    let done = take_map_read body_of items k c.body-item.result c.loop-body-test.true c.body-item.is in
    rw (c.in_ok-push.ensures, c.in_ok-share.ensures)
    (record {
      counts = CountsFaults-joins ⊥ _ ⊥ c.loop-body.invariant.counts c.in_ok-table.ensures.counts (λ failed. absurd failed);
      same = λ tells. looks_joins (c.loop-body.invariant.same tells) (c.in_ok-table.ensures.same tells);
      so = bodies_grow g.D.Disk.tells image c.args.at c.args.schema.now own k c.loop-body.next c.loop-body.tables c.loop-body.invariant.so b left done c.in_ok-table.table c.in_ok-table.behind
          c.in_ok-table.ensures.next c.in_ok-table.ensures.whole c.in_ok-table.ensures.made
          (λ tells. subst (λ (m : Moment). IsTableRead m.disk.seen c.args.schema.now b.columns b.rows (c.loop-body.next + 4) c.in_ok-table.table) (c.loop-body.invariant.same tells).still.now (c.in_ok-table.ensures.table tells));
    })

pub read_each-returns-clause-made : goal.read_each-returns-clause-made
read_each-returns-clause-made g t c =
    rw (c.in_ok-finish.ensures, ← c.as_slice-body-items.ensures)
    ((bodies_end g.D.Disk.tells (g.D.Disk.outside c.args.disk.now).now.disk.seen c.args.at c.args.schema.now (map body_of c.as_slice-body-items.result.now) c.loop-body.body-index c.loop-body.next c.loop-body.tables
    c.loop-body.invariant.so (let long = length-map c.as_slice-body-items.result.now body_of in let past = c.loop-body-test.false in omega (arith, long, past))).made)

pub read_each-returns-clause-tables : goal.read_each-returns-clause-tables
read_each-returns-clause-tables g t c = λ tells.
    rw (c.in_ok-finish.ensures, ← c.as_slice-body-items.ensures)
    ((bodies_end g.D.Disk.tells (g.D.Disk.outside c.args.disk.now).now.disk.seen c.args.at c.args.schema.now (map body_of c.as_slice-body-items.result.now) c.loop-body.body-index c.loop-body.next c.loop-body.tables
    c.loop-body.invariant.so (let long = length-map c.as_slice-body-items.result.now body_of in let past = c.loop-body-test.false in omega (arith, long, past))).read tells)

-- where the schema is shared first

pub read_bodies-read_each-requires : goal.read_bodies-read_each-requires
read_bodies-read_each-requires g t c κs within =
    let same : c.in_ok-shared.shared ≡ c.args.schema.now = c.in_ok-shared.ensures ∙ c.in_ok-copy.ensures in (
      omega (arith, c.decreases),
      (
        within,
        (
          record {
            end = c.requires.fits.end;
            small = c.requires.fits.small;
            within = c.requires.fits.within;
            has = subst (λ (s : List Attribute). AreBodies c.requires.fits.end (heading_of s) (bodies_from c.args.bodies.now)) (sym same) c.requires.fits.has;
          },
          c.requires.room,
        ),
      ),
    )

-- ---- one column

pub read_column-overflow_add-result-in-Blobs-2 : goal.read_column-overflow_add-result-in-Blobs-2
read_column-overflow_add-result-in-Blobs-2 g t c =
    let held = ap length c.as_slice-held.ensures in
    let long = strings_len c.in-Blobs.width c.in-Blobs.sizes c.in-Blobs.short c.in-Blobs.memos in
    let room = subst (λ x. c.args.at + length (spelled_entry (entry_of x)) < 2 ^ 64) c.in-Blobs.is c.requires.room in
    record { fits = omega (arith, held, long, room) }

pub read_column-returns-in_ok-col-in-Blobs-clause-next : goal.read_column-returns-in_ok-col-in-Blobs-clause-next
read_column-returns-in_ok-col-in-Blobs-clause-next g t c =
    let held = ap length c.as_slice-held.ensures in
    let long = strings_len c.in-Blobs.width c.in-Blobs.sizes c.in-Blobs.short c.in-Blobs.memos in
    let whole = ap (λ x. length (spelled_entry (entry_of x))) c.in-Blobs.is in
    omega (arith, held, long, whole)

pub read_column-read_bodies-requires : goal.read_column-read_bodies-requires
read_column-read_bodies-requires g t c κs within =
    let seen = ap (λ k. entry_weight (entry_of k)) c.in-Views.is in
    let has = subst (λ k. IsEntry c.requires.fits.end c.args.rows (domain_of k) (entry_of c.args.column.now)) c.in-V.is c.requires.fits.has in
    let own = subst (λ x. IsEntry c.requires.fits.end c.args.rows (Domain.relation (heading_of c.in-V.schema)) (entry_of x)) c.in-Views.is has in (
      omega (arith, seen, bodies_weight-from c.in-Views.bodies, c.decreases),
      (
        within,
        (
          record { end = c.requires.fits.end; small = c.requires.fits.small; within = c.requires.fits.within; has = own.1 },
          subst (λ x. c.args.at + length (spelled_entry (entry_of x)) < 2 ^ 64) c.in-Views.is c.requires.room,
        ),
      ),
    )

pub read_column-returns-in_ok-tables-in-Views-clause-whole : goal.read_column-returns-in_ok-tables-in-Views-clause-whole
read_column-returns-in_ok-tables-in-Views-clause-whole g t c =
    let has = subst (λ k. IsEntry c.requires.fits.end c.args.rows (domain_of k) (entry_of c.args.column.now)) c.in-V.is c.requires.fits.has in
    let own = subst (λ x. IsEntry c.requires.fits.end c.args.rows (Domain.relation (heading_of c.in-V.schema)) (entry_of x)) c.in-Views.is has in
    rw c.in-V.is (views_whole c.args.rows c.in-V.schema c.in-Views.bodies c.in_ok-tables-in-Views.tables own.0 c.in_ok-tables-in-Views.ensures.whole)

pub read_column-returns-in_ok-tables-in-Views-clause-made : goal.read_column-returns-in_ok-tables-in-Views-clause-made
read_column-returns-in_ok-tables-in-Views-clause-made g t c =
    rw (c.in-V.is, c.in-Views.is)
    (views_found HasLength c.in-V.schema c.in-Views.bodies c.in_ok-tables-in-Views.tables c.in_ok-tables-in-Views.ensures.whole c.in_ok-tables-in-Views.ensures.made)

pub read_column-returns-in_ok-tables-in-Views-clause-column : goal.read_column-returns-in_ok-tables-in-Views-clause-column
read_column-returns-in_ok-tables-in-Views-clause-column g t c = λ tells.
    let image = (g.D.Disk.outside c.args.disk.now).now.disk.seen in
    let read : AreTablesRead image c.in-V.schema c.in-Views.bodies c.args.at c.in_ok-tables-in-Views.tables = c.in_ok-tables-in-Views.ensures.tables tells in
    rw (c.in-V.is, c.in-Views.is)
    (record {
      column = views_found (StandsAt image) c.in-V.schema c.in-Views.bodies c.in_ok-tables-in-Views.tables c.in_ok-tables-in-Views.ensures.whole read.tables;
      readable = read.readable;
    })

-- ---- the columns of a table

pub read_columns-loop-k-init : goal.read_columns-loop-k-init
read_columns-loop-k-init g t c =
    rw c.in_ok-cols.ensures
    (record {
      counts = CountsFaults-begins (g.D.Disk.outside c.args.disk.now) ⊥ (λ failed. failed);
      same = λ tells. record { still = record { now = refl; past = refl }; input = refl };
      so = columns_begin g.D.Disk.tells (g.D.Disk.outside c.args.disk.now).now.disk.seen c.args.rows c.args.at c.as_slice-props.result.now (map entry_of c.as_slice-items.result.now);
    })

pub read_columns-bounds-items-k : goal.read_columns-bounds-items-k
read_columns-bounds-items-k g t c =
    items_within c.requires.fits.end c.args.rows c.loop-k.k c.args.schema.now c.as_slice-props.result.now c.args.columns.now c.as_slice-items.result.now c.requires.fits.has
    c.as_slice-props.ensures.value c.as_slice-items.ensures c.loop-k-test.true

pub read_columns-read_column-requires : goal.read_columns-read_column-requires
read_columns-read_column-requires g t c κs within =
    let props = c.as_slice-props.result.now in
    let items = c.as_slice-items.result.now in
    let own = map entry_of items in
    let a = c.index-props-k.result in
    let e = entry_of c.index-items-k.result in
    let there = items_within c.requires.fits.end c.args.rows c.loop-k.k c.args.schema.now props c.args.columns.now items c.requires.fits.has c.as_slice-props.ensures.value c.as_slice-items.ensures c.loop-k-test.true in
    let next : IsNext props own c.loop-k.k a e = next_read props items c.loop-k.k a c.index-items-k.result c.loop-k-test.true c.index-props-k.is there c.index-items-k.is in
    let whole = ap columns_weight c.as_slice-items.ensures in
    let domain : domain_of c.prop.inside.kind ≡ a.domain = ap (λ (x : Attribute). x.domain) c.prop.view_is in
    let has = subst (λ (s : List Attribute). AreEntries c.requires.fits.end c.args.rows (heading_of s) (entries_from own)) (sym c.as_slice-props.ensures.value)
    (subst (λ (es : List Entry). AreEntries c.requires.fits.end c.args.rows (heading_of c.args.schema.now) (entries_from es)) (sym c.as_slice-items.ensures) c.requires.fits.has) in
    let room = column_room g.D.Disk.tells (g.D.Disk.outside c.args.disk.now).now.disk.seen c.args.rows c.args.at props own c.loop-k.k c.loop-k.next c.loop-k.cols c.loop-k.invariant.so a e next
    (subst (λ (es : List Entry). c.args.at + length (spelled_entries (entries_from es)) < 2 ^ 64) (sym c.as_slice-items.ensures) c.requires.room) in (
      omega (arith, whole, column_weight items c.loop-k.k c.index-items-k.result there c.index-items-k.is, c.decreases),
      (
        within,
        (
          c.requires.few,
          (
            record {
              end = c.requires.fits.end;
              small = c.requires.fits.small;
              within = λ tells. subst (λ (m : Moment). c.requires.fits.end ≤ length m.disk.seen) (sym (c.loop-k.invariant.same tells).still.now) (c.requires.fits.within tells);
              has = subst (λ d. IsEntry c.requires.fits.end c.args.rows d e) (sym domain) (next_entry c.requires.fits.end c.args.rows c.loop-k.k props own a e next has);
            },
            room,
          ),
        ),
      ),
    )

pub read_columns-returns-in_err-col-clause-unreadable : goal.read_columns-returns-in_err-col-clause-unreadable
read_columns-returns-in_err-col-clause-unreadable g t c = λ tells.
    let props = c.as_slice-props.result.now in
    let items = c.as_slice-items.result.now in
    let own = map entry_of items in
    let a = c.index-props-k.result in
    let e = entry_of c.index-items-k.result in
    let image = (g.D.Disk.outside c.args.disk.now).now.disk.seen in
    let there = items_within c.requires.fits.end c.args.rows c.loop-k.k c.args.schema.now props c.args.columns.now items c.requires.fits.has c.as_slice-props.ensures.value c.as_slice-items.ensures c.loop-k-test.true in
    let next : IsNext props own c.loop-k.k a e = next_read props items c.loop-k.k a c.index-items-k.result c.loop-k-test.true c.index-props-k.is there c.index-items-k.is in
    let domain : domain_of c.prop.inside.kind ≡ a.domain = ap (λ (x : Attribute). x.domain) c.prop.view_is in
    let p = err_from_is_err_and c.from_residual-in_err-col.result c.from_residual-in_err-col.ensures.1 in
    rw (p.1, p.2, ← c.as_slice-items.ensures, ← c.as_slice-props.ensures.value)
    (column_unread g.D.Disk.tells image c.args.rows c.args.at props own c.loop-k.k c.loop-k.next c.loop-k.cols c.loop-k.invariant.so a e next c.in_err-col.field-0.0 tells
    (subst (λ d. NamesUnreadable image (plain_entry e d c.loop-k.next c.args.rows) c.in_err-col.field-0.0) domain
    (subst (λ (m : Moment). NamesUnreadable m.disk.seen (plain_entry e (domain_of c.prop.inside.kind) c.loop-k.next c.args.rows) c.in_err-col.field-0.0)
    (c.loop-k.invariant.same tells).still.now (c.in_err-col.ensures.unreadable tells))))

pub read_columns-loop-k-preserved : goal.read_columns-loop-k-preserved
read_columns-loop-k-preserved g t c =
    let props = c.as_slice-props.result.now in
    let items = c.as_slice-items.result.now in
    let own = map entry_of items in
    let a = c.index-props-k.result in
    let e = entry_of c.index-items-k.result in
    let image = (g.D.Disk.outside c.args.disk.now).now.disk.seen in
    let there = items_within c.requires.fits.end c.args.rows c.loop-k.k c.args.schema.now props c.args.columns.now items c.requires.fits.has c.as_slice-props.ensures.value c.as_slice-items.ensures c.loop-k-test.true in
    let next : IsNext props own c.loop-k.k a e = next_read props items c.loop-k.k a c.index-items-k.result c.loop-k-test.true c.index-props-k.is there c.index-items-k.is in
    let domain : domain_of c.prop.inside.kind ≡ a.domain = ap (λ (x : Attribute). x.domain) c.prop.view_is in
    let col = stored_of c.in_ok-col.col in
    rw c.in_ok-push.ensures.ok
    (record {
      counts = CountsFaults-joins ⊥ _ ⊥ c.loop-k.invariant.counts c.in_ok-col.ensures.counts (λ failed. absurd failed);
      same = λ tells. looks_joins (c.loop-k.invariant.same tells) (c.in_ok-col.ensures.same tells);
      so = columns_grow g.D.Disk.tells image c.args.rows c.args.at props own c.loop-k.k c.loop-k.next c.loop-k.cols c.loop-k.invariant.so a e next col c.in_ok-col.behind c.in_ok-col.ensures.next
          (subst (λ d. IsColumnOf c.args.rows d col) domain c.in_ok-col.ensures.whole)
          (subst (λ d. IsColumnFound HasLength d e col) domain c.in_ok-col.ensures.made)
          (λ tells. subst (λ d. IsColumnRead image d e c.args.rows c.loop-k.next col) domain
          (subst (λ (m : Moment). IsColumnRead m.disk.seen (domain_of c.prop.inside.kind) e c.args.rows c.loop-k.next col) (c.loop-k.invariant.same tells).still.now (c.in_ok-col.ensures.column tells)));
    })

pub read_columns-returns-clause-next : goal.read_columns-returns-clause-next
read_columns-returns-clause-next g t c =
    let items = c.as_slice-items.result.now in
    let many = as_many_entries c.requires.fits.end c.args.rows c.args.schema.now c.args.columns.now c.requires.fits.has in
    let props = ap length c.as_slice-props.ensures.value in
    let own = ap length c.as_slice-items.ensures in
    let past = c.loop-k-test.false in
    rw (← c.as_slice-items.ensures)
    (columns_end g.D.Disk.tells (g.D.Disk.outside c.args.disk.now).now.disk.seen c.args.rows c.args.at c.as_slice-props.result.now (map entry_of items) c.loop-k.k c.loop-k.cols c.loop-k.next c.loop-k.invariant.so
    past (omega (arith, many, props, own, past))).next

pub read_columns-returns-clause-made : goal.read_columns-returns-clause-made
read_columns-returns-clause-made g t c =
    let items = c.as_slice-items.result.now in
    let many = as_many_entries c.requires.fits.end c.args.rows c.args.schema.now c.args.columns.now c.requires.fits.has in
    let props = ap length c.as_slice-props.ensures.value in
    let own = ap length c.as_slice-items.ensures in
    let past = c.loop-k-test.false in
    rw (← c.as_slice-items.ensures, ← c.as_slice-props.ensures.value)
    ((columns_end g.D.Disk.tells (g.D.Disk.outside c.args.disk.now).now.disk.seen c.args.rows c.args.at c.as_slice-props.result.now (map entry_of items) c.loop-k.k c.loop-k.cols c.loop-k.next c.loop-k.invariant.so
    past (omega (arith, many, props, own, past))).made)

pub read_columns-returns-clause-columns : goal.read_columns-returns-clause-columns
read_columns-returns-clause-columns g t c = λ tells.
    let items = c.as_slice-items.result.now in
    let many = as_many_entries c.requires.fits.end c.args.rows c.args.schema.now c.args.columns.now c.requires.fits.has in
    let props = ap length c.as_slice-props.ensures.value in
    let own = ap length c.as_slice-items.ensures in
    let past = c.loop-k-test.false in
    rw (← c.as_slice-items.ensures, ← c.as_slice-props.ensures.value)
    ((columns_end g.D.Disk.tells (g.D.Disk.outside c.args.disk.now).now.disk.seen c.args.rows c.args.at c.as_slice-props.result.now (map entry_of items) c.loop-k.k c.loop-k.cols c.loop-k.next c.loop-k.invariant.so
    past (omega (arith, many, props, own, past))).read tells)

-- ---- a table

pub read_table-returns-clause-whole : goal.read_table-returns-clause-whole
read_table-returns-clause-whole g t c =
    let whole = rw c.get.ensures at c.in_ok-cols.ensures.whole in
    rw c.in_ok-table.ensures
    (record {
      table = record { same_schema = refl; rows = AreRowsOf-columns c.args.body.now.rows c.args.schema.now c.in_ok-cols.cols whole; homes = HasHomes-columns c.args.body.now.rows c.args.schema.now c.in_ok-cols.cols whole };
      count = length-rows_of_columns c.args.body.now.rows c.args.schema.now c.in_ok-cols.cols;
    })

pub read_table-returns-clause-made : goal.read_table-returns-clause-made
read_table-returns-clause-made g t c =
    let whole = rw c.get.ensures at c.in_ok-cols.ensures.whole in
    let made = rw c.get.ensures at c.in_ok-cols.ensures.made in
    rw c.in_ok-table.ensures
    (table_found HasLength c.args.body.now.rows c.args.schema.now c.args.body.now.cols c.in_ok-cols.cols whole made)

pub read_table-returns-clause-table : goal.read_table-returns-clause-table
read_table-returns-clause-table g t c = λ tells.
    let image = (g.D.Disk.outside c.args.disk.now).now.disk.seen in
    let whole = rw c.get.ensures at c.in_ok-cols.ensures.whole in
    let read = rw c.get.ensures at c.in_ok-cols.ensures.columns tells in
    rw c.in_ok-table.ensures
    (record { table = table_found (StandsAt image) c.args.body.now.rows c.args.schema.now c.args.body.now.cols c.in_ok-cols.cols whole read.columns; readable = read.readable })
