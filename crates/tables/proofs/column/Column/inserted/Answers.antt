use Rattle.std.proofs.Common.{◌≡◌, ◌∙◌, to_z, of_z, w32, w64, ap}
use Rattle.std.proofs.lemmas.Int.{to_z-of_z}
use Rattle.mk_value.specs.Kinds.{domain_of}
use Rattle.tables.specs.Rows.{inserted}
use Rattle.tables.specs.Stored.{stored_of}
use Rattle.tables.proofs.ColumnWith.{keeps_integer, integer_fits, long_fits, integers_inserted_in, longs_inserted_in, texts_inserted_in, bytes_inserted_in, views_inserted}
use Rattle.tables.proofs.column.Column.inserted.Goals as goal

pub ints-requires : goal.ints-requires
ints-requires c = keeps_integer (domain_of c.args.self.now.kind.now) _ c.in-I.number (stored_of c.args.self.now.col.now) (rw c.in-I.is at c.requires.fits) c.requires.whole

pub returns-in_ok-numbers_inserted-in-I : goal.returns-in_ok-numbers_inserted-in-I
returns-in_ok-numbers_inserted-in-I c =
    let e = domain_of c.args.self.now.kind.now in
    let fits = rw c.in-I.is at c.requires.fits in
    let number : to_z w64 (of_z w64 c.from-number.result) ≡ c.in-I.number =
    to_z-of_z w64 c.from-number.result (record { sfits = c.from-number.type_inv }) ∙ c.from-number.ensures ∙ to_z-of_z w32 c.in-I.number (integer_fits e c.in-I.number fits) in
    rw c.in-I.is
    (integers_inserted_in e _ c.args.at c.args.count (stored_of c.args.self.now.col.now) c.ints.result.now c.in_ok-numbers_inserted-in-I.field-0 c.in-I.number c.requires.whole c.ints.ensures
    (c.in_ok-numbers_inserted-in-I.ensures.values ∙ ap (λ z. inserted c.args.at c.args.count z c.ints.result.now.values) number) c.in_ok-numbers_inserted-in-I.ensures.home fits)

pub returns-in_ok-numbers_inserted-in-L : goal.returns-in_ok-numbers_inserted-in-L
returns-in_ok-numbers_inserted-in-L c =
    let e = domain_of c.args.self.now.kind.now in
    let fits = rw c.in-L.is at c.requires.fits in
    let number : to_z w64 (of_z w64 c.in-L.number) ≡ c.in-L.number = to_z-of_z w64 c.in-L.number (long_fits e c.in-L.number fits) in
    rw c.in-L.is
    (longs_inserted_in e _ c.args.at c.args.count (stored_of c.args.self.now.col.now) c.ints-in-L.result.now c.in_ok-numbers_inserted-in-L.field-0 c.in-L.number c.requires.whole c.ints-in-L.ensures
    (c.in_ok-numbers_inserted-in-L.ensures.values ∙ ap (λ z. inserted c.args.at c.args.count z c.ints-in-L.result.now.values) number) c.in_ok-numbers_inserted-in-L.ensures.home fits)

pub returns-in_ok-blobs_inserted-in-S : goal.returns-in_ok-blobs_inserted-in-S
returns-in_ok-blobs_inserted-in-S c =
    let content = c.as_bytes-bytes.ensures.value ∙ c.as_str.ensures.value in
    rw c.in-S.is
    (texts_inserted_in (domain_of c.args.self.now.kind.now) _ c.args.at c.args.count (stored_of c.args.self.now.col.now) c.blobs.result.now c.in_ok-blobs_inserted-in-S.field-0 c.in-S.text.bytes c.requires.whole c.blobs.ensures
    (c.in_ok-blobs_inserted-in-S.ensures.values ∙ ap (λ v. inserted c.args.at c.args.count v c.blobs.result.now.values) content) c.in_ok-blobs_inserted-in-S.ensures.home (rw c.in-S.is at c.requires.fits))

pub returns-in_ok-blobs_inserted-in-B : goal.returns-in_ok-blobs_inserted-in-B
returns-in_ok-blobs_inserted-in-B c =
    rw c.in-B.is
    (bytes_inserted_in (domain_of c.args.self.now.kind.now) _ c.args.at c.args.count (stored_of c.args.self.now.col.now) c.blobs-in-B.result.now c.in_ok-blobs_inserted-in-B.field-0 c.in-B.bytes.bytes c.requires.whole c.blobs-in-B.ensures
    (c.in_ok-blobs_inserted-in-B.ensures.values ∙ ap (λ v. inserted c.args.at c.args.count v c.blobs-in-B.result.now.values) c.as_slice-bytes.ensures) c.in_ok-blobs_inserted-in-B.ensures.home (rw c.in-B.is at c.requires.fits))

pub returns-in_ok-views_inserted-in-V : goal.returns-in_ok-views_inserted-in-V
returns-in_ok-views_inserted-in-V c =
    rw c.in-V.is
    (views_inserted (domain_of c.args.self.now.kind.now) _ c.args.at c.args.count (stored_of c.args.self.now.col.now) c.views.result.now c.in_ok-views_inserted-in-V.field-0 c.in-V.rows c.in_ok-table-in-V.table c.requires.whole c.views.ensures
    c.in_ok-views_inserted-in-V.ensures c.in_ok-table-in-V.ensures (rw c.in-V.is at c.requires.fits))
