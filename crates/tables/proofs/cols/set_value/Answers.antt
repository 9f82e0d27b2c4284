use Rattle.std.proofs.Common.{◌≡◌, ◌∙◌, to_z, of_z, w32, w64, ap, sym, subst}
use Rattle.std.proofs.lemmas.Int.{to_z-of_z}
use Rattle.mk_value.specs.Data.{Datum, relation_of}
use Rattle.mk_value.specs.Kinds.{domain_of}
use Rattle.tables.specs.Cells.{IsSet, with_number, with_string}
use Rattle.tables.specs.Homes.{empty_homes_in}
use Rattle.tables.specs.Stored.{stored_of}
use Rattle.tables.proofs.ColumnWith.{keeps_integer, has_number, integer_fits, long_fits, integer_set, long_set, text_set, bytes_set, made_view_set}
use Rattle.tables.proofs.Setting.{OnOk-then}
use Rattle.tables.proofs.cols.set_value.Goals as goal

pub set_number-requires : goal.set_number-requires
set_number-requires c =
    let e = domain_of c.args.kind.now in
    let col = stored_of c.args.col.now in
    has_number e _ c.args.row col (keeps_integer e _ c.in-I.number col (rw c.in-I.is at c.requires.fits) c.requires.whole) c.requires.whole c.requires.row

pub returns-in-I-clause-ok : goal.returns-in-I-clause-ok
returns-in-I-clause-ok c =
    let e = domain_of c.args.kind.now in
    let col = stored_of c.args.col.now in
    let fits = rw c.in-I.is at c.requires.fits in
    let number : to_z w64 (of_z w64 c.from.result) ≡ c.in-I.number = to_z-of_z w64 c.from.result (record { sfits = c.from.type_inv }) ∙ c.from.ensures ∙ to_z-of_z w32 c.in-I.number (integer_fits e c.in-I.number fits) in
    rw c.in-I.is
    (OnOk-then c.set_number.result c.set_number.ensures.ok
    (λ done. subst (λ x. IsSet col e c.args.row (Datum.integer c.in-I.number) (empty_homes_in e (Datum.integer c.in-I.number)) x) (sym (done ∙ ap (λ z. with_number c.args.row z col) number))
    (integer_set e _ c.args.row col c.in-I.number (empty_homes_in e (Datum.integer c.in-I.number)) c.requires.whole fits)))

pub returns-in-L-clause-ok : goal.returns-in-L-clause-ok
returns-in-L-clause-ok c =
    let e = domain_of c.args.kind.now in
    let col = stored_of c.args.col.now in
    let fits = rw c.in-L.is at c.requires.fits in
    let number : to_z w64 (of_z w64 c.in-L.number) ≡ c.in-L.number = to_z-of_z w64 c.in-L.number (long_fits e c.in-L.number fits) in
    rw c.in-L.is
    (OnOk-then c.set_number-in-L.result c.set_number-in-L.ensures.ok
    (λ done. subst (λ x. IsSet col e c.args.row (Datum.long c.in-L.number) (empty_homes_in e (Datum.long c.in-L.number)) x) (sym (done ∙ ap (λ z. with_number c.args.row z col) number))
    (long_set e _ c.args.row col c.in-L.number (empty_homes_in e (Datum.long c.in-L.number)) c.requires.whole fits)))

pub returns-in-S-clause-ok : goal.returns-in-S-clause-ok
returns-in-S-clause-ok c =
    let e = domain_of c.args.kind.now in
    let col = stored_of c.args.col.now in
    let content = c.as_bytes.ensures.value ∙ c.as_str.ensures.value in
    rw c.in-S.is
    (OnOk-then c.set_blob.result c.set_blob.ensures.ok
    (λ done. subst (λ x. IsSet col e c.args.row (Datum.text c.in-S.text.bytes) (empty_homes_in e (Datum.text c.in-S.text.bytes)) x) (sym (done ∙ ap (λ v. with_string c.args.row v col) content))
    (text_set e _ c.args.row col c.in-S.text.bytes (empty_homes_in e (Datum.text c.in-S.text.bytes)) c.requires.whole (rw c.in-S.is at c.requires.fits))))

pub returns-in-B-clause-ok : goal.returns-in-B-clause-ok
returns-in-B-clause-ok c =
    let e = domain_of c.args.kind.now in
    let col = stored_of c.args.col.now in
    rw c.in-B.is
    (OnOk-then c.set_blob-in-B.result c.set_blob-in-B.ensures.ok
    (λ done. subst (λ x. IsSet col e c.args.row (Datum.bytes c.in-B.bytes.bytes) (empty_homes_in e (Datum.bytes c.in-B.bytes.bytes)) x) (sym (done ∙ ap (λ v. with_string c.args.row v col) c.as_slice.ensures))
    (bytes_set e _ c.args.row col c.in-B.bytes.bytes (empty_homes_in e (Datum.bytes c.in-B.bytes.bytes)) c.requires.whole (rw c.in-B.is at c.requires.fits))))

pub returns-in_ok-table-in-V-clause-ok : goal.returns-in_ok-table-in-V-clause-ok
returns-in_ok-table-in-V-clause-ok c =
    let e = domain_of c.args.kind.now in
    let col = stored_of c.args.col.now in
    let d = Datum.relation (relation_of c.in-V.rows) in
    rw c.in-V.is
    (OnOk-then c.set_view.result c.set_view.ensures.ok
    (λ done. subst (λ x. IsSet col e c.args.row d (empty_homes_in e d) x) (sym done)
    (made_view_set e _ c.args.row col c.in-V.rows c.in_ok-table-in-V.table c.requires.whole (rw c.in-V.is at c.requires.fits) c.in_ok-table-in-V.ensures)))
