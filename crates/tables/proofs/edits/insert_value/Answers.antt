use Rattle.std.proofs.Common.{◌≡◌, ◌∙◌, ℤ, ℕ, List, to_z, of_z, w32, w64, subst}
use Rattle.std.specs.Prelude.{OnOk}
use Rattle.std.proofs.lemmas.Int.{to_z-of_z}
use Rattle.std.proofs.lemmas.Result.{on_ok_weaker}
use Rattle.mk_value.specs.Kinds.{domain_of}
use Rattle.tables.specs.Edits.{HasNumbersIn, HasStringsIn}
use Rattle.tables.specs.Stored.{stored_of}
use Rattle.tables.proofs.ColumnWith.{integer_fits, long_fits}
use Rattle.tables.proofs.Edited.{put_integer, put_long, put_text, put_bytes, put_table}
use Rattle.tables.proofs.edits.insert_value.Goals as goal

pub returns-in-I-clause-ok : goal.returns-in-I-clause-ok
returns-in-I-clause-ok g c =
    let e = domain_of c.args.kind.now in
    let old = stored_of c.args.col.now in
    let new = stored_of c.insert_number.new.col in
    let fits = rw c.in-I.is at c.requires.fits in
    let number : to_z w64 (of_z w64 c.from.result) ≡ c.in-I.number = to_z-of_z w64 c.from.result (record { sfits = c.from.type_inv }) ∙ c.from.ensures ∙ to_z-of_z w32 c.in-I.number (integer_fits e c.in-I.number fits) in
    let P : ℤ → Type 0 = λ z. OnOk c.insert_number.result (HasNumbersIn c.args.at c.args.count z old new) in
    rw c.in-I.is
    (on_ok_weaker c.insert_number.result (λ h. put_integer e c.args.rows c.args.at c.args.count c.in-I.number old new fits c.requires.whole h) (subst P number c.insert_number.ensures.ok))

pub returns-in-L-clause-ok : goal.returns-in-L-clause-ok
returns-in-L-clause-ok g c =
    let e = domain_of c.args.kind.now in
    let old = stored_of c.args.col.now in
    let new = stored_of c.insert_number-in-L.new.col in
    let fits = rw c.in-L.is at c.requires.fits in
    let number : to_z w64 (of_z w64 c.in-L.number) ≡ c.in-L.number = to_z-of_z w64 c.in-L.number (long_fits e c.in-L.number fits) in
    let P : ℤ → Type 0 = λ z. OnOk c.insert_number-in-L.result (HasNumbersIn c.args.at c.args.count z old new) in
    rw c.in-L.is
    (on_ok_weaker c.insert_number-in-L.result (λ h. put_long e c.args.rows c.args.at c.args.count c.in-L.number old new fits c.requires.whole h) (subst P number c.insert_number-in-L.ensures.ok))

pub returns-in-S-clause-ok : goal.returns-in-S-clause-ok
returns-in-S-clause-ok g c =
    let old = stored_of c.args.col.now in
    let new = stored_of c.insert_string.new.col in
    let P : List ℕ → Type 0 = λ v. OnOk c.insert_string.result (HasStringsIn c.args.at c.args.count v old new) in
    rw c.in-S.is
    (on_ok_weaker c.insert_string.result
    (λ h. put_text (domain_of c.args.kind.now) c.args.rows c.args.at c.args.count c.in-S.text.bytes old new (rw c.in-S.is at c.requires.fits) c.requires.whole h)
    (subst P (c.as_bytes.ensures.value ∙ c.as_str.ensures.value) c.insert_string.ensures.ok))

pub returns-in-B-clause-ok : goal.returns-in-B-clause-ok
returns-in-B-clause-ok g c =
    let old = stored_of c.args.col.now in
    let new = stored_of c.insert_string-in-B.new.col in
    let P : List ℕ → Type 0 = λ v. OnOk c.insert_string-in-B.result (HasStringsIn c.args.at c.args.count v old new) in
    rw c.in-B.is
    (on_ok_weaker c.insert_string-in-B.result
    (λ h. put_bytes (domain_of c.args.kind.now) c.args.rows c.args.at c.args.count c.in-B.bytes.bytes old new (rw c.in-B.is at c.requires.fits) c.requires.whole h)
    (subst P c.as_slice.ensures c.insert_string-in-B.ensures.ok))

pub returns-in_ok-table-in-V-clause-ok : goal.returns-in_ok-table-in-V-clause-ok
returns-in_ok-table-in-V-clause-ok g c =
    let old = stored_of c.args.col.now in
    let new = stored_of c.insert_table.new.col in
    rw c.in-V.is
    (on_ok_weaker c.insert_table.result
    (λ h. put_table (domain_of c.args.kind.now) c.args.rows c.args.at c.args.count c.in-V.inner c.in_ok-table-in-V.table old new (rw c.in-V.is at c.requires.fits) c.requires.whole c.in_ok-table-in-V.ensures h)
    c.insert_table.ensures.ok)
