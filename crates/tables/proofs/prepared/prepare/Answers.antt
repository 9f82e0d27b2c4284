use Rattle.std.proofs.Common.{◌≡◌, ◌∙◌, ℤ, ℕ, List, to_z, of_z, w32, w64, subst}
use Rattle.std.specs.Prelude.{IfOk}
use Rattle.std.proofs.lemmas.Int.{to_z-of_z}
use Rattle.std.proofs.lemmas.Result.{IfOk-weaker}
use Rattle.mk_value.specs.Kinds.{domain_of}
use Rattle.tables.specs.Prepared.{IsReadyForNumber, IsReadyForString}
use Rattle.tables.specs.Stored.{stored_of}
use Rattle.tables.proofs.ColumnWith.{integer_fits}
use Rattle.tables.proofs.Pushed.{ready_integer, ready_text, ready_bytes}
use Rattle.tables.proofs.prepared.prepare.Goals as goal

pub returns-in-I-clause-ok : goal.returns-in-I-clause-ok
returns-in-I-clause-ok c =
    let e = domain_of c.args.kind.now in
    let fits = rw c.in-I.is at c.requires.fits in
    let number : to_z w64 (of_z w64 c.from.result) ≡ c.in-I.number = to_z-of_z w64 c.from.result (record { sfits = c.from.type_inv }) ∙ c.from.ensures ∙ to_z-of_z w32 c.in-I.number (integer_fits e c.in-I.number fits) in
    let P : ℤ → Type 0 = λ z. IfOk c.prepare_number.result (IsReadyForNumber (stored_of c.args.col) z) in
    rw c.in-I.is
    (IfOk-weaker c.prepare_number.result _ _ (λ p h. ready_integer e c.args.rows c.in-I.number (stored_of c.args.col) p fits c.requires.whole h) (subst P number c.prepare_number.ensures.ok))

pub returns-in-S-clause-ok : goal.returns-in-S-clause-ok
returns-in-S-clause-ok c =
    let fits = rw c.in-S.is at c.requires.fits in
    let P : List ℕ → Type 0 = λ v. IfOk c.prepare_string.result (IsReadyForString (stored_of c.args.col) v) in
    rw c.in-S.is
    (IfOk-weaker c.prepare_string.result _ _ (λ p h. ready_text (domain_of c.args.kind.now) c.args.rows c.in-S.text.bytes (stored_of c.args.col) p fits c.requires.whole h)
    (subst P (c.as_bytes.ensures.value ∙ c.as_str.ensures.value) c.prepare_string.ensures.ok))

pub returns-in-B-clause-ok : goal.returns-in-B-clause-ok
returns-in-B-clause-ok c =
    let fits = rw c.in-B.is at c.requires.fits in
    let P : List ℕ → Type 0 = λ v. IfOk c.prepare_string-in-B.result (IsReadyForString (stored_of c.args.col) v) in
    rw c.in-B.is
    (IfOk-weaker c.prepare_string-in-B.result _ _ (λ p h. ready_bytes (domain_of c.args.kind.now) c.args.rows c.in-B.bytes.bytes (stored_of c.args.col) p fits c.requires.whole h)
    (subst P c.as_slice.ensures c.prepare_string-in-B.ensures.ok))
