use Rattle.std.proofs.Common.{◌≡◌, ℕ, false, arith, List, [], map, Err, inr, refl, ap, sym, subst, ◌∙◌}
use Rattle.std.proofs.lemmas.Bool.Decides.{nat_tests}
use Rattle.std.specs.Prelude.{find, nat_lt}
use Rattle.mk_value.specs.Buffer.{Buffer}
use Rattle.mk_value.specs.Data.{Datum}
use Rattle.computing.specs.Computed.{computed_names}
use Rattle.derived.specs.Layers.{table_of}
use Rattle.questions.specs.Answers.{Answers}
use Rattle.questions.specs.Cursors.{row_in, rows_computed}
use Rattle.questions.specs.Kept.{sources}
use Rattle.questions.specs.declared.error.QuestionError.TheVariants.{Range}
use Rattle.questions.proofs.Found.{is_this}
use Rattle.questions.proofs.RowsUnder.{no_rows_found, rows_found}
use Rattle.questions.proofs.scope.Scope.row_computed.Goals as goal

row_of_none : (position : ℕ) → row_in [] position ≡ Err (Range 0)
row_of_none position = let none : nat_lt position 0 ≡ false = grind (arith, nat_tests) in rw none refl

pub returns-in-Ok : goal.returns-in-Ok
unfolding rows_computed
returns-in-Ok g c =
    let names = computed_names (sources c.args.self.now.names) (map g.V.Viewer.meaning c.args.self.now.viewers.now) c.args.self.now.computed.now in
    subst (λ (rows : List (List Datum)). Answers (λ (text : Buffer). text.bytes) (row_in rows c.args.position) c.row_within.result)
    (sym (rows_found (find (is_this c.args.name.now) names) (table_of c.in-Ok.table) c.in-Ok.ensures)) c.row_within.ensures

pub returns-in-Err-NoName : goal.returns-in-Err-NoName
unfolding rows_computed
returns-in-Err-NoName g c =
    let names = computed_names (sources c.args.self.now.names) (map g.V.Viewer.meaning c.args.self.now.viewers.now) c.args.self.now.computed.now in
    inr (ap (λ rows. row_in rows c.args.position)
    (no_rows_found (find (is_this c.args.name.now) names) c.in-Err-NoName.field-0 c.in-Err-NoName.field-0-is c.in-Err-NoName.ensures) ∙ row_of_none c.args.position)
