use Rattle.std.proofs.Common.{SFits, rules, subst, ◌∙◌, w64}
use Rattle.std.proofs.lemmas.Int.{to_z-of_z}
use Rattle.mk_value.specs.Data.{cell}
use Rattle.mk_value.specs.Tables.{domain_at}
use Rattle.relations.specs.Scanning.{IsLead}
use Rattle.mk_value.proofs.Cells.{cell_is_of}
use Rattle.relations.proofs.KeyCells.{number_read}
use Rattle.relations.proofs.Scans.{tested_high, tested_low}
use Rattle.relations.proofs.scanning.is_within_by.Goals as goal

pub returns-then-low-number-clause-value : goal.returns-then-low-number-clause-value
returns-then-low-number-clause-value g c =
    let schema = g.T.TableRead.schema c.args.table.now in
    let rows = g.T.TableRead.rows c.args.table.now in
    let high : SFits w64 c.in-Numbers.high = search rules in
    let low : SFits w64 c.in-Numbers.low = search rules in
    let number : SFits w64 c.number-number.result = search rules in
    tested_high c.args.criterion.now.low c.args.criterion.now.high (cell rows c.args.row c.args.col) (domain_at schema c.args.col) c.in-Numbers.low c.in-Numbers.high c.number-number.result _ _ _
    (subst (IsLead c.args.criterion.now) c.in-Numbers.is c.requires.lead) c.requires.low (cell_is_of rows schema c.args.row c.args.col c.size-size.ensures.whole c.requires.row_in c.requires.col_in)
    (c.number-number.ensures.value ∙ number_read rows c.args.row c.args.col c.requires.row_in)
    (to_z-of_z w64 c.in-Numbers.low low) (to_z-of_z w64 c.in-Numbers.high high) (to_z-of_z w64 c.number-number.result number) c.if-low-number.true

pub returns-else-low-number-clause-value : goal.returns-else-low-number-clause-value
returns-else-low-number-clause-value g c =
    let schema = g.T.TableRead.schema c.args.table.now in
    let rows = g.T.TableRead.rows c.args.table.now in
    let high : SFits w64 c.in-Numbers.high = search rules in
    let low : SFits w64 c.in-Numbers.low = search rules in
    let number : SFits w64 c.number-number.result = search rules in
    tested_low c.args.criterion.now.low c.args.criterion.now.high (cell rows c.args.row c.args.col) (domain_at schema c.args.col) c.in-Numbers.low c.in-Numbers.high c.number-number.result _ _ _
    (subst (IsLead c.args.criterion.now) c.in-Numbers.is c.requires.lead) c.requires.low (cell_is_of rows schema c.args.row c.args.col c.size-size.ensures.whole c.requires.row_in c.requires.col_in)
    (c.number-number.ensures.value ∙ number_read rows c.args.row c.args.col c.requires.row_in)
    (to_z-of_z w64 c.in-Numbers.low low) (to_z-of_z w64 c.in-Numbers.high high) (to_z-of_z w64 c.number-number.result number) c.if-low-number.false
