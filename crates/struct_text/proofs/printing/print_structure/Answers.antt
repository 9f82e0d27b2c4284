use Rattle.std.proofs.Common.{ℕ, List, ◌++◌, subst}
use Rattle.std.proofs.lemmas.Result.{err_from_is_err_and}
use Rattle.mk_value.specs.Heading.{heading_of, relation}
use Rattle.struct_text.specs.Spelling.{spelled_domain}
use Rattle.struct_text.specs.Printing.{Appends}
use Rattle.struct_text.proofs.PrintParts.{Appends-after, Cut, cut_first}
use Rattle.struct_text.proofs.printing.print_structure.Goals as goal

pub returns-in_err-append-clause-appended : goal.returns-in_err-append-clause-appended
returns-in_err-append-clause-appended c =
    let p = err_from_is_err_and c.from_residual.result c.from_residual.ensures.1 in
    let inside = spelled_domain (relation (heading_of c.args.schema.now)) in
    let P : List ℕ → Type 0 = λ name. Cut c.args.out.now c.append.new.out (name ++ inside) in
    rw (p.1) (subst P c.as_str.ensures.value (cut_first inside c.in_err-append.ensures))

pub returns-clause-appended : goal.returns-clause-appended
returns-clause-appended c =
    let inside = spelled_domain (relation (heading_of c.args.schema.now)) in
    let P : List ℕ → Type 0 = λ name. Appends c.args.out.now c.print_brackets.new.out (name ++ inside) c.print_brackets.result in
    subst P c.as_str.ensures.value (Appends-after c.print_brackets.new.out inside c.print_brackets.result c.in_ok-append.ensures c.print_brackets.ensures)
