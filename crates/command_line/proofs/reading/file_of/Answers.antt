use Rattle.std.proofs.Common.{◌≡◌, ◌∙◌, codes, sym, true≢false}
use Rattle.std.proofs.lemmas.Option.{none-some, same_Some}
use Rattle.clap.proofs.SimpleLemmas.{is_nil}
use Rattle.clap.specs.Matches.{found_of}
use Rattle.command_line.proofs.Found.{none_found, text_found}
use Rattle.command_line.proofs.reading.file_of.Goals as goal

pub returns-in_err-file-clause-none : goal.returns-in_err-file-clause-none
returns-in_err-file-clause-none c = rw c.from_residual.ensures (λ file is.
    let none = none_found (found_of c.args.matches.now) (codes "file") c.get_str.result c.get_str.ensures c.in_err-file.was in
    none-some file (sym none ∙ is.given))

pub returns-then-is_empty-clause-none : goal.returns-then-is_empty-clause-none
returns-then-is_empty-clause-none c = λ file is.
    let found = text_found (found_of c.args.matches.now) (codes "file") c.get_str.result c.get_str.ensures c.in_ok-file.file c.in_ok-file.was in
    let same : file ≡ c.in_ok-file.file.now = same_Some file c.in_ok-file.file.now (sym is.given ∙ found) in
    is.named (same ∙ is_nil c.in_ok-file.file.now (sym c.is_empty.ensures ∙ c.if-is_empty.true))

pub returns-else-is_empty-clause-some : goal.returns-else-is_empty-clause-some
returns-else-is_empty-clause-some c = record {
  given = text_found (found_of c.args.matches.now) (codes "file") c.get_str.result c.get_str.ensures c.in_ok-file.file c.in_ok-file.was;
  named = λ empty. true≢false (sym (rw empty at c.is_empty.ensures) ∙ c.if-is_empty.false);
}
