use Rattle.std.proofs.Common.{List, ℕ, take-append-drop, subst}
use Rattle.std.proofs.lemmas.Result.{err_from_is_err_and}
use Rattle.std.specs.Result.{IfErr, OnOk}
use Rattle.stream_codec.specs.Feeding.{Loads}
use Rattle.stream_codec.specs.Fields.{IsRefusedFor}
use Rattle.stream_codec.specs.Loading.{came}
use Rattle.stream_codec.proofs.Loads.{in_two, parts_of, refused_first}
use Rattle.stream_codec.proofs.feeding.load.Goals as goal

pub returns-in_err-complete-clause-refused : goal.returns-in_err-complete-clause-refused
returns-in_err-complete-clause-refused c =
    let p = err_from_is_err_and c.from_residual-in_err-complete.result c.from_residual-in_err-complete.ensures.1 in
    rw (p.1, p.2) (refused_first c.args.progress.now c.args.waiting.now.bytes c.args.piece.now _ _ _ c.requires.under_way.on_way (take-append-drop c.missing-missing.result c.args.piece.now) c.in_err-complete.ensures.refused)

pub returns-clause-taken : goal.returns-clause-taken
returns-clause-taken c =
    let whole = in_two (came c.args.progress.now) c.args.waiting.now.bytes c.args.piece.now _ _ _ (parts_of c.args.piece.now c.missing-missing.result) c.in_ok-complete.ensures.spells in
    subst (λ (l : List ℕ). OnOk c.load_along-2.result (Loads l c.load_along-2.new.progress c.load_along-2.new.waiting.bytes)) whole c.load_along-2.ensures.taken

pub returns-clause-refused : goal.returns-clause-refused
returns-clause-refused c =
    let whole = in_two (came c.args.progress.now) c.args.waiting.now.bytes c.args.piece.now _ _ _ (parts_of c.args.piece.now c.missing-missing.result) c.in_ok-complete.ensures.spells in
    subst (λ (l : List ℕ). IfErr c.load_along-2.result (IsRefusedFor l)) whole c.load_along-2.ensures.refused
