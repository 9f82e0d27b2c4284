use Rattle.std.proofs.Common.{List, ℕ, length, take, drop, ◌-◌, ◌++◌, ◌∙◌, ap}
use Rattle.std.proofs.lemmas.Result.{err_from_is_err_and}
use Rattle.stream_codec.proofs.Loads.{loads_along, refused_along_for, rest_of}
use Rattle.stream_codec.proofs.feeding.load_along.Goals as goal

pub returns-in_err-count-clause-refused : goal.returns-in_err-count-clause-refused
returns-in_err-count-clause-refused c =
    let p = err_from_is_err_and c.from_residual.result c.from_residual.ensures.1 in
    rw (p.1, p.2) (refused_along_for c.args.progress.now c.args.piece.now _ c.requires.on_way c.in_err-count.ensures.refused)

pub returns-clause-taken : goal.returns-clause-taken
returns-clause-taken c =
    loads_along c.args.progress.now c.advance_along.new.progress c.args.piece.now c.push_slice.new.self.bytes c.in_ok-count.count c.requires.on_way c.in_ok-count.ensures.taken
    (c.in_ok-push_slice.ensures.ok ∙ ap (λ (l : List ℕ). l ++ take (length c.args.piece.now - c.in_ok-count.count) (drop c.in_ok-count.count c.args.piece.now)) c.requires.nothing
    ∙ rest_of c.args.piece.now c.in_ok-count.count)
