-- Behind the spaces stands a token, or none, or nothing more.
use Rattle.std.proofs.Common.{◌+◌, ap, ◌∙◌}
use Rattle.std.proofs.lemmas.List.{take_rest}
use Rattle.std.specs.List.{prefix_len}
use Rattle.tokens.specs.Finding.{is_space}
use Rattle.tokens.specs.Meanings.{token_of}
use Rattle.tokens.proofs.Chains.{spaces_alone, piece_found, no_piece_found}
use Rattle.tokens.proofs.cutting.next_piece.Goals as goal

pub returns-then-at-bytes-clause-found : goal.returns-then-at-bytes-clause-found
returns-then-at-bytes-clause-found c =
    let run = c.space_len.ensures.run ∙ ap (prefix_len is_space) (take_rest c.args.bytes.now c.args.from) in
    spaces_alone c.args.bytes.now c.args.from c.space_len.result c.requires run c.if-at-bytes.true

pub returns-in_default-clause-fails : goal.returns-in_default-clause-fails
returns-in_default-clause-fails c =
    let run = c.space_len.ensures.run ∙ ap (prefix_len is_space) (take_rest c.args.bytes.now c.args.from) in
    let none = rw (c.in_default.is, take_rest c.args.bytes.now (c.args.from + c.space_len.result)) at c.token_at.ensures in
    no_piece_found c.args.bytes.now c.args.from c.space_len.result c.requires run c.if-at-bytes.false none

pub returns-clause-found : goal.returns-clause-found
returns-clause-found c =
    let run = c.space_len.ensures.run ∙ ap (prefix_len is_space) (take_rest c.args.bytes.now c.args.from) in
    let some = rw (c.in-Some.is, take_rest c.args.bytes.now (c.args.from + c.space_len.result)) at c.token_at.ensures in
    piece_found c.args.bytes.now c.args.from c.space_len.result c.requires run (token_of c.in-Some.token) c.in-Some.len some.0 some.1
