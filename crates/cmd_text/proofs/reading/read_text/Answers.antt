use Rattle.std.proofs.Common.{refl, sym, ◌∙◌}
use Rattle.std.proofs.lemmas.Result.{MatchResult-weaker}
use Rattle.cmd_text.proofs.Lines.{reads_tokens, refused_tokens}
use Rattle.cmd_text.proofs.Structures.{gives, other_line}
use Rattle.cmd_text.proofs.Words.{one_word_other, one_word_pieces}
use Rattle.cmd_text.proofs.reading.read_text.Goals as goal

pub returns-in-None-clause-reads : goal.returns-in-None-clause-reads
returns-in-None-clause-reads c =
    let other = other_line c.args.line.now (λ behind is. c.in-None.ensures.none refl behind (c.without_leading_spaces-rest.ensures.value ∙ is.begins) is.ends) in
    MatchResult-weaker c.read_tokens.result c.read_tokens.ensures.reads (λ command reads. reads_tokens c.args.line.now command c.utf8.line other reads) (λ error h. h)

pub returns-in-None-clause-refused : goal.returns-in-None-clause-refused
returns-in-None-clause-refused c =
    let other = other_line c.args.line.now (λ behind is. c.in-None.ensures.none refl behind (c.without_leading_spaces-rest.ensures.value ∙ is.begins) is.ends) in
    MatchResult-weaker c.read_tokens.result c.read_tokens.ensures.refused (λ command h. h) (λ error refused. refused_tokens c.args.line.now error c.utf8.line other refused)

pub returns-in-Some-clause-in_place : goal.returns-in-Some-clause-in_place
returns-in-Some-clause-in_place c =
    λ command one reads. absurd (one_word_other c.args.line.now command one reads
    (gives c.args.line.now c.in-Some.behind.now (record { begins = sym c.without_leading_spaces-rest.ensures.value ∙ c.in-Some.ensures.some.0; ends = c.in-Some.ensures.some.1 })))

pub returns-in-None-clause-in_place : goal.returns-in-None-clause-in_place
returns-in-None-clause-in_place c =
    λ command one reads. c.read_tokens.ensures.in_place command one (one_word_pieces c.args.line.now command one reads)
