use Rattle.std.proofs.Common.{◌≡◌, ◌⊎◌, inr, subst, ◌∙◌}
use Rattle.std.proofs.lemmas.Result.{MatchResult-weaker}
use Rattle.cmd_text.specs.Lines.{IsRefusedAs}
use Rattle.cmd_text.specs.declared.error.CmdError.TheVariants.{Memory}
use Rattle.cmd_text.proofs.Lines.{refused_bytes}
use Rattle.cmd_text.proofs.reading.read_command.Goals as goal

pub returns-in-Err-clause-refused : goal.returns-in-Err-clause-refused
returns-in-Err-clause-refused c =
    inr (refused_bytes c.args.line.now c.valid_up_to.result c.in-Err.ensures.cases.0 (c.valid_up_to.ensures ∙ c.in-Err.ensures.valid_len))

pub returns-in-Ok-clause-refused : goal.returns-in-Ok-clause-refused
returns-in-Ok-clause-refused c =
    MatchResult-weaker c.read_text.result c.read_text.ensures.refused (λ command h. h)
    (λ error refused. subst (λ line. (error ≡ Memory) ⊎ IsRefusedAs line error) c.in-Ok.ensures.cases.0 refused)
